use Rattle.std.proofs.Common.{◌++◌, List, ap, arith, take, ℕ, ◌∙◌}
use Rattle.ssh_held.proofs.Written.{rest_then, string_put}
use Rattle.ssh_held.proofs.login_text.put_string.Goals as goal

pub returns-clause-front : goal.returns-clause-front
returns-clause-front c =
    string_put (take c.put-start.result c.put-start.new.out) (take c.args.at c.args.out.now) (take c.put.result c.put.new.out) c.args.text.now
    (c.put-start.ensures.front ∙ ap (λ (l : List ℕ). take c.args.at c.args.out.now ++ l) c.to_be_bytes.ensures) c.put.ensures.front

pub returns-clause-rest : goal.returns-clause-rest
returns-clause-rest c =
    rest_then c.put-start.result c.put.result c.args.out.now c.put-start.new.out c.put.new.out (omega (arith, c.put.ensures.end))
    c.put-start.ensures.rest c.put.ensures.rest
