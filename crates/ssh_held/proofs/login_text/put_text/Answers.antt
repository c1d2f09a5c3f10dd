use Rattle.std.proofs.Common.{arith}
use Rattle.ssh_held.proofs.Written.{rest_then}
use Rattle.ssh_held.proofs.login_text.put_text.Goals as goal

pub returns-clause-rest : goal.returns-clause-rest
returns-clause-rest c =
    rest_then c.put_front-at.result c.put_back.result c.args.out.now c.put_front-at.new.out c.put_back.new.out
    (omega (arith, c.put_back.ensures.end)) c.put_front-at.ensures.rest c.put_back.ensures.rest
