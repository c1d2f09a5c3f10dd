use Rattle.std.proofs.Common.{arith}
use Rattle.ssh_held.proofs.Written.{rest_then}
use Rattle.ssh_held.proofs.login_text.put_back.Goals as goal

pub returns-clause-rest : goal.returns-clause-rest
returns-clause-rest c =
    let one = c.put_string-at.ensures.rest in
    let two = rest_then c.put_string-at.result c.put-at.result c.args.out.now c.put_string-at.new.out c.put-at.new.out
    (omega (arith, c.put-at.ensures.end)) one c.put-at.ensures.rest in
    let three = rest_then c.put-at.result c.put_string-at-2.result c.args.out.now c.put-at.new.out c.put_string-at-2.new.out
    (omega (arith, c.put_string-at-2.ensures.end)) two c.put_string-at-2.ensures.rest in
    rest_then c.put_string-at-2.result c.put_string.result c.args.out.now c.put_string-at-2.new.out c.put_string.new.out
    (omega (arith, c.put_string.ensures.end)) three c.put_string.ensures.rest
