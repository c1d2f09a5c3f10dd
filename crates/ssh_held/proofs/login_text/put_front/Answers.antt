use Rattle.std.proofs.Common.{[], arith, codes, take}
use Rattle.ssh_model.specs.Protocol.KeyExchange.Exchange.{string_of}
use Rattle.ssh_held.proofs.Written.{four_put, rest_then}
use Rattle.ssh_held.proofs.login_text.put_front.Goals as goal

pub returns-clause-front : goal.returns-clause-front
returns-clause-front c =
    four_put [] (string_of c.args.session.now) 50 (string_of c.args.user.now) (string_of (codes "ssh-connection"))
    (take c.put_string-at.result c.put_string-at.new.out) (take c.put-at.result c.put-at.new.out)
    (take c.put_string-at-2.result c.put_string-at-2.new.out) (take c.put_string.result c.put_string.new.out) c.put_string-at.ensures.front
    c.put-at.ensures.front c.put_string-at-2.ensures.front c.put_string.ensures.front

pub returns-clause-rest : goal.returns-clause-rest
returns-clause-rest c =
    let one = c.put_string-at.ensures.rest in
    let two = rest_then c.put_string-at.result c.put-at.result c.args.out.now c.put_string-at.new.out c.put-at.new.out
    (omega (arith, c.put-at.ensures.end)) one c.put-at.ensures.rest in
    let three = rest_then c.put-at.result c.put_string-at-2.result c.args.out.now c.put-at.new.out c.put_string-at-2.new.out
    (omega (arith, c.put_string-at-2.ensures.end)) two c.put_string-at-2.ensures.rest in
    rest_then c.put_string-at-2.result c.put_string.result c.args.out.now c.put_string-at-2.new.out c.put_string.new.out
    (omega (arith, c.put_string.ensures.end)) three c.put_string.ensures.rest
