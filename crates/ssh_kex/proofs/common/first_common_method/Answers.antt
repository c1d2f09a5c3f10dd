use Rattle.ssh_model.specs.Protocol.KeyExchange.Choice.{methods}
use Rattle.ssh_types.specs.Values.{name_text, names, names_left}
use Rattle.ssh_kex.proofs.Commons.{found_method, goes_on_methods, has_common}
use Rattle.ssh_kex.proofs.common.first_common_method.Goals as goal

pub returns-then-has_method-clause-found : goal.returns-then-has_method-clause-found
returns-then-has_method-clause-found c =
    found_method (names c.args.client.now) (names_left c.loop-name.name-iterator) (names c.args.server.now) (names_left c.next.new.self) (name_text c.in-Some.name)
    c.loop-name.invariant c.in-Some.ensures.steps (c.has_method.ensures.0 c.if-has_method.true)

pub returns-then-has_method-clause-common : goal.returns-then-has_method-clause-common
returns-then-has_method-clause-common c =
    has_common (methods (names c.args.client.now)) (methods (names c.args.server.now)) (name_text c.in-Some.name)
    (found_method (names c.args.client.now) (names_left c.loop-name.name-iterator) (names c.args.server.now) (names_left c.next.new.self) (name_text c.in-Some.name)
    c.loop-name.invariant c.in-Some.ensures.steps (c.has_method.ensures.0 c.if-has_method.true))

pub loop-name-preserved : goal.loop-name-preserved
loop-name-preserved c =
    goes_on_methods (names c.args.client.now) (names_left c.loop-name.name-iterator) (names c.args.server.now) (names_left c.next.new.self) (name_text c.in-Some.name) c.has_method.result
    c.loop-name.invariant c.in-Some.ensures.steps c.has_method.ensures c.if-has_method.false
