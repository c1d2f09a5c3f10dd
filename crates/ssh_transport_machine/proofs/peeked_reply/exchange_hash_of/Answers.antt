use Rattle.std.proofs.Common.{◌==◌, length, sym, ◌∙◌}
use Rattle.ssh_model.specs.State.TransportLayer.Kept.{shared_with}
use Rattle.ssh_transport_machine.proofs.Replies.{hashed, shared_if}
use Rattle.ssh_transport_machine.proofs.peeked_reply.exchange_hash_of.Goals as goal

pub returns-clause-hash : goal.returns-clause-hash
returns-clause-hash g c =
    let agreement = g.A.Agreement.does c.args.agreement.now in
    let s = c.args.machine.now.kept in
    let shares = shared_if (length c.args.point.now == 32) (shared_with agreement s.underway.secret c.args.point.now) c.in-Some.shared
    (sym c.in-Some.is ∙ c.shared.ensures) in
    hashed agreement s c.args.host_key.now c.args.point.now c.in-Some.shared c.own_point-own.result c.copied-server.result c.hash.result
    c.requires.side shares c.own_point-own.ensures c.has_32_bytes.ensures c.copied-server.ensures c.hash.ensures
