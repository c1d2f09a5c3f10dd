use Rattle.std.proofs.Common.{◌+◌, ◌++◌, arith, false, refl, take, true}
use Rattle.ssh_held.specs.HeldHosts.{ClientHeldAt}
use Rattle.ssh_held.specs.declared.host_book.HostVerdict.{HostVerdict}
use Rattle.example_held.proofs.Meeting.{met_failed, met_nothing, met_on}
use Rattle.example_held.proofs.Turning.{failed_on, said_nothing, said_on, taken_on}
use Rattle.example_held.proofs.client.meet.Goals as goal

pub loop-at-init : goal.loop-at-init
loop-at-init g c = record {
  within = omega arith;
  said = said_nothing (λ old (verdict : HostVerdict) new. g.L.LookUp.answers old verdict.asked verdict.accepts new)
      c.args.client.now.end.role.exchange.host_trust.list.items c.args.client.now.end.role.exchange.host_trust.list.items c.args.look_up.now
      refl;
  going = λ p history at.
      met_nothing g.P.Sealing.Sealing.crypto g.P.Agreement.Agreement.does g.S.KnowsAlgorithms.knows g.S.HostTrust.judged g.U.UserSigner.signature_of p history
      c.trusted_by_verdict.ensures c.args.client.now.end at;
}

pub returns-in_err-met-clause-meets : goal.returns-in_err-met-clause-meets
returns-in_err-met-clause-meets g c = λ p history at.
    let x = c.loop-at.invariant.going p history at in
    met_failed g.P.Sealing.Sealing.crypto g.P.Agreement.Agreement.does g.S.KnowsAlgorithms.knows g.S.HostTrust.judged g.U.UserSigner.signature_of p history
    c.args.client.now.end c.meet_unit.new.client.end c.args.bytes.now c.from_residual.result c.from_residual.ensures.0
    (failed_on (ClientHeldAt g.P.Sealing.Sealing.crypto g.P.Agreement.Agreement.does g.S.KnowsAlgorithms.knows g.S.HostTrust.judged g.U.UserSigner.signature_of p
    c.meet_unit.new.client.end) history x.items (c.in_err-met.ensures.meets p (x.items ++ history) x.place))

pub returns-then-met-clause-said : goal.returns-then-met-clause-said
returns-then-met-clause-said g c =
    said_on (λ old (verdict : HostVerdict) new. g.L.LookUp.answers old verdict.asked verdict.accepts new)
    c.args.client.now.end.role.exchange.host_trust.list.items c.loop-at.client.end.role.exchange.host_trust.list.items
    c.meet_unit.new.client.end.role.exchange.host_trust.list.items c.args.look_up.now c.loop-at.look_up c.meet_unit.new.look_up
    c.loop-at.invariant.said
    c.in_ok-met.ensures.said

pub returns-then-met-clause-meets : goal.returns-then-met-clause-meets
returns-then-met-clause-meets g c = λ p history at.
    let x = c.loop-at.invariant.going p history at in
    let bytes = c.args.bytes.now in
    met_on g.P.Sealing.Sealing.crypto g.P.Agreement.Agreement.does g.S.KnowsAlgorithms.knows g.S.HostTrust.judged g.U.UserSigner.signature_of p history
    c.args.client.now.end c.loop-at.client.end c.meet_unit.new.client.end (take c.loop-at.at bytes)
    (take c.in_ok-met.met.used c.split_at.result.1.now) (take (c.loop-at.at + c.in_ok-met.met.used) bytes)
    c.in_ok-met.met.is_complete true (taken_on c.loop-at.at c.in_ok-met.met.used bytes c.split_at.result.1.now c.split_at.ensures.back)
    c.if-met.true x (c.in_ok-met.ensures.meets p (x.items ++ history) x.place)

pub loop-at-preserved : goal.loop-at-preserved
loop-at-preserved g c = record {
  within = omega (arith, c.in_ok-met.ensures.used, c.split_at.ensures.back_len);
  said = said_on (λ old (verdict : HostVerdict) new. g.L.LookUp.answers old verdict.asked verdict.accepts new)
      c.args.client.now.end.role.exchange.host_trust.list.items c.loop-at.client.end.role.exchange.host_trust.list.items
      c.meet_unit.new.client.end.role.exchange.host_trust.list.items c.args.look_up.now c.loop-at.look_up c.meet_unit.new.look_up
      c.loop-at.invariant.said c.in_ok-met.ensures.said;
  going = λ p history at.
      let x = c.loop-at.invariant.going p history at in
      let bytes = c.args.bytes.now in
      met_on g.P.Sealing.Sealing.crypto g.P.Agreement.Agreement.does g.S.KnowsAlgorithms.knows g.S.HostTrust.judged g.U.UserSigner.signature_of p history
      c.args.client.now.end c.loop-at.client.end c.meet_unit.new.client.end (take c.loop-at.at bytes)
      (take c.in_ok-met.met.used c.split_at.result.1.now) (take (c.loop-at.at + c.in_ok-met.met.used) bytes)
      c.in_ok-met.met.is_complete false (taken_on c.loop-at.at c.in_ok-met.met.used bytes c.split_at.result.1.now c.split_at.ensures.back)
      c.if-met.false x (c.in_ok-met.ensures.meets p (x.items ++ history) x.place);
}
