use Rattle.std.proofs.Common.{List, ℕ, [], ◌∷◌, map, take_all, ap, ◌∙◌, arith, subst}
use Rattle.ssh_model.specs.Protocol.Wire.Message.{Msg}
use Rattle.ssh_model.specs.Protocol.Sessions.Items.{Item}
use Rattle.ssh_end_machine.specs.Turn.{channels_in}
use Rattle.ssh_end.specs.TwoEnds.Recording.{Adds}
use Rattle.ssh_end.specs.TwoEnds.Recorded.{RecordsSent}
use Rattle.ssh_end.proofs.TwoEnds.Recorded.{records_next, records_none}
use Rattle.ssh_end.proofs.TwoEnds.Recording.{sent_all, sent_next, sent_none}
use Rattle.ssh_end.proofs.recording.record_sent.Goals as goal

pub loop-index-init : goal.loop-index-init
loop-index-init c = record { adds = λ same. sent_none c.args.side c.args.log.now.items; sent = records_none c.args.side c.args.log.now.items }

pub loop-index-preserved : goal.loop-index-preserved
loop-index-preserved c = record {
  adds = sent_next c.args.side (λ v. v.items) c.payloads-payload-items.result.now (channels_in c.args.sent.now) c.loop-index.index c.payload-item.result c.channel.result c.args.log.now.items c.loop-index.log.items c.record_payload.new.log.items
      c.payload-item.is c.channel.ensures c.loop-index-test.true c.loop-index.invariant.adds
      (subst (λ (b : List ℕ). (message : Msg) → Adds c.args.side (Item.Sent c.channel.result message b ∷ []) c.loop-index.log.items c.record_payload.new.log.items) c.as_slice.ensures.value c.in_ok-record_payload.ensures.records);
  sent = records_next c.args.side (λ v. v.items) c.payloads-payload-items.result.now c.loop-index.index c.payload-item.result c.args.log.now.items c.loop-index.log.items c.record_payload.new.log.items c.payload-item.is c.loop-index-test.true c.loop-index.invariant.sent
      (subst (λ (b : List ℕ). RecordsSent c.args.side (b ∷ []) c.loop-index.log.items c.record_payload.new.log.items) c.as_slice.ensures.value c.in_ok-record_payload.ensures.sent);
}

pub returns-clause-records : goal.returns-clause-records
returns-clause-records c =
    sent_all c.args.side (λ v. v.items) c.payloads-payload-items.result.now (channels_in c.args.sent.now) _ c.loop-index.index c.args.log.now.items c.loop-index.log.items
    c.payloads-payload-items.ensures (omega (arith, c.loop-index-test.false)) c.loop-index.invariant.adds

pub returns-clause-sent : goal.returns-clause-sent
returns-clause-sent c =
    subst (λ (l : List (List ℕ)). RecordsSent c.args.side l c.args.log.now.items c.loop-index.log.items)
    (ap (map (λ v. v.items)) (take_all c.loop-index.index c.payloads-payload-items.result.now (omega (arith, c.loop-index-test.false))) ∙ c.payloads-payload-items.ensures) c.loop-index.invariant.sent
