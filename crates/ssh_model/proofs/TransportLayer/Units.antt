-- The units of the stream of an end, by what its transport keeps.
use Rattle.std.proofs.Common.{◌≡◌, ℕ, ◌^◌, ◌<◌, List, ap, sym, ◌∙◌, subst, true, false, Option}
use Rattle.ssh_model.specs.declared.side.Side.{Side}
use Rattle.ssh_model.specs.Protocol.Wire.Sealing.{Crypto}
use Rattle.ssh_model.specs.Protocol.Wire.Line.{LineUnit}
use Rattle.ssh_model.specs.Protocol.Wire.Outcome.{Outcome}
use Rattle.ssh_model.specs.Protocol.Wire.Unit.{IsUnit, PacketUnit, Stage}
use Rattle.ssh_model.specs.Protocol.Wire.Unit as unit
use Rattle.ssh_model.specs.Protocol.KeyExchange.Exchanges.{taking_key, taking_number}
use Rattle.ssh_model.specs.Protocol.Sessions.Parties.{Parties}
use Rattle.ssh_model.specs.Protocol.Sessions.Items.{Item, took}
use Rattle.ssh_model.specs.Protocol.Sessions.Epochs.{count, epoch}
use Rattle.ssh_model.specs.Protocol.Sessions.Phases.{is_client, has_line, other_lines}
use Rattle.ssh_model.specs.Protocol.Sessions.Turns.{stage, stage_after}
use Rattle.ssh_model.specs.State.TransportLayer.Kept.{Transport}
use Rattle.ssh_model.specs.State.TransportLayer.Summary.{SumsUp}
use Rattle.ssh_model.proofs.TransportLayer.Rows.{taking_number_is}
use Rattle.ssh_model.proofs.TransportLayer.Views.{key_same}

-- where fewer than 2^32 were taken the number is that of the next packet, and else none is asked for
number_by : {K : Type 0} (c : Crypto K) (key : Option K) (one other n : ℕ) (bytes : List ℕ) (outcome : Outcome) → (n < 2 ^ 32 → one ≡ other) → PacketUnit c key one n bytes outcome → PacketUnit c key other n bytes outcome
number_by c key one other n bytes outcome same (unit.PacketUnit.opens payload has are wire) = let e = same has.0 in subst (λ (m : ℕ). PacketUnit c key m n bytes outcome) e (unit.PacketUnit.opens payload has are wire)
number_by c key one other n bytes outcome same (unit.PacketUnit.bad_length bad) = unit.PacketUnit.bad_length bad
number_by c key one other n bytes outcome same (unit.PacketUnit.spent size all four has) = unit.PacketUnit.spent size all four has
number_by c key one other n bytes outcome same (unit.PacketUnit.bad_tag has are bad) = let e = same has.0 in subst (λ (m : ℕ). PacketUnit c key m n bytes outcome) e (unit.PacketUnit.bad_tag has are bad)
number_by c key one other n bytes outcome same (unit.PacketUnit.bad_padding has are bad) = let e = same has.0 in subst (λ (m : ℕ). PacketUnit c key m n bytes outcome) e (unit.PacketUnit.bad_padding has are bad)

module _ {K : Type 0} (p : Parties K) (side : Side) (h : List Item) (s : Transport K) (sums : SumsUp p side h s) (alive : s.dead ≡ false) where
  pub packets_same : s.lines.found ≡ true → (bytes : List ℕ) (outcome : Outcome) → PacketUnit p.crypto s.taking.key s.taking.number s.taking.count bytes outcome → IsUnit p.crypto (stage p side h) bytes outcome
  packets_same found bytes outcome x =
      let a = sums.live alive in
      let key : s.taking.key ≡ taking_key p side h = a.keys.taking_is ∙ sym (key_same p side _ (epoch (took h)) h) in
      let y = number_by p.crypto s.taking.key s.taking.number (taking_number side h) s.taking.count bytes outcome (taking_number_is p side h s a) x in
      let z : PacketUnit p.crypto (taking_key p side h) (taking_number side h) (count (took h)) bytes outcome = rw (key, a.taking.count_is) at y in
      subst (λ (st : Stage K). IsUnit p.crypto st bytes outcome) (sym (ap (stage_after p side h) (sym a.lines.found_is ∙ found))) z

  -- and back: a packet of the session is one by what the transport keeps
  pub packets_back : s.lines.found ≡ true → (bytes : List ℕ) (outcome : Outcome) → IsUnit p.crypto (stage p side h) bytes outcome → PacketUnit p.crypto s.taking.key s.taking.number s.taking.count bytes outcome
  packets_back found bytes outcome x =
      let a = sums.live alive in
      let key : s.taking.key ≡ taking_key p side h = a.keys.taking_is ∙ sym (key_same p side _ (epoch (took h)) h) in
      let z : PacketUnit p.crypto (taking_key p side h) (taking_number side h) (count (took h)) bytes outcome =
      subst (λ (st : Stage K). IsUnit p.crypto st bytes outcome) (ap (stage_after p side h) (sym a.lines.found_is ∙ found)) x in
      let y : PacketUnit p.crypto s.taking.key (taking_number side h) s.taking.count bytes outcome = rw (← key, ← a.taking.count_is) at z in
      number_by p.crypto s.taking.key (taking_number side h) s.taking.number s.taking.count bytes outcome (λ left. sym (taking_number_is p side h s a left)) y

  pub lines_same : s.lines.found ≡ false → (bytes : List ℕ) (outcome : Outcome) → LineUnit (is_client s.side) s.lines.others bytes outcome → IsUnit p.crypto (stage p side h) bytes outcome
  lines_same found bytes outcome x =
      let a = sums.live alive in
      let none : has_line h ≡ false = sym a.lines.found_is ∙ found in
      let z : LineUnit (is_client side) (other_lines h) bytes outcome = rw (a.side_is, a.lines.others_are none) at x in
      subst (λ (st : Stage K). IsUnit p.crypto st bytes outcome) (sym (ap (stage_after p side h) none)) z
