-- Packets that the ends of a pair put out, with the padding that their fillers gave.
use Rattle.std.proofs.Common.{◌≡◌, ℕ, Bool, true, false, List, [], ◌∷◌, ◌++◌, append-nil, append_assoc, refl, ap, sym, ◌∙◌, subst, Ok, Err}
use Rattle.std.specs.Prelude.{IfErr, OnErr, Result}
use Rattle.std.proofs.lemmas.Bool.{false≢true}
use Rattle.ssh_model.specs.Protocol.Wire.Sealing.{Crypto}
use Rattle.ssh_model.specs.State.TransportLayer.Directions.{Direction}
use Rattle.ssh_transport_machine.specs.Padding.{PadsPacket, PadsTo, PadsTo.more, PadsTo.none, Sending}
use Rattle.ssh_transport_machine.specs.PaddingLaws.{pads_then}
use Rattle.ssh_transport_machine.specs.State.{State}
use Rattle.ssh_end_machine.specs.Ends.{EndValue, IsFault, sending_from, sending_to}
use Rattle.ssh_end_machine.specs.Asking.{Fails, OnAnswered}
use Rattle.ssh_end_machine.specs.declared.asking.outcome.AskStep.{AskStep}
use Rattle.ssh_end_machine.specs.declared.asking.outcome.Fault.{Fault}
use Rattle.ssh_end_machine.specs.declared.asking.outcome.Fault.TheVariants as fault
use Rattle.ssh_model.specs.declared.side.Side.{Side}
use Rattle.ssh_end.specs.TwoEnds.Recorded.{RecordsAsked, recorded_sent}
use Rattle.ssh_end.specs.TwoEnds.Padding.{PadsOn}
use Rattle.ssh_end.specs.declared.item.Done.{Done}

-- ---- payloads that were listed before

abbrev listed_after : {K F : Type 0} → List (List ℕ) → Sending K F → Sending K F
listed_after l at = record at { payloads = l ++ at.payloads }

module _ {K F : Type 0} (c : Crypto K) (gives : F → List ℕ → F → Type 0) where
  packet_after : (l : List (List ℕ)) (old new : Sending K F) → PadsPacket c gives old new → PadsPacket c gives (listed_after l old) (listed_after l new)
  packet_after l old new x = record {
    payload = x.payload;
    padding = x.padding;
    wire = x.wire;
    given = x.given;
    padded = x.padded;
    bytes = x.bytes;
    lists = ap (λ (p : List (List ℕ)). l ++ p) x.lists ∙ sym (append_assoc l old.payloads (x.payload ∷ []));
    continues = x.continues;
  }

  -- Whatever was listed before, the same packets are put out.
  pub pads_after : (l : List (List ℕ)) (old new : Sending K F) → PadsTo c gives old new → PadsTo c gives (listed_after l old) (listed_after l new)
  pads_after l old _ none = none
  pads_after l old _ (more between new x packet) = more (listed_after l between) (listed_after l new) (pads_after l old between x) (packet_after l between new packet)

-- a place, by its parts
place_is : {K F : Type 0} (at : Sending K F) (direction : Direction K) (filler : F) (bytes : List ℕ) → at.direction ≡ direction → at.filler ≡ filler → at.bytes ≡ bytes →
    at ≡ record { direction = direction; filler = filler; bytes = bytes; payloads = at.payloads ++ [] }
place_is at direction filler bytes d f b =
    ap (λ v. record at { direction = v }) d ∙ (ap (λ v. record at { direction = direction; filler = v }) f ∙ (ap (λ v. record at { direction = direction; filler = filler; bytes = v }) b
    ∙ ap (λ (l : List (List ℕ)). record { direction = direction; filler = filler; bytes = bytes; payloads = l }) (sym (append-nil at.payloads))))

-- An end that was not over before, and took no bytes, is over.
pub fallen_dead : {K : Type 0} (old new : State K) (why : Fault) → IsFault old why new → old.kept.dead ≡ false → new.kept.dead ≡ true
fallen_dead old new fault.Memory x alive = x.dead
fallen_dead old new fault.Dead x alive = absurd (false≢true (sym alive ∙ x.dead))
fallen_dead old new (fault.Ask why) x alive = absurd x

-- ---- one end

module _ {K R F : Type 0} (c : Crypto K) (gives : F → List ℕ → F → Type 0) (side : Side) where
  -- nothing was done
  pub stays_padded : (end : EndValue K R F) (log last : List Done) (out : List ℕ) → recorded_sent side last ≡ recorded_sent side log → PadsOn c gives side end log out end last out
  stays_padded end log last out same = record {
    to = sending_from end out;
    padded = none;
    bytes = refl;
    recorded = same ∙ sym (append-nil (recorded_sent side log));
    direction = λ alive. refl;
    filler = λ alive. refl;
    over = λ dead. dead;
    quiet = λ dead. refl;
    still = λ dead. same;
  }

  -- an end that was not over put this out
  pub puts_padded : (old : EndValue K R F) (log : List Done) (before : List ℕ) (new : EndValue K R F) (last : List Done) (after : List ℕ) → old.machine.kept.dead ≡ false → PadsTo c gives (sending_from old before) (sending_to new after)
      → recorded_sent side last ≡ recorded_sent side log ++ new.sent → PadsOn c gives side old log before new last after
  puts_padded old log before new last after alive x recorded = record {
    to = sending_to new after;
    padded = x;
    bytes = refl;
    recorded = recorded;
    direction = λ alive. refl;
    filler = λ alive. refl;
    over = λ dead. absurd (false≢true (sym alive ∙ dead));
    quiet = λ dead. absurd (false≢true (sym alive ∙ dead));
    still = λ dead. absurd (false≢true (sym alive ∙ dead));
  }

  -- an end that was not over is, and put out nothing
  pub falls_padded : (old : EndValue K R F) (log : List Done) (before : List ℕ) (new : EndValue K R F) (last : List Done) (after : List ℕ) → old.machine.kept.dead ≡ false → new.machine.kept.dead ≡ true → after ≡ before
      → recorded_sent side last ≡ recorded_sent side log ++ [] → PadsOn c gives side old log before new last after
  falls_padded old log before new last after alive fell same recorded = record {
    to = sending_from old before;
    padded = none;
    bytes = sym same;
    recorded = recorded;
    direction = λ alive. absurd (false≢true (sym alive ∙ fell));
    filler = λ alive. absurd (false≢true (sym alive ∙ fell));
    over = λ dead. fell;
    quiet = λ dead. same;
    still = λ dead. absurd (false≢true (sym alive ∙ dead));
  }

  -- An end that was not over did this on an ask, or refused it.
  pub asks_padded : (old : EndValue K R F) (log : List Done) (before : List ℕ) (new : EndValue K R F) (last : List Done) (after : List ℕ) (result : Result AskStep Fault) → old.machine.kept.dead ≡ false →
      OnAnswered result (PadsTo c gives (sending_from old before) (sending_to new after)) → IfErr result (λ fault. Fails old.machine fault new.machine) →
      OnErr result (after ≡ before) → OnErr result (new.sent ≡ []) → RecordsAsked side result new.sent log last → PadsOn c gives side old log before new last after
  asks_padded old log before new last after (Ok step) alive padded fails same unsent records = puts_padded old log before new last after alive padded records.own
  asks_padded old log before new last after (Err (fault.Ask why)) alive padded fails same unsent records =
      puts_padded old log before new last after alive padded (records.own ∙ ap (λ (l : List (List ℕ)). recorded_sent side log ++ l) (sym unsent))
  asks_padded old log before new last after (Err fault.Memory) alive padded fails same unsent records = falls_padded old log before new last after alive fails same records.own
  asks_padded old log before new last after (Err fault.Dead) alive padded fails same unsent records = absurd (false≢true (sym alive ∙ fails.dead))

  -- ---- one call after another

  module _ (old : EndValue K R F) (log : List Done) (before : List ℕ) (mid : EndValue K R F) (next : List Done) (between : List ℕ) (new : EndValue K R F) (last : List Done) (after : List ℕ)
      (x : PadsOn c gives side old log before mid next between) (y : PadsOn c gives side mid next between new last after) where
    by_mid : (dead : Bool) → mid.machine.kept.dead ≡ dead → PadsOn c gives side old log before new last after
    by_mid true dead = record {
      to = x.to;
      padded = x.padded;
      bytes = x.bytes ∙ sym (y.quiet dead);
      recorded = y.still dead ∙ x.recorded;
      direction = λ alive. absurd (false≢true (sym alive ∙ y.over dead));
      filler = λ alive. absurd (false≢true (sym alive ∙ y.over dead));
      over = λ was. y.over (x.over was);
      quiet = λ was. y.quiet dead ∙ x.quiet was;
      still = λ was. y.still dead ∙ x.still was;
    }
    by_mid false alive =
        let l : List (List ℕ) = x.to.payloads in
        let here = place_is x.to mid.machine.kept.sending mid.filler between (x.direction alive) (x.filler alive) x.bytes in
        record {
          to = listed_after l y.to;
          padded = pads_then (subst (λ at. PadsTo c gives (sending_from old before) at) here x.padded) (pads_after c gives l (sending_from mid between) y.to y.padded);
          bytes = y.bytes;
          recorded = y.recorded ∙ (ap (λ (n : List (List ℕ)). n ++ y.to.payloads) x.recorded ∙ append_assoc (recorded_sent side log) l y.to.payloads);
          direction = y.direction;
          filler = y.filler;
          over = λ was. y.over (x.over was);
          quiet = λ was. y.quiet (x.over was) ∙ x.quiet was;
          still = λ was. y.still (x.over was) ∙ x.still was;
        }

    pub padded_then : PadsOn c gives side old log before new last after
    padded_then = by_mid mid.machine.kept.dead refl
