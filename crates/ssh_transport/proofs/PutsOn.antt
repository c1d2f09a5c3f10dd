-- A payload that a transport sends for the layers above is put out under the key and the number of its place in a history.
use Rattle.std.proofs.Common.{◌≡◌, ℕ, zero, suc, ◌%◌, ◌^◌, ◌<◌, ◌++◌, ◌∷◌, List, length, refl, ap, sym, ◌∙◌, subst, arith, Bool, true, false, ◌&&◌, Option}
use Rattle.ssh_model.specs.declared.refusal.Refusal.{Refusal}
use Rattle.ssh_model.specs.declared.side.Side.{Side}
use Rattle.ssh_model.specs.Protocol.Side.{peer}
use Rattle.ssh_model.specs.Protocol.Wire.Message.{Msg}
use Rattle.ssh_model.specs.Protocol.Wire.Sealing.{IsSealed}
use Rattle.ssh_model.specs.Protocol.KeyExchange.Exchanges.{choices, exchanges, first_taken, has_marker, is_strict, key_in, sending_key, sending_number}
use Rattle.ssh_model.specs.Protocol.Sessions.Epochs.{count, epoch, wire_number}
use Rattle.ssh_model.specs.Protocol.Sessions.Events.{PutsOut}
use Rattle.ssh_model.specs.Protocol.Sessions.Items.{Item, Item.Refused, Item.Sent, Payload, sent}
use Rattle.ssh_model.specs.Protocol.Sessions.Parties.{Parties, marker_of}
use Rattle.ssh_model.specs.State.TransportLayer.Directions.{Direction, SumsUp}
use Rattle.ssh_model.specs.State.TransportLayer.Kept.{Transport}
use Rattle.ssh_model.specs.State.TransportLayer.Summary.{Live, bit}
use Rattle.ssh_model.specs.State.TransportLayer.View.{key_from, view}

small : (n : ℕ) → n < 2 ^ 32 → n % 2 ^ 32 ≡ n
small n l = omega (arith, l)

again : (n : ℕ) → n % 2 ^ 32 ≡ n % 2 ^ 32 % 2 ^ 32
again n = omega arith

number_by : {K : Type 0} (strict : Bool) (l : List Payload) (d : Direction K) → SumsUp strict l d → d.count < 2 ^ 32 → d.number ≡ wire_number strict l
number_by true l d s few = s.number_is ∙ small (count l) (omega (arith, s.count_is, few))
number_by false l d s few = s.number_is ∙ sym (again (length l))

key_by : {K : Type 0} (p : Parties K) (side from : Side) (e : ℕ) (h : List Item) → key_in p side from e h ≡ key_from p.crypto from e (exchanges p side h) (choices side h)
key_by p side from zero h = refl
key_by p side from (suc e) h = refl

-- The direction is the one in which an end of this history sends next.
pub record SendsNext {K : Type 0} (p : Parties K) (side : Side) (h : List Item) (d : Direction K) : Type 0 where
  pub key_is : d.key ≡ key_from p.crypto side (epoch (sent h)) (exchanges p side h) (choices side h)
  pub sums : SumsUp (is_strict side h) (sent h) d

module _ {K : Type 0} (p : Parties K) (side : Side) (h : List Item) where
  -- so it does that refused its peer
  pub next_refused : (why : Refusal) (payload : Option (List ℕ)) (d : Direction K) → SendsNext p side h d → SendsNext p side (Refused why payload ∷ h) d
  next_refused why payload d x = record { key_is = x.key_is; sums = x.sums }

  pub puts_on : (d : Direction K) → SendsNext p side h d → (channel : Option ℕ) (message : Msg) (payload wire : List ℕ) → d.count < 2 ^ 32 → IsSealed p.crypto d.key d.number payload wire → (bytes : List ℕ) → PutsOut p side h bytes → PutsOut p side (Sent channel message payload ∷ h) (bytes ++ wire)
  puts_on d x channel message payload wire few sealed bytes before =
      let number : d.number ≡ sending_number side h = number_by (is_strict side h) (sent h) d x.sums few in
      let key : d.key ≡ sending_key p side h = x.key_is ∙ sym (key_by p side side (epoch (sent h)) h) in
      PutsOut.packet channel message payload wire (rw (key, number) at sealed) before

  module _ (s : Transport K) (live : Live p side (view p side h) s) where
    strict_is : s.strict ≡ is_strict side h
    strict_is = live.firsts.strict_is ∙ ap (λ (kex : List (List ℕ)). has_marker (marker_of side) kex && has_marker (marker_of (peer side)) (first_taken h).kex) (sym live.firsts.own_is)

    pub sends_next : SendsNext p side h s.sending
    sends_next = record { key_is = live.keys.sending_is; sums = subst (λ (t : Bool). SumsUp t (sent h) s.sending) strict_is live.sending }

    -- An end that is not blocked has sent NEWKEYS.
    keyed_by : (b : Bool) → s.blocked ≡ b → (b ≡ true → 0 < s.sending.epoch) → 0 < epoch (sent h)
    keyed_by true e after = let x : 0 < s.sending.epoch = after refl in omega (arith, x, live.sending.epoch_is)
    keyed_by false e after =
        let none : bit (view p side h).blocked ≡ 0 = ap bit (sym live.blocked_is ∙ e) in
        omega (arith, live.counts.own_count, live.counts.opened, none)

    pub keyed : (s.blocked ≡ true → 0 < s.sending.epoch) → 0 < epoch (sent h)
    keyed after = keyed_by s.blocked refl after
