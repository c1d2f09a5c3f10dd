-- What is put out by what a transport keeps is what a session puts out.
use Rattle.std.proofs.Common.{◌≡◌, ℕ, ◌^◌, ◌<◌, ◌≤◌, List, [], ◌∷◌, ◌++◌, length, refl, ap, sym, ◌∙◌, subst, arith, Bool, true, ◌&&◌, None, Option, append-nil, append_assoc}
use Rattle.ssh_model.specs.declared.side.Side.{Side}
use Rattle.ssh_model.specs.Protocol.Side.{peer}
use Rattle.ssh_model.specs.Protocol.Wire.Message.{Msg, Msg.KexInit, Msg.NewKeys, Proposal}
use Rattle.ssh_model.specs.Protocol.Wire.Sealing.{IsSealed}
use Rattle.ssh_model.specs.Protocol.KeyExchange.Exchanges.{Offer, no_offer, offers, exchanges, choices, first_sent, first_taken, has_marker, is_strict, sending_key, sending_number}
use Rattle.ssh_model.specs.Protocol.Sessions.Parties.{Parties, marker_of}
use Rattle.ssh_model.specs.Protocol.Sessions.Items.{Item, Item.Sent, Item.Took, Payload, Payload.OtherOf, Encoded, Encoded.EncodedBy, sent, messages_sent}
use Rattle.ssh_model.specs.Protocol.Sessions.Epochs.{epoch}
use Rattle.ssh_model.specs.Protocol.Sessions.Events.{PutsOut, PutsOut.packet as put_packet}
use Rattle.ssh_model.specs.Protocol.Sessions.Phases.{phase}
use Rattle.ssh_model.specs.Protocol.Sessions.Turns.{IsEncoded}
use Rattle.ssh_model.specs.State.TransportLayer.Directions.{Direction, SumsUp, counted}
use Rattle.ssh_model.specs.State.TransportLayer.Kept.{Transport, is_between}
use Rattle.ssh_model.specs.State.TransportLayer.Summary.{Live, items_sent}
use Rattle.ssh_model.specs.State.TransportLayer.Turns.{PutsPackets, PutOut, counted_by}
use Rattle.ssh_model.specs.State.TransportLayer.Turns as turns
use Rattle.ssh_model.specs.State.TransportLayer.View.{view, key_from}
use Rattle.ssh_model.proofs.TransportLayer.Kexinits as kexinits
use Rattle.ssh_model.proofs.TransportLayer.Numbers.{strict_same}
use Rattle.ssh_model.proofs.TransportLayer.Rows.{number_by}
use Rattle.ssh_model.proofs.TransportLayer.Steps.{other_summed}
use Rattle.ssh_model.proofs.TransportLayer.Underway.{nth_old}
use Rattle.ssh_model.proofs.TransportLayer.Views.{key_same}

-- The direction is the one in which an end of this history sends next.
pub record Stands {K : Type 0} (p : Parties K) (side : Side) (g : List Item) (d : Direction K) : Type 0 where
  pub key_is : d.key ≡ sending_key p side g
  pub sums : SumsUp (is_strict side g) (sent g) d

-- messages under whose sending no epoch begins
abbrev pub IsOther : Msg → Type 0
IsOther NewKeys = ⊥
IsOther _ = Unit {0}

-- a message that is no KEXINIT
abbrev pub IsNoOffer : Msg → Type 0
IsNoOffer (KexInit theirs) = ⊥
IsNoOffer _ = Unit {0}

abbrev pub AreOther : List Encoded → Type 0
AreOther [] = Unit {0}
AreOther (EncodedBy m b ∷ l) = IsOther m × AreOther l

-- what has been put out by then
pub record Out {K : Type 0} (p : Parties K) (side : Side) (g : List Item) (d : Direction K) (l : List Encoded) (more : List ℕ) : Type 0 where
  pub stands : Stands p side (items_sent l ++ g) (counted_by l d)
  pub opened : 1 ≤ length (offers (messages_sent (items_sent l ++ g)))
  pub out : PutOut p side g (items_sent l) more

module _ {K : Type 0} (p : Parties K) (side : Side) where
  key_by : (e : ℕ) (g h : List Item) → epoch (sent g) ≡ epoch (sent h) → exchanges p side g ≡ exchanges p side h → choices side g ≡ choices side h → sending_key p side g ≡ sending_key p side h
  key_by e g h n x c = key_same p side side (epoch (sent g)) g ∙ ((λ i. key_from p.crypto side (n i) (x i) (c i)) ∙ sym (key_same p side side (epoch (sent h)) h))

  pub stands_live : (h : List Item) (s : Transport K) → Live p side (view p side h) s → Stands p side h s.sending
  stands_live h s a = record {
    key_is = a.keys.sending_is ∙ sym (key_same p side side (epoch (sent h)) h);
    sums = subst (λ (t : Bool). SumsUp t (sent h) s.sending) (strict_same p side h s a) a.sending;
  }

  pub stands_by : (g h : List Item) (d : Direction K) → sent g ≡ sent h → exchanges p side g ≡ exchanges p side h → choices side g ≡ choices side h → is_strict side g ≡ is_strict side h → Stands p side h d → Stands p side g d
  stands_by g h d l x c t s = record {
    key_is = s.key_is ∙ sym (key_by 0 g h (ap epoch l) x c);
    sums = subst (λ (t : Bool). SumsUp t (sent g) d) (sym t) (subst (λ (k : List Payload). SumsUp (is_strict side h) k d) (sym l) s.sums);
  }

  pub stands_told : (g : List Item) (i : Item) (d : Direction K) → sent (i ∷ g) ≡ sent g → exchanges p side (i ∷ g) ≡ exchanges p side g → choices side (i ∷ g) ≡ choices side g → is_strict side (i ∷ g) ≡ is_strict side g → Stands p side g d → Stands p side (i ∷ g) d
  stands_told g i d l x c t s = stands_by (i ∷ g) g d l x c t s

  pub stands_taken : (g : List Item) (c : Option ℕ) (m : Msg) (b : List ℕ) (d : Direction K) → IsNoOffer m → Stands p side g d → Stands p side (Took c m b ∷ g) d
  stands_taken g c (KexInit theirs) b d n s = elim n [ ]
  stands_taken g c m b d n s = record { key_is = s.key_is ∙ key_by 0 g (Took c m b ∷ g) refl refl refl; sums = s.sums }

  -- the peer's KEXINIT was taken
  pub stands_offer : (h : List Item) (s : Transport K) (a : Live p side (view p side h) s) (c : Option ℕ) (theirs : Proposal) (payload : List ℕ) → is_between (phase p side h) ≡ true →
      Stands p side (Took c (KexInit theirs) payload ∷ h) s.sending
  stands_offer h s a c theirs payload between = record {
    key_is = (stands_live h s a).key_is ∙ key_by 0 h (Took c (KexInit theirs) payload ∷ h) refl refl refl;
    sums = subst (λ (kex : List (List ℕ)). SumsUp (has_marker (marker_of side) kex && has_marker (marker_of (peer side)) (first_taken (Took c (KexInit theirs) payload ∷ h)).kex) (sent h) s.sending)
        (sym a.firsts.own_is) (kexinits.sending_after p side (view p side h) s a theirs payload between);
  }

  pub stands_sent : (g : List Item) (c : Option ℕ) (m : Msg) (b : List ℕ) (d : Direction K) → IsOther m → 1 ≤ length (offers (messages_sent g)) → Stands p side g d → Stands p side (Sent c m b ∷ g) (counted d)
  stands_sent g c NewKeys b d n o s = elim n [ ]
  stands_sent g c (KexInit own) b d n o s =
      let first : first_sent (Sent c (KexInit own) b ∷ g) ≡ first_sent g = ap (λ (x : Offer). x.proposal) (nth_old no_offer 0 (record { proposal = own; payload = b }) (offers (messages_sent g)) o) in
      record {
        key_is = s.key_is ∙ key_by 0 g (Sent c (KexInit own) b ∷ g) refl refl refl;
        sums = subst (λ (t : Bool). SumsUp t (OtherOf b ∷ sent g) (counted d)) (ap (λ (x : Proposal). has_marker (marker_of side) x.kex && has_marker (marker_of (peer side)) (first_taken g).kex) (sym first))
            (other_summed (is_strict side g) (sent g) d b s.sums);
      }
  stands_sent g c m b d n o s = record { key_is = s.key_is ∙ key_by 0 g (Sent c m b ∷ g) refl refl refl; sums = other_summed (is_strict side g) (sent g) d b s.sums }

  pub opened_sent : (g : List Item) (c : Option ℕ) (m : Msg) (b : List ℕ) → 1 ≤ length (offers (messages_sent g)) → 1 ≤ length (offers (messages_sent (Sent c m b ∷ g)))
  opened_sent g c (KexInit own) b o = omega (arith, o)
  opened_sent g c m b o = o

  pub packet_out : (g : List Item) (d : Direction K) (c : Option ℕ) (m : Msg) (payload wire bytes : List ℕ) → Stands p side g d → d.count < 2 ^ 32 → IsSealed p.crypto d.key d.number payload wire → PutsOut p side g bytes →
      PutsOut p side (Sent c m payload ∷ g) (bytes ++ wire)
  packet_out g d c m payload wire bytes s few sealed before =
      let number : d.number ≡ sending_number side g = number_by (is_strict side g) (sent g) d s.sums few in
      put_packet c m payload wire (rw (s.key_is, number) at sealed) before

  -- ---- packets one after the other

  pub last_out : (g : List Item) (d : Direction K) (rest : List Encoded) (before : List ℕ) (m : Msg) (payload wire : List ℕ) → Stands p side (items_sent rest ++ g) (counted_by rest d) → (counted_by rest d).count < 2 ^ 32 →
      IsSealed p.crypto (counted_by rest d).key (counted_by rest d).number payload wire → IsEncoded m payload → PutOut p side g (items_sent rest) before → PutOut p side g (Sent None m payload ∷ items_sent rest) (before ++ wire)
  last_out g d rest before m payload wire s few sealed encoded out = record {
    encoded = (encoded, out.encoded);
    numbered = (omega (arith, s.sums.count_is, few), out.numbered);
    puts = λ bytes x. subst (λ (t : List ℕ). PutsOut p side (Sent None m payload ∷ items_sent rest ++ g) t) (append_assoc bytes before wire)
        (packet_out (items_sent rest ++ g) (counted_by rest d) None m payload wire (bytes ++ before) s few sealed (out.puts bytes x));
  }

  pub packets_out : (g : List Item) (d : Direction K) → Stands p side g d → 1 ≤ length (offers (messages_sent g)) → (l : List Encoded) (more : List ℕ) → AreOther l → PutsPackets p.crypto d l more → Out p side g d l more
  packets_out g d s o l more n turns.PutsPackets.nothing = record {
    stands = s;
    opened = o;
    out = record { encoded = tt; numbered = tt; puts = λ bytes x. subst (λ (t : List ℕ). PutsOut p side g t) (sym (append-nil bytes)) x };
  }
  packets_out g d s o l more n (turns.PutsPackets.packet {l = rest} {bytes = before} m payload wire x encoded few sealed) =
      let r = packets_out g d s o rest before n.1 x in
      record {
        stands = stands_sent (items_sent rest ++ g) None m payload (counted_by rest d) n.0 r.opened r.stands;
        opened = opened_sent (items_sent rest ++ g) None m payload r.opened;
        out = last_out g d rest before m payload wire r.stands few sealed encoded r.out;
      }
