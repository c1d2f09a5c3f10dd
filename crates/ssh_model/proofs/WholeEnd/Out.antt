-- What the layers above send is put out as in a session.
use Rattle.std.proofs.Common.{◌≡◌, ℕ, suc, ◌+◌, ◌^◌, ◌≤◌, List, [], ◌∷◌, ◌++◌, length, refl, sym, subst, arith, Option, append-nil, append_assoc}
use Rattle.ssh_model.specs.declared.side.Side.{Side}
use Rattle.ssh_model.specs.Protocol.Wire.Message.{Msg, Msg.NewKeys}
use Rattle.ssh_model.specs.Protocol.KeyExchange.Exchanges.{offers}
use Rattle.ssh_model.specs.Protocol.Sessions.Parties.{Parties}
use Rattle.ssh_model.specs.Protocol.Sessions.Items.{Item, Item.Sent, Item.Told, Encoded.EncodedBy, sent, messages_sent}
use Rattle.ssh_model.specs.Protocol.Sessions.Epochs.{count}
use Rattle.ssh_model.specs.Protocol.Sessions.Turns.{AreNumbered}
use Rattle.ssh_model.specs.Protocol.Sessions.Events.{PutsOut, PutsOut.other as put_other}
use Rattle.ssh_model.specs.State.TransportLayer.Directions.{Direction}
use Rattle.ssh_model.specs.State.TransportLayer.Turns as turns
use Rattle.ssh_model.specs.State.TransportLayer.Turns.{PutsPackets, PutOut, counted_by}
use Rattle.ssh_model.proofs.TransportLayer.Packets.{IsOther, Stands, opened_sent, packet_out, stands_sent, stands_told}

-- items of an answer, under which no epoch begins
abbrev pub AreAnswers : List Item → Type 0
AreAnswers [] = Unit {0}
AreAnswers (Sent c m b ∷ l) = IsOther m × AreAnswers l
AreAnswers (Told fact ∷ l) = AreAnswers l
AreAnswers (i ∷ l) = ⊥

-- ---- their numbers

count_one : (g l : List Item) (c : Option ℕ) (m : Msg) (b : List ℕ) → IsOther m → count (sent (l ++ g)) ≡ count (sent g) + length (messages_sent l) → count (sent (Sent c m b ∷ l ++ g)) ≡ count (sent g) + suc (length (messages_sent l))
count_one g l c NewKeys b n e = elim n [ ]
count_one g l c m b n e = omega (arith, e)

pub count_on : (g l : List Item) → AreAnswers l → count (sent (l ++ g)) ≡ count (sent g) + length (messages_sent l)
count_on g [] n = omega arith
count_on g (Told fact ∷ l) n = count_on g l n
count_on g (Sent c m b ∷ l) n = count_one g l c m b n.0 (count_on g l n.1)
count_on g (i ∷ l) n = elim n [ ]

-- so many numbers are left
pub all_numbered : (g l : List Item) → AreAnswers l → count (sent g) + length (messages_sent l) ≤ 2 ^ 32 → AreNumbered l g
all_numbered g [] n few = tt
all_numbered g (Told fact ∷ l) n few = all_numbered g l n few
all_numbered g (Sent c m b ∷ l) n few = (omega (arith, count_on g l n.1, few), all_numbered g l n.1 (omega (arith, few)))
all_numbered g (i ∷ l) n few = elim n [ ]

-- no number is left
pub none_left : (g l : List Item) → AreAnswers l → 1 ≤ length (messages_sent l) → count (sent g) ≡ 2 ^ 32 → AreNumbered l g → ⊥
none_left g [] n one all x = absurd (omega (arith, one))
none_left g (Told fact ∷ l) n one all x = none_left g l n one all x
none_left g (Sent c m b ∷ l) n one all x = omega (arith, x.0, all, count_on g l n.1)
none_left g (i ∷ l) n one all x = elim n [ ]

-- ---- their packets

-- what has been put out by then
pub record Out {K : Type 0} (p : Parties K) (side : Side) (g : List Item) (d : Direction K) (l : List Item) (more : List ℕ) : Type 0 where
  pub stands : Stands p side (l ++ g) (counted_by (messages_sent l) d)
  pub opened : 1 ≤ length (offers (messages_sent (l ++ g)))
  pub out : PutOut p side g l more

module _ {K : Type 0} (p : Parties K) (side : Side) (g : List Item) (d : Direction K) (s : Stands p side g d) (o : 1 ≤ length (offers (messages_sent g))) where
  last_sent : (l : List Item) (c : Option ℕ) (m : Msg) (b more : List ℕ) → IsOther m → PutsPackets p.crypto d (EncodedBy m b ∷ messages_sent l) more →
      ((before : List ℕ) → PutsPackets p.crypto d (messages_sent l) before → Out p side g d l before) → Out p side g d (Sent c m b ∷ l) more
  last_sent l c m b more n (turns.PutsPackets.packet {bytes = before} m2 b2 wire x encoded few sealed) go =
      let r = go before x in
      record {
        stands = stands_sent p side (l ++ g) c m b (counted_by (messages_sent l) d) n r.opened r.stands;
        opened = opened_sent p side (l ++ g) c m b r.opened;
        out = record {
          encoded = (encoded, r.out.encoded);
          numbered = (omega (arith, r.stands.sums.count_is, few), r.out.numbered);
          puts = λ bytes y. subst (λ (t : List ℕ). PutsOut p side (Sent c m b ∷ l ++ g) t) (append_assoc bytes before wire)
              (packet_out p side (l ++ g) (counted_by (messages_sent l) d) c m b wire (bytes ++ before) r.stands few sealed (r.out.puts bytes y));
        };
      }

  pub answers_out : (l : List Item) (more : List ℕ) → AreAnswers l → PutsPackets p.crypto d (messages_sent l) more → Out p side g d l more
  answers_out [] more n turns.PutsPackets.nothing = record {
    stands = s;
    opened = o;
    out = record { encoded = tt; numbered = tt; puts = λ bytes x. subst (λ (t : List ℕ). PutsOut p side g t) (sym (append-nil bytes)) x };
  }
  answers_out (Told fact ∷ l) more n x =
      let r = answers_out l more n x in
      record {
        stands = stands_told p side (l ++ g) (Told fact) (counted_by (messages_sent l) d) refl refl refl refl r.stands;
        opened = r.opened;
        out = record { encoded = r.out.encoded; numbered = r.out.numbered; puts = λ bytes y. put_other (Told fact) tt (r.out.puts bytes y) };
      }
  answers_out (Sent c m b ∷ l) more n x = last_sent l c m b more n.0 x (λ before y. answers_out l before n.1 y)
  answers_out (i ∷ l) more n x = elim n [ ]
