-- An owed reply that is given is sent in a session, and what is kept then sums up the history with it.
use Rattle.std.proofs.Common.{◌≡◌, ℕ, List, [], ◌∷◌, ◌++◌, map, refl, ap, sym, ◌∙◌, subst, None, Some, slice_set, cond, Bool, true, false, ◌==◌, eqb-true, length-set}
use Rattle.std.proofs.lemmas.List.{reverse-append}
use Rattle.ssh_model.specs.declared.side.Side.{Side}
use Rattle.ssh_model.specs.Protocol.Sessions.Items as session
use Rattle.ssh_model.specs.Protocol.Sessions.Items.{Item}
use Rattle.ssh_model.specs.Protocol.Channels.Message.{Message.OpenFailure, Message.Close}
use Rattle.ssh_model.specs.Protocol.Channels.Notes.{Note, Note.Said, channel_at}
use Rattle.ssh_model.specs.State.Channels.Rules.{EndRun}
use Rattle.ssh_model.specs.Protocol.Channels.History as channel
use Rattle.ssh_model.specs.Protocol.Channels.History.{is_owed}
use Rattle.ssh_model.specs.State.Channels.Places.{IsOver, AreOwed, place_at, place, at}
use Rattle.ssh_model.specs.Protocol.Channels.Connection.{notes, AreReplies.reply}
use Rattle.ssh_model.specs.State.Channels.Kept.{DueReply, DueReply.RefusesOpen, DueReply.AnswersClose, Channels, Unblocks, Unblocks.oldest, Unblocks.nothing, put, freed_by}
use Rattle.ssh_model.specs.State.Channels.Summary.{reply_item, reply_sent, pending, SumsUp, SendsOwed}
use Rattle.ssh_model.proofs.Channels.PlaceQueue.{apart_number, same_number, place_owed, place_none, unowed_same}
use Rattle.ssh_model.proofs.Channels.Summing.{within, written}

either : (b c : Bool) → c ≡ true → cond b true c ≡ true
either true c e = refl
either false c e = e

-- ---- the last of a list

unowed_before : (y : ℕ) (q l : List channel.Item) → is_owed y (q ++ l) ≡ false → is_owed y q ≡ false
unowed_before y [] l e = refl
unowed_before y (channel.Item.Sent (Some x) m ∷ q) l e = go (x == y) e (λ f. unowed_before y q l f)
  where
    go : (b : Bool) → cond b true (is_owed y (q ++ l)) ≡ false → (is_owed y (q ++ l) ≡ false → is_owed y q ≡ false) → cond b true (is_owed y q) ≡ false
    go true z more = z
    go false z more = more z
unowed_before y (channel.Item.Sent None m ∷ q) l e = unowed_before y q l e
unowed_before y (channel.Item.Received a m ∷ q) l e = unowed_before y q l e
unowed_before y (channel.Item.KexinitSent ∷ q) l e = unowed_before y q l e
unowed_before y (channel.Item.NewkeysSent ∷ q) l e = unowed_before y q l e

owed_front : (q : List channel.Item) (i : channel.Item) (n : List Note) → AreOwed (q ++ (i ∷ [])) n → AreOwed q n
owed_front [] i n a = tt
owed_front (channel.Item.Sent None (OpenFailure t) ∷ q) i n a = owed_front q i n a
owed_front (channel.Item.Sent (Some x) (Close t) ∷ q) i n a = (a.0, (unowed_before x q (i ∷ []) a.1.0, owed_front q i n a.1.1))
owed_front (j ∷ q) i n a = elim a [ ]

owed_end : (x t : ℕ) (q : List channel.Item) → is_owed x (q ++ (channel.Item.Sent (Some x) (Close t) ∷ [])) ≡ true
owed_end x t [] = ap (λ b. cond b true false) (same_number x)
owed_end x t (channel.Item.Sent (Some y) m ∷ q) = either (y == x) _ (owed_end x t q)
owed_end x t (channel.Item.Sent None m ∷ q) = owed_end x t q
owed_end x t (channel.Item.Received a m ∷ q) = owed_end x t q
owed_end x t (channel.Item.KexinitSent ∷ q) = owed_end x t q
owed_end x t (channel.Item.NewkeysSent ∷ q) = owed_end x t q

owed_last : (x t : ℕ) (q : List channel.Item) (n : List Note) → AreOwed (q ++ (channel.Item.Sent (Some x) (Close t) ∷ [])) n → IsOver x n × (is_owed x q ≡ false)
owed_last x t [] n a = (a.0, refl)
owed_last x t (channel.Item.Sent None (OpenFailure u) ∷ q) n a = owed_last x t q n a
owed_last x t (channel.Item.Sent (Some y) (Close u) ∷ q) n a = let r = owed_last x t q n a.1.1 in (r.0, go (y == x) refl r.1)
  where
    go : (b : Bool) → (y == x) ≡ b → is_owed x q ≡ false → cond b true (is_owed x q) ≡ false
    go false e f = f
    go true e f =
        let P : ℕ → Type 0 = λ w. is_owed w (q ++ (channel.Item.Sent (Some x) (Close t) ∷ [])) ≡ false in
        let z : true ≡ false = sym (owed_end x t q) ∙ subst P (eqb-true y x e) a.1.0 in
        absurd (cc z)
owed_last x t (j ∷ q) n a = elim a [ ]

owed_other : (y x t : ℕ) (q : List channel.Item) → (y ≡ x → ⊥) → is_owed y q ≡ is_owed y (q ++ (channel.Item.Sent (Some x) (Close t) ∷ []))
owed_other y x t [] d = sym (ap (λ b. cond b true false) (apart_number x y (λ g. d (sym g))))
owed_other y x t (channel.Item.Sent (Some z) m ∷ q) d = ap (λ b. cond (z == y) true b) (owed_other y x t q d)
owed_other y x t (channel.Item.Sent None m ∷ q) d = owed_other y x t q d
owed_other y x t (channel.Item.Received a m ∷ q) d = owed_other y x t q d
owed_other y x t (channel.Item.KexinitSent ∷ q) d = owed_other y x t q d
owed_other y x t (channel.Item.NewkeysSent ∷ q) d = owed_other y x t q d

owed_none : (y t : ℕ) (q : List channel.Item) → is_owed y q ≡ is_owed y (q ++ (channel.Item.Sent None (OpenFailure t) ∷ []))
owed_none y t [] = refl
owed_none y t (channel.Item.Sent (Some z) m ∷ q) = ap (λ b. cond (z == y) true b) (owed_none y t q)
owed_none y t (channel.Item.Sent None m ∷ q) = owed_none y t q
owed_none y t (channel.Item.Received a m ∷ q) = owed_none y t q
owed_none y t (channel.Item.KexinitSent ∷ q) = owed_none y t q
owed_none y t (channel.Item.NewkeysSent ∷ q) = owed_none y t q

-- ---- the queue

module _ (s : Side) (h : List Item) (p : List channel.Item) (c : Channels) (has : SumsUp s h p c) where
  parts : (r : DueReply) (l : List DueReply) → c.owed ≡ r ∷ l → p ≡ pending l ++ (reply_item r ∷ [])
  parts r l e = sym has.queue ∙ (ap pending e ∙ reverse-append (reply_item r ∷ []) (map reply_item l))

  refuses_sent : (to : ℕ) (l : List DueReply) → c.owed ≡ RefusesOpen to ∷ l → SendsOwed s h p (RefusesOpen to) (record c { owed = l })
  refuses_sent to l e =
      let q = pending l in
      let n = notes s h in
      let w = parts (RefusesOpen to) l e in
      let P : List channel.Item → Type 0 = λ o. AreOwed o n in
      record {
        oldest = w;
        row = λ older items payload r. reply None (OpenFailure to) payload r;
        sums = λ payload. record {
          run = has.run;
          places = λ y. has.places y ∙ unowed_same s y n p q (owed_none y to q ∙ sym (ap (is_owed y) w));
          size = has.size;
          queue = refl;
          settled = owed_front q (channel.Item.Sent None (OpenFailure to)) n (subst P w has.settled);
          here = has.here;
          there = has.there;
        };
      }

  close_sent : (x to : ℕ) (l : List DueReply) → c.owed ≡ AnswersClose x to ∷ l → SendsOwed s h p (AnswersClose x to) (put x None (record c { owed = l }))
  close_sent x to l e =
      let q = pending l in
      let n = notes s h in
      let w = parts (AnswersClose x to) l e in
      let P : List channel.Item → Type 0 = λ o. AreOwed o n in
      let all = subst P w has.settled in
      let last = owed_last x to q n all in
      let was : is_owed x p ≡ true = ap (is_owed x) w ∙ owed_end x to q in
      let there : at c.places x ≡ Some (record (place_at s x n) { close_owed = true }) = has.places x ∙ place_owed s x n p last.0.held was in
      record {
        oldest = w;
        row = λ older items payload r. reply (Some x) (Close to) payload r;
        sums = λ payload.
            let same : notes s (session.Item.Sent (Some x) (reply_sent (AnswersClose x to)) payload ∷ h) ≡ n = ap (λ b. cond b n (Said x (channel_at x n) (Close to) ∷ n)) last.0.close_said in
            let R : List Note → Type 0 = λ m. EndRun s m in
            let E : List Note → Type 0 = λ m. (y : ℕ) → at (slice_set c.places x None) y ≡ place s m q y in
            let A : List Note → Type 0 = λ m. AreOwed q m in
            record {
              run = subst R (sym same) has.run;
              places = subst E (sym same) (written s n n p q c.places x None has.places (within c.places x _ there)
                  (sym (place_none s x n q last.0.held last.1))
                  (λ y d. sym (unowed_same s y n p q (owed_other y x to q d ∙ sym (ap (is_owed y) w)))));
              size = length-set c.places x None ∙ has.size;
              queue = refl;
              settled = subst A (sym same) (owed_front q (channel.Item.Sent (Some x) (Close to)) n all);
              here = has.here;
              there = has.there;
            };
      }

  given : (r : DueReply) (l : List DueReply) → c.owed ≡ r ∷ l → SendsOwed s h p r (freed_by r (record c { owed = l }))
  given (RefusesOpen to) l e = refuses_sent to l e
  given (AnswersClose x to) l e = close_sent x to l e

  pub unblocked : (r : DueReply) (new : Channels) → Unblocks c (Some r) new → SendsOwed s h p r new
  unblocked _ new (oldest r l e) = given r l e

  pub settled_now : (new : Channels) → Unblocks c None new → (p ≡ []) × (new ≡ c)
  settled_now new (nothing e) = (sym has.queue ∙ ap pending e, refl)
