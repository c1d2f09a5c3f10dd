-- Over a faithful network each unit that an end reads is the line or the packet that its peer put out there.
use Rattle.std.proofs.Common.{◌≡◌, ℕ, suc, ◌<◌, List, [], ◌∷◌, ◌++◌, length, inl, inr, refl, ap, sym, ◌∙◌, arith, subst, append_assoc, length-append, Bool, true, false, Option, Some}
use Rattle.ssh_model.specs.declared.side.Side.{Side}
use Rattle.ssh_model.specs.declared.side.Side.TheVariants.{Client, Server}
use Rattle.ssh_model.specs.Protocol.Side.{peer, done_by, part}
use Rattle.ssh_model.specs.Protocol.Bounds.{numbers_of_epoch}
use Rattle.ssh_model.specs.Protocol.Lists.{IsOlder}
use Rattle.ssh_model.specs.Protocol.Wire.Line.{LineUnit, LineIs, line_end}
use Rattle.ssh_model.specs.Protocol.Wire.Message.{Msg}
use Rattle.ssh_model.specs.Protocol.Wire.Outcome.{Outcome, Outcome.Opens, Outcome.VersionLine}
use Rattle.ssh_model.specs.Protocol.Wire.Sealing.{IsSealed}
use Rattle.ssh_model.specs.Protocol.Wire.Unit.{IsUnit, PacketUnit}
use Rattle.ssh_model.specs.declared.refusal.Refusal.{Refusal}
use Rattle.ssh_model.specs.Protocol.KeyExchange.Exchanges.{sending_key, sending_number, taking_key, taking_number}
use Rattle.ssh_model.specs.Protocol.Sessions.Parties.{AreLawful, BothOffer, Parties, settings_of}
use Rattle.ssh_model.specs.Protocol.Sessions.Items.{Item, Item.SentLine, Item.Sent, Item.Took, Item.TookLine, Done, Encoded, Encoded.EncodedBy, has_died, messages_sent, messages_taken, took}
use Rattle.ssh_model.specs.Protocol.Sessions.Epochs.{count}
use Rattle.ssh_model.specs.Protocol.Sessions.Phases.{has_line, is_client, other_lines}
use Rattle.ssh_model.specs.Protocol.Sessions.Claims.{Agreement}
use Rattle.ssh_model.specs.Protocol.Sessions.Turns.{OnOutcome, OnOutcome.version_line, OnOutcome.opened, OnPayload, OnPayload.takes, OnPayload.skips, OnPayload.unexpected, OnPayload.bad_message, OnUnit, OnUnit.reads, Refuses, Refuses.silently, Refuses.spent, Refuses.said, Run.then_turn, Turn.reads as reads_unit, stage, stage_after}
use Rattle.ssh_model.specs.Protocol.Sessions.Faithful.{HasVersion, IsNext, PutsSince}
use Rattle.ssh_model.proofs.Wire.Sealed.{sealed_unit}
use Rattle.ssh_model.proofs.Wire.Units.{unit_some}
use Rattle.ssh_model.proofs.Sessions.Ends.{older_same}
use Rattle.ssh_model.proofs.Sessions.EndRuns.{end_run, part_other, part_own}
use Rattle.ssh_model.proofs.Sessions.Older.{older_tail, older_trans}
use Rattle.ssh_model.proofs.Sessions.TurnLaws.{end_numbers}
use Rattle.ssh_model.proofs.Faithful.Sends.{end_sends}
use Rattle.ssh_model.proofs.Faithful.Rows.{now}
use Rattle.ssh_model.proofs.Faithful.Next as Next
use Rattle.ssh_model.proofs.Faithful.Next.{bytes, grounds_older, sends_older, sent_bytes, sent_older, taken_older, took_bytes}
use Rattle.ssh_model.proofs.Faithful.Meets.{Meets, not_guessed}
use Rattle.ssh_model.proofs.Faithful.Plain.{answer_plain}
use Rattle.ssh_model.proofs.Faithful.Lined.{AllLined, has_said, lined, lined_older}
use Rattle.ssh_model.proofs.Faithful.Stream.{First, First.no_more, First.a_line, First.a_packet, first, since_older}
use Rattle.ssh_model.proofs.Faithful.Keys.{agreed, completed, number_is, numbered_before, same_key}
use Rattle.ssh_model.proofs.Faithful.Follow.{follows}
use Rattle.ssh_model.proofs.Faithful.Whole.{back_and_forth, reached}
use Rattle.ssh_model.proofs.Faithful.Units.{AreCalm, Faithfully, Pending, SoFar, calm_after, calm_taken, one, plain_calm}

-- what is known after a unit was read
pub record Read {K : Type 0} (p : Parties K) (side : Side) (run : List Done) (items : List Item) (more : List ℕ) : Type 0 where
  pub goes : Faithfully (done_by side items ++ run)
  pub pending : has_died (items ++ part side run) ≡ false → Pending p side (items ++ part side run) (part (peer side) run) more

-- a dead end awaits nothing
dead_anyway : {A : Type 0} → true ≡ false → A
dead_anyway e = absurd (cc e)

-- two older parts of one length are the same
older_unique : {A : Type 0} (a b l : List A) → IsOlder a l → IsOlder b l → length a ≡ length b → a ≡ b
older_unique a b [] x y n = x ∙ sym y
older_unique a b (i ∷ l) (inl x) y n = x ∙ sym (older_same b (i ∷ l) y (sym n ∙ ap length x))
older_unique a b (i ∷ l) (inr x) (inl y) n = older_same a (i ∷ l) (inr x) (n ∙ ap length y) ∙ sym y
older_unique a b (i ∷ l) (inr x) (inr y) n = older_unique a b l x y n

-- the next payload, among those that were sent
split : (o l : List Encoded) → IsOlder o l → (newer : List (List ℕ)) × (bytes l ≡ newer ++ bytes o)
split o [] e = ([], sym (ap bytes e))
split o (x ∷ l) (inl e) = ([], sym (ap bytes e))
split o (EncodedBy m b ∷ l) (inr r) = let s = split o l r in (b ∷ s.0, ap (λ w. b ∷ w) s.1)

module _ {K : Type 0} (p : Parties K) (laws : AreLawful p) where
  -- ---- a line

  line_read : (side : Side) (run : List Done) (items : List Item) (line more : List ℕ) → OnOutcome p side (part side run) (VersionLine line) items → SoFar p run
      → ((h : List Item) → h ≡ TookLine line ∷ part side run → Pending p side h (part (peer side) run) more) → Read p side run items more
  line_read side run items line more (version_line text) v f = record { goes = record { faithful = v.faithful; spared = v.spared }; pending = λ e. f _ refl }

  -- ---- a packet

  refuses_read : (side : Side) (run : List Done) (items : List Item) (why : Refusal) (b more : List ℕ) → Refuses (part side run) why (Some b) items → IsNext side b run → SoFar p run → Read p side run items more
  refuses_read side run items why b more (silently e) n v = record { goes = record { faithful = (n, v.faithful); spared = v.spared }; pending = dead_anyway }
  refuses_read side run items why b more (spent e) n v = record { goes = record { faithful = (n, v.faithful); spared = v.spared }; pending = dead_anyway }
  refuses_read side run items why b more (said r x e f s) n v = record { goes = record { faithful = (n, v.faithful); spared = v.spared }; pending = dead_anyway }

  payload_read : (side : Side) (run : List Done) (items : List Item) (b more : List ℕ) (c : Option ℕ) (m : Msg) (before : List Item) (unit : List ℕ) (alive : has_died (part side run) ≡ false)
      (turn : OnUnit p side (part side run) unit items) → OnPayload p side (part side run) b items → SoFar p run → IsNext side b run → Meets p side (part side run) before
      → IsOlder (EncodedBy m b ∷ messages_sent before) (messages_sent (part (peer side) run)) → has_line (part side run) ≡ has_said before
      → PutsSince p (peer side) (Sent c m b ∷ before) (part (peer side) run) more → Read p side run items more
  payload_read side run items b more c m before unit alive turn (takes {items = l} d n w a s k) v next meets older line puts =
      let calm : AreCalm l = plain_calm l (answer_plain p side (part side run) d n l a) in
      let base : Faithfully (done_by side (Took d n b ∷ []) ++ run) = record { faithful = (next, v.faithful); spared = v.spared } in
      let goes = calm_after side l (Took d n b ∷ []) run calm base in
      let h = part side run in
      let first : (l ++ Took d n b ∷ []) ++ h ≡ l ++ (Took d n b ∷ h) = append_assoc l (Took d n b ∷ []) h in
      let same = calm_taken l (Took d n b ∷ h) calm in
      let taken : messages_taken ((l ++ Took d n b ∷ []) ++ h) ≡ EncodedBy n b ∷ messages_taken h = ap messages_taken first ∙ same.0 in
      let after = reached p laws (done_by side (l ++ Took d n b ∷ []) ++ run) (then_turn side v.run_is (reads_unit unit alive turn)) goes.faithful in
      let P : List Item → List Item → Type 0 = λ x y. IsOlder (messages_taken x) (messages_sent y) in
      let o : IsOlder (messages_taken ((l ++ Took d n b ∷ []) ++ h)) (messages_sent (part (peer side) run)) =
      subst (λ x. P x (part (peer side) run)) (part_own side (l ++ Took d n b ∷ []) run) (subst (λ y. P (part side (done_by side (l ++ Took d n b ∷ []) ++ run)) y) (part_other side (l ++ Took d n b ∷ []) run) (follows _ after.follow side)) in
      let is : messages_taken ((l ++ Took d n b ∷ []) ++ h) ≡ EncodedBy m b ∷ messages_sent before =
      older_unique _ _ _ o older (ap length taken ∙ ap (λ x. suc (length x)) meets.same) in
      record { goes = goes; pending = λ e. record { since = Sent c m b ∷ before; puts = puts; same = is; line = ap has_line first ∙ (same.1 ∙ line) } }
  payload_read side run items b more c m before unit alive turn (skips e n) v next meets older line puts = absurd (not_guessed p side (part side run) before meets e)
  payload_read side run items b more c m before unit alive turn (unexpected n r) v next meets older line puts = refuses_read side run items _ b more r next v
  payload_read side run items b more c m before unit alive turn (bad_message n e f r) v next meets older line puts = refuses_read side run items _ b more r next v
  payload_read side run items b more c m before unit alive turn (OnPayload.refuses n why a e f q r) v next meets older line puts = refuses_read side run items why b more r next v
  payload_read side run items b more c m before unit alive turn (OnPayload.spends d n w a s k) v next meets older line puts =
      record { goes = record { faithful = (next, v.faithful); spared = v.spared }; pending = dead_anyway }

  opened_read : (side : Side) (run : List Done) (items : List Item) (b more : List ℕ) (c : Option ℕ) (m : Msg) (before : List Item) (unit : List ℕ) (alive : has_died (part side run) ≡ false)
      (turn : OnUnit p side (part side run) unit items) → OnOutcome p side (part side run) (Opens b) items → SoFar p run → IsNext side b run → Meets p side (part side run) before
      → IsOlder (EncodedBy m b ∷ messages_sent before) (messages_sent (part (peer side) run)) → has_line (part side run) ≡ has_said before
      → PutsSince p (peer side) (Sent c m b ∷ before) (part (peer side) run) more → Read p side run items more
  opened_read side run items b more c m before unit alive turn (opened x y) v next meets older line puts = payload_read side run items b more c m before unit alive turn y v next meets older line puts

  -- ---- what comes at all

  meets : (side : Side) (run : List Done) (since before : List Item) → SoFar p run → IsOlder before (part (peer side) run) → messages_taken (part side run) ≡ messages_sent since → messages_sent before ≡ messages_sent since
      → Meets p side (part side run) before
  meets side run since before v o e f =
      let w = reached p laws run v.run_is v.faithful in
      let rh = end_run p run v.run_is side in
      let rg = end_run p run v.run_is (peer side) in
      let kh = now p laws side (part side run) rh in
      let kg = now p laws (peer side) (part (peer side) run) rg in
      record {
        now = kh;
        no_guess = w.no_guess side;
        own = end_sends p laws side (part side run) rh;
        known = kh.known.grounds;
        same = e ∙ sym f;
        back = older_trans _ _ _ (taken_older before (part (peer side) run) o) (back_and_forth p laws side run w);
        sends = sends_older (peer side) before (part (peer side) run) o (end_sends p laws (peer side) (part (peer side) run) rg);
        grounds = grounds_older p (peer side) before (part (peer side) run) o kg.known.grounds;
      }

  is_next : (side : Side) (run : List Done) (m : Msg) (b : List ℕ) (before : List Item) → Meets p side (part side run) before → IsOlder (EncodedBy m b ∷ messages_sent before) (messages_sent (part (peer side) run)) → IsNext side b run
  is_next side run m b before w o =
      let s = split (EncodedBy m b ∷ messages_sent before) (messages_sent (part (peer side) run)) o in
      (s.0, sent_bytes (part (peer side) run) ∙ (s.1 ∙ ap (λ l. s.0 ++ (b ∷ l)) (sym (took_bytes (part side run) w.no_guess ∙ ap bytes w.same))))

  -- the packet opens under the key and the number of the end
  packet_unit : (side : Side) (run : List Done) (c : Option ℕ) (m : Msg) (b wire : List ℕ) (before : List Item) → BothOffer p → Agreement p run → SoFar p run → Meets p side (part side run) before → IsOlder (Sent c m b ∷ before) (part (peer side) run)
      → IsSealed p.crypto (sending_key p (peer side) before) (sending_number (peer side) before) b wire
      → PacketUnit p.crypto (taking_key p side (part side run)) (taking_number side (part side run)) (count (took (part side run))) wire (Opens b)
  packet_unit side run c m b wire before offer agreement v w o s =
      let h = part side run in
      let g = part (peer side) run in
      let rg = end_run p run v.run_is (peer side) in
      let kg = now p laws (peer side) g rg in
      let older = older_tail (Sent c m b) before g o in
      let a = agreed p side run agreement (completed p side run before (Next.same_epoch h before w.same) older w.now.end.rules) in
      let few = numbered_before c m b before g o (end_numbers p (peer side) g rg) in
      let n = number_is p side h g before w older a offer kg.end.rules kg.sound.formed few in
      let k = same_key p side h g before w older a in
      let small : count (took h) < numbers_of_epoch = omega (arith, few, Next.same_count h before w.no_guess w.same) in
      let u = sealed_unit p.crypto (sending_key p (peer side) before) (sending_number (peer side) before) (count (took h)) b wire laws.sealing (small, omega (arith, small, n.1)) s in
      let P : Option K → ℕ → Type 0 = λ x y. PacketUnit p.crypto x y (count (took h)) wire (Opens b) in
      subst (λ x. P x (taking_number side h)) (sym k) (subst (λ y. P (sending_key p (peer side) before) y) (n.1 ∙ sym n.0) u)

  -- the line of the peer is one that the end takes
  line_unit : (side : Side) (others : ℕ) → HasVersion p (peer side) → LineUnit (is_client side) others ((settings_of p (peer side)).line ++ line_end) (VersionLine (settings_of p (peer side)).line)
  line_unit Client others v = LineUnit.line _ (record { is_text = v.text; parts = refl; size = omega (arith, length-append p.server.line line_end, laws.server_line) }) (LineIs.version v.protoversion v.software v.comments v.version v.accepted)
  line_unit Server others v = LineUnit.line _ (record { is_text = v.text; parts = refl; size = omega (arith, length-append p.client.line line_end, laws.client_line) }) (LineIs.version v.protoversion v.software v.comments v.version v.accepted)

  outcome_read : (side : Side) (run : List Done) (items : List Item) (unit more : List ℕ) → BothOffer p → ((s : Side) → HasVersion p s) → Agreement p run → SoFar p run → has_died (part side run) ≡ false
      → OnUnit p side (part side run) unit items → (o : Outcome) → IsUnit p.crypto (stage p side (part side run)) unit o → OnOutcome p side (part side run) o items
      → Pending p side (part side run) (part (peer side) run) (unit ++ more) → Read p side run items more
  outcome_read side run items unit more offer versions agreement v alive turn o u x q = go (unit ++ more) refl (first p (peer side) q.since (part (peer side) run) (unit ++ more) q.puts)
    where
      h : List Item
      h = part side run

      g : List Item
      g = part (peer side) run

      lines : AllLined p (peer side) g
      lines = (lined p (peer side) g (end_run p run v.run_is (peer side))).lines

      at_stage : (t : Bool) → has_line h ≡ t → IsUnit p.crypto (stage_after p side h t) unit o
      at_stage t e = let P : Bool → Type 0 = λ w. IsUnit p.crypto (stage_after p side h w) unit o in subst P e u

      go : (all : List ℕ) → all ≡ unit ++ more → First p (peer side) q.since g all → Read p side run items more
      go all e (no_more s t) = absurd (none unit refl)
        where
          none : (w : List ℕ) → unit ≡ w → ⊥
          none [] f = let P : List ℕ → Type 0 = λ y. IsUnit p.crypto (stage p side h) y o in unit_some p.crypto (stage p side h) o laws.sealing (subst P f u)
          none (n ∷ w) f = let z : [] ≡ (n ∷ w) ++ more = e ∙ ap (λ y. y ++ more) f in cc z
      go all e (a_line line rest before s t f y) =
          let older = since_older p (peer side) (SentLine line ∷ before) g rest y in
          let is = lined_older p (peer side) (SentLine line ∷ before) g older lines in
          let early : has_line h ≡ false = q.line ∙ (sym t ∙ is.1) in
          let wire : IsUnit p.crypto (stage_after p side h false) (line ++ line_end) (VersionLine line) =
          (let P : List ℕ → Type 0 = λ w. LineUnit (is_client side) (other_lines h) (w ++ line_end) (VersionLine w) in subst P (sym is.0) (line_unit side (other_lines h) (versions (peer side)))) in
          let n = one p laws (stage_after p side h false) unit more (line ++ line_end) rest o (VersionLine line) (at_stage false early) wire (sym e ∙ f) in
          let P : Outcome → Type 0 = λ w. OnOutcome p side h w items in
          let Q : List ℕ → Type 0 = λ w. PutsSince p (peer side) (SentLine line ∷ before) g w in
          line_read side run items line more (subst P n.outcome_is x) v
          (λ k z. record { since = SentLine line ∷ before; puts = subst Q (sym n.rest_is) y; same = ap messages_taken z ∙ (q.same ∙ sym s); line = ap has_line z })
      go all e (a_packet c m b wire rest before s t f i y) =
          let older = since_older p (peer side) (Sent c m b ∷ before) g rest y in
          let is = lined_older p (peer side) (Sent c m b ∷ before) g older lines in
          let late : has_line h ≡ true = q.line ∙ (sym t ∙ is.0) in
          let w = meets side run q.since before v (older_tail (Sent c m b) before g older) q.same s in
          let k = packet_unit side run c m b wire before offer agreement v w older i in
          let n = one p laws (stage_after p side h true) unit more wire rest o (Opens b) (at_stage true late) k (sym e ∙ f) in
          let P : Outcome → Type 0 = λ z. OnOutcome p side h z items in
          let Q : List ℕ → Type 0 = λ z. PutsSince p (peer side) (Sent c m b ∷ before) g z in
          let sent_so = sent_older (Sent c m b ∷ before) g older in
          opened_read side run items b more c m before unit alive turn (subst P n.outcome_is x) v (is_next side run m b before w sent_so) w sent_so (q.line ∙ sym t) (subst Q (sym n.rest_is) y)

  pub unit_read : (side : Side) (run : List Done) (items : List Item) (unit more : List ℕ) → BothOffer p → ((s : Side) → HasVersion p s) → Agreement p run → SoFar p run → has_died (part side run) ≡ false
      → OnUnit p side (part side run) unit items → Pending p side (part side run) (part (peer side) run) (unit ++ more) → Read p side run items more
  unit_read side run items unit more offer versions agreement v alive (reads o u x) q = outcome_read side run items unit more offer versions agreement v alive (reads o u x) o u x q
  unit_read side run items unit more offer versions agreement v alive (OnUnit.dies o u x k) q = record { goes = record { faithful = v.faithful; spared = v.spared }; pending = dead_anyway }
