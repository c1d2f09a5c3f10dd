-- A turn of an end: what its notes and what it owes become.
use Rattle.std.proofs.Common.{◌≡◌, ℕ, List, [], ◌∷◌, ◌++◌, map, refl, ap, sym, ◌∙◌, subst, cond, not, nat_lt, Bool, true, false, append_assoc, Option, Some, None}
use Rattle.ssh_model.specs.Protocol.Bounds.{most_channels}
use Rattle.ssh_model.specs.declared.side.Side.{Side}
use Rattle.ssh_model.specs.Protocol.Channels.Message.{Message, Message.Open, Message.Close, stage}
use Rattle.ssh_model.specs.Protocol.Channels.Notes.{Note, Note.Said, said, said_all, took_all, channel_at}
use Rattle.ssh_model.specs.State.Channels.Rules.{payload, Free, Says}
use Rattle.ssh_model.specs.Protocol.Channels.Numbers.{is_held, has_closed, peer_number}
use Rattle.ssh_model.specs.Protocol.Channels.History.{Item, Item.Sent, Item.Received, Item.NewkeysSent, blocked, due, note_sent, note_received, noted, owed, is_owed, is_free, at_once}
use Rattle.ssh_model.specs.ChannelLayer.Rows.{sent, received}
use Rattle.ssh_model.specs.ChannelLayer.Rows.{Turn, Turn.opens, Turn.asks, Turn.takes_open, Turn.refuses_open, Turn.takes, Turn.rekeys, Turn.completes}
use Rattle.ssh_model.proofs.Channels.State.{and_is, not_is, free_number}
use Rattle.ssh_model.proofs.Channels.Replies.{AllDue, drop, owed_drop, received_drop, sent_append, due_append, not_closed}
use Rattle.ssh_model.proofs.Channels.Taken.{Can, StepOf, Got, got, got_open, got_refused}
use Rattle.ssh_model.proofs.Channels.Rows.{ask_says, take_takes}

-- what an end keeps, of its notes, what it owes, blocked, sent and received
pub record EndOf (n : List Note) (o : List Item) (b : Bool) (out came : List Message) : Type 0 where
  pub total : map payload (said_all n) ≡ sent o ++ out
  pub taken : map payload (took_all n) ≡ came
  pub none_owed : b ≡ false → o ≡ []
  pub settled : AllDue o n

abbrev pub End : Side → List Item → Type 0
End s h = EndOf (noted s h) (owed s h) (blocked h) (sent h) (received h)

pub end_nothing : (s : Side) → End s []
end_nothing s = record { total = refl; taken = refl; none_owed = λ e. refl; settled = tt }

after : (s : Side) (h : List Item) (p : Option ℕ) (m : Message) → End s h
    → StepOf (noted s h) (note_received s p m (noted s h)) (due p m (noted s h)) (owed s h) m
    → End s (at_once (blocked h) (due p m (noted s h)) ++ (Received p m ∷ h))
after s h p m v st = go (blocked h) refl
  where
    go : (b : Bool) → blocked h ≡ b → End s (at_once b (due p m (noted s h)) ++ (Received p m ∷ h))
    go true e =
        let d = due p m (noted s h) in
        let o : owed s (Received p m ∷ h) ≡ due p m (noted s h) ++ owed s h = ap (λ b. cond b (due p m (noted s h) ++ owed s h) (owed s h)) e in
        let P : List Item → Type 0 = λ w. EndOf (note_received s p m (noted s h)) w (blocked h) (sent h) (m ∷ received h) in
        subst P (sym o) (record {
          total = rw (sent_append (due p m (noted s h)) (owed s h), append_assoc) (st.said_now ∙ ap (λ r. sent (due p m (noted s h)) ++ r) v.total);
          taken = st.took_now ∙ ap (λ r. m ∷ r) v.taken;
          none_owed = λ q. absurd (cc (q, e));
          settled = due_append (due p m (noted s h)) (owed s h) _ st.due_now st.settled;
        })
    go false e =
        let z : owed s h ≡ [] = v.none_owed e in
        let a : noted s (due p m (noted s h) ++ (Received p m ∷ h)) ≡ note_received s p m (noted s h) = drop s (due p m (noted s h)) (Received p m ∷ h) st.due_now in
        let o : owed s (due p m (noted s h) ++ (Received p m ∷ h)) ≡ [] =
        owed_drop s (due p m (noted s h)) (Received p m ∷ h) _ st.due_now ∙ (ap (λ b. cond b (due p m (noted s h) ++ owed s h) (owed s h)) e ∙ z) in
        let c : received (due p m (noted s h) ++ (Received p m ∷ h)) ≡ m ∷ received h = received_drop (due p m (noted s h)) (Received p m ∷ h) _ st.due_now in
        let t : map payload (said_all (noted s h)) ≡ sent h = v.total ∙ ap (λ w. sent w ++ sent h) z in
        let u : sent (due p m (noted s h) ++ (Received p m ∷ h)) ≡ sent (due p m (noted s h)) ++ sent h = sent_append (due p m (noted s h)) (Received p m ∷ h) in
        rw (a, o, c, u) (record {
          total = st.said_now ∙ ap (λ r. sent (due p m (noted s h)) ++ r) t;
          taken = st.took_now ∙ ap (λ r. m ∷ r) v.taken;
          none_owed = λ q. refl;
          settled = tt;
        })

-- an end that asks owes nothing, then and after
unowed : (s : Side) (h : List Item) (m : Message) (n : List Note) → End s h → blocked h ≡ false
    → map payload (said_all n) ≡ m ∷ map payload (said_all (noted s h)) → took_all n ≡ took_all (noted s h)
    → EndOf n (owed s h) (blocked h) (m ∷ sent h) (received h)
unowed s h m n v free said_now took_now =
    let z : owed s h ≡ [] = v.none_owed free in
    let t : map payload (said_all (noted s h)) ≡ sent h = v.total ∙ ap (λ w. sent w ++ sent h) z in
    rw z (record { total = said_now ∙ ap (λ r. m ∷ r) t; taken = ap (map payload) took_now ∙ v.taken; none_owed = λ e. refl; settled = tt })

-- what an ask sends is noted as said
noted_ask : (s : Side) (n : List Note) (x : ℕ) (m : Message) → Says s n x (channel_at x n) m → note_sent s (Some x) m n ≡ Said x (channel_at x n) m ∷ n
noted_ask s n x (Open f w k) r = let z = r.other in absurd (cc z)
noted_ask s n x (Close t) r = ap (λ b. cond b n (Said x (channel_at x n) (Close t) ∷ n)) (not_closed (stage (said (channel_at x n) n)) (Close t) _ r.may_follow)
noted_ask s n x m r = refl

-- replies are sent items
due_received : (p : Option ℕ) (m : Message) (n : List Note) (r : List Item) → received (due p m n ++ r) ≡ received r
due_received None (Open f w k) n r = refl
due_received (Some x) (Close t) n r = go (has_closed x n)
  where
    go : (b : Bool) → received (cond b [] (Sent (Some x) (Close (peer_number x n)) ∷ []) ++ r) ≡ received r
    go true = refl
    go false = refl
due_received p m n r = refl

once_received : (b : Bool) (p : Option ℕ) (m : Message) (n : List Note) (r : List Item) → received (at_once b (due p m n) ++ r) ≡ received r
once_received true p m n r = refl
once_received false p m n r = due_received p m n r

-- ---- a turn

pub record Stands (s : Side) (R : List Note → Type 0) (h : List Item) : Type 0 where
  pub run : R (noted s h)
  pub end : End s h

module _ (s : Side) (R : List Note → Type 0) (N : List Note → Message → Type 0) (can : Can s R N) (h : List Item) (v : Stands s R h) where
  -- the items of a received message
  received_turn : (p : Option ℕ) (m : Message) → Got R (noted s h) (note_received s p m (noted s h)) (due p m (noted s h)) (owed s h) m
      → Stands s R ((at_once (blocked h) (due p m (noted s h)) ++ (Received p m ∷ [])) ++ h)
  received_turn p m y =
      let P : List Item → Type 0 = λ w. Stands s R w in
      subst P (sym (append_assoc (at_once (blocked h) (due p m (noted s h))) (Received p m ∷ []) h))
      (record { run = go (blocked h); end = after s h p m v.end y.step })
    where
      go : (b : Bool) → R (noted s (at_once b (due p m (noted s h)) ++ (Received p m ∷ h)))
      go true = y.run
      go false = let P : List Note → Type 0 = λ w. R w in subst P (sym (drop s (due p m (noted s h)) (Received p m ∷ h) y.step.due_now)) y.run

  came : (p : Option ℕ) (m : Message) → received ((at_once (blocked h) (due p m (noted s h)) ++ (Received p m ∷ [])) ++ h) ≡ m ∷ received h
  came p m =
      ap received (append_assoc (at_once (blocked h) (due p m (noted s h))) (Received p m ∷ []) h) ∙ once_received (blocked h) p m (noted s h) (Received p m ∷ h)

  free_is : (x : ℕ) → is_free s h x ≡ true → Free x (noted s h) × (is_owed x (owed s h) ≡ false)
  free_is x e =
      let a = and_is (nat_lt x most_channels) _ e in
      let b = and_is (not (is_held x (noted s h))) _ a.1 in
      (free_number s x (noted s h) (can.stands _ v.run) (not_is _ b.0), not_is _ b.1)

  -- a turn in which what comes may come
  pub turned : (items : List Item) → Turn s h items → ((m : Message) → received (items ++ h) ≡ m ∷ received h → N (noted s h) m) → Stands s R (items ++ h)
  turned items (opens x w k free u small) next =
      record { run = can.opening (noted s h) x w k v.run (free_is x u).0 small; end = unowed s h (Open x w k) _ v.end free refl refl }
  turned items (asks x m free a) next =
      let r = ask_says s (noted s h) x m (can.stands _ v.run) a in
      let e = noted_ask s (noted s h) x m r in
      let P : List Note → Type 0 = λ w. R w in
      let Q : List Note → Type 0 = λ w. EndOf w (owed s h) (blocked h) (m ∷ sent h) (received h) in
      record { run = subst P (sym e) (can.saying (noted s h) x _ m v.run r); end = subst Q (sym e) (unowed s h m _ v.end free refl refl) }
  turned items (takes_open x f w k u) next =
      let e = free_is x u in
      let y = got_open s R N can (noted s h) (owed s h) v.run v.end.settled x f w k e.0 e.1 (next (Open f w k) refl) in
      record { run = y.run; end = opened x f w k y.step }
    where
      opened : (x f w k : ℕ) → StepOf (noted s h) (note_received s (Some x) (Open f w k) (noted s h)) [] (owed s h) (Open f w k) → End s (Received (Some x) (Open f w k) ∷ h)
      opened x f w k st = go (blocked h) (after s h (Some x) (Open f w k) v.end st)
        where
          go : (b : Bool) → End s (at_once b [] ++ (Received (Some x) (Open f w k) ∷ h)) → End s (Received (Some x) (Open f w k) ∷ h)
          go true e = e
          go false e = e
  turned items (refuses_open f w k) next =
      received_turn None (Open f w k) (got_refused s R N can (noted s h) (owed s h) v.run v.end.settled f w k (next (Open f w k) (came None (Open f w k))))
  turned items (takes x m t) next =
      received_turn (Some x) m (got s R N can (noted s h) (owed s h) v.run v.end.settled x m (take_takes s (noted s h) x m (can.stands _ v.run) t) (next m (came (Some x) m)))
  turned items (rekeys free) next =
      record { run = v.run; end = record { total = v.end.total; taken = v.end.taken; none_owed = λ e. absurd (cc e); settled = v.end.settled } }
  turned items (completes b) next =
      let P : List Item → Type 0 = λ w. Stands s R w in
      let e : noted s (owed s h ++ (NewkeysSent ∷ h)) ≡ noted s h = drop s (owed s h) (NewkeysSent ∷ h) v.end.settled in
      let o : owed s (owed s h ++ (NewkeysSent ∷ h)) ≡ [] = owed_drop s (owed s h) (NewkeysSent ∷ h) _ v.end.settled in
      let c : received (owed s h ++ (NewkeysSent ∷ h)) ≡ received h = received_drop (owed s h) (NewkeysSent ∷ h) _ v.end.settled in
      let u : sent (owed s h ++ (NewkeysSent ∷ h)) ≡ sent (owed s h) ++ sent h = sent_append (owed s h) (NewkeysSent ∷ h) in
      let Q : List Note → Type 0 = λ w. R w in
      subst P (sym (append_assoc (owed s h) (NewkeysSent ∷ []) h)) (record {
        run = subst Q (sym e) v.run;
        end = rw (e, o, c, u) (record { total = v.end.total; taken = v.end.taken; none_owed = λ q. refl; settled = tt });
      })
