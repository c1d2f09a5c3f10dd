-- What each message on a confirmed channel changes of what an end keeps of it.
use Rattle.std.proofs.Common.{◌≡◌, ℕ, suc, ◌+◌, ◌-◌, ◌≤◌, List, [], ◌∷◌, length, refl, ap, ◌∙◌, arith, cond, not, ◌&&◌, ◌||◌, Bool, true, false, Option}
use Rattle.ssh_model.specs.declared.side.Side.{Side}
use Rattle.ssh_model.specs.Protocol.Channels.Message.{Message, Message.Open, Message.OpenConfirmation, Message.OpenFailure, Message.WindowAdjust, Message.Data, Message.Eof, Message.Close, Message.Request, Message.Reply, window, spent, begun, Stage, Stage.Quiet, Stage.Speaking, Stage.Ended, Stage.Closed, Stage.Failed, stage, talked, closed, ended, over_at}
use Rattle.ssh_model.specs.State.Channels.Places.{has_eof, Place, place_of, place_at}
use Rattle.ssh_model.specs.State.Channels.Rules.{MayFollow, EndRun}
use Rattle.ssh_model.specs.Protocol.Channels.Notes.{Note, Note.Said, Note.Took, took_all, channel_at, waits_here, waits_there}
use Rattle.ssh_model.specs.Protocol.Channels.Numbers.{said_at, took_at, is_confirmed, has_ended, has_closed, peer_ended, peer_number, waiting_here, waiting_there}
use Rattle.ssh_model.specs.ChannelLayer.Rows as row
use Rattle.ssh_model.specs.State.Channels.Kept.{count_where}
use Rattle.ssh_model.proofs.Channels.Lists.{Kept}
use Rattle.ssh_model.proofs.Channels.Lines.{same_self, on_hit}
use Rattle.ssh_model.proofs.Channels.State.{not_true, confirmed_is, speaks, peer_speaks}
use Rattle.ssh_model.proofs.Channels.Rows.{ask_says, take_takes}
use Rattle.ssh_model.proofs.Channels.End.{local, can_alone}
use Rattle.ssh_model.proofs.Channels.Taken.{answer}
use Rattle.ssh_model.proofs.Channels.Steps.{Steps, moves_then, took_steps, said_steps}

-- ---- plain lists

data_said_place : (o : Bool) (a l : List Message) (h r t : ℕ) (k : Option ℕ) (b : List ℕ)
    → place_of o (Data t k b ∷ a) l h r ≡ record (place_of o a l h r) { send_window = (place_of o a l h r).send_window - length b }
unfolding place_of
data_said_place o a l h r t k b =
    let e : window l - (length b + spent a) ≡ (window l - spent a) - length b = omega arith in
    let z : 0 + window a ≡ window a = omega arith in
    rw (e, z) refl

data_taken_place : (o : Bool) (a l : List Message) (h r t : ℕ) (k : Option ℕ) (b : List ℕ)
    → place_of o a (Data t k b ∷ l) h r ≡ record (place_of o a l h r) { receive_window = (place_of o a l h r).receive_window - length b }
unfolding place_of
data_taken_place o a l h r t k b =
    let e : window a - (length b + spent l) ≡ (window a - spent l) - length b = omega arith in
    let z : 0 + window l ≡ window l = omega arith in
    rw (e, z) refl

adjust_said_place : (o : Bool) (a l : List Message) (h r t c : ℕ) → spent l ≤ window a
    → place_of o (WindowAdjust t c ∷ a) l h r ≡ record (place_of o a l h r) { receive_window = (place_of o a l h r).receive_window + c }
unfolding place_of
adjust_said_place o a l h r t c fits =
    let e : (c + window a) - spent l ≡ (window a - spent l) + c = omega arith in
    let z : 0 + spent a ≡ spent a = omega arith in
    rw (e, z) refl

adjust_taken_place : (o : Bool) (a l : List Message) (h r t c : ℕ) → spent a ≤ window l
    → place_of o a (WindowAdjust t c ∷ l) h r ≡ record (place_of o a l h r) { send_window = (place_of o a l h r).send_window + c }
unfolding place_of
adjust_taken_place o a l h r t c fits =
    let e : (c + window l) - spent a ≡ (window l - spent a) + c = omega arith in
    let z : 0 + spent l ≡ spent l = omega arith in
    rw (e, z) refl

eof_said_place : (o : Bool) (a l : List Message) (h r t : ℕ) → begun a ≡ true → closed (stage a) ≡ false
    → place_of o (Eof t ∷ a) l h r ≡ record (place_of o a l h r) { eof_sent = true }
unfolding place_of
eof_said_place o a l h r t b c =
    let z : 0 + spent a ≡ spent a = omega arith in
    let y : 0 + window a ≡ window a = omega arith in
    rw (z, y, b, c) refl

eof_taken_place : (o : Bool) (a l : List Message) (h r t : ℕ) → begun l ≡ true → closed (stage l) ≡ false
    → place_of o a (Eof t ∷ l) h r ≡ record (place_of o a l h r) { eof_taken = true }
unfolding place_of
eof_taken_place o a l h r t b c =
    let z : 0 + spent l ≡ spent l = omega arith in
    let y : 0 + window l ≡ window l = omega arith in
    rw (z, y, b, c) refl

close_said_place : (o : Bool) (a l : List Message) (h r t : ℕ) → begun a ≡ true → place_of o (Close t ∷ a) l h r ≡ record (place_of o a l h r) { close_said = true }
unfolding place_of
close_said_place o a l h r t b =
    let z : 0 + spent a ≡ spent a = omega arith in
    let y : 0 + window a ≡ window a = omega arith in
    rw (z, y, b) refl

close_taken_place : (o : Bool) (a l : List Message) (h r t : ℕ) → begun l ≡ true → place_of o a (Close t ∷ l) h r ≡ record (place_of o a l h r) { close_taken = true }
unfolding place_of
close_taken_place o a l h r t b =
    let z : 0 + spent l ≡ spent l = omega arith in
    let y : 0 + window l ≡ window l = omega arith in
    rw (z, y, b) refl

-- a request or a reply changes what waits alone
request_said_place : (o : Bool) (a l : List Message) (h r t : ℕ) (want : Bool) → place_of o (Request t want ∷ a) l h r ≡ place_of o a l h r
unfolding place_of
request_said_place o a l h r t want =
    let z : 0 + spent a ≡ spent a = omega arith in
    let y : 0 + window a ≡ window a = omega arith in
    rw (z, y) refl

request_taken_place : (o : Bool) (a l : List Message) (h r t : ℕ) (want : Bool) → place_of o a (Request t want ∷ l) h r ≡ place_of o a l h r
unfolding place_of
request_taken_place o a l h r t want =
    let z : 0 + spent l ≡ spent l = omega arith in
    let y : 0 + window l ≡ window l = omega arith in
    rw (z, y) refl

reply_said_place : (o : Bool) (a l : List Message) (h r t : ℕ) (success : Bool) → place_of o (Reply t success ∷ a) l h r ≡ place_of o a l h r
unfolding place_of
reply_said_place o a l h r t success =
    let z : 0 + spent a ≡ spent a = omega arith in
    let y : 0 + window a ≡ window a = omega arith in
    rw (z, y) refl

reply_taken_place : (o : Bool) (a l : List Message) (h r t : ℕ) (success : Bool) → place_of o a (Reply t success ∷ l) h r ≡ place_of o a l h r
unfolding place_of
reply_taken_place o a l h r t success =
    let z : 0 + spent l ≡ spent l = omega arith in
    let y : 0 + window l ≡ window l = omega arith in
    rw (z, y) refl

here_place : (o : Bool) (a l : List Message) (h r w : ℕ) → place_of o a l w r ≡ record (place_of o a l h r) { waiting_here = w }
unfolding place_of
here_place o a l h r w = refl

there_place : (o : Bool) (a l : List Message) (h r w : ℕ) → place_of o a l h w ≡ record (place_of o a l h r) { waiting_there = w }
unfolding place_of
there_place o a l h r w = refl

-- ---- requests that wait

one_more : (b : Bool) (w : ℕ) → cond b (suc w) w ≡ count_where b w
one_more true w = omega arith
one_more false w = refl

wanted_here : (x t : ℕ) (want : Bool) (n : List Note) → waits_here (channel_at x n) (Took x (channel_at x n) (Request t want) ∷ n) ≡ count_where (want && not (has_closed x n)) (waiting_here x n)
wanted_here x t true n = rw (same_self (channel_at x n)) (late (has_closed x n))
  where
    late : (b : Bool) → cond b (waiting_here x n) (suc (waiting_here x n)) ≡ count_where (not b) (waiting_here x n)
    late true = refl
    late false = omega arith
wanted_here x t false n = refl

wanted_there : (x t : ℕ) (want : Bool) (n : List Note) → waits_there (channel_at x n) (Said x (channel_at x n) (Request t want) ∷ n) ≡ count_where want (waiting_there x n)
wanted_there x t true n = rw (same_self (channel_at x n)) (omega arith)
wanted_there x t false n = refl

here_kept : (x t : ℕ) (want : Bool) (n : List Note) → waits_here (channel_at x n) (Said x (channel_at x n) (Request t want) ∷ n) ≡ waiting_here x n
here_kept x t true n = refl
here_kept x t false n = refl

there_kept : (x t : ℕ) (want : Bool) (n : List Note) → waits_there (channel_at x n) (Took x (channel_at x n) (Request t want) ∷ n) ≡ waiting_there x n
there_kept x t true n = refl
there_kept x t false n = refl

replied_here : (x t : ℕ) (success : Bool) (n : List Note) → waits_here (channel_at x n) (Said x (channel_at x n) (Reply t success) ∷ n) ≡ waiting_here x n - 1
replied_here x t success n = rw (same_self (channel_at x n)) refl

replied_there : (x t : ℕ) (success : Bool) (n : List Note) → waits_there (channel_at x n) (Took x (channel_at x n) (Reply t success) ∷ n) ≡ waiting_there x n - 1
replied_there x t success n = rw (same_self (channel_at x n)) refl

-- ---- stages

not_over : (q : Stage) → talked q ≡ true → closed q ≡ false → over_at q Closed ≡ false
not_over Speaking t e = refl
not_over Ended t e = refl
not_over Quiet t e = absurd (cc t)
not_over Failed t e = absurd (cc t)
not_over Closed t e = absurd (cc e)

shut_is : (q : Stage) → closed q ≡ true → q ≡ Closed
shut_is Closed e = refl
shut_is Quiet e = absurd (cc e)
shut_is Speaking e = absurd (cc e)
shut_is Ended e = absurd (cc e)
shut_is Failed e = absurd (cc e)

alive : (q : Stage) → talked q ≡ true → (q ≡ Closed → ⊥) → over_at Closed q ≡ false
alive Speaking t l = refl
alive Ended t l = refl
alive Quiet t l = absurd (cc t)
alive Failed t l = absurd (cc t)
alive Closed t l = absurd (l refl)

ended_left : (q : Stage) → talked q ≡ true → (q ≡ Closed → ⊥) → over_at Ended q ≡ false
ended_left Speaking t l = refl
ended_left Ended t l = refl
ended_left Quiet t l = absurd (cc t)
ended_left Failed t l = absurd (cc t)
ended_left Closed t l = absurd (l refl)

ended_right : (q : Stage) → talked q ≡ true → over_at q Ended ≡ false
ended_right Speaking t = refl
ended_right Ended t = refl
ended_right Closed t = refl
ended_right Quiet t = absurd (cc t)
ended_right Failed t = absurd (cc t)

speaking_open : (q : Stage) → q ≡ Speaking → closed q ≡ false
speaking_open q e = rw e refl

-- ---- rows

module _ (s : Side) (n : List Note) (run : EndRun s n) (x : ℕ) where
  pub data_taken : (k : Option ℕ) (b : List ℕ) → row.Take s n x (Data x k b)
      → Steps s x n (Took x (channel_at x n) (Data x k b) ∷ n) true (record (place_at s x n) { receive_window = (place_at s x n).receive_window - length b })
  unfolding place_at
  data_taken k b t =
      let may = take_takes s n x (Data x k b) (local s n run) t in
      took_steps s n run x (Data x k b) may _ _ refl refl true (record (place_at s x n) { receive_window = (place_at s x n).receive_window - length b }) (not_true _ may.at.live)
      (data_taken_place _ (said_at x n) (took_at x n) _ _ x k b)

  pub data_said : (k : Option ℕ) (b : List ℕ) (t : ℕ) → row.Ask s n x (Data t k b)
      → Steps s x n (Said x (channel_at x n) (Data t k b) ∷ n) true (record (place_at s x n) { send_window = (place_at s x n).send_window - length b })
  unfolding place_at
  data_said k b t a =
      let may = ask_says s n x (Data t k b) (local s n run) a in
      said_steps s n run x (Data t k b) may _ _ refl refl true (record (place_at s x n) { send_window = (place_at s x n).send_window - length b }) (not_true _ may.at.live)
      (data_said_place _ (said_at x n) (took_at x n) _ _ t k b)

  pub adjust_taken : (c : ℕ) → row.Take s n x (WindowAdjust x c)
      → Steps s x n (Took x (channel_at x n) (WindowAdjust x c) ∷ n) true (record (place_at s x n) { send_window = (place_at s x n).send_window + c })
  unfolding place_at
  adjust_taken c t =
      let v = local s n run in
      let may = take_takes s n x (WindowAdjust x c) v t in
      took_steps s n run x (WindowAdjust x c) may _ _ refl refl true (record (place_at s x n) { send_window = (place_at s x n).send_window + c }) (not_true _ may.at.live)
      (adjust_taken_place _ (said_at x n) (took_at x n) _ _ x c (v.good (channel_at x n)).said_fits)

  pub adjust_said : (c t : ℕ) → row.Ask s n x (WindowAdjust t c)
      → Steps s x n (Said x (channel_at x n) (WindowAdjust t c) ∷ n) true (record (place_at s x n) { receive_window = (place_at s x n).receive_window + c })
  unfolding place_at
  adjust_said c t a =
      let v = local s n run in
      let may = ask_says s n x (WindowAdjust t c) v a in
      said_steps s n run x (WindowAdjust t c) may _ _ refl refl true (record (place_at s x n) { receive_window = (place_at s x n).receive_window + c }) (not_true _ may.at.live)
      (adjust_said_place _ (said_at x n) (took_at x n) _ _ t c (v.good (channel_at x n)).took_fits)

  pub eof_taken : is_confirmed x n ≡ true → peer_ended x n ≡ false → Steps s x n (Took x (channel_at x n) (Eof x) ∷ n) true (record (place_at s x n) { eof_taken = true })
  unfolding place_at
  eof_taken e o =
      let may = take_takes s n x (Eof x) (local s n run) (row.Take.ended e o) in
      let c = confirmed_is x n e in
      took_steps s n run x (Eof x) may _ _ refl refl true (record (place_at s x n) { eof_taken = true }) (not_true _ (ended_right (stage (said_at x n)) c.spoke))
      (eof_taken_place _ (said_at x n) (took_at x n) _ _ x c.heard (speaking_open _ (peer_speaks x n c o)))

  pub eof_said : (t : ℕ) → row.Ask s n x (Eof t) → is_confirmed x n ≡ true → has_ended x n ≡ false
      → Steps s x n (Said x (channel_at x n) (Eof t) ∷ n) true (record (place_at s x n) { eof_sent = true })
  unfolding place_at
  eof_said t a e o =
      let may = ask_says s n x (Eof t) (local s n run) a in
      let c = confirmed_is x n e in
      said_steps s n run x (Eof t) may _ _ refl refl true (record (place_at s x n) { eof_sent = true }) (not_true _ (ended_left (stage (took_at x n)) c.heard c.lives))
      (eof_said_place _ (said_at x n) (took_at x n) _ _ t c.spoke (speaking_open _ (speaks x n c o)))

  pub request_taken : (want : Bool) → row.Take s n x (Request x want)
      → Steps s x n (Took x (channel_at x n) (Request x want) ∷ n) true (record (place_at s x n) { waiting_here = count_where (want && not (has_closed x n)) (waiting_here x n) })
  unfolding place_at
  request_taken want t =
      let may = take_takes s n x (Request x want) (local s n run) t in
      took_steps s n run x (Request x want) may _ _ (wanted_here x x want n) (there_kept x x want n) true
      (record (place_at s x n) { waiting_here = count_where (want && not (has_closed x n)) (waiting_here x n) }) (not_true _ may.at.live)
      (request_taken_place _ (said_at x n) (took_at x n) _ _ x want ∙ here_place _ (said_at x n) (took_at x n) (waiting_here x n) _ _)

  pub request_said : (want : Bool) (t : ℕ) → row.Ask s n x (Request t want)
      → Steps s x n (Said x (channel_at x n) (Request t want) ∷ n) true (record (place_at s x n) { waiting_there = count_where want (waiting_there x n) })
  unfolding place_at
  request_said want t a =
      let may = ask_says s n x (Request t want) (local s n run) a in
      said_steps s n run x (Request t want) may _ _ (here_kept x t want n) (wanted_there x t want n) true
      (record (place_at s x n) { waiting_there = count_where want (waiting_there x n) }) (not_true _ may.at.live)
      (request_said_place _ (said_at x n) (took_at x n) _ _ t want ∙ there_place _ (said_at x n) (took_at x n) _ (waiting_there x n) _)

  pub reply_taken : (success : Bool) → row.Take s n x (Reply x success)
      → Steps s x n (Took x (channel_at x n) (Reply x success) ∷ n) true (record (place_at s x n) { waiting_there = waiting_there x n - 1 })
  unfolding place_at
  reply_taken success t =
      let may = take_takes s n x (Reply x success) (local s n run) t in
      took_steps s n run x (Reply x success) may _ _ refl (replied_there x x success n) true
      (record (place_at s x n) { waiting_there = waiting_there x n - 1 }) (not_true _ may.at.live)
      (reply_taken_place _ (said_at x n) (took_at x n) _ _ x success ∙ there_place _ (said_at x n) (took_at x n) _ (waiting_there x n) _)

  pub reply_said : (success : Bool) (t : ℕ) → row.Ask s n x (Reply t success)
      → Steps s x n (Said x (channel_at x n) (Reply t success) ∷ n) true (record (place_at s x n) { waiting_here = waiting_here x n - 1 })
  unfolding place_at
  reply_said success t a =
      let may = ask_says s n x (Reply t success) (local s n run) a in
      said_steps s n run x (Reply t success) may _ _ (replied_here x t success n) refl true
      (record (place_at s x n) { waiting_here = waiting_here x n - 1 }) (not_true _ may.at.live)
      (reply_said_place _ (said_at x n) (took_at x n) _ _ t success ∙ here_place _ (said_at x n) (took_at x n) (waiting_here x n) _ _)

  -- ---- CLOSE

  -- this end sends CLOSE, which the peer did not
  pub close_said : (t : ℕ) → row.Ask s n x (Close t) → is_confirmed x n ≡ true
      → Steps s x n (Said x (channel_at x n) (Close t) ∷ n) true (record (place_at s x n) { close_said = true })
  unfolding place_at
  close_said t a e =
      let may = ask_says s n x (Close t) (local s n run) a in
      let c = confirmed_is x n e in
      said_steps s n run x (Close t) may _ _ refl refl true (record (place_at s x n) { close_said = true }) (not_true _ (alive (stage (took_at x n)) c.heard c.lives))
      (close_said_place _ (said_at x n) (took_at x n) _ _ t c.spoke)

  -- the peer sends CLOSE, after this end's
  pub close_taken_last : is_confirmed x n ≡ true → has_closed x n ≡ true
      → Steps s x n (Took x (channel_at x n) (Close x) ∷ n) false (record (place_at s x n) { close_taken = true })
  unfolding place_at
  close_taken_last e shut =
      let may = take_takes s n x (Close x) (local s n run) (row.Take.closed e) in
      let c = confirmed_is x n e in
      took_steps s n run x (Close x) may _ _ refl refl false (record (place_at s x n) { close_taken = true })
      (rw (shut_is (stage (said_at x n)) shut) refl) (close_taken_place _ (said_at x n) (took_at x n) _ _ x c.heard)

  -- the peer sends CLOSE, and this end's is said in answer
  pub close_answered : is_confirmed x n ≡ true → has_closed x n ≡ false
      → Steps s x n (Said x (channel_at x n) (Close (peer_number x n)) ∷ Took x (channel_at x n) (Close x) ∷ n) false (record (place_at s x n) { close_said = true; close_taken = true })
  unfolding place_at
  close_answered e not_yet =
      let i = channel_at x n in
      let may = take_takes s n x (Close x) (local s n run) (row.Take.closed e) in
      let c = confirmed_is x n e in
      let first = took_steps s n run x (Close x) may _ _ refl refl true (record (place_at s x n) { close_taken = true })
      (not_true _ (not_over (stage (said_at x n)) c.spoke not_yet)) (close_taken_place _ (said_at x n) (took_at x n) _ _ x c.heard) in
      let r = Took x i (Close x) ∷ n in
      let says = answer s (EndRun s) (λ n m. Unit {0}) (can_alone s) n [] run tt x i x may not_yet in
      let l = on_hit i i (Close x) (took_all n) (same_self i) in
      let next = said_steps s r first.run x (Close (peer_number x n)) says _ _ refl refl false (record (place_at s x n) { close_said = true; close_taken = true })
      (rw l refl)
      (close_said_place _ (said_at x n) (took_at x r) _ _ (peer_number x n) c.spoke ∙ ap (λ (v : Place). record v { close_said = true }) first.place) in
      record { run = next.run; moves = moves_then s x n r _ first.moves next.moves; opened = next.opened; held = next.held; close_said = next.close_said; place = next.place }

-- ---- EOF and CLOSE of a list that is kept to the rules

or_false : (a b : Bool) → (a || b) ≡ false → a ≡ false
or_false false b e = refl
or_false true b e = absurd (cc e)

or_true : (a : Bool) → true ≡ (a || true)
or_true true = refl
or_true false = refl

pub ended_is : (o : Bool) (l : List Message) → Kept o l → ended (stage l) ≡ (has_eof l || closed (stage l))
ended_is o [] k = refl
ended_is o (Open f w d ∷ l) k = first (stage l) (has_eof l) k.0 (ended_is o l k.1)
  where
    first : (q : Stage) (e : Bool) → MayFollow (Open f w d) q o → ended q ≡ (e || closed q) → false ≡ (e || false)
    first Quiet e u z = z
    first Speaking e u z = elim u [ ]
    first Ended e u z = elim u [ ]
    first Closed e u z = elim u [ ]
    first Failed e u z = elim u [ ]
ended_is o (OpenConfirmation t f w d ∷ l) k = first (stage l) (has_eof l) k.0 (ended_is o l k.1)
  where
    first : (q : Stage) (e : Bool) → MayFollow (OpenConfirmation t f w d) q o → ended q ≡ (e || closed q) → false ≡ (e || false)
    first Quiet e u z = z
    first Speaking e u z = elim u [ ]
    first Ended e u z = elim u [ ]
    first Closed e u z = elim u [ ]
    first Failed e u z = elim u [ ]
ended_is o (OpenFailure t ∷ l) k = first (stage l) (has_eof l) k.0 (ended_is o l k.1)
  where
    first : (q : Stage) (e : Bool) → MayFollow (OpenFailure t) q o → ended q ≡ (e || closed q) → false ≡ (e || false)
    first Quiet e u z = z
    first Speaking e u z = elim u [ ]
    first Ended e u z = elim u [ ]
    first Closed e u z = elim u [ ]
    first Failed e u z = elim u [ ]
ended_is o (Eof t ∷ l) k = refl
ended_is o (Close t ∷ l) k = or_true (has_eof l)
ended_is o (m ∷ l) k = ended_is o l k.1
