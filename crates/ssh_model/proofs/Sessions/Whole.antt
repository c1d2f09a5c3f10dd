-- The invariant over whole runs, and the agreement and the beginning that follow from it.
use Rattle.std.proofs.Common.{◌≡◌, ℕ, suc, ◌<◌, List, [], ◌∷◌, ◌++◌, ◌⊎◌, inl, inr, refl, sym, arith, subst, append-nil, Some}
use Rattle.ssh_model.specs.declared.side.Side.{Side}
use Rattle.ssh_model.specs.declared.side.Side.TheVariants.{Client, Server}
use Rattle.ssh_model.specs.Protocol.Side.{DoneBy.By, done_by, part}
use Rattle.ssh_model.specs.Protocol.Lists.{IsOlder, IsIn}
use Rattle.ssh_model.specs.Protocol.Wire.Message.{Msg.NewKeys}
use Rattle.ssh_model.specs.Protocol.KeyExchange.Exchange.{Inputs, exchange_hash}
use Rattle.ssh_model.specs.Laws.KeyExchange.{Fits}
use Rattle.ssh_model.specs.Protocol.Sessions.Parties.{Parties, AreLawful, BothOffer}
use Rattle.ssh_model.specs.Protocol.Sessions.Items.{Item, Item.Fed, Item.Sent, Item.Took, Item.TookGuess, Item.Refused, Payload, Payload.NewkeysOf, Payload.OtherOf, bytes_of, Done, sent, took}
use Rattle.ssh_model.specs.Protocol.Sessions.Epochs.{epoch, count, after_first}
use Rattle.ssh_model.specs.Protocol.KeyExchange.Exchanges.{exchange, exchanges}
use Rattle.ssh_model.specs.Protocol.Sessions.Honest.{AreDistinct, TagsHold, SignaturesHold, HasHash, IsCompleted, IsHonest, cookies, signed}
use Rattle.ssh_model.specs.Protocol.Sessions.Claims.{TookUnder, Beginning}
use Rattle.ssh_model.specs.Protocol.Sessions.Turns.{Run, Run.start, Run.then_turn}
use Rattle.ssh_model.proofs.Sessions.Older.{in_older, reverse_older, map_older}
use Rattle.ssh_model.proofs.KeyExchange.Texts.{equal_inputs}
use Rattle.ssh_model.proofs.Sessions.Rules.{Rules, tagged, exchanges_grow, exchanges_fit}
use Rattle.ssh_model.proofs.Sessions.Agree.{Kept, Known, Apart, ServerNext, client_next, server_next, under_next, client_completes, server_completes, client_sends, server_sends}
use Rattle.ssh_model.proofs.Sessions.Sound.{BothFormed, formed_tail}
use Rattle.ssh_model.proofs.Sessions.SoundTurns.{sounds}
use Rattle.ssh_model.proofs.Sessions.EndKeeps.{End}
use Rattle.ssh_model.proofs.Sessions.EndRuns.{part_other, end_run}
use Rattle.ssh_model.proofs.Sessions.EndTurns.{end_keeps}

-- the signatures, of what the server completed
abbrev pub Signed : {K : Type 0} → Parties K → List Done → Type 0
Signed p [] = Unit {0}
Signed p (By Client (Sent c NewKeys b) ∷ run) = HasHash (exchange_hash (exchange p Client (epoch (sent (part Client run))) (part Client run))) (exchanges p Server (part Server run)) × Signed p run
Signed p (_ ∷ run) = Signed p run

-- what is known of a run
pub record Given {K : Type 0} (p : Parties K) (run : List Done) : Type 0 where
  pub offer : BothOffer p
  pub formed : BothFormed p run
  pub rules : (side : Side) → Rules p side (part side run)
  pub tags : TagsHold p run
  pub signatures : Signed p run
  pub fresh : (side : Side) → AreDistinct (cookies (part side run))
  pub apart : Apart (exchanges p Client (part Client run)) (exchanges p Server (part Server run))

module _ {K : Type 0} (p : Parties K) where
  pub fresh_tail : (side t : Side) (i : Item) (run : List Done) → AreDistinct (cookies (part side (By t i ∷ run))) → AreDistinct (cookies (part side run))
  fresh_tail Client Client (Fed c s) run d = d.1
  fresh_tail Client Client i run d = d
  fresh_tail Client Server i run d = d
  fresh_tail Server Server (Fed c s) run d = d.1
  fresh_tail Server Server i run d = d
  fresh_tail Server Client i run d = d

  pub completed_grows : (t : Side) (i : Item) (run : List Done) (x : Inputs) → IsCompleted p x run → IsCompleted p x (By t i ∷ run)
  completed_grows Client i run x (inl h) = inl (in_older x _ _ (exchanges_grow p Client i (part Client run)) h)
  completed_grows Client i run x (inr h) = inr h
  completed_grows Server i run x (inl h) = inl h
  completed_grows Server i run x (inr h) = inr (in_older x _ _ (exchanges_grow p Server i (part Server run)) h)

  pub known : (run : List Done) → Given p run → Known p (part Client run) (part Server run)
  known run g = record { offer = g.offer; formed_c = g.formed Client; formed_s = g.formed Server; rules_c = g.rules Client; rules_s = g.rules Server; fresh_c = g.fresh Client; fresh_s = g.fresh Server; apart = g.apart }

  rules_tail : (t : Side) (i : Item) (run : List Done) → ((side : Side) → Rules p side (part side (By t i ∷ run))) → (side : Side) → Rules p side (part side run)
  rules_tail Client i run r Client = (r Client).1
  rules_tail Client i run r Server = r Server
  rules_tail Server i run r Client = r Client
  rules_tail Server i run r Server = (r Server).1

  pub tags_tail : (t : Side) (i : Item) (run : List Done) → TagsHold p (By t i ∷ run) → TagsHold p run
  tags_tail t (Took c m b) run h = h.1
  tags_tail t (TookGuess b) run h = h.1
  tags_tail t (Refused n (Some b)) run h = h.1
  tags_tail t i run h = h

  signed_tail : (t : Side) (i : Item) (run : List Done) → Signed p (By t i ∷ run) → Signed p run
  signed_tail Client (Sent c NewKeys b) run h = h.1
  signed_tail t i run h = h

  pub given_tail : (t : Side) (i : Item) (run : List Done) → Given p (By t i ∷ run) → Given p run
  given_tail t i run g = record {
    offer = g.offer;
    formed = formed_tail p t i run g.formed;
    rules = rules_tail t i run g.rules;
    tags = tags_tail t i run g.tags;
    signatures = signed_tail t i run g.signatures;
    fresh = λ side. fresh_tail side t i run (g.fresh side);
    apart = λ x y a b e. g.apart x y (completed_grows t i run x a) (completed_grows t i run y b) e;
  }

  abbrev KeptIn : List Done → Type 0
  KeptIn run = Kept p (part Client run) (part Server run)

  client_took : (i : Item) (b : List ℕ) (m : Payload) (run : List Done) → took (i ∷ part Client run) ≡ m ∷ took (part Client run) → sent (i ∷ part Client run) ≡ sent (part Client run)
      → exchanges p Client (i ∷ part Client run) ≡ exchanges p Client (part Client run)
      → m ≡ tagged b → IsOlder (after_first (tagged b ∷ took (part Client run))) (after_first (sent (part Server run))) → KeptIn run → Kept p (i ∷ part Client run) (part Server run)
  client_took i b m run e f x t n v = record {
    agree = rw x v.agree;
    ahead = rw x v.ahead;
    reached = rw x v.reached;
    under = rw x v.under;
    to_client = rw (e, t) n;
    to_server = rw f v.to_server;
  }

  server_took : (i : Item) (b : List ℕ) (m : Payload) (run : List Done) → took (i ∷ part Server run) ≡ m ∷ took (part Server run) → sent (i ∷ part Server run) ≡ sent (part Server run)
      → exchanges p Server (i ∷ part Server run) ≡ exchanges p Server (part Server run)
      → ((e : ℕ) → TookUnder e (i ∷ part Server run) → (epoch (took (part Server run)) ≡ suc e) ⊎ TookUnder e (part Server run))
      → m ≡ tagged b → (0 < count (m ∷ took (part Server run)) → epoch (m ∷ took (part Server run)) ≡ epoch (took (part Server run)))
      → ServerNext p b (part Client run) (part Server run) → KeptIn run → Kept p (part Client run) (i ∷ part Server run)
  server_took i b m run e f x u t same n v = record {
    agree = rw x v.agree;
    ahead = rw x v.ahead;
    reached = rw e (λ z. omega (arith, n.reached, same z));
    under = λ k h. under_next p b _ _ n v.under k (u k h);
    to_client = rw f v.to_client;
    to_server = rw (e, t) n.to_server;
  }

  step : (t : Side) (i : Item) (run : List Done) → Given p (By t i ∷ run) → KeptIn run → KeptIn (By t i ∷ run)
  step Client (Took c NewKeys b) run g v =
      client_took (Took c NewKeys b) b (NewkeysOf b) run refl refl refl (g.rules Client).0.1 (client_next p b _ _ (known run (given_tail Client _ run g)) g.tags.0 v) v
  step Client (Took c m b) run g v =
      client_took (Took c m b) b (OtherOf b) run refl refl refl (g.rules Client).0 (client_next p b _ _ (known run (given_tail Client _ run g)) g.tags.0 v) v
  step Client (TookGuess b) run g v =
      client_took (TookGuess b) b (OtherOf b) run refl refl refl (g.rules Client).0 (client_next p b _ _ (known run (given_tail Client _ run g)) g.tags.0 v) v
  step Client (Sent c NewKeys b) run g v = client_completes p c b _ _ (known _ g) g.signatures.0 v
  step Client (Sent c m b) run g v = client_sends p (Sent c m b) (OtherOf b) _ _ refl refl refl v
  step Client i run g v = record { agree = v.agree; ahead = v.ahead; reached = v.reached; under = v.under; to_client = v.to_client; to_server = v.to_server }
  step Server (Took c NewKeys b) run g v =
      server_took (Took c NewKeys b) b (NewkeysOf b) run refl refl refl (λ e h. h) (g.rules Server).0.1 (λ z. absurd (omega (arith, z))) (server_next p b _ _ (known run (given_tail Server _ run g)) g.tags.0 v) v
  step Server (Took c m b) run g v =
      server_took (Took c m b) b (OtherOf b) run refl refl refl (λ e h. h) (g.rules Server).0 (λ z. refl) (server_next p b _ _ (known run (given_tail Server _ run g)) g.tags.0 v) v
  step Server (TookGuess b) run g v =
      server_took (TookGuess b) b (OtherOf b) run refl refl refl (λ e h. h) (g.rules Server).0 (λ z. refl) (server_next p b _ _ (known run (given_tail Server _ run g)) g.tags.0 v) v
  step Server (Sent c NewKeys b) run g v = server_completes p c b _ _ (known _ g) v
  step Server (Sent c m b) run g v = server_sends p (Sent c m b) (OtherOf b) _ _ refl refl refl (λ e h. h) v
  step Server i run g v = record { agree = v.agree; ahead = v.ahead; reached = v.reached; under = v.under; to_client = v.to_client; to_server = v.to_server }

  pub kept : (run : List Done) → Given p run → KeptIn run
  kept [] g = record { agree = refl; ahead = omega arith; reached = λ h. omega arith; under = λ e u. elim u [ ]; to_client = refl; to_server = refl }
  kept (By t i ∷ run) g = step t i run g (kept run (given_tail t i run g))

-- ---- runs

module _ {K : Type 0} (p : Parties K) (laws : AreLawful p) where
  pub ends : (run : List Done) → Run p run → (side : Side) → End p side (part side run)
  ends run r side = end_keeps p laws side _ (end_run p run r side)

  server_adds : (items : List Item) (run : List Done) → SignaturesHold p (done_by Server items ++ run) → (SignaturesHold p run → Signed p run) → Signed p (done_by Server items ++ run)
  server_adds [] run s f = f s
  server_adds (i ∷ items) run s f = server_adds items run s f

  client_adds : (items : List Item) (run : List Done) → signed p (part Server run) ≡ exchanges p Server (part Server run)
      → SignaturesHold p (done_by Client items ++ run) → (SignaturesHold p run → Signed p run) → Signed p (done_by Client items ++ run)
  client_adds [] run o s f = f s
  client_adds (Sent c NewKeys b ∷ items) run o s f =
      let e : signed p (part Server (done_by Client items ++ run)) ≡ exchanges p Server (part Server (done_by Client items ++ run)) = rw (part_other Client items run) o in
      let P : List Inputs → Type 0 = λ l. IsIn s.0.0 l in
      ((s.0.0, subst P e s.0.1, s.0.2), client_adds items run o s.1 f)
  client_adds (i ∷ items) run o s f = client_adds items run o s f

  all_signed : (run : List Done) → Run p run → SignaturesHold p run → Signed p run
  all_signed run (start client server a b) s =
      server_adds server (done_by Client client) s (λ t. rw (sym (append-nil (done_by Client client))) (client_adds client [] refl (rw (append-nil (done_by Client client)) t) (λ u. tt)))
  all_signed run (then_turn {run = r} {items = items} Client before turn) s = client_adds items r ((ends r before Server).signed_is refl) s (all_signed r before)
  all_signed run (then_turn {run = r} {items = items} Server before turn) s = server_adds items r s (all_signed r before)

  completed_fits : (run : List Done) → ((side : Side) → Rules p side (part side run)) → (x : Inputs) → IsCompleted p x run → Fits x
  completed_fits run r x (inl i) = exchanges_fit p Client (part Client run) x (r Client) i
  completed_fits run r x (inr i) = exchanges_fit p Server (part Server run) x (r Server) i

  pub given : BothOffer p → (run : List Done) → Run p run → IsHonest p run → Given p run
  given offer run r h =
      let rules : (side : Side) → Rules p side (part side run) = λ side. (ends run r side).rules in
      record {
        offer = offer;
        formed = λ side. (sounds p laws run r side).formed;
        rules = rules;
        tags = h.tags;
        signatures = all_signed run r h.signatures;
        fresh = h.cookies_differ;
        apart = λ x y a b e. equal_inputs x y (completed_fits run rules x a) (completed_fits run rules y b) (h.hashes x y a b e);
      }

  pub beginning_holds : BothOffer p → (run : List Done) → Run p run → IsHonest p run → Beginning run
  beginning_holds offer run r h Client = reverse_older _ _ (map_older bytes_of _ _ (kept p run (given offer run r h)).to_client)
  beginning_holds offer run r h Server = reverse_older _ _ (map_older bytes_of _ _ (kept p run (given offer run r h)).to_server)
