-- Ends that agree on the inputs of an exchange agree on its algorithms.
use Rattle.std.proofs.Common.{◌≡◌, ℕ, suc, ◌<◌, List, [], ◌∷◌, length, inl, inr, refl, ap, sym, ◌∙◌, arith, subst, Bool, true, false, cond, ◌==◌, eq-eqb}
use Rattle.ssh_model.specs.declared.side.Side.{Side}
use Rattle.ssh_model.specs.declared.side.Side.TheVariants.{Client, Server}
use Rattle.ssh_model.specs.Protocol.Side.{part}
use Rattle.ssh_model.specs.Protocol.Wire.Message.{Msg.NewKeys}
use Rattle.ssh_model.specs.Protocol.KeyExchange.Choice.{Chosen}
use Rattle.ssh_model.specs.Protocol.KeyExchange.Exchange.{Inputs}
use Rattle.ssh_model.specs.Protocol.Sessions.Parties.{Parties, AreLawful, BothOffer, lists_of}
use Rattle.ssh_model.specs.Protocol.Sessions.Items.{Item, Item.Sent, Done, sent, messages_sent, messages_taken}
use Rattle.ssh_model.specs.Protocol.Sessions.Epochs.{epoch}
use Rattle.ssh_model.specs.Protocol.KeyExchange.Exchanges.{Offer, nth, no_offer, offers, no_exchange, none_chosen, exchange, exchanges, choice, choices, chosen}
use Rattle.ssh_model.specs.Protocol.Sessions.Honest.{IsHonest}
use Rattle.ssh_model.specs.Protocol.Sessions.Claims.{Agrees, Agreement}
use Rattle.ssh_model.specs.Protocol.Sessions.Turns.{Run}
use Rattle.ssh_model.proofs.Sessions.Ends.{older_length}
use Rattle.ssh_model.proofs.Sessions.Older.{nth_same}
use Rattle.ssh_model.proofs.KeyExchange.Offers.{IsReal, nth_real, sent_read, taken_read, same_offer}
use Rattle.ssh_model.proofs.Sessions.Agree.{Kept}
use Rattle.ssh_model.proofs.Sessions.Whole.{given, kept}
use Rattle.ssh_model.proofs.Sessions.Sound.{AllFormed}
use Rattle.ssh_model.proofs.Sessions.SoundTurns.{sounds}

-- ---- what the inputs of an exchange fix

record Fixes (x : Inputs) (c : Chosen) : Type 0 where
  client : Offer
  server : Offer
  client_real : IsReal client
  server_real : IsReal server
  client_is : x.client_init ≡ client.payload
  server_is : x.server_init ≡ server.payload
  chosen_is : c ≡ chosen (lists_of client.proposal) (lists_of server.proposal)

fixes_same : (x y : Inputs) (c d : Chosen) → x ≡ y → Fixes x c → Fixes y d → c ≡ d
fixes_same x y c d e f g =
    let a = same_offer f.client g.client f.client_real g.client_real (sym f.client_is ∙ (ap (λ w. w.client_init) e ∙ g.client_is)) in
    let b = same_offer f.server g.server f.server_real g.server_real (sym f.server_is ∙ (ap (λ w. w.server_init) e ∙ g.server_is)) in
    f.chosen_is ∙ ((λ i. chosen (lists_of (a i).proposal) (lists_of (b i).proposal)) ∙ sym g.chosen_is)

module _ {K : Type 0} (p : Parties K) where
  one_fixes : (side : Side) (e : ℕ) (h : List Item) → AllFormed p h → Fixes (exchange p side e h) (choice side e h)
  one_fixes Client e h f = record {
    client = nth no_offer e (offers (messages_sent h));
    server = nth no_offer e (offers (messages_taken h));
    client_real = nth_real e _ (sent_read p h f);
    server_real = nth_real e _ (taken_read p h f);
    client_is = refl;
    server_is = refl;
    chosen_is = refl;
  }
  one_fixes Server e h f = record {
    client = nth no_offer e (offers (messages_taken h));
    server = nth no_offer e (offers (messages_sent h));
    client_real = nth_real e _ (taken_read p h f);
    server_real = nth_real e _ (sent_read p h f);
    client_is = refl;
    server_is = refl;
    chosen_is = refl;
  }

  choices_length : (side : Side) (h : List Item) → length (choices side h) ≡ length (exchanges p side h)
  choices_length side [] = refl
  choices_length side (Sent c NewKeys b ∷ h) = ap suc (choices_length side h)
  choices_length side (i ∷ h) = choices_length side h

  fixes : (side : Side) (h : List Item) → AllFormed p h → (e : ℕ) → e < length (exchanges p side h) → Fixes (nth no_exchange e (exchanges p side h)) (nth none_chosen e (choices side h))
  fixes side [] f e n = absurd (omega (arith, n))
  fixes side (Sent c NewKeys b ∷ h) f e n =
      let P : ℕ → Type 0 = λ k. Fixes (cond (e == length (exchanges p side h)) (exchange p side (epoch (sent h)) h) (nth no_exchange e (exchanges p side h))) (cond (e == k) (choice side (epoch (sent h)) h) (nth none_chosen e (choices side h))) in
      subst P (sym (choices_length side h)) (go (e == length (exchanges p side h)) refl (fixes side h f.1 e))
    where
      below : (e == length (exchanges p side h)) ≡ false → e < length (exchanges p side h)
      below q = grind (arith, q, n, eq-eqb)

      go : (t : Bool) → (e == length (exchanges p side h)) ≡ t → (e < length (exchanges p side h) → Fixes (nth no_exchange e (exchanges p side h)) (nth none_chosen e (choices side h)))
          → Fixes (cond t (exchange p side (epoch (sent h)) h) (nth no_exchange e (exchanges p side h))) (cond t (choice side (epoch (sent h)) h) (nth none_chosen e (choices side h)))
      go true q r = one_fixes side (epoch (sent h)) h f.1
      go false q r = r (below q)
  fixes side (i ∷ h) f e n = fixes side h f.1 e n

module _ {K : Type 0} (p : Parties K) (laws : AreLawful p) where
  agrees : (run : List Done) (e : ℕ) → Run p run → Kept p (part Client run) (part Server run) → e < length (exchanges p Client (part Client run)) → Agrees p e run
  agrees run e r v n =
      let below : e < length (exchanges p Server (part Server run)) = omega (arith, n, older_length _ _ v.agree) in
      let same = nth_same no_exchange e _ _ v.agree n in
      record {
        by_client = n;
        by_server = below;
        same = same;
        same_choice = fixes_same _ _ _ _ same (fixes p Client _ (sounds p laws run r Client).formed e n) (fixes p Server _ (sounds p laws run r Server).formed e below);
      }

  pub agreement_holds : BothOffer p → (run : List Done) → Run p run → IsHonest p run → Agreement p run
  agreement_holds offer run r h e (inl n) = agrees run e r (kept p run (given p laws offer run r h)) n
  agreement_holds offer run r h e (inr u) = let v = kept p run (given p laws offer run r h) in agrees run e r v (v.under e u)
