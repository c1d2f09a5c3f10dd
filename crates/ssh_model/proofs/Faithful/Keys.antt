-- The next message is sealed under the key and the number with which it is opened.
use Rattle.std.proofs.Common.{◌≡◌, ℕ, zero, suc, ◌<◌, ◌≤◌, List, [], ◌∷◌, length, inl, inr, refl, ap, sym, ◌∙◌, arith, subst, Bool, true, false, Option, Some}
use Rattle.ssh_model.specs.declared.side.Side.{Side}
use Rattle.ssh_model.specs.declared.side.Side.TheVariants.{Client, Server}
use Rattle.ssh_model.specs.Protocol.Side.{peer, part}
use Rattle.ssh_model.specs.Protocol.Bounds.{numbers_of_epoch}
use Rattle.ssh_model.specs.Protocol.Lists.{IsOlder}
use Rattle.ssh_model.specs.Protocol.Wire.Message.{Msg, Msg.NewKeys}
use Rattle.ssh_model.specs.Protocol.KeyExchange.Exchange.{exchange_hash}
use Rattle.ssh_model.specs.Protocol.KeyExchange.Exchanges.{choices, exchanges, is_strict, key_in, key_of, no_exchange, none_chosen, nth, sending_key, sending_number, session_id, taking_key, taking_number}
use Rattle.ssh_model.specs.Protocol.Sessions.Parties.{BothOffer, Parties}
use Rattle.ssh_model.specs.Protocol.Sessions.Items.{Item, Item.Sent, Done, Payload, Payload.NewkeysOf, Payload.OtherOf, sent, took}
use Rattle.ssh_model.specs.Protocol.Sessions.Epochs.{count, epoch, wire_number}
use Rattle.ssh_model.specs.Protocol.Sessions.Claims.{Agreement}
use Rattle.ssh_model.specs.Protocol.Sessions.TurnClaims.{HasNumbers}
use Rattle.ssh_model.proofs.Sessions.Ends.{older_length}
use Rattle.ssh_model.proofs.Sessions.Older.{nth_same, older_self, older_trans}
use Rattle.ssh_model.proofs.Sessions.Rules.{Rules, exchanges_length, exchanges_older, rules_older, took_following}
use Rattle.ssh_model.proofs.Sessions.Sound.{AllFormed, formed_older}
use Rattle.ssh_model.proofs.Sessions.Strict.{strict_pair}
use Rattle.ssh_model.proofs.Faithful.Meets.{Meets}
use Rattle.ssh_model.proofs.Faithful.Next.{same_count, same_epoch}

choices_length : (side : Side) (h : List Item) → length (choices side h) ≡ epoch (sent h)
choices_length side [] = refl
choices_length side (Sent c NewKeys b ∷ h) = ap suc (choices_length side h)
choices_length side (i ∷ h) = choices_length side h

choices_grow : (side : Side) (i : Item) (h : List Item) → IsOlder (choices side h) (choices side (i ∷ h))
choices_grow side (Sent c NewKeys b) h = inr (older_self (choices side h))
choices_grow side i h = older_self (choices side h)

choices_older : (side : Side) (before h : List Item) → IsOlder before h → IsOlder (choices side before) (choices side h)
choices_older side before [] e = let P : List Item → Type 0 = λ l. IsOlder (choices side before) (choices side l) in subst P e (older_self (choices side before))
choices_older side before (i ∷ h) (inl e) = let P : List Item → Type 0 = λ l. IsOlder (choices side before) (choices side l) in subst P e (older_self (choices side before))
choices_older side before (i ∷ h) (inr o) = older_trans _ _ _ (choices_older side before h o) (choices_grow side i h)

pub numbered_before : (c : Option ℕ) (m : Msg) (b : List ℕ) (before h : List Item) → IsOlder (Sent c m b ∷ before) h → HasNumbers h → count (sent before) < numbers_of_epoch
numbered_before c m b before [] e n = absurd (cc e)
numbered_before c m b before (i ∷ h) (inl e) n = let P : List Item → Type 0 = λ l. HasNumbers l in (subst P (sym e) n).0
numbered_before c m b before (Sent d k x ∷ h) (inr o) n = numbered_before c m b before h o n.1
numbered_before c m b before (i ∷ h) (inr o) n = numbered_before c m b before h o n

all_counted : (l : List Payload) → epoch l ≡ 0 → length l ≡ count l
all_counted [] e = refl
all_counted (NewkeysOf b ∷ l) e = absurd (cc e)
all_counted (OtherOf b ∷ l) e = ap suc (all_counted l e)

first_number : (strict : Bool) (l : List Payload) → epoch l ≡ 0 → count l < numbers_of_epoch → wire_number strict l ≡ count l
first_number true l e n = refl
first_number false l e n = omega (arith, all_counted l e, n)

-- what both ends agreed on, and what the sender had of it
pub record Agreed {K : Type 0} (p : Parties K) (side : Side) (h g : List Item) : Type 0 where
  pub exchange_is : (k : ℕ) → k < epoch (took h) → nth no_exchange k (exchanges p side h) ≡ nth no_exchange k (exchanges p (peer side) g)
  pub choice_is : (k : ℕ) → k < epoch (took h) → nth none_chosen k (choices side h) ≡ nth none_chosen k (choices (peer side) g)

module _ {K : Type 0} (p : Parties K) where
  pub agreed : (side : Side) (run : List Done) → Agreement p run → epoch (took (part side run)) ≤ length (exchanges p Client (part Client run)) → Agreed p side (part side run) (part (peer side) run)
  agreed Client run a n = record { exchange_is = λ k l. (a k (inl (omega (arith, l, n)))).same; choice_is = λ k l. (a k (inl (omega (arith, l, n)))).same_choice }
  agreed Server run a n = record { exchange_is = λ k l. sym (a k (inl (omega (arith, l, n)))).same; choice_is = λ k l. sym (a k (inl (omega (arith, l, n)))).same_choice }

  -- the client completed each exchange under whose keys something comes
  pub completed : (side : Side) (run : List Done) (before : List Item) → epoch (took (part side run)) ≡ epoch (sent before) → IsOlder before (part (peer side) run) → Rules p side (part side run)
      → epoch (took (part side run)) ≤ length (exchanges p Client (part Client run))
  completed Client run before e o r = omega (arith, took_following p Client (part Client run) r, exchanges_length p Client (part Client run))
  completed Server run before e o r =
      omega (arith, e, exchanges_length p Client before, older_length _ _ (exchanges_older p Client before (part Client run) o))

  module _ (side : Side) (h g before : List Item) (meets : Meets p side h before) (older : IsOlder before g) (a : Agreed p side h g) where
    level : epoch (took h) ≡ epoch (sent before)
    level = same_epoch h before meets.same

    same_exchange : (k : ℕ) → k < epoch (took h) → nth no_exchange k (exchanges p side h) ≡ nth no_exchange k (exchanges p (peer side) before)
    same_exchange k n =
        a.exchange_is k n ∙ sym (nth_same no_exchange k _ _ (exchanges_older p (peer side) before g older) (omega (arith, n, level, exchanges_length p (peer side) before)))

    same_choice : (k : ℕ) → k < epoch (took h) → nth none_chosen k (choices side h) ≡ nth none_chosen k (choices (peer side) before)
    same_choice k n =
        a.choice_is k n ∙ sym (nth_same none_chosen k _ _ (choices_older (peer side) before g older) (omega (arith, n, level, choices_length (peer side) before)))

    key_at : (e : ℕ) → epoch (took h) ≡ e → key_in p side (peer side) e h ≡ key_in p (peer side) (peer side) e before
    key_at zero z = refl
    key_at (suc k) z =
        let x = same_exchange k (omega (arith, z)) in
        let y = same_exchange 0 (omega (arith, z)) in
        let c = same_choice k (omega (arith, z)) in
        ap (λ w. Some (key_of p.crypto (peer side) w (session_id (exchanges p side h)) (nth none_chosen k (choices side h)))) x
        ∙ (ap (λ w. Some (key_of p.crypto (peer side) (nth no_exchange k (exchanges p (peer side) before)) (exchange_hash w) (nth none_chosen k (choices side h)))) y
        ∙ ap (λ w. Some (key_of p.crypto (peer side) (nth no_exchange k (exchanges p (peer side) before)) (session_id (exchanges p (peer side) before)) w)) c)

    pub same_key : taking_key p side h ≡ sending_key p (peer side) before
    same_key = key_at (epoch (took h)) refl ∙ ap (λ e. key_in p (peer side) (peer side) e before) level

  both_strict : (side : Side) (h before : List Item) → BothOffer p → Rules p side h → Rules p (peer side) before → AllFormed p h → AllFormed p before → 0 < epoch (sent h) → 0 < epoch (sent before)
      → nth no_exchange 0 (exchanges p side h) ≡ nth no_exchange 0 (exchanges p (peer side) before) → (is_strict side h ≡ true) × (is_strict (peer side) before ≡ true)
  both_strict Client h before o r q f g m n e = strict_pair p o h before r q f g m n e
  both_strict Server h before o r q f g m n e = let s = strict_pair p o before h q r g f n m (sym e) in (s.1, s.0)

  pub number_is : (side : Side) (h g before : List Item) (meets : Meets p side h before) → IsOlder before g → Agreed p side h g → BothOffer p → Rules p (peer side) g → AllFormed p g → count (sent before) < numbers_of_epoch
      → (taking_number side h ≡ count (took h)) × (sending_number (peer side) before ≡ count (took h))
  number_is side h g before v older a o r f n = go (epoch (took h)) refl
    where
      counted : count (took h) ≡ count (sent before)
      counted = same_count h before v.no_guess v.same

      go : (e : ℕ) → epoch (took h) ≡ e → (taking_number side h ≡ count (took h)) × (sending_number (peer side) before ≡ count (took h))
      go zero z = (
        first_number (is_strict side h) (took h) z (omega (arith, counted, n)),
        first_number (is_strict (peer side) before) (sent before) (sym (same_epoch h before v.same) ∙ z) n ∙ sym counted,
      )
      go (suc k) z =
          let s = both_strict side h before o v.now.end.rules (rules_older p (peer side) before g older r) v.now.sound.formed (formed_older p before g older f)
          (omega (arith, z, took_following p side h v.now.end.rules)) (omega (arith, z, same_epoch h before v.same)) (same_exchange side h g before v older a 0 (omega (arith, z))) in
          (ap (λ t. wire_number t (took h)) s.0, ap (λ t. wire_number t (sent before)) s.1 ∙ sym counted)
