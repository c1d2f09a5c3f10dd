-- The toy session is honest.
use Rattle.std.proofs.Common.{◌≡◌, ℕ, List, [], ◌∷◌, ◌⊎◌, inl, inr, refl, ap, sym, ◌∙◌, arith, get_or}
use Rattle.std.specs.Prelude.{length, codes, false, None}
use Rattle.sha2.specs.Sha256.{sha256, digest_bytes, hash_after, compress, rounds, schedule, first_words}
use Rattle.ssh_model.specs.declared.side.Side.{Side}
use Rattle.ssh_model.specs.declared.side.Side.TheVariants.{Client, Server}
use Rattle.ssh_model.specs.Protocol.Side.{part}
use Rattle.ssh_model.specs.Protocol.Lists.{IsIn}
use Rattle.ssh_model.specs.Protocol.Wire.Message.{Method.Password}
use Rattle.ssh_model.specs.Protocol.KeyExchange.Choice.{methods}
use Rattle.ssh_model.specs.Protocol.KeyExchange.Exchange.{Inputs, string_of, mpint_body, digits, exchange_text, exchange_hash}
use Rattle.ssh_model.specs.Protocol.Sessions.Items.{Fact.GotData, Item.Told, has_died}
use Rattle.ssh_model.specs.Protocol.KeyExchange.Exchanges.{nth, no_exchange, exchanges}
use Rattle.ssh_model.specs.Protocol.Sessions.Honest.{AreDistinct, TagsHold, SignaturesHold, IsCompleted, cookies, IsHonest}
use Rattle.ssh_model.specs.Protocol.Sessions.Claims.{TookUnder, HasAccepted}
use Rattle.ssh_model.specs.Example.Toys.{toy, cookie}
use Rattle.ssh_model.specs.Example.Histories.{connection}
use Rattle.ssh_model.specs.Example.Run.{session}

tags_hold : TagsHold toy session
unfolding methods
tags_hold = ((λ z. inl (refl, refl, refl)), ((λ z. inr (inl (refl, refl, refl))), ((λ z. inl (refl, refl, refl)), ((λ z. inr (inl (refl, refl, refl))), ((λ z. inl (refl, refl, refl)), ((λ z. inl (refl, refl, refl)), ((λ z. inl (refl, refl, refl)), ((λ z. inl (refl, refl, refl)), ((λ z. inl (refl, refl, refl)), ((λ z. inl (refl, refl, refl)), ((λ z. inl (refl, refl, refl)), ((λ z. inl (refl, refl, refl)), ((λ z. inl (refl, refl, refl)), ((λ z. inl (refl, refl, refl)), ((λ z. inl (refl, refl, refl)), ((λ z. absurd (omega arith)), ((λ z. absurd (omega arith)), ((λ z. absurd (omega arith)), ((λ z. absurd (omega arith)), ((λ z. absurd (omega arith)), ((λ z. absurd (omega arith)), tt)))))))))))))))))))))

signatures_hold : SignaturesHold toy session
unfolding methods
signatures_hold = ((_, inl refl, refl), ((_, inl refl, refl), tt))

-- ---- the two exchanges

abbrev inputs : ℕ → Inputs
inputs e = nth no_exchange e (exchanges toy Client (part Client session))

first_byte : get_or (exchange_hash (inputs 0)) 0 0 ≡ 202
unfolding methods sha256 digest_bytes hash_after compress rounds schedule first_words string_of mpint_body digits
first_byte = refl

second_byte : get_or (exchange_hash (inputs 1)) 0 0 ≡ 29
unfolding methods sha256 digest_bytes hash_after compress rounds schedule first_words string_of mpint_body digits
second_byte = refl

which : (x : Inputs) → IsCompleted toy x session → (x ≡ inputs 0) ⊎ (x ≡ inputs 1)
unfolding methods
which x (inl (inl e)) = inr e
which x (inl (inr (inl e))) = inl e
which x (inl (inr (inr u))) = elim u [ ]
which x (inr (inl e)) = inr e
which x (inr (inr (inl e))) = inl e
which x (inr (inr (inr u))) = elim u [ ]

-- the hashes of the two differ
apart : (x y : Inputs) → x ≡ inputs 0 → y ≡ inputs 1 → exchange_hash x ≡ exchange_hash y → ⊥
apart x y f g e =
    let same : exchange_hash (inputs 0) ≡ exchange_hash (inputs 1) = sym (ap exchange_hash f) ∙ (e ∙ ap exchange_hash g) in
    omega (arith, first_byte, second_byte, ap (λ (l : List ℕ). get_or l 0 0) same)

hashes_hold : (x y : Inputs) → IsCompleted toy x session → IsCompleted toy y session → exchange_hash x ≡ exchange_hash y → exchange_text x ≡ exchange_text y
hashes_hold x y a b e = go (which x a) (which y b)
  where
    go : (x ≡ inputs 0) ⊎ (x ≡ inputs 1) → (y ≡ inputs 0) ⊎ (y ≡ inputs 1) → exchange_text x ≡ exchange_text y
    go (inl f) (inl g) = ap exchange_text (f ∙ sym g)
    go (inl f) (inr g) = absurd (apart x y f g e)
    go (inr f) (inl g) = absurd (apart y x g f (sym e))
    go (inr f) (inr g) = ap exchange_text (f ∙ sym g)

-- ---- the cookies

two : (b c : ℕ) → (b ≡ c → ⊥) → AreDistinct (cookie b ∷ cookie c ∷ [])
two b c n = (once, ((λ u. elim u [ ]), tt))
  where
    once : IsIn (cookie b) (cookie c ∷ []) → ⊥
    once (inl e) = n (ap (λ (l : List ℕ). get_or l 0 0) e)
    once (inr u) = elim u [ ]

cookies_hold : (side : Side) → AreDistinct (cookies (part side session))
cookies_hold Client = two 162 193 (λ (e : 162 ≡ 193). omega (arith, e))
cookies_hold Server = two 178 209 (λ (e : 178 ≡ 209). omega (arith, e))

pub session_is_honest : IsHonest toy session
session_is_honest = record { tags = tags_hold; signatures = signatures_hold; hashes = hashes_hold; cookies_differ = cookies_hold }

-- ---- what happened in it

pub two_exchanges : (side : Side) → length (exchanges toy side (part side session)) ≡ 2
two_exchanges Client = refl
two_exchanges Server = refl

pub request_accepted : HasAccepted toy session
request_accepted = inr (inr (inr (inr (inr (inr (inl (record { user = codes "u"; service = connection; method = Password (codes "p") None; message_is = refl; accepted = refl; before = refl; had_sent = inl refl })))))))

pub data_came : IsIn (Told (GotData 5 None (codes "hi"))) (part Server session)
data_came = inr (inr (inr (inr (inr (inr (inr (inr (inr (inr (inr (inr (inl refl))))))))))))

pub later_keys : TookUnder 1 (part Server session)
later_keys = inl refl

pub both_live : (side : Side) → has_died (part side session) ≡ false
both_live Client = refl
both_live Server = refl
