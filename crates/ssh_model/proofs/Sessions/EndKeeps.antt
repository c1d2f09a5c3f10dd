-- What holds of one end, or of a transport, between its turns, and that most items keep it.
use Rattle.std.proofs.Common.{◌≡◌, ℕ, suc, ◌+◌, ◌<◌, ◌≤◌, ◌^◌, List, [], ◌∷◌, ◌++◌, length, map, inr, refl, sym, ap, ◌∙◌, arith, Bool, true, false, Option}
use Rattle.ssh_model.specs.Protocol.Bounds.{largest_packet}
use Rattle.ssh_model.specs.declared.side.Side.{Side}
use Rattle.ssh_model.specs.declared.side.Side.TheVariants.{Client, Server}
use Rattle.ssh_model.specs.Protocol.Lists.{IsOlder}
use Rattle.ssh_model.specs.Protocol.Wire.Message.{Msg, Msg.KexInit, Msg.NewKeys, Msg.KexEcdhInit, Msg.KexEcdhReply, IsPayload, message_number}
use Rattle.ssh_model.specs.Laws.KeyExchange.{Fits}
use Rattle.ssh_model.specs.Protocol.Sessions.Parties.{Parties}
use Rattle.ssh_model.specs.Protocol.Sessions.Items.{Payload.OtherOf, Item, Item.Fed, Item.Asked, Item.AskRefused, Item.TookLine, Item.TookOtherLine, Item.Sent, Item.Took, Item.Told, Item.Refused, Item.Died, sent, took, Encoded, messages_sent, messages_taken}
use Rattle.ssh_model.specs.Protocol.Sessions.Epochs.{epoch}
use Rattle.ssh_model.specs.Protocol.KeyExchange.Exchanges.{nth, exchange, exchanges, no_offer, no_reply, no_material, fed, offers, points, replies, sent_line, took_line}
use Rattle.ssh_model.specs.Protocol.Sessions.Phases.{Phase, Phase.Start, Phase.Guessed, Phase.Exchanging, Phase.Keying, Phase.Normal, phase, blocked}
use Rattle.ssh_model.specs.Protocol.Sessions.Honest.{cookies, signed}
use Rattle.ssh_model.specs.Protocol.Sessions.Turns.{IsEncoded, AreEncoded, number_of}
use Rattle.ssh_model.specs.Protocol.Sessions.AnyLayers.{is_own_number}
use Rattle.ssh_model.proofs.Sessions.Older.{IsNth, nth_older, nth_map, nth_is}
use Rattle.ssh_model.proofs.Sessions.Parts.{shared_fits}
use Rattle.ssh_model.proofs.Sessions.Rules.{Rules, tagged, cookie_of, own_cookie}
use Rattle.ssh_model.proofs.Sessions.Encoding.{other_tagged, sent_other_tag, taken_other_tag, sent_number, taken_number, AllFit, sent_fits, taken_fits, nth_offer_fits, nth_point_fits, nth_reply_fits}

-- how many KEXINITs go beyond the NEWKEYS
abbrev pub extra : Bool → ℕ
extra true = 1
extra false = 0

-- the epochs of the two directions, by what is awaited: `out` where the end is blocked, s of what it sent, t of what it took
abbrev pub InStep : Phase → Bool → ℕ → ℕ → Type 0
InStep Start out s t = (out ≡ true) × (s ≡ t)
InStep Guessed out s t = (out ≡ true) × (s ≡ t)
InStep Exchanging out s t = (out ≡ true) × (s ≡ t)
InStep Keying out s t = (out ≡ false) × (s ≡ suc t)
InStep Normal out s t = s ≡ t

-- past the start a KEXINIT was taken
abbrev pub Heard : Phase → ℕ → Type 0
Heard Start n = Unit {0}
Heard _ n = 0 < n

-- the cookies of the KEXINITs that were sent
abbrev pub used : List Encoded → List (List ℕ)
used l = map (λ o. cookie_of o.payload) (offers l)

-- a payload has the number of its message
abbrev pub Numbered : Item → Type 0
Numbered (Sent c m b) = number_of b ≡ message_number m
Numbered (Took c m b) = number_of b ≡ message_number m
Numbered _ = Unit {0}

abbrev pub AllNumbered : List Item → Type 0
AllNumbered [] = Unit {0}
AllNumbered (i ∷ h) = Numbered i × AllNumbered h

pub record End {K : Type 0} (p : Parties K) (side : Side) (h : List Item) : Type 0 where
  pub in_step : InStep (phase p side h) (blocked h) (epoch (sent h)) (epoch (took h))
  pub offered : 0 < length (offers (messages_sent h))
  pub heard : Heard (phase p side h) (length (offers (messages_taken h)))
  pub offers_sent : length (offers (messages_sent h)) ≡ epoch (sent h) + extra (blocked h)
  pub cookies_used : IsOlder (used (messages_sent h)) (cookies h)
  pub fit_sent : AllFit (messages_sent h)
  pub fit_taken : AllFit (messages_taken h)
  pub line_sent : length (sent_line h) < 2 ^ 32
  pub line_taken : length (took_line h) < 2 ^ 32
  pub rules : Rules p side h
  pub numbered : AllNumbered h
  -- what the server signed are the exchanges that it completed
  pub signed_is : side ≡ Server → signed p h ≡ exchanges p Server h

-- ---- items that keep it

-- neither a line, nor fed, sent or taken
abbrev pub IsQuiet : Item → Type 0
IsQuiet (Asked ask) = Unit {0}
IsQuiet (AskRefused refusal) = Unit {0}
IsQuiet (Told fact) = Unit {0}
IsQuiet (Refused refusal payload) = Unit {0}
IsQuiet Died = Unit {0}
IsQuiet (TookOtherLine line) = Unit {0}
IsQuiet _ = ⊥

pub add_quiet : {K : Type 0} (p : Parties K) (side : Side) (i : Item) (h : List Item) → IsQuiet i → End p side h → End p side (i ∷ h)
add_quiet p side (Asked ask) h q v = record { in_step = v.in_step; offered = v.offered; heard = v.heard; offers_sent = v.offers_sent; cookies_used = v.cookies_used; fit_sent = v.fit_sent; fit_taken = v.fit_taken; line_sent = v.line_sent; line_taken = v.line_taken; rules = (tt, v.rules); numbered = (tt, v.numbered); signed_is = v.signed_is }
add_quiet p side (AskRefused r) h q v = record { in_step = v.in_step; offered = v.offered; heard = v.heard; offers_sent = v.offers_sent; cookies_used = v.cookies_used; fit_sent = v.fit_sent; fit_taken = v.fit_taken; line_sent = v.line_sent; line_taken = v.line_taken; rules = (tt, v.rules); numbered = (tt, v.numbered); signed_is = v.signed_is }
add_quiet p side (Told fact) h q v = record { in_step = v.in_step; offered = v.offered; heard = v.heard; offers_sent = v.offers_sent; cookies_used = v.cookies_used; fit_sent = v.fit_sent; fit_taken = v.fit_taken; line_sent = v.line_sent; line_taken = v.line_taken; rules = (tt, v.rules); numbered = (tt, v.numbered); signed_is = v.signed_is }
add_quiet p side (Refused r b) h q v = record { in_step = v.in_step; offered = v.offered; heard = v.heard; offers_sent = v.offers_sent; cookies_used = v.cookies_used; fit_sent = v.fit_sent; fit_taken = v.fit_taken; line_sent = v.line_sent; line_taken = v.line_taken; rules = (tt, v.rules); numbered = (tt, v.numbered); signed_is = v.signed_is }
add_quiet p side Died h q v = record { in_step = v.in_step; offered = v.offered; heard = v.heard; offers_sent = v.offers_sent; cookies_used = v.cookies_used; fit_sent = v.fit_sent; fit_taken = v.fit_taken; line_sent = v.line_sent; line_taken = v.line_taken; rules = (tt, v.rules); numbered = (tt, v.numbered); signed_is = v.signed_is }
add_quiet p side (TookOtherLine line) h q v = record { in_step = v.in_step; offered = v.offered; heard = v.heard; offers_sent = v.offers_sent; cookies_used = v.cookies_used; fit_sent = v.fit_sent; fit_taken = v.fit_taken; line_sent = v.line_sent; line_taken = v.line_taken; rules = (tt, v.rules); numbered = (tt, v.numbered); signed_is = v.signed_is }
add_quiet p side i h q v = elim q [ ]

pub add_fed : {K : Type 0} (p : Parties K) (side : Side) (c s : List ℕ) (h : List Item) → End p side h → End p side (Fed c s ∷ h)
add_fed p side c s h v = record { in_step = v.in_step; offered = v.offered; heard = v.heard; offers_sent = v.offers_sent; cookies_used = inr v.cookies_used; fit_sent = v.fit_sent; fit_taken = v.fit_taken; line_sent = v.line_sent; line_taken = v.line_taken; rules = (tt, v.rules); numbered = (tt, v.numbered); signed_is = v.signed_is }

pub add_line : {K : Type 0} (p : Parties K) (side : Side) (line : List ℕ) (h : List Item) → length line < 2 ^ 32 → End p side h → End p side (TookLine line ∷ h)
add_line p side line h n v = record { in_step = v.in_step; offered = v.offered; heard = v.heard; offers_sent = v.offers_sent; cookies_used = v.cookies_used; fit_sent = v.fit_sent; fit_taken = v.fit_taken; line_sent = v.line_sent; line_taken = n; rules = (tt, v.rules); numbered = (tt, v.numbered); signed_is = v.signed_is }

-- a sent message that is neither KEXINIT nor NEWKEYS, nor a signed reply
abbrev pub IsPlainSent : Msg → Type 0
IsPlainSent (KexInit o) = ⊥
IsPlainSent NewKeys = ⊥
IsPlainSent (KexEcdhReply k_s q_s signature) = ⊥
IsPlainSent _ = Unit {0}

pub add_sent : {K : Type 0} (p : Parties K) (side : Side) (c : Option ℕ) (m : Msg) (b : List ℕ) (h : List Item) → IsPlainSent m → IsEncoded m b → End p side h → End p side (Sent c m b ∷ h)
add_sent p side c (KexInit o) b h q s v = elim q [ ]
add_sent p side c NewKeys b h q s v = elim q [ ]
add_sent p side c (KexEcdhReply k q_s g) b h q s v = elim q [ ]
add_sent p side c m b h q s v = record { in_step = v.in_step; offered = v.offered; heard = v.heard; offers_sent = v.offers_sent; cookies_used = v.cookies_used; fit_sent = (sent_fits m b s, v.fit_sent); fit_taken = v.fit_taken; line_sent = v.line_sent; line_taken = v.line_taken; rules = (sent_other_tag m b tt s, v.rules); numbered = (sent_number m b s, v.numbered); signed_is = v.signed_is }

-- a taken message of no exchange
abbrev pub IsPlainTaken : Msg → Type 0
IsPlainTaken (KexInit o) = ⊥
IsPlainTaken NewKeys = ⊥
IsPlainTaken (KexEcdhInit q_c) = ⊥
IsPlainTaken (KexEcdhReply k_s q_s signature) = ⊥
IsPlainTaken _ = Unit {0}

pub add_taken : {K : Type 0} (p : Parties K) (side : Side) (c : Option ℕ) (m : Msg) (b : List ℕ) (probing : Bool) (h : List Item) → IsPlainTaken m → length b ≤ largest_packet → IsPayload probing m b → End p side h → End p side (Took c m b ∷ h)
add_taken p side c (KexInit o) b x h q n s v = elim q [ ]
add_taken p side c NewKeys b x h q n s v = elim q [ ]
add_taken p side c (KexEcdhInit q_c) b x h q n s v = elim q [ ]
add_taken p side c (KexEcdhReply k q_s g) b x h q n s v = elim q [ ]
add_taken p side c m b x h q n s v = record { in_step = v.in_step; offered = v.offered; heard = v.heard; offers_sent = v.offers_sent; cookies_used = v.cookies_used; fit_sent = v.fit_sent; fit_taken = (taken_fits x m b n s, v.fit_taken); line_sent = v.line_sent; line_taken = v.line_taken; rules = (taken_other_tag x m b tt s, v.rules); numbered = (taken_number x m b s, v.numbered); signed_is = v.signed_is }

-- ---- what the layers above send and take

not_tagged_21 : (b : List ℕ) → (number_of b ≡ 21 → ⊥) → OtherOf b ≡ tagged b
not_tagged_21 b f = other_tagged b (λ rest e. f (ap number_of e))

pub not_own : (n k : ℕ) → is_own_number k ≡ true → n ≡ k → is_own_number n ≡ false → ⊥
not_own n k o e f = both (sym o ∙ (ap is_own_number (sym e) ∙ f))
  where
    both : true ≡ false → ⊥
    both x = cc x

pub add_sent_above : {K : Type 0} (p : Parties K) (side : Side) (c : Option ℕ) (m : Msg) (b : List ℕ) (h : List Item) → message_number m ≡ number_of b → is_own_number (number_of b) ≡ false
    → End p side h → End p side (Sent c m b ∷ h)
add_sent_above p side c (KexInit o) b h n f v = absurd (not_own (number_of b) 20 refl (sym n) f)
add_sent_above p side c NewKeys b h n f v = absurd (not_own (number_of b) 21 refl (sym n) f)
add_sent_above p side c (KexEcdhInit q) b h n f v = absurd (not_own (number_of b) 30 refl (sym n) f)
add_sent_above p side c (KexEcdhReply k q_s g) b h n f v = absurd (not_own (number_of b) 31 refl (sym n) f)
add_sent_above p side c m b h n f v = record { in_step = v.in_step; offered = v.offered; heard = v.heard; offers_sent = v.offers_sent; cookies_used = v.cookies_used; fit_sent = (tt, v.fit_sent); fit_taken = v.fit_taken; line_sent = v.line_sent; line_taken = v.line_taken; rules = (not_tagged_21 b (λ e. not_own (number_of b) 21 refl e f), v.rules); numbered = (sym n, v.numbered); signed_is = v.signed_is }

pub add_taken_above : {K : Type 0} (p : Parties K) (side : Side) (c : Option ℕ) (m : Msg) (b : List ℕ) (h : List Item) → message_number m ≡ number_of b → 50 ≤ number_of b
    → End p side h → End p side (Took c m b ∷ h)
add_taken_above p side c (KexInit o) b h n f v = absurd (omega (arith, n, f))
add_taken_above p side c NewKeys b h n f v = absurd (omega (arith, n, f))
add_taken_above p side c (KexEcdhInit q) b h n f v = absurd (omega (arith, n, f))
add_taken_above p side c (KexEcdhReply k q_s g) b h n f v = absurd (omega (arith, n, f))
add_taken_above p side c m b h n f v = record { in_step = v.in_step; offered = v.offered; heard = v.heard; offers_sent = v.offers_sent; cookies_used = v.cookies_used; fit_sent = v.fit_sent; fit_taken = (tt, v.fit_taken); line_sent = v.line_sent; line_taken = v.line_taken; rules = (not_tagged_21 b (λ e. omega (arith, e, f)), v.rules); numbered = (sym n, v.numbered); signed_is = v.signed_is }

-- items that are quiet, or sent and plain
abbrev pub ArePlain : List Item → Type 0
ArePlain [] = Unit {0}
ArePlain (Sent c m b ∷ l) = IsPlainSent m × ArePlain l
ArePlain (i ∷ l) = IsQuiet i × ArePlain l

pub add_plain : {K : Type 0} (p : Parties K) (side : Side) (items h : List Item) → ArePlain items → AreEncoded items → End p side h → End p side (items ++ h)
add_plain p side [] h q s v = v
add_plain p side (Sent c m b ∷ l) h q s v = add_sent p side c m b (l ++ h) q.0 s.0 (add_plain p side l h q.1 s.1 v)
add_plain p side (Asked a ∷ l) h q s v = add_quiet p side (Asked a) (l ++ h) q.0 (add_plain p side l h q.1 s v)
add_plain p side (AskRefused r ∷ l) h q s v = add_quiet p side (AskRefused r) (l ++ h) q.0 (add_plain p side l h q.1 s v)
add_plain p side (Told f ∷ l) h q s v = add_quiet p side (Told f) (l ++ h) q.0 (add_plain p side l h q.1 s v)
add_plain p side (Refused r b ∷ l) h q s v = add_quiet p side (Refused r b) (l ++ h) q.0 (add_plain p side l h q.1 s v)
add_plain p side (Died ∷ l) h q s v = add_quiet p side Died (l ++ h) q.0 (add_plain p side l h q.1 s v)
add_plain p side (TookOtherLine x ∷ l) h q s v = add_quiet p side (TookOtherLine x) (l ++ h) q.0 (add_plain p side l h q.1 s v)
add_plain p side (i ∷ l) h q s v = elim (q.0) [ ]

-- ---- what an exchange is made of

-- the cookie of the last KEXINIT is that of the pair at its place
pub last_cookie : {K : Type 0} (p : Parties K) (side : Side) (h : List Item) → IsOlder (used (messages_sent h)) (cookies h) → length (offers (messages_sent h)) ≡ suc (epoch (sent h))
    → IsNth (own_cookie side (exchange p side (epoch (sent h)) h)) (epoch (sent h)) (cookies h)
last_cookie p Client h o n = nth_older _ _ _ _ o (nth_map (λ x. cookie_of x.payload) _ _ _ (nth_is no_offer (epoch (sent h)) (offers (messages_sent h)) (omega (arith, n))))
last_cookie p Server h o n = nth_older _ _ _ _ o (nth_map (λ x. cookie_of x.payload) _ _ _ (nth_is no_offer (epoch (sent h)) (offers (messages_sent h)) (omega (arith, n))))

pub exchange_fits : {K : Type 0} (p : Parties K) (side : Side) (e : ℕ) (h : List Item) → AllFit (messages_sent h) → AllFit (messages_taken h)
    → length (sent_line h) < 2 ^ 32 → length (took_line h) < 2 ^ 32 → Fits (exchange p side e h)
exchange_fits p Client e h s t a b = record {
  client_version = a;
  server_version = b;
  client_init = nth_offer_fits e (messages_sent h) s;
  server_init = nth_offer_fits e (messages_taken h) t;
  host_key = (nth_reply_fits e (messages_taken h) t).0;
  client_point = nth_point_fits e (messages_sent h) s;
  server_point = (nth_reply_fits e (messages_taken h) t).1;
  shared = shared_fits p Client (nth no_material e (fed h)).secret (nth no_reply e (replies (messages_taken h))).point;
}
exchange_fits p Server e h s t a b = record {
  client_version = b;
  server_version = a;
  client_init = nth_offer_fits e (messages_taken h) t;
  server_init = nth_offer_fits e (messages_sent h) s;
  host_key = (nth_reply_fits e (messages_sent h) s).0;
  client_point = nth_point_fits e (messages_taken h) t;
  server_point = (nth_reply_fits e (messages_sent h) s).1;
  shared = shared_fits p Server (nth no_material e (fed h)).secret (nth [] e (points (messages_taken h)));
}
