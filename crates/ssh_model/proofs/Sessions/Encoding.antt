-- What the payloads of messages tell of them: their tags, their cookies, and that their texts fit.
use Rattle.std.proofs.Common.{◌≡◌, ◌≢◌, ℕ, ◌<◌, ◌≤◌, ◌^◌, List, [], ◌∷◌, ◌++◌, length, take, refl, ap, sym, ◌∙◌, arith, subst, Bool, true, false, cond, ◌==◌, eqb-true}
use Rattle.std.proofs.Math.Seq.{take-append_seam}
use Rattle.ssh_model.specs.Protocol.Bounds.{largest_packet}
use Rattle.ssh_model.specs.Protocol.Wire.DataTypes.{IsBoolean, IsWrittenBoolean}
use Rattle.ssh_model.specs.Protocol.Wire.Message.{Msg, Msg.KexInit, Msg.NewKeys, Msg.KexEcdhInit, Msg.KexEcdhReply, Proposal, IsPayload, message_number}
use Rattle.ssh_model.specs.Protocol.Sessions.Items.{Payload.NewkeysOf, Payload.OtherOf, Encoded, Encoded.EncodedBy}
use Rattle.ssh_model.specs.Protocol.KeyExchange.Exchanges.{Reply, nth, no_offer, no_reply, offers, points, replies}
use Rattle.ssh_model.specs.Protocol.Sessions.Turns.{IsEncoded, number_of}
use Rattle.ssh_model.proofs.Wire.Payloads.{row_not_21, row_21, written_is_read, tag, written_tag}
use Rattle.ssh_model.proofs.KeyExchange.Texts.{string_fits}
use Rattle.ssh_model.proofs.Sessions.Rules.{tagged, cookie_of}

-- ---- tags

pub other_tagged : (b : List ℕ) → ((rest : List ℕ) → b ≢ 21 ∷ rest) → OtherOf b ≡ tagged b
other_tagged [] f = refl
other_tagged (n ∷ rest) f = go (n == 21) refl
  where
    go : (t : Bool) → (n == 21) ≡ t → OtherOf (n ∷ rest) ≡ cond t (NewkeysOf (n ∷ rest)) (OtherOf (n ∷ rest))
    go true e = absurd (f rest (ap (λ w. w ∷ rest) (eqb-true n 21 e)))
    go false e = refl

-- not NEWKEYS
abbrev pub IsOtherMessage : Msg → Type 0
IsOtherMessage NewKeys = ⊥
IsOtherMessage _ = Unit {0}

other : (m : Msg) → IsOtherMessage m → m ≢ NewKeys
other m o e = let P : Msg → Type 0 = λ w. IsOtherMessage w in subst P e o

pub sent_other_tag : (m : Msg) (b : List ℕ) → IsOtherMessage m → IsEncoded m b → OtherOf b ≡ tagged b
sent_other_tag m b o s = other_tagged b (λ rest. row_not_21 IsWrittenBoolean m b rest true s.context s.row (other m o))

pub taken_other_tag : (c : Bool) (m : Msg) (b : List ℕ) → IsOtherMessage m → IsPayload c m b → OtherOf b ≡ tagged b
taken_other_tag c m b o s = other_tagged b (λ rest. row_not_21 IsBoolean m b rest c s.context s.row (other m o))

newkeys_tagged : (b : List ℕ) → b ≡ 21 ∷ [] → NewkeysOf b ≡ tagged b
newkeys_tagged b e = rw e refl

pub sent_newkeys_tag : (b : List ℕ) → IsEncoded NewKeys b → NewkeysOf b ≡ tagged b
sent_newkeys_tag b s = newkeys_tagged b (row_21 IsWrittenBoolean b s.row)

pub taken_newkeys_tag : (c : Bool) (b : List ℕ) → IsPayload c NewKeys b → NewkeysOf b ≡ tagged b
taken_newkeys_tag c b s = newkeys_tagged b (row_21 IsBoolean b s.row)

-- ---- numbers

pub sent_number : (m : Msg) (b : List ℕ) → IsEncoded m b → number_of b ≡ message_number m
sent_number m b s = ap number_of (written_tag m b s.row).1

pub taken_number : (c : Bool) (m : Msg) (b : List ℕ) → IsPayload c m b → number_of b ≡ message_number m
taken_number c m b s = ap number_of (tag m b c s).1

-- ---- cookies

-- The cookie stands right after the number.
pub encoded_cookie : (o : Proposal) (b : List ℕ) → IsEncoded (KexInit o) b → cookie_of b ≡ o.cookie
encoded_cookie o b s =
    let f = s.row.first in
    let c = s.row.second.first in
    let e : b ≡ 20 ∷ (o.cookie ++ s.row.second.back) = s.row.parts ∙ (λ i. f i ++ (s.row.second.parts ∙ ap (λ (w : List ℕ). w ++ s.row.second.back) c.same) i) in
    ap cookie_of e ∙ front o.cookie s.row.second.back (ap length (sym c.same) ∙ c.count)
  where
    front : (x y : List ℕ) → length x ≡ 16 → take 16 (x ++ y) ≡ x
    front x y n = subst (λ k. take k (x ++ y) ≡ x) n (take-append_seam x y)

-- ---- sizes

-- the texts of a message that go into an exchange are short enough for their lengths
abbrev pub TextsFit : Msg → List ℕ → Type 0
TextsFit (KexInit o) b = length b < 2 ^ 32
TextsFit (KexEcdhInit q_c) b = length q_c < 2 ^ 32
TextsFit (KexEcdhReply k_s q_s signature) b = (length k_s < 2 ^ 32) × (length q_s < 2 ^ 32)
TextsFit _ b = Unit {0}

abbrev pub AllFit : List Encoded → Type 0
AllFit [] = Unit {0}
AllFit (EncodedBy m b ∷ l) = TextsFit m b × AllFit l

pub point_fits : (c : Bool) (q b : List ℕ) → IsPayload c (KexEcdhInit q) b → length q < 2 ^ 32
point_fits c q b s = string_fits q s.row.second.front s.row.second.first

pub reply_fits : (c : Bool) (k_s q_s g b : List ℕ) → IsPayload c (KexEcdhReply k_s q_s g) b → (length k_s < 2 ^ 32) × (length q_s < 2 ^ 32)
reply_fits c k_s q_s g b s = (string_fits k_s s.row.second.front s.row.second.first, string_fits q_s s.row.second.second.front s.row.second.second.first)

pub taken_fits : (c : Bool) (m : Msg) (b : List ℕ) → length b ≤ largest_packet → IsPayload c m b → TextsFit m b
taken_fits c (KexInit o) b n s = omega (arith, n)
taken_fits c (KexEcdhInit q_c) b n s = point_fits c q_c b s
taken_fits c (KexEcdhReply k_s q_s signature) b n s = reply_fits c k_s q_s signature b s
taken_fits c m b n s = tt

pub encoded_is_read : (m : Msg) (b : List ℕ) → IsEncoded m b → IsPayload true m b
encoded_is_read m b s = record { context = s.context; row = written_is_read m b s.row }

pub sent_fits : (m : Msg) (b : List ℕ) → IsEncoded m b → TextsFit m b
sent_fits m b s = taken_fits true m b (omega (arith, s.size)) (encoded_is_read m b s)

nth_cond : {A : Type 0} (P : A → Type 0) (t : Bool) (x y : A) → P x → P y → P (cond t x y)
nth_cond P true x y a b = a
nth_cond P false x y a b = b

pub nth_offer_fits : (e : ℕ) (l : List Encoded) → AllFit l → length (nth no_offer e (offers l)).payload < 2 ^ 32
nth_offer_fits e [] f = omega arith
nth_offer_fits e (EncodedBy (KexInit o) b ∷ l) f =
    nth_cond (λ x. length x.payload < 2 ^ 32) (e == length (offers l)) (record { proposal = o; payload = b }) (nth no_offer e (offers l)) f.0 (nth_offer_fits e l f.1)
nth_offer_fits e (EncodedBy m b ∷ l) f = nth_offer_fits e l f.1

pub nth_point_fits : (e : ℕ) (l : List Encoded) → AllFit l → length (nth [] e (points l)) < 2 ^ 32
nth_point_fits e [] f = omega arith
nth_point_fits e (EncodedBy (KexEcdhInit q) b ∷ l) f =
    nth_cond (λ (x : List ℕ). length x < 2 ^ 32) (e == length (points l)) q (nth [] e (points l)) f.0 (nth_point_fits e l f.1)
nth_point_fits e (EncodedBy m b ∷ l) f = nth_point_fits e l f.1

abbrev ReplyFits : Reply → Type 0
ReplyFits x = (length x.host_key < 2 ^ 32) × (length x.point < 2 ^ 32)

pub nth_reply_fits : (e : ℕ) (l : List Encoded) → AllFit l → ReplyFits (nth no_reply e (replies l))
nth_reply_fits e [] f = (omega arith, omega arith)
nth_reply_fits e (EncodedBy (KexEcdhReply k q s) b ∷ l) f =
    nth_cond ReplyFits (e == length (replies l)) (record { host_key = k; point = q; signature = s }) (nth no_reply e (replies l)) f.0 (nth_reply_fits e l f.1)
nth_reply_fits e (EncodedBy m b ∷ l) f = nth_reply_fits e l f.1
