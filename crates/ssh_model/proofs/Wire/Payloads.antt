-- What the first byte of a payload says, and that what is written is read.
use Rattle.std.proofs.Common.{◌≡◌, ◌≢◌, ℕ, Bool, true, false, eqb, List, [], ◌∷◌, ◌++◌, Some, None, refl, sym, ap, ◌∙◌}
use Rattle.std.proofs.lemmas.Bool.{eq-eqb}
use Rattle.ssh_model.specs.Protocol.Wire.DataTypes.{IsBoolean, IsWrittenBoolean}
use Rattle.ssh_model.specs.Protocol.Wire.Message.{Method, Method.Password, Method.Publickey, Msg, Msg.Debug, Msg.KexInit, Msg.NewKeys, Msg.UserauthRequest, Msg.UserauthFailure, Msg.GlobalRequest, Msg.ChannelRequest, Msg.Unknown, ◌▸◌, IsRow, IsMethod, IsPayload, IsWrittenPayload, FitsContext, is_unknown, message_number}
use Rattle.ssh_model.specs.Protocol.Sessions.Turns.{number_of}

-- ---- the first byte

-- It is the number of the message, in any row.
pub row_tag : (IsTruth : Bool → List ℕ → Type 0) (m : Msg) (payload : List ℕ) → IsRow IsTruth m payload → (rest : List ℕ) × (payload ≡ message_number m ∷ rest)
row_tag IsTruth (Unknown n) payload row = (row.back, row.parts ∙ ap (λ (f : List ℕ). f ++ row.back) row.first)
row_tag IsTruth m payload row = (row.back, row.parts ∙ ap (λ (f : List ℕ). f ++ row.back) row.first)

pub tag : (m : Msg) (payload : List ℕ) (c : Bool) → IsPayload c m payload → (rest : List ℕ) × (payload ≡ message_number m ∷ rest)
tag m payload c p = row_tag IsBoolean m payload p.row

pub payload_number : (c : Bool) (m : Msg) (payload : List ℕ) → IsPayload c m payload → number_of payload ≡ message_number m
payload_number c m payload p = ap number_of (tag m payload c p).1

pub written_tag : (m : Msg) (payload : List ℕ) → IsWrittenPayload m payload → (rest : List ℕ) × (payload ≡ message_number m ∷ rest)
written_tag m payload p = row_tag IsWrittenBoolean m payload p

pub not_both : true ≡ false → ⊥
not_both e = cc

of_21 : (c : Bool) (m : Msg) → FitsContext c m → eqb (message_number m) 21 ≡ true → is_unknown c (message_number m) ≡ false → m ≡ NewKeys
of_21 c NewKeys s e f = refl
of_21 c (Unknown n) s e f = absurd (not_both (sym s ∙ f))
of_21 c m s e f = absurd (not_both (sym e))

-- 21 is the number of NEWKEYS alone.
pub new_keys_number : (c : Bool) (m : Msg) → FitsContext c m → message_number m ≡ 21 → m ≡ NewKeys
new_keys_number c m s e = of_21 c m s (eq-eqb _ _ e) (ap (is_unknown c) e)

-- The payload of any other message begins with another byte.
pub row_not_21 : (IsTruth : Bool → List ℕ → Type 0) (m : Msg) (payload rest : List ℕ) (c : Bool) → FitsContext c m → IsRow IsTruth m payload → m ≢ NewKeys → payload ≢ 21 ∷ rest
row_not_21 IsTruth m payload rest c s row other e =
    let t = row_tag IsTruth m payload row in
    let front : message_number m ∷ t.0 ≡ 21 ∷ rest = sym t.1 ∙ e in
    other (new_keys_number c m s cc)

pub not_21 : (m : Msg) (payload rest : List ℕ) (c : Bool) → IsPayload c m payload → m ≢ NewKeys → payload ≢ 21 ∷ rest
not_21 m payload rest c p = row_not_21 IsBoolean m payload rest c p.context p.row

-- The payload of NEWKEYS is that one byte.
pub row_21 : (IsTruth : Bool → List ℕ → Type 0) (payload : List ℕ) → IsRow IsTruth NewKeys payload → payload ≡ 21 ∷ []
row_21 IsTruth payload row = row.parts ∙ (λ i. row.first i ++ row.second i)

-- ---- what is written

on : {P P2 Q Q2 : List ℕ → Type 0} → ((b : List ℕ) → P b → P2 b) → ((b : List ℕ) → Q b → Q2 b) → (bytes : List ℕ) → (P ▸ Q) bytes → (P2 ▸ Q2) bytes
on f g bytes t = record { front = t.front; back = t.back; first = f t.front t.first; second = g t.back t.second; parts = t.parts }

-- this field stays as it is
past : {P Q Q2 : List ℕ → Type 0} → ((b : List ℕ) → Q b → Q2 b) → (bytes : List ℕ) → (P ▸ Q) bytes → (P ▸ Q2) bytes
past g = on (λ b p. p) g

-- this field is a boolean, and those after it stay
flag : {t : Bool} {Q : List ℕ → Type 0} (bytes : List ℕ) → (IsWrittenBoolean t ▸ Q) bytes → (IsBoolean t ▸ Q) bytes
flag {t = false} = on (λ b e. (0, e, refl)) (λ b q. q)
flag {t = true} = on (λ b e. (1, e, refl)) (λ b q. q)

written_method : (m : Method) (bytes : List ℕ) → IsMethod IsWrittenBoolean m bytes → IsMethod IsBoolean m bytes
written_method (Password password None) = past flag
written_method (Password password (Some new)) = past flag
written_method (Publickey algorithm key None) = past flag
written_method (Publickey algorithm key (Some signature)) = past flag
written_method m = λ bytes p. p

pub written_is_read : (m : Msg) (payload : List ℕ) → IsRow IsWrittenBoolean m payload → IsRow IsBoolean m payload
written_is_read (Debug display message language) = past flag
written_is_read (KexInit p) = past (past (past (past (past (past (past (past (past (past (past (past flag)))))))))))
written_is_read (UserauthRequest user service method) = past (past (past (written_method method)))
written_is_read (UserauthFailure methods partial) = past (past flag)
written_is_read (GlobalRequest name want left) = past (past flag)
written_is_read (ChannelRequest recipient name want left) = past (past (past flag))
written_is_read m = λ payload p. p
