-- A payload and its message: at most one, and the one that was written.
use Rattle.std.proofs.Common.{◌≡◌, ℕ, Bool, true, false, List, [], ◌∷◌, ◌++◌, Some, None, Result, Ok, Err, refl, sym, ap, subst, ◌∙◌}
use Rattle.std.specs.Prelude.{IfOk, IfErr, IsOkAnd}
use Rattle.ssh_model.specs.Protocol.Wire.DataTypes.{IsByte, IsBoolean, IsWrittenBoolean}
use Rattle.ssh_model.specs.Laws.Reading.{Reads, NoFront}
use Rattle.ssh_model.specs.Protocol.Wire.Message.{Method, Msg, Then, IsRow, IsMethod, IsPayload, IsWrittenPayload, FitsContext, message_number, Password, Publickey, Debug, KexInit, UserauthRequest, UserauthFailure, GlobalRequest, ChannelRequest, Unknown}
use Rattle.ssh_model.specs.Protocol.Sessions.Turns.{number_of}
use Rattle.ssh_message.specs.declared.message.Message as code
use Rattle.ssh_message.specs.Meaning.{meaning, IsMeant, NoMessage}

-- ---- the number

-- what any row begins with
row_front : (IsTruth : Bool → List ℕ → Type 0) (m : Msg) (payload : List ℕ) → IsRow IsTruth m payload → (rest : List ℕ) × (payload ≡ message_number m ∷ rest)
row_front IsTruth (Unknown number) payload row = (row.back, row.parts ∙ ap (λ (f : List ℕ). f ++ row.back) row.first)
row_front IsTruth m payload row = (row.back, row.parts ∙ ap (λ (f : List ℕ). f ++ row.back) row.first)

pub no_number : {probing : Bool} {payload : List ℕ} → NoFront IsByte payload → NoMessage probing payload
no_number {payload = payload} h = record { none = λ m p. let f = row_front IsBoolean m payload p.row in h.none (message_number m) (message_number m ∷ []) f.0 refl f.1 }

number_read : {n : ℕ} {payload rest : List ℕ} → Reads (IsByte n) payload rest → payload ≡ n ∷ rest
number_read {rest = rest} r = r.parts ∙ ap (λ (f : List ℕ). f ++ rest) r.meets

-- what was read after the number
pub found_after : {E : Type 0} (probing : Bool) (r : Result code.Message E) {n : ℕ} {payload rest : List ℕ} → Reads (IsByte n) payload rest → IfOk r (λ m. IsPayload probing (meaning m) (n ∷ rest)) → IfOk r (λ m. IsPayload probing (meaning m) payload)
found_after probing r s h = subst (λ (p : List ℕ). IfOk r (λ m. IsPayload probing (meaning m) p)) (sym (number_read s)) h

pub refused_after : {E : Type 0} (probing : Bool) (r : Result code.Message E) {n : ℕ} {payload rest : List ℕ} → Reads (IsByte n) payload rest → IfErr r (λ _. NoMessage probing (n ∷ rest)) → IfErr r (λ _. NoMessage probing payload)
refused_after probing r s h = subst (λ (p : List ℕ). IfErr r (λ _. NoMessage probing p)) (sym (number_read s)) h

-- what holds in any context holds in this one
pub in_context : {E : Type 0} (probing : Bool) (r : Result code.Message E) {k n : ℕ} (rest : List ℕ) → k ≡ n → IfOk r (λ m. IsMeant m (n ∷ rest)) → IfOk r (λ m. IsPayload probing (meaning m) (k ∷ rest))
in_context probing (Ok m) rest e h = subst (λ (j : ℕ). IsPayload probing (meaning m) (j ∷ rest)) (sym e) (h probing)
in_context probing (Err x) rest e h = tt

pub is_in_context : (probing : Bool) (m : code.Message) {k n : ℕ} (rest : List ℕ) → k ≡ n → IsMeant m (n ∷ rest) → IsPayload probing (meaning m) (k ∷ rest)
is_in_context probing m rest e h = subst (λ (j : ℕ). IsPayload probing (meaning m) (j ∷ rest)) (sym e) (h probing)

-- ---- one message at most

abbrev pub OneMessage : Type 0
OneMessage = (probing : Bool) (m k : Msg) (payload : List ℕ) → IsPayload probing m payload → IsPayload probing k payload → m ≡ k

pub only : {E : Type 0} → OneMessage → (probing : Bool) (r : Result code.Message E) (payload : List ℕ) → IfOk r (λ m. IsPayload probing (meaning m) payload) → IfErr r (λ _. NoMessage probing payload) →
    (m : Msg) → IsPayload probing m payload → IsOkAnd r (λ x. meaning x ≡ m)
only one probing (Ok x) payload f e m p = one probing (meaning x) m payload f p
only one probing (Err e) payload f none m p = none.none m p

-- the first byte is the number of what was read
pub numbered : {E : Type 0} → ((probing : Bool) (m : Msg) (payload : List ℕ) → IsPayload probing m payload → number_of payload ≡ message_number m)
    → (probing : Bool) (r : Result code.Message E) (payload : List ℕ) → IfOk r (λ m. IsPayload probing (meaning m) payload) → IfOk r (λ m. message_number (meaning m) ≡ number_of payload)
numbered numbers probing (Ok x) payload f = sym (numbers probing (meaning x) payload f)
numbered numbers probing (Err e) payload f = tt

-- ---- what was written

then_both : (P P2 Q Q2 : List ℕ → Type 0) (bytes : List ℕ) → ((b : List ℕ) → P b → P2 b) → ((b : List ℕ) → Q b → Q2 b) → Then P Q bytes → Then P2 Q2 bytes
then_both P P2 Q Q2 bytes f g t = record { front = t.front; back = t.back; first = f t.front t.first; second = g t.back t.second; parts = t.parts }

-- the first stays as it is
on : (P Q Q2 : List ℕ → Type 0) → ((b : List ℕ) → Q b → Q2 b) → (bytes : List ℕ) → Then P Q bytes → Then P Q2 bytes
on P Q Q2 g bytes t = then_both P P Q Q2 bytes (λ b p. p) g t

truth : (t : Bool) (bytes : List ℕ) → IsWrittenBoolean t bytes → IsBoolean t bytes
truth true bytes e = (1, e, refl)
truth false bytes e = (0, e, refl)

-- the first is a boolean
flag : (t : Bool) (Q : List ℕ → Type 0) (bytes : List ℕ) → Then (IsWrittenBoolean t) Q bytes → Then (IsBoolean t) Q bytes
flag t Q bytes h = then_both _ _ Q Q bytes (truth t) (λ b q. q) h

written_method : (m : Method) (bytes : List ℕ) → IsMethod IsWrittenBoolean m bytes → IsMethod IsBoolean m bytes
written_method (Password password None) = on _ _ _ (flag false _)
written_method (Password password (Some new)) = on _ _ _ (flag true _)
written_method (Publickey algorithm key None) = on _ _ _ (flag false _)
written_method (Publickey algorithm key (Some signature)) = on _ _ _ (flag true _)
written_method m = λ bytes p. p

written_row : (m : Msg) (payload : List ℕ) → IsRow IsWrittenBoolean m payload → IsRow IsBoolean m payload
written_row (Debug display message language) = on _ _ _ (flag display _)
written_row (KexInit p) =
    on _ _ _ (on _ _ _ (on _ _ _ (on _ _ _ (on _ _ _ (on _ _ _ (on _ _ _ (on _ _ _ (on _ _ _ (on _ _ _ (on _ _ _ (on _ _ _ (flag p.follows _))))))))))))
written_row (UserauthRequest user service method) = on _ _ _ (on _ _ _ (on _ _ _ (written_method method)))
written_row (UserauthFailure methods partial) = on _ _ _ (on _ _ _ (flag partial _))
written_row (GlobalRequest name want rest) = on _ _ _ (on _ _ _ (flag want _))
written_row (ChannelRequest recipient name want rest) = on _ _ _ (on _ _ _ (on _ _ _ (flag want _)))
written_row m = λ payload p. p

pub written_is_read : (probing : Bool) (m : Msg) (payload : List ℕ) → FitsContext probing m → IsWrittenPayload m payload → IsPayload probing m payload
written_is_read probing m payload suits row = record { context = suits; row = written_row m payload row }

pub again : {E : Type 0} → OneMessage → (probing : Bool) (r : Result code.Message E) (payload : List ℕ) → IfOk r (λ m. IsPayload probing (meaning m) payload) → IfErr r (λ _. NoMessage probing payload) →
    (m : Msg) → FitsContext probing m → IsWrittenPayload m payload → IsOkAnd r (λ x. meaning x ≡ m)
again one probing r payload f e m suits row = only one probing r payload f e m (written_is_read probing m payload suits row)

pub ruleset payloads = (no_number, found_after, refused_after)
