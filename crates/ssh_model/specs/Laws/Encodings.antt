-- No encoding of a value begins with an encoding of another value.
use Rattle.std.proofs.Common.{◌≡◌, ℕ, ltb, List, [], ◌∷◌, ◌++◌, length, refl, sym, ap, subst, ◌∙◌, append_assoc, arith}
use Rattle.ssh_model.specs.Protocol.Wire.DataTypes.{IsByte, IsBoolean, IsUnsigned, IsUint32, IsString, IsNameText, IsNameList}
use Rattle.ssh_model.specs.Laws.DataTypes.{IsUint64}
use Rattle.ssh_model.specs.Laws.Reading.{OneForm}
use Rattle.ssh_model.specs.Protocol.Wire.Message.{IsCookie}
use Rattle.ssh_model.specs.Laws.Names.{one_text}

-- If two prefixes of a list have the same length, they are the same.
pub same_front : (a b x y : List ℕ) → length a ≡ length b → a ++ x ≡ b ++ y → (a ≡ b) × (x ≡ y)
same_front [] [] x y l e = (refl, e)
same_front [] (c ∷ b) x y l e = absurd (omega arith)
same_front (c ∷ a) [] x y l e = absurd (omega arith)
same_front (c ∷ a) (d ∷ b) x y l e =
    let head : c ≡ d = cc in
    let rest : a ++ x ≡ b ++ y = cc in
    let r = same_front a b x y (omega arith) rest in
    (λ i. head i ∷ r.0 i, r.1)

-- Each data type has one form: no encoding of a value begins with an encoding of another value.
pub one_byte : OneForm IsByte
one_byte m n a b x y p q e =
    let s = same_front a b x y (omega (arith, ap length p, ap length q)) e in
    (let f = s.0 in cc, s.0, s.1)

pub one_boolean : OneForm IsBoolean
one_boolean m n a b x y p q e =
    let s = one_byte p.0 q.0 a b x y p.1 q.1 e in
    (p.2 ∙ ap (λ (k : ℕ). ltb 0 k) s.0 ∙ sym q.2, s.1, s.2)

pub one_unsigned : (size : ℕ) → OneForm (IsUnsigned size)
one_unsigned size m n a b x y p q e =
    let s = same_front a b x y (p.count ∙ sym q.count) e in
    (let f = s.0 in cc (p.value, q.value), s.0, s.1)

pub one_uint32 : OneForm IsUint32
one_uint32 = one_unsigned 4

pub one_uint64 : OneForm IsUint64
one_uint64 = one_unsigned 8

pub one_string : OneForm IsString
one_string s t a b x y p q e =
    let whole : p.front ++ (s ++ x) ≡ q.front
    ++ (t ++ y) = rw (← append_assoc p.front s x, ← append_assoc q.front t y, ← p.parts, ← q.parts) e in
    let u = one_uint32 (length s) (length t) p.front q.front (s ++ x) (t ++ y) p.size q.size whole in
    let v = same_front s t x y u.0 u.2 in
    (v.0, p.parts ∙ (λ i. u.1 i ++ v.0 i) ∙ sym q.parts, v.1)

pub one_name_list : OneForm IsNameList
one_name_list m n a b x y p q e =
    let s = one_string p.body q.body a b x y p.string q.string e in
    (one_text m n q.body (subst (λ (t : List ℕ). IsNameText m t) s.0 p.text) q.text, s.1, s.2)

pub one_cookie : OneForm IsCookie
one_cookie v w a b x y p q e =
    let s = same_front a b x y (p.count ∙ sym q.count) e in
    (sym p.same ∙ s.0 ∙ q.same, s.0, s.1)
