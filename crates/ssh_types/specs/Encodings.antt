-- A value has one encoding.
use Rattle.std.proofs.Common.{◌≡◌, ℕ, ◌+◌, ◌^◌, ◌<◌, List, ◌++◌, length, length-append, refl, sym, ap, subst, ◌∙◌, arith}
use Rattle.std.specs.Int.{w32, to_be_bytes}
use Rattle.ssh_model.specs.Protocol.Wire.DataTypes.{IsByte, IsWrittenBoolean, IsUnsigned, IsUint32, IsString, IsNameList}
use Rattle.ssh_model.specs.Laws.DataTypes.{IsUint64, IsMpint}
use Rattle.ssh_model.specs.Protocol.KeyExchange.Exchange.{string_of}
use Rattle.ssh_model.specs.Laws.Reading.{OneEncoding, Writes}
use Rattle.ssh_types.specs.WholeNumbers.{one_list, one_shortest}

pub byte_encoding : OneEncoding IsByte
byte_encoding n a b p q = p ∙ sym q

pub boolean_encoding : OneEncoding IsWrittenBoolean
boolean_encoding truth a b p q = p ∙ sym q

pub unsigned_encoding : (size : ℕ) → OneEncoding (IsUnsigned size)
unsigned_encoding size n a b p q = one_list a b p.are_bytes q.are_bytes (p.count ∙ sym q.count) (p.value ∙ sym q.value)

pub uint32_encoding : OneEncoding IsUint32
uint32_encoding = unsigned_encoding 4

pub uint64_encoding : OneEncoding IsUint64
uint64_encoding = unsigned_encoding 8

pub string_encoding : OneEncoding IsString
string_encoding text a b p q =
    let front = uint32_encoding (length text) p.front q.front p.size q.size in
    p.parts ∙ ap (λ (l : List ℕ). l ++ text) front ∙ sym q.parts

-- strings of one text
strings_encoding : (s t a b : List ℕ) → s ≡ t → IsString s a → IsString t b → a ≡ b
strings_encoding s t a b same p q =
    let front = uint32_encoding (length t) p.front q.front (subst (λ (l : List ℕ). IsUint32 (length l) p.front) same p.size) q.size in
    p.parts ∙ ap (λ (l : List ℕ). p.front ++ l) same ∙ ap (λ (l : List ℕ). l ++ t) front ∙ sym q.parts

pub mpint_encoding : OneEncoding IsMpint
mpint_encoding z a b p q = strings_encoding p.body q.body a b (one_shortest z z p.body q.body p.shortest q.shortest refl) p.string q.string

pub names_encoding : OneEncoding IsNameList
names_encoding names a b p q = strings_encoding p.body q.body a b (p.text.joined ∙ sym q.text.joined) p.string q.string

-- ---- the encoding of a string as a function

is_uint32 : (n : ℕ) → n < 2 ^ 32 → IsUint32 n (to_be_bytes w32 n)
is_uint32 n small = record { are_bytes = (omega arith, (omega arith, (omega arith, (omega arith, tt)))); count = refl; value = omega arith }

pub is_string : (text : List ℕ) → length text < 2 ^ 32 → IsString text (string_of text)
unfolding string_of
is_string text small = record { front = to_be_bytes w32 (length text); size = is_uint32 (length text) small; parts = refl }

-- what was written is the string
pub written_string : (text before after : List ℕ) → length text < 2 ^ 32 → Writes (IsString text) before after → after ≡ before ++ string_of text
written_string text before after small w =
    w.parts ∙ ap (λ (l : List ℕ). before ++ l) (string_encoding text w.bytes (string_of text) w.meets (is_string text small))

pub string_length : (text : List ℕ) → length (string_of text) ≡ 4 + length text
unfolding string_of
string_length text = omega (arith, length-append (to_be_bytes w32 (length text)) text)
