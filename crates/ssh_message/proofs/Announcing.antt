-- Strings and extensions that stand in front of bytes.
use Rattle.std.proofs.Common.{◌≡◌, ℕ, zero, suc, ◌+◌, ◌-◌, ◌<◌, ◌≤◌, Bool, true, false, ◌&&◌, List, [], ◌∷◌, ◌++◌, length, take, drop, refl, sym, ap, subst, ◌∙◌, append_assoc, arith, length-append, IsTrue}
use Rattle.std.specs.Prelude.{nat_le, ◌==◌}
use Rattle.std.proofs.Math.Dec.{eqb-suc-zero}
use Rattle.std.proofs.Math.Seq.{take-append_seam, drop-append_seam}
use Rattle.std.proofs.lemmas.Bool.{and_parts, leb-true, le-leb}
use Rattle.std.proofs.lemmas.List.{take-append-drop, length-take-le}
use Rattle.ssh_model.specs.Protocol.Wire.DataTypes.{AreBytes, number, IsByte, IsUint32, IsString}
use Rattle.ssh_model.specs.Laws.Reading.{Reads, NoFront, Writes}
use Rattle.ssh_model.specs.Protocol.Wire.Message.{Extension, ◌▸◌, IsExtensions, IsRest}
use Rattle.ssh_model.specs.Laws.Sizes.{extensions_size}
use Rattle.ssh_model.specs.Laws.Encodings.{one_uint32}
use Rattle.ssh_message.specs.Announced.{IsAnnounced}
use Rattle.ssh_message.specs.Parts.{NoWhole}
use Rattle.ssh_message.specs.Extensions.{string_length, string_in, after_string, has_string, after_extension, has_extension, extensions_in, are_extensions, is_empty}

-- ---- a string

-- four bytes, and what follows them
front_of : (front rest : List ℕ) → length front ≡ 4 → take 4 (front ++ rest) ≡ front
front_of front rest four = subst (λ (n : ℕ). take n (front ++ rest) ≡ front) four (take-append_seam front rest)

following_front : (front rest : List ℕ) → length front ≡ 4 → drop 4 (front ++ rest) ≡ rest
following_front front rest four = subst (λ (n : ℕ). drop n (front ++ rest) ≡ rest) four (drop-append_seam front rest)

-- bytes that begin with a string
record Begins (text rest bytes : List ℕ) : Type 0 where
  length_is : string_length bytes ≡ length text
  following : drop 4 bytes ≡ text ++ rest
  four : 4 ≤ length bytes

begins : (text encoded rest bytes : List ℕ) → IsString text encoded → bytes ≡ encoded ++ rest → Begins text rest bytes
begins text encoded rest bytes s e =
    let whole : bytes ≡ s.front ++ (text ++ rest) = e ∙ ap (λ (l : List ℕ). l ++ rest) s.parts ∙ append_assoc s.front text rest in
    record {
      length_is = ap (λ (l : List ℕ). number (take 4 l)) whole ∙ ap number (front_of s.front (text ++ rest) s.size.count) ∙ s.size.value;
      following = ap (λ (l : List ℕ). drop 4 l) whole ∙ following_front s.front (text ++ rest) s.size.count;
      four = omega (arith, ap length whole, length-append s.front (text ++ rest), s.size.count);
    }

text_at : (text rest bytes : List ℕ) → Begins text rest bytes → string_in bytes ≡ text
text_at text rest bytes b = (λ i. take (b.length_is i) (b.following i)) ∙ take-append_seam text rest

rest_at : (text rest bytes : List ℕ) → Begins text rest bytes → after_string bytes ≡ rest
rest_at text rest bytes b = (λ i. drop (b.length_is i) (b.following i)) ∙ drop-append_seam text rest

both_true : (a b : Bool) → a ≡ true → b ≡ true → (a && b) ≡ true
both_true a b p q = rw (p, q) refl

whole_at : (text rest bytes : List ℕ) → Begins text rest bytes → has_string bytes ≡ true
whole_at text rest bytes b = both_true _ _ (le-leb _ _ b.four) (le-leb _ _ (omega (arith, b.length_is, ap length b.following, length-append text rest)))

pub string_text : (text before after : List ℕ) → Reads (IsString text) before after → text ≡ string_in before
string_text text before after r = sym (text_at text after before (begins text r.bytes after before r.meets r.parts))

pub string_rest : (text before after : List ℕ) → Reads (IsString text) before after → after ≡ after_string before
string_rest text before after r = sym (rest_at text after before (begins text r.bytes after before r.meets r.parts))

pub string_whole : (text before after : List ℕ) → Reads (IsString text) before after → has_string before ≡ true
string_whole text before after r = whole_at text after before (begins text r.bytes after before r.meets r.parts)

bytes_front : (count : ℕ) (bytes : List ℕ) → AreBytes bytes → AreBytes (take count bytes)
bytes_front zero bytes h = tt
bytes_front (suc count) [] h = tt
bytes_front (suc count) (b ∷ bytes) h = (h.0, bytes_front count bytes h.1)

pub bytes_following : (count : ℕ) (bytes : List ℕ) → AreBytes bytes → AreBytes (drop count bytes)
bytes_following zero bytes h = h
bytes_following (suc count) [] h = tt
bytes_following (suc count) (b ∷ bytes) h = bytes_following count bytes h.1

-- the string that stands there whole
encoded_in : List ℕ → List ℕ
encoded_in bytes = take 4 bytes ++ string_in bytes

is_string_in : (bytes : List ℕ) → AreBytes bytes → has_string bytes ≡ true → IsString (string_in bytes) (encoded_in bytes)
unfolding encoded_in
is_string_in bytes are h =
    let p = and_parts (nat_le 4 (length bytes)) (nat_le (string_length bytes) (length (drop 4 bytes))) h in
    let four = leb-true _ _ p.0 in
    record {
      front = take 4 bytes;
      size = record { are_bytes = bytes_front 4 bytes are; count = length-take-le 4 bytes four; value = sym (length-take-le (string_length bytes) (drop 4 bytes) (leb-true _ _ p.1)) };
      parts = refl;
    }

parts_in : (bytes : List ℕ) → bytes ≡ encoded_in bytes ++ after_string bytes
unfolding encoded_in
parts_in bytes =
    sym (take-append-drop 4 bytes) ∙ ap (λ (l : List ℕ). take 4 bytes ++ l) (sym (take-append-drop (string_length bytes) (drop 4 bytes)))
    ∙ sym (append_assoc (take 4 bytes) (string_in bytes) (after_string bytes))

pub no_string : (bytes : List ℕ) → AreBytes bytes → NoFront IsString bytes → has_string bytes ≡ false
no_string bytes are none = go (has_string bytes) refl
  where
    go : (b : Bool) → has_string bytes ≡ b → b ≡ false
    go false e = refl
    go true e = absurd (none.none (string_in bytes) (encoded_in bytes) (after_string bytes) (is_string_in bytes are e) (parts_in bytes))

-- ---- extensions

pub encoded : (count : ℕ) (bytes : List ℕ) → AreBytes bytes → IsTrue (are_extensions count bytes) → IsExtensions (extensions_in count bytes) bytes
encoded zero [] are h = refl
encoded zero (b ∷ bytes) are h = absurd (cc h)
encoded (suc count) bytes are h =
    let p = and_parts (has_extension bytes) (are_extensions count (after_extension bytes)) h in
    let q = and_parts (has_string bytes) (has_string (after_string bytes)) p.0 in
    let following = bytes_following (string_length bytes) (drop 4 bytes) (bytes_following 4 bytes are) in
    let last = bytes_following (string_length (after_string bytes)) (drop 4 (after_string bytes)) (bytes_following 4 (after_string bytes) following) in
    record {
      front = encoded_in bytes;
      back = after_string bytes;
      first = is_string_in bytes are q.0;
      second = record {
        front = encoded_in (after_string bytes);
        back = after_extension bytes;
        first = is_string_in (after_string bytes) following q.1;
        second = encoded count (after_extension bytes) last p.1;
        parts = parts_in (after_string bytes);
      };
      parts = parts_in bytes;
    }

pub counted : (count : ℕ) (bytes : List ℕ) → length (extensions_in count bytes) ≡ count
counted zero bytes = refl
counted (suc count) bytes = omega (arith, counted count (after_extension bytes))

-- whatever extensions the bytes are, they are these
pub are_these : (all : List Extension) (bytes : List ℕ) → IsExtensions all bytes → are_extensions (length all) bytes ≡ true
are_these [] [] h = refl
are_these [] (b ∷ bytes) h = absurd (cc h)
are_these (x ∷ all) bytes h =
    let b = begins x.name h.front h.back bytes h.first h.parts in
    let c = begins x.value h.second.front h.second.back h.back h.second.first h.second.parts in
    let rest : after_extension bytes ≡ h.second.back = ap after_string (rest_at x.name h.back bytes b) ∙ rest_at x.value h.second.back h.back c in
    let second : has_string (after_string bytes) ≡ true = ap has_string (rest_at x.name h.back bytes b) ∙ whole_at x.value h.second.back h.back c in
    both_true (has_extension bytes) (are_extensions (length all) (after_extension bytes)) (both_true _ _ (whole_at x.name h.back bytes b) second)
    (ap (are_extensions (length all)) rest ∙ are_these all h.second.back h.second.second)

-- whatever extensions the bytes are, these are read
pub read_again : (all : List Extension) (bytes : List ℕ) → IsExtensions all bytes → extensions_in (length all) bytes ≡ all
read_again [] bytes h = refl
read_again (x ∷ all) bytes h =
    let b = begins x.name h.front h.back bytes h.first h.parts in
    let c = begins x.value h.second.front h.second.back h.back h.second.first h.second.parts in
    let following : after_string bytes ≡ h.back = rest_at x.name h.back bytes b in
    let rest : after_extension bytes ≡ h.second.back = ap after_string following ∙ rest_at x.value h.second.back h.back c in
    let name_is : string_in bytes ≡ x.name = text_at x.name h.back bytes b in
    let value_is : string_in (after_string bytes) ≡ x.value = ap string_in following ∙ text_at x.value h.second.back h.back c in
    (λ i. record { name = name_is i; value = value_is i } ∷ extensions_in (length all) (rest i))
    ∙ ap (λ (l : List Extension). x ∷ l) (read_again all h.second.back h.second.second)

-- so they are those that were written
pub owned_passes : (all : List Extension) (count : ℕ) (bytes : List ℕ) → IsExtensions all bytes → count ≡ length all → IsTrue (are_extensions count bytes)
owned_passes all count bytes h counts = ap (λ (n : ℕ). are_extensions n bytes) counts ∙ are_these all bytes h

pub owned_again : (all : List Extension) (count : ℕ) (bytes : List ℕ) → IsExtensions all bytes → count ≡ length all → extensions_in count bytes ≡ all
owned_again all count bytes h counts = ap (λ (n : ℕ). extensions_in n bytes) counts ∙ read_again all bytes h

pub none_encoded : (count : ℕ) (bytes : List ℕ) → are_extensions count bytes ≡ false → (all : List Extension) → length all ≡ count → IsExtensions all bytes → ⊥
none_encoded count bytes none all counts h =
    let e : are_extensions count bytes ≡ true = ap (λ (n : ℕ). are_extensions n bytes) (sym counts) ∙ are_these all bytes h in
    cc

-- one extension more, and one that is not there
pub extensions_more : (count left : ℕ) (bytes : List ℕ) → count ≡ suc left → has_extension bytes ≡ true → are_extensions count bytes ≡ are_extensions left (after_extension bytes)
extensions_more count left bytes e whole = ap (λ (n : ℕ). are_extensions n bytes) e ∙ ap (λ (b : Bool). b && are_extensions left (after_extension bytes)) whole

pub extensions_none : (count left : ℕ) (bytes : List ℕ) → count ≡ suc left → has_extension bytes ≡ false → are_extensions count bytes ≡ false
extensions_none count left bytes e none = ap (λ (n : ℕ). are_extensions n bytes) e ∙ ap (λ (b : Bool). b && are_extensions left (after_extension bytes)) none

pub empty_is : (bytes : List ℕ) → (length bytes == 0) ≡ is_empty bytes
empty_is [] = refl
empty_is (b ∷ bytes) = eqb-suc-zero (length bytes)

-- ---- an EXT_INFO

pub announced : (all : List Extension) (count : ℕ) (before rest : List ℕ) → Reads (IsUint32 count) before rest → length all ≡ count → IsExtensions all rest → IsAnnounced all before
announced all count before rest r counts h = record { front = r.bytes; back = rest; first = subst (λ (n : ℕ). IsUint32 n r.bytes) (sym counts) r.meets; second = h; parts = r.parts }

pub no_count : (before : List ℕ) → NoFront IsUint32 before → NoWhole IsAnnounced before
no_count before none = record { none = λ all h. none.none (length all) h.front h.back h.first h.parts }

pub not_announced : (count : ℕ) (before rest : List ℕ) → Reads (IsUint32 count) before rest → ((all : List Extension) → length all ≡ count → IsExtensions all rest → ⊥) → NoWhole IsAnnounced before
not_announced count before rest r none = record {
  none = λ all h.
      let one = one_uint32 count (length all) r.bytes h.front rest h.back r.meets h.first (sym r.parts ∙ h.parts) in
      none all (sym one.0) (subst (IsExtensions all) (sym one.2) h.second);
}

-- a count and encoded extensions after the number
pub writes_extensions : (all : List Extension) (count : ℕ) (bytes before after : List ℕ) → count ≡ length all → IsExtensions all bytes
    → Writes (IsByte 7 ▸ IsUint32 count ▸ IsRest bytes) before after → Writes (IsByte 7 ▸ IsUint32 (length all) ▸ IsExtensions all) before after
writes_extensions all count bytes before after counts h w = record {
  bytes = w.bytes;
  meets = record {
    front = w.meets.front;
    back = w.meets.back;
    first = w.meets.first;
    second = record {
      front = w.meets.second.front;
      back = w.meets.second.back;
      first = subst (λ (n : ℕ). IsUint32 n w.meets.second.front) counts w.meets.second.first;
      second = subst (IsExtensions all) (sym w.meets.second.second) h;
      parts = w.meets.second.parts;
    };
    parts = w.meets.parts;
  };
  parts = w.parts;
}

pub announced_size : (all : List Extension) (bytes : List ℕ) → IsExtensions all bytes → extensions_size all ≡ length bytes
announced_size [] bytes h = sym (ap length h)
announced_size (x ∷ all) bytes h =
    let rest = announced_size all h.second.back h.second.second in
    let b = h.first in
    let c = h.second.first in
    omega (
      arith,
      rest,
      ap length h.parts,
      length-append h.front h.back,
      ap length b.parts,
      length-append b.front x.name,
      b.size.count,
      ap length h.second.parts,
      length-append h.second.front h.second.back,
      ap length c.parts,
      length-append c.front x.value,
      c.size.count,
    )

-- one extension less
pub fewer : (count : ℕ) (bytes rest : List ℕ) → (count ≡ 0 → ⊥) → are_extensions count bytes ≡ true → rest ≡ after_extension bytes → are_extensions (count - 1) rest ≡ true
fewer zero bytes rest some passes e = absurd (some refl)
fewer (suc count) bytes rest some passes e =
    let less : suc count - 1 ≡ count = omega arith in
    (λ i. are_extensions (less i) (e i)) ∙ (and_parts (has_extension bytes) (are_extensions count (after_extension bytes)) passes).1
