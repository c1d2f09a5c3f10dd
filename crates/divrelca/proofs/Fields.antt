-- The first number and the first string of bytes are those that a reader reads.
use Rattle.std.proofs.Common.{◌≡◌, ℕ, zero, suc, ◌≤◌, Bool, true, false, List, [], ◌∷◌, ◌++◌, length, take, drop, Ok, Err, nat_le, if◌then◌else◌, refl, sym, ap, inl, inr, ◌∙◌, arith, append_assoc, length-append, length-take-le, take-append-drop, take_at, drop_at, leb-true}
use Rattle.std.proofs.lemmas.Bool.{cases_Bool}
use Rattle.std.proofs.lemmas.Bool.Decides.{nat_tests}
use Rattle.ssh_model.specs.Protocol.Wire.DataTypes.{AreBytes, IsString, IsUint32, number}
use Rattle.ssh_model.specs.Laws.Reading.{NoFront, Reads}
use Rattle.divrelca.specs.PrivateKeys.{number_at, string_after, string_at}
use Rattle.divrelca.specs.declared.key_files.fault.Expected.TheVariants.{Format}

front_bytes : (n : ℕ) (bytes : List ℕ) → AreBytes bytes → AreBytes (take n bytes)
front_bytes zero bytes b = tt
front_bytes (suc n) [] b = tt
front_bytes (suc n) (x ∷ bytes) b = (b.0, front_bytes n bytes b.1)

at_least : (m n : ℕ) → m ≤ n → nat_le m n ≡ true
at_least m n h = grind (arith, nat_tests)

-- ---- numbers

number_of_parts : (front rest : List ℕ) → length front ≡ 4 → number_at (front ++ rest) ≡ Ok (number front, rest)
unfolding number_at
number_of_parts front rest four =
    ap (λ (b : Bool). if b then Ok (number (take 4 (front ++ rest)), drop 4 (front ++ rest)) else Err Format) (at_least 4 (length (front ++ rest)) (omega (arith, length-append front rest)))
    ∙ ap (λ (l : List ℕ). Ok (number l, drop 4 (front ++ rest))) (take_at front rest 4 four)
    ∙ ap (λ (l : List ℕ). Ok (number front, l)) (drop_at front rest 4 four)

pub number_found : (n : ℕ) (bytes rest : List ℕ) → Reads (IsUint32 n) bytes rest → Ok (n, rest) ≡ number_at bytes
number_found n bytes rest r =
    sym (ap number_at r.parts ∙ number_of_parts r.bytes rest r.meets.count ∙ ap (λ (m : ℕ). Ok (m, rest)) r.meets.value)

pub number_none : (bytes : List ℕ) → AreBytes bytes → NoFront IsUint32 bytes → Err Format ≡ number_at bytes
unfolding number_at
number_none bytes b h =
    elim (cases_Bool (nat_le 4 (length bytes))) [
      | inl yes' ↦
          absurd (h.none (number (take 4 bytes)) (take 4 bytes) (drop 4 bytes)
          (record { are_bytes = front_bytes 4 bytes b; count = length-take-le 4 bytes (leb-true 4 (length bytes) yes'); value = refl })
          (sym (take-append-drop 4 bytes)))
      | inr no' ↦ sym (ap (λ (t : Bool). if t then Ok (number (take 4 bytes), drop 4 bytes) else Err Format) no')
    ]

-- ---- strings

string_of_parts : (text rest : List ℕ) → string_after (Ok (length text, text ++ rest)) ≡ Ok (text, rest)
string_of_parts text rest =
    ap (λ (b : Bool). if b then Ok (take (length text) (text ++ rest), drop (length text) (text ++ rest)) else Err Format) (at_least (length text) (length (text ++ rest)) (omega (arith, length-append text rest)))
    ∙ ap (λ (l : List ℕ). Ok (l, drop (length text) (text ++ rest))) (take_at text rest (length text) refl)
    ∙ ap (λ (l : List ℕ). Ok (text, l)) (drop_at text rest (length text) refl)

pub string_found : (text bytes rest : List ℕ) → Reads (IsString text) bytes rest → Ok (text, rest) ≡ string_at bytes
unfolding string_at
string_found text bytes rest r =
    let s = r.meets in
    let parts : bytes ≡ s.front ++ (text ++ rest) = r.parts ∙ ap (λ (l : List ℕ). l ++ rest) s.parts ∙ append_assoc s.front text rest in
    let size = number_found (length text) bytes (text ++ rest) (record { bytes = s.front; meets = s.size; parts = parts }) in
    sym (ap string_after (sym size) ∙ string_of_parts text rest)

-- the string in front where its size is known
string_by : (bytes : List ℕ) (size : ℕ) (rest : List ℕ) → number_at bytes ≡ Ok (size, rest) → nat_le size (length rest) ≡ false → Err Format ≡ string_at bytes
unfolding string_at
string_by bytes size rest e no' =
    sym (ap string_after e ∙ ap (λ (t : Bool). if t then Ok (take size rest, drop size rest) else Err Format) no')

-- A front of four bytes and as many bytes as it says are a string.
string_there : (bytes : List ℕ) → AreBytes bytes → 4 ≤ length bytes → number (take 4 bytes) ≤ length (drop 4 bytes) → NoFront IsString bytes → ⊥
string_there bytes b four enough h =
    let front : List ℕ = take 4 bytes in
    let rest : List ℕ = drop 4 bytes in
    let size : ℕ = number front in
    let text : List ℕ = take size rest in
    let len : length text ≡ size = length-take-le size rest enough in
    let parts : bytes ≡ (front ++ text) ++ drop size rest =
    sym (take-append-drop 4 bytes) ∙ ap (λ (l : List ℕ). front ++ l) (sym (take-append-drop size rest)) ∙ sym (append_assoc front text (drop size rest)) in
    h.none text (front ++ text) (drop size rest)
    (record { front = front; size = record { are_bytes = front_bytes 4 bytes b; count = length-take-le 4 bytes four; value = sym len }; parts = refl })
    parts

pub string_none : (bytes : List ℕ) → AreBytes bytes → NoFront IsString bytes → Err Format ≡ string_at bytes
unfolding string_at number_at
string_none bytes b h =
    elim (cases_Bool (nat_le 4 (length bytes))) [
      | inl yes' ↦
          let four = leb-true 4 (length bytes) yes' in
          let e : number_at bytes ≡ Ok (number (take 4 bytes), drop 4 bytes) = ap (λ (t : Bool). if t then Ok (number (take 4 bytes), drop 4 bytes) else Err Format) yes' in
          elim (cases_Bool (nat_le (number (take 4 bytes)) (length (drop 4 bytes)))) [
            | inl enough ↦ absurd (string_there bytes b four (leb-true (number (take 4 bytes)) (length (drop 4 bytes)) enough) h)
            | inr short ↦ string_by bytes (number (take 4 bytes)) (drop 4 bytes) e short
          ]
      | inr no' ↦ sym (ap string_after (ap (λ (t : Bool). if t then Ok (number (take 4 bytes), drop 4 bytes) else Err Format) no'))
    ]
