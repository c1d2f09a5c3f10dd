-- Bytes in two's complement: the numbers that they encode, and which bytes are the shortest.
use Rattle.std.proofs.Common.{◌≡◌, ℕ, suc, ◌+◌, ◌-◌, ◌*◌, ◌^◌, ◌<◌, ◌≤◌, Bool, true, false, cond, ltb, List, [], ◌∷◌, length, get_or, ◌⊎◌, inl, inr, refl, sym, ap, subst, ◌∙◌, arith, IsTrue}
use Rattle.std.specs.Prelude.{ℤ, pos, negsuc}
use Rattle.std.proofs.lemmas.Bool.{leb-true, leb-false, eq-eqb, cases_order, ltb-true, ltb-false, lt-ltb, cases_Bool, cases_lt, cond-true, cond-false}
use Rattle.std.proofs.lemmas.Int.{ints}
use Rattle.std.proofs.Math.Nat.{pow-suc, pow-le-pow_right, mul-le-mul_right}
use Rattle.ssh_model.specs.Protocol.Wire.DataTypes.{AreBytes, number}
use Rattle.ssh_model.specs.Laws.DataTypes.{integer, IsShortest}
use Rattle.ssh_types.specs.Digits.{marked_bytes, is_canonical, starts_with_zero}

-- If each byte by its index is below 256, the list is of bytes.
pub bytes_by_index : (bs : List ℕ) → ((i : ℕ) → get_or bs i 0 < 256) → AreBytes bs
bytes_by_index [] h = tt
bytes_by_index (b ∷ bs) h = (h 0, bytes_by_index bs (λ i. h (suc i)))

-- one byte more is worth 256 times as much
pub one_more : (n : ℕ) → 256 ^ suc n ≡ 256 * 256 ^ n
one_more n = let e = pow-suc 256 n in omega (arith, e)

-- The number of n bytes is below 256 ^ n.
pub number_below : (bs : List ℕ) → AreBytes bs → number bs < 256 ^ length bs
number_below [] h = omega arith
number_below (b ∷ bs) h =
    let rest = number_below bs h.1 in
    let top : b * 256 ^ length bs ≤ 255 * 256 ^ length bs = mul-le-mul_right (256 ^ length bs) (omega (arith, h.0)) in
    omega (arith, one_more (length bs))

-- the two cases of a list of bytes
pub cases_sign : (bs : List ℕ) → AreBytes bs → ((integer bs ≡ pos (number bs)) × (2 * number bs < 256 ^ length bs)) ⊎ ((k : ℕ) × (integer bs ≡ negsuc k) × (number bs + k + 1 ≡ 256 ^ length bs) × (256 ^ length bs ≤ 2 * number bs))
cases_sign bs h =
    let below = number_below bs h in
    elim (cases_Bool (ltb (2 * number bs) (256 ^ length bs))) [
      | inl t ↦ inl (cond-true _ _ _ t, ltb-true _ _ t)
      | inr f ↦ inr (256 ^ length bs - number bs - 1, cond-false _ _ _ f ∙ omega (arith, ints), omega arith, ltb-false _ _ f)
    ]

-- With a zero byte in front, any bytes are positive.
pub integer_marked : (bs : List ℕ) → AreBytes bs → integer (0 ∷ bs) ≡ pos (number bs)
integer_marked bs h =
    let below = number_below bs h in
    let one = one_more (length bs) in
    let zeros : number (0 ∷ bs) ≡ number bs = omega arith in
    cond-true _ _ _ (lt-ltb (2 * number (0 ∷ bs)) (256 ^ length (0 ∷ bs)) (omega arith)) ∙ ap pos zeros

-- Bytes whose top bit is not set are positive.
pub integer_low : (b : ℕ) (bs : List ℕ) → AreBytes (b ∷ bs) → b < 128 → integer (b ∷ bs) ≡ pos (number (b ∷ bs))
integer_low b bs h low =
    let below = number_below bs h.1 in
    let one = one_more (length bs) in
    let top : b * 256 ^ length bs ≤ 127 * 256 ^ length bs = mul-le-mul_right (256 ^ length bs) (omega arith) in
    cond-true _ _ _ (lt-ltb (2 * number (b ∷ bs)) (256 ^ length (b ∷ bs)) (omega arith))

-- a number with a zero byte in front of its top bit
pub unsigned_marked : (digits bytes : List ℕ) → AreBytes digits → number digits ≡ number bytes → integer (0 ∷ digits) ≡ pos (number bytes)
unsigned_marked digits bytes h same = integer_marked digits h ∙ ap pos same

-- a number without a top bit
pub unsigned_low : (digits bytes : List ℕ) → AreBytes digits → get_or digits 0 0 < 128 → number digits ≡ number bytes → integer digits ≡ pos (number bytes)
unsigned_low [] bytes h low same = ap pos same
unsigned_low (b ∷ bs) bytes h low same = integer_low b bs h low ∙ ap pos same

-- ---- which bytes are the shortest

pos_is : (m n : ℕ) → pos m ≡ pos n → m ≡ n
pos_is m n e = cc

negsuc_is : (m n : ℕ) → negsuc m ≡ negsuc n → m ≡ n
negsuc_is m n e = cc

-- Bytes that the room of n bytes doesn't reach: their number is at least half of 256 ^ n away from 0.
record IsLarge (n : ℕ) (bs : List ℕ) : Type 0 where
  pub positive : 2 * number bs < 256 ^ length bs → 256 ^ n ≤ 2 * number bs
  pub negative : (k : ℕ) → number bs + k + 1 ≡ 256 ^ length bs → 256 ^ n < 2 * k + 2

-- Fewer bytes don't encode a large number.
large_shortest : (n : ℕ) (bs other : List ℕ) → AreBytes bs → IsLarge n bs → AreBytes other → integer other ≡ integer bs → n < length other
large_shortest n bs other h large o same =
    elim (cases_lt n (length other)) [
      | inl lt ↦ lt
      | inr le ↦
          let room : 256 ^ length other ≤ 256 ^ n = pow-le-pow_right (omega arith) le in
          elim (cases_sign bs h) [
            | inl p ↦ elim (cases_sign other o) [
              | inl q ↦ let e : number other ≡ number bs = pos_is _ _ (sym q.0 ∙ same ∙ p.0) in absurd (omega (arith, large.positive p.1, q.1))
              | inr q ↦ absurd (let e : negsuc q.0 ≡ pos (number bs) = sym q.1 ∙ same ∙ p.0 in cc)
            ]
            | inr p ↦ elim (cases_sign other o) [
              | inl q ↦ absurd (let e : pos (number other) ≡ negsuc p.0 = sym q.0 ∙ same ∙ p.1 in cc)
              | inr q ↦ let e : q.0 ≡ p.0 = negsuc_is _ _ (sym q.1 ∙ same ∙ p.1) in absurd (omega (arith, large.negative p.0 p.2, q.2, q.3))
            ]
          ]
    ]

large_marked : (d : ℕ) (ds : List ℕ) → AreBytes (d ∷ ds) → 128 ≤ d → IsLarge (length (d ∷ ds)) (0 ∷ d ∷ ds)
large_marked d ds h top =
    let rest = number_below ds h.1 in
    let one = one_more (length ds) in
    let two = one_more (suc (length ds)) in
    let low : 128 * 256 ^ length ds ≤ d * 256 ^ length ds = mul-le-mul_right (256 ^ length ds) top in
    let high : d * 256 ^ length ds ≤ 255 * 256 ^ length ds = mul-le-mul_right (256 ^ length ds) (omega (arith, h.0)) in
    record { positive = λ _. omega arith; negative = λ k e. omega arith }

large_one : (b : ℕ) → b < 256 → 0 < b → IsLarge 0 (b ∷ [])
large_one b h some = record { positive = λ _. omega arith; negative = λ k e. omega arith }

large_two : (b c : ℕ) (cs : List ℕ) → AreBytes (b ∷ c ∷ cs) → 0 < b → (c < 128) ⊎ (b < 255) → IsLarge (length (c ∷ cs)) (b ∷ c ∷ cs)
large_two b c cs h some kept =
    let rest = number_below cs h.1.1 in
    let one = one_more (length cs) in
    let two = one_more (suc (length cs)) in
    let low : 1 * 256 ^ length cs ≤ b * 256 ^ length cs = mul-le-mul_right (256 ^ length cs) some in
    let high : c * 256 ^ length cs ≤ 255 * 256 ^ length cs = mul-le-mul_right (256 ^ length cs) (omega (arith, h.1.0)) in
    let top : b * 256 ^ length cs ≤ 255 * 256 ^ length cs = mul-le-mul_right (256 ^ length cs) (omega (arith, h.0)) in
    let wide : b * 256 ^ length (c ∷ cs) ≡ 256 * (b * 256 ^ length cs) = ap (λ (x : ℕ). b * x) one ∙ omega arith in
    elim kept [
      | inl less ↦
          let next : c * 256 ^ length cs ≤ 127 * 256 ^ length cs = mul-le-mul_right (256 ^ length cs) (omega arith) in
          record { positive = λ _. omega arith; negative = λ k e. omega arith }
      | inr less ↦
          let next : b * 256 ^ length cs ≤ 254 * 256 ^ length cs = mul-le-mul_right (256 ^ length cs) (omega arith) in
          record { positive = λ _. omega arith; negative = λ k e. omega arith }
    ]

kept_two : (b c : ℕ) → is_canonical false (b ∷ c ∷ []) ≡ true → (0 < b) × ((c < 128) ⊎ (b < 255))
kept_two b c kept =
    elim (cases_Bool (ltb c 128)) [
      | inl t ↦ (ltb-true 0 b (sym (cond-true _ _ _ t) ∙ kept), inl (ltb-true c 128 t))
      | inr f ↦
          let inner : cond (ltb 0 b) (ltb b 255) false ≡ true = sym (cond-false _ _ _ f) ∙ kept in
          elim (cases_Bool (ltb 0 b)) [
            | inl some ↦ (ltb-true 0 b some, inr (ltb-true b 255 (sym (cond-true _ _ _ some) ∙ inner)))
            | inr none ↦ absurd (let e : false ≡ true = sym (cond-false _ _ _ none) ∙ inner in cc)
          ]
    ]

-- The bytes that are kept are the shortest.
pub kept_shortest : (m : Bool) (digits : List ℕ) → IsTrue (is_canonical m digits) → AreBytes digits → IsShortest (integer (marked_bytes m digits)) (marked_bytes m digits)
kept_shortest true [] kept h = absurd cc
kept_shortest true (d ∷ ds) kept h =
    let bytes : AreBytes (0 ∷ d ∷ ds) = (omega arith, h) in
    record { are_bytes = bytes; value = refl; shortest = λ other o same. large_shortest (length (d ∷ ds)) (0 ∷ d ∷ ds) other bytes (large_marked d ds h (leb-true 128 d kept)) o same }
kept_shortest false [] kept h = record { are_bytes = h; value = refl; shortest = λ other o same. omega arith }
kept_shortest false (b ∷ []) kept h =
    record { are_bytes = h; value = refl; shortest = λ other o same. large_shortest 0 (b ∷ []) other h (large_one b h.0 (ltb-true 0 b kept)) o same }
kept_shortest false (b ∷ c ∷ cs) kept h =
    let two = kept_two b c kept in
    record { are_bytes = h; value = refl; shortest = λ other o same. large_shortest (length (c ∷ cs)) (b ∷ c ∷ cs) other h (large_two b c cs h two.0 two.1) o same }

-- ---- which bytes are not the shortest

-- Bytes with a byte in front that does not change their number are not the shortest.
pub spare : (z : ℤ) (b : ℕ) (bs : List ℕ) → integer (b ∷ bs) ≡ integer bs → IsShortest z (b ∷ bs) → ⊥
spare z b bs same s =
    let le = s.shortest bs s.are_bytes.1 (sym same ∙ s.value) in
    omega arith

pub spare_zero : (z : ℤ) (bs : List ℕ) → get_or bs 0 0 < 128 → IsShortest z (0 ∷ bs) → ⊥
spare_zero z [] low s = spare z 0 [] refl s
spare_zero z (b ∷ bs) low s = spare z 0 (b ∷ bs) (integer_marked (b ∷ bs) s.are_bytes.1 ∙ sym (integer_low b bs s.are_bytes.1 low)) s

pub spare_sign : (z : ℤ) (bs : List ℕ) → 0 < length bs → 128 ≤ get_or bs 0 0 → IsShortest z (255 ∷ bs) → ⊥
spare_sign z [] some high s = absurd (omega arith)
spare_sign z (b ∷ bs) some high s =
    let h = s.are_bytes in
    let rest = number_below bs h.1.1 in
    let one = one_more (length bs) in
    let two = one_more (suc (length bs)) in
    let low : 128 * 256 ^ length bs ≤ b * 256 ^ length bs = mul-le-mul_right (256 ^ length bs) high in
    spare z 255 (b ∷ bs)
    (elim (cases_sign (255 ∷ b ∷ bs) h) [
      | inl p ↦ absurd (omega (arith, p.1))
      | inr p ↦ elim (cases_sign (b ∷ bs) h.1) [
        | inl q ↦ absurd (omega (arith, q.1))
        | inr q ↦ let e : p.0 ≡ q.0 = omega (arith, p.2, q.2) in p.1 ∙ ap negsuc e ∙ sym q.1
      ]
    ]) s

-- The bytes that are not kept are not the shortest.
not_kept : (m : Bool) (digits : List ℕ) → is_canonical m digits ≡ false → m ≡ starts_with_zero (marked_bytes m digits) → (z : ℤ) → IsShortest z (marked_bytes m digits) → ⊥
not_kept true [] spoilt first z s = spare_zero z [] (omega arith) s
not_kept true (d ∷ ds) spoilt first z s = spare_zero z (d ∷ ds) (leb-false 128 d spoilt) s
not_kept false [] spoilt first z s = absurd cc
not_kept false (b ∷ []) spoilt first z s =
    let e : b ≡ 0 = omega (arith, ltb-false 0 b spoilt) in
    absurd (let q : false ≡ true = first ∙ eq-eqb b 0 e in cc)
not_kept false (b ∷ c ∷ cs) spoilt first z s =
    let some : 0 < b = elim (cases_lt 0 b) [ inl lt ↦ lt | inr le ↦ absurd (let q : false ≡ true = first ∙ eq-eqb b 0 (omega arith) in cc) ] in
    let t = lt-ltb 0 b some in
    elim (cases_Bool (ltb c 128)) [
      | inl u ↦ absurd (let q : true ≡ false = sym t ∙ sym (cond-true _ _ _ u) ∙ spoilt in cc)
      | inr u ↦
          let v : ltb b 255 ≡ false = sym (cond-true _ _ _ t) ∙ sym (cond-false _ _ _ u) ∙ spoilt in
          let h = s.are_bytes.0 in
          let e : b ≡ 255 = omega (arith, ltb-false b 255 v) in
          spare_sign z (c ∷ cs) (omega arith) (ltb-false c 128 u) (subst (λ (x : ℕ). IsShortest z (x ∷ c ∷ cs)) e s)
    ]

-- The same holds for bytes that were taken apart.
pub shortest_parts : (m : Bool) (digits bytes : List ℕ) → AreBytes digits → IsTrue (is_canonical m digits) → marked_bytes m digits ≡ bytes → IsShortest (integer (marked_bytes m digits)) bytes
shortest_parts m digits bytes h kept whole = subst (λ (x : List ℕ). IsShortest (integer (marked_bytes m digits)) x) whole (kept_shortest m digits kept h)

pub spare_parts : (m : Bool) (digits bytes : List ℕ) → is_canonical m digits ≡ false → marked_bytes m digits ≡ bytes → m ≡ starts_with_zero bytes → (z : ℤ) → IsShortest z bytes → ⊥
spare_parts m digits bytes spoilt whole first z s =
    not_kept m digits spoilt (first ∙ ap starts_with_zero (sym whole)) z (subst (λ (x : List ℕ). IsShortest z x) (sym whole) s)

-- ---- one list for each number

pub one_list : (a b : List ℕ) → AreBytes a → AreBytes b → length a ≡ length b → number a ≡ number b → a ≡ b
one_list [] [] h k l e = refl
one_list [] (y ∷ b) h k l e = absurd (omega arith)
one_list (x ∷ a) [] h k l e = absurd (omega arith)
one_list (x ∷ a) (y ∷ b) h k l e =
    let len : length a ≡ length b = omega arith in
    let p : 256 ^ length a ≡ 256 ^ length b = ap (λ (n : ℕ). 256 ^ n) len in
    let q : y * 256 ^ length a ≡ y * 256 ^ length b = ap (λ (n : ℕ). y * n) p in
    let ra = number_below a h.1 in
    let rb = number_below b k.1 in
    elim (cases_order x y) [
      | inl same ↦
          let t : x * 256 ^ length a ≡ y * 256 ^ length a = ap (λ (n : ℕ). n * 256 ^ length a) same in
          let tail = one_list a b h.1 k.1 len (omega arith) in cc
      | inr apart ↦ elim apart [
        | inl lt ↦ let t : (x + 1) * 256 ^ length a ≤ y * 256 ^ length a = mul-le-mul_right (256 ^ length a) (omega arith) in absurd (omega arith)
        | inr lt ↦ let t : (y + 1) * 256 ^ length a ≤ x * 256 ^ length a = mul-le-mul_right (256 ^ length a) (omega arith) in absurd (omega arith)
      ]
    ]

-- A whole number has one shortest list of bytes.
pub one_shortest : (y z : ℤ) (a b : List ℕ) → IsShortest y a → IsShortest z b → y ≡ z → a ≡ b
one_shortest y z a b s t same =
    let la = s.shortest b t.are_bytes (t.value ∙ sym same) in
    let lb = t.shortest a s.are_bytes (s.value ∙ same) in
    let len : length a ≡ length b = omega arith in
    let p : 256 ^ length a ≡ 256 ^ length b = ap (λ (n : ℕ). 256 ^ n) len in
    let both : integer a ≡ integer b = s.value ∙ same ∙ sym t.value in
    one_list a b s.are_bytes t.are_bytes len
    (elim (cases_sign a s.are_bytes) [
      | inl u ↦ elim (cases_sign b t.are_bytes) [
        | inl v ↦ pos_is _ _ (sym u.0 ∙ both ∙ v.0)
        | inr v ↦ absurd (let e : pos (number a) ≡ negsuc v.0 = sym u.0 ∙ both ∙ v.1 in cc)
      ]
      | inr u ↦ elim (cases_sign b t.are_bytes) [
        | inl v ↦ absurd (let e : negsuc u.0 ≡ pos (number b) = sym u.1 ∙ both ∙ v.0 in cc)
        | inr v ↦ let e : u.0 ≡ v.0 = negsuc_is _ _ (sym u.1 ∙ both ∙ v.1) in omega (arith, u.2, v.2)
      ]
    ])

-- A list of bytes has one mark and one list of digits.
same_parts : (m n : Bool) (ds es : List ℕ) → IsTrue (is_canonical m ds) → IsTrue (is_canonical n es) → marked_bytes m ds ≡ marked_bytes n es → (m ≡ n) × (ds ≡ es)
same_parts true true ds es k l e = (refl, cc)
same_parts false false ds es k l e = (refl, e)
same_parts true false ds [] k l e = absurd cc
same_parts true false ds (b ∷ []) k l e = let z : 0 ≡ b = cc in absurd (omega (arith, ltb-true 0 b l))
same_parts true false ds (b ∷ c ∷ cs) k l e = let z : 0 ≡ b = cc in absurd (omega (arith, (kept_two b c l).0))
same_parts false true [] es k l e = absurd cc
same_parts false true (b ∷ []) es k l e = let z : b ≡ 0 = cc in absurd (omega (arith, ltb-true 0 b k))
same_parts false true (b ∷ c ∷ cs) es k l e = let z : b ≡ 0 = cc in absurd (omega (arith, (kept_two b c k).0))

-- Equal marks and digits give equal numbers, and the other way round.
pub same_value : (m n : Bool) (ds es : List ℕ) → IsTrue (is_canonical m ds) → IsTrue (is_canonical n es) → AreBytes ds → AreBytes es → integer (marked_bytes m ds) ≡ integer (marked_bytes n es) → (m ≡ n) × (ds ≡ es)
same_value m n ds es k l h g same = same_parts m n ds es k l (one_shortest _ _ _ _ (kept_shortest m ds k h) (kept_shortest n es l g) same)

pub one_integer : (y z : ℤ) (a b : List ℕ) → IsShortest y a → IsShortest z b → a ≡ b → y ≡ z
one_integer y z a b s t same = sym s.value ∙ ap integer same ∙ t.value
