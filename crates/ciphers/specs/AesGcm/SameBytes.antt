-- Words and vectors that have the same bytes, and all rounds between two of them.
use Rattle.std.specs.Prelude.{◌≡◌, ℕ, ◌+◌, ◌*◌, ◌/◌, ◌%◌, ◌<◌, Option, Some, None, cond, eqb}
use Rattle.std.specs.Int.{bit_at}
use Rattle.ciphers.specs.declared.aes_gcm.aes.MoreKeys.{MoreKeys}
use Rattle.ciphers.specs.declared.aes_gcm.aes.Schedule.{Schedule}
use Rattle.ciphers.specs.declared.aes_gcm.lanes.Vectors.{Vectors}
use Rattle.ciphers.specs.declared.aes_gcm.planes.Planes.{Planes}
use Rattle.ciphers.specs.declared.aes_gcm.vector_rounds.MoreVectors.{MoreVectors}
use Rattle.ciphers.specs.declared.aes_gcm.vector_rounds.VectorKeys.{VectorKeys}
use Rattle.ciphers.specs.AesGcm.Aes.{further, last_round, round}
use Rattle.ciphers.specs.AesGcm.Planes.{added}
use Rattle.ciphers.specs.AesGcm.Rows.{AreVectors, Eight, lane}
use Rattle.ciphers.specs.AesGcm.Same.{Same, lane_of}

-- word k of eight
abbrev pub word_of : Planes → ℕ → ℕ
word_of w k = cond (eqb k 0) w.p0 (cond (eqb k 1) w.p1 (cond (eqb k 2) w.p2 (cond (eqb k 3) w.p3 (cond (eqb k 4) w.p4 (cond (eqb k 5) w.p5 (cond (eqb k 6) w.p6 (w.p7)))))))

-- number k of a lane
abbrev pub number_of : Eight → ℕ → ℕ
number_of a k = cond (eqb k 0) a.p0 (cond (eqb k 1) a.p1 (cond (eqb k 2) a.p2 (cond (eqb k 3) a.p3 (cond (eqb k 4) a.p4 (cond (eqb k 5) a.p5 (cond (eqb k 6) a.p6 (a.p7)))))))

-- byte n of 64, as every eighth byte stands in a word, is that of lane and block of the vectors
pub record SameBytes (b : ℕ) (w : Planes) (v : Vectors) : Type 0 where
  pub same : (n i : ℕ) → n < 64 → i < 8 → bit_at (word_of w (n % 8)) (8 * (n / 8) + i) ≡ bit_at (number_of (lane v (lane_of n)) (b + n / 16)) i

-- the keys of four rounds more
pub record SameFour (b : ℕ) (k : MoreKeys) (v : MoreVectors) : Type 0 where
  pub k10 : Same b k.k10 v.k10
  pub k11 : Same b k.k11 v.k11
  pub k12 : Same b k.k12 v.k12
  pub k13 : Same b k.k13 v.k13

-- where a key has them
abbrev pub SameMore : ℕ → Option MoreKeys → Option MoreVectors → Type 0
SameMore b None None = Unit {0}
SameMore b (Some k) (Some v) = SameFour b k v
SameMore b None (Some v) = ⊥
SameMore b (Some k) None = ⊥

pub record AreFour (v : MoreVectors) : Type 0 where
  pub k10 : AreVectors v.k10
  pub k11 : AreVectors v.k11
  pub k12 : AreVectors v.k12
  pub k13 : AreVectors v.k13

abbrev pub AreMore : Option MoreVectors → Type 0
AreMore None = Unit {0}
AreMore (Some v) = AreFour v

pub record SameKeys (b : ℕ) (k : Schedule) (v : VectorKeys) : Type 0 where
  pub k0 : Same b k.k0 v.k0
  pub k1 : Same b k.k1 v.k1
  pub k2 : Same b k.k2 v.k2
  pub k3 : Same b k.k3 v.k3
  pub k4 : Same b k.k4 v.k4
  pub k5 : Same b k.k5 v.k5
  pub k6 : Same b k.k6 v.k6
  pub k7 : Same b k.k7 v.k7
  pub k8 : Same b k.k8 v.k8
  pub k9 : Same b k.k9 v.k9
  pub more : SameMore b k.more v.more
  pub last : Same b k.last v.last

pub record AreKeys (v : VectorKeys) : Type 0 where
  pub k0 : AreVectors v.k0
  pub k1 : AreVectors v.k1
  pub k2 : AreVectors v.k2
  pub k3 : AreVectors v.k3
  pub k4 : AreVectors v.k4
  pub k5 : AreVectors v.k5
  pub k6 : AreVectors v.k6
  pub k7 : AreVectors v.k7
  pub k8 : AreVectors v.k8
  pub k9 : AreVectors v.k9
  pub more : AreMore v.more
  pub last : AreVectors v.last

-- The vectors are the round keys of this schedule, for the four blocks of each of two batches.
pub record AreKeysOf (k : Schedule) (v : VectorKeys) : Type 0 where
  pub are : AreKeys v
  pub first : SameKeys 0 k v
  pub second : SameKeys 4 k v

-- the steps of encryption between packing and unpacking
unfoldable pub rounds_of : Schedule → Planes → Planes
rounds_of k s =
    let s0 : Planes = added s k.k0 in
    let s1 : Planes = round s0 k.k1 in
    let s2 : Planes = round s1 k.k2 in
    let s3 : Planes = round s2 k.k3 in
    let s4 : Planes = round s3 k.k4 in
    let s5 : Planes = round s4 k.k5 in
    let s6 : Planes = round s5 k.k6 in
    let s7 : Planes = round s6 k.k7 in
    let s8 : Planes = round s7 k.k8 in
    let s9 : Planes = round s8 k.k9 in
    last_round (further k.more s9) k.last
