-- Fields, one after the other, that two rows find in the same bytes.
use Rattle.std.proofs.Common.{◌≡◌, ℕ, Bool, List, ◌++◌, sym, subst, ◌∙◌}
use Rattle.ssh_model.specs.Protocol.Wire.DataTypes.{IsByte, IsBoolean, IsUint32, IsString, IsNameList}
use Rattle.ssh_model.specs.Protocol.Wire.Message.{◌▸◌, IsEnd, IsRest, IsCookie, IsOtherName}
use Rattle.ssh_model.specs.Laws.Encodings.{one_byte, one_boolean, one_uint32, one_string, one_name_list, one_cookie}

-- Where the same bytes begin with P and with Q, both are the same bytes and say the same.
pub record Fronts (P Q : List ℕ → Type 0) (Same : Type 0) : Type 0 where
  pub same : (a b x y : List ℕ) → P a → Q b → a ++ x ≡ b ++ y → Same × (a ≡ b) × (x ≡ y)

-- Where all of the same bytes are P and Q, both say the same.
pub record Wholes (P Q : List ℕ → Type 0) (Same : Type 0) : Type 0 where
  pub same : (bytes : List ℕ) → P bytes → Q bytes → Same

-- a field, and what follows it
infixr 5 ◌▹◌
pub ◌▹◌ : {P Q R S : List ℕ → Type 0} {E F : Type 0} → Fronts P Q E → Wholes R S F → Wholes (P ▸ R) (Q ▸ S) (E × F)
◌▹◌ {R = R} first second =
    record {
      same = λ bytes t u.
          let one = first.same t.front u.front t.back u.back t.first u.first (sym t.parts ∙ u.parts) in
          (one.0, second.same u.back (subst R one.2 t.second) u.second);
    }

-- ---- the fields of a row

pub byte : {m n : ℕ} → Fronts (IsByte m) (IsByte n) (m ≡ n)
byte {m} {n} = record { same = one_byte m n }

pub boolean : {s t : Bool} → Fronts (IsBoolean s) (IsBoolean t) (s ≡ t)
boolean {s} {t} = record { same = one_boolean s t }

pub uint32 : {m n : ℕ} → Fronts (IsUint32 m) (IsUint32 n) (m ≡ n)
uint32 {m} {n} = record { same = one_uint32 m n }

pub string : {s t : List ℕ} → Fronts (IsString s) (IsString t) (s ≡ t)
string {s} {t} = record { same = one_string s t }

pub names : {m n : List (List ℕ)} → Fronts (IsNameList m) (IsNameList n) (m ≡ n)
names {m} {n} = record { same = one_name_list m n }

pub cookie : {v w : List ℕ} → Fronts (IsCookie v) (IsCookie w) (v ≡ w)
cookie {v} {w} = record { same = one_cookie v w }

pub other : {s t : List ℕ} → Fronts (IsOtherName s) (IsOtherName t) (s ≡ t)
other {s} {t} = record { same = λ a b x y p q e. one_string s t a b x y p.string q.string e }

pub end : Wholes IsEnd IsEnd (Unit {0})
end = record { same = λ bytes p q. tt }

pub rest : {r s : List ℕ} → Wholes (IsRest r) (IsRest s) (r ≡ s)
rest = record { same = λ bytes p q. sym p ∙ q }

-- whatever follows
pub stop : {R S : List ℕ → Type 0} → Wholes R S (Unit {0})
stop = record { same = λ bytes p q. tt }
