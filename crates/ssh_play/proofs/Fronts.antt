-- Lines at the front of a text.
use Rattle.std.proofs.Common.{◌≡◌, ◌≢◌, ℕ, suc, zero, ◌+◌, ◌<◌, List, [], ◌∷◌, ◌++◌, length, take, get_or, Option, Some, None, false}
use Rattle.std.proofs.Common.{MatchOption, IfSome, IfNone, String, Global, Bor, string_bytes, sym, ◌∙◌, ap, refl, true≢false, ◌==◌, arith, append_assoc, append-nil, add-one}
use Rattle.std.proofs.lemmas.List.{append_cancel_left}
use Rattle.ssh_play.specs.Comparing.{Differs, text_of}
use Rattle.std.proofs.Math.Nat.{add-sub_cancel}
use Rattle.std.proofs.Math.Seq.{take-length}

-- ---- one front

-- What `strip_prefix` says where the text begins so.
pub after_front : (text front : List ℕ) (r : Option (Bor (List ℕ))) → MatchOption r ((rest : List ℕ) → text ≢ front ++ rest) (λ x. text ≡ front ++ x.now) → IfSome r (λ rest. text ≡ front ++ rest.now)
after_front text front None m = tt
after_front text front (Some x) m = m

-- And where it doesn't.
pub no_front : (text front : List ℕ) (r : Option (Bor (List ℕ))) → MatchOption r ((rest : List ℕ) → text ≢ front ++ rest) (λ x. text ≡ front ++ x.now) → IfNone r ((rest : List ℕ) → text ≢ front ++ rest)
no_front text front None m = m
no_front text front (Some x) m = tt

-- Where what is after a line does not begin with LF, the text does not begin with the line and LF.
pub no_line : (text line rest : List ℕ) (r : Option (Bor (List ℕ))) → text ≡ line ++ rest → IfNone r ((more : List ℕ) → rest ≢ (10 ∷ []) ++ more) → IfNone r ((more : List ℕ) → text ≢ line ++ (10 ∷ more))
no_line text line rest None cut none = λ more e. none more (append_cancel_left line rest (10 ∷ more) (sym cut ∙ e))
no_line text line rest (Some x) cut none = tt

-- ---- many lines

-- one line more
pub text_of-more : (xs : List (String Global)) (i : ℕ) (x : String Global) → x ≡ get_or xs i x → i < length xs → text_of (take (suc i) xs) ≡ text_of (take i xs) ++ (string_bytes x ++ (10 ∷ []))
text_of-more [] i x e h = absurd (omega arith)
text_of-more (y ∷ ys) zero x e h = ap (λ z. string_bytes z ++ (10 ∷ [])) (sym e)
text_of-more (y ∷ ys) (suc i) x e h =
    ap (λ t. string_bytes y ++ (10 ∷ t)) (text_of-more ys i x e (omega arith))
    ∙ sym (append_assoc (string_bytes y) (10 ∷ text_of (take i ys)) (string_bytes x ++ (10 ∷ [])))

-- One line more stands at the front of a text.
pub one_more : (xs : List (String Global)) (i : ℕ) (x : String Global) (text rest line following : List ℕ) → x ≡ get_or xs i x → i < length xs → line ≡ string_bytes x → text ≡ text_of (take i xs) ++ rest → rest ≡ line ++ (10 ∷ following) → text ≡ text_of (take (i + 1) xs) ++ following
one_more xs i x text rest line following e h l t r = rw (add-one, text_of-more xs i x e h, append_assoc, append_assoc, ← l) (t ∙ ap (λ u. text_of (take i xs) ++ u) r)

-- It doesn't.
pub none_more : (xs : List (String Global)) (i : ℕ) (x : String Global) (text rest line : List ℕ) → x ≡ get_or xs i x → i < length xs → line ≡ string_bytes x → text ≡ text_of (take i xs) ++ rest → ((following : List ℕ) → rest ≢ line ++ (10 ∷ following)) → (following : List ℕ) → text ≢ text_of (take (i + 1) xs) ++ following
none_more xs i x text rest line e h l t none following = λ whole.
    let lines : List ℕ = text_of (take i xs) in
    let wanted : text ≡ lines ++ (line ++ (10 ∷ following)) =
    whole ∙ rw (add-one, text_of-more xs i x e h, append_assoc, append_assoc, ← l) refl in
    none following (append_cancel_left lines rest (line ++ (10 ∷ following)) (sym t ∙ wanted))

-- ---- what is told of two texts

-- A line that does not stand there is the first that differs.
pub differs_here : (text : List ℕ) (expected : List (String Global)) (i : ℕ) (x : String Global) (rest line : List ℕ) → x ≡ get_or expected i x → i < length expected → line ≡ string_bytes x → text ≡ text_of (take i expected) ++ rest → ((following : List ℕ) → rest ≢ line ++ (10 ∷ following)) → Differs text expected (i + 1)
differs_here text expected i x rest line e h l t none = record {
  some = omega arith;
  most = omega arith;
  before = (rest, rw add-sub_cancel t);
  here = λ _. none_more expected i x text rest line e h l t none;
  longer = λ past. absurd (omega arith);
}

-- Where all lines stand there and more follows, it is the line after them.
pub differs_at_end : (text : List ℕ) (expected : List (String Global)) (i : ℕ) (rest : List ℕ) → i ≡ length expected → text ≡ text_of (take i expected) ++ rest → false ≡ (length rest == 0) → Differs text expected (length expected + 1)
differs_at_end text expected i rest e t more =
    let whole : take i expected ≡ expected = ap (λ n. take n expected) e ∙ take-length expected in
    let some : rest ≢ [] = λ none. true≢false (sym (more ∙ ap (λ l. length l == 0) none)) in
    record {
      some = omega arith;
      most = omega arith;
      before = (rest, rw (add-sub_cancel, ← e) t);
      here = λ past. absurd (omega arith);
      longer = λ _ same. some (append_cancel_left (text_of expected) rest [] (sym (ap (λ l. text_of l ++ rest) whole) ∙ sym t ∙ same ∙ sym (append-nil (text_of expected))));
    }
