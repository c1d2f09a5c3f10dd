-- Bytes that are written one after the other.
use Rattle.std.proofs.Common.{arith, ◌≡◌, ◌≤◌, ◌+◌, ◌-◌, ℕ, List, [], ◌∷◌, ◌++◌, append_assoc, drop, length, ap, sym, ◌∙◌}
use Rattle.std.specs.Int.{w32, to_be_bytes}
use Rattle.std.proofs.lemmas.List.{drop-drop}
use Rattle.ssh_model.specs.Protocol.KeyExchange.Exchange.{string_of}

-- what is the same from a place on is the same from a later one
pub same_rest : (m n : ℕ) (xs ys : List ℕ) → m ≤ n → drop m xs ≡ drop m ys → drop n xs ≡ drop n ys
same_rest m n xs ys later same =
    let split : m + (n - m) ≡ n = omega (arith, later) in
    ap (λ (k : ℕ). drop k xs) (sym split) ∙ sym (drop-drop (n - m) m xs) ∙ ap (λ (l : List ℕ). drop (n - m) l) same ∙ drop-drop (n - m) m ys
    ∙ ap (λ (k : ℕ). drop k ys) split

-- the length of a text and the text are its string
pub string_put : (written before after text : List ℕ) → written ≡ before ++ to_be_bytes w32 (length text) → after ≡ written ++ text →
    after ≡ before ++ string_of text
unfolding string_of
string_put written before after text is then =
    then ∙ ap (λ (l : List ℕ). l ++ text) is ∙ append_assoc before (to_be_bytes w32 (length text)) text

-- the same, where the part between was written
pub rest_then : (m n : ℕ) (old between new : List ℕ) → m ≤ n → drop m between ≡ drop m old → drop n new ≡ drop n between → drop n new ≡ drop n old
rest_then m n old between new later first then = then ∙ same_rest m n between old later first

-- a text, a byte and two texts, one after the other
pub four_put : (start text : List ℕ) (byte : ℕ) (other last a b c d : List ℕ) → a ≡ start ++ text → b ≡ a ++ (byte ∷ []) → c ≡ b ++ other →
    d ≡ c ++ last → d ≡ start ++ ((text ++ (byte ∷ other)) ++ last)
four_put start text byte other last a b c d one two three four =
    four ∙ ap (λ (l : List ℕ). l ++ last) (three ∙ ap (λ (l : List ℕ). l ++ other) (two ∙ ap (λ (l : List ℕ). l ++ (byte ∷ [])) one)
    ∙ append_assoc (start ++ text) (byte ∷ []) other ∙ append_assoc start text (byte ∷ other))
    ∙ append_assoc start (text ++ (byte ∷ other)) last
