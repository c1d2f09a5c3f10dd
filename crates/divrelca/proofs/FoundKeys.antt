-- A file in which a key of a user is found has keys.
use Rattle.std.proofs.Common.{◌≡◌, ℕ, List, [], ◌∷◌, ◌++◌, Option, Some, None, Result, Ok, Err, IfErr, IsOk, IsSome, refl, subst, sym, true≢false}
use Rattle.divrelca.specs.Keys.{with_found}
use Rattle.divrelca.specs.Texts.{words_of}
use Rattle.divrelca.specs.UserKeys.{keys_after, some_keys, unless_skipped, user_key_on}

-- what holds of each error holds of one that may be there
pub of_any : {X E : Type 0} {Holds : E → Type 0} → (result : Result X E) → ((error : E) → Holds error) → IfErr result Holds
of_any (Ok x) all = tt
of_any (Err error) all = all error

some_of_more : (keys : List (List ℕ)) (key : List ℕ) → IsOk (some_keys (keys ++ key ∷ []))
some_of_more [] key = refl
some_of_more (first ∷ keys) key = refl

-- Once there is a key, there are keys, whatever the lines after it are.
stay : (keys : List (List ℕ)) (key : List ℕ) (lines : List (List ℕ)) → IsOk (some_keys (keys_after (keys ++ key ∷ []) lines))
stay keys key [] = some_of_more keys key
stay keys key (line ∷ lines) = by (unless_skipped (user_key_on (words_of line))) (λ keys key. stay keys key lines)
  where
    by : (found : Option (List ℕ)) → ((keys : List (List ℕ)) (key : List ℕ) → IsOk (some_keys (keys_after (keys ++ key ∷ []) lines)))
        → IsOk (some_keys (keys_after (with_found (keys ++ key ∷ []) found) lines))
    by None others = others keys key
    by (Some other) others = others (keys ++ key ∷ []) other

pub has_keys : (keys : List (List ℕ)) (line : List ℕ) (rest all : List (List ℕ)) → IsSome (unless_skipped (user_key_on (words_of line)))
    → keys_after keys (line ∷ rest) ≡ all → IsOk (some_keys all)
has_keys keys line rest all some is = subst (λ it. IsOk (some_keys it)) is (by (unless_skipped (user_key_on (words_of line))) some)
  where
    by : (found : Option (List ℕ)) → IsSome found → IsOk (some_keys (keys_after (with_found keys found) rest))
    by None none = absurd (true≢false (sym none))
    by (Some key) found = stay keys key rest
