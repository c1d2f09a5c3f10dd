-- The keys that let a user in, and which lines are passed over.
use Rattle.std.specs.Prelude.{ℕ, not, if◌then◌else◌, List, [], ◌∷◌, Option, None, Result, Ok, Err}
use Rattle.divrelca.specs.Keys.{is_key_type, key_of, with_found}
use Rattle.divrelca.specs.Texts.{FirstWords, lines_of, says_nothing, words_of}
use Rattle.divrelca.specs.declared.key_files.fault.Expected.{Expected}
use Rattle.divrelca.specs.declared.key_files.fault.Expected.TheVariants.{AnyKey, AuthorizedKey}
use Rattle.divrelca.specs.declared.key_files.fault.FileFault.{FileFault}
use Rattle.divrelca.specs.declared.key_files.fault.FileFault.TheVariants.{File}

-- The key of ssh-ed25519 on a line: TYPE KEY, with no options before it.
abbrev pub user_key_on : FirstWords → Result (Option (List ℕ)) Expected
user_key_on words =
    if says_nothing words then Ok None
    else if not (is_key_type words.first) then Err AuthorizedKey
    else key_of words.first words.second

-- A line at which something else is expected is passed over: it lets nobody in.
abbrev pub unless_skipped : Result (Option (List ℕ)) Expected → Option (List ℕ)
unless_skipped (Ok key) = key
unless_skipped (Err expected) = None

-- the keys once these lines are read
abbrev pub keys_after : List (List ℕ) → (lines : List (List ℕ)) → List (List ℕ)
keys_after keys [] = keys
keys_after keys (line ∷ lines) = keys_after (with_found keys (unless_skipped (user_key_on (words_of line)))) lines

-- keys, of which there has to be at least one
abbrev pub some_keys : List (List ℕ) → Result (List (List ℕ)) FileFault
some_keys [] = Err (File AnyKey)
some_keys (key ∷ keys) = Ok (key ∷ keys)

-- the keys of a file, in the order of its lines
abbrev pub user_keys : List ℕ → Result (List (List ℕ)) FileFault
user_keys text = some_keys (keys_after [] (lines_of text))
