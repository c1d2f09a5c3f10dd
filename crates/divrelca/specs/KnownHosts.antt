-- The keys of the host to trust: which lines of known_hosts count for it, the form of a line, and which lines are passed over.
use Rattle.std.specs.Prelude.{ℕ, Bool, true, false, not, ◌&&◌, ◌||◌, if◌then◌else◌, List, [], ◌∷◌, codes, nat_eq, Option, Some, None, Result, Ok, Err}
use Rattle.std.specs.List.{filter, starts_with}
use Rattle.ssh_model.specs.Protocol.Wire.DataTypes.{is_text}
use Rattle.divrelca.specs.HostNames.{names_host}
use Rattle.divrelca.specs.Keys.{is_key_type, key_in, key_of, with_found}
use Rattle.divrelca.specs.Lines.{read_lines}
use Rattle.divrelca.specs.Texts.{FirstWords, lines_of, says_nothing, words_of}
use Rattle.divrelca.specs.declared.key_files.fault.Expected.{Expected}
use Rattle.divrelca.specs.declared.key_files.fault.Expected.TheVariants.{AnyHostKey, Host, Mark, Unrevoked}
use Rattle.divrelca.specs.declared.key_files.fault.FileFault.{FileFault}
use Rattle.divrelca.specs.declared.key_files.fault.FileFault.TheVariants.{File}

-- ---- one line

-- the two marks
abbrev pub is_mark : List ℕ → Bool
is_mark word = is_text word (codes "@revoked") || is_text word (codes "@cert-authority")

-- No key comes of a line with a mark, but its names and its key have to be right.
abbrev pub passed_over : Result Bool Expected → Result (Option (List ℕ)) Expected → Result (Option (List ℕ)) Expected
passed_over (Err expected) key = Err expected
passed_over (Ok names_it) (Err expected) = Err expected
passed_over (Ok names_it) (Ok key) = Ok None

-- the result of a line with a mark: MARK HOSTS TYPE KEY
abbrev pub marked : FirstWords → Result (Option (List ℕ)) Expected
marked words =
    if not (is_mark words.first) then Err Mark
    else if not (is_key_type words.third) then Err Mark
    else passed_over (names_host words.second []) (key_of words.third words.fourth)

-- Whether a line of these hosts counts for a host. If no host is named, every line counts.
abbrev pub counts_for : (names : List ℕ) → (host : Option (List ℕ)) → Result Bool Expected
counts_for names None = Ok true
counts_for names (Some host) = names_host names host

-- the key of a line that counts
abbrev pub key_if : Result Bool Expected → Result (Option (List ℕ)) Expected → Result (Option (List ℕ)) Expected
key_if (Err expected) key = Err expected
key_if (Ok true) key = key
key_if (Ok false) key = Ok None

-- the key of a line without hosts: TYPE KEY, as in a public key file
abbrev pub bare_key : FirstWords → Result (Option (List ℕ)) Expected
bare_key words = if is_key_type words.first then key_of words.first words.second else Err Host

-- The key of ssh-ed25519 on a line, if it counts for the host: HOSTS TYPE KEY, or TYPE KEY, which counts for every host.
-- The second word decides which of the two it is, since the name of a host may begin as the type of a key does.
abbrev pub host_key_on : (host : Option (List ℕ)) → FirstWords → Result (Option (List ℕ)) Expected
host_key_on host words =
    if says_nothing words then Ok None
    else if starts_with nat_eq words.first (codes "@") then marked words
    else if is_key_type words.second then key_if (counts_for words.first host) (key_of words.second words.third)
    else bare_key words

-- ---- lines that are passed over

-- The line may revoke a key: it has a mark, and another one than that of an authority.
abbrev pub may_revoke : FirstWords → Bool
may_revoke words = starts_with nat_eq words.first (codes "@") && not (is_text words.first (codes "@cert-authority"))

-- A line at which something else is expected is passed over, unless it may revoke a key.
abbrev pub unless_skipped : (may_revoke : Bool) → Result (Option (List ℕ)) Expected → Result (Option (List ℕ)) Expected
unless_skipped is_strict (Ok key) = Ok key
unless_skipped true (Err expected) = Err expected
unless_skipped false (Err expected) = Ok None

-- ---- all lines

-- the keys, and after them the one that is found, if one is
abbrev pub with_key : List (List ℕ) → Result (Option (List ℕ)) Expected → Result (List (List ℕ)) Expected
with_key keys (Err expected) = Err expected
with_key keys (Ok found) = Ok (with_found keys found)

-- the keys that are found once a line is read
abbrev pub found_on : (host : Option (List ℕ)) → List (List ℕ) → (line : List ℕ) → Result (List (List ℕ)) Expected
found_on host keys line = with_key keys (unless_skipped (may_revoke (words_of line)) (host_key_on host (words_of line)))

-- keys, of which one has to be found at least
abbrev pub some_found : Result (List (List ℕ)) FileFault → Result (List (List ℕ)) FileFault
some_found (Err fault) = Err fault
some_found (Ok []) = Err (File AnyHostKey)
some_found (Ok (key ∷ keys)) = Ok (key ∷ keys)

-- the key that a line revokes, for whatever host it is
abbrev pub revoked_on : FirstWords → Option (List ℕ)
revoked_on words = if is_text words.first (codes "@revoked") && is_text words.third (codes "ssh-ed25519") then key_in words.fourth else None

-- The key is another one than this.
abbrev pub is_other : (revoked key : List ℕ) → Bool
is_other revoked key = not (is_text revoked key)

-- keys, of which one has to be left at least
abbrev pub some_left : List (List ℕ) → Result (List (List ℕ)) Expected
some_left [] = Err Unrevoked
some_left (key ∷ keys) = Ok (key ∷ keys)

-- the keys without the one that is revoked, if one is
abbrev pub without : (revoked : Option (List ℕ)) → List (List ℕ) → Result (List (List ℕ)) Expected
without None keys = Ok keys
without (Some revoked) keys = some_left (filter (is_other revoked) keys)

-- the keys that a line does not revoke
abbrev pub kept_on : List (List ℕ) → (line : List ℕ) → Result (List (List ℕ)) Expected
kept_on keys line = without (revoked_on (words_of line)) keys

-- the keys that are found once all lines are read
abbrev pub found_in : (text : List ℕ) → (host : Option (List ℕ)) → Result (List (List ℕ)) FileFault
found_in text host = read_lines (found_on host) 0 (Ok []) (lines_of text)

-- The keys that the lines have for the named host, or for any host if none is named, in order: those that no line revokes.
abbrev pub trusted_keys : (text : List ℕ) → (host : Option (List ℕ)) → Result (List (List ℕ)) FileFault
trusted_keys text host = read_lines kept_on 0 (some_found (found_in text host)) (lines_of text)
