-- Which names of known_hosts stand for a host.
use Rattle.std.specs.Prelude.{◌≡◌, ◌<◌, ◌≤◌, length, ◌&&◌, ◌||◌, ◌++◌, ℕ, Bool, true, false, not, if◌then◌else◌, nat_eq, List, [], ◌∷◌, map, take, drop, replicate, codes, bit_xor, Option, Some, None, Result, Ok, Err}
use Rattle.std.specs.Char.{eq_ignore_ascii_case, to_ascii_lowercase}
use Rattle.std.specs.List.{list_any}
use Rattle.sha1.specs.Sha1.{sha1}
use Rattle.ssh_model.specs.Protocol.Wire.DataTypes.{is_text}
use Rattle.divrelca.specs.Keys.{bytes_in}
use Rattle.divrelca.specs.Texts.{parts_of}
use Rattle.divrelca.specs.declared.key_files.patterns.Meeting.{Meeting}
use Rattle.divrelca.specs.declared.key_files.patterns.Meeting.TheVariants.{Ends, Differs, Star}
use Rattle.divrelca.specs.declared.key_files.fault.Expected.{Expected}
use Rattle.divrelca.specs.declared.key_files.fault.Expected.TheVariants.{HashedHost}

-- ---- one name

-- A byte of a pattern other than `*` stands for a byte of a name.
abbrev pub stands_for : (wanted byte : ℕ) → Bool
stands_for wanted byte = nat_eq wanted 63 || eq_ignore_ascii_case wanted byte

-- what a name has after its first byte, if a byte of a pattern stands for this one
abbrev pub after_byte : (wanted : ℕ) → (name : List ℕ) → Option (List ℕ)
after_byte wanted [] = None
after_byte wanted (c ∷ name) = if stands_for wanted c then Some name else None

-- A name is like a pattern, in which `*` stands for any bytes and `?` for any one byte. Upper and lower case are the same.
unfoldable pub is_like : (pattern name : List ℕ) → Bool
is_like [] [] = true
is_like [] (c ∷ name) = false
is_like (p ∷ pattern) [] = nat_eq p 42 && is_like pattern []
is_like (p ∷ pattern) (c ∷ name) = if nat_eq p 42 then is_like pattern (c ∷ name) || is_like (p ∷ pattern) name else stands_for p c && is_like pattern name

-- A pattern and a name from a star on stand for both of them, whether a star stands before these or not.
pub record IsAfterStar (pattern name rest left : List ℕ) : Type 0 where
  pub same : is_like pattern name ≡ is_like (42 ∷ rest) left
  pub later : is_like (42 ∷ pattern) name ≡ is_like (42 ∷ rest) left
  pub shorter : length rest < length pattern
  pub left_of : length left ≤ length name

-- how a pattern and a name go together as far as the first star
abbrev pub Meets : (pattern name : List ℕ) → Meeting → Type 0
Meets pattern name Ends = is_like pattern name ≡ true
Meets pattern name Differs = is_like pattern name ≡ false
Meets pattern name (Star rest left) = IsAfterStar pattern name rest.now left.now

-- A name without `!` before it is like the host's.
abbrev pub is_shown : (host name : List ℕ) → Bool
is_shown host [] = is_like [] host
is_shown host (c ∷ name) = not (nat_eq c 33) && is_like (c ∷ name) host

-- A name after `!` is like the host's.
abbrev pub is_left_out : (host name : List ℕ) → Bool
is_left_out host [] = false
is_left_out host (c ∷ name) = nat_eq c 33 && is_like name host

-- ---- lists of names

-- Names stand for a host where one did so before them or one of them is like it, and none after `!` is.
abbrev pub are_for : (so_far : Bool) → (host : List ℕ) → List (List ℕ) → Bool
are_for so_far host names = (so_far || list_any (is_shown host) names) && not (list_any (is_left_out host) names)

-- ---- hashed names

-- a salt as a whole block of SHA-1, each byte combined with this one (RFC 2104 section 2)
unfoldable pub block_of : (salt : List ℕ) → (pad : ℕ) → List ℕ
block_of salt pad = map (λ b. bit_xor b pad) salt ++ replicate 44 pad

-- a host's name in lower case
unfoldable pub in_lower_case : List ℕ → List ℕ
in_lower_case host = map to_ascii_lowercase host

-- HMAC-SHA-1 (RFC 2104) of a host's name in lower case, under a salt of 20 bytes
unfoldable pub hash_of : (salt host : List ℕ) → List ℕ
hash_of salt host = sha1 (block_of salt 92 ++ sha1 (block_of salt 54 ++ in_lower_case host))

-- both of them
abbrev pub both_of : Option (List ℕ) → Option (List ℕ) → Option (List ℕ × List ℕ)
both_of (Some salt) (Some hash) = Some (salt, hash)
both_of (Some salt) None = None
both_of None hash = None

-- the salt and the hash if these are the two parts, of 20 bytes each
abbrev pub salt_and_hash : List (List ℕ) → Option (List ℕ × List ℕ)
salt_and_hash [] = None
salt_and_hash (salt ∷ []) = None
salt_and_hash (salt ∷ hash ∷ []) = both_of (bytes_in 20 salt) (bytes_in 20 hash)
salt_and_hash (salt ∷ hash ∷ more ∷ others) = None

-- A hashed name stands for a host if the hash is that of the host's name.
abbrev pub is_hash_for : Option (List ℕ × List ℕ) → (host : List ℕ) → Result Bool Expected
is_hash_for None host = Err HashedHost
is_hash_for (Some (salt, hash)) host = Ok (is_text (hash_of salt host) hash)

-- ---- the names on a line

-- Whether the names on a line stand for a host: one hashed name, which begins with `|1|`, or names that commas part.
unfoldable pub names_host : (names host : List ℕ) → Result Bool Expected
names_host names host =
    if is_text (take 3 names) (codes "|1|")
    then is_hash_for (salt_and_hash (parts_of 124 (drop 3 names))) host
    else Ok (are_for false host (parts_of 44 names))
