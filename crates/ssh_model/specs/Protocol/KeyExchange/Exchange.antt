-- The key exchange: the text that both ends hash, its hash, and the bytes of the keys. The method is that of RFC 8731.
use Rattle.std.specs.Prelude.{ℕ, zero, suc, ◌/◌, ◌%◌, nat_lt, nat_le, if◌then◌else◌, List, [], ◌∷◌, ◌++◌}
use Rattle.std.specs.Prelude.{length, take}
use Rattle.std.specs.Int.{w32, to_be_bytes}
use Rattle.sha2.specs.Sha256.{sha256}

-- The inputs that both ends hash. The lines are those of RFC 4253 section 4.2 without CR LF (RFC 5656 section 4).
pub record Inputs : Type 0 where
  -- V_C and V_S, the lines of the client and of the server
  pub client_version : List ℕ
  pub server_version : List ℕ
  -- I_C and I_S, the payloads of their KEXINIT messages
  pub client_init : List ℕ
  pub server_init : List ℕ
  -- K_S, the host key of the server
  pub host_key : List ℕ
  -- Q_C and Q_S, the public points of the client and of the server
  pub client_point : List ℕ
  pub server_point : List ℕ
  -- K, the shared number
  pub shared : ℕ

-- ---- the encodings of RFC 4251 section 5, as functions

-- a string: its length as a uint32, and its bytes (RFC 4251 section 5)
unfoldable pub string_of : List ℕ → List ℕ
string_of text = to_be_bytes w32 (length text) ++ text

-- The bytes of a number, the most significant first, without zeros in front. The number 0 has no bytes. A number has
-- no more bytes than its value, so n places are enough for the number n (RFC 4251 section 5).
unfoldable pub digits : ℕ → ℕ → List ℕ
digits zero n = []
digits (suc places) n = if nat_lt 0 n then digits places (n / 256) ++ (n % 256) ∷ [] else []

-- These bytes, with a zero byte in front if the top bit would otherwise be read as a sign (RFC 4251 section 5).
abbrev pub positive : List ℕ → List ℕ
positive [] = []
positive (b ∷ bs) = if nat_le 128 b then 0 ∷ b ∷ bs else b ∷ bs

-- the bytes of a number's mpint after its length: the shortest in two's complement (RFC 4251 section 5)
unfoldable pub mpint_body : ℕ → List ℕ
mpint_body n = positive (digits n n)

-- the mpint of a number, which is not negative (RFC 4251 section 5)
abbrev pub mpint_of : ℕ → List ℕ
mpint_of n = string_of (mpint_body n)

-- ---- the text and its hash (RFC 5656 section 4)

-- The text that is hashed: the inputs one after the other, K as an mpint and all others as strings (RFC 5656 section 4).
abbrev pub exchange_text : Inputs → List ℕ
exchange_text x =
    string_of x.client_version ++ string_of x.server_version ++ string_of x.client_init ++ string_of x.server_init
    ++ string_of x.host_key ++ string_of x.client_point ++ string_of x.server_point ++ mpint_of x.shared

-- H, the exchange hash. The session id is the exchange hash of the first exchange (RFC 5656 section 4, RFC 8731 section 3).
abbrev pub exchange_hash : Inputs → List ℕ
exchange_hash x = sha256 (exchange_text x)

-- ---- the keys (RFC 4253 section 7.2)

-- This number of blocks, one after another. The first block is the hash of `front` followed by `begin`. Each further block
-- is the hash of `front` followed by all blocks before it (RFC 4253 section 7.2).
unfoldable pub blocks : List ℕ → List ℕ → ℕ → List ℕ
blocks front begin zero = []
blocks front begin (suc zero) = sha256 (front ++ begin)
blocks front begin (suc (suc n)) = blocks front begin (suc n) ++ sha256 (front ++ blocks front begin (suc n))

-- the front of each hashed text: K as an mpint, and H (RFC 4253 section 7.2)
abbrev pub key_front : ℕ → List ℕ → List ℕ
key_front shared hash = mpint_of shared ++ hash

-- A key of n bytes: the first n bytes of the blocks. The first block is the hash of K, H, a letter and the session id. A
-- block has more than one byte, so n blocks are enough (RFC 4253 section 7.2).
abbrev pub derived : ℕ → List ℕ → ℕ → List ℕ → ℕ → List ℕ
derived shared hash letter session n = take n (blocks (key_front shared hash) (letter ∷ session) n)
