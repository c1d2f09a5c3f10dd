-- Galois/Counter Mode (NIST SP 800-38D) with nonces of 12 bytes.
use Rattle.std.specs.Prelude.{ℕ, ◌+◌, ◌*◌, ◌/◌, ◌%◌, List, [], ◌∷◌, ◌++◌, length, bit_xor, slice_index, replicate}
use Rattle.std.specs.Int.{w32, w64, to_be_bytes}
use Rattle.ciphers.specs.declared.aes_gcm.ghash.Element.{Element}
use Rattle.ciphers.specs.declared.aes_gcm.aes.Schedule.{Schedule}
use Rattle.ciphers.specs.declared.aes_gcm.gcm.KeyParts.{KeyParts}
use Rattle.ciphers.specs.AesGcm.Aes.{encrypted, long_schedule_of, schedule_of}
use Rattle.ciphers.specs.AesGcm.Ghash.{absorbed, absorbed_all, blocks, word_at}

-- the key with these round keys
abbrev pub key_by : Schedule → KeyParts
key_by s =
    let zero : List ℕ = encrypted s (replicate 64 0) in
    record { schedule = s; hash = record { hi = word_at zero 0; lo = word_at zero 8 } }

-- the keys of 16 and of 32 bytes
abbrev pub key_of : List ℕ → KeyParts
key_of key = key_by (schedule_of key)

abbrev pub long_key_of : List ℕ → KeyParts
long_key_of key = key_by (long_schedule_of key)

-- the bytes of a nonce, and of a counter
abbrev pub counter_block : List ℕ → ℕ → List ℕ
counter_block n counter =
    slice_index n 0 ∷ slice_index n 1 ∷ slice_index n 2 ∷ slice_index n 3 ∷ slice_index n 4 ∷ slice_index n 5 ∷ slice_index n 6 ∷ slice_index n 7 ∷ slice_index n 8 ∷ slice_index n 9 ∷ slice_index n 10 ∷ slice_index n 11 ∷ to_be_bytes w32 counter

abbrev pub counter_blocks : List ℕ → ℕ → List ℕ
counter_blocks n first = counter_block n first ++ (counter_block n (first + 1) ++ (counter_block n (first + 2) ++ counter_block n (first + 3)))

-- four blocks of the key stream
abbrev pub batch : KeyParts → List ℕ → ℕ → List ℕ
batch key nonce n = encrypted key.schedule (counter_blocks nonce (4 * n + 1))

-- a byte of the key stream, the first one of the counter 1. Its first block masks the tag, and the text begins after it.
unfoldable pub stream : KeyParts → List ℕ → ℕ → ℕ
stream key nonce at = slice_index (batch key nonce (at / 64)) (at % 64)

-- the bytes of a text, from this place of a stream on, each added to the stream's
abbrev pub masked : (ℕ → ℕ) → ℕ → List ℕ → List ℕ
masked f at [] = []
masked f at (b ∷ bytes) = bit_xor b (f at) ∷ masked f (at + 1) bytes

unfoldable pub tag_of : KeyParts → List ℕ → List ℕ → List ℕ → List ℕ
tag_of key nonce additional text =
    let sum : Element = absorbed_all key.hash (absorbed_all key.hash (record { hi = 0; lo = 0 }) additional (blocks (length additional))) text (blocks (length text)) in
    let all : Element = absorbed key.hash sum (record { hi = 8 * length additional; lo = 8 * length text }) in
    let block : List ℕ = batch key nonce 0 in
    to_be_bytes w64 (bit_xor all.hi (word_at block 0)) ++ to_be_bytes w64 (bit_xor all.lo (word_at block 8))
