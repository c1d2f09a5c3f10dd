-- AES with keys of 128 and of 256 bits (FIPS 197) on the planes of four blocks.
use Rattle.std.specs.Prelude.{ℕ, ◌+◌, List, [], ◌∷◌, Option, Some, None, bit_and, bit_or, bit_xor, slice_index}
use Rattle.std.specs.Int.{w32, from_be_bytes}
use Rattle.ciphers.specs.declared.aes_gcm.planes.Planes.{Planes}
use Rattle.ciphers.specs.declared.aes_gcm.aes.RoundKey.{RoundKey}
use Rattle.ciphers.specs.declared.aes_gcm.aes.MoreKeys.{MoreKeys}
use Rattle.ciphers.specs.declared.aes_gcm.aes.Schedule.{Schedule}
use Rattle.ciphers.specs.AesGcm.Planes.{added, mixed_columns, shifted_rows, up, down}
use Rattle.ciphers.specs.AesGcm.SubBytes.{sub_bytes}
use Rattle.ciphers.specs.AesGcm.Packing.{packed, transposed, unpacked}

unfoldable pub round : Planes → Planes → Planes
round s key = added (mixed_columns (shifted_rows (sub_bytes s))) key

unfoldable pub last_round : Planes → Planes → Planes
last_round s key = added (shifted_rows (sub_bytes s)) key

-- the four rounds more that a key of 256 bits has
abbrev pub further : Option MoreKeys → Planes → Planes
further None s = s
further (Some more) s = round (round (round (round s more.k10) more.k11) more.k12) more.k13

unfoldable pub encrypted : Schedule → List ℕ → List ℕ
encrypted k bytes =
    let s0 : Planes = added (packed bytes) k.k0 in
    let s1 : Planes = round s0 k.k1 in
    let s2 : Planes = round s1 k.k2 in
    let s3 : Planes = round s2 k.k3 in
    let s4 : Planes = round s3 k.k4 in
    let s5 : Planes = round s4 k.k5 in
    let s6 : Planes = round s5 k.k6 in
    let s7 : Planes = round s6 k.k7 in
    let s8 : Planes = round s7 k.k8 in
    let s9 : Planes = round s8 k.k9 in
    unpacked (last_round (further k.more s9) k.last)

-- ---- the key expansion (5.2)

abbrev pub byte_of : ℕ → ℕ → ℕ
byte_of w shift = bit_and (down w shift) 0xff

abbrev pub word_of : List ℕ → ℕ → ℕ
word_of key i = from_be_bytes w32 (slice_index key i ∷ slice_index key (i + 1) ∷ slice_index key (i + 2) ∷ slice_index key (i + 3) ∷ [])

-- the four words from a byte of the key on
abbrev pub first_key : List ℕ → ℕ → RoundKey
first_key key i = record { a = word_of key i; b = word_of key (i + 4); c = word_of key (i + 8); d = word_of key (i + 12) }

unfoldable pub sub_word : ℕ → ℕ
sub_word w =
    let s : Planes = transposed (sub_bytes (transposed (record { p0 = byte_of w 16; p1 = byte_of w 8; p2 = byte_of w 0; p3 = byte_of w 24; p4 = 0; p5 = 0; p6 = 0; p7 = 0 }))) in
    bit_or (bit_or (bit_or (up (byte_of s.p0 0) 24) (up (byte_of s.p1 0) 16)) (up (byte_of s.p2 0) 8)) (byte_of s.p3 0)

-- the four words that follow four words, by the word before them
unfoldable pub next_key : RoundKey → ℕ → ℕ → RoundKey
next_key k word constant =
    let a : ℕ = bit_xor (bit_xor k.a (sub_word word)) (up constant 24) in
    let b : ℕ = bit_xor k.b a in
    let c : ℕ = bit_xor k.c b in
    let d : ℕ = bit_xor k.d c in
    record { a = a; b = b; c = c; d = d }

unfoldable pub spread : ℕ → ℕ → ℕ
spread x y =
    let one : ℕ = bit_or x (up y 8) in
    let two : ℕ = bit_or one (up one 16) in
    bit_or two (up two 32)

unfoldable pub key_planes : RoundKey → Planes
key_planes k = transposed (record { p0 = spread (byte_of k.a 24) (byte_of k.c 24); p1 = spread (byte_of k.a 16) (byte_of k.c 16); p2 = spread (byte_of k.a 8) (byte_of k.c 8); p3 = spread (byte_of k.a 0) (byte_of k.c 0); p4 = spread (byte_of k.b 24) (byte_of k.d 24); p5 = spread (byte_of k.b 16) (byte_of k.d 16); p6 = spread (byte_of k.b 8) (byte_of k.d 8); p7 = spread (byte_of k.b 0) (byte_of k.d 0) })

unfoldable pub schedule_of : List ℕ → Schedule
schedule_of key =
    let w0 : RoundKey = first_key key 0 in
    let w1 : RoundKey = next_key w0 w0.d 1 in
    let w2 : RoundKey = next_key w1 w1.d 2 in
    let w3 : RoundKey = next_key w2 w2.d 4 in
    let w4 : RoundKey = next_key w3 w3.d 8 in
    let w5 : RoundKey = next_key w4 w4.d 16 in
    let w6 : RoundKey = next_key w5 w5.d 32 in
    let w7 : RoundKey = next_key w6 w6.d 64 in
    let w8 : RoundKey = next_key w7 w7.d 128 in
    let w9 : RoundKey = next_key w8 w8.d 27 in
    let w10 : RoundKey = next_key w9 w9.d 54 in
    record { k0 = key_planes w0; k1 = key_planes w1; k2 = key_planes w2; k3 = key_planes w3; k4 = key_planes w4; k5 = key_planes w5; k6 = key_planes w6; k7 = key_planes w7; k8 = key_planes w8; k9 = key_planes w9; more = None; last = key_planes w10 }

-- a word turned back by a byte, so that its bytes are substituted as they stand
abbrev pub turned_back : ℕ → ℕ
turned_back w = bit_or (down w 8) (up (byte_of w 0) 24)

-- Every other four words of a key of 256 bits take no constant, and bytes that aren't turned.
unfoldable pub long_schedule_of : List ℕ → Schedule
long_schedule_of key =
    let w0 : RoundKey = first_key key 0 in
    let w1 : RoundKey = first_key key 16 in
    let w2 : RoundKey = next_key w0 w1.d 1 in
    let w3 : RoundKey = next_key w1 (turned_back w2.d) 0 in
    let w4 : RoundKey = next_key w2 w3.d 2 in
    let w5 : RoundKey = next_key w3 (turned_back w4.d) 0 in
    let w6 : RoundKey = next_key w4 w5.d 4 in
    let w7 : RoundKey = next_key w5 (turned_back w6.d) 0 in
    let w8 : RoundKey = next_key w6 w7.d 8 in
    let w9 : RoundKey = next_key w7 (turned_back w8.d) 0 in
    let w10 : RoundKey = next_key w8 w9.d 16 in
    let w11 : RoundKey = next_key w9 (turned_back w10.d) 0 in
    let w12 : RoundKey = next_key w10 w11.d 32 in
    let w13 : RoundKey = next_key w11 (turned_back w12.d) 0 in
    let w14 : RoundKey = next_key w12 w13.d 64 in
    let more : MoreKeys = record { k10 = key_planes w10; k11 = key_planes w11; k12 = key_planes w12; k13 = key_planes w13 } in
    record { k0 = key_planes w0; k1 = key_planes w1; k2 = key_planes w2; k3 = key_planes w3; k4 = key_planes w4; k5 = key_planes w5; k6 = key_planes w6; k7 = key_planes w7; k8 = key_planes w8; k9 = key_planes w9; more = Some more; last = key_planes w14 }
