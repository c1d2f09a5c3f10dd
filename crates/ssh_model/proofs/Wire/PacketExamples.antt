-- What some bytes are in a stream of packets in clear.
use Rattle.std.proofs.Common.{◌≡◌, ℕ, ◌<◌, ◌≤◌, true, ltb, List, [], ◌∷◌, ◌++◌, length, refl, ap, sym, ◌∙◌, arith, length-append, None}
use Rattle.std.proofs.lemmas.Bool.{ltb-true}
use Rattle.std.specs.Prelude.{replicate}
use Rattle.std.specs.List.{list_all}
use Rattle.ssh_model.specs.Protocol.Bounds.{largest_packet}
use Rattle.ssh_model.specs.Protocol.Wire.DataTypes.{AreBytes, IsUint32, number as number_of}
use Rattle.ssh_model.specs.Protocol.Wire.Packet.{Blocks, IsPacket, with_length, without_length}
use Rattle.ssh_model.specs.Protocol.Wire.Sealing.{Crypto, IsBadLength, IsWhole}
use Rattle.ssh_model.specs.Laws.Units.{IsPartial.has_length, IsPartialPacket}
use Rattle.ssh_model.specs.Protocol.Wire.Outcome.{Outcome.Opens, Outcome.RefusedPacket}
use Rattle.ssh_model.specs.Protocol.Wire.Unit.{PacketUnit, PacketUnit.opens, PacketUnit.bad_length, PacketUnit.spent, PacketUnit.bad_padding}
use Rattle.ssh_model.proofs.Wire.Lists.{both}
use Rattle.ssh_model.specs.declared.refusal.Refusal.TheVariants.{BadLength, BadPadding, NumberSpent}
use Rattle.ssh_model.specs.Laws.Encodings.{same_front}

bytes : (bs : List ℕ) → list_all (λ b. ltb b 256) bs ≡ true → AreBytes bs
bytes [] h = tt
bytes (b ∷ bs) h = let p = both (ltb b 256) (list_all (λ c. ltb c 256) bs) h in (ltb-true b 256 p.0, bytes bs p.1)

uint32 : (n : ℕ) (field : List ℕ) → list_all (λ b. ltb b 256) field ≡ true → length field ≡ 4 → number_of field ≡ n → IsUint32 n field
uint32 n field are count value = record { are_bytes = bytes field are; count = count; value = value }

twelve : IsUint32 12 (0 ∷ 0 ∷ 0 ∷ 12 ∷ [])
twelve = uint32 12 (0 ∷ 0 ∷ 0 ∷ 12 ∷ []) refl refl refl

newkeys : IsPacket (with_length 8) 0 (21 ∷ []) (0 ∷ 0 ∷ 0 ∷ 12 ∷ 10 ∷ 21 ∷ replicate 10 0)
newkeys =
    record {
      body = 10 ∷ 21 ∷ replicate 10 0;
      is_body = record { padding = replicate 10 0; parts = refl; some_payload = omega arith; padding_from = omega arith; padding_to = omega arith };
      string = record { front = 0 ∷ 0 ∷ 0 ∷ 12 ∷ []; size = twelve; parts = refl };
      size = refl;
    }

twelve_whole : (n : ℕ) → IsWhole (with_length 8) 0 (0 ∷ 0 ∷ 0 ∷ 12 ∷ n ∷ replicate 11 0)
twelve_whole n = record { has = record { field = 0 ∷ 0 ∷ 0 ∷ 12 ∷ []; rest = n ∷ replicate 11 0; count = 12; parts = refl; counts = twelve; size = refl; whole = refl } }

-- the first byte of a body counts its padding
padding_is : (blocks : Blocks) (tag count n : ℕ) (rest payload : List ℕ) → IsPacket blocks tag payload (0 ∷ 0 ∷ 0 ∷ count ∷ n ∷ rest) → (4 ≤ n) × (n < length rest)
padding_is blocks tag count n rest payload p =
    let s = p.string in
    let e = same_front (0 ∷ 0 ∷ 0 ∷ count ∷ []) s.front (n ∷ rest) p.body (sym s.size.count) s.parts in
    let b = p.is_body in
    let f : n ∷ rest ≡ length b.padding ∷ payload ++ b.padding = e.1 ∙ b.parts in
    let same : n ≡ length b.padding = cc f in
    let sizes = ap length f in
    (omega (arith, same, b.padding_from), omega (arith, same, sizes, length-append payload b.padding, b.some_payload))

module _ {K : Type 0} (c : Crypto K) where
  pub newkeys_row : PacketUnit c None 0 0 (0 ∷ 0 ∷ 0 ∷ 12 ∷ 10 ∷ 21 ∷ replicate 10 0) (Opens (21 ∷ []))
  newkeys_row = opens (21 ∷ []) (omega arith, omega arith) (bytes (0 ∷ 0 ∷ 0 ∷ 12 ∷ 10 ∷ 21 ∷ replicate 10 0) refl) (record { size = refl; good = refl; packet = newkeys })

  pub last_row : PacketUnit c None 4294967295 4294967295 (0 ∷ 0 ∷ 0 ∷ 12 ∷ 10 ∷ 21 ∷ replicate 10 0) (Opens (21 ∷ []))
  last_row = opens (21 ∷ []) (omega arith, omega arith) (bytes (0 ∷ 0 ∷ 0 ∷ 12 ∷ 10 ∷ 21 ∷ replicate 10 0) refl) (record { size = refl; good = refl; packet = newkeys })

  pub spent_row : PacketUnit c None 4294967296 4294967296 (0 ∷ 0 ∷ 0 ∷ 12 ∷ []) (RefusedPacket NumberSpent)
  spent_row = spent 16 refl refl (record { field = 0 ∷ 0 ∷ 0 ∷ 12 ∷ []; rest = []; count = 12; parts = refl; counts = twelve; size = refl; whole = refl })

  pub last_plain_row : PacketUnit c None 3 4294967295 (0 ∷ 0 ∷ 0 ∷ 12 ∷ 10 ∷ 21 ∷ replicate 10 0) (Opens (21 ∷ []))
  last_plain_row = opens (21 ∷ []) (omega arith, omega arith) (bytes (0 ∷ 0 ∷ 0 ∷ 12 ∷ 10 ∷ 21 ∷ replicate 10 0) refl) (record { size = refl; good = refl; packet = newkeys })

  pub spent_plain_row : PacketUnit c None 4 4294967296 (0 ∷ 0 ∷ 0 ∷ 12 ∷ []) (RefusedPacket NumberSpent)
  spent_plain_row = spent 16 refl refl (record { field = 0 ∷ 0 ∷ 0 ∷ 12 ∷ []; rest = []; count = 12; parts = refl; counts = twelve; size = refl; whole = refl })

  pub eleven_row : PacketUnit c None 0 0 (0 ∷ 0 ∷ 0 ∷ 11 ∷ []) (RefusedPacket BadLength)
  eleven_row = bad_length (record { count = 11; field = uint32 11 (0 ∷ 0 ∷ 0 ∷ 11 ∷ []) refl refl refl; size = refl })

  pub largest_row : IsPartialPacket c None 0 (0 ∷ 0 ∷ 136 ∷ 180 ∷ [])
  largest_row =
      record {
        buffered = has_length largest_packet (record {
          field = 0 ∷ 0 ∷ 136 ∷ 180 ∷ [];
          rest = [];
          count = 34996;
          parts = refl;
          counts = uint32 34996 (0 ∷ 0 ∷ 136 ∷ 180 ∷ []) refl refl refl;
          size = refl;
          whole = refl;
        }) (omega arith);
        unspent = λ _. omega arith;
      }

  pub larger_row : PacketUnit c None 0 0 (0 ∷ 0 ∷ 136 ∷ 188 ∷ []) (RefusedPacket BadLength)
  larger_row = bad_length (record { count = 35004; field = uint32 35004 (0 ∷ 0 ∷ 136 ∷ 188 ∷ []) refl refl refl; size = refl })

  pub no_payload_row : PacketUnit c None 0 0 (0 ∷ 0 ∷ 0 ∷ 12 ∷ 11 ∷ replicate 11 0) (RefusedPacket BadPadding)
  no_payload_row =
      bad_padding (omega arith, omega arith) (bytes (0 ∷ 0 ∷ 0 ∷ 12 ∷ 11 ∷ replicate 11 0) refl) (record { whole = twelve_whole 11; good = refl; none = λ payload p. omega (arith, (padding_is (with_length 8) 0 12 11 (replicate 11 0) payload p).1) })

  pub short_padding_row : PacketUnit c None 0 0 (0 ∷ 0 ∷ 0 ∷ 12 ∷ 3 ∷ replicate 11 0) (RefusedPacket BadPadding)
  short_padding_row =
      bad_padding (omega arith, omega arith) (bytes (0 ∷ 0 ∷ 0 ∷ 12 ∷ 3 ∷ replicate 11 0) refl) (record { whole = twelve_whole 3; good = refl; none = λ payload p. omega (arith, (padding_is (with_length 8) 0 12 3 (replicate 11 0) payload p).0) })

-- ---- after packet_length

eight : IsUint32 8 (0 ∷ 0 ∷ 0 ∷ 8 ∷ [])
eight = uint32 8 (0 ∷ 0 ∷ 0 ∷ 8 ∷ []) refl refl refl

pub success_following : IsPacket (without_length 8) 16 (52 ∷ []) (0 ∷ 0 ∷ 0 ∷ 8 ∷ 6 ∷ 52 ∷ replicate 6 0)
success_following =
    record {
      body = 6 ∷ 52 ∷ replicate 6 0;
      is_body = record { padding = replicate 6 0; parts = refl; some_payload = omega arith; padding_from = omega arith; padding_to = omega arith };
      string = record { front = 0 ∷ 0 ∷ 0 ∷ 8 ∷ []; size = eight; parts = refl };
      size = refl;
    }

pub four_following : IsPacket (without_length 8) 16 (9 ∷ 9 ∷ 9 ∷ []) (0 ∷ 0 ∷ 0 ∷ 8 ∷ 4 ∷ 9 ∷ 9 ∷ 9 ∷ replicate 4 0)
four_following =
    record {
      body = 4 ∷ 9 ∷ 9 ∷ 9 ∷ replicate 4 0;
      is_body = record { padding = replicate 4 0; parts = refl; some_payload = omega arith; padding_from = omega arith; padding_to = omega arith };
      string = record { front = 0 ∷ 0 ∷ 0 ∷ 8 ∷ []; size = eight; parts = refl };
      size = refl;
    }

pub three_following : (payload : List ℕ) → IsPacket (without_length 8) 16 payload (0 ∷ 0 ∷ 0 ∷ 8 ∷ 3 ∷ replicate 7 0) → ⊥
three_following payload p = omega (arith, (padding_is (without_length 8) 16 8 3 (replicate 7 0) payload p).0)

pub no_payload_following : (payload : List ℕ) → IsPacket (without_length 8) 16 payload (0 ∷ 0 ∷ 0 ∷ 8 ∷ 7 ∷ replicate 7 0) → ⊥
no_payload_following payload p = omega (arith, (padding_is (without_length 8) 16 8 7 (replicate 7 0) payload p).1)

pub eight_following : IsBadLength (with_length 8) 16 (0 ∷ 0 ∷ 0 ∷ 8 ∷ [])
eight_following = record { count = 8; field = eight; size = refl }

pub twelve_following : IsBadLength (without_length 8) 16 (0 ∷ 0 ∷ 0 ∷ 12 ∷ [])
twelve_following = record { count = 12; field = twelve; size = refl }
