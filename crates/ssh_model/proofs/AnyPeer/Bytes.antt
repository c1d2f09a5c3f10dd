-- How many bytes an end puts out, by how many messages it sent.
use Rattle.std.proofs.Common.{ℕ, ◌+◌, ◌*◌, ◌^◌, ◌%◌, ◌<◌, ◌≤◌, List, ◌++◌, length, length-append, ap, arith, Bool, true, false, nat_le, max, ◌==◌, ◌&&◌, Option, Some, None}
use Rattle.std.proofs.lemmas.Bool.{leb-true}
use Rattle.std.proofs.lemmas.Nat.{mod_below}
use Rattle.ssh_model.specs.Protocol.Bounds.{largest_packet}
use Rattle.ssh_model.specs.declared.side.Side.{Side}
use Rattle.ssh_model.specs.Protocol.Wire.Packet.{Blocks, IsPacket, counted, least_size}
use Rattle.ssh_model.specs.Protocol.Wire.Line.{line_end}
use Rattle.ssh_model.specs.Protocol.Wire.Sealing.{Crypto, IsSealed, IsSealing}
use Rattle.ssh_model.specs.Protocol.Sessions.Parties.{AreLawful, Parties}
use Rattle.ssh_model.specs.Protocol.Sessions.Items.{Payload, Item, Item.Sent, Item.SentLine, sent, messages_sent}
use Rattle.ssh_model.specs.Protocol.Sessions.Epochs.{count, wire_number}
use Rattle.ssh_model.specs.Protocol.KeyExchange.Exchanges.{is_strict, sending_key, sending_number}
use Rattle.ssh_model.specs.Protocol.Sessions.Turns.{EndRun}
use Rattle.ssh_model.specs.Protocol.Sessions.TurnClaims.{HasNumbers}
use Rattle.ssh_model.specs.Protocol.Sessions.Events.{PutsOut, PutsOut.nothing, PutsOut.version, PutsOut.packet, PutsOut.other}
use Rattle.ssh_model.specs.Protocol.Sessions.Bounded.{PutsOutFew}
use Rattle.ssh_model.proofs.Sessions.TurnLaws.{end_numbers}
use Rattle.ssh_model.proofs.Sessions.Stages.{and_right}
use Rattle.ssh_model.proofs.AnyPeer.Few.{line_bytes, end_few}

room : (blocks : Blocks) (tag : ℕ) (payload bytes : List ℕ) → IsPacket blocks tag payload bytes → length bytes + tag ≤ largest_packet
room blocks tag payload bytes k =
    leb-true (length bytes + tag) largest_packet (and_right (nat_le (least_size blocks) (length bytes)) (nat_le (length bytes + tag) largest_packet) (and_right (counted blocks (length bytes) % max blocks.size 8 == 0) (nat_le (least_size blocks) (length bytes) && nat_le (length bytes + tag) largest_packet) k.size))

sealed_size : {K : Type 0} (c : Crypto K) (key : Option K) (n : ℕ) (payload bytes : List ℕ) → IsSealing c → n < 2 ^ 32 → IsSealed c key n payload bytes → length bytes ≤ largest_packet
sealed_size c None n payload bytes laws k s = omega (arith, ap length s.sealed, room _ _ payload s.packet s.least.packet)
sealed_size c (Some key) n payload bytes laws k s =
    omega (arith, ap length s.sealed, room _ _ payload s.packet s.least.packet, laws.sealed_length key n s.packet k s.are_bytes s.least.packet.size)

number_small : (t : Bool) (l : List Payload) → count l < 2 ^ 32 → wire_number t l < 2 ^ 32
number_small true l k = k
number_small false l k = mod_below (length l) (2 ^ 32) (omega arith)

module _ {K : Type 0} (p : Parties K) (laws : AreLawful p) where
  bytes_of_lines : (side : Side) (h : List Item) (bytes : List ℕ) → HasNumbers h → PutsOut p side h bytes → length bytes ≤ line_bytes h + largest_packet * length (messages_sent h)
  bytes_of_lines side h bytes n nothing = omega arith
  bytes_of_lines side h bytes n (version {h = g} {bytes = before} line out) =
      omega (arith, length-append (before ++ line) line_end, length-append before line, bytes_of_lines side g before n out)
  bytes_of_lines side h bytes n (packet {h = g} {bytes = before} c m b wire s out) =
      omega (arith, length-append before wire, sealed_size p.crypto (sending_key p side g) (sending_number side g) b wire laws.sealing (number_small (is_strict side g) (sent g) n.0) s, bytes_of_lines side g before n.1 out)
  bytes_of_lines side h bytes n (other {h = g} (Sent c m b) q out) = elim q [ ]
  bytes_of_lines side h bytes n (other {h = g} (SentLine line) q out) = elim q [ ]
  bytes_of_lines side h bytes n (other {h = g} i q out) = bytes_of_lines side g bytes n out

  pub few_bytes : (side : Side) (h : List Item) (bytes : List ℕ) → EndRun p side h → PutsOut p side h bytes → PutsOutFew h bytes
  few_bytes side h bytes r out = omega (arith, (end_few p laws side h r).lines, bytes_of_lines side h bytes (end_numbers p side h r) out)
