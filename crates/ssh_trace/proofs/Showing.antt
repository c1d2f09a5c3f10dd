-- What a text shows, by what the reader of packets found.
use Rattle.std.proofs.Common.{◌≡◌, ℕ, ◌-◌, ◌<◌, true, false, List, ◌++◌, length, take, drop, sym, ap, subst, ◌∙◌, arith, length-drop, Ok, Err}
use Rattle.std.specs.Prelude.{Result, IfOk, None}
use Rattle.std.proofs.lemmas.List.{take-append-drop, take_all}
use Rattle.hex.specs.Hex.{decode_of}
use Rattle.ssh_model.specs.Laws.MacOnly.{mac_only}
use Rattle.ssh_model.specs.Protocol.Wire.Packet.{with_length}
use Rattle.ssh_model.specs.Laws.Units.{IsPartial}
use Rattle.ssh_packet.specs.Reading.{Finds, Reading, empty}
use Rattle.ssh_packet.specs.declared.refusal.PacketRefusal.{PacketRefusal}
use Rattle.ssh_packet.specs.declared.refusal.PacketRefusal.TheVariants.{BadLength, BadPadding, BadTag}
use Rattle.ssh_packet.specs.declared.step.PacketStep.{PacketStep}
use Rattle.ssh_packet.specs.declared.step.PacketStep.TheVariants as step
use Rattle.ssh_trace.specs.Shown.{Front, HasRest, Shows, ShowsBytes}
use Rattle.ssh_trace.specs.declared.shown.Shown.{Shown}
use Rattle.ssh_trace.specs.declared.shown.Shown.TheVariants as shown

-- a fresh reader holds no byte
pub found_first : (reader new : Reading) (found : PacketStep PacketRefusal) (used : ℕ) (bytes : List ℕ) → reader ≡ empty → (reader.refused ≡ None → Finds mac_only None 0 (reader.rest ++ take used bytes) found new) → Finds mac_only None 0 (take used bytes) found new
found_first reader new found used bytes e f =
    subst (λ (x : List ℕ). Finds mac_only None 0 (x ++ take used bytes) found new) (ap (λ (r : Reading). r.rest) e) (f (ap (λ (r : Reading). r.refused) e))

pub begun_all : (used : ℕ) (bytes : List ℕ) (new : Reading) → Finds mac_only None 0 (take used bytes) step.More new → used ≡ length bytes → IsPartial (with_length 8) 0 bytes
begun_all used bytes new f e = subst (λ (x : List ℕ). IsPartial (with_length 8) 0 x) (ap (λ (n : ℕ). take n bytes) e ∙ take_all (length bytes) bytes (omega arith)) f.0

front : (Is : List ℕ → Type 0) (used : ℕ) (bytes : List ℕ) → Is (take used bytes) → Front Is bytes
front Is used bytes is = record { after = drop used bytes; reads = record { bytes = take used bytes; meets = is; parts = sym (take-append-drop used bytes) } }

pub refused_front : (used : ℕ) (bytes : List ℕ) (refusal : PacketRefusal) (new : Reading) → Finds mac_only None 0 (take used bytes) (step.Refused refusal) new → ShowsBytes bytes (shown.Refused refusal)
refused_front used bytes BadLength new f = front _ used bytes f.0
refused_front used bytes BadPadding new f = front _ used bytes f.0
refused_front used bytes BadTag new f = let e : true ≡ false = f.0.bad in cc

pub some_following : (used : ℕ) (bytes : List ℕ) (new : Reading) → Finds mac_only None 0 (take used bytes) step.Payload new → used < length bytes → HasRest (length bytes - used) bytes
some_following used bytes new f less =
    record {
      payload = new.payload;
      after = drop used bytes;
      reads = record { bytes = take used bytes; meets = f.0.packet; parts = sym (take-append-drop used bytes) };
      left = length-drop used bytes;
      some = omega arith;
    }

-- ---- the text

pub text_shows : (text bytes : List ℕ) (s : Shown) → decode_of text ≡ Ok bytes → ShowsBytes bytes s → Shows text s
text_shows text bytes shown.NotHex e h = absurd h
text_shows text bytes (shown.Refused refusal) e h = record { bytes = bytes; digits = e; shows = h }
text_shows text bytes shown.Incomplete e h = record { bytes = bytes; digits = e; shows = h }
text_shows text bytes (shown.Trailing count) e h = record { bytes = bytes; digits = e; shows = h }
text_shows text bytes (shown.Payload payload) e h = record { bytes = bytes; digits = e; shows = h }

pub map_if_ok : {T E : Type 0} {P Q : T → Type 0} (r : Result T E) → ((x : T) → P x → Q x) → IfOk r P → IfOk r Q
map_if_ok (Ok x) f p = f x p
map_if_ok (Err e) f p = p
