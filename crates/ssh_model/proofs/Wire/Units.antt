-- The units of a stream of lines and packets.
use Rattle.std.proofs.Common.{◌≡◌, ℕ, Bool, true, false, List, [], ◌++◌, ◌↔◌, ◌⊎◌, inl, inr, sym, ◌∙◌}
use Rattle.ssh_model.specs.Protocol.Wire.DataTypes.{AreBytes}
use Rattle.ssh_model.specs.Protocol.Wire.Line.{LineUnit}
use Rattle.ssh_model.specs.Laws.Units.{IsPartialLine, HasUnit, IsStage, IsPartialPacket, IsPartialUnit}
use Rattle.ssh_model.specs.Protocol.Wire.Sealing.{Crypto, IsSealing}
use Rattle.ssh_model.specs.Protocol.Wire.Outcome.{Outcome}
use Rattle.ssh_model.specs.Protocol.Wire.Delivery.{Waits, Delivered}
use Rattle.ssh_model.specs.Laws.Delivery.{IsAlone, IsStill, InPieces}
use Rattle.ssh_model.specs.Protocol.Wire.Unit.{Stage, Stage.Lines, Stage.Packets, PacketUnit, IsUnit, reading}
use Rattle.ssh_model.proofs.Wire.Lines.{line_alone, line_some, line_begun}
use Rattle.ssh_model.proofs.Wire.LineOutcomes.{line_outcome}
use Rattle.ssh_model.proofs.Wire.LineGaps.{line_found}
use Rattle.ssh_model.proofs.Wire.PacketGaps.{packet_found}
use Rattle.ssh_model.proofs.Wire.Packets.{packet_alone, packet_some, packet_begun}
use Rattle.ssh_model.proofs.Wire.PacketOutcomes.{packet_outcome}
use Rattle.ssh_model.proofs.Wire.Pieces.{same_in_pieces}

pub unit_alone : {K : Type 0} (c : Crypto K) (stage : Stage K) (u v w : List ℕ) (o p : Outcome) → IsSealing c → IsUnit c stage u o → IsUnit c stage w p → u ++ v ≡ w → v ≡ []
unit_alone c (Lines server others) u v w o p laws a b e = line_alone server others u v w o p a b e
unit_alone c (Packets key number taken) u v w o p laws a b e = packet_alone c key number taken u v w o p laws a b e

pub unit_outcome : {K : Type 0} (c : Crypto K) (stage : Stage K) (u : List ℕ) (o p : Outcome) → IsSealing c → IsUnit c stage u o → IsUnit c stage u p → o ≡ p
unit_outcome c (Lines server others) u o p laws a b = line_outcome server others u o p a b
unit_outcome c (Packets key number taken) u o p laws a b = packet_outcome c key number taken u laws o p a b

pub unit_some : {K : Type 0} (c : Crypto K) (stage : Stage K) (o : Outcome) → IsSealing c → IsUnit c stage [] o → ⊥
unit_some c (Lines server others) o laws a = line_some server others o a
unit_some c (Packets key number taken) o laws a = packet_some c key number taken o laws a

pub unit_begun : {K : Type 0} (c : Crypto K) (stage : Stage K) (bytes u v : List ℕ) (o : Outcome) → IsSealing c → IsPartialUnit c stage bytes → u ++ v ≡ bytes → IsUnit c stage u o → ⊥
unit_begun c (Lines server others) bytes u v o laws b e a = line_begun server others bytes u v o b e a
unit_begun c (Packets key number taken) bytes u v o laws b e a = packet_begun c key number taken bytes u v o laws b e a

pub unit_found : {K : Type 0} (c : Crypto K) (stage : Stage K) (bytes : List ℕ) → IsSealing c → IsStage stage → AreBytes bytes → IsPartialUnit c stage bytes ⊎ HasUnit (IsUnit c stage) bytes
unit_found c (Lines server others) bytes laws fits are = moved (line_found server others bytes)
  where
    moved : IsPartialLine bytes ⊎ HasUnit (LineUnit server others) bytes → IsPartialUnit c (Lines server others) bytes ⊎ HasUnit (IsUnit c (Lines server others)) bytes
    moved (inl b) = inl b
    moved (inr u) = inr (record { unit = u.unit; more = u.more; outcome = u.outcome; parts = u.parts; is_unit = u.is_unit })
unit_found c (Packets key number taken) bytes laws fits are = moved (packet_found c key number taken laws fits bytes are)
  where
    moved : IsPartialPacket c key taken bytes ⊎ HasUnit (PacketUnit c key number taken) bytes → IsPartialUnit c (Packets key number taken) bytes ⊎ HasUnit (IsUnit c (Packets key number taken)) bytes
    moved (inl b) = inl b
    moved (inr u) = inr (record { unit = u.unit; more = u.more; outcome = u.outcome; parts = u.parts; is_unit = u.is_unit })

-- ---- ends that read them

module _ {K History : Type 0} (c : Crypto K) (laws : IsSealing c) (stage : History → Stage K) (after : History → List ℕ → History → Type 0) (dead : History → Bool) where
  reading_alone : IsAlone (reading c stage after dead)
  reading_alone h u v w a b e = unit_alone c (stage h) u v w a.1 b.1 laws a.2 b.2 e

  reading_still : IsStill (reading c stage after dead)
  reading_still h u d a = let e : false ≡ true = sym a.0 ∙ d in cc

  pub reading_waits : (h : History) (bytes : List ℕ) → IsPartialUnit c (stage h) bytes → Waits (reading c stage after dead) h bytes
  reading_waits h bytes b u v e a = unit_begun c (stage h) bytes u v a.1 laws b e a.2

  pub reading_begun : (h : History) (bytes : List ℕ) → dead h ≡ false → IsStage (stage h) → AreBytes bytes → Waits (reading c stage after dead) h bytes → IsPartialUnit c (stage h) bytes
  reading_begun h bytes alive fits are w = go (unit_found c (stage h) bytes laws fits are)
    where
      go : IsPartialUnit c (stage h) bytes ⊎ HasUnit (IsUnit c (stage h)) bytes → IsPartialUnit c (stage h) bytes
      go (inl b) = b
      go (inr u) = absurd (w u.unit u.more u.parts (alive, u.outcome, u.is_unit))

  pub reading_pieces : (h last : History) (one two rest : List ℕ) →
      Delivered (reading c stage after dead) h (one ++ two) last rest ↔ InPieces (reading c stage after dead) h one two last rest
  reading_pieces h last one two rest = same_in_pieces (reading c stage after dead) reading_alone reading_still h last one two rest
