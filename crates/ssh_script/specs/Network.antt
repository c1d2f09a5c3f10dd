-- What lies between two sides, and what a line delivers of it.
use Rattle.std.specs.Prelude.{◌≡◌, ℕ, List, length, take, drop, Option, Some, None}
use Rattle.ssh_model.specs.Protocol.Side.{peer}
use Rattle.ssh_model.specs.declared.side.Side.{Side}
use Rattle.ssh_model.specs.declared.side.Side.TheVariants.{Client, Server}
use Rattle.ssh_script.specs.Shortage.{meant}
use Rattle.ssh_script.specs.declared.delivery.Count.{Count}
use Rattle.ssh_script.specs.declared.delivery.Count.TheVariants.{All, Next}
use Rattle.ssh_script.specs.declared.delivery.Delivery.{Delivery}
use Rattle.ssh_script.specs.declared.delivery.Delivery.TheVariants.{Again, Drip, Give, Lose, Pass}
use Rattle.ssh_script.specs.declared.network.Network.{Network}
use Rattle.ssh_script.specs.declared.parcel.Cut.{Cut}
use Rattle.ssh_script.specs.declared.parcel.Cut.TheVariants.{Bytes, Whole}
use Rattle.ssh_script.specs.declared.parcel.Origin.TheVariants.{PutOut, Script}
use Rattle.ssh_script.specs.declared.parcel.Parcel.{Parcel}
use Rattle.ssh_script.specs.declared.shortage.Shortage.{Shortage}

-- what is done where a line wants more bytes than there are
abbrev pub shortage_of : Network → Shortage
shortage_of network = network.shortage

-- all bytes that a side put out
abbrev pub whole_of : Network → Side → List ℕ
whole_of network Client = network.client.bytes.items
whole_of network Server = network.server.bytes.items

-- how many of them don't wait any more
abbrev pub passed_of : Network → Side → ℕ
passed_of network Client = network.client.passed
passed_of network Server = network.server.passed

-- those that wait
abbrev pub waiting_of : Network → Side → List ℕ
waiting_of network side = drop (passed_of network side) (whole_of network side)

-- how many of the waiting bytes a line means
abbrev pub counted : Network → Side → Count → ℕ
counted network side All = length (waiting_of network side)
counted network side (Next n) = meant network.shortage n (length (waiting_of network side))

-- This parcel comes from the waiting bytes of a side.
pub record IsNext (network : Network) (from : Side) (count : Count) (pieces : Cut) (parcel : Parcel) : Type 0 where
  pub to : parcel.to ≡ peer from
  pub bytes : parcel.bytes.now ≡ take (counted network from count) (waiting_of network from)
  pub origin : parcel.origin ≡ PutOut (passed_of network from)
  pub cut : parcel.cut ≡ pieces

-- This parcel has bytes that a side put out before.
pub record IsAgain (network : Network) (from : Side) (start count : ℕ) (parcel : Parcel) : Type 0 where
  pub to : parcel.to ≡ peer from
  pub bytes : parcel.bytes.now ≡ take count (drop start (whole_of network from))
  pub cut : parcel.cut ≡ Whole

-- This parcel has the bytes of a script's line.
pub record IsGiven (side : Side) (given : List ℕ) (parcel : Parcel) : Type 0 where
  pub to : parcel.to ≡ side
  pub bytes : parcel.bytes.now ≡ given
  pub origin : parcel.origin ≡ Script
  pub cut : parcel.cut ≡ Whole

-- what a line delivers
abbrev pub Delivers : Network → Delivery → Option Parcel → Type 0
Delivers network (Pass from count) (Some parcel) = IsNext network from count Whole parcel
Delivers network (Drip from) (Some parcel) = IsNext network from All Bytes parcel
Delivers network (Lose from count) None = Unit {0}
Delivers network (Give side bytes) (Some parcel) = IsGiven side bytes.items parcel
Delivers network (Again from start count) (Some parcel) = IsAgain network from start count parcel
Delivers network line parcel = ⊥
