-- The first refusal that holds. The number, the name and the reason code of a refusal of a peer or of an ask. The refusals are the
-- variants of `Refusal` and `AskRefusal` (own, if nothing else is said).
use Rattle.std.specs.Prelude.{ℕ, Bool, Option, Some, None, cond, List, [], ◌∷◌, codes}
use Rattle.ssh_model.specs.declared.refusal.Refusal.{Refusal}
use Rattle.ssh_model.specs.declared.refusal.Refusal.TheVariants as refusals
use Rattle.ssh_model.specs.declared.ask_refusal.AskRefusal.{AskRefusal}
use Rattle.ssh_model.specs.declared.ask_refusal.AskRefusal.TheVariants as ask_refusals

-- ---- checks

-- a condition, and the refusal if it holds
pub data Check (Why : Type 0) : Type 0 where
  RefusedWhere : (holds : Bool) (refusal : Why) → Check Why

-- the refusal of the first check that holds
abbrev pub first_refusal : {Why : Type 0} → List (Check Why) → Option Why
first_refusal [] = None
first_refusal (RefusedWhere holds refusal ∷ checks) = cond holds (Some refusal) (first_refusal checks)

-- ---- the refusals of a peer

-- the number that is printed for a refusal, 1 to 19
abbrev pub refusal_number : Refusal → ℕ
refusal_number refusals.BadLine = 1
refusal_number refusals.BadVersion = 2
refusal_number refusals.BadLength = 3
refusal_number refusals.BadPadding = 4
refusal_number refusals.BadTag = 5
refusal_number refusals.BadMessage = 6
refusal_number refusals.Unexpected = 7
refusal_number refusals.NoCommon = 8
refusal_number refusals.NotStrict = 9
refusal_number refusals.BadPoint = 10
refusal_number refusals.BadHost = 11
refusal_number refusals.NoMaterial = 12
refusal_number refusals.NoService = 13
refusal_number refusals.NumberSpent = 14
refusal_number refusals.TooManyTries = 15
refusal_number refusals.UnknownChannel = 16
refusal_number refusals.WindowOverrun = 17
refusal_number refusals.WindowTooLarge = 18
refusal_number refusals.OwedFull = 19

-- the description in the DISCONNECT that tells the peer of the refusal
abbrev pub refusal_name : Refusal → List ℕ
refusal_name refusals.BadLine = codes "BadLine"
refusal_name refusals.BadVersion = codes "BadVersion"
refusal_name refusals.BadLength = codes "BadLength"
refusal_name refusals.BadPadding = codes "BadPadding"
refusal_name refusals.BadTag = codes "BadTag"
refusal_name refusals.BadMessage = codes "BadMessage"
refusal_name refusals.Unexpected = codes "Unexpected"
refusal_name refusals.NoCommon = codes "NoCommon"
refusal_name refusals.NotStrict = codes "NotStrict"
refusal_name refusals.BadPoint = codes "BadPoint"
refusal_name refusals.BadHost = codes "BadHost"
refusal_name refusals.NoMaterial = codes "NoMaterial"
refusal_name refusals.NoService = codes "NoService"
refusal_name refusals.NumberSpent = codes "NumberSpent"
refusal_name refusals.TooManyTries = codes "TooManyTries"
refusal_name refusals.UnknownChannel = codes "UnknownChannel"
refusal_name refusals.WindowOverrun = codes "WindowOverrun"
refusal_name refusals.WindowTooLarge = codes "WindowTooLarge"
refusal_name refusals.OwedFull = codes "OwedFull"

-- The reason code in that DISCONNECT (RFC 4253 section 11.1). A refused line has no code, so no DISCONNECT is sent for it.
abbrev pub refusal_reason : Refusal → Option ℕ
refusal_reason refusals.BadLine = None
refusal_reason refusals.BadVersion = None
refusal_reason refusals.BadTag = Some 5
refusal_reason refusals.NoCommon = Some 3
refusal_reason refusals.NotStrict = Some 3
refusal_reason refusals.BadPoint = Some 3
refusal_reason refusals.BadHost = Some 9
refusal_reason refusals.NoMaterial = Some 3
refusal_reason refusals.NoService = Some 7
refusal_reason refusals.TooManyTries = Some 14
refusal_reason _ = Some 2

-- ---- the refusals of an ask

-- the number that is printed for a refusal of an ask, 1 to 12
abbrev pub ask_refusal_number : AskRefusal → ℕ
ask_refusal_number ask_refusals.NotYet = 1
ask_refusal_number ask_refusals.Busy = 2
ask_refusal_number ask_refusals.NoChannel = 3
ask_refusal_number ask_refusals.NoRoom = 4
ask_refusal_number ask_refusals.TooLong = 5
ask_refusal_number ask_refusals.Ended = 6
ask_refusal_number ask_refusals.TableFull = 7
ask_refusal_number ask_refusals.NothingOwed = 8
ask_refusal_number ask_refusals.RekeyDue = 9
ask_refusal_number ask_refusals.TooMuch = 10
ask_refusal_number ask_refusals.WrongSide = 11
ask_refusal_number ask_refusals.NoMaterial = 12

-- the name of a refusal of an ask
abbrev pub ask_refusal_name : AskRefusal → List ℕ
ask_refusal_name ask_refusals.NotYet = codes "NotYet"
ask_refusal_name ask_refusals.Busy = codes "Busy"
ask_refusal_name ask_refusals.NoChannel = codes "NoChannel"
ask_refusal_name ask_refusals.NoRoom = codes "NoRoom"
ask_refusal_name ask_refusals.TooLong = codes "TooLong"
ask_refusal_name ask_refusals.Ended = codes "Ended"
ask_refusal_name ask_refusals.TableFull = codes "TableFull"
ask_refusal_name ask_refusals.NothingOwed = codes "NothingOwed"
ask_refusal_name ask_refusals.RekeyDue = codes "RekeyDue"
ask_refusal_name ask_refusals.TooMuch = codes "TooMuch"
ask_refusal_name ask_refusals.WrongSide = codes "WrongSide"
ask_refusal_name ask_refusals.NoMaterial = codes "NoMaterial"
