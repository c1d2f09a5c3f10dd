-- The numbers, names and reason codes of refusals.
use Rattle.std.specs.Prelude.{◌≡◌, ◌∷◌, [], Some, None, codes, map, refl}
use Rattle.ssh_model.specs.Example.Toys.{every_refusal, every_ask_refusal, from_to}
use Rattle.ssh_model.specs.Protocol.Sessions.Refusals.{refusal_number, refusal_name, refusal_reason, ask_refusal_number, ask_refusal_name}

pub numbers_row : map refusal_number every_refusal ≡ from_to 1 19
numbers_row = refl

pub reason_codes_row : map refusal_reason every_refusal ≡ None ∷ None ∷ map Some (2 ∷ 2 ∷ 5 ∷ 2 ∷ 2 ∷ 3 ∷ 3 ∷ 3 ∷ 9 ∷ 3 ∷ 7 ∷ 2 ∷ 14 ∷ 2 ∷ 2 ∷ 2 ∷ 2 ∷ [])
reason_codes_row = refl

pub names_row : map refusal_name every_refusal ≡ codes "BadLine" ∷ codes "BadVersion" ∷ codes "BadLength" ∷ codes "BadPadding" ∷ codes "BadTag" ∷ codes "BadMessage" ∷ codes "Unexpected" ∷ codes "NoCommon" ∷ codes "NotStrict" ∷ codes "BadPoint" ∷ codes "BadHost" ∷ codes "NoMaterial" ∷ codes "NoService" ∷ codes "NumberSpent" ∷ codes "TooManyTries" ∷ codes "UnknownChannel" ∷ codes "WindowOverrun" ∷ codes "WindowTooLarge" ∷ codes "OwedFull" ∷ []
names_row = refl

pub ask_numbers_row : map ask_refusal_number every_ask_refusal ≡ from_to 1 12
ask_numbers_row = refl

pub ask_names_row : map ask_refusal_name every_ask_refusal ≡ codes "NotYet" ∷ codes "Busy" ∷ codes "NoChannel" ∷ codes "NoRoom" ∷ codes "TooLong" ∷ codes "Ended" ∷ codes "TableFull" ∷ codes "NothingOwed" ∷ codes "RekeyDue" ∷ codes "TooMuch" ∷ codes "WrongSide" ∷ codes "NoMaterial" ∷ []
ask_names_row = refl
