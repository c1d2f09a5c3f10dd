-- The numbers and names of the refusals, and when each answer comes.
use Rattle.std.specs.Prelude.{◌≡◌, ℕ, List, Some, codes}
use Rattle.ssh_model.specs.Protocol.Wire.Sealing.{Crypto}
use Rattle.ssh_config.specs.declared.error.ConfigRefusal.{ConfigRefusal}
use Rattle.ssh_config.specs.declared.error.ConfigRefusal.TheVariants.{BadSoftware, BadList, BadLimit, BadExtension}
use Rattle.ssh_types.specs.declared.call_error.CallError.{CallError}
use Rattle.ssh_types.specs.declared.call_error.CallError.TheVariants.{Refused, Memory}
use Rattle.ssh_config.specs.declared.error.ConfigLimit.TheVariants.{EpochLimit, Tries}
use Rattle.ssh_config.specs.Checks.{extension_fault, lists_fault}
use Rattle.ssh_config.specs.Config.{AreGood, AreLists, Given, HasLine, IsBadExtension, IsBadList, IsBadSoftware, IsEpochLimit, IsTries}

abbrev pub refusal_number : ConfigRefusal → ℕ
refusal_number BadSoftware = 1
refusal_number (BadList list fault) = 2
refusal_number (BadLimit limit) = 3
refusal_number (BadExtension fault) = 4

abbrev pub refusal_name : ConfigRefusal → List ℕ
refusal_name BadSoftware = codes "BadSoftware"
refusal_name (BadList list fault) = codes "BadList"
refusal_name (BadLimit limit) = codes "BadLimit"
refusal_name (BadExtension fault) = codes "BadExtension"

-- The lowest refusal whose condition holds, with the first fault of the lists or of the extensions, or the first limit.
abbrev pub IsRefused : {K : Type 0} → Crypto K → Given → ConfigRefusal → Type 0
IsRefused c g BadSoftware = IsBadSoftware g
IsRefused c g (BadList list fault) = HasLine g × IsBadList c g × (lists_fault c g ≡ Some (list, fault))
IsRefused c g (BadLimit EpochLimit) = HasLine g × AreLists c g × (IsEpochLimit g.epoch_limit → ⊥)
IsRefused c g (BadLimit Tries) = HasLine g × AreLists c g × IsEpochLimit g.epoch_limit × (IsTries g.tries → ⊥)
IsRefused c g (BadExtension fault) =
    HasLine g × AreLists c g × IsEpochLimit g.epoch_limit × IsTries g.tries × IsBadExtension g × (extension_fault g.takes_extensions g.extensions ≡ Some fault)

-- Memory is asked for after all tests.
abbrev pub IsError : {K : Type 0} → Crypto K → Given → CallError ConfigRefusal → Type 0
IsError c g (Refused refusal) = IsRefused c g refusal
IsError c g Memory = AreGood c g
