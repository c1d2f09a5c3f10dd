-- Cookies, secrets and padding, as draws of a source.
use Rattle.std.specs.Prelude.{◌≡◌, ℕ, Bool, true, false, cond, List, length, Option, Some, None, Result, Ok, Err}
use Rattle.rand_chacha.specs.ChaCha.{next_word, of_seed}
use Rattle.rand_core.specs.Steps.{steps_u32, stream_of}
use Rattle.rand_core.specs.Stream.{Stream, fill_bytes}
use Rattle.ssh_end_machine.specs.declared.asking.Ask.TheVariants as ask
use Rattle.ssh_end_machine.specs.declared.asking.outcome.AskStep.{AskStep}
use Rattle.ssh_end_machine.specs.declared.asking.outcome.Fault.{Fault}
use Rattle.divrelca.specs.Asking.{IsOutcome, fault_in}
use Rattle.divrelca.specs.Ends.{DoesOnAsk}
use Rattle.divrelca.specs.declared.end.AskOutcome.{AskOutcome}
use Rattle.divrelca.specs.declared.error.SupplyError.{SupplyError}
use Rattle.divrelca.specs.declared.error.SupplyError.TheVariants as supply_error
use Rattle.divrelca.specs.declared.keys.KeySupply.{KeySupply}
use Rattle.divrelca.specs.declared.keys.Material.{Material}
use Rattle.divrelca.specs.declared.keys.PaddingSource.{PaddingSource}

-- which bytes a source may give in a call, from its value before it to its value after it
abbrev pub Gives : Type 0 → Type 1
Gives S = S → List ℕ → S → Type 0

-- A cookie and a secret are drawn one after the other.
pub record IsDrawn {S : Type 0} (gives : Gives S) (old : S) (material : Material) (new : S) : Type 0 where
  pub between : S
  pub cookie : gives old material.cookie between
  pub secret : gives between material.secret new

-- The source gave no random bytes.
abbrev pub IsOfSource : SupplyError → Type 0
IsOfSource (supply_error.Random why) = Unit {0}
IsOfSource (supply_error.End why) = ⊥

-- which pair is handed in: the one that was kept, or one that is drawn now
abbrev pub IsNext : {S : Type 0} → Gives S → Option Material → S → Material → S → Type 0
IsNext gives None old material new = IsDrawn gives old material new
IsNext gives (Some kept) old material new = (material ≡ kept) × (new ≡ old)

-- A supply, the end that it feeds, and the bytes that wait for the end's peer.
pub record Supplied (S E : Type 0) : Type 0 where
  pub supply : KeySupply S
  pub end : E
  pub out : List ℕ

-- The end was asked for an exchange of keys, once, and answered with this fault, if any.
pub record IsRekeyAsked {E : Type 0} (Answers : (given : Result AskStep Fault) → E → Type 0) (why : Option Fault) (later : E) : Type 0 where
  pub result : Result AskOutcome Fault
  pub outcome : IsOutcome Answers result later
  pub why_is : why ≡ fault_in result

-- If an exchange of keys is due it is asked for. If none is due nothing is done.
abbrev pub IsRekeyed : {E : Type 0} → DoesOnAsk E → (due : Bool) → (end : E) → (before : List ℕ) → (why : Option Fault) → (later : E) →
    (after : List ℕ) → Type 0
IsRekeyed asks true end before why later after = IsRekeyAsked (asks end ask.Rekey before after) why later
IsRekeyed asks false end before None later after = (later ≡ end) × (after ≡ before)
IsRekeyed asks false end before (Some why) later after = ⊥

-- An end was handed the next pair, and no other. If the end took it, it is kept no longer. The ask that is due after that is given.
pub record HandsIn {S E : Type 0} (gives : Gives S) (feeds : E → (cookie secret : List ℕ) → (is_taken : Bool) → E → Type 0)
    (is_due : E → Bool) (asks : DoesOnAsk E) (old : Supplied S E) (why : Option Fault) (new : Supplied S E) : Type 0 where
  pub material : Material
  pub next : IsNext gives old.supply.next old.supply.source material new.supply.source
  pub is_taken : Bool
  pub between : E
  pub fed : feeds old.end material.cookie material.secret is_taken between
  pub kept : new.supply.next ≡ cond is_taken None (Some material)
  pub rekeyed : IsRekeyed asks (is_due between) between old.out why new.end new.out

-- No pair was kept, and none could be drawn. Nothing was handed in.
pub record HandsNothingIn {S E : Type 0} (old new : Supplied S E) : Type 0 where
  pub none : old.supply.next ≡ None
  pub kept : new.supply.next ≡ None
  pub end : new.end ≡ old.end
  pub out : new.out ≡ old.out

-- the supply and its end after that, by the answer
abbrev pub KeepsFresh : {S E A : Type 0} → Gives S → (E → (cookie secret : List ℕ) → (is_taken : Bool) → E → Type 0) → (E → Bool) →
    DoesOnAsk E → (old : Supplied S E) → Result A SupplyError → (new : Supplied S E) → Type 0
KeepsFresh gives feeds is_due asks old (Ok done) new = HandsIn gives feeds is_due asks old None new
KeepsFresh gives feeds is_due asks old (Err (supply_error.End why)) new = HandsIn gives feeds is_due asks old (Some why) new
KeepsFresh gives feeds is_due asks old (Err (supply_error.Random why)) new = HandsNothingIn old new

-- ---- padding

-- the source of padding from the stream of ChaCha20 under this key, from its first byte
abbrev pub padding_under : (key : List ℕ) → PaddingSource
padding_under key = record { stream = of_seed key }

-- The padding is that of a stream of ChaCha20 whose key is drawn now.
pub record SeedsPadding {S : Type 0} (gives : Gives S) (old : S) (padding : PaddingSource) (new : S) : Type 0 where
  pub seed : List ℕ
  pub given : gives old seed new
  pub stream_is : padding.stream ≡ of_seed seed

-- all that a padding's stream gives from now on
abbrev pub stream_in : PaddingSource → Stream
stream_in padding = stream_of (steps_u32 (next_word 10)) padding.stream

-- the bytes are the next ones of the stream
abbrev pub next_bytes : PaddingSource → List ℕ → PaddingSource → Type 0
next_bytes old bytes new = (bytes, stream_in new) ≡ fill_bytes (length bytes) (stream_in old)
