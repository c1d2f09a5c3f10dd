-- What an end did with bytes, by what its clauses say of either answer.
use Rattle.std.proofs.Common.{◌≡◌, ◌<◌, ◌≤◌, ℕ, List, [], Result, Ok, Err, IfErr, IfOk, OnErr, OnOk, false, length}
use Rattle.std.specs.Io.{StartsWith}
use Rattle.ssh_model.specs.Protocol.Sessions.Items.{Item}
use Rattle.ssh_model.specs.Protocol.Sessions.Parties.{Parties}
use Rattle.ssh_model.specs.Protocol.Wire.Sealing.{Crypto}
use Rattle.ssh_transport.specs.declared.role.Role as exchange
use Rattle.ssh_transport_machine.specs.Padding.{PadsTo}
use Rattle.ssh_end_machine.specs.Asking.{KeepsDead, OnAnswered}
use Rattle.ssh_end_machine.specs.Calls.{TakesStep}
use Rattle.ssh_end_machine.specs.Ends.{EndNeedsMemory, EndValue, IsFault, sending_from, sending_to}
use Rattle.ssh_end_machine.specs.RoleValues.{RoleValue}
use Rattle.ssh_end_machine.specs.Stands.{FailsTo, StandsAt}
use Rattle.ssh_end_machine.specs.declared.asking.outcome.Fault.{Fault}
use Rattle.ssh_end_machine.specs.declared.asking.outcome.Fault.TheVariants as fault
use Rattle.ssh_end_machine.specs.declared.role.EndRole as role
use Rattle.ssh_end_machine.specs.declared.step.Step.TheVariants as step
use Rattle.divrelca.specs.Ends.{TakesBytes}
use Rattle.divrelca.proofs.Appending.{pads_after, starts_same}

module _ {R X S F K : Type 0} (ends : role.Ghosts R X S F K) (exchanges : exchange.Ghosts X S F K) (c : Crypto K)
    (gives : F → List ℕ → F → Type 0) (old new : EndValue K (RoleValue X R) F) (bytes before after : List ℕ) where
  -- what is said where bytes are used
  pub record SaysTook (result : Result ℕ Fault) : Type 0 where
    pub most : IfOk result (λ used. used ≤ length bytes)
    pub progress : IfOk result (λ used. old.machine.kept.dead ≡ false → 0 < length bytes → 0 < used)
    pub all : IfOk result (λ used. new.step ≡ step.More → used ≡ length bytes)
    pub shown : IfOk result (λ used. new.used ≡ used)
    pub advances : IfOk result (λ used. TakesStep ends exchanges c old bytes used before after new)
    pub padded : OnOk result (PadsTo c gives (sending_from old before) (sending_to new after))

  -- what is said where none are
  pub record SaysFailed (result : Result ℕ Fault) : Type 0 where
    pub failed : IfErr result (λ why. IsFault old.machine why new.machine)
    pub dead : IfErr result (λ why. why ≡ fault.Dead → new.layers ≡ old.layers)
    pub unchanged : IfErr result (λ why. KeepsDead old.filler why new.filler)
    pub needs_memory : IfErr result (λ why. why ≡ fault.Memory → EndNeedsMemory ends exchanges c old bytes)
    pub placed : IfErr result (λ why. (p : Parties K) (history : List Item) → StandsAt ends exchanges p history old →
        FailsTo ends exchanges p history old bytes why new)
    pub none : OnErr result (new.step ≡ step.More)
    pub unused : OnErr result (new.used ≡ 0)
    pub unsent : OnErr result (new.sent ≡ [])
    pub out : OnErr result (after ≡ before)

  pub stepped : (result : Result ℕ Fault) → SaysTook result → SaysFailed result → new.role ≡ old.role →
      TakesBytes ends exchanges c gives old bytes before after result new
  stepped (Ok used) took failed same = record {
    most = took.most;
    progress = took.progress;
    all = took.all;
    shown = took.shown;
    advances = took.advances;
    padded = took.padded;
    role_is = same;
  }
  stepped (Err why) took failed same = record {
    failed = failed.failed;
    dead = failed.dead;
    unchanged = failed.unchanged;
    needs_memory = failed.needs_memory;
    placed = failed.placed;
    none = failed.none;
    unused = failed.unused;
    unsent = failed.unsent;
    out = failed.out;
    role_is = same;
  }

  -- what it put out goes after the bytes that wait
  pub stepped_after : (result : Result ℕ Fault) → OnOk result (PadsTo c gives (sending_from old before) (sending_to new after)) →
      OnErr result (after ≡ before) → StartsWith after before
  stepped_after (Ok used) padded out = pads_after padded
  stepped_after (Err why) padded out = starts_same before after out

-- what an end put out on an ask does, too
pub asked_after : {R F K A : Type 0} (c : Crypto K) (gives : F → List ℕ → F → Type 0) (old new : EndValue K R F) (before after : List ℕ)
    (given : Result A Fault) → OnAnswered given (PadsTo c gives (sending_from old before) (sending_to new after)) →
    OnErr given (after ≡ before) → StartsWith after before
asked_after c gives old new before after (Ok done) padded out = pads_after padded
asked_after c gives old new before after (Err why) padded out = starts_same before after out
