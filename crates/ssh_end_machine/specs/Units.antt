-- The step of an end on the bytes of one line or one packet, with its role's part in a key exchange.
use Rattle.std.specs.Prelude.{◌≡◌, ◌≤◌, ◌++◌, ℕ, true, Result, List, length, take}
use Rattle.ssh_model.specs.Protocol.Authentication.Requests.{Judge}
use Rattle.ssh_model.specs.declared.refusal.Refusal.{Refusal}
use Rattle.ssh_model.specs.declared.side.Side.{Side}
use Rattle.ssh_model.specs.Protocol.Wire.Sealing.{Crypto}
use Rattle.ssh_transport_machine.specs.Puts.{Outs}
use Rattle.ssh_transport_machine.specs.State.{State}
use Rattle.ssh_transport.specs.declared.outcome.Handled.TheVariants as effect
use Rattle.ssh_transport.specs.declared.outcome.TransportTurn.{TransportTurn}
use Rattle.ssh_transport.specs.declared.outcome.TransportTurn.TheVariants as outcome
use Rattle.ssh_transport.specs.Units.{Died, RoleDoes, RoleNeedsMemory, Took}
use Rattle.ssh_end_machine.specs.Above.{FinishNeedsMemory, Finished}
use Rattle.ssh_end_machine.specs.OwedReplies.{OwedFlushed}
use Rattle.ssh_end_machine.specs.Outcomes.{is_whole, step_given}
use Rattle.ssh_end_machine.specs.Judging.{JudgeNeedsMemory, JudgesPayload}
use Rattle.ssh_end_machine.specs.Layers.{Layers}
use Rattle.ssh_end_machine.specs.Login.{opened}
use Rattle.ssh_end_machine.specs.declared.replying.ServiceReply.{ServiceReply}
use Rattle.ssh_end_machine.specs.declared.layers.login.Login.{Login}
use Rattle.ssh_end_machine.specs.declared.layers.login.Login.TheVariants as login
use Rattle.ssh_end_machine.specs.declared.step.Step.{Step}

-- ---- the effect of an answer of the transport

-- SERVICE_ACCEPT opens authentication, when a server sends it or a client takes it.
abbrev pub opened_by : TransportTurn → Login → Login
opened_by (outcome.Done effect.ServiceRequested) (login.Server server) = opened (login.Server server)
opened_by (outcome.Done effect.ServiceAccepted) (login.Client client) = opened (login.Client client)
opened_by given kept = kept

-- Its transport did all that is to be done.
pub record TransportOnly {K : Type 0} (given : TransportTurn) (between : State K) (old : Layers) (done : Step)
    (new : State K) (later : Layers) (middle after : List ℕ) (payloads_before payloads_after : List (List ℕ)) : Type 0 where
  pub whole : is_whole given ≡ true
  pub shown : done ≡ step_given given
  pub same : new ≡ between
  pub layers_are : later ≡ record old { authentication = opened_by given old.authentication }
  pub out : after ≡ middle
  pub lists : payloads_after ≡ payloads_before

-- A payload was left to the layers above, which judged it.
pub record ToServices {K : Type 0} (c : Crypto K) (judge : Judge) (between : State K) (old : Layers) (done : Step)
    (new : State K) (later : Layers) (o : Outs) : Type 0 where
  pub given : Result ServiceReply Refusal
  pub judged : JudgesPayload judge between old given later
  pub finished : Finished c between given done new o

-- An exchange was completed, and the owed replies are sent after it. The reading is as before.
pub record AfterNewkeys {K : Type 0} (c : Crypto K) (between : State K) (old : Layers) (done : Step) (new : State K)
    (later : Layers) (o : Outs) : Type 0 where
  pub completing : OwedFlushed c between old.channels done new later.channels o
  pub authentication : later.authentication ≡ old.authentication
  pub rest : new ≡ record between { kept = new.kept }

-- the one or the other, by the answer
abbrev pub Handles : {K : Type 0} → Crypto K → Judge → TransportTurn → State K → Layers → Step → State K → Layers → Outs →
    Type 0
Handles c judge (outcome.Up number) between old done new later o = ToServices c judge between old done new later o
Handles c judge (outcome.Completed choice) between old done new later o = AfterNewkeys c between old done new later o
Handles c judge given between old done new later o =
    TransportOnly given between old done new later o.before o.after o.payloads_before o.payloads_after

-- A payload was left to the layers above: judging it took memory, or something would be sent for what they made of it.
pub data UpNeedsMemory {K : Type 0} (judge : Judge) (between : State K) (layers : Layers) : Type 0 where
  judging : JudgeNeedsMemory judge between layers → UpNeedsMemory judge between layers
  sending : (given : Result ServiceReply Refusal) (later : Layers) → JudgesPayload judge between layers given later →
      FinishNeedsMemory between given → UpNeedsMemory judge between layers

-- the need for memory after an answer of the transport
abbrev pub HandlingNeedsMemory : {K : Type 0} → Judge → TransportTurn → State K → Layers → Type 0
HandlingNeedsMemory judge (outcome.Up number) between layers = UpNeedsMemory judge between layers
HandlingNeedsMemory judge (outcome.Completed choice) between layers = 1 ≤ length layers.channels.owed
HandlingNeedsMemory judge given between layers = ⊥

-- ---- a line or a packet

-- What was made of the buffered bytes followed by those that were used: what the transport made of them, and what was done
-- with that.
pub record UnitHandled {K : Type 0} (c : Crypto K) (side : Side) (does : RoleDoes K) (judge : Judge) (old : State K)
    (layers : Layers) (bytes : List ℕ) (done : Step) (new : State K) (later : Layers) (o : Outs) : Type 0 where
  pub given : TransportTurn
  pub between : State K
  pub middle : List ℕ
  pub payloads_before : List (List ℕ)
  pub took : Took c side does old bytes given between
      (record { before = o.before; after = middle; payloads_before = o.payloads_before; payloads_after = payloads_before })
  pub goes : Handles c judge given between layers done new later
      (record { before = middle; after = o.after; payloads_before = payloads_before; payloads_after = o.payloads_after })

-- What took memory of the bytes of one line or one packet: what its transport would send, or what is done with what the
-- transport made of them.
pub data UnitNeedsMemory {K : Type 0} (c : Crypto K) (side : Side) (does : RoleDoes K) (own : RoleNeedsMemory K)
    (judge : Judge) (old : State K) (layers : Layers) (bytes : List ℕ) : Type 0 where
  by_transport : (new : State K) → Died c side own old bytes new → UnitNeedsMemory c side does own judge old layers bytes
  by_end : (given : TransportTurn) (between : State K) (o : Outs) → Took c side does old bytes given between o →
      HandlingNeedsMemory judge given between layers → UnitNeedsMemory c side does own judge old layers bytes

-- It is of the buffered bytes followed by some of those that came.
pub record FrontNeedsMemory (NeedsMemory : List ℕ → Type 0) (buffered bytes : List ℕ) : Type 0 where
  pub used : ℕ
  pub most : used ≤ length bytes
  pub needs_memory : NeedsMemory (buffered ++ take used bytes)
