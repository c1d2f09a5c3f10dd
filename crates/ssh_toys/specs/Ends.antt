-- An end of either role.
--     machine_of .. side_of             what it keeps, and its role
--     sending_before, sending_after     what it sends by, before a call and after it
--     with_machine                      the same end with another machine
--     MadeIn .. FedIn                   what its role's type says of a call
use Rattle.std.specs.Prelude.{ℕ, Bool, List, Option}
use Rattle.ssh_end_machine.specs.Ends.{EndNeedsMemory, IsOf, sending_from, sending_to}
use Rattle.ssh_end_machine.specs.Layers.{Layers}
use Rattle.ssh_end_machine.specs.Sessions.{AreOf, end_of}
use Rattle.ssh_end_machine.specs.Stands.{FeedsTo, MadeOf, StandsAt}
use Rattle.ssh_end_machine.specs.declared.step.Step.{Step}
use Rattle.ssh_model.specs.Protocol.KeyExchange.Exchanges.{Material}
use Rattle.ssh_model.specs.Protocol.Sessions.Items.{Item}
use Rattle.ssh_model.specs.Protocol.Sessions.Parties.{Parties, Settings}
use Rattle.ssh_model.specs.Laws.MacOnly.{mac_only}
use Rattle.ssh_model.specs.declared.side.Side.{Side}
use Rattle.ssh_model.specs.declared.side.Side.TheVariants as sides
use Rattle.ssh_transport_machine.specs.Padding.{Sending}
use Rattle.ssh_transport_machine.specs.State.{State}
use Rattle.ssh_toys.specs.Roles.{client_exchange, client_role, server_exchange, server_role}
use Rattle.ssh_toys.specs.declared.end.ToyEnd.{ToyEnd}
use Rattle.ssh_toys.specs.declared.end.ToyEnd.TheVariants as any
use Rattle.ssh_toys.specs.declared.filler.ToyFiller.{ToyFiller}

-- ---- what it keeps

abbrev pub machine_of : ToyEnd → State (List ℕ)
machine_of (any.Client e) = e.machine
machine_of (any.Server e) = e.machine

abbrev pub layers_of : ToyEnd → Layers
layers_of (any.Client e) = e.layers
layers_of (any.Server e) = e.layers

abbrev pub step_of : ToyEnd → Step
step_of (any.Client e) = e.step
step_of (any.Server e) = e.step

abbrev pub used_of : ToyEnd → ℕ
used_of (any.Client e) = e.used
used_of (any.Server e) = e.used

abbrev pub sent_of : ToyEnd → List (List ℕ)
sent_of (any.Client e) = e.sent
sent_of (any.Server e) = e.sent

abbrev pub channels_of : ToyEnd → List (Option ℕ)
channels_of (any.Client e) = e.channels
channels_of (any.Server e) = e.channels

abbrev pub side_of : ToyEnd → Side
side_of (any.Client e) = sides.Client
side_of (any.Server e) = sides.Server

abbrev pub sending_before : ToyEnd → (bytes : List ℕ) → Sending (List ℕ) ToyFiller
sending_before (any.Client e) bytes = sending_from e bytes
sending_before (any.Server e) bytes = sending_from e bytes

abbrev pub sending_after : ToyEnd → (bytes : List ℕ) → Sending (List ℕ) ToyFiller
sending_after (any.Client e) bytes = sending_to e bytes
sending_after (any.Server e) bytes = sending_to e bytes

abbrev pub with_machine : ToyEnd → State (List ℕ) → ToyEnd
with_machine (any.Client e) machine = any.Client (record e { machine = machine })
with_machine (any.Server e) machine = any.Server (record e { machine = machine })

-- ---- what its role's type says of a call

-- It is an end that was made, of whichever lawful parties its parts are.
abbrev pub MadeIn : Settings → Material → ToyEnd → (before after : List ℕ) → Type 0
MadeIn settings material (any.Client e) before after =
    MadeOf sides.Client settings (λ p. IsOf client_role e.role p) (λ p. AreOf p e.layers) material e.machine
    (end_of e.machine.kept e.layers) before after e.sent
MadeIn settings material (any.Server e) before after =
    MadeOf sides.Server settings (λ p. IsOf server_role e.role p) (λ p. AreOf p e.layers) material e.machine
    (end_of e.machine.kept e.layers) before after e.sent

-- what took memory of the bytes that came
abbrev pub NeedsMemoryIn : ToyEnd → (bytes : List ℕ) → Type 0
NeedsMemoryIn (any.Client e) bytes = EndNeedsMemory client_role client_exchange mac_only e bytes
NeedsMemoryIn (any.Server e) bytes = EndNeedsMemory server_role server_exchange mac_only e bytes

-- From each place of a run the pair of cookie and secret took it to the next, by the answer.
abbrev pub FedIn : ToyEnd → (cookie secret : List ℕ) → Bool → ToyEnd → Type 0
FedIn (any.Client old) cookie secret answer (any.Client new) =
    (p : Parties (List ℕ)) (history : List Item) → StandsAt client_role client_exchange p history old →
    FeedsTo client_role client_exchange p history cookie secret answer new
FedIn (any.Server old) cookie secret answer (any.Server new) =
    (p : Parties (List ℕ)) (history : List Item) → StandsAt server_role server_exchange p history old →
    FeedsTo server_role server_exchange p history cookie secret answer new
FedIn _ cookie secret answer _ = ⊥
