-- The transport of either role.
--     machine_of, side_of, sending_in   what it keeps, its role, and what it sends by
--     with_kept                         the same transport that keeps something else
--     SameParts                         what is of its role alone is as before
--     TakesIn, FailsIn                  what a call of `take` made of bytes, and why it made nothing of them
use Rattle.std.specs.Prelude.{◌≡◌, ℕ, List}
use Rattle.std.specs.Global.{Vec}
use Rattle.ssh_model.specs.Laws.MacOnly.{mac_only}
use Rattle.ssh_model.specs.State.TransportLayer.Kept.{Transport}
use Rattle.ssh_model.specs.declared.side.Side.{Side}
use Rattle.ssh_model.specs.declared.side.Side.TheVariants as sides
use Rattle.ssh_transport.specs.States.{sending_of}
use Rattle.ssh_transport.specs.Transports.{Fails, Takes}
use Rattle.ssh_transport_machine.specs.Padding.{Sending}
use Rattle.ssh_transport_machine.specs.Puts.{Outs}
use Rattle.ssh_transport_machine.specs.State.{State}
use Rattle.ssh_transport.specs.declared.outcome.TransportFault.{TransportFault}
use Rattle.ssh_transport.specs.declared.outcome.TransportTurn.{TransportTurn}
use Rattle.ssh_toys.specs.Roles.{client_exchange, server_exchange}
use Rattle.ssh_toys.specs.declared.filler.ToyFiller.{ToyFiller}
use Rattle.ssh_toys.specs.declared.transport.ToyTransport.{ToyTransport}
use Rattle.ssh_toys.specs.declared.transport.ToyTransport.TheVariants as any

abbrev pub machine_of : ToyTransport → State (List ℕ)
machine_of (any.Client t) = t.machine
machine_of (any.Server t) = t.machine

abbrev pub side_of : ToyTransport → Side
side_of (any.Client t) = sides.Client
side_of (any.Server t) = sides.Server

-- with these bytes put out and these payloads listed
abbrev pub sending_in : ToyTransport → (out : Vec ℕ) → (sent : Vec (Vec ℕ)) → Sending (List ℕ) ToyFiller
sending_in (any.Client t) out sent = sending_of t out sent
sending_in (any.Server t) out sent = sending_of t out sent

abbrev pub with_kept : ToyTransport → Transport (List ℕ) → ToyTransport
with_kept (any.Client t) kept = any.Client (record t { machine = record t.machine { kept = kept } })
with_kept (any.Server t) kept = any.Server (record t { machine = record t.machine { kept = kept } })

abbrev pub SameParts : (old new : ToyTransport) → Type 0
SameParts (any.Client old) (any.Client new) = new.role ≡ old.role
SameParts (any.Server old) (any.Server new) = new.role ≡ old.role
SameParts _ _ = ⊥

abbrev pub TakesIn : ToyTransport → (bytes : List ℕ) → TransportTurn → ToyTransport → Outs → Type 0
TakesIn (any.Client old) bytes given (any.Client new) o = Takes client_exchange mac_only old bytes given new o
TakesIn (any.Server old) bytes given (any.Server new) o = Takes server_exchange mac_only old bytes given new o
TakesIn _ bytes given _ o = ⊥

abbrev pub FailsIn : ToyTransport → (bytes : List ℕ) → TransportFault → ToyTransport → Type 0
FailsIn (any.Client old) bytes fault (any.Client new) = Fails client_exchange mac_only old bytes fault new
FailsIn (any.Server old) bytes fault (any.Server new) = Fails server_exchange mac_only old bytes fault new
FailsIn _ bytes fault _ = ⊥
