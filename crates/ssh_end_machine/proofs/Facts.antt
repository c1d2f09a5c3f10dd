-- What is told of a message of the connection is what channels tell.
use Rattle.std.proofs.Common.{◌≡◌, ℕ, Bool, Option, refl}
use Rattle.ssh_model.specs.Protocol.Wire.Message.{Msg}
use Rattle.ssh_model.specs.State.Channels.Kept.{Channels, Taken, Takes}
use Rattle.ssh_channels.specs.Facts as connection
use Rattle.ssh_end_machine.specs.Steps.{fact_by}

pub by_channels : (is_blocked : Bool) (c : Channels) (message : Msg) (taken : Taken) (new : Channels) → Takes is_blocked c message taken new → (channel : Option ℕ) → connection.fact_by message channel ≡ fact_by message channel
by_channels is_blocked c message taken new (Takes.global_request name want rest) channel = refl
by_channels is_blocked c message taken new (Takes.request_success rest) channel = refl
by_channels is_blocked c message taken new Takes.request_failure channel = refl
by_channels is_blocked c message taken new (Takes.open_taken number kind sender window max_packet rest unused) channel = refl
by_channels is_blocked c message taken new (Takes.open_refused kind sender window max_packet rest full) channel = refl
by_channels is_blocked c message taken new (Takes.confirmation recipient sender window max_packet rest) channel = refl
by_channels is_blocked c message taken new (Takes.failure recipient reason description language) channel = refl
by_channels is_blocked c message taken new (Takes.adjust recipient bytes) channel = refl
by_channels is_blocked c message taken new (Takes.got_data recipient body) channel = refl
by_channels is_blocked c message taken new (Takes.got_extended recipient kind body) channel = refl
by_channels is_blocked c message taken new (Takes.eof recipient) channel = refl
by_channels is_blocked c message taken new (Takes.close recipient) channel = refl
by_channels is_blocked c message taken new (Takes.request recipient name want rest) channel = refl
by_channels is_blocked c message taken new (Takes.success recipient) channel = refl
by_channels is_blocked c message taken new (Takes.no_success recipient) channel = refl
