-- The layer of a message, and the facts that a transport tells the layers above it.
use Rattle.std.specs.Prelude.{ℕ, Bool, List}
use Rattle.ssh_model.specs.Protocol.Wire.Message.{Msg, Msg.GlobalRequest, Msg.RequestSuccess, Msg.RequestFailure, Msg.Unknown}
use Rattle.ssh_model.specs.Protocol.Wire.Message.{Msg.ChannelOpen, Msg.ChannelOpenConfirmation, Msg.ChannelOpenFailure}
use Rattle.ssh_model.specs.Protocol.Wire.Message.{Msg.ChannelWindowAdjust, Msg.ChannelData, Msg.ChannelExtendedData}
use Rattle.ssh_model.specs.Protocol.Wire.Message.{Msg.ChannelEof, Msg.ChannelClose, Msg.ChannelRequest, Msg.ChannelSuccess}
use Rattle.ssh_model.specs.Protocol.Wire.Message.{Msg.ChannelFailure}
use Rattle.ssh_end_machine.specs.declared.layers.stack.TransportView.{TransportView}
use Rattle.ssh_end_machine.specs.declared.layers.layer.Layer.{Layer}
use Rattle.ssh_end_machine.specs.declared.layers.layer.Layer.TheVariants as layer

-- What a transport says to the layers above it: the session id, and whether the end is within an exchange of its own, and the user
-- authenticated.
pub record Beneath : Type 0 where
  pub session : List ℕ
  pub is_blocked : Bool
  pub is_authenticated : Bool

-- the same as code says it
abbrev pub beneath_of : TransportView → Beneath
beneath_of b = record { session = b.session.now; is_blocked = b.blocked; is_authenticated = b.authenticated }

-- which layer a message is for
abbrev pub layer_of : Msg → Layer
layer_of (GlobalRequest name want rest) = layer.Channels
layer_of (RequestSuccess rest) = layer.Channels
layer_of RequestFailure = layer.Channels
layer_of (ChannelOpen kind sender window max rest) = layer.Channels
layer_of (ChannelOpenConfirmation recipient sender window max rest) = layer.Channels
layer_of (ChannelOpenFailure recipient reason description language) = layer.Channels
layer_of (ChannelWindowAdjust recipient bytes) = layer.Channels
layer_of (ChannelData recipient body) = layer.Channels
layer_of (ChannelExtendedData recipient kind body) = layer.Channels
layer_of (ChannelEof recipient) = layer.Channels
layer_of (ChannelClose recipient) = layer.Channels
layer_of (ChannelRequest recipient name want rest) = layer.Channels
layer_of (ChannelSuccess recipient) = layer.Channels
layer_of (ChannelFailure recipient) = layer.Channels
layer_of (Unknown number) = layer.Unknown
layer_of message = layer.Authentication
