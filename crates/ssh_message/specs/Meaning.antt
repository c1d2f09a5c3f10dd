-- The meaning of the messages of this crate, and whether a payload is a message.
use Rattle.std.specs.Prelude.{ℕ, Bool, Some, None, List}
use Rattle.ssh_model.specs.Protocol.Wire.DataTypes.{IsUint32}
use Rattle.ssh_model.specs.Protocol.Wire.Message as model
use Rattle.ssh_model.specs.Protocol.Wire.Message.{Msg, IsPayload}
use Rattle.ssh_types.specs.Values.{names}
use Rattle.ssh_message.specs.Announced.{extensions_of}
use Rattle.ssh_message.specs.declared.message.Proposal.{Proposal}
use Rattle.ssh_message.specs.declared.message.Method.{Method}
use Rattle.ssh_message.specs.declared.message.Method.TheVariants as method
use Rattle.ssh_message.specs.declared.message.Message.{Message}
use Rattle.ssh_message.specs.declared.message.Message.TheVariants as message

-- ---- messages as values, without the places of their texts

abbrev pub proposal_meaning : Proposal → model.Proposal
proposal_meaning p = record {
  cookie = p.cookie.now;
  kex = names p.kex;
  host = names p.host;
  enc_cs = names p.enc_cs;
  enc_sc = names p.enc_sc;
  mac_cs = names p.mac_cs;
  mac_sc = names p.mac_sc;
  comp_cs = names p.comp_cs;
  comp_sc = names p.comp_sc;
  lang_cs = names p.lang_cs;
  lang_sc = names p.lang_sc;
  follows = p.follows;
}

abbrev pub method_meaning : Method → model.Method
method_meaning method.None = model.NoMethod
method_meaning (method.Password password None) = model.Password password.now None
method_meaning (method.Password password (Some new)) = model.Password password.now (Some new.now)
method_meaning (method.Publickey algorithm key None) = model.Publickey algorithm.now key.now None
method_meaning (method.Publickey algorithm key (Some signature)) = model.Publickey algorithm.now key.now (Some signature.now)
method_meaning (method.Other name rest) = model.Other name.now rest.now

abbrev pub meaning : Message → Msg
meaning (message.Disconnect reason description language) = model.Disconnect reason description.now language.now
meaning (message.Ignore body) = model.Ignore body.now
meaning (message.Unimplemented number) = model.Unimplemented number
meaning (message.Debug display message language) = model.Debug display message.now language.now
meaning (message.ServiceRequest service) = model.ServiceRequest service.now
meaning (message.ServiceAccept service) = model.ServiceAccept service.now
meaning (message.ExtInfo extensions) = model.ExtInfo (extensions_of extensions)
meaning (message.KexInit proposal) = model.KexInit (proposal_meaning proposal)
meaning message.NewKeys = model.NewKeys
meaning (message.KexEcdhInit q_c) = model.KexEcdhInit q_c.now
meaning (message.KexEcdhReply k_s q_s signature) = model.KexEcdhReply k_s.now q_s.now signature.now
meaning (message.UserauthRequest user service method) = model.UserauthRequest user.now service.now (method_meaning method)
meaning (message.UserauthFailure methods partial) = model.UserauthFailure (names methods) partial
meaning message.UserauthSuccess = model.UserauthSuccess
meaning (message.UserauthBanner message language) = model.UserauthBanner message.now language.now
meaning (message.UserauthPkOk algorithm key) = model.UserauthPkOk algorithm.now key.now
meaning (message.GlobalRequest name want rest) = model.GlobalRequest name.now want rest.now
meaning (message.RequestSuccess rest) = model.RequestSuccess rest.now
meaning message.RequestFailure = model.RequestFailure
meaning (message.ChannelOpen kind sender window max rest) = model.ChannelOpen kind.now sender window max rest.now
meaning (message.ChannelOpenConfirmation recipient sender window max rest) = model.ChannelOpenConfirmation recipient sender window max rest.now
meaning (message.ChannelOpenFailure recipient reason description language) = model.ChannelOpenFailure recipient reason description.now language.now
meaning (message.ChannelWindowAdjust recipient bytes) = model.ChannelWindowAdjust recipient bytes
meaning (message.ChannelData recipient body) = model.ChannelData recipient body.now
meaning (message.ChannelExtendedData recipient kind body) = model.ChannelExtendedData recipient kind body.now
meaning (message.ChannelEof recipient) = model.ChannelEof recipient
meaning (message.ChannelClose recipient) = model.ChannelClose recipient
meaning (message.ChannelRequest recipient name want rest) = model.ChannelRequest recipient name.now want rest.now
meaning (message.ChannelSuccess recipient) = model.ChannelSuccess recipient
meaning (message.ChannelFailure recipient) = model.ChannelFailure recipient
meaning (message.Unknown number) = model.Unknown number

-- ---- a payload and its message

-- The payload is this message, whether a key probe is outstanding or not.
abbrev pub IsMeant : Message → List ℕ → Type 0
IsMeant m payload = (probing : Bool) → IsPayload probing (meaning m) payload

-- The payload is no message.
pub record NoMessage (probing : Bool) (payload : List ℕ) : Type 0 where
  pub none : (m : Msg) → IsPayload probing m payload → ⊥

abbrev pub IsNone : List ℕ → Type 0
IsNone payload = (probing : Bool) → NoMessage probing payload

-- the reserved number, which has no value of its own
abbrev pub IsZero : Unit {0} → List ℕ → Type 0
IsZero _ bytes = IsUint32 0 bytes
