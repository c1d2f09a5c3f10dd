-- What can be written, and what a failed writing leaves.
use Rattle.std.specs.Prelude.{◌≡◌, ℕ, ◌<◌, ◌^◌, ◌++◌, false, IsTrue, Some, None, List, length}
use Rattle.ssh_model.specs.Protocol.Wire.Message.{IsOther, is_unknown}
use Rattle.ssh_types.specs.Values.{names_text}
use Rattle.ssh_message.specs.declared.message.Proposal.{Proposal}
use Rattle.ssh_message.specs.declared.message.Method.{Method}
use Rattle.ssh_message.specs.declared.message.Method.TheVariants as method
use Rattle.ssh_message.specs.declared.message.Message.{Message}
use Rattle.ssh_message.specs.declared.message.Message.TheVariants as message

-- Bytes were put at the end, and the others were not changed.
pub record Grown (before after : List ℕ) : Type 0 where
  pub more : List ℕ
  pub parts : after ≡ before ++ more

-- The text is short enough for a length in front.
abbrev pub IsShort : List ℕ → Type 0
IsShort text = length text < 2 ^ 32

-- ---- a message that can be written: its texts are short enough, and it is none of the others under another name

pub record ProposalFits (p : Proposal) : Type 0 where
  pub kex : IsShort (names_text p.kex)
  pub host : IsShort (names_text p.host)
  pub enc_cs : IsShort (names_text p.enc_cs)
  pub enc_sc : IsShort (names_text p.enc_sc)
  pub mac_cs : IsShort (names_text p.mac_cs)
  pub mac_sc : IsShort (names_text p.mac_sc)
  pub comp_cs : IsShort (names_text p.comp_cs)
  pub comp_sc : IsShort (names_text p.comp_sc)
  pub lang_cs : IsShort (names_text p.lang_cs)
  pub lang_sc : IsShort (names_text p.lang_sc)

abbrev pub MethodFits : Method → Type 0
MethodFits method.None = Unit {0}
MethodFits (method.Password password None) = IsShort password.now
MethodFits (method.Password password (Some new)) = IsShort password.now × IsShort new.now
MethodFits (method.Publickey algorithm key None) = IsShort algorithm.now × IsShort key.now
MethodFits (method.Publickey algorithm key (Some signature)) = IsShort algorithm.now × IsShort key.now × IsShort signature.now
MethodFits (method.Other name rest) = IsOther name.now × IsShort name.now

abbrev pub Fits : Message → Type 0
Fits (message.Disconnect reason description language) = IsShort description.now × IsShort language.now
Fits (message.Ignore body) = IsShort body.now
Fits (message.Debug display message language) = IsShort message.now × IsShort language.now
Fits (message.ServiceRequest service) = IsShort service.now
Fits (message.ServiceAccept service) = IsShort service.now
Fits (message.KexInit proposal) = ProposalFits proposal
Fits (message.KexEcdhInit q_c) = IsShort q_c.now
Fits (message.KexEcdhReply k_s q_s signature) = IsShort k_s.now × IsShort q_s.now × IsShort signature.now
Fits (message.UserauthRequest user service method) = IsShort user.now × IsShort service.now × MethodFits method
Fits (message.UserauthFailure methods partial) = IsShort (names_text methods)
Fits (message.UserauthBanner message language) = IsShort message.now × IsShort language.now
Fits (message.UserauthPkOk algorithm key) = IsShort algorithm.now × IsShort key.now
Fits (message.GlobalRequest name want rest) = IsShort name.now
Fits (message.ChannelOpen kind sender window max rest) = IsShort kind.now
Fits (message.ChannelOpenFailure recipient reason description language) = IsShort description.now × IsShort language.now
Fits (message.ChannelData recipient body) = IsShort body.now
Fits (message.ChannelExtendedData recipient kind body) = IsShort body.now
Fits (message.ChannelRequest recipient name want rest) = IsShort name.now
Fits (message.Unknown number) = IsTrue (is_unknown false number)
Fits m = Unit {0}
