-- The host key and the signature in the reply of a server.
use Rattle.std.specs.Prelude.{ℕ, List, Option, None, Some}
use Rattle.ssh_model.specs.Protocol.Wire.Message.{Msg, Msg.KexEcdhReply}
use Rattle.ssh_held.specs.declared.host_key.HostReply.{HostReply}

-- those of a message, if it is a reply
abbrev pub reply_of : Msg → Option (List ℕ × List ℕ)
reply_of (KexEcdhReply key point signature) = Some (key, signature)
reply_of _ = None

-- the texts of what is found
abbrev pub texts_of : HostReply → List ℕ × List ℕ
texts_of reply = (reply.key.now, reply.signature.now)
