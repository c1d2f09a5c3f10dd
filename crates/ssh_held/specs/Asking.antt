-- The request for authentication that a payload is.
use Rattle.std.specs.Prelude.{ℕ, List, Option, None, Some}
use Rattle.ssh_message.specs.Meaning.{method_meaning}
use Rattle.ssh_message.specs.Written.{IsShort, MethodFits}
use Rattle.ssh_model.specs.Protocol.Wire.Message.{Method, Msg, Msg.UserauthRequest}
use Rattle.ssh_held.specs.declared.asking.Request.{Request}

-- a request, by its user, the service that is asked for, and the method
pub record UserRequest : Type 0 where
  pub user : List ℕ
  pub service : List ℕ
  pub method : Method

-- that of a value
abbrev pub value_of : Request → UserRequest
value_of request = record { user = request.user.now; service = request.service.now; method = method_meaning request.method }

-- that of a message, if it is one
abbrev pub request_of : Msg → Option UserRequest
request_of (UserauthRequest user service method) = Some (record { user = user; service = service; method = method })
request_of _ = None

-- Its texts can be written, and so can a text that has them.
abbrev pub RequestFits : Request → Type 0
RequestFits request = IsShort request.user.now × MethodFits request.method
