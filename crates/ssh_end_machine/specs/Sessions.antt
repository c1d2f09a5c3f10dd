-- The answer of the layers above a transport to a payload, as the answer of an end.
use Rattle.std.specs.Prelude.{◌≡◌, ℕ, ◌<◌, false, None, List, [], ◌∷◌, option_map, unwrap_or}
use Rattle.ssh_model.specs.Protocol.Authentication.Requests.{Judge, judge_of}
use Rattle.ssh_model.specs.Protocol.Bounds.{numbers_of_epoch}
use Rattle.ssh_model.specs.Protocol.Wire.Message.{Msg, Msg.Unimplemented, Msg.UserauthFailure}
use Rattle.ssh_model.specs.State.Authentication.Summary.{items_of}
use Rattle.ssh_model.specs.State.Channels.Summary.{told}
use Rattle.ssh_model.specs.Protocol.Sessions.Items.{Item.Sent}
use Rattle.ssh_model.specs.Protocol.Sessions.Parties.{Parties}
use Rattle.ssh_model.specs.Protocol.Sessions.Refusals.{first_refusal}
use Rattle.ssh_model.specs.Protocol.Sessions.TurnClaims.{HasEncoding}
use Rattle.ssh_model.specs.State.TransportLayer.Kept.{Transport}
use Rattle.ssh_model.specs.State.End.Payloads.{AnswersAbove, ReadsAbove, reply_items}
use Rattle.ssh_model.specs.State.End.State.{EndState, above_checks}
use Rattle.ssh_auth.specs.Asking.{client_answered}
use Rattle.ssh_auth.specs.Serving as serving
use Rattle.ssh_auth.specs.Serving.{answered}
use Rattle.ssh_channels.specs.Values.{reply_of}
use Rattle.ssh_end_machine.specs.Layer.{Beneath}
use Rattle.ssh_end_machine.specs.Layers.{Layers}
use Rattle.ssh_end_machine.specs.Login.{authentication_of, side_of}
use Rattle.ssh_end_machine.specs.Steps.{fact_by}
use Rattle.ssh_end_machine.specs.declared.layers.answer.LayerAnswer.{LayerAnswer}
use Rattle.ssh_end_machine.specs.declared.layers.answer.LayerAnswer.TheVariants as answer
use Rattle.ssh_end_machine.specs.declared.layers.login.Login.{Login}
use Rattle.ssh_end_machine.specs.declared.layers.login.Login.TheVariants as login

-- the facts that a transport tells the layers above it
abbrev pub beneath : {K : Type 0} → Transport K → Beneath
beneath s = record {
  session = unwrap_or s.session [];
  is_blocked = s.blocked;
  is_authenticated = s.authenticated;
}

-- a transport with layers on it
abbrev pub end_of : {K : Type 0} → Transport K → Layers → EndState K
end_of s layers = record {
  transport = s;
  authentication = authentication_of layers.authentication;
  channels = layers.channels;
}

-- ---- whose layers they are

-- It is that of the server of these parties. The methods that it names fit into a packet.
pub record IsServers {K : Type 0} (p : Parties K) (server : serving.Server) : Type 0 where
  pub tries : server.tries ≡ p.server.tries
  pub methods : server.methods ≡ p.server.methods
  pub failure : HasEncoding (UserauthFailure p.server.methods false)

-- The state of authentication has the settings of these parties. That of a client has no settings.
abbrev pub IsLoginOf : {K : Type 0} → Parties K → Login → Type 0
IsLoginOf p (login.Server server) = IsServers p server
IsLoginOf p (login.Client client) = Unit {0}

-- The layers have the settings of these parties.
pub record AreOf {K : Type 0} (p : Parties K) (layers : Layers) : Type 0 where
  pub login : IsLoginOf p layers.authentication

-- The verdicts on users are those of these parties. A client has none.
abbrev pub IsJudgedBy : {K : Type 0} → Parties K → Judge → Login → Type 0
IsJudgedBy p judge (login.Server server) = judge_of p ≡ judge
IsJudgedBy p judge (login.Client client) = Unit {0}

-- ---- the answer

-- the items that are sent and told, whichever payload encodes the message
abbrev pub Answers : {K : Type 0} → Parties K → Transport K → Layers → Msg → LayerAnswer → Layers → Type 0
Answers p s old message (answer.Server given) new =
    (reply : List ℕ) → AnswersAbove p (end_of s old) message None (items_of reply (answered p.server.methods message given))
    (authentication_of new.authentication) new.channels
Answers p s old message (answer.Client given) new =
    AnswersAbove p (end_of s old) message None (items_of [] (client_answered message given))
    (authentication_of new.authentication) new.channels
Answers p s old message (answer.Channels given) new =
    (reply : List ℕ) → AnswersAbove p (end_of s old) message given.channel
    (told (fact_by message given.channel) (reply_items (option_map reply_of given.reply) reply))
    (authentication_of new.authentication) new.channels
Answers p s old message answer.Unknown new =
    (reply : List ℕ) → s.taking.count < numbers_of_epoch → AnswersAbove p (end_of s old) message None
    (Sent None (Unimplemented s.taking.number) reply ∷ []) (authentication_of new.authentication) new.channels

-- The payload is this message, which nothing refuses, and this is answered. The layers stay those of these parties, and of their role.
pub record Accepts {K : Type 0} (p : Parties K) (s : Transport K) (old : Layers) (message : Msg) (payload : List ℕ)
    (given : LayerAnswer) (new : Layers) : Type 0 where
  pub reads : ReadsAbove (end_of s old) message payload
  pub unrefused : first_refusal (above_checks p (end_of s old) message) ≡ None
  pub answers : Answers p s old message given new
  pub of_parties : AreOf p new
  pub role : side_of new.authentication ≡ side_of old.authentication
