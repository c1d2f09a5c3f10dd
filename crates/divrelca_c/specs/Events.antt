-- What C is shown of a turn, field by field.
use Rattle.std.specs.Prelude.{◌≡◌, ℕ, Bool, true, false, Option, Some, None, List, [], ◌∷◌, codes, drop, length}
use Rattle.ssh_model.specs.Protocol.Sessions.Items.{Item}
use Rattle.ssh_model.specs.Protocol.Sessions.Refusals.{refusal_name, refusal_number}
use Rattle.ssh_types.specs.Values.{names_text}
use Rattle.ssh_model.specs.declared.refusal.Refusal.{Refusal}
use Rattle.ssh_message.specs.Announced.{extensions_of}
use Rattle.ssh_message.specs.declared.message.Message.{Message}
use Rattle.ssh_message.specs.declared.message.Message.TheVariants as message
use Rattle.ssh_message.specs.declared.message.Method.{Method}
use Rattle.ssh_message.specs.declared.message.Method.TheVariants as method
use Rattle.ssh_channels.specs.declared.event.ChannelEvent.{ChannelEvent}
use Rattle.ssh_channels.specs.declared.event.ChannelEvent.TheVariants as fact
use Rattle.ssh_end_machine.specs.Steps.{Shows}
use Rattle.ssh_end_machine.specs.Turn.{TurnShows}
use Rattle.ssh_end_machine.specs.declared.step.Step.{Step}
use Rattle.ssh_end_machine.specs.declared.step.Step.TheVariants as step
use Rattle.ssh_model.specs.declared.request_kind.RequestKind.{RequestKind}
use Rattle.ssh_model.specs.declared.request_kind.RequestKind.TheVariants as request
use Rattle.ssh_end_machine.specs.declared.told.Credential.{Credential}
use Rattle.ssh_end_machine.specs.declared.told.Credential.TheVariants as credential
use Rattle.ssh_end_machine.specs.declared.told.Told.{Told}
use Rattle.ssh_end_machine.specs.declared.told.Told.TheVariants as told
use Rattle.ssh_end_machine.specs.declared.turn.Took.{Took}
use Rattle.ssh_end_machine.specs.declared.turn.Took.TheVariants as took
use Rattle.ssh_end_machine.specs.declared.turn.Turn.{Turn}
use Rattle.divrelca_c.specs.declared.event.DvEvent.{DvEvent}

-- the fields of an event, except the number of the message that was taken
pub record Fields : Type 0 where
  pub kind : ℕ
  pub channel : ℕ
  pub window : ℕ
  pub max_packet : ℕ
  pub number : ℕ
  pub flag : Bool
  pub extended : Bool
  pub name : List ℕ
  pub text : List ℕ

abbrev pub fields_of : DvEvent → Fields
fields_of e = record {
  kind = e.kind;
  channel = e.channel;
  window = e.window;
  max_packet = e.max_packet;
  number = e.number;
  flag = e.flag;
  extended = e.extended;
  name = e.name.now;
  text = e.text.now;
}

-- an event of no window and no extended data
abbrev pub simple : (kind channel number : ℕ) → (flag : Bool) → (name text : List ℕ) → Fields
simple kind channel number flag name text = record {
  kind = kind;
  channel = channel;
  window = 0;
  max_packet = 0;
  number = number;
  flag = flag;
  extended = false;
  name = name;
  text = text;
}

-- ---- of channels and global requests

abbrev pub data_fields : (channel : ℕ) → Option ℕ → (body : List ℕ) → Fields
data_fields channel None body = simple 22 channel 0 false [] body
data_fields channel (Some kind) body = record (simple 22 channel kind false [] body) { extended = true }

-- a channel that the peer opens, or confirms
abbrev pub opened_fields : ChannelEvent → Fields
opened_fields (fact.Opened channel kind window most rest) =
    record (simple 19 channel 0 false kind.now rest.now) { window = window; max_packet = most }
opened_fields (fact.Confirmed channel window most rest) =
    record (simple 20 channel 0 false [] rest.now) { window = window; max_packet = most }
opened_fields _ = simple 0 0 0 false [] []

abbrev pub fact_fields : ChannelEvent → Fields
fact_fields (fact.Global name want rest) = simple 16 0 0 want name.now rest.now
fact_fields (fact.GlobalDone success rest) = simple 17 0 0 success [] rest.now
fact_fields (fact.Opening channel) = simple 18 channel 0 false [] []
fact_fields (fact.Opened channel kind window most rest) = opened_fields (fact.Opened channel kind window most rest)
fact_fields (fact.Confirmed channel window most rest) = opened_fields (fact.Confirmed channel window most rest)
fact_fields (fact.OpenFailed channel reason description) = simple 21 channel reason false [] description.now
fact_fields (fact.GotData channel kind body) = data_fields channel kind body.now
fact_fields (fact.Adjusted channel bytes) = simple 23 channel bytes false [] []
fact_fields (fact.Ended channel) = simple 24 channel 0 false [] []
fact_fields (fact.Closed channel) = simple 25 channel 0 false [] []
fact_fields (fact.Requested channel name want rest) = simple 26 channel 0 want name.now rest.now
fact_fields (fact.RequestDone channel success) = simple 27 channel 0 success [] []

-- ---- of what is told

-- the number of what a user showed to a server, and the key by which it was let in
abbrev pub credential_number : Credential → ℕ
credential_number credential.None = 0
credential_number (credential.Key algorithm key) = 1
credential_number credential.Password = 2

abbrev pub credential_key : Credential → List ℕ
credential_key (credential.Key algorithm key) = key.now
credential_key _ = []

-- the number of what a client's request showed
abbrev pub request_number : RequestKind → ℕ
request_number request.Nothing = 0
request_number request.Signature = 1
request_number request.Password = 2
request_number request.Probe = 3

abbrev pub told_fields : Told → Fields
told_fields (told.Completed position) = simple 2 0 position false [] []
told_fields told.Service = simple 3 0 0 false [] []
told_fields (told.Accepted user by) = simple 4 0 (credential_number by) false user.now (credential_key by)
told_fields (told.Authenticated given) = simple 5 0 (request_number given) false [] []
told_fields (told.Failed methods partial) = simple 6 0 0 partial [] (names_text methods)
told_fields (told.Banner text) = simple 7 0 0 false [] text.now
told_fields (told.KeyOk algorithm key) = simple 8 0 0 false algorithm.now key.now
told_fields told.Ignored = simple 9 0 0 false [] []
told_fields (told.Extensions given) = simple 13 0 (length (extensions_of given)) false [] []
told_fields (told.Debugged display text) = simple 10 0 0 display [] text.now
told_fields (told.Unimplemented number) = simple 11 0 number false [] []
told_fields (told.Disconnected reason description) = simple 12 0 reason false [] description.now
told_fields (told.Channel given) = fact_fields given

-- ---- of requests for authentication that let nobody in

-- the number of what a request by this method shows: 4 where the method is another one
abbrev pub method_number : Method → ℕ
method_number method.None = 0
method_number (method.Password password other) = 2
method_number (method.Publickey algorithm key (Some signature)) = 1
method_number (method.Publickey algorithm key None) = 3
method_number (method.Other name rest) = 4

-- the key of a request by key, and the name of a method that is another one
abbrev pub method_data : Method → List ℕ
method_data (method.Publickey algorithm key signature) = key.now
method_data (method.Other name rest) = name.now
method_data _ = []

abbrev pub requested_fields : Message → Fields
requested_fields (message.UserauthRequest user service given) =
    simple 14 0 (method_number given) false user.now (method_data given)
requested_fields _ = simple 0 0 0 false [] []

abbrev pub tried_fields : Option Took → Fields
tried_fields (Some (took.Message channel given payload)) = requested_fields given
tried_fields _ = simple 0 0 0 false [] []

-- ---- of all

-- the names and values of extensions: what stands after the number of the message and their count
abbrev pub announced : Option Took → List ℕ
announced (Some (took.Message channel given payload)) = drop 5 payload.now
announced _ = []

-- what is shown of what was told, or tried where nothing was
abbrev pub told_or_tried : Option Told → Option Took → Fields
told_or_tried (Some (told.Extensions given)) took = record (told_fields (told.Extensions given)) { text = announced took }
told_or_tried (Some given) took = told_fields given
told_or_tried None took = tried_fields took

-- A refusal comes first, and nothing else is then shown.
abbrev pub turn_fields : Option Refusal → Option Told → Option Took → Fields
turn_fields (Some why) given took =
    simple 1 0 (refusal_number why) false (refusal_name why) []
turn_fields None given took = told_or_tried given took

-- the first byte of a payload
abbrev pub first_byte : List ℕ → ℕ
first_byte [] = 0
first_byte (n ∷ rest) = n

-- the number of the message that was taken
abbrev pub took_of : Option Took → ℕ
took_of (Some (took.Message channel given payload)) = first_byte payload.now
took_of _ = 0

-- The event is that of a turn that shows what was done in a step. Where no line or packet is whole yet, that is nothing.
pub record ShowsTurn (payload : List ℕ) (given : Step) (e : DvEvent) : Type 0 where
  pub turn : Turn
  pub shows : (items : List Item) → Shows payload given items → TurnShows turn items
  pub quiet : given ≡ step.More → TurnShows turn []
  pub fields : fields_of e ≡ turn_fields turn.refused turn.told turn.took
  pub took : e.took ≡ took_of turn.took
