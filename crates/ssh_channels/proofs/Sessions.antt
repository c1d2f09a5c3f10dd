-- What a row says of a message is what a session says of it.
use Rattle.std.proofs.Common.{◌≡◌, Bool, true, false, not, List, ◌∷◌, None, Ok, Err, ap, ◌∙◌}
use Rattle.std.specs.Prelude.{IfErr, IfOk, OnOk, Result}
use Rattle.ssh_model.specs.declared.side.Side.{Side}
use Rattle.ssh_model.specs.declared.refusal.Refusal.{Refusal}
use Rattle.ssh_model.specs.declared.refusal.Refusal.TheVariants.{Unexpected}
use Rattle.ssh_model.specs.Protocol.Wire.Message.{Msg}
use Rattle.ssh_model.specs.Protocol.Sessions.Refusals.{Check, Check.RefusedWhere, first_refusal}
use Rattle.ssh_model.specs.Protocol.Sessions.Items.{Item}
use Rattle.ssh_model.specs.Protocol.Sessions.Phases.{blocked}
use Rattle.ssh_model.specs.Protocol.Channels.Connection.{connection_checks, owed_replies}
use Rattle.ssh_model.specs.State.Channels.Kept as kept
use Rattle.ssh_model.specs.State.Channels.Kept.{Channels, Takes, take_checks}
use Rattle.ssh_model.specs.State.Channels.Summary.{Accepts, SumsUp}
use Rattle.ssh_types.specs.declared.call_error.CallError.{CallError}
use Rattle.ssh_types.specs.declared.call_error.CallError.TheVariants.{Memory, Refused}
use Rattle.ssh_channels.specs.Rows.{IsTakeError, is_connection, message_checks}
use Rattle.ssh_channels.specs.Sessions.{TakesInSession}
use Rattle.ssh_channels.specs.Values.{taken_of}
use Rattle.ssh_channels.specs.declared.event.Taken.{Taken}

passed_later : (b : Bool) (why : Refusal) (checks : List (Check Refusal)) → first_refusal (RefusedWhere b why ∷ checks) ≡ None → first_refusal checks ≡ None
passed_later true why checks e = absurd (cc e)
passed_later false why checks e = e

-- by the laws of messages in a session
module _ (refused : (side : Side) (history : List Item) (channels : Channels) → SumsUp side history (owed_replies side history) channels → (message : Msg) →
    first_refusal (connection_checks side history message) ≡ first_refusal (take_checks (blocked history) channels message))
    (accepted : (side : Side) (history : List Item) (channels : Channels) → SumsUp side history (owed_replies side history) channels → (is_blocked : Bool) → blocked history ≡ is_blocked →
    (message : Msg) (taken : kept.Taken) (new : Channels) → first_refusal (take_checks is_blocked channels message) ≡ None → Takes is_blocked channels message taken new → Accepts side history message taken new)
    (is_blocked : Bool) (old : Channels) (message : Msg) (new : Channels) where
  pub taken_in_session : (result : Result Taken (CallError Refusal)) → IfErr result (λ e. IsTakeError is_blocked old message e) → OnOk result (first_refusal (message_checks is_blocked old message) ≡ None) →
      IfOk result (λ t. Takes is_blocked old message (taken_of message t) new) → TakesInSession is_blocked old message new result
  taken_in_session (Ok taken) fails passed takes = λ side history sums same. accepted side history old sums is_blocked same message (taken_of message taken) new (passed_later (not (is_connection message)) Unexpected (take_checks is_blocked old message) passed) takes
  taken_in_session (Err (Refused refusal)) fails passed takes = λ side history sums same connection.
      refused side history old sums message ∙ ap (λ (b : Bool). first_refusal (take_checks b old message)) same ∙ (rw connection at fails)
  taken_in_session (Err Memory) fails passed takes = λ side history sums same. tt
