-- Asks for messages of the connection, at an end that may not be authenticated.
use Rattle.std.specs.Prelude.{◌≡◌, Bool, true, Some}
use Rattle.ssh_model.specs.Protocol.Channels.Connection.{after_authentication}
use Rattle.ssh_model.specs.State.Channels.Kept.{Channels, send_checks}
use Rattle.ssh_model.specs.Protocol.Sessions.Items as session
use Rattle.ssh_model.specs.Protocol.Sessions.Refusals.{first_refusal}
use Rattle.ssh_channels.specs.Rows.{AsksForChannel}
use Rattle.ssh_model.specs.declared.ask_refusal.AskRefusal.{AskRefusal}
use Rattle.ssh_types.specs.declared.call_error.CallError.{CallError}
use Rattle.ssh_types.specs.declared.call_error.CallError.TheVariants as fault

-- Why nothing is sent: the first refusal that holds, or want of memory for a new channel, once the user is
-- authenticated.
abbrev pub AskFails : (is_authenticated is_blocked is_due : Bool) → Channels → session.Ask → CallError AskRefusal → Type 0
AskFails is_authenticated is_blocked is_due channels ask (fault.Refused why) =
    first_refusal (after_authentication is_authenticated (send_checks is_blocked is_due channels ask))
    ≡ Some why
AskFails is_authenticated is_blocked is_due channels ask fault.Memory =
    (is_authenticated ≡ true) × AsksForChannel is_blocked is_due channels ask
