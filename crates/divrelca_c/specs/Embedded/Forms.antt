-- Which ask a flat form is.
use Rattle.std.specs.Prelude.{◌≡◌, ◌&&◌, ◌||◌, ℕ, List, [], ◌∷◌, Option, Some, None, codes, if◌then◌else◌, nat_eq, nat_le}
use Rattle.ssh_model.specs.Protocol.Sessions.Items as session
use Rattle.ssh_end_machine.specs.Asking.{ask_of}
use Rattle.ssh_end_machine.specs.declared.asking.Ask.{Ask}
use Rattle.divrelca_c.specs.declared.embedded.ask_form.AskForm.{AskForm}
use Rattle.divrelca_c.specs.declared.embedded.ask_form.FormFault.{FormFault}
use Rattle.divrelca_c.specs.declared.embedded.ask_form.FormFault.TheVariants as form_fault
use Rattle.divrelca_c.specs.declared.embedded.waiting.KeptForm.{KeptForm}

-- a login by this key, or a probe of it
abbrev pub by_key : AskForm → (algorithm key : List ℕ) → session.Ask
by_key f algorithm key =
    if nat_eq f.kind 6 then session.Ask.AskProbe f.name.now algorithm key else session.Ask.AskSign f.name.now algorithm key

-- the same by the user's own key, where the user may have none
abbrev pub by_any : AskForm → Option (List ℕ) → Option session.Ask
by_any f None = None
by_any f (Some key) = Some (by_key f (codes "ssh-ed25519") key)

-- the same by the key that the form has, under the algorithm that it has, or by the user's own key where it has none
abbrev pub by_named : AskForm → (algorithm : List ℕ) → Option (List ℕ) → Option session.Ask
by_named f [] own = by_any f own
by_named f (letter ∷ letters) own = Some (by_key f (letter ∷ letters) f.text.now)

-- kinds 4 to 7
abbrev pub login_by : AskForm → Option (List ℕ) → Option session.Ask
login_by f key =
    if nat_eq f.kind 4 then Some (session.Ask.AskNone f.name.now) else if nat_eq f.kind 5 then
    Some (session.Ask.AskPassword f.name.now f.text.now) else by_named f f.algorithm.now key

-- kinds 8 to 10
abbrev pub opening_by : AskForm → session.Ask
opening_by f =
    if nat_eq f.kind 8 then session.Ask.AskOpen f.name.now f.window f.max_packet f.text.now else if nat_eq f.kind 9 then
    session.Ask.AskConfirm f.channel f.window f.max_packet f.text.now else session.Ask.AskRefuse f.channel f.number

-- kinds 11 to 15
abbrev pub flowing_by : AskForm → session.Ask
flowing_by f =
    if nat_eq f.kind 11 then session.Ask.AskData f.channel None f.text.now else if nat_eq f.kind 12 then
    session.Ask.AskData f.channel (Some f.number) f.text.now else if nat_eq f.kind 13 then
    session.Ask.AskAdjust f.channel f.number else if nat_eq f.kind 14 then session.Ask.AskEof f.channel else
    session.Ask.AskClose f.channel

-- kinds 16 to 19
abbrev pub requesting_by : AskForm → session.Ask
requesting_by f =
    if nat_eq f.kind 16 then session.Ask.AskRequest f.channel f.name.now f.flag f.text.now else if nat_eq f.kind 17 then
    session.Ask.AskReply f.channel f.flag else if nat_eq f.kind 18 then
    session.Ask.AskGlobal f.name.now f.flag f.text.now else session.Ask.AskGlobalReply f.flag f.text.now

-- those of the connection, kinds 8 and on
abbrev pub connection_by : AskForm → Option session.Ask
connection_by f =
    if nat_le 8 f.kind && nat_le f.kind 10 then Some (opening_by f) else if nat_le 11 f.kind && nat_le f.kind 15 then
    Some (flowing_by f) else if nat_le 16 f.kind && nat_le f.kind 19 then Some (requesting_by f) else None

-- The ask, if it is one, of an end whose user has this key.
abbrev pub form_asks : AskForm → (key : Option (List ℕ)) → Option session.Ask
form_asks f key =
    if nat_eq f.kind 1 then Some session.Ask.AskRekey else if nat_eq f.kind 2 then
    Some (session.Ask.AskDisconnect f.text.now) else if nat_eq f.kind 3 then Some session.Ask.AskService else
    if nat_le 4 f.kind && nat_le f.kind 7 then login_by f key else connection_by f

-- The form that a form with bytes of its own is a copy of.
abbrev pub form_of : KeptForm → AskForm
form_of kept = record {
  kind = kept.kind;
  channel = kept.channel;
  window = kept.window;
  max_packet = kept.max_packet;
  number = kept.number;
  flag = kept.flag;
  name = record { ref_ptr = (0, 0); now = kept.name.items };
  text = record { ref_ptr = (0, 0); now = kept.text.items };
  algorithm = record { ref_ptr = (0, 0); now = kept.algorithm.items };
}

-- why a form is no ask, where it is none: it asks for the own key of a user who has none, or no ask has this kind
abbrev pub fault_of : AskForm → FormFault
fault_of f = if nat_eq f.kind 6 || nat_eq f.kind 7 then form_fault.Key else form_fault.Kind

-- The form is this ask, and this was done on it.
pub record IsAsked (given : Option session.Ask) (Does : Ask → Type 0) : Type 0 where
  pub asked : Ask
  pub is : given ≡ Some (ask_of asked)
  pub done : Does asked
