-- What comes of an ask for channels is a row of the end.
use Rattle.std.proofs.Common.{◌≡◌, ℕ, ◌≤◌, ◌^◌, Bool, List, [], ◌∷◌, ◌++◌, refl, ap, sym, ◌∙◌, subst, nat_le, true, false, Option, Some, None, Result, Ok, Err}
use Rattle.std.specs.Prelude.{IfOk, IfErr, OnOk, OnErr}
use Rattle.std.specs.Option.{option_map}
use Rattle.ssh_model.specs.Protocol.Bounds.{longest_payload}
use Rattle.ssh_model.specs.declared.side.Side.{Side}
use Rattle.ssh_model.specs.declared.side.Side.TheVariants.{Client, Server}
use Rattle.ssh_model.specs.Protocol.Wire.Sealing.{Crypto}
use Rattle.ssh_model.specs.Laws.Sizes.{payload_size}
use Rattle.ssh_model.specs.Protocol.Sessions.Items as session
use Rattle.ssh_model.specs.Protocol.Sessions.Items.{Fact, Fact.Opening, Item, Item.Asked, Item.Died, Item.Refused, Item.Sent, Encoded, messages_sent}
use Rattle.ssh_model.specs.Protocol.Sessions.Parties.{Parties, Settings, settings_of}
use Rattle.ssh_model.specs.declared.refusal.Refusal.TheVariants as refusals
use Rattle.ssh_model.specs.Protocol.Sessions.Refusals.{Check, first_refusal}
use Rattle.ssh_model.specs.Protocol.Sessions.TurnClaims.{HasEncoding}
use Rattle.ssh_model.specs.Protocol.Sessions.Turns.{AreEncoded}
use Rattle.ssh_model.specs.Protocol.Channels.Connection.{after_authentication}
use Rattle.ssh_model.specs.State.Channels.Kept as channels
use Rattle.ssh_model.specs.State.Channels.Kept.{Channels, Sends, send_checks}
use Rattle.ssh_model.specs.State.Channels.Summary.{told}
use Rattle.ssh_model.specs.State.TransportLayer.Kept.{Transport, after_sent}
use Rattle.ssh_model.specs.State.TransportLayer.Turns.{PutsPackets}
use Rattle.ssh_model.specs.State.End.Asks.{AsksAbove, TakesAsk, end_ask_checks}
use Rattle.ssh_model.specs.State.End.State.{Authentication, Authentication.OfClient, Authentication.OfServer, EndState, after_items}
use Rattle.ssh_model.specs.declared.ask_refusal.AskRefusal.{AskRefusal}
use Rattle.ssh_channels.specs.Rows.{AsksForChannel}
use Rattle.ssh_channels.specs.Values.{ask_of}
use Rattle.ssh_channels.specs.declared.ask.Ask.{Ask}
use Rattle.ssh_channels.specs.declared.ask.Ask.TheVariants as ask
use Rattle.ssh_types.specs.declared.call_error.CallError.TheVariants as call_error
use Rattle.ssh_transport_machine.specs.Puts.{Outs, payloads_of}
use Rattle.ssh_transport_machine.specs.State.{State}
use Rattle.ssh_transport_machine.specs.Answering.{Answers, HasRoom, IsQuiet, SentBy}
use Rattle.ssh_transport_machine.specs.declared.machine.sending.SendOutcome.{SendOutcome}
use Rattle.ssh_transport_machine.specs.declared.machine.sending.SendOutcome.TheVariants.{Done, Spent}
use Rattle.ssh_channels.specs.Facts.{opening_by}
use Rattle.ssh_end_machine.specs.Asking.{AskRow, AsksUint32s, ConnectionRow, DiedRow, GivenFails, GivenSent, HasRecipient, HasUint32s, RefusedRow, RowOf, ShowsAsk, end_with, step_by, step_on}
use Rattle.ssh_end_machine.specs.Connection.{AskFails}
use Rattle.ssh_end_machine.specs.declared.asking.outcome.Fault.{Fault}
use Rattle.ssh_end_machine.specs.declared.asking.outcome.Fault.TheVariants as fault
use Rattle.ssh_end_machine.specs.declared.asking.outcome.AskStep.{AskStep}
use Rattle.ssh_end_machine.proofs.AsksEncoding.{is_encoded, open_would, opening_told}
use Rattle.ssh_end_machine.proofs.AsksTransport.{quiet_lists, quiet_parts}

-- ---- one line a row, or an ask

sent_after : {K : Type 0} (side : Side) (ch new : Channels) (asked : session.Ask) (given : channels.Sent) (payload : List ℕ) (s : Transport K) → Sends ch asked given new → after_items side (Sent given.channel given.message payload ∷ []) s ≡ after_sent s
sent_after Client ch new asked given payload s x = refl
sent_after Server ch new asked given payload s (Sends.opens x y z u v w q) = refl
sent_after Server ch new asked given payload s (Sends.confirm x y z u v) = refl
sent_after Server ch new asked given payload s (Sends.refuse x y) = refl
sent_after Server ch new asked given payload s (Sends.gives_data x y) = refl
sent_after Server ch new asked given payload s (Sends.gives_extended x y z) = refl
sent_after Server ch new asked given payload s (Sends.adjust x y) = refl
sent_after Server ch new asked given payload s (Sends.eof x) = refl
sent_after Server ch new asked given payload s (Sends.close x) = refl
sent_after Server ch new asked given payload s (Sends.request x y z u) = refl
sent_after Server ch new asked given payload s (Sends.reply_yes x) = refl
sent_after Server ch new asked given payload s (Sends.reply_no x) = refl
sent_after Server ch new asked given payload s (Sends.global x y z) = refl
sent_after Server ch new asked given payload s (Sends.global_yes x) = refl
sent_after Server ch new asked given payload s (Sends.global_no x) = refl

told_after : {K : Type 0} (side : Side) (f : Option Fact) (items : List Item) (s : Transport K) → after_items side (told f items) s ≡ after_items side items s
told_after side None items s = refl
told_after Client (Some f) items s = refl
told_after Server (Some f) items s = refl

told_messages : (f : Option Fact) (items more : List Item) → messages_sent (told f items ++ more) ≡ messages_sent (items ++ more)
told_messages None items more = refl
told_messages (Some f) items more = refl

told_sent : (f : Option Fact) (items : List Item) → messages_sent (told f items) ≡ messages_sent items
told_sent None items = refl
told_sent (Some f) items = refl

told_encoded : (f : Option Fact) (items : List Item) → AreEncoded items → AreEncoded (told f items)
told_encoded None items x = x
told_encoded (Some f) items x = x

-- what the connection refuses, the end refuses
checks_at : {K : Type 0} (p : Parties K) (side : Side) (s : State K) (authentication : Authentication) (ch : Channels) (a : Ask) → end_ask_checks p side (end_with s authentication ch) (ask_of a) ≡ after_authentication s.kept.authenticated (send_checks s.kept.blocked (nat_le (settings_of p side).epoch_limit s.kept.sending.count) ch (ask_of a))
checks_at p side s (OfServer server) ch (ask.Open kind window max rest) = refl
checks_at p side s (OfServer server) ch (ask.Confirm channel window max rest) = refl
checks_at p side s (OfServer server) ch (ask.Refuse channel reason) = refl
checks_at p side s (OfServer server) ch (ask.Data channel kind body) = refl
checks_at p side s (OfServer server) ch (ask.Adjust channel bytes) = refl
checks_at p side s (OfServer server) ch (ask.Eof channel) = refl
checks_at p side s (OfServer server) ch (ask.Close channel) = refl
checks_at p side s (OfServer server) ch (ask.Request channel name want rest) = refl
checks_at p side s (OfServer server) ch (ask.Reply channel success) = refl
checks_at p side s (OfServer server) ch (ask.Global name want rest) = refl
checks_at p side s (OfServer server) ch (ask.GlobalReply success rest) = refl
checks_at p side s (OfClient client) ch (ask.Open kind window max rest) = refl
checks_at p side s (OfClient client) ch (ask.Confirm channel window max rest) = refl
checks_at p side s (OfClient client) ch (ask.Refuse channel reason) = refl
checks_at p side s (OfClient client) ch (ask.Data channel kind body) = refl
checks_at p side s (OfClient client) ch (ask.Adjust channel bytes) = refl
checks_at p side s (OfClient client) ch (ask.Eof channel) = refl
checks_at p side s (OfClient client) ch (ask.Close channel) = refl
checks_at p side s (OfClient client) ch (ask.Request channel name want rest) = refl
checks_at p side s (OfClient client) ch (ask.Reply channel success) = refl
checks_at p side s (OfClient client) ch (ask.Global name want rest) = refl
checks_at p side s (OfClient client) ch (ask.GlobalReply success rest) = refl

-- ---- the rows

module _ {K : Type 0} (p : Parties K) (side : Side) (old : State K) (authentication : Authentication) (ch : Channels) (a : Ask) (alive : old.kept.dead ≡ false) (settings : old.kept.settings ≡ settings_of p side) where
  abbrev before : EndState K
  before = end_with old authentication ch

  abbrev checks_with : Settings → List (Check AskRefusal)
  checks_with s = after_authentication old.kept.authenticated (send_checks old.kept.blocked (nat_le s.epoch_limit old.kept.sending.count) ch (ask_of a))

  refusal_is : first_refusal (end_ask_checks p side before (ask_of a)) ≡ first_refusal (checks_with old.kept.settings)
  refusal_is = ap first_refusal (checks_at p side old authentication ch a ∙ ap checks_with (sym settings))

  pub refused_row : (why : AskRefusal) → first_refusal (checks_with old.kept.settings) ≡ Some why → RefusedRow p side before (ask_of a) why before
  refused_row why e = record { alive = alive; why_is = refusal_is ∙ e; same = refl }

  module _ (fine : first_refusal (checks_with old.kept.settings) ≡ None) (given : channels.Sent) (kept : Channels) (sends : Sends ch (ask_of a) given kept) where
    done_takes : (new : State K) (o : Outs) (x : SentBy p.crypto old given.message (after_sent old.kept) new o) →
        TakesAsk p side before (ask_of a) (told (option_map Opening (opening_by (ask_of a) given.channel)) (Sent given.channel given.message x.sends.payload ∷ []) ++ Asked (ask_of a) ∷ []) x.sends.puts.more (end_with new authentication kept)
    done_takes new o x =
        let b = x.sends.payload in
        let one : List Item = Sent given.channel given.message b ∷ [] in
        let later : after_items side (told given.fact one) old.kept ≡ new.kept = told_after side given.fact one old.kept ∙ (sent_after side ch kept (ask_of a) given b old.kept sends ∙ ap (λ (t : State K). t.kept) (sym x.after)) in
        let put : PutsPackets p.crypto old.kept.sending (messages_sent (told given.fact one)) x.sends.puts.more = subst (λ (l : List Encoded). PutsPackets p.crypto old.kept.sending l x.sends.puts.more) (sym (told_sent given.fact one)) x.sends.puts.packets in
        subst (λ (f : Option Fact). TakesAsk p side before (ask_of a) (told f one ++ Asked (ask_of a) ∷ []) x.sends.puts.more (end_with new authentication kept)) (opening_told ch kept (ask_of a) given sends)
        (subst (λ (t : Transport K). TakesAsk p side before (ask_of a) (told given.fact one ++ Asked (ask_of a) ∷ []) x.sends.puts.more (record { transport = t; authentication = authentication; channels = kept })) later
        (TakesAsk.above (ask_of a) alive (refusal_is ∙ fine) (AsksAbove.by_channels (ask_of a) given kept b sends) put))

    done_row : (new : State K) (o : Outs) → SentBy p.crypto old given.message (after_sent old.kept) new o →
        AskRow p side before (ask_of a) (step_on (ask_of a) given.channel Done) (end_with new authentication kept) o
    done_row new o x = record {
      items = _;
      more = x.sends.puts.more;
      shows = ShowsAsk.sent given.channel (opening_by (ask_of a) given.channel) given.message x.sends.payload;
      takes = done_takes new o x;
      parts = x.sends.puts.parts;
      lists = x.sends.puts.lists ∙ ap (λ (l : List Encoded). o.payloads_before ++ payloads_of l) (sym (told_messages (option_map Opening (opening_by (ask_of a) given.channel)) (Sent given.channel given.message x.sends.payload ∷ []) (Asked (ask_of a) ∷ [])));
    }

    module _ (encoding : HasEncoding given.message) (later : Channels) where
      encoded_all : AreEncoded (told given.fact (Sent given.channel given.message encoding.payload ∷ []))
      encoded_all = told_encoded given.fact (Sent given.channel given.message encoding.payload ∷ []) (encoding.encodes, tt)

      pub spent_row : (new : State K) (o : Outs) → old.kept.sending.count ≡ 2 ^ 32 → new.kept.dead ≡ true → IsQuiet o → AskRow p side before (ask_of a) (step_by Spent) (end_with new authentication later) o
      spent_row new o none_left dead quiet = record {
        items = Died ∷ Refused refusals.NumberSpent None ∷ Asked (ask_of a) ∷ [];
        more = [];
        shows = ShowsAsk.spent;
        takes = TakesAsk.above_spent (ask_of a) (end_with new authentication later) alive (refusal_is ∙ fine) (AsksAbove.by_channels (ask_of a) given kept encoding.payload sends) encoded_all none_left dead;
        parts = quiet_parts o quiet;
        lists = quiet_lists o quiet;
      }

      pub died_row : (new : State K) → HasRoom old → new.kept.dead ≡ true → DiedRow p side before (ask_of a) (end_with new authentication later)
      died_row new room dead = record {
        takes = TakesAsk.above_dies (ask_of a) (end_with new authentication later) alive (refusal_is ∙ fine) (AsksAbove.by_channels (ask_of a) given kept encoding.payload sends) encoded_all room dead;
        dead = dead;
      }

    step_row : HasEncoding given.message → (new : State K) (o : Outs) (step : AskStep) → GivenSent p.crypto old (ask_of a) given new o step → AskRow p side before (ask_of a) step (end_with new authentication kept) o
    step_row encoding new o step (GivenSent.done x) = done_row new o x
    step_row encoding new o step (GivenSent.spent x) = spent_row encoding kept new o x.none_left (ap (λ (t : State K). t.kept.dead) x.after) x.quiet

    fault_row : HasEncoding given.message → (new : State K) (o : Outs) (f : Fault) → GivenFails old f new → RowOf p side before (ask_of a) (Err f) (end_with new authentication kept) o
    fault_row encoding new o (fault.Ask why) x = elim x [ ]
    fault_row encoding new o fault.Memory x = died_row encoding kept new x.room x.dead
    fault_row encoding new o fault.Dead x = absurd (cc (x.dead, alive))

    pub given_row : HasEncoding given.message → (result : Result AskStep Fault) (new : State K) (o : Outs) → IfOk result (λ step. GivenSent p.crypto old (ask_of a) given new o step) → IfErr result (λ f. GivenFails old f new) → RowOf p side before (ask_of a) result (end_with new authentication kept) o
    given_row encoding (Ok step) new o x y = step_row encoding new o step x
    given_row encoding (Err f) new o x y = fault_row encoding new o f y

-- ---- what was given, and sent or not

pub given_sent : {K : Type 0} (c : Crypto K) (old new : State K) (o : Outs) (asked : session.Ask) (given : channels.Sent) (answer : SendOutcome) → Answers c old given.message (after_sent old.kept) answer new o → (step : AskStep) → step ≡ step_on asked given.channel answer → GivenSent c old asked given new o step
given_sent c old new o asked given Done x step e = subst (λ (s : AskStep). GivenSent c old asked given new o s) (sym e) (GivenSent.done x)
given_sent c old new o asked given Spent x step e = subst (λ (s : AskStep). GivenSent c old asked given new o s) (sym e) (GivenSent.spent x)

module _ {K : Type 0} (c : Crypto K) (old : State K) (ch : Channels) (a : Ask) (alive : old.kept.dead ≡ false) (authenticated blocked due : Bool) (authenticated_is : authenticated ≡ old.kept.authenticated) (blocked_is : blocked ≡ old.kept.blocked) (due_is : due ≡ nat_le old.kept.settings.epoch_limit old.kept.sending.count) where
  same_checks : first_refusal (after_authentication authenticated (send_checks blocked due ch (ask_of a))) ≡ first_refusal (after_authentication old.kept.authenticated (send_checks old.kept.blocked (nat_le old.kept.settings.epoch_limit old.kept.sending.count) ch (ask_of a)))
  same_checks = λ i. first_refusal (after_authentication (authenticated_is i) (send_checks (blocked_is i) (due_is i) ch (ask_of a)))

  pub sent_row : (given : channels.Sent) (kept : Channels) → first_refusal (after_authentication authenticated (send_checks blocked due ch (ask_of a))) ≡ None → Sends ch (ask_of a) given kept → HasUint32s given.message → HasRecipient given.message → payload_size given.message ≤ longest_payload →
      (result : Result AskStep Fault) (new : State K) (o : Outs) → IfOk result (λ step. GivenSent c old (ask_of a) given new o step) → IfErr result (λ f. GivenFails old f new) → ConnectionRow c old ch (ask_of a) result new kept o
  sent_row given kept passed sends numbers recipient short result new o x y = λ side authentication p is settings.
      given_row p side old authentication ch a alive (settings alive) (sym same_checks ∙ passed) given kept sends (is_encoded ch kept (ask_of a) given sends numbers recipient short) result new o
      (subst (λ (e : Crypto K). IfOk result (λ step. GivenSent e old (ask_of a) given new o step)) (sym is) x) y

  -- an OPEN that memory was refused for is refused for nothing
  allowed : (b : Ask) → AsksForChannel blocked due ch (ask_of b) → first_refusal (after_authentication true (send_checks blocked due ch (ask_of b))) ≡ None
  allowed (ask.Open kind window max rest) e = e
  allowed (ask.Confirm channel window max rest) e = elim e [ ]
  allowed (ask.Refuse channel reason) e = elim e [ ]
  allowed (ask.Data channel kind body) e = elim e [ ]
  allowed (ask.Adjust channel bytes) e = elim e [ ]
  allowed (ask.Eof channel) e = elim e [ ]
  allowed (ask.Close channel) e = elim e [ ]
  allowed (ask.Request channel name want rest) e = elim e [ ]
  allowed (ask.Reply channel success) e = elim e [ ]
  allowed (ask.Global name want rest) e = elim e [ ]
  allowed (ask.GlobalReply success rest) e = elim e [ ]

  pub memory_row : AskFails authenticated blocked due ch (ask_of a) call_error.Memory → AsksUint32s (ask_of a) → (result : Result AskStep Fault) (kept : Channels) (new : State K) (o : Outs) → IfOk result (λ step. step ≡ step_by Spent) → OnOk result (old.kept.sending.count ≡ 2 ^ 32) → IfErr result (λ f. f ≡ fault.Memory) → OnErr result (HasRoom old) → new.kept.dead ≡ true → IsQuiet o →
      ConnectionRow c old ch (ask_of a) result new kept o
  memory_row fails numbers (Ok step) kept new o x none_left y z dead quiet = λ side authentication p is settings.
      let would = open_would blocked due ch a numbers fails.1 in
      subst (λ (s : AskStep). AskRow p side (end_with old authentication ch) (ask_of a) s (end_with new authentication kept) o) (sym x)
      (spent_row p side old authentication ch a alive (settings alive) (sym same_checks ∙ (ap (λ (b : Bool). first_refusal (after_authentication b (send_checks blocked due ch (ask_of a)))) fails.0 ∙ allowed a fails.1)) would.given would.kept would.sends would.encoding kept new o none_left dead quiet)
  memory_row fails numbers (Err f) kept new o x none_left y room dead quiet = λ side authentication p is settings.
      let would = open_would blocked due ch a numbers fails.1 in
      subst (λ (t : Fault). RowOf p side (end_with old authentication ch) (ask_of a) (Err t) (end_with new authentication kept) o) (sym y)
      (died_row p side old authentication ch a alive (settings alive) (sym same_checks ∙ (ap (λ (b : Bool). first_refusal (after_authentication b (send_checks blocked due ch (ask_of a)))) fails.0 ∙ allowed a fails.1)) would.given would.kept would.sends would.encoding kept new room dead)
