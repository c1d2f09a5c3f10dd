-- What a machine does on an ask is a turn of a session.
use Rattle.std.proofs.Common.{◌≡◌, ℕ, ◌^◌, List, [], ◌∷◌, ap, sym, ◌∙◌, subst, true, false, Some, None, append-nil}
use Rattle.ssh_model.specs.declared.side.Side.{Side}
use Rattle.ssh_model.specs.Protocol.Wire.Message.{Msg, Msg.Disconnect}
use Rattle.ssh_model.specs.Protocol.Sessions.Items.{Ask, Ask.AskDisconnect, Item, Item.Asked, Item.Died, Item.Sent, Encoded.EncodedBy}
use Rattle.ssh_model.specs.Protocol.Sessions.Parties.{Parties}
use Rattle.ssh_model.specs.declared.refusal.Refusal.TheVariants as refusals
use Rattle.ssh_model.specs.Protocol.Sessions.Refusals.{first_refusal}
use Rattle.ssh_model.specs.Protocol.Sessions.Turns.{IsEncoded}
use Rattle.ssh_model.specs.Laws.Farewells.{farewell_encoded}
use Rattle.ssh_model.specs.State.TransportLayer.Kept.{Asks, Transport, message_ask_checks}
use Rattle.ssh_model.specs.State.TransportLayer.Summary.{SumsUp}
use Rattle.ssh_model.specs.State.TransportLayer.Turns.{AskTurned, IsTransportAsk, PutsPackets}
use Rattle.ssh_model.specs.declared.ask_refusal.AskRefusal.{AskRefusal}
use Rattle.ssh_transport.specs.Asking as asking
use Rattle.ssh_transport.specs.Asking.{AskDone, DisconnectDone}
use Rattle.ssh_transport_machine.specs.Puts.{Outs}
use Rattle.ssh_transport.specs.Shown.{AskShows, IsAskTurn}
use Rattle.ssh_transport_machine.specs.State.{State}
use Rattle.ssh_transport_machine.specs.Answering.{IsQuiet}
use Rattle.ssh_transport_machine.specs.declared.machine.sending.SendOutcome.TheVariants.{Done, Spent}
use Rattle.ssh_transport.specs.declared.outcome.AskTurn.{AskTurn}
use Rattle.ssh_transport.specs.declared.outcome.AskTurn.TheVariants as turn

-- the laws of the model
pub record AskLaws (K : Type 0) : Type 0 where
  pub sent : (p : Parties K) (side : Side) (history : List Item) (s : Transport K) → SumsUp p side history s → s.dead ≡ false → (ask : Ask) (message : Msg) (payload : List ℕ) (new : Transport K) (more : List ℕ) → first_refusal (message_ask_checks s ask) ≡ None → Asks s ask message payload new → PutsPackets p.crypto s.sending (EncodedBy message payload ∷ []) more → AskTurned p side history ask (Sent None message payload ∷ Asked ask ∷ []) more new
  pub disconnected : (p : Parties K) (side : Side) (history : List Item) (s : Transport K) → SumsUp p side history s → s.dead ≡ false → (description payload : List ℕ) (new : Transport K) (more : List ℕ) → first_refusal (message_ask_checks s (AskDisconnect description)) ≡ None → new.dead ≡ true → PutsPackets p.crypto s.sending (EncodedBy (Disconnect 11 description []) payload ∷ []) more → AskTurned p side history (AskDisconnect description) (Died ∷ Sent None (Disconnect 11 description []) payload ∷ Asked (AskDisconnect description) ∷ []) more new
  pub refused : (p : Parties K) (side : Side) (history : List Item) (s : Transport K) → SumsUp p side history s → s.dead ≡ false → (ask : Ask) (refusal : AskRefusal) → IsTransportAsk ask → first_refusal (message_ask_checks s ask) ≡ Some refusal → AskTurned p side history ask (Item.AskRefused refusal ∷ Asked ask ∷ []) [] s
  pub spent : (p : Parties K) (side : Side) (history : List Item) (s : Transport K) → SumsUp p side history s → s.dead ≡ false → (ask : Ask) (message : Msg) (payload : List ℕ) (new dead : Transport K) → first_refusal (message_ask_checks s ask) ≡ None → Asks s ask message payload new → IsEncoded message payload → s.sending.count ≡ 2 ^ 32 → dead.dead ≡ true → AskTurned p side history ask (Died ∷ Item.Refused refusals.NumberSpent None ∷ Asked ask ∷ []) [] dead
  pub disconnect_spent : (p : Parties K) (side : Side) (history : List Item) (s : Transport K) → SumsUp p side history s → s.dead ≡ false → (description payload : List ℕ) (dead : Transport K) → first_refusal (message_ask_checks s (AskDisconnect description)) ≡ None → IsEncoded (Disconnect 11 description []) payload → s.sending.count ≡ 2 ^ 32 → dead.dead ≡ true → AskTurned p side history (AskDisconnect description) (Died ∷ Item.Refused refusals.NumberSpent None ∷ Asked (AskDisconnect description) ∷ []) [] dead

module _ {K : Type 0} (laws : AskLaws K) (p : Parties K) (side : Side) (h : List Item) (old : State K) (sums : SumsUp p side h old.kept) (alive : old.kept.dead ≡ false) where
  quiet_ask : (ask : Ask) (done : AskTurn) (items : List Item) (new : Transport K) (o : Outs) → IsQuiet o → AskShows ask done [] items → AskTurned p side h ask items [] new → IsAskTurn p side h ask done new o
  quiet_ask ask done items new o quiet shows turned = record {
    said = [];
    items = items;
    more = [];
    shows = shows;
    turned = turned;
    parts = quiet.out ∙ sym (append-nil o.before);
    lists = quiet.sent ∙ sym (append-nil o.payloads_before);
  }

  refused_ask : (ask : Ask) (why : AskRefusal) (new : State K) (o : Outs) → IsTransportAsk ask → asking.AskRefused old ask why new o → IsAskTurn p side h ask (turn.Refused why) new.kept o
  refused_ask ask why new o own x =
      quiet_ask ask (turn.Refused why) _ new.kept o x.quiet (AskShows.refused ask why)
      (subst (λ (t : State K). AskTurned p side h ask (Item.AskRefused why ∷ Asked ask ∷ []) [] t.kept) (sym x.after) (laws.refused p side h old.kept sums alive ask why own x.why_is))

  pub ask_lifted : (ask : Ask) (done : AskTurn) (new : State K) (o : Outs) → IsTransportAsk ask → AskDone p.crypto old ask done new o → IsAskTurn p side h ask done new.kept o
  ask_lifted ask (turn.Refused why) new o own x = refused_ask ask why new o own x
  ask_lifted ask (turn.Answered Done) new o own x = record {
    said = EncodedBy x.message x.payload ∷ [];
    items = Sent None x.message x.payload ∷ Asked ask ∷ [];
    more = x.puts.more;
    shows = AskShows.sent ask x.message x.payload;
    turned = subst (λ (t : State K). AskTurned p side h ask (Sent None x.message x.payload ∷ Asked ask ∷ []) x.puts.more t.kept) (sym x.after) (laws.sent p side h old.kept sums alive ask x.message x.payload x.kept x.puts.more x.fine x.asks x.puts.packets);
    parts = x.puts.parts;
    lists = x.puts.lists;
  }
  ask_lifted ask (turn.Answered Spent) new o own x =
      quiet_ask ask (turn.Answered Spent) _ new.kept o x.spent.quiet (AskShows.spent ask)
      (laws.spent p side h old.kept sums alive ask x.message x.encoding.payload x.kept new.kept x.fine x.asks x.encoding.encodes x.spent.none_left (ap (λ (t : State K). t.kept.dead) x.spent.after))

  pub disconnect_lifted : (description : List ℕ) (done : AskTurn) (new : State K) (o : Outs) → DisconnectDone p.crypto old description done new o → IsAskTurn p side h (AskDisconnect description) done new.kept o
  disconnect_lifted description (turn.Refused why) new o x = refused_ask (AskDisconnect description) why new o tt x
  disconnect_lifted description (turn.Answered Done) new o x = record {
    said = EncodedBy (Disconnect 11 description []) x.sends.payload ∷ [];
    items = Died ∷ Sent None (Disconnect 11 description []) x.sends.payload ∷ Asked (AskDisconnect description) ∷ [];
    more = x.sends.puts.more;
    shows = AskShows.disconnected description x.sends.payload;
    turned = laws.disconnected p side h old.kept sums alive description x.sends.payload new.kept x.sends.puts.more x.fine (ap (λ (t : State K). t.kept.dead) x.after) x.sends.puts.packets;
    parts = x.sends.puts.parts;
    lists = x.sends.puts.lists;
  }
  disconnect_lifted description (turn.Answered Spent) new o x =
      let said = farewell_encoded old.kept description x.fine in
      quiet_ask (AskDisconnect description) (turn.Answered Spent) _ new.kept o x.spent.quiet (AskShows.spent (AskDisconnect description))
      (laws.disconnect_spent p side h old.kept sums alive description said.payload new.kept x.fine said.encodes x.spent.none_left (ap (λ (t : State K). t.kept.dead) x.spent.after))
