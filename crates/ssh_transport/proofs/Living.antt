-- What holds of a machine that is not over goes on holding.
use Rattle.std.proofs.Common.{◌≡◌, ℕ, ◌+◌, ◌-◌, ◌^◌, ◌≤◌, List, refl, ap, sym, ◌∙◌, subst, arith, Bool, true, false, Option, Some, None, is_some, nat_lt, not, ◌&&◌, ◌<◌, [], ◌∷◌}
use Rattle.std.proofs.lemmas.Bool.{false≢true}
use Rattle.ssh_model.specs.declared.side.Side.{Side}
use Rattle.ssh_model.specs.Protocol.Wire.Message.{Msg}
use Rattle.ssh_model.specs.Protocol.Wire.Sealing.{Crypto}
use Rattle.ssh_model.specs.Protocol.KeyExchange.Exchanges.{Material}
use Rattle.ssh_model.specs.Protocol.Sessions.Items.{Ask, Ask.AskRekey}
use Rattle.ssh_model.specs.Protocol.Sessions.Parties.{Settings}
use Rattle.ssh_model.specs.Protocol.Sessions.Phases as model
use Rattle.ssh_model.specs.State.TransportLayer.Directions.{Direction}
use Rattle.ssh_model.specs.State.TransportLayer.Kept as kept
use Rattle.ssh_model.specs.State.TransportLayer.Kept.{Asks, Transport, after_fed, after_own_kexinit, after_sent, can_be_fed, message_ask_checks}
use Rattle.ssh_model.specs.Protocol.Sessions.Refusals.{first_refusal}
use Rattle.ssh_model.specs.State.TransportLayer.Summary.{bit, is_keying}
use Rattle.ssh_model.specs.declared.refusal.Refusal.{Refusal}
use Rattle.ssh_model.specs.Protocol.Sessions.Refusals.{Check.RefusedWhere}
use Rattle.ssh_model.specs.declared.ask_refusal.AskRefusal.TheVariants as AskRefusal
use Rattle.ssh_packet.specs.Directions.{Receiver, Receives}
use Rattle.ssh_packet.specs.declared.step.PacketStep.{PacketStep}
use Rattle.ssh_packet.specs.declared.step.PacketStep.TheVariants as step
use Rattle.ssh_transport.specs.Asking.{AskDone}
use Rattle.ssh_transport_machine.specs.Classifying.{PayloadIs}
use Rattle.ssh_transport_machine.specs.Classifying as classifying
use Rattle.ssh_transport_machine.specs.LineTurns.{LineTaken}
use Rattle.ssh_transport_machine.specs.Opening.{IsOpened}
use Rattle.ssh_transport_machine.specs.Puts.{Outs}
use Rattle.ssh_transport_machine.specs.State.{State, awaits_exchange, before_taken, noted}
use Rattle.ssh_transport.specs.Living.{IsKeptLive, IsLive}
use Rattle.ssh_transport_machine.specs.Answering.{Answers}
use Rattle.ssh_transport.specs.Dispatching.{Does, NewkeysDone, PacketDone, PacketTaken, Turns}
use Rattle.ssh_transport_machine.specs.declared.machine.classifying.Classified.{Classified}
use Rattle.ssh_transport_machine.specs.declared.machine.classifying.Classified.TheVariants as classified
use Rattle.ssh_transport_machine.specs.declared.machine.LineTurn.{LineTurn}
use Rattle.ssh_transport_machine.specs.declared.machine.LineTurn.TheVariants as line
use Rattle.ssh_transport_machine.specs.declared.machine.sending.SendOutcome.{SendOutcome}
use Rattle.ssh_transport_machine.specs.declared.machine.sending.SendOutcome.TheVariants.{Done, Spent}
use Rattle.ssh_transport.specs.declared.outcome.AskTurn.{AskTurn}
use Rattle.ssh_transport.specs.declared.outcome.AskTurn.TheVariants as ask_turn
use Rattle.ssh_transport.specs.declared.outcome.TransportTurn.{TransportTurn}
use Rattle.ssh_transport.proofs.Newkeys.{newkeys_shown}
use Rattle.ssh_transport.proofs.Begun.{granted_outside}
use Rattle.ssh_transport.specs.Own.{Share, Share.OfRole, Share.Shared}

over : {A : Type 0} (b : Bool) → b ≡ true → b ≡ false → A
over b e f = absurd (false≢true (sym f ∙ e))

-- ---- numbers

fewer : (come b gone : ℕ) → come + b ≤ gone → come + 0 ≤ gone
fewer come b gone l = omega (arith, l)

used_up : (gone fed b m : ℕ) → b ≡ 0 → m ≡ 1 → gone + (b + m) ≤ fed → gone + 1 ≤ fed
used_up gone fed b m e f l = omega (arith, e, f, l)

next_epoch : (come gone b : ℕ) → b ≡ 1 → come + b ≤ gone → come + 1 + 0 ≤ gone
next_epoch come gone b e l = omega (arith, e, l)

one_more : (n m : ℕ) → n ≡ m + 1 → 1 ≤ n
one_more n m e = omega (arith, e)

one_pair : (gone fed b m : ℕ) → m ≡ 0 → gone + (b + m) ≤ fed → gone + (b + 1) ≤ fed + 1
one_pair gone fed b m e l = omega (arith, e, l)

second_of : (a b d : Bool) → (a && b && d) ≡ true → b ≡ true
second_of true true d e = refl
second_of true false d e = absurd (cc e)
second_of false b d e = absurd (cc e)

third_of : (a b d : Bool) → (a && b && d) ≡ true → d ≡ true
third_of true true d e = e
third_of true false d e = absurd (cc e)
third_of false b d e = absurd (cc e)

lacks_bit : (b : Bool) → not b ≡ true → bit b ≡ 0
lacks_bit true e = absurd (cc e)
lacks_bit false e = refl

room_of : (n : ℕ) → nat_lt n (2 ^ 32 - 1) ≡ true → n + 1 ≤ 2 ^ 32 - 1
room_of n e = grind (arith, e)

-- an ask for an exchange that nothing refuses comes of an end whose user is authenticated
let_in_by : (b busy none : Bool) → first_refusal (RefusedWhere (not b) AskRefusal.NotYet ∷ RefusedWhere busy AskRefusal.Busy ∷ RefusedWhere none AskRefusal.NoMaterial ∷ []) ≡ None → b ≡ true
let_in_by true busy none e = refl
let_in_by false busy none e = absurd (cc e)

rekeys : {K : Type 0} (k : Transport K) → first_refusal (message_ask_checks k AskRekey) ≡ None → k.authenticated ≡ true
rekeys k e = let_in_by k.authenticated _ _ e

-- ---- what is kept

module _ {K : Type 0} where
  pub sent_on : (k : Transport K) (requested : Bool) → IsKeptLive k → IsKeptLive (record (after_sent k) { requested = requested })
  sent_on k requested a = record { pending = a.pending; blocked = a.blocked; taken_epochs = a.taken_epochs; sent_epochs = a.sent_epochs; fed = a.fed; begun = a.begun; granted = a.granted }

  accepted_on : (k : Transport K) → awaits_exchange k.phase ≡ false → IsKeptLive k → IsKeptLive (record k { accepted = true })
  accepted_on k outside a = record { pending = a.pending; blocked = a.blocked; taken_epochs = a.taken_epochs; sent_epochs = a.sent_epochs; fed = a.fed; begun = a.begun; granted = λ e. a.begun outside }

  taken_on : (k : Transport K) (direction : Direction K) → direction.epoch ≡ k.taking.epoch → IsKeptLive k → IsKeptLive (record k { taking = direction })
  taken_on k direction e a = record { pending = a.pending; blocked = a.blocked; taken_epochs = subst (λ (n : ℕ). n + bit (is_keying k.phase) ≤ k.sending.epoch) (sym e) a.taken_epochs; sent_epochs = a.sent_epochs; fed = a.fed; begun = a.begun; granted = a.granted }

  skipped_on : (k : Transport K) → k.phase ≡ model.Phase.Guessed → IsKeptLive k → IsKeptLive (record k { phase = model.Phase.Exchanging })
  skipped_on k here a = record {
    pending = λ e. absurd (cc e);
    blocked = λ e. a.blocked (ap awaits_exchange here);
    taken_epochs = fewer _ _ _ a.taken_epochs;
    sent_epochs = a.sent_epochs;
    fed = a.fed;
    begun = λ e. absurd (false≢true (sym e));
    granted = a.granted;
  }

  pub noted_on : (wrong strict extensions : Bool) (payload : List ℕ) (k : Transport K) → k.blocked ≡ true → IsKeptLive k → IsKeptLive (noted wrong strict extensions payload k)
  noted_on true strict extensions payload k shut a = record { pending = λ e. absurd (cc e); blocked = λ e. shut; taken_epochs = fewer _ _ _ a.taken_epochs; sent_epochs = a.sent_epochs; fed = a.fed; begun = λ e. absurd (false≢true (sym e)); granted = a.granted }
  noted_on false strict extensions payload k shut a = record { pending = λ e. absurd (cc e); blocked = λ e. shut; taken_epochs = fewer _ _ _ a.taken_epochs; sent_epochs = a.sent_epochs; fed = a.fed; begun = λ e. absurd (false≢true (sym e)); granted = a.granted }

  pub own_on : (m : Material) (payload : List ℕ) (k : Transport K) → k.blocked ≡ false → k.authenticated ≡ true → k.material ≡ Some m → IsKeptLive k → IsKeptLive (after_own_kexinit m payload k)
  own_on m payload k free let_in has a = record {
    pending = a.pending;
    blocked = λ e. refl;
    taken_epochs = a.taken_epochs;
    sent_epochs = used_up _ _ _ _ (ap bit free) (ap (λ (t : Option Material). bit (is_some t)) has) a.sent_epochs;
    fed = a.fed;
    begun = λ e f. let_in;
    granted = λ e f. let_in;
  }

  begun_on : (k : Transport K) (direction : Direction K) → direction.epoch ≡ k.taking.epoch + 1 → k.phase ≡ model.Phase.Keying → IsKeptLive k → IsKeptLive (record k { taking = direction; phase = model.Phase.Normal; pending = None })
  begun_on k direction e here a = record {
    pending = λ f. absurd (cc f);
    blocked = λ f. absurd (false≢true f);
    taken_epochs = subst (λ (n : ℕ). n + 0 ≤ k.sending.epoch) (sym e) (next_epoch _ _ _ (ap (λ (p : model.Phase). bit (is_keying p)) here) a.taken_epochs);
    sent_epochs = a.sent_epochs;
    fed = a.fed;
    begun = λ e. a.begun (ap awaits_exchange here);
    granted = a.granted;
  }

  fed_on : (k : Transport K) (cookie secret : List ℕ) → can_be_fed k ≡ true → IsKeptLive k → IsKeptLive (after_fed cookie secret k)
  fed_on k cookie secret can a = record {
    pending = a.pending;
    blocked = a.blocked;
    taken_epochs = a.taken_epochs;
    sent_epochs = one_pair _ _ _ _ (lacks_bit (is_some k.material) (second_of (not k.dead) (not (is_some k.material)) (nat_lt k.fed (2 ^ 32 - 1)) can)) a.sent_epochs;
    fed = room_of k.fed (third_of (not k.dead) (not (is_some k.material)) (nat_lt k.fed (2 ^ 32 - 1)) can);
    begun = a.begun;
    granted = a.granted;
  }

-- ---- a machine

module _ {K : Type 0} where
  pub same_side : (old new : State K) (k : Transport K) → new ≡ record old { kept = k } → k.lines ≡ old.kept.lines → k.side ≡ old.kept.side → k.taking ≡ old.kept.taking → IsKeptLive k → IsLive old → IsLive new
  same_side old new k e lines side taking a live = subst (λ (t : State K). IsLive t) (sym e) (record {
    lines = λ f. let r = live.lines (sym (ap (λ l. l.found) lines) ∙ f) in record {
      from_peer = r.from_peer ∙ ap model.is_client (sym side);
      others = ap (λ l. l.others) lines ∙ r.others;
      going = r.going;
    };
    taking = taking ∙ live.taking;
    receiving = live.receiving;
    kept = a;
  })

  guessed : (s : Transport K) (payload : List ℕ) → PayloadIs s payload classified.Skipped → s.phase ≡ model.Phase.Guessed
  guessed s payload (classifying.PayloadIs.skipped below taken here) = here
  guessed s payload (classifying.PayloadIs.read message below taken no_guess is (classifying.MessageIs.requested service given)) = absurd given
  guessed s payload (classifying.PayloadIs.read message below taken no_guess is (classifying.MessageIs.accepted service given)) = absurd given

  module _ (c : Crypto K) (old new : State K) (o : Outs) (live : IsLive old) (alive : new.kept.dead ≡ false) where
    newkeys_live : (given : TransportTurn) → old.kept.phase ≡ model.Phase.Keying → NewkeysDone old given new o → IsLive new
    newkeys_live given here x = subst (λ (t : State K). IsLive t) (sym x.taken.after) (record {
      lines = λ f. let r = live.lines f in record { from_peer = r.from_peer; others = r.others; going = r.going };
      taking = refl;
      receiving = live.receiving;
      kept = begun_on old.kept _ (ap (λ (d : Direction K). d.epoch + 1) (sym live.taking)) here live.kept;
    })

    left_live : new ≡ old → IsLive new
    left_live e = subst (λ (t : State K). IsLive t) (sym e) live

    sent_live : (m : Msg) (requested : Bool) (answer : SendOutcome) → Answers c old m (record (after_sent old.kept) { requested = requested }) answer new o → IsLive new
    sent_live m requested Done y = same_side old new _ y.after refl refl refl (sent_on old.kept requested live.kept) live
    sent_live m requested Spent y = over new.kept.dead (ap (λ (t : State K). t.kept.dead) y.after) alive

    does_live : (what : Classified) (done : Share) → PayloadIs (before_taken old.kept) old.receiver.payload what → Does c old what done new o → IsLive new
    does_live (classified.Refused why) (Shared given) is y = over new.kept.dead (ap (λ (t : Transport K). t.dead) y.refuses.after) alive
    does_live classified.Skipped (Shared given) is y = same_side old new _ y.becomes.after refl refl refl (skipped_on old.kept (guessed _ _ is) live.kept) live
    does_live classified.Disconnected (Shared given) is y = over new.kept.dead (ap (λ (t : State K). t.kept.dead) y.becomes.after) alive
    does_live classified.Told (Shared given) is y = same_side old new _ y.becomes.after refl refl refl live.kept live
    does_live classified.Unknown (Shared given) is y = sent_live _ old.kept.requested y.answer y.answers
    does_live classified.ServiceRequested (Shared given) is y = sent_live _ true y.answer y.answers
    does_live classified.ServiceAccepted (Shared given) is y = same_side old new _ y.becomes.after refl refl refl (accepted_on old.kept (granted_outside old.kept old.receiver.payload is) live.kept) live
    does_live (classified.Kexinit facts) (OfRole left) is y = left_live y.after
    does_live classified.NewKeys (Shared given) is y = newkeys_live given (newkeys_shown old.kept old.receiver.payload is).phase y
    does_live classified.EcdhInit (OfRole left) is y = left_live y.after
    does_live classified.Reply (OfRole left) is y = left_live y.after
    does_live classified.Above (Shared given) is y = left_live y.becomes.after
    does_live _ _ is y = absurd y

  pub turns_live : (c : Crypto K) (old : State K) (done : Share) (new : State K) (o : Outs) → IsLive old → Turns c old done new o → new.kept.dead ≡ false → IsLive new
  turns_live c old done new o live x alive = does_live c old new o live alive x.what done x.payload_is x.does

  -- right after a packet was taken
  received : (old between : State K) → IsLive old → between ≡ record old { receiver = between.receiver; kept = record old.kept { taking = between.receiver.direction } } → between.receiver.ended ≡ None → between.receiver.direction.epoch ≡ old.receiver.direction.epoch → IsLive between
  received old between live e going epochs = subst (λ (t : State K). IsLive t) (sym e) (record {
    lines = λ f. let r = live.lines f in record { from_peer = r.from_peer; others = r.others; going = r.going };
    taking = refl;
    receiving = going;
    kept = taken_on old.kept between.receiver.direction (epochs ∙ ap (λ (d : Direction K). d.epoch) (sym live.taking)) live.kept;
  })

  pub payload_live : (c : Crypto K) (old between : State K) (bytes : List ℕ) → IsLive old → Receives c bytes old.receiver step.Payload between.receiver → between ≡ record old { receiver = between.receiver; kept = record old.kept { taking = between.receiver.direction } } → IsLive between
  payload_live c old between bytes live x e = received old between live e (ap (λ (r : Receiver K). r.ended) x.1 ∙ live.receiving) (ap (λ (r : Receiver K). r.direction.epoch) x.1)

  pub payload_count : (c : Crypto K) (old between : State K) (bytes : List ℕ) → Receives c bytes old.receiver step.Payload between.receiver → between ≡ record old { receiver = between.receiver; kept = record old.kept { taking = between.receiver.direction } } → 1 ≤ between.kept.taking.count
  payload_count c old between bytes x e = one_more _ _ (ap (λ (t : State K). t.kept.taking.count) e ∙ ap (λ (r : Receiver K). r.direction.count) x.1)

  packet_done_live : (c : Crypto K) (old between new : State K) (o : Outs) (bytes : List ℕ) → IsLive old → between ≡ record old { receiver = between.receiver; kept = record old.kept { taking = between.receiver.direction } } → new.kept.dead ≡ false →
      (found : PacketStep Refusal) (done : Share) → Receives c bytes old.receiver found between.receiver → PacketDone c between found done new o → IsLive new
  packet_done_live c old between new o bytes live e alive step.More (Shared given) x y =
      subst (λ (t : State K). IsLive t) (sym y.becomes.after) (received old between live e (ap (λ (r : Receiver K). r.ended) x.1 ∙ live.receiving) (ap (λ (r : Receiver K). r.direction.epoch) x.1))
  packet_done_live c old between new o bytes live e alive (step.Refused why) (Shared given) x y = over new.kept.dead (ap (λ (t : Transport K). t.dead) y.refuses.after) alive
  packet_done_live c old between new o bytes live e alive step.Payload done x y = turns_live c between done new o (payload_live c old between bytes live x e) y alive
  packet_done_live c old between new o bytes live e alive _ _ x y = absurd y

  pub packet_live : (c : Crypto K) (old : State K) (bytes : List ℕ) (done : Share) (new : State K) (o : Outs) → IsLive old → PacketTaken c old bytes done new o → new.kept.dead ≡ false → IsLive new
  packet_live c old bytes done new o live x alive = packet_done_live c old x.between new o bytes live x.rest alive x.found done x.receives x.does

  -- ---- lines

  pub line_live : (old : State K) (bytes : List ℕ) (done : LineTurn) (new : State K) → IsLive old → LineTaken old bytes done new → new.kept.dead ≡ false → IsLive new
  line_live old bytes line.More new live x alive = subst (λ (t : State K). IsLive t) (sym x.after) (record {
    lines = λ f. let r = live.lines f in record { from_peer = r.from_peer; others = r.others; going = r.going };
    taking = live.taking;
    receiving = live.receiving;
    kept = live.kept;
  })
  line_live old bytes line.Other new live x alive = subst (λ (t : State K). IsLive t) (sym x.after) (record {
    lines = λ f. let r = live.lines f in record { from_peer = r.from_peer; others = ap (λ (n : ℕ). n + 1) r.others; going = r.going };
    taking = live.taking;
    receiving = live.receiving;
    kept = record { pending = live.kept.pending; blocked = live.kept.blocked; taken_epochs = live.kept.taken_epochs; sent_epochs = live.kept.sent_epochs; fed = live.kept.fed; begun = live.kept.begun; granted = live.kept.granted };
  })
  line_live old bytes line.Version new live x alive = subst (λ (t : State K). IsLive t) (sym x.after) (record {
    lines = λ f. absurd (false≢true (sym f));
    taking = live.taking;
    receiving = live.receiving;
    kept = record { pending = live.kept.pending; blocked = live.kept.blocked; taken_epochs = live.kept.taken_epochs; sent_epochs = live.kept.sent_epochs; fed = live.kept.fed; begun = live.kept.begun; granted = live.kept.granted };
  })
  line_live old bytes (line.Refused why) new live x alive = over new.kept.dead (ap (λ (t : State K). t.kept.dead) x.after) alive

  -- ---- asks, and the opening

  pub answer_live : (c : Crypto K) (old : State K) (m : Msg) (answer : SendOutcome) (new : State K) (o : Outs) → IsLive old → Answers c old m (after_sent old.kept) answer new o → new.kept.dead ≡ false → IsLive new
  answer_live c old m Done new o live x alive = same_side old new _ x.after refl refl refl (sent_on old.kept old.kept.requested live.kept) live
  answer_live c old m Spent new o live x alive = over new.kept.dead (ap (λ (t : State K). t.kept.dead) x.after) alive

  pub fed_live : (old new : State K) (cookie secret : List ℕ) → IsLive old → can_be_fed old.kept ≡ true → new ≡ record old { kept = after_fed cookie secret old.kept } → IsLive new
  fed_live old new cookie secret live can e = same_side old new _ e refl refl refl (fed_on old.kept cookie secret can live.kept) live

  asked_side : (old new : State K) (next : Transport K) (ask : Ask) (m : Msg) (payload : List ℕ) → first_refusal (message_ask_checks old.kept ask) ≡ None → Asks old.kept ask m payload next → new ≡ record old { kept = next } → IsLive old → IsLive new
  asked_side old new next ask m payload fine (kept.Asks.service p side) e live = same_side old new _ e refl refl refl (sent_on old.kept true live.kept) live
  asked_side old new next ask m payload fine (kept.Asks.rekey material p free has) e live = same_side old new _ e refl refl refl (own_on material p old.kept free (rekeys old.kept fine) has live.kept) live

  pub ask_live : (c : Crypto K) (old : State K) (ask : Ask) (done : AskTurn) (new : State K) (o : Outs) → IsLive old → AskDone c old ask done new o → new.kept.dead ≡ false → IsLive new
  ask_live c old ask (ask_turn.Refused why) new o live x alive = subst (λ (t : State K). IsLive t) (sym x.after) live
  ask_live c old ask (ask_turn.Answered Done) new o live x alive = asked_side old new x.kept ask x.message x.payload x.fine x.asks x.after live
  ask_live c old ask (ask_turn.Answered Spent) new o live x alive = over new.kept.dead (ap (λ (t : State K). t.kept.dead) x.spent.after) alive

  pub opened_live : (c : Crypto K) (settings : Settings) (side : Side) (cookie secret : List ℕ) (new : State K) (o : Outs) → IsOpened c settings side cookie secret new o → IsLive new
  opened_live c settings side cookie secret new o x = subst (λ (t : State K). IsLive t) (sym x.state_is) (record {
    lines = λ f. record { from_peer = refl; others = refl; going = refl };
    taking = refl;
    receiving = refl;
    kept = record { pending = λ e. absurd (cc e); blocked = λ e. refl; taken_epochs = omega arith; sent_epochs = omega arith; fed = omega arith; begun = λ e. absurd (false≢true (sym e)); granted = λ e. absurd (false≢true e) };
  })
