-- Neither end refuses the other for its channels.
use Rattle.std.proofs.Common.{◌≡◌, ℕ, zero, suc, ◌<◌, ◌≤◌, List, [], ◌∷◌, ◌++◌, reverse, refl, sym, arith, subst, append-nil, Bool, true, false, ◌&&◌, Option, Some}
use Rattle.ssh_model.specs.declared.side.Side.{Side}
use Rattle.ssh_model.specs.declared.side.Side.TheVariants.{Client, Server}
use Rattle.ssh_model.specs.Protocol.Side.{peer, done_by, part}
use Rattle.ssh_model.specs.Protocol.Lists.{IsOlder}
use Rattle.ssh_model.specs.Protocol.Wire.Message.{Msg, Msg.NewKeys, Msg.KexInit, Msg.KexEcdhInit, Msg.KexEcdhReply, Msg.ServiceRequest, Msg.ServiceAccept, Msg.UserauthRequest, Msg.GlobalRequest, Msg.RequestSuccess, Msg.RequestFailure, Msg.ChannelOpen, Msg.ChannelOpenConfirmation, Msg.ChannelOpenFailure, Msg.ChannelWindowAdjust, Msg.ChannelData, Msg.ChannelExtendedData, Msg.ChannelEof, Msg.ChannelClose, Msg.ChannelRequest, Msg.ChannelSuccess, Msg.ChannelFailure, IsPayload, message_number}
use Rattle.ssh_model.specs.declared.refusal.Refusal.{Refusal}
use Rattle.ssh_model.specs.declared.refusal.Refusal.TheVariants.{BadMessage, Unexpected}
use Rattle.ssh_model.specs.Protocol.Sessions.Refusals.{Check, Check.RefusedWhere, first_refusal}
use Rattle.ssh_model.specs.Protocol.Sessions.Parties.{Parties, BothOffer, AreLawful}
use Rattle.ssh_model.specs.Protocol.Sessions.Items.{Ask, Item, Item.Refused, Payload.OtherOf, Done, sent, took}
use Rattle.ssh_model.specs.Protocol.Sessions.Epochs.{epoch, after_first, from_epoch}
use Rattle.ssh_model.specs.Protocol.Channels.Message.{Message}
use Rattle.ssh_model.specs.Protocol.Channels.History as channel
use Rattle.ssh_model.specs.ChannelLayer.Rows as row
use Rattle.ssh_model.specs.Protocol.Channels.Claims as safe
use Rattle.ssh_model.specs.ChannelLayer.Claims as of_channels
use Rattle.ssh_model.specs.Protocol.Channels.Connection.{on_channel, channel_items, notes, AreReplies, AreReplies.none, AreReplies.reply, ConnectionAnswer, ConnectionAnswer.not_opened, ConnectionAnswer.close, ConnectionAsk, ConnectionAsk.opens}
use Rattle.ssh_model.specs.Protocol.Sessions.Transport.{IsAnnounced.extensions as announced, IsAnnounced.nothing as unannounced, TransportAnswer, CompletingAnswer.init, CompletingAnswer.reply, TransportAsk, TransportAsk.service, CompletingAnswer, TransportAnswer.disconnect}
use Rattle.ssh_model.specs.Protocol.Authentication.Rows.{AuthenticationAnswer, AuthenticationAnswer.success, AuthenticationAsk, AuthenticationAsk.none as asks_none}
use Rattle.ssh_model.specs.Protocol.Sessions.Phases.{phase, may_take}
use Rattle.ssh_model.specs.Protocol.Sessions.Honest.{IsHonest, TagsHold, WasSent}
use Rattle.ssh_model.specs.Protocol.Sessions.Claims.{IsOtherRefusal, NoneRefused, NoFalseAlarm}
use Rattle.ssh_model.specs.Protocol.Wire.Outcome.{Outcome.RefusedLine, Outcome.RefusedPacket}
use Rattle.ssh_model.specs.Protocol.Wire.Line.{LineUnit, LineIs}
use Rattle.ssh_model.specs.Protocol.Wire.Unit.{Stage, Stage.Lines, Stage.Packets, IsUnit, PacketUnit}
use Rattle.ssh_model.specs.Protocol.Sessions.Turns.{Refuses, Refuses.silently, Refuses.spent, Refuses.said, answer_checks, number_of, Answer.of_transport, Answer.of_completion, Answer.of_authentication as answered_by_authentication, Answer.of_connection, OnAsk.of_authentication as asked_of_authentication, OnPayload, OnPayload.takes, OnPayload.skips, OnPayload.unexpected, OnPayload.bad_message, OnPayload.refuses, OnPayload.spends, OnOutcome.other_line, OnOutcome.version_line, OnOutcome.refused_line, OnOutcome.opened, OnOutcome.refused_packet, OnAsk.of_transport, OnAsk.of_connection, stage, FeedsTurn, AsksTurn, AsksTurn.refuses, AsksTurn.spends, OnUnit.reads, Turn, Turn.asks, Turn.reads, Run, Run.start, Run.then_turn, IsOpening, OnUnit}
use Rattle.ssh_model.proofs.Sessions.Stages.{and_left, normal_above}
use Rattle.ssh_model.proofs.Sessions.Rules.{tagged}
use Rattle.ssh_model.proofs.Sessions.Encoding.{IsOtherMessage, taken_other_tag}
use Rattle.ssh_model.proofs.Sessions.Agree.{client_next, server_next}
use Rattle.ssh_model.proofs.Sessions.Whole.{Given, given, given_tail, kept, known}
use Rattle.ssh_model.proofs.Sessions.Sound.{AllFormed, Sound}
use Rattle.ssh_model.proofs.Sessions.Encoding.{taken_number}
use Rattle.ssh_model.proofs.Sessions.SoundTurns.{normal_keyed}
use Rattle.ssh_model.proofs.Sessions.SoundTurns.{sounds}
use Rattle.ssh_model.proofs.Channels.Order.{Reads, Reads.reads, older_reading, taken_reads, sent_reads, high_on_channel}
use Rattle.ssh_model.proofs.Channels.Run.{channel_run, part_seen, ordered, seen, all_ordered}
use Rattle.ssh_model.proofs.Channels.Pair.{not_refused, data_in_order}
use Rattle.ssh_model.proofs.Sessions.Partners.{partners_hold}

-- ---- items without such a refusal

abbrev pub AreFine : List Item → Type 0
AreFine [] = Unit {0}
AreFine (Refused n b ∷ items) = IsOtherRefusal n × AreFine items
AreFine (_ ∷ items) = AreFine items

fine_following : (a b : List Item) → AreFine a → AreFine b → AreFine (a ++ b)
fine_following [] b f g = g
fine_following (Refused n x ∷ a) b f g = (f.0, fine_following a b f.1 g)
fine_following (i ∷ a) b f g = fine_following a b f g

replies_fine : (l : List channel.Item) (items : List Item) → AreReplies l items → AreFine items
replies_fine l items none = tt
replies_fine l items (reply at m b r) = replies_fine _ _ r

completion_fine : {K : Type 0} (p : Parties K) (owed : List Item) (side : Side) (h : List Item) (m : Msg) (items : List Item) → CompletingAnswer p owed side h m items → AreFine owed → AreFine items
completion_fine p owed side h m items (init q rb nb (announced xb f)) o = fine_following owed _ o tt
completion_fine p owed side h m items (init q rb nb (unannounced f)) o = fine_following owed _ o tt
completion_fine p owed side h m items (CompletingAnswer.reply k q g nb (announced xb f)) o = fine_following owed _ o tt
completion_fine p owed side h m items (CompletingAnswer.reply k q g nb (unannounced f)) o = fine_following owed _ o tt

transport_fine : {K : Type 0} (p : Parties K) (side : Side) (h : List Item) (m : Msg) (items : List Item) → TransportAnswer p side h m items → AreFine items
transport_fine p side h m items (disconnect r d l) = tt
transport_fine p side h m items a = tt

authentication_fine : {K : Type 0} (p : Parties K) (side : Side) (h : List Item) (m : Msg) (items : List Item) → AuthenticationAnswer p side h m items → AreFine items
authentication_fine p side h m items (success way e) = tt
authentication_fine p side h m items a = tt

connection_fine : (side : Side) (h : List Item) (c : Option ℕ) (m : Msg) (items : List Item) → ConnectionAnswer side h c m items → AreFine items
connection_fine side h c m items (not_opened k f w d r full due) = replies_fine _ items due
connection_fine side h c m items (close t due) = replies_fine _ _ due
connection_fine side h c m items a = tt

transport_ask_fine : {K : Type 0} (p : Parties K) (side : Side) (h items : List Item) (a : Ask) → TransportAsk p side h a items → AreFine items
transport_ask_fine p side h items a (service x) = tt
transport_ask_fine p side h items a x = tt

authentication_ask_fine : {K : Type 0} (p : Parties K) (side : Side) (h items : List Item) (a : Ask) → AuthenticationAsk p side h a items → AreFine items
authentication_ask_fine p side h items a (asks_none u b) = tt
authentication_ask_fine p side h items a x = tt

connection_ask_fine : (side : Side) (h items : List Item) (a : Ask) → ConnectionAsk side h a items → AreFine items
connection_ask_fine side h items a (opens x k w d r b f) = tt
connection_ask_fine side h items a x = tt

refuses_fine : (h items : List Item) (why : Refusal) (b : Option (List ℕ)) → Refuses h why b items → IsOtherRefusal why → AreFine items
refuses_fine h items n b (silently e) o = (o, tt)
refuses_fine h items n b (spent e) o = (o, tt)
refuses_fine h items n b (said r x e f s) o = (o, tt)

-- ---- checks

AllOther : List (Check Refusal) → Type 0
AllOther [] = Unit {0}
AllOther (RefusedWhere b why ∷ checks) = (b ≡ true → IsOtherRefusal why) × AllOther checks

first_other : (checks : List (Check Refusal)) (k : Refusal) → AllOther checks → first_refusal checks ≡ Some k → IsOtherRefusal k
unfolding AllOther
first_other [] k a e = absurd (cc e)
first_other (RefusedWhere true why ∷ checks) k a e =
    let same : why ≡ k = cc in
    let P : Refusal → Type 0 = λ x. IsOtherRefusal x in
    subst P same (a.0 refl)
first_other (RefusedWhere false why ∷ checks) k a e = first_other checks k a.1 e

other_check : {b : Bool} → b ≡ true → Unit {0}
other_check e = tt

welcome_check : {A : Type 0} {b : Bool} → b ≡ false → b ≡ true → A
welcome_check e f = absurd (cc (e, f))

welcome_both : {A : Type 0} (b c : Bool) → b ≡ false → (b && c) ≡ true → A
welcome_both b c e f = absurd (cc (e, and_left b c f))

module _ {K : Type 0} (p : Parties K) where
  checks_other : (side : Side) (h : List Item) (m : Msg) → ((c : Message) → on_channel m ≡ Some c → of_channels.Acceptable c (notes side h)) → AllOther (answer_checks p side h m)
  unfolding AllOther
  checks_other side h (ServiceRequest x) w = (other_check, tt)
  checks_other side h (ServiceAccept x) w = (other_check, tt)
  checks_other side h (KexInit o) w = (other_check, (other_check, (other_check, (other_check, tt))))
  checks_other side h (KexEcdhInit q) w = (other_check, tt)
  checks_other side h (KexEcdhReply k q g) w = (other_check, (other_check, tt))
  checks_other side h (UserauthRequest u s m) w = (other_check, tt)
  checks_other side h (GlobalRequest n want r) w = (other_check, tt)
  checks_other side h (RequestSuccess r) w = (other_check, tt)
  checks_other side h RequestFailure w = (other_check, tt)
  checks_other side h (ChannelOpen k s x d r) w = (other_check, tt)
  checks_other side h (ChannelOpenConfirmation t s x d r) w = (welcome_both _ _ (w _ refl).known, (other_check, tt))
  checks_other side h (ChannelOpenFailure t r d l) w = (welcome_both _ _ (w _ refl).known, (other_check, tt))
  checks_other side h (ChannelWindowAdjust t n) w = (welcome_check (w _ refl).known, (welcome_check (w _ refl).bounded, tt))
  checks_other side h (ChannelData t x) w = (welcome_check (w _ refl).known, (other_check, (welcome_check (w _ refl).fits, tt)))
  checks_other side h (ChannelExtendedData t k x) w = (welcome_check (w _ refl).known, (other_check, (welcome_check (w _ refl).fits, tt)))
  checks_other side h (ChannelEof t) w = (welcome_check (w _ refl).known, (other_check, tt))
  checks_other side h (ChannelClose t) w = (welcome_check (w _ refl).known, (other_check, tt))
  checks_other side h (ChannelRequest t n want r) w = (welcome_check (w _ refl).known, (other_check, tt))
  checks_other side h (ChannelSuccess t) w = (welcome_check (w _ refl).known, (other_check, tt))
  checks_other side h (ChannelFailure t) w = (welcome_check (w _ refl).known, (other_check, tt))
  checks_other side h m w = tt

-- ---- what is refused was the next of what the other sent

channel_true : (x : Bool) (m : Msg) (b : List ℕ) (c : Message) → on_channel m ≡ Some c → IsPayload x m b → IsPayload true m b
channel_true x (ChannelOpen a k d e f) b c g s = record { context = tt; row = s.row }
channel_true x (ChannelOpenConfirmation a k d e f) b c g s = record { context = tt; row = s.row }
channel_true x (ChannelOpenFailure a k d e) b c g s = record { context = tt; row = s.row }
channel_true x (ChannelWindowAdjust a k) b c g s = record { context = tt; row = s.row }
channel_true x (ChannelData a k) b c g s = record { context = tt; row = s.row }
channel_true x (ChannelExtendedData a k d) b c g s = record { context = tt; row = s.row }
channel_true x (ChannelEof a) b c g s = record { context = tt; row = s.row }
channel_true x (ChannelClose a) b c g s = record { context = tt; row = s.row }
channel_true x (ChannelRequest a k d e) b c g s = record { context = tt; row = s.row }
channel_true x (ChannelSuccess a) b c g s = record { context = tt; row = s.row }
channel_true x (ChannelFailure a) b c g s = record { context = tt; row = s.row }
channel_true x m b c g s = absurd (cc g)

channel_other : (m : Msg) (c : Message) → on_channel m ≡ Some c → IsOtherMessage m
channel_other NewKeys c e = absurd (cc e)
channel_other m c e = tt

module _ {K : Type 0} (p : Parties K) where
  abbrev AllSound : List Done → Type 0
  AllSound run = (side : Side) → Sound p side (part side run)

  -- what is next after what was taken
  next : (run : List Done) → Given p run → (side : Side) (b : List ℕ) → WasSent p side b run → IsOlder (after_first (tagged b ∷ took (part side run))) (after_first (sent (part (peer side) run)))
  next run g Client b w = client_next p b _ _ (known p run g) w (kept p run g)
  next run g Server b w = (server_next p b _ _ (known p run g) w (kept p run g)).to_server

  keyed_above : (side : Side) (h : List Item) (x : Bool) (m : Msg) (b : List ℕ) → IsPayload x m b → 80 ≤ message_number m → may_take p side h (number_of b) ≡ true → 0 < epoch (took h)
  keyed_above side h x m b s n e =
      let f = taken_number x m b s in
      normal_keyed p side h (normal_above (phase p side h) _ side h (number_of b) (omega (arith, n, f)) e)

  next_reads : (h : List Item) (x : Bool) (m : Msg) (b : List ℕ) (c : Message) → AllFormed p h → on_channel m ≡ Some c → IsPayload x m b → 0 < epoch (took h)
      → Reads (after_first (tagged b ∷ took h)) (c ∷ row.received (channel_items h))
  next_reads h x m b c f e s k = go (epoch (took h)) k
    where
      here : Reads (OtherOf b ∷ after_first (took h)) (c ∷ row.received (channel_items h))
      here = reads (OtherOf b) m c (channel_true x m b c e s) e (taken_reads p h f)

      same : OtherOf b ≡ tagged b
      same = taken_other_tag x m b (channel_other m c e) s

      go : (n : ℕ) → 0 < n → Reads (from_epoch n (tagged b) (after_first (took h))) (c ∷ row.received (channel_items h))
      go zero z = absurd (omega (arith, z))
      go (suc n) z = subst (λ w. Reads (w ∷ after_first (took h)) (c ∷ row.received (channel_items h))) same here

  welcome : (run : List Done) → Given p run → AllSound run → row.PairRun (channel_run run) → (side : Side) (x : Bool) (m : Msg) (b : List ℕ) (c : Message) → on_channel m ≡ Some c → IsPayload x m b
      → may_take p side (part side run) (number_of b) ≡ true → WasSent p side b run → of_channels.Acceptable c (notes side (part side run))
  welcome run g v r side x m b c e s t w =
      let k = keyed_above side (part side run) x m b s (high_on_channel m c e) t in
      let o = older_reading _ _ _ _ (next run g side b w) (next_reads (part side run) x m b c (v side).formed e s k) (sent_reads p (part (peer side) run) (v (peer side)).formed) in
      let o' : IsOlder (c ∷ row.received (part side (channel_run run))) (row.sent (part (peer side) (channel_run run))) = rw (part_seen side run, part_seen (peer side) run) o in
      let q = not_refused (channel_run run) r (ordered p run g (λ y. (v y).formed)) side c o' in
      subst (λ l. of_channels.Acceptable c (channel.noted side l)) (part_seen side run) q

  -- the tags speak of the payload of a refusal
  refused_tag : (run : List Done) (side : Side) (items : List Item) (k : Refusal) (b : List ℕ) → Refuses (part side run) k (Some b) items → TagsHold p (done_by side items ++ run) → WasSent p side b run
  refused_tag run side items k b (silently e) t = t.0
  refused_tag run side items k b (spent e) t = t.0
  refused_tag run side items k b (said r x e f s) t = t.0

  given_items : (side : Side) (items : List Item) (run : List Done) → Given p (done_by side items ++ run) → Given p run
  given_items side [] run g = g
  given_items side (i ∷ items) run g = given_items side items run (given_tail p side i (done_by side items ++ run) g)

  payload_fine : (run : List Done) (side : Side) (items : List Item) (b : List ℕ) → OnPayload p side (part side run) b items → Given p (done_by side items ++ run) → AllSound run → row.PairRun (channel_run run)
      → AreFine items
  payload_fine run side items b (takes {items = l} c m w (of_transport a) s k) g v q = fine_following l _ (transport_fine p side _ m l a) tt
  payload_fine run side items b (takes {items = l} c m w (of_completion r a) s k) g v q = fine_following l _ (completion_fine p _ side _ m l a (replies_fine _ _ r)) tt
  payload_fine run side items b (takes {items = l} c m w (answered_by_authentication a) s k) g v q = fine_following l _ (authentication_fine p side _ m l a) tt
  payload_fine run side items b (takes {items = l} c m w (of_connection a) s k) g v q = fine_following l _ (connection_fine side _ c m l a) tt
  payload_fine run side items b (skips e m) g v q = tt
  payload_fine run side items b (unexpected m r) g v q = refuses_fine _ items Unexpected _ r tt
  payload_fine run side items b (bad_message m e f r) g v q = refuses_fine _ items BadMessage _ r tt
  payload_fine run side items b (refuses m k a e f c r) g v q =
      let t = refused_tag run side items k b r g.tags in
      refuses_fine _ items k _ r (first_other _ k (checks_other p side (part side run) m (λ y z. welcome run (given_items side items run g) v q side _ m b y z f a t)) c)
  payload_fine run side items b (spends c m w a s k) g v q = (tt, tt)

  line_refusal : (from : Bool) (n : ℕ) (k : Refusal) (unit : List ℕ) → LineUnit from n unit (RefusedLine k) → IsOtherRefusal k
  line_refusal from n k unit (LineUnit.line text l (LineIs.other_from_client a b)) = tt
  line_refusal from n k unit (LineUnit.line text l (LineIs.too_many_others a b c)) = tt
  line_refusal from n k unit (LineUnit.line text l (LineIs.no_minus a b c)) = tt
  line_refusal from n k unit (LineUnit.line text l (LineIs.bad_version a b c d)) = tt
  line_refusal from n k unit (LineUnit.line text l (LineIs.bad_software a b c d e)) = tt
  line_refusal from n k unit (LineUnit.zero_byte a b c d) = tt
  line_refusal from n k unit (LineUnit.lf_without_cr a b c d) = tt
  line_refusal from n k unit (LineUnit.cr_without_lf a b c d e f) = tt
  line_refusal from n k unit (LineUnit.too_long a b c d e) = tt

  refused_line_other : (st : Stage K) (k : Refusal) (unit : List ℕ) → IsUnit p.crypto st unit (RefusedLine k) → IsOtherRefusal k
  refused_line_other (Lines from n) k unit u = line_refusal from n k unit u
  refused_line_other (Packets key n l) k unit u = elim u [ ]

  packet_refusal : (key : Option K) (n l : ℕ) (k : Refusal) (unit : List ℕ) → PacketUnit p.crypto key n l unit (RefusedPacket k) → IsOtherRefusal k
  packet_refusal key n l k unit (PacketUnit.bad_length a) = tt
  packet_refusal key n l k unit (PacketUnit.spent a b c d) = tt
  packet_refusal key n l k unit (PacketUnit.bad_tag a b c) = tt
  packet_refusal key n l k unit (PacketUnit.bad_padding a b c) = tt

  refused_packet_other : (st : Stage K) (k : Refusal) (unit : List ℕ) → IsUnit p.crypto st unit (RefusedPacket k) → IsOtherRefusal k
  refused_packet_other (Lines from n) k unit (LineUnit.line text l i) = elim i [ ]
  refused_packet_other (Packets key n l) k unit u = packet_refusal key n l k unit u

  turn_fine : (run : List Done) (side : Side) (items : List Item) → Turn p side (part side run) items → Given p (done_by side items ++ run) → AllSound run → row.PairRun (channel_run run) → AreFine items
  turn_fine run side items (Turn.feeds c s (FeedsTurn.feeds k m)) g v q = tt
  turn_fine run side items (asks a (AsksTurn.refuses k alive e)) g v q = tt
  turn_fine run side items (asks a (AsksTurn.answers {items = l} alive c (of_transport o) s k)) g v q = fine_following l _ (transport_ask_fine p side _ l a o) tt
  turn_fine run side items (asks a (AsksTurn.answers {items = l} alive c (asked_of_authentication o) s k)) g v q = fine_following l _ (authentication_ask_fine p side _ l a o) tt
  turn_fine run side items (asks a (AsksTurn.answers {items = l} alive c (of_connection o) s k)) g v q = fine_following l _ (connection_ask_fine side _ l a o) tt
  turn_fine run side items (asks a (AsksTurn.spends alive c o s k)) g v q = (tt, tt)
  turn_fine run side items (Turn.reads unit alive (OnUnit.reads o u (other_line text))) g v q = tt
  turn_fine run side items (Turn.reads unit alive (OnUnit.reads o u (version_line text))) g v q = tt
  turn_fine run side items (Turn.reads unit alive (OnUnit.reads o u (refused_line k r))) g v q = refuses_fine _ items k _ r (refused_line_other (stage p side (part side run)) k unit u)
  turn_fine run side items (Turn.reads unit alive (OnUnit.reads o u (opened b x))) g v q = payload_fine run side items b x g v q
  turn_fine run side items (Turn.reads unit alive (OnUnit.reads o u (refused_packet k r))) g v q = refuses_fine _ items k _ r (refused_packet_other (stage p side (part side run)) k unit u)
  turn_fine run side items (Turn.reads unit alive (OnUnit.dies o u x k)) g v q = tt
  turn_fine run side items (asks a (AsksTurn.dies alive c o s k)) g v q = tt
  turn_fine run side items (asks a (AsksTurn.is_dead e)) g v q = tt
  turn_fine run side items (Turn.feeds c s (FeedsTurn.answers_false e)) g v q = tt

-- ---- whole runs

fine_none : (side : Side) (items : List Item) (run : List Done) → AreFine items → NoneRefused run → NoneRefused (done_by side items ++ run)
fine_none side [] run f n = n
fine_none side (Refused k b ∷ items) run f n = (f.0, fine_none side items run f.1 n)
fine_none side (i ∷ items) run f n = fine_none side items run f n

module _ {K : Type 0} (p : Parties K) (laws : AreLawful p) where
  opening_fine : (side : Side) (items : List Item) → IsOpening p side items → AreFine items
  opening_fine side items o = subst AreFine (sym o.items_are) tt

  none_refused : (run : List Done) → Run p run → Given p run → NoneRefused run
  none_refused run (start client server a b) g =
      fine_none Server server (done_by Client client) (opening_fine Server server b)
      (subst NoneRefused (append-nil (done_by Client client)) (fine_none Client client [] (opening_fine Client client a) tt))
  none_refused run (then_turn {run = r} {items = items} side before t) g =
      fine_none side items r (turn_fine p r side items t g (sounds p laws r before) (seen p laws r before)) (none_refused r before (given_items p side items r g))

  pub no_false_alarm_holds : BothOffer p → (run : List Done) → Run p run → IsHonest p run → NoFalseAlarm run
  no_false_alarm_holds offer run r h = record {
    unrefused = none_refused run r (given p laws offer run r h);
    in_order = λ side i.
        let d = data_in_order (channel_run run) (seen p laws run r) (all_ordered p laws offer run r h) side i in
        let P : List channel.Item → List channel.Item → Type 0 = λ a b. (rest : List (Option ℕ × List ℕ)) × (reverse (safe.data_received side i a) ++ rest ≡ reverse (safe.data_sent (peer side) i b)) in
        subst (λ a. P a (channel_items (part (peer side) run))) (part_seen side run) (subst (λ b. P (part side (channel_run run)) b) (part_seen (peer side) run) d);
    partners = partners_hold p laws offer run r h;
  }
