-- Turns of the transport alone are turns of an end.
use Rattle.std.proofs.Common.{◌≡◌, ℕ, List, [], ◌∷◌, ◌++◌, refl, sym, subst, true, false, Option, None, append-nil}
use Rattle.ssh_model.specs.declared.side.Side.{Side}
use Rattle.ssh_model.specs.declared.side.Side.TheVariants.{Client, Server}
use Rattle.ssh_model.specs.Protocol.Wire.Message.{Msg, Msg.NewKeys, Msg.ServiceAccept, Msg.ExtInfo, Msg.KexEcdhInit, Msg.KexEcdhReply, Msg.UserauthRequest, Msg.UserauthFailure, Msg.UserauthSuccess, Msg.UserauthPkOk, Msg.GlobalRequest, Msg.RequestSuccess, Msg.RequestFailure, Msg.ChannelOpen, Msg.ChannelOpenConfirmation, Msg.ChannelOpenFailure, Msg.ChannelWindowAdjust, Msg.ChannelData, Msg.ChannelExtendedData, Msg.ChannelEof, Msg.ChannelClose, Msg.ChannelRequest, Msg.ChannelSuccess, Msg.ChannelFailure}
use Rattle.ssh_model.specs.Protocol.Wire.Outcome.{Outcome.OtherLine, Outcome.VersionLine, Outcome.RefusedLine, Outcome.Opens, Outcome.RefusedPacket}
use Rattle.ssh_model.specs.Protocol.Wire.Unit.{IsUnit}
use Rattle.ssh_model.specs.declared.refusal.Refusal.{Refusal}
use Rattle.ssh_model.specs.Protocol.Sessions.Parties.{Parties}
use Rattle.ssh_model.specs.Protocol.Sessions.Items.{Ask, Fact.Completed, Item, Item.Sent, Item.Took, Item.Told, Item.TookLine, Item.TookOtherLine, Item.Died, messages_sent}
use Rattle.ssh_model.specs.Protocol.Sessions.Events.{PutsOut, PutsOut.other as put_other}
use Rattle.ssh_model.specs.Protocol.Sessions.Transport.{CompletingAnswer}
use Rattle.ssh_model.specs.Protocol.Sessions.Transport as transport_row
use Rattle.ssh_model.specs.Protocol.Sessions.Turns as session
use Rattle.ssh_model.specs.Protocol.Sessions.Turns.{AsksTurn, OnPayload, OnUnit, stage}
use Rattle.ssh_model.specs.State.Authentication.Kept as kept
use Rattle.ssh_model.specs.State.Authentication.Summary.{ClientSumsUp}
use Rattle.ssh_model.specs.Protocol.Channels.Connection.{AreReplies, owed_replies}
use Rattle.ssh_model.specs.State.Channels.Kept.{Channels}
use Rattle.ssh_model.specs.State.Channels.Summary.{IsNotConnection}
use Rattle.ssh_model.specs.State.TransportLayer.Kept.{Transport}
use Rattle.ssh_model.specs.State.TransportLayer.Summary as layer
use Rattle.ssh_model.specs.State.TransportLayer.Turns.{AskTurned, EndedBy, PutsPackets, Turned, UnitRefused}
use Rattle.ssh_model.specs.State.End.State.{Authentication, Authentication.OfServer, Authentication.OfClient, EndState, after_items}
use Rattle.ssh_model.specs.State.End.Summary.{AuthenticationSumsUp, AboveSumsUp, EndSumsUp, EndTurned, ServerKeeps}
use Rattle.ssh_model.specs.State.End.Payloads.{GivesOwed}
use Rattle.ssh_model.specs.State.End.Below.{AreBelow, IsBelow, opened_by, opened_by_all}
use Rattle.ssh_model.proofs.Authentication.Rows.{client_kept, client_opened, server_kept, server_opened}
use Rattle.ssh_model.proofs.WholeEnd.Ending.{all_given, close_turned}
use Rattle.ssh_model.proofs.WholeEnd.Payloads.{Following, add, add_newkeys, left, started}
use Rattle.ssh_model.proofs.WholeEnd.Kept.{Off, authentication_kept, channels_one}
use Rattle.ssh_model.proofs.WholeEnd.Owed.{given}

-- ---- one item

not_connection : (m : Msg) → layer.IsTransportMessage m → IsNotConnection m
not_connection (GlobalRequest name want rest) l = elim l [ ]
not_connection (RequestSuccess rest) l = elim l [ ]
not_connection RequestFailure l = elim l [ ]
not_connection (ChannelOpen kind sender window most rest) l = elim l [ ]
not_connection (ChannelOpenConfirmation recipient sender window most rest) l = elim l [ ]
not_connection (ChannelOpenFailure recipient reason description language) l = elim l [ ]
not_connection (ChannelWindowAdjust recipient bytes) l = elim l [ ]
not_connection (ChannelData recipient body) l = elim l [ ]
not_connection (ChannelExtendedData recipient kind body) l = elim l [ ]
not_connection (ChannelEof recipient) l = elim l [ ]
not_connection (ChannelClose recipient) l = elim l [ ]
not_connection (ChannelRequest recipient name want rest) l = elim l [ ]
not_connection (ChannelSuccess recipient) l = elim l [ ]
not_connection (ChannelFailure recipient) l = elim l [ ]
not_connection m l = tt

sent_off : (c : Option ℕ) (m : Msg) (b : List ℕ) → IsBelow (Sent c m b) → Off (Sent c m b)
sent_off c NewKeys b l = elim l [ ]
sent_off c m b l = record { channels = not_connection m l; owed = tt }

below_off : (i : Item) → IsBelow i → Off i
below_off (Sent c m b) l = sent_off c m b l
below_off (Took c m b) l = record { channels = not_connection m l; owed = tt }
below_off i l = record { channels = tt; owed = tt }

at_server : (h : List Item) (server : kept.Server) (i : Item) → IsBelow i → ServerKeeps h server → AuthenticationSumsUp Server (i ∷ h) (opened_by i (OfServer server))
at_server h server (Sent c (ServiceAccept service) b) l has = record { sums = server_opened h server c service b has.sums; none_made = has.none_made }
at_server h server (Sent c (UserauthRequest user service how) b) l has = elim l [ ]
at_server h server (Sent c (UserauthFailure methods partial) b) l has = elim l [ ]
at_server h server (Sent c UserauthSuccess b) l has = elim l [ ]
at_server h server (Sent c m b) l has = authentication_kept Server h (OfServer server) (Sent c m b) tt tt has
at_server h server (Took c (ServiceAccept service) b) l has = record { sums = server_kept h server (Took c (ServiceAccept service) b) tt has.sums; none_made = has.none_made }
at_server h server (Took c (UserauthFailure methods partial) b) l has = elim l [ ]
at_server h server (Took c UserauthSuccess b) l has = elim l [ ]
at_server h server (Took c (UserauthPkOk algorithm key) b) l has = elim l [ ]
at_server h server (Took c m b) l has = authentication_kept Server h (OfServer server) (Took c m b) tt tt has
at_server h server i l has = authentication_kept Server h (OfServer server) i tt tt has

at_client : (h : List Item) (client : kept.Client) (i : Item) → IsBelow i → ClientSumsUp h client → AuthenticationSumsUp Client (i ∷ h) (opened_by i (OfClient client))
at_client h client (Sent c (UserauthRequest user service how) b) l has = elim l [ ]
at_client h client (Sent c m b) l has = client_kept h client (Sent c m b) tt has
at_client h client (Took c (ServiceAccept service) b) l has = client_opened h client c service b has
at_client h client (Took c (UserauthFailure methods partial) b) l has = elim l [ ]
at_client h client (Took c UserauthSuccess b) l has = elim l [ ]
at_client h client (Took c (UserauthPkOk algorithm key) b) l has = elim l [ ]
at_client h client (Took c m b) l has = client_kept h client (Took c m b) tt has
at_client h client i l has = client_kept h client i tt has

one_below : (side : Side) (h : List Item) (a : Authentication) (i : Item) → IsBelow i → AuthenticationSumsUp side h a → AuthenticationSumsUp side (i ∷ h) (opened_by i a)
one_below Server h (OfServer server) i l has = at_server h server i l has
one_below Client h (OfClient client) i l has = at_client h client i l has
one_below Server h (OfClient client) i l has = elim has [ ]
one_below Client h (OfServer server) i l has = elim has [ ]

pub all_below : (side : Side) (h : List Item) (a : Authentication) (c : Channels) (l : List Item) → AreBelow l → AboveSumsUp side h a c → AboveSumsUp side (l ++ h) (opened_by_all l a) c
all_below side h a c [] n has = has
all_below side h a c (i ∷ l) n has =
    let r = all_below side h a c l n.1 has in
    record {
      authentication_sums = one_below side (l ++ h) (opened_by_all l a) i n.0 r.authentication_sums;
      channels_sum = channels_one side (l ++ h) c i (below_off i n.0) r.channels_sum;
      few_owed = r.few_owed;
    }

-- ---- the turns

module _ {K : Type 0} (p : Parties K) (side : Side) (h : List Item) (e : EndState K) (sums : EndSumsUp p side h e) (alive : e.transport.dead ≡ false) where
  pub payload_below : (payload : List ℕ) (items : List Item) (more : List ℕ) (s : Transport K) → AreBelow items → Turned p side h payload items more s →
      EndTurned p side h (OnPayload p side h payload) items more (record e { transport = s; authentication = opened_by_all items e.authentication })
  payload_below payload items more s n t = record {
    turn = t.turn;
    sums = record { transport = t.sums; above = λ z. all_below side h e.authentication e.channels items n (sums.above alive) };
    puts = t.puts;
  }

  pub payload_over : (payload : List ℕ) (items : List Item) (more : List ℕ) (new : EndState K) → Turned p side h payload items more new.transport → new.transport.dead ≡ true → EndTurned p side h (OnPayload p side h payload) items more new
  payload_over payload items more new t d = record { turn = t.turn; sums = record { transport = t.sums; above = λ z. absurd (cc (z, d)) }; puts = t.puts }

  pub ask_below : (ask : Ask) (items : List Item) (more : List ℕ) (s : Transport K) → AreBelow items → AskTurned p side h ask items more s →
      EndTurned p side h (AsksTurn p side h ask) items more (record e { transport = s; authentication = opened_by_all items e.authentication })
  ask_below ask items more s n t = record {
    turn = t.turn;
    sums = record { transport = t.sums; above = λ z. all_below side h e.authentication e.channels items n (sums.above alive) };
    puts = t.puts;
  }

  pub ask_over : (ask : Ask) (items : List Item) (more : List ℕ) (new : EndState K) → AskTurned p side h ask items more new.transport → new.transport.dead ≡ true → EndTurned p side h (AsksTurn p side h ask) items more new
  ask_over ask items more new t d = record { turn = t.turn; sums = record { transport = t.sums; above = λ z. absurd (cc (z, d)) }; puts = t.puts }

  -- ---- units

  pub unit_opened : (unit payload : List ℕ) (items : List Item) (more : List ℕ) (new : EndState K) → IsUnit p.crypto (stage p side h) unit (Opens payload) → EndTurned p side h (OnPayload p side h payload) items more new → EndTurned p side h (OnUnit p side h unit) items more new
  unit_opened unit payload items more new u t = record { turn = session.OnUnit.reads (Opens payload) u (session.OnOutcome.opened payload t.turn); sums = t.sums; puts = t.puts }

  over : (items : List Item) (new : EndState K) → layer.SumsUp p side items new.transport → new.transport.dead ≡ true → EndSumsUp p side items new
  over items new t d = record { transport = t; above = λ z. absurd (cc (z, d)) }

  pub packet_over : (unit : List ℕ) (why : Refusal) (items : List Item) (more : List ℕ) (new : EndState K) → IsUnit p.crypto (stage p side h) unit (RefusedPacket why) → UnitRefused p side h items why more new.transport → new.transport.dead ≡ true → EndTurned p side h (OnUnit p side h unit) items more new
  packet_over unit why items more new u r d = record { turn = session.OnUnit.reads (RefusedPacket why) u (session.OnOutcome.refused_packet why r.refuses); sums = over (items ++ h) new r.sums d; puts = r.puts }

  pub line_over : (unit : List ℕ) (why : Refusal) (items : List Item) (more : List ℕ) (new : EndState K) → IsUnit p.crypto (stage p side h) unit (RefusedLine why) → UnitRefused p side h items why more new.transport → new.transport.dead ≡ true → EndTurned p side h (OnUnit p side h unit) items more new
  line_over unit why items more new u r d = record { turn = session.OnUnit.reads (RefusedLine why) u (session.OnOutcome.refused_line why r.refuses); sums = over (items ++ h) new r.sums d; puts = r.puts }

  silent : (i : Item) (bytes : List ℕ) → PutsOut p side (i ∷ h) bytes → PutsOut p side (i ∷ h) (bytes ++ [])
  silent i bytes z = subst (λ (t : List ℕ). PutsOut p side (i ∷ h) t) (sym (append-nil bytes)) z

  pub version_taken : (unit line : List ℕ) (s : Transport K) → IsUnit p.crypto (stage p side h) unit (VersionLine line) → layer.SumsUp p side (TookLine line ∷ h) s → EndTurned p side h (OnUnit p side h unit) (TookLine line ∷ []) [] (record e { transport = s })
  version_taken unit line s u t = record {
    turn = session.OnUnit.reads (VersionLine line) u (session.OnOutcome.version_line line);
    sums = record { transport = t; above = λ z. all_below side h e.authentication e.channels (TookLine line ∷ []) (tt, tt) (sums.above alive) };
    puts = λ bytes z. silent (TookLine line) bytes (put_other (TookLine line) tt z);
  }

  pub other_taken : (unit line : List ℕ) (s : Transport K) → IsUnit p.crypto (stage p side h) unit (OtherLine line) → layer.SumsUp p side (TookOtherLine line ∷ h) s → EndTurned p side h (OnUnit p side h unit) (TookOtherLine line ∷ []) [] (record e { transport = s })
  other_taken unit line s u t = record {
    turn = session.OnUnit.reads (OtherLine line) u (session.OnOutcome.other_line line);
    sums = record { transport = t; above = λ z. all_below side h e.authentication e.channels (TookOtherLine line ∷ []) (tt, tt) (sums.above alive) };
    puts = λ bytes z. silent (TookOtherLine line) bytes (put_other (TookOtherLine line) tt z);
  }

-- ---- deaths

module _ {K : Type 0} (p : Parties K) (side : Side) (h : List Item) where
  died : (new : EndState K) → new.transport.dead ≡ true → EndSumsUp p side (Died ∷ h) new
  died new d = record { transport = record { dead_is = d; live = λ z. absurd (cc (z, d)) }; above = λ z. absurd (cc (z, d)) }

  died_out : (bytes : List ℕ) → PutsOut p side h bytes → PutsOut p side (Died ∷ h) (bytes ++ [])
  died_out bytes z = subst (λ (t : List ℕ). PutsOut p side (Died ∷ h) t) (sym (append-nil bytes)) (put_other Died tt z)

  pub unit_died : (unit : List ℕ) (new : EndState K) → OnUnit p side h unit (Died ∷ []) → new.transport.dead ≡ true → EndTurned p side h (OnUnit p side h unit) (Died ∷ []) [] new
  unit_died unit new t d = record { turn = t; sums = died new d; puts = died_out }

  pub ask_died : (ask : Ask) (new : EndState K) → AsksTurn p side h ask (Died ∷ []) → new.transport.dead ≡ true → EndTurned p side h (AsksTurn p side h ask) (Died ∷ []) [] new
  ask_died ask new t d = record { turn = t; sums = died new d; puts = died_out }

-- ---- the end of an exchange

following_ended : {K : Type 0} (p : Parties K) (side : Side) (h : List Item) (a : Authentication) (n : Channels) (has : AboveSumsUp side h a n) (m : Msg) (payload : List ℕ) (position : ℕ) (items : List Item) → CompletingAnswer p [] side h m (Told (Completed position) ∷ items) →
    Following side (items ++ (Took None m payload ∷ h)) (owed_replies side h) a n
following_ended p side h a n has m payload position items (transport_row.CompletingAnswer.init q_c reply newkeys (transport_row.IsAnnounced.extensions ext f)) =
    let x = add side h a n has _ (Sent None (ExtInfo _) ext) (left _ tt tt tt tt) (add_newkeys side h a n has _ newkeys (add side h a n has _ (Sent None (KexEcdhReply _ _ _) reply) (left _ tt tt tt tt) (add side h a n has h (Took None (KexEcdhInit q_c) payload) (left _ tt tt tt tt) (started side h a n has)))) in
    record { authentication = x.0; channels_sum = x.1; none = refl }
following_ended p side h a n has m payload position items (transport_row.CompletingAnswer.init q_c reply newkeys (transport_row.IsAnnounced.nothing f)) =
    let x = add_newkeys side h a n has _ newkeys (add side h a n has _ (Sent None (KexEcdhReply _ _ _) reply) (left _ tt tt tt tt) (add side h a n has h (Took None (KexEcdhInit q_c) payload) (left _ tt tt tt tt) (started side h a n has))) in
    record { authentication = x.0; channels_sum = x.1; none = refl }
following_ended p side h a n has m payload position items (transport_row.CompletingAnswer.reply k_s q_s signature newkeys (transport_row.IsAnnounced.extensions ext f)) =
    let x = add side h a n has _ (Sent None (ExtInfo _) ext) (left _ tt tt tt tt) (add_newkeys side h a n has _ newkeys (add side h a n has h (Took None (KexEcdhReply k_s q_s signature) payload) (left _ tt tt tt tt) (started side h a n has))) in
    record { authentication = x.0; channels_sum = x.1; none = refl }
following_ended p side h a n has m payload position items (transport_row.CompletingAnswer.reply k_s q_s signature newkeys (transport_row.IsAnnounced.nothing f)) =
    let x = add_newkeys side h a n has _ newkeys (add side h a n has h (Took None (KexEcdhReply k_s q_s signature) payload) (left _ tt tt tt tt) (started side h a n has)) in
    record { authentication = x.0; channels_sum = x.1; none = refl }

module _ {K : Type 0} (p : Parties K) (side : Side) (h : List Item) (e : EndState K) (sums : EndSumsUp p side h e) (alive : e.transport.dead ≡ false) where
  pub exchange_ended : (m : Msg) (payload : List ℕ) (position : ℕ) (items : List Item) (more later : List ℕ) (s : Transport K) (owed : List Item) (n : Channels) → EndedBy p side h m payload position items more s → s.dead ≡ false →
      GivesOwed e.channels owed n → n.owed ≡ [] → PutsPackets p.crypto s.sending (messages_sent owed) later →
      EndTurned p side h (OnPayload p side h payload) ((Told (Completed position) ∷ (owed ++ items)) ++ Took None m payload ∷ []) (more ++ later) (record e { transport = after_items side owed s; channels = n })
  exchange_ended m payload position items more later s owed n by lives o none w =
      close_turned p side h e sums alive m payload position items more later s owed n by lives (following_ended p side h e.authentication e.channels (sums.above alive) m payload position items (by.answer [])) o none w

  -- what is given is what a session owes
  pub replies_given : (owed : List Item) (n : Channels) → GivesOwed e.channels owed n → n.owed ≡ [] → AreReplies (owed_replies side h) owed
  replies_given owed n o none =
      let above = sums.above alive in
      all_given side h (owed_replies side h) e.authentication owed n (given side h (owed_replies side h) e.authentication e.channels above.channels_sum above.authentication_sums owed n o) none
