-- What an end makes of a payload, by what it keeps, is a turn of a session.
use Rattle.std.proofs.Common.{◌≡◌, ℕ, ◌^◌, ◌≤◌, List, [], ◌∷◌, ◌++◌, length, refl, sym, ◌∙◌, subst, Bool, true, false, Option, Some, None, append-nil, append_assoc}
use Rattle.ssh_model.specs.declared.side.Side.{Side}
use Rattle.ssh_model.specs.declared.side.Side.TheVariants.{Client, Server}
use Rattle.ssh_model.specs.Protocol.Wire.Message.{Msg, Msg.ServiceRequest, Msg.ServiceAccept, Msg.NewKeys, Msg.KexInit, Msg.KexEcdhInit, Msg.KexEcdhReply, Msg.ExtInfo, Msg.Ignore, Msg.Debug, Msg.Unimplemented, Msg.Unknown, IsPayload}
use Rattle.ssh_model.specs.Protocol.KeyExchange.Choice.{Chosen}
use Rattle.ssh_model.specs.declared.refusal.Refusal.{Refusal}
use Rattle.ssh_model.specs.declared.refusal.Refusal.TheVariants.{NumberSpent}
use Rattle.ssh_model.specs.Protocol.Sessions.Refusals.{first_refusal}
use Rattle.ssh_model.specs.Protocol.Sessions.Parties.{Agreement, Parties}
use Rattle.ssh_model.specs.Protocol.Sessions.Items.{Fact.Service, Item, Item.Sent, Item.Took, Item.Told, Item.Refused, Item.Died, Encoded, messages_sent, has_died}
use Rattle.ssh_model.specs.Protocol.Sessions.Events.{PutsOut, PutsOut.other as put_other}
use Rattle.ssh_model.specs.Protocol.Sessions.Turns as session
use Rattle.ssh_model.specs.Protocol.Sessions.Turns.{AreNumbered, AreEncoded, OnPayload, number_of}
use Rattle.ssh_model.specs.Protocol.Channels.Connection.{owed_replies}
use Rattle.ssh_model.specs.Protocol.Channels.History as channel
use Rattle.ssh_model.specs.State.Channels.Kept.{Channels}
use Rattle.ssh_model.specs.State.Authentication.Summary.{LeavesServer, LeavesClient}
use Rattle.ssh_model.specs.Protocol.Wire.Sealing.{Crypto}
use Rattle.ssh_model.specs.State.Channels.Summary.{pending, LeavesChannels, IsNoNewkeys}
use Rattle.ssh_model.specs.State.Channels.Summary as channels
use Rattle.ssh_model.specs.State.TransportLayer.Kept.{Answered, Completes, Takes, Transport}
use Rattle.ssh_model.specs.State.TransportLayer.Kept as kept
use Rattle.ssh_model.specs.State.TransportLayer.Summary.{answer_items, items_sent}
use Rattle.ssh_model.specs.State.TransportLayer.Turns.{PutsPackets, SaysWhy, Turned, refusal_items}
use Rattle.ssh_model.specs.State.End.State.{Authentication, Authentication.OfServer, Authentication.OfClient, EndState, above_checks, after_above, after_items, after_service}
use Rattle.ssh_model.specs.State.End.Summary.{AuthenticationSumsUp, AboveSumsUp, EndSumsUp, EndTurned}
use Rattle.ssh_model.specs.State.End.Payloads.{Admits, AnswersAbove, GivesOwed, ReadsAbove, RefusesAbove, TakesPayload}
use Rattle.ssh_model.specs.State.End.Payloads as end
use Rattle.ssh_model.proofs.Authentication.Rows.{server_kept, client_kept, server_opened, client_opened}
use Rattle.ssh_model.proofs.Channels.Elsewhere.{kept_elsewhere}
use Rattle.ssh_model.proofs.TransportLayer.Packets.{stands_live, stands_taken}
use Rattle.ssh_model.proofs.TransportLayer.Turning.{said_out, said_so}
use Rattle.ssh_model.proofs.WholeEnd.Above.{checks_above, no_guess, numbers_above, probing_now, read_now, welcomed_above}
use Rattle.ssh_model.proofs.WholeEnd.Answers.{answered_above}
use Rattle.ssh_model.proofs.WholeEnd.Kept.{Leaves, above_taken, all_kept, authentication_kept, channels_kept, upper}
use Rattle.ssh_model.proofs.WholeEnd.Out.{answers_out, none_left}

module _ {K : Type 0} (p : Parties K) (side : Side) (h : List Item) where
  -- what a dead end keeps
  pub dead_sums : (items : List Item) (new : EndState K) → new.transport.dead ≡ true → has_died (items ++ h) ≡ true → EndSumsUp p side (items ++ h) new
  dead_sums items new d died = record { transport = record { dead_is = d ∙ sym died; live = λ z. absurd (cc (z, d)) }; above = λ z. absurd (cc (z, d)) }

module _ {K : Type 0} (p : Parties K) (side : Side) (h : List Item) (e : EndState K) (sums : EndSumsUp p side h e) (alive : e.transport.dead ≡ false) where
  abbrev ByPayload : List ℕ → List Item → List ℕ → EndState K → Type 0
  ByPayload payload items more new = EndTurned p side h (OnPayload p side h payload) items more new

  following : (l : List Item) (i : Item) → (l ++ i ∷ []) ++ h ≡ l ++ (i ∷ h)
  following l i = append_assoc l (i ∷ []) h

  -- ---- from 50 on

  pub above_turned : (m : Msg) (payload : List ℕ) (c : Option ℕ) (items : List Item) (more : List ℕ) (a : Authentication) (n : Channels) → ReadsAbove e m payload → first_refusal (above_checks p e m) ≡ None → AnswersAbove p e m c items a n → PutsPackets p.crypto e.transport.sending (messages_sent items) more →
      ByPayload payload (items ++ Took c m payload ∷ []) more (record { transport = after_items side items (after_above side m e.transport); authentication = a; channels = n })
  above_turned m payload c items more a n r fine x y =
      let v = answered_above p side h e sums alive m payload c items a n r fine x in
      let live = sums.transport.live alive in
      let g : List Item = Took c m payload ∷ h in
      let o = answers_out p side g e.transport.sending (stands_taken p side h c m payload e.transport.sending v.no_offer (stands_live p side h e.transport live)) live.counts.opened items more v.answers y in
      let new : EndState K = record { transport = after_items side items (after_above side m e.transport); authentication = a; channels = n } in
      record {
        turn = session.OnPayload.takes c m (welcomed_above p side h e sums alive m payload r fine) v.answer o.out.encoded o.out.numbered;
        sums = subst (λ (l : List Item). EndSumsUp p side l new) (sym (following items (Took c m payload)))
            (record { transport = upper p side g (after_above side m e.transport) items v.upper (above_taken p side h e.transport c m payload v.taken sums.transport); above = λ z. v.above });
        puts = λ bytes z. subst (λ (l : List Item). PutsOut p side l (bytes ++ more)) (sym (following items (Took c m payload))) (o.out.puts bytes (put_other (Took c m payload) tt z));
      }

  pub refused_so : (payload : List ℕ) (why : Refusal) (l : List Item) → RefusesAbove p e payload why → session.Refuses h why (Some payload) l → OnPayload p side h payload l
  refused_so payload why l (end.RefusesAbove.unexpected from normal off) x = session.OnPayload.unexpected (numbers_above p side h e sums alive (number_of payload) from normal ∙ off) x
  refused_so payload why l (end.RefusesAbove.bad_message from normal on none) x =
      session.OnPayload.bad_message (numbers_above p side h e sums alive (number_of payload) from normal ∙ on) (no_guess p side h e sums alive normal) (λ m y. none m (subst (λ (b : Bool). IsPayload b m payload) (probing_now p side h e sums alive) y)) x
  refused_so payload why l (end.RefusesAbove.refused m why2 r y) x =
      session.OnPayload.refuses m why2 (numbers_above p side h e sums alive (number_of payload) r.above r.normal ∙ r.taken) (no_guess p side h e sums alive r.normal) (read_now p side h e sums alive m payload r) (checks_above p side h e sums alive m payload r ∙ y) x

  pub refused_turned : (payload : List ℕ) (why : Refusal) (l : List Encoded) (more : List ℕ) (new : EndState K) → RefusesAbove p e payload why → SaysWhy p.crypto e.transport why l more → new.transport.dead ≡ true → ByPayload payload (refusal_items why (Some payload) l) more new
  refused_turned payload why l more new r x d = record {
    turn = refused_so payload why (refusal_items why (Some payload) l) r (said_so p side h e.transport sums.transport alive why (Some payload) l more x);
    sums = dead_sums p side h (refusal_items why (Some payload) l) new d refl;
    puts = said_out p side h e.transport sums.transport alive why (Some payload) l more x;
  }

  -- ---- numbers that are spent

  silent : (payload : List ℕ) (bytes : List ℕ) → PutsOut p side h bytes → PutsOut p side (Died ∷ Refused NumberSpent (Some payload) ∷ h) (bytes ++ [])
  silent payload bytes z = subst (λ (t : List ℕ). PutsOut p side (Died ∷ Refused NumberSpent (Some payload) ∷ h) t) (sym (append-nil bytes)) (put_other Died tt (put_other (Refused NumberSpent (Some payload)) tt z))

  pub spent_turned : (m : Msg) (payload : List ℕ) (c : Option ℕ) (items : List Item) (a : Authentication) (n : Channels) (new : EndState K) → ReadsAbove e m payload → first_refusal (above_checks p e m) ≡ None → AnswersAbove p e m c items a n → AreEncoded items →
      1 ≤ length (messages_sent items) → e.transport.sending.count ≡ 2 ^ 32 → new.transport.dead ≡ true → ByPayload payload (Died ∷ Refused NumberSpent (Some payload) ∷ []) [] new
  spent_turned m payload c items a n new r fine x encoded one all d =
      let v = answered_above p side h e sums alive m payload c items a n r fine x in
      let g : List Item = Took c m payload ∷ h in
      let st = stands_taken p side h c m payload e.transport.sending v.no_offer (stands_live p side h e.transport (sums.transport.live alive)) in
      record {
        turn = session.OnPayload.spends c m (welcomed_above p side h e sums alive m payload r fine) v.answer encoded (none_left g items v.answers one (sym st.sums.count_is ∙ all));
        sums = dead_sums p side h (Died ∷ Refused NumberSpent (Some payload) ∷ []) new d refl;
        puts = silent payload;
      }

  -- ---- below 50

  pub of_turned : (payload : List ℕ) (items : List Item) (more : List ℕ) (new : EndState K) → Turned p side h payload items more new.transport → (new.transport.dead ≡ false → AboveSumsUp side (items ++ h) new.authentication new.channels) → ByPayload payload items more new
  of_turned payload items more new t above = record { turn = t.turn; sums = record { transport = t.sums; above = above }; puts = t.puts }

-- ---- what messages of the transport make of the layers above

pub left : (i : Item) → LeavesServer i → LeavesClient i → LeavesChannels i → IsNoNewkeys i → Leaves i
left i a b c d = record { server = a; client = b; channels = c; owed = d }

opened_at : (side : Side) (h : List Item) (a : Authentication) (n : Channels) (service payload reply : List ℕ) → side ≡ Server → AboveSumsUp side h a n →
    AboveSumsUp side (Sent None (ServiceAccept service) reply ∷ Took None (ServiceRequest service) payload ∷ h) (after_service (ServiceRequest service) a) n
opened_at Server h (OfServer server) n service payload reply is has = record {
  authentication_sums = record {
    sums = server_opened (Took None (ServiceRequest service) payload ∷ h) server None service reply (server_kept h server (Took None (ServiceRequest service) payload) tt has.authentication_sums.sums);
    none_made = has.authentication_sums.none_made;
  };
  channels_sum = channels_kept Server h n (Sent None (ServiceAccept service) reply ∷ Took None (ServiceRequest service) payload ∷ []) (record { channels = tt; owed = tt }, (record { channels = tt; owed = tt }, tt)) has.channels_sum;
  few_owed = has.few_owed;
}
opened_at Server h (OfClient client) n service payload reply is has = elim has.authentication_sums [ ]
opened_at Client h a n service payload reply is has = absurd (cc is)

accepted_at : (side : Side) (h : List Item) (a : Authentication) (n : Channels) (service payload : List ℕ) → side ≡ Client → AboveSumsUp side h a n →
    AboveSumsUp side (Told Service ∷ Took None (ServiceAccept service) payload ∷ h) (after_service (ServiceAccept service) a) n
accepted_at Client h (OfClient client) n service payload is has = record {
  authentication_sums = client_kept (Took None (ServiceAccept service) payload ∷ h) _ (Told Service) tt (client_opened h client None service payload has.authentication_sums);
  channels_sum = channels_kept Client h n (Told Service ∷ Took None (ServiceAccept service) payload ∷ []) (record { channels = tt; owed = tt }, (record { channels = tt; owed = tt }, tt)) has.channels_sum;
  few_owed = has.few_owed;
}
accepted_at Client h (OfServer server) n service payload is has = elim has.authentication_sums [ ]
accepted_at Server h a n service payload is has = absurd (cc is)

pub rows_above : {K : Type 0} (agreement : Agreement) (side : Side) (h : List Item) (s : Transport K) (a : Authentication) (n : Channels) (payload : List ℕ) (m : Msg) (answered : Answered) (new : Transport K) → s.side ≡ side → AboveSumsUp side h a n →
    Takes agreement s payload m answered new → AboveSumsUp side ((answer_items answered ++ Took None m payload ∷ []) ++ h) (after_service m a) n
rows_above agreement side h s a n payload m answered new is has (kept.Takes.ignore body) = all_kept side h a n (Told _ ∷ Took None (Ignore body) payload ∷ []) (left _ tt tt tt tt, (left _ tt tt tt tt, tt)) has
rows_above agreement side h s a n payload m answered new is has (kept.Takes.unimplemented number) = all_kept side h a n (Told _ ∷ Took None (Unimplemented number) payload ∷ []) (left _ tt tt tt tt, (left _ tt tt tt tt, tt)) has
rows_above agreement side h s a n payload m answered new is has (kept.Takes.debug display text language) = all_kept side h a n (Told _ ∷ Took None (Debug display text language) payload ∷ []) (left _ tt tt tt tt, (left _ tt tt tt tt, tt)) has
rows_above agreement side h s a n payload m answered new is has (kept.Takes.extensions announced) = all_kept side h a n (Told _ ∷ Took None (ExtInfo announced) payload ∷ []) (left _ tt tt tt tt, (left _ tt tt tt tt, tt)) has
rows_above agreement side h s a n payload m answered new is has (kept.Takes.unknown number reply few) = all_kept side h a n (Sent None (Unimplemented s.taking.number) reply ∷ Took None (Unknown number) payload ∷ []) (left _ tt tt tt tt, (left _ tt tt tt tt, tt)) has
rows_above agreement side h s a n payload m answered new is has (kept.Takes.service_request service reply e) = opened_at side h a n service payload reply (sym is ∙ e) has
rows_above agreement side h s a n payload m answered new is has (kept.Takes.service_accept service e) = accepted_at side h a n service payload (sym is ∙ e) has
rows_above agreement side h s a n payload m answered new is has (kept.Takes.kexinit_at_server theirs e between read shut) = all_kept side h a n (Took None (KexInit theirs) payload ∷ []) (left _ tt tt tt tt, tt) has
rows_above agreement side h s a n payload m answered new is has (kept.Takes.kexinit_at_client theirs init e between read shut) = all_kept side h a n (Sent None (KexEcdhInit _) init ∷ Took None (KexInit theirs) payload ∷ []) (left _ tt tt tt tt, (left _ tt tt tt tt, tt)) has
rows_above agreement side h s a n payload m answered new is has (kept.Takes.answered_at_server theirs own material e between read free has_one) = all_kept side h a n (Sent None (KexInit _) own ∷ Took None (KexInit theirs) payload ∷ []) (left _ tt tt tt tt, (left _ tt tt tt tt, tt)) has
rows_above agreement side h s a n payload m answered new is has (kept.Takes.answered_at_client theirs own init material e between read free has_one) =
    all_kept side h a n (Sent None (KexEcdhInit _) init ∷ Sent None (KexInit _) own ∷ Took None (KexInit theirs) payload ∷ []) (left _ tt tt tt tt, (left _ tt tt tt tt, (left _ tt tt tt tt, tt))) has
rows_above agreement side h s a n payload m answered new is has (kept.Takes.newkeys key here has_one) = all_kept side h a n (Took None NewKeys payload ∷ []) (left _ tt tt tt tt, tt) has

-- ---- the end of an exchange

-- What the layers above keep right after NEWKEYS and what is announced: nothing is owed by the history, and what was owed
-- before still waits.
pub record Following (side : Side) (g : List Item) (waiting : List channel.Item) (a : Authentication) (n : Channels) : Type 0 where
  pub authentication : AuthenticationSumsUp side g a
  pub channels_sum : channels.SumsUp side g waiting n
  pub none : owed_replies side g ≡ []

module _ (side : Side) (h : List Item) (a : Authentication) (n : Channels) (has : AboveSumsUp side h a n) where
  pub add : (g : List Item) (i : Item) → Leaves i → AuthenticationSumsUp side g a × channels.SumsUp side g (owed_replies side h) n → AuthenticationSumsUp side (i ∷ g) a × channels.SumsUp side (i ∷ g) (owed_replies side h) n
  add g i l x = (authentication_kept side g a i l.server l.client x.0, kept_elsewhere side g (owed_replies side h) n i l.channels x.1)

  pub add_newkeys : (g : List Item) (b : List ℕ) → AuthenticationSumsUp side g a × channels.SumsUp side g (owed_replies side h) n → AuthenticationSumsUp side (Sent None NewKeys b ∷ g) a × channels.SumsUp side (Sent None NewKeys b ∷ g) (owed_replies side h) n
  add_newkeys g b x = (authentication_kept side g a (Sent None NewKeys b) tt tt x.0, kept_elsewhere side g (owed_replies side h) n (Sent None NewKeys b) tt x.1)

  pub started : AuthenticationSumsUp side h a × channels.SumsUp side h (owed_replies side h) n
  started = (has.authentication_sums, has.channels_sum)

  pub following_newkeys : {K : Type 0} (crypto : Crypto K) (parts : kept.ExchangeParts) (c : Chosen) (s : Transport K) (m : Msg) (payload : List ℕ) (last announced : List Encoded) (completed new : Transport K) → Completes crypto parts c s m last announced completed new →
      Following side (items_sent (announced ++ last) ++ (Took None m payload ∷ h)) (owed_replies side h) a n
  following_newkeys crypto parts c s m payload last announced completed new (kept.Completes.reply k_s q_s signature newkeys e here is (kept.Announces.extensions ext f)) =
      let x = add _ (Sent None (ExtInfo _) ext) (left _ tt tt tt tt) (add_newkeys _ newkeys (add h (Took None (KexEcdhReply k_s q_s signature) payload) (left _ tt tt tt tt) started)) in
      record { authentication = x.0; channels_sum = x.1; none = refl }
  following_newkeys crypto parts c s m payload last announced completed new (kept.Completes.reply k_s q_s signature newkeys e here is (kept.Announces.nothing f)) =
      let x = add_newkeys _ newkeys (add h (Took None (KexEcdhReply k_s q_s signature) payload) (left _ tt tt tt tt) started) in
      record { authentication = x.0; channels_sum = x.1; none = refl }
  following_newkeys crypto parts c s m payload last announced completed new (kept.Completes.init q_c reply newkeys e here is (kept.Announces.extensions ext f)) =
      let x = add _ (Sent None (ExtInfo _) ext) (left _ tt tt tt tt) (add_newkeys _ newkeys (add _ (Sent None (KexEcdhReply _ _ _) reply) (left _ tt tt tt tt) (add h (Took None (KexEcdhInit q_c) payload) (left _ tt tt tt tt) started))) in
      record { authentication = x.0; channels_sum = x.1; none = refl }
  following_newkeys crypto parts c s m payload last announced completed new (kept.Completes.init q_c reply newkeys e here is (kept.Announces.nothing f)) =
      let x = add_newkeys _ newkeys (add _ (Sent None (KexEcdhReply _ _ _) reply) (left _ tt tt tt tt) (add h (Took None (KexEcdhInit q_c) payload) (left _ tt tt tt tt) started)) in
      record { authentication = x.0; channels_sum = x.1; none = refl }
