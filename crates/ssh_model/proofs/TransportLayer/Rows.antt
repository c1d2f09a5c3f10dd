-- Each row over what a transport keeps is one of a session.
use Rattle.std.proofs.Common.{◌≡◌, ℕ, suc, ◌+◌, ◌%◌, ◌^◌, ◌<◌, List, [], ◌∷◌, ◌++◌, length, refl, ap, sym, ◌∙◌, subst, arith, Bool, true, false, ◌&&◌, ◌==◌, cond, Some, None}
use Rattle.std.specs.Prelude.{nat_lt, take}
use Rattle.std.proofs.Math.Nat.{mod-mod}
use Rattle.ssh_model.specs.declared.side.Side.{Side}
use Rattle.ssh_model.specs.declared.side.Side.TheVariants.{Client, Server}
use Rattle.ssh_model.specs.Protocol.Wire.Message.{Msg, Msg.Ignore, Msg.Unimplemented, Msg.Debug, Msg.ServiceRequest, Msg.ServiceAccept, Msg.ExtInfo, Msg.KexInit, Msg.NewKeys, Msg.KexEcdhInit, Msg.KexEcdhReply, Msg.Unknown, Proposal, IsPayload}
use Rattle.ssh_model.specs.Protocol.KeyExchange.Choice.{Chosen}
use Rattle.ssh_model.specs.Protocol.KeyExchange.Exchange.{Inputs, exchange_hash}
use Rattle.ssh_model.specs.Protocol.KeyExchange.Exchanges.{Material, Reply, nth, no_material, fed, points, replies, choice, exchange, taking_number}
use Rattle.ssh_model.specs.Protocol.Sessions.Parties.{Parties, Settings, agreement_of, settings_of, offer, offer_of, point_by}
use Rattle.ssh_model.specs.Protocol.Sessions.Items.{Ask, Ask.AskService, Ask.AskRekey, Fact.Completed, Fact.Service, Item, Item.Sent, Item.Took, Item.TookGuess, Item.Told, Item.Asked, Item.Fed, Payload, Payload.NewkeysOf, Encoded, Payload.OtherOf, Encoded.EncodedBy, sent, took, messages_sent, messages_taken}
use Rattle.ssh_model.specs.Protocol.Sessions.Epochs.{epoch, count, wire_number}
use Rattle.ssh_model.specs.Protocol.Sessions.Phases.{Phase.Guessed, Phase.Exchanging, Phase.Keying, Phase.Normal, phase, blocked, is_wrong_guess}
use Rattle.ssh_model.specs.Protocol.Sessions.Transport.{TransportAnswer, CompletingAnswer, TransportAsk, IsAnnounced, announces, next_cookie, secret_now, reply_now, host_key_now, point_now}
use Rattle.ssh_model.specs.Protocol.Sessions.Transport as row
use Rattle.ssh_model.specs.State.TransportLayer.Directions.{SumsUp as DirectionSumsUp, Direction, counted, renewed}
use Rattle.ssh_model.specs.State.TransportLayer.Kept.{Answered, Announces, Asks, Completes, IsChosen, Takes, Transport, after_completion, after_fed, after_guess, after_kexinit, after_own_kexinit, after_sent, after_taken, inputs_with, is_announcing, is_between, own_offer, own_point, server_inputs, server_reply, tells, sends}
use Rattle.ssh_model.specs.State.TransportLayer.Kept as kept
use Rattle.ssh_model.specs.State.TransportLayer.Summary.{Accepts, Allows, Ends, Live, SumsUp, ClientPoints, items_sent, bit, is_agreeing, parts_of}
use Rattle.ssh_model.specs.State.TransportLayer.View.{View, view}
use Rattle.ssh_model.proofs.TransportLayer.Completing.{completed_live, newkeys_live}
use Rattle.ssh_model.proofs.Items as items
use Rattle.ssh_model.proofs.TransportLayer.Kexinits.{agreeing_then, fed_live, free_count, guess_live, kept_is, kexinit_live, not_agreeing, own_kexinit_live}
use Rattle.ssh_model.proofs.TransportLayer.Numbers.{strict_same}
use Rattle.ssh_model.proofs.TransportLayer.Steps.{accepted_live, requested_live, sent_live, taken_live}
use Rattle.ssh_model.proofs.TransportLayer.Underway.{choice_is, client_exchange, nth_new, server_exchange}

-- ---- the number of a packet

small : (n : ℕ) → n < 2 ^ 32 → n % 2 ^ 32 ≡ n
small n l = omega (arith, l)

pub number_by : {K : Type 0} (strict : Bool) (l : List Payload) (d : Direction K) → DirectionSumsUp strict l d → d.count < 2 ^ 32 → d.number ≡ wire_number strict l
number_by true l d s few = s.number_is ∙ small (count l) (omega (arith, s.count_is, few))
number_by false l d s few = s.number_is ∙ mod-mod (length l) (2 ^ 32)

module _ {K : Type 0} (p : Parties K) where
  pub taking_number_is : (side : Side) (h : List Item) (s : Transport K) → Live p side (view p side h) s → s.taking.count < 2 ^ 32 → s.taking.number ≡ taking_number side h
  taking_number_is side h s a few = number_by s.strict (took h) s.taking a.taking few ∙ ap (λ (t : Bool). wire_number t (took h)) (strict_same p side h s a)

  -- ---- a KEXINIT

  client_points : (v : View) (s : Transport K) (a : Live p Client v s) (secret : List ℕ) (wrong : Bool) → is_between v.phase ≡ true →
      ClientPoints (epoch v.sent) (cond wrong Guessed Exchanging) (point_by p Client secret ∷ v.own_points) v.their_replies (point_by p Client secret)
  client_points v s a secret wrong between =
      let none : bit (is_agreeing v.phase) ≡ 0 = ap bit (not_agreeing v.phase between) in
      let one : bit (is_agreeing (cond wrong Guessed Exchanging)) ≡ 1 = ap bit (agreeing_then wrong) in
      let n : length v.own_points ≡ epoch v.sent = omega (arith, a.points.point_count, none) in
      record { point_count = omega (arith, n, one); reply_count = a.points.reply_count; point_is = λ e. nth_new [] (epoch v.sent) (point_by p Client secret) v.own_points n }

  -- ---- at a client

  module _ (h : List Item) (s : Transport K) (sums : SumsUp p Client h s) (alive : s.dead ≡ false) where
    client_view : View
    client_view = view p Client h

    pub client_service : (service payload : List ℕ) → SumsUp p Client (Told Service ∷ Took None (ServiceAccept service) payload ∷ h) (record (after_taken s) { accepted = true })
    client_service service payload = record {
      dead_is = sums.dead_is;
      live = λ z. accepted_live p Client _ (after_taken s) (taken_live p Client (view p Client h) s (sums.live alive) payload);
    }

    pub client_requests : (ask : Ask) (service payload : List ℕ) → SumsUp p Client (Sent None (ServiceRequest service) payload ∷ Asked ask ∷ h) (record (after_sent s) { requested = true })
    client_requests ask service payload = record {
      dead_is = sums.dead_is;
      live = λ z. requested_live p Client _ (after_sent s) (sent_live p Client (view p Client h) s (sums.live alive) payload);
    }

    pub client_kexinit : (theirs : Proposal) (payload init : List ℕ) → is_between (phase p Client h) ≡ true → IsPayload false (KexInit theirs) payload → blocked h ≡ true →
        Accepts p Client h (KexInit theirs) payload (sends (EncodedBy (KexEcdhInit (own_point p.client_agreement s)) init ∷ [])) (after_sent (after_kexinit theirs payload s))
    client_kexinit theirs payload init between read shut =
        let a = sums.live alive in
        let l = kexinit_live p Client (view p Client h) s a theirs payload between shut read (own_point p.client_agreement s ∷ points (messages_sent h))
        (client_points (view p Client h) s a s.underway.secret (is_wrong_guess theirs (own_offer p.client Client)) between) in
        record {
          answer = subst (λ (secret : List ℕ). TransportAnswer p Client h (KexInit theirs) (Sent None (KexEcdhInit (point_by p Client secret)) init ∷ [])) (sym (a.underway.secret_is shut)) (row.TransportAnswer.kexinit_at_client theirs init shut);
          sums = record { dead_is = sums.dead_is; live = λ z. sent_live p Client _ (after_kexinit theirs payload s) l init };
        }

    pub client_answers : (theirs : Proposal) (payload own init : List ℕ) (m : Material) → is_between (phase p Client h) ≡ true → IsPayload false (KexInit theirs) payload → blocked h ≡ false → s.material ≡ Some m →
        Accepts p Client h (KexInit theirs) payload
        (sends (EncodedBy (KexEcdhInit (take 32 (p.client_agreement.point m.secret))) init ∷ EncodedBy (KexInit (offer_of s.settings Client false m.cookie)) own ∷ []))
        (after_sent (after_own_kexinit m own (after_kexinit theirs payload s)))
    client_answers theirs payload own init m between read free has =
        let a = sums.live alive in
        let v = view p Client h in
        let k = kept_is p Client v s a m has in
        let gone = free_count p Client v s a free in
        let o = own_kexinit_live p Client v s a m own free has in
        let l = kexinit_live p Client _ (after_own_kexinit m own s) o theirs payload between refl read (take 32 (p.client_agreement.point m.secret) ∷ points (messages_sent h))
        (client_points _ (after_own_kexinit m own s) o m.secret (is_wrong_guess theirs (own_offer p.client Client)) between) in
        let secret : secret_now h ≡ m.secret = ap (λ (n : ℕ). (nth no_material n (fed h)).secret) (sym gone) ∙ ap (λ (x : Material). x.secret) (sym k.1) in
        let cookie : next_cookie h ≡ m.cookie = ap (λ (x : Material). x.cookie) (sym k.1) in
        let answer : TransportAnswer p Client h (KexInit theirs) (Sent None (KexEcdhInit (point_now p Client h)) init ∷ Sent None (KexInit (offer p Client false (next_cookie h))) own ∷ []) =
        row.TransportAnswer.answered_at_client theirs own init free in
        record {
          answer = subst (λ (items : List Item). TransportAnswer p Client h (KexInit theirs) items)
              (λ i. Sent None (KexEcdhInit (point_by p Client (secret i))) init ∷ Sent None (KexInit (offer_of (sym a.settings_are i) Client false (cookie i))) own ∷ []) answer;
          sums = record {
            dead_is = sums.dead_is;
            live = λ z. subst (λ (settings : Settings). Live p Client (view p Client (Sent None (KexEcdhInit (take 32 (p.client_agreement.point m.secret))) init ∷ Sent None (KexInit (offer_of settings Client false m.cookie)) own ∷ Took None (KexInit theirs) payload ∷ h))
                (after_sent (after_own_kexinit m own (after_kexinit theirs payload s)))) (sym a.settings_are) (sent_live p Client _ (after_kexinit theirs payload (after_own_kexinit m own s)) l init);
          };
        }

  -- ---- at a server

  module _ (h : List Item) (s : Transport K) (sums : SumsUp p Server h s) (alive : s.dead ≡ false) where
    pub server_service : (service payload reply : List ℕ) → SumsUp p Server (Sent None (ServiceAccept service) reply ∷ Took None (ServiceRequest service) payload ∷ h) (record (after_sent (after_taken s)) { requested = true })
    server_service service payload reply = record {
      dead_is = sums.dead_is;
      live = λ z. requested_live p Server _ (after_sent (after_taken s)) (sent_live p Server _ (after_taken s) (taken_live p Server (view p Server h) s (sums.live alive) payload) reply);
    }

    pub server_kexinit : (theirs : Proposal) (payload : List ℕ) → is_between (phase p Server h) ≡ true → IsPayload false (KexInit theirs) payload → blocked h ≡ true →
        Accepts p Server h (KexInit theirs) payload (sends []) (after_kexinit theirs payload s)
    server_kexinit theirs payload between read shut =
        let a = sums.live alive in
        record {
          answer = row.TransportAnswer.kexinit_at_server theirs shut;
          sums = record {
            dead_is = sums.dead_is;
            live = λ z. kexinit_live p Server (view p Server h) s a theirs payload between shut read (points (messages_sent h)) (record { point_count = a.points.point_count; reply_count = a.points.reply_count });
          };
        }

    pub server_answers : (theirs : Proposal) (payload own : List ℕ) (m : Material) → is_between (phase p Server h) ≡ true → IsPayload false (KexInit theirs) payload → blocked h ≡ false → s.material ≡ Some m →
        Accepts p Server h (KexInit theirs) payload (sends (EncodedBy (KexInit (offer_of s.settings Server false m.cookie)) own ∷ [])) (after_own_kexinit m own (after_kexinit theirs payload s))
    server_answers theirs payload own m between read free has =
        let a = sums.live alive in
        let v = view p Server h in
        let k = kept_is p Server v s a m has in
        let o = own_kexinit_live p Server v s a m own free has in
        let l = kexinit_live p Server _ (after_own_kexinit m own s) o theirs payload between refl read (points (messages_sent h)) (record { point_count = o.points.point_count; reply_count = o.points.reply_count }) in
        let cookie : next_cookie h ≡ m.cookie = ap (λ (x : Material). x.cookie) (sym k.1) in
        let answer : TransportAnswer p Server h (KexInit theirs) (Sent None (KexInit (offer p Server false (next_cookie h))) own ∷ []) = row.TransportAnswer.answered_at_server theirs own free in
        record {
          answer = subst (λ (items : List Item). TransportAnswer p Server h (KexInit theirs) items) (λ i. Sent None (KexInit (offer_of (sym a.settings_are i) Server false (cookie i))) own ∷ []) answer;
          sums = record {
            dead_is = sums.dead_is;
            live = λ z. subst (λ (settings : Settings). Live p Server (view p Server (Sent None (KexInit (offer_of settings Server false m.cookie)) own ∷ Took None (KexInit theirs) payload ∷ h))
                (after_own_kexinit m own (after_kexinit theirs payload s))) (sym a.settings_are) l;
          };
        }

  -- ---- either side

  newkeys_seen : (side : Side) (h : List Item) (b : List ℕ) → record (view p side h) { took = NewkeysOf b ∷ (view p side h).took; phase = Normal } ≡ view p side (Took None NewKeys b ∷ h)
  newkeys_seen Client h b = refl
  newkeys_seen Server h b = refl

  guess_seen : (side : Side) (h : List Item) (b : List ℕ) → record (view p side h) { took = OtherOf b ∷ (view p side h).took; phase = Exchanging } ≡ view p side (TookGuess b ∷ h)
  guess_seen Client h b = refl
  guess_seen Server h b = refl

  fed_seen : (side : Side) (h : List Item) (cookie secret : List ℕ) → record (view p side h) { fed = record { cookie = cookie; secret = secret } ∷ (view p side h).fed } ≡ view p side (Fed cookie secret ∷ h)
  fed_seen Client h cookie secret = refl
  fed_seen Server h cookie secret = refl

  rekey_seen : (side : Side) (h : List Item) (o : Proposal) (b : List ℕ) → record (view p side h) { sent = OtherOf b ∷ (view p side h).sent; own_offers = record { proposal = o; payload = b } ∷ (view p side h).own_offers; blocked = true }
      ≡ view p side (Sent None (KexInit o) b ∷ Asked AskRekey ∷ h)
  rekey_seen Client h o b = refl
  rekey_seen Server h o b = refl

  pub guess_taken : (side : Side) (h : List Item) (s : Transport K) (b : List ℕ) → s.phase ≡ Guessed → SumsUp p side h s → SumsUp p side (TookGuess b ∷ h) (after_guess s)
  guess_taken side h s b here a = record {
    dead_is = a.dead_is;
    live = λ z. let l = a.live z in subst (λ (v : View). Live p side v (after_guess s)) (guess_seen side h b) (guess_live p side (view p side h) s l b (sym l.phase_is ∙ here));
  }

  pub pair_fed : (side : Side) (h : List Item) (s : Transport K) (cookie secret : List ℕ) → s.material ≡ None → SumsUp p side h s → SumsUp p side (Fed cookie secret ∷ h) (after_fed cookie secret s)
  pair_fed side h s cookie secret none a = record {
    dead_is = a.dead_is;
    live = λ z. subst (λ (v : View). Live p side v (after_fed cookie secret s)) (fed_seen side h cookie secret) (fed_live p side (view p side h) s (a.live z) cookie secret none);
  }

  module _ (side : Side) (h : List Item) (s : Transport K) (sums : SumsUp p side h s) (alive : s.dead ≡ false) where
    newkeys_taken : (payload : List ℕ) (key : K) → s.phase ≡ Keying → s.pending ≡ Some key → SumsUp p side (Took None NewKeys payload ∷ h) (record s { taking = renewed s.strict key (counted s.taking); phase = Normal; pending = None })
    newkeys_taken payload key here has = record {
      dead_is = sums.dead_is;
      live = λ z.
          let a = sums.live alive in
          subst (λ (v : View). Live p side v (record s { taking = renewed s.strict key (counted s.taking); phase = Normal; pending = None })) (newkeys_seen side h payload)
          (newkeys_live p side (view p side h) s a payload key (sym a.phase_is ∙ here) has);
    }

    rekeyed : (payload : List ℕ) (m : Material) → s.blocked ≡ false → s.material ≡ Some m →
        Allows p side h AskRekey (KexInit (offer_of s.settings s.side false m.cookie)) payload (after_own_kexinit m payload s)
    rekeyed payload m free has =
        let a = sums.live alive in
        let v = view p side h in
        let k = kept_is p side v s a m has in
        let cookie : next_cookie h ≡ m.cookie = ap (λ (x : Material). x.cookie) (sym k.1) in
        let same : offer p side false (next_cookie h) ≡ offer_of s.settings s.side false m.cookie = λ i. offer_of (sym a.settings_are i) (sym a.side_is i) false (cookie i) in
        let named : offer_of (settings_of p side) side false m.cookie ≡ offer_of s.settings s.side false m.cookie = λ i. offer_of (sym a.settings_are i) (sym a.side_is i) false m.cookie in
        record {
          row = subst (λ (o : Proposal). TransportAsk p side h AskRekey (Sent None (KexInit o) payload ∷ [])) same (row.TransportAsk.rekey payload);
          sums = record {
            dead_is = sums.dead_is;
            live = λ z. subst (λ (o : Proposal). Live p side (view p side (Sent None (KexInit o) payload ∷ Asked AskRekey ∷ h)) (after_own_kexinit m payload s)) named
                (subst (λ (w : View). Live p side w (after_own_kexinit m payload s)) (rekey_seen side h (offer_of (settings_of p side) side false m.cookie) payload)
                (own_kexinit_live p side v s a m payload (sym a.blocked_is ∙ free) has));
          };
        }

  -- ---- the rows of messages

  at_client : (side : Side) (h : List Item) (s : Transport K) → SumsUp p side h s → s.dead ≡ false → s.side ≡ Client → side ≡ Client
  at_client side h s sums alive e = sym (sums.live alive).side_is ∙ e

  at_server : (side : Side) (h : List Item) (s : Transport K) → SumsUp p side h s → s.dead ≡ false → s.side ≡ Server → side ≡ Server
  at_server side h s sums alive e = sym (sums.live alive).side_is ∙ e

  module _ (h : List Item) (s : Transport K) (alive : s.dead ≡ false) where
    by_client : (side : Side) → SumsUp p side h s → side ≡ Client → (payload : List ℕ) (m : Msg) (answered : Answered) (new : Transport K) →
        (SumsUp p Client h s → Accepts p Client h m payload answered new) → Accepts p side h m payload answered new
    by_client Client sums e payload m answered new f = f sums
    by_client Server sums e payload m answered new f = absurd (cc e)

    by_server : (side : Side) → SumsUp p side h s → side ≡ Server → (payload : List ℕ) (m : Msg) (answered : Answered) (new : Transport K) →
        (SumsUp p Server h s → Accepts p Server h m payload answered new) → Accepts p side h m payload answered new
    by_server Server sums e payload m answered new f = f sums
    by_server Client sums e payload m answered new f = absurd (cc e)

    pub takes_row : (side : Side) (sums : SumsUp p side h s) (payload : List ℕ) (m : Msg) (answered : Answered) (new : Transport K) → Takes (agreement_of p side) s payload m answered new → Accepts p side h m payload answered new
    takes_row side sums payload m answered new (kept.Takes.ignore body) = record {
      answer = row.TransportAnswer.ignore body;
      sums = items.left p side _ _ _ tt (items.plain_taken p side h s None (Ignore body) payload tt sums);
    }
    takes_row side sums payload m answered new (kept.Takes.unimplemented n) = record {
      answer = row.TransportAnswer.unimplemented n;
      sums = items.left p side _ _ _ tt (items.plain_taken p side h s None (Unimplemented n) payload tt sums);
    }
    takes_row side sums payload m answered new (kept.Takes.debug display text language) = record {
      answer = row.TransportAnswer.debug display text language;
      sums = items.left p side _ _ _ tt (items.plain_taken p side h s None (Debug display text language) payload tt sums);
    }
    takes_row side sums payload m answered new (kept.Takes.extensions announced) = record {
      answer = row.TransportAnswer.extensions announced;
      sums = items.left p side _ _ _ tt (items.plain_taken p side h s None (ExtInfo announced) payload tt sums);
    }
    takes_row side sums payload m answered new (kept.Takes.unknown n reply few) = record {
      answer = subst (λ (x : ℕ). TransportAnswer p side h (Unknown n) (Sent None (Unimplemented x) reply ∷ [])) (sym (taking_number_is side h s (sums.live alive) few)) (row.TransportAnswer.unknown n reply);
      sums = items.plain_sent p side _ _ None (Unimplemented s.taking.number) reply tt (items.plain_taken p side h s None (Unknown n) payload tt sums);
    }
    takes_row side sums payload m answered new (kept.Takes.service_request service reply e) =
        by_server side sums (at_server side h s sums alive e) payload m answered new
        (λ (x : SumsUp p Server h s). record { answer = row.TransportAnswer.service_request service reply; sums = server_service h s x alive service payload reply })
    takes_row side sums payload m answered new (kept.Takes.service_accept service e) =
        by_client side sums (at_client side h s sums alive e) payload m answered new
        (λ (x : SumsUp p Client h s). record { answer = row.TransportAnswer.service_accept service; sums = client_service h s x alive service payload })
    takes_row side sums payload m answered new (kept.Takes.kexinit_at_server theirs e between read shut) =
        by_server side sums (at_server side h s sums alive e) payload m answered new
        (λ (x : SumsUp p Server h s). let a = x.live alive in server_kexinit h s x alive theirs payload (ap is_between (sym a.phase_is) ∙ between) read (sym a.blocked_is ∙ shut))
    takes_row Client sums payload m answered new (kept.Takes.kexinit_at_client theirs init e between read shut) =
        let a = sums.live alive in client_kexinit h s sums alive theirs payload init (ap is_between (sym a.phase_is) ∙ between) read (sym a.blocked_is ∙ shut)
    takes_row Server sums payload m answered new (kept.Takes.kexinit_at_client theirs init e between read shut) = absurd (cc (e, (sums.live alive).side_is))
    takes_row side sums payload m answered new (kept.Takes.answered_at_server theirs own material e between read free has) =
        by_server side sums (at_server side h s sums alive e) payload m answered new
        (λ (x : SumsUp p Server h s). let a = x.live alive in server_answers h s x alive theirs payload own material (ap is_between (sym a.phase_is) ∙ between) read (sym a.blocked_is ∙ free) has)
    takes_row Client sums payload m answered new (kept.Takes.answered_at_client theirs own init material e between read free has) =
        let a = sums.live alive in client_answers h s sums alive theirs payload own init material (ap is_between (sym a.phase_is) ∙ between) read (sym a.blocked_is ∙ free) has
    takes_row Server sums payload m answered new (kept.Takes.answered_at_client theirs own init material e between read free has) = absurd (cc (e, (sums.live alive).side_is))
    takes_row side sums payload m answered new (kept.Takes.newkeys key here has) = record { answer = row.TransportAnswer.newkeys; sums = newkeys_taken side h s sums alive payload key here has }

    pub asks_row : (side : Side) (sums : SumsUp p side h s) (ask : Ask) (m : Msg) (payload : List ℕ) (new : Transport K) → Asks s ask m payload new → Allows p side h ask m payload new
    asks_row Client sums ask m _ new (kept.Asks.service payload e) = record { row = row.TransportAsk.service payload; sums = client_requests h s sums alive AskService _ payload }
    asks_row Server sums ask m _ new (kept.Asks.service payload e) = absurd (cc (e, (sums.live alive).side_is))
    asks_row side sums ask m _ new (kept.Asks.rekey material payload free has) = rekeyed side h s sums alive payload material free has

  -- ---- the end of an exchange

  announced_same : (side : Side) (h : List Item) (s : Transport K) → Live p side (view p side h) s → is_announcing s ≡ announces p side h
  announced_same side h s a = λ i. a.sending.epoch_is i == 0 && nat_lt 0 (length (a.settings_are i).extensions) && a.firsts.extensions_are i

  module _ (h : List Item) (s : Transport K) (sums : SumsUp p Client h s) (alive : s.dead ≡ false) (c : Chosen) (here : s.phase ≡ Exchanging) (is : IsChosen s c) (k_s q_s signature payload newkeys : List ℕ) where
    client_completed : SumsUp p Client (Sent None NewKeys newkeys ∷ Took None (KexEcdhReply k_s q_s signature) payload ∷ h) (after_completion p.crypto (inputs_with Client p.client_agreement s k_s q_s) c (after_taken s))
    client_completed = record {
      dead_is = sums.dead_is;
      live = λ z.
          let a = sums.live alive in
          let now : phase p Client h ≡ Exchanging = sym a.phase_is ∙ here in
          let agreeing : is_agreeing (phase p Client h) ≡ true = ap is_agreeing now in
          let one : bit (is_agreeing (phase p Client h)) ≡ 1 = ap bit agreeing in
          let x : exchange p Client (epoch (sent h)) (Took None (KexEcdhReply k_s q_s signature) payload ∷ h) ≡ inputs_with Client p.client_agreement s k_s q_s = client_exchange p h s a k_s q_s signature payload agreeing in
          let same : choice Client (epoch (sent h)) h ≡ c = choice_is p Client h s a c agreeing is in
          let r : Reply = record { host_key = k_s; point = q_s; signature = signature } in
          let l = completed_live p Client _ (after_taken s) (taken_live p Client (view p Client h) s a payload) (exchange p Client (epoch (sent h)) (Took None (KexEcdhReply k_s q_s signature) payload ∷ h)) (choice Client (epoch (sent h)) h) newkeys now
          (points (messages_taken h)) (replies (messages_sent h)) (r ∷ replies (messages_taken h))
          (record { point_count = omega (arith, a.points.point_count, one); reply_count = ap suc a.points.reply_count; point_is = λ w. absurd (cc w) }) in
          subst (λ (y : Chosen). Live p Client (view p Client (Sent None NewKeys newkeys ∷ Took None (KexEcdhReply k_s q_s signature) payload ∷ h)) (after_completion p.crypto (inputs_with Client p.client_agreement s k_s q_s) y (after_taken s))) same
          (subst (λ (y : Inputs). Live p Client (view p Client (Sent None NewKeys newkeys ∷ Took None (KexEcdhReply k_s q_s signature) payload ∷ h)) (after_completion p.crypto y (choice Client (epoch (sent h)) h) (after_taken s))) x l);
    }

    place : suc (epoch (sent h)) ≡ s.sending.epoch + 1
    place = omega (arith, (sums.live alive).sending.epoch_is)

    client_ends : (announced : List Encoded) (new : Transport K) → Announces s (after_completion p.crypto (inputs_with Client p.client_agreement s k_s q_s) c (after_taken s)) announced new →
        Ends p Client h (KexEcdhReply k_s q_s signature) payload (announced ++ (EncodedBy NewKeys newkeys ∷ [])) (s.sending.epoch + 1) new
    client_ends announced new (kept.Announces.extensions ext f) =
        let a = sums.live alive in
        record {
          answer = λ owed. subst (λ (items : List Item). CompletingAnswer p owed Client h (KexEcdhReply k_s q_s signature) items)
              (λ i. Told (Completed (place i)) ∷ (owed ++ (Sent None (ExtInfo (sym a.settings_are i).extensions) ext ∷ Sent None NewKeys newkeys ∷ [])))
              (row.CompletingAnswer.reply k_s q_s signature newkeys (row.IsAnnounced.extensions ext (sym (announced_same Client h s a) ∙ f)));
          sums = items.plain_sent p Client _ _ None (ExtInfo s.settings.extensions) ext tt client_completed;
        }
    client_ends announced new (kept.Announces.nothing f) =
        let a = sums.live alive in
        record {
          answer = λ owed. subst (λ (items : List Item). CompletingAnswer p owed Client h (KexEcdhReply k_s q_s signature) items)
              (λ i. Told (Completed (place i)) ∷ (owed ++ (Sent None NewKeys newkeys ∷ [])))
              (row.CompletingAnswer.reply k_s q_s signature newkeys (row.IsAnnounced.nothing (sym (announced_same Client h s a) ∙ f)));
          sums = client_completed;
        }

  module _ (h : List Item) (s : Transport K) (sums : SumsUp p Server h s) (alive : s.dead ≡ false) (c : Chosen) (here : s.phase ≡ Exchanging) (is : IsChosen s c) (q_c payload reply newkeys : List ℕ) where
    server_completed : SumsUp p Server (Sent None NewKeys newkeys ∷ Sent None (server_reply (parts_of p Server) c s q_c) reply ∷ Took None (KexEcdhInit q_c) payload ∷ h)
        (after_completion p.crypto (server_inputs (parts_of p Server) c s q_c) c (after_sent (after_taken s)))
    server_completed = record {
      dead_is = sums.dead_is;
      live = λ z.
          let a = sums.live alive in
          let now : phase p Server h ≡ Exchanging = sym a.phase_is ∙ here in
          let agreeing : is_agreeing (phase p Server h) ≡ true = ap is_agreeing now in
          let k_s = take 4096 (p.host_key c.host) in
          let signature = take 4096 (p.host_signature c.host (exchange_hash (server_inputs (parts_of p Server) c s q_c))) in
          let g : List Item = Sent None (server_reply (parts_of p Server) c s q_c) reply ∷ Took None (KexEcdhInit q_c) payload ∷ h in
          let x : exchange p Server (epoch (sent h)) g ≡ server_inputs (parts_of p Server) c s q_c = server_exchange p h s a q_c k_s signature payload reply agreeing (own_point p.server_agreement s) refl in
          let same : choice Server (epoch (sent h)) h ≡ c = choice_is p Server h s a c agreeing is in
          let r : Reply = record { host_key = k_s; point = own_point p.server_agreement s; signature = signature } in
          let l = completed_live p Server _ (after_sent (after_taken s)) (sent_live p Server _ (after_taken s) (taken_live p Server (view p Server h) s a payload) reply) (exchange p Server (epoch (sent h)) g) (choice Server (epoch (sent h)) h) newkeys now
          (q_c ∷ points (messages_taken h)) (r ∷ replies (messages_sent h)) (replies (messages_taken h))
          (record { point_count = ap suc a.points.point_count; reply_count = ap suc a.points.reply_count }) in
          subst (λ (y : Chosen). Live p Server (view p Server (Sent None NewKeys newkeys ∷ g)) (after_completion p.crypto (server_inputs (parts_of p Server) c s q_c) y (after_sent (after_taken s)))) same
          (subst (λ (y : Inputs). Live p Server (view p Server (Sent None NewKeys newkeys ∷ g)) (after_completion p.crypto y (choice Server (epoch (sent h)) h) (after_sent (after_taken s)))) x l);
    }

    reply_is : reply_now p h q_c ≡ server_reply (parts_of p Server) c s q_c
    reply_is =
        let a = sums.live alive in
        let agreeing : is_agreeing (phase p Server h) ≡ true = ap is_agreeing (sym a.phase_is ∙ here) in
        let same : choice Server (epoch (sent h)) h ≡ c = choice_is p Server h s a c agreeing is in
        let secret : s.underway.secret ≡ secret_now h = a.underway.secret_is (a.counts.blocked_then agreeing) in
        let x = server_exchange p h s a q_c (host_key_now p h) [] [] [] agreeing (point_now p Server h) (ap (λ (t : List ℕ). point_by p Server t) (sym secret))
        ∙ (λ i. inputs_with Server p.server_agreement s (take 4096 (p.host_key (same i).host)) q_c) in
        λ i. KexEcdhReply (take 4096 (p.host_key (same i).host)) (point_by p Server (sym secret i)) (take 4096 (p.host_signature (same i).host (exchange_hash (x i))))

    position_is : suc (epoch (sent h)) ≡ s.sending.epoch + 1
    position_is = omega (arith, (sums.live alive).sending.epoch_is)

    server_ends : (announced : List Encoded) (new : Transport K) → Announces s (after_completion p.crypto (server_inputs (parts_of p Server) c s q_c) c (after_sent (after_taken s))) announced new →
        Ends p Server h (KexEcdhInit q_c) payload (announced ++ (EncodedBy NewKeys newkeys ∷ EncodedBy (server_reply (parts_of p Server) c s q_c) reply ∷ [])) (s.sending.epoch + 1) new
    server_ends announced new (kept.Announces.extensions ext f) =
        let a = sums.live alive in
        record {
          answer = λ owed. subst (λ (items : List Item). CompletingAnswer p owed Server h (KexEcdhInit q_c) items)
              (λ i. Told (Completed (position_is i)) ∷ (owed ++ (Sent None (ExtInfo (sym a.settings_are i).extensions) ext ∷ Sent None NewKeys newkeys ∷ Sent None (reply_is i) reply ∷ [])))
              (row.CompletingAnswer.init q_c reply newkeys (row.IsAnnounced.extensions ext (sym (announced_same Server h s a) ∙ f)));
          sums = items.plain_sent p Server _ _ None (ExtInfo s.settings.extensions) ext tt server_completed;
        }
    server_ends announced new (kept.Announces.nothing f) =
        let a = sums.live alive in
        record {
          answer = λ owed. subst (λ (items : List Item). CompletingAnswer p owed Server h (KexEcdhInit q_c) items)
              (λ i. Told (Completed (position_is i)) ∷ (owed ++ (Sent None NewKeys newkeys ∷ Sent None (reply_is i) reply ∷ [])))
              (row.CompletingAnswer.init q_c reply newkeys (row.IsAnnounced.nothing (sym (announced_same Server h s a) ∙ f)));
          sums = server_completed;
        }

  module _ (h : List Item) (s : Transport K) (alive : s.dead ≡ false) (c : Chosen) where
    pub ends_row : (side : Side) (sums : SumsUp p side h s) (payload : List ℕ) (m : Msg) (last announced : List Encoded) (completed new : Transport K) → Completes p.crypto (parts_of p side) c s m last announced completed new →
        Ends p side h m payload (announced ++ last) (s.sending.epoch + 1) new
    ends_row Client sums payload m l l2 mid new (kept.Completes.reply k_s q_s signature newkeys e here is x) = client_ends h s sums alive c here is k_s q_s signature payload newkeys l2 new x
    ends_row Server sums payload m l l2 mid new (kept.Completes.init q_c reply newkeys e here is x) = server_ends h s sums alive c here is q_c payload reply newkeys l2 new x
    ends_row Client sums payload m l l2 mid new (kept.Completes.init q_c reply newkeys e here is x) = absurd (cc (e, (sums.live alive).side_is))
    ends_row Server sums payload m l l2 mid new (kept.Completes.reply k_s q_s signature newkeys e here is x) = absurd (cc (e, (sums.live alive).side_is))

    -- what is kept right after NEWKEYS
    pub completes_row : (side : Side) (sums : SumsUp p side h s) (payload : List ℕ) (m : Msg) (last announced : List Encoded) (completed new : Transport K) → Completes p.crypto (parts_of p side) c s m last announced completed new →
        SumsUp p side (items_sent last ++ (Took None m payload ∷ h)) completed
    completes_row Client sums payload m l l2 mid new (kept.Completes.reply k_s q_s signature newkeys e here is x) = client_completed h s sums alive c here is k_s q_s signature payload newkeys
    completes_row Server sums payload m l l2 mid new (kept.Completes.init q_c reply newkeys e here is x) = server_completed h s sums alive c here is q_c payload reply newkeys
    completes_row Client sums payload m l l2 mid new (kept.Completes.init q_c reply newkeys e here is x) = absurd (cc (e, (sums.live alive).side_is))
    completes_row Server sums payload m l l2 mid new (kept.Completes.reply k_s q_s signature newkeys e here is x) = absurd (cc (e, (sums.live alive).side_is))

-- ---- the laws

pub accepted : {K : Type 0} (p : Parties K) (side : Side) (h : List Item) (s : Transport K) → SumsUp p side h s → s.dead ≡ false → (payload : List ℕ) (m : Msg) (answered : Answered) (new : Transport K) → Takes (agreement_of p side) s payload m answered new → Accepts p side h m payload answered new
accepted p side h s sums alive = takes_row p h s alive side sums

pub ended : {K : Type 0} (p : Parties K) (side : Side) (h : List Item) (s : Transport K) → SumsUp p side h s → s.dead ≡ false → (c : Chosen) (payload : List ℕ) (m : Msg) (last announced : List Encoded) (completed new : Transport K) → Completes p.crypto (parts_of p side) c s m last announced completed new → Ends p side h m payload (announced ++ last) (s.sending.epoch + 1) new
ended p side h s sums alive c = ends_row p h s alive c side sums

pub allowed : {K : Type 0} (p : Parties K) (side : Side) (h : List Item) (s : Transport K) → SumsUp p side h s → s.dead ≡ false → (ask : Ask) (m : Msg) (payload : List ℕ) (new : Transport K) → Asks s ask m payload new → Allows p side h ask m payload new
allowed p side h s sums alive = asks_row p h s alive side sums
