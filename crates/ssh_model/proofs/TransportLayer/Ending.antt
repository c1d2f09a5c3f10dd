-- The turn in which a transport ends an exchange, and what it does with an ask, are those of a session.
use Rattle.std.proofs.Common.{◌≡◌, ℕ, ◌+◌, ◌^◌, ◌<◌, ◌≤◌, List, [], ◌∷◌, ◌++◌, length, refl, ap, sym, ◌∙◌, subst, arith, true, false, Some, None, append-nil, append_assoc}
use Rattle.ssh_model.specs.declared.side.Side.{Side}
use Rattle.ssh_model.specs.Protocol.Wire.Message.{Msg, Msg.Disconnect, Msg.NewKeys}
use Rattle.ssh_model.specs.Protocol.KeyExchange.Choice.{Chosen}
use Rattle.ssh_model.specs.Protocol.KeyExchange.Exchanges.{offers}
use Rattle.ssh_model.specs.declared.ask_refusal.AskRefusal.{AskRefusal}
use Rattle.ssh_model.specs.declared.refusal.Refusal.TheVariants.{NumberSpent}
use Rattle.ssh_model.specs.Protocol.Sessions.Refusals.{first_refusal}
use Rattle.ssh_model.specs.Protocol.Sessions.Parties.{Parties, agreement_of}
use Rattle.ssh_model.specs.Protocol.Sessions.Items.{Ask, Ask.AskService, Ask.AskRekey, Ask.AskDisconnect, Fact.Completed, Item, Item.Sent, Item.Took, Item.Told, Item.Asked, Item.AskRefused, Item.Refused, Item.Died, Encoded, Encoded.EncodedBy, sent, messages_sent}
use Rattle.ssh_model.specs.Protocol.Sessions.Epochs.{count}
use Rattle.ssh_model.specs.Protocol.Sessions.Events.{PutsOut, PutsOut.other as put_other}
use Rattle.ssh_model.specs.Protocol.Sessions.Transport as row
use Rattle.ssh_model.specs.Protocol.Sessions.Transport.{transport_ask_checks}
use Rattle.ssh_model.specs.Protocol.Sessions.Turns as session
use Rattle.ssh_model.specs.Protocol.Sessions.Turns.{AreNumbered, AreEncoded, AsksTurn, IsEncoded, OnPayload, ask_checks}
use Rattle.ssh_model.specs.Protocol.Channels.Connection.{AreReplies, owed_replies}
use Rattle.ssh_model.specs.State.TransportLayer.Kept.{Asks, Completes, Transport, message_ask_checks, message_checks}
use Rattle.ssh_model.specs.State.TransportLayer.Kept as kept
use Rattle.ssh_model.specs.State.TransportLayer.Summary.{IsAwaited, SumsUp, items_sent, parts_of}
use Rattle.ssh_model.specs.State.TransportLayer.Turns as turns
use Rattle.ssh_model.specs.State.TransportLayer.Turns.{AskTurned, EndedBy, IsTransportAsk, PutOut, PutsPackets, Reads, Turned, counted_by}
use Rattle.ssh_model.proofs.TransportLayer.Checks.{asks_same, none_more}
use Rattle.ssh_model.proofs.Items as items
use Rattle.ssh_model.proofs.TransportLayer.Packets.{AreOther, Stands, last_out, packets_out, stands_by, stands_live, stands_taken}
use Rattle.ssh_model.proofs.TransportLayer.Rows.{allowed, completes_row, ends_row}
use Rattle.ssh_model.proofs.TransportLayer.Turning.{welcomed}

-- ---- items in two parts

pub both_encoded : (l more : List Item) → AreEncoded l → AreEncoded more → AreEncoded (l ++ more)
both_encoded [] more a b = b
both_encoded (Sent c m q ∷ l) more a b = (a.0, both_encoded l more a.1 b)
both_encoded (i ∷ l) more a b = both_encoded l more a b

pub both_numbered : (l more g : List Item) → AreNumbered l (more ++ g) → AreNumbered more g → AreNumbered (l ++ more) g
both_numbered [] more g a b = b
both_numbered (Sent c m q ∷ l) more g a b = (subst (λ (k : List Item). count (sent k) < 2 ^ 32) (sym (append_assoc l more g)) a.0, both_numbered l more g a.1 b)
both_numbered (i ∷ l) more g a b = both_numbered l more g a b

items_both : (l more : List Encoded) → items_sent (l ++ more) ≡ items_sent l ++ items_sent more
items_both [] more = refl
items_both (EncodedBy m b ∷ l) more = ap (λ (k : List Item). Sent None m b ∷ k) (items_both l more)

module _ {K : Type 0} (p : Parties K) (side : Side) where
  pub both_out : (g l more : List Item) (late early : List ℕ) → PutOut p side (more ++ g) l late → PutOut p side g more early → PutOut p side g (l ++ more) (early ++ late)
  both_out g l more late early a b = record {
    encoded = both_encoded l more a.encoded b.encoded;
    numbered = both_numbered l more g a.numbered b.numbered;
    puts = λ bytes z. subst (λ (k : List Item). PutsOut p side k (bytes ++ (early ++ late))) (sym (append_assoc l more g))
        (subst (λ (t : List ℕ). PutsOut p side (l ++ (more ++ g)) t) (append_assoc bytes early late) (a.puts (bytes ++ early) (b.puts bytes z)));
  }

  module _ (h : List Item) (s : Transport K) (sums : SumsUp p side h s) (alive : s.dead ≡ false) where
    opened : 1 ≤ length (offers (messages_sent h))
    opened = (sums.live alive).counts.opened

    -- ---- the end of an exchange

    last_row : (g : List Item) (d : _) (m : Msg) (payload : List ℕ) (rest : List Encoded) (more : List ℕ) → Stands p side g d → 1 ≤ length (offers (messages_sent g)) → AreOther rest → PutsPackets p.crypto d (EncodedBy m payload ∷ rest) more →
        PutOut p side g (Sent None m payload ∷ items_sent rest) more
    last_row g d m payload rest more st o n (turns.PutsPackets.packet {bytes = before} m2 payload2 wire x encoded few sealed) =
        let r = packets_out p side g d st o rest before n x in
        last_out p side g d rest before m payload wire r.stands few sealed encoded r.out

    ended_out : (c : Chosen) (payload : List ℕ) (m : Msg) (last announced : List Encoded) (completed new : Transport K) (more : List ℕ) → Completes p.crypto (parts_of p side) c s m last announced completed new → PutsPackets p.crypto s.sending last more →
        PutOut p side (Took None m payload ∷ h) (items_sent last) more
    ended_out c payload m last announced completed new more (kept.Completes.reply k_s q_s signature newkeys e here is y) x =
        last_row (Took None m payload ∷ h) s.sending NewKeys newkeys [] more (stands_taken p side h None m payload s.sending tt (stands_live p side h s (sums.live alive))) opened tt x
    ended_out c payload m last announced completed new more (kept.Completes.init q_c reply newkeys e here is y) x =
        last_row (Took None m payload ∷ h) s.sending NewKeys newkeys (EncodedBy _ reply ∷ []) more (stands_taken p side h None m payload s.sending tt (stands_live p side h s (sums.live alive))) opened (tt, tt) x

    announced_others : (c : Chosen) (m : Msg) (last announced : List Encoded) (completed new : Transport K) → Completes p.crypto (parts_of p side) c s m last announced completed new → AreOther announced
    announced_others c m last announced completed new (kept.Completes.reply k_s q_s signature newkeys e here is (kept.Announces.extensions ext f)) = (tt, tt)
    announced_others c m last announced completed new (kept.Completes.reply k_s q_s signature newkeys e here is (kept.Announces.nothing f)) = tt
    announced_others c m last announced completed new (kept.Completes.init q_c reply newkeys e here is (kept.Announces.extensions ext f)) = (tt, tt)
    announced_others c m last announced completed new (kept.Completes.init q_c reply newkeys e here is (kept.Announces.nothing f)) = tt

    alive_then : (c : Chosen) (m : Msg) (last announced : List Encoded) (completed new : Transport K) → Completes p.crypto (parts_of p side) c s m last announced completed new → completed.dead ≡ false
    alive_then c m last announced completed new (kept.Completes.reply k_s q_s signature newkeys e here is y) = alive
    alive_then c m last announced completed new (kept.Completes.init q_c reply newkeys e here is y) = alive

    pub ended_by : (c : Chosen) (m : Msg) (payload : List ℕ) (last announced : List Encoded) (completed new : Transport K) (early late : List ℕ) → Reads s m payload → IsAwaited s c m →
        first_refusal (message_checks (agreement_of p side) p.trusts c s m) ≡ None → Completes p.crypto (parts_of p side) c s m last announced completed new →
        PutsPackets p.crypto s.sending last early → PutsPackets p.crypto completed.sending announced late →
        EndedBy p side h m payload (s.sending.epoch + 1) (items_sent (announced ++ last)) (early ++ late) new
    ended_by c m payload last announced completed new early late r w fine t x y =
        let e = ends_row p h s alive c side sums payload m last announced completed new t in
        let mid = completes_row p h s alive c side sums payload m last announced completed new t in
        let mid_live = mid.live (alive_then c m last announced completed new t) in
        let first = ended_out c payload m last announced completed new early t x in
        let second = packets_out p side (items_sent last ++ (Took None m payload ∷ h)) completed.sending (stands_live p side _ completed mid_live) mid_live.counts.opened announced late
        (announced_others c m last announced completed new t) y in
        record {
          welcomes = welcomed p side h s sums alive c m payload r w fine;
          answer = e.answer;
          sums = e.sums;
          out = subst (λ (k : List Item). PutOut p side (Took None m payload ∷ h) k (early ++ late)) (sym (items_both announced last))
              (both_out (Took None m payload ∷ h) (items_sent announced) (items_sent last) late early second.out first);
        }

    -- ---- asks

    pub none_of_others : (ask : Ask) (m : Msg) (payload : List ℕ) (new : Transport K) → Asks s ask m payload new → first_refusal (ask_checks p side h ask) ≡ first_refusal (transport_ask_checks p side h ask)
    none_of_others ask m payload new (kept.Asks.service payload2 e) = none_more (transport_ask_checks p side h AskService)
    none_of_others ask m payload new (kept.Asks.rekey material payload2 free has) = none_more (transport_ask_checks p side h AskRekey)

    ask_other : (ask : Ask) (m : Msg) (payload : List ℕ) (new : Transport K) → Asks s ask m payload new → AreOther (EncodedBy m payload ∷ [])
    ask_other ask m payload new (kept.Asks.service payload2 e) = (tt, tt)
    ask_other ask m payload new (kept.Asks.rekey material payload2 free has) = (tt, tt)

    stands_asked : (ask : Ask) → Stands p side (Asked ask ∷ h) s.sending
    stands_asked ask = stands_by p side (Asked ask ∷ h) h s.sending refl refl refl refl (stands_live p side h s (sums.live alive))

    pub ask_sent : (ask : Ask) (m : Msg) (payload : List ℕ) (new : Transport K) (more : List ℕ) → first_refusal (message_ask_checks s ask) ≡ None → Asks s ask m payload new → PutsPackets p.crypto s.sending (EncodedBy m payload ∷ []) more →
        AskTurned p side h ask (Sent None m payload ∷ Asked ask ∷ []) more new
    ask_sent ask m payload new more fine t x =
        let row = allowed p side h s sums alive ask m payload new t in
        let o = packets_out p side (Asked ask ∷ h) s.sending (stands_asked ask) opened (EncodedBy m payload ∷ []) more (ask_other ask m payload new t) x in
        record {
          turn = session.AsksTurn.answers (sym sums.dead_is ∙ alive) (none_of_others ask m payload new t ∙ (asks_same p h s side sums alive ask ∙ fine)) (session.OnAsk.of_transport row.row) o.out.encoded o.out.numbered;
          sums = row.sums;
          puts = λ bytes z. o.out.puts bytes (put_other (Asked ask) tt z);
        }

    pub ask_disconnects : (description payload : List ℕ) (new : Transport K) (more : List ℕ) → first_refusal (message_ask_checks s (AskDisconnect description)) ≡ None → new.dead ≡ true →
        PutsPackets p.crypto s.sending (EncodedBy (Disconnect 11 description []) payload ∷ []) more →
        AskTurned p side h (AskDisconnect description) (Died ∷ Sent None (Disconnect 11 description []) payload ∷ Asked (AskDisconnect description) ∷ []) more new
    ask_disconnects description payload new more fine d x =
        let o = packets_out p side (Asked (AskDisconnect description) ∷ h) s.sending (stands_asked (AskDisconnect description)) opened (EncodedBy (Disconnect 11 description []) payload ∷ []) more (tt, tt) x in
        record {
          turn = session.AsksTurn.answers {items = Died ∷ Sent None (Disconnect 11 description []) payload ∷ []} (sym sums.dead_is ∙ alive) (none_more (transport_ask_checks p side h (AskDisconnect description)) ∙ (asks_same p h s side sums alive (AskDisconnect description) ∙ fine))
              (session.OnAsk.of_transport (row.TransportAsk.disconnect description payload)) o.out.encoded o.out.numbered;
          sums = record { dead_is = d; live = λ z. absurd (cc (z, d)) };
          puts = λ bytes z. put_other Died tt (o.out.puts bytes (put_other (Asked (AskDisconnect description)) tt z));
        }

    -- an ask of the transport
    checks_same : (ask : Ask) → IsTransportAsk ask → first_refusal (ask_checks p side h ask) ≡ first_refusal (message_ask_checks s ask)
    checks_same AskService t = none_more (transport_ask_checks p side h AskService) ∙ asks_same p h s side sums alive AskService
    checks_same AskRekey t = none_more (transport_ask_checks p side h AskRekey) ∙ asks_same p h s side sums alive AskRekey
    checks_same (AskDisconnect description) t = none_more (transport_ask_checks p side h (AskDisconnect description)) ∙ asks_same p h s side sums alive (AskDisconnect description)
    checks_same ask t = elim t [ ]

    pub ask_refused : (ask : Ask) (refusal : AskRefusal) → IsTransportAsk ask → first_refusal (message_ask_checks s ask) ≡ Some refusal → AskTurned p side h ask (AskRefused refusal ∷ Asked ask ∷ []) [] s
    ask_refused ask refusal t e = record {
      turn = session.AsksTurn.refuses refusal (sym sums.dead_is ∙ alive) (checks_same ask t ∙ e);
      sums = items.left p side (Asked ask ∷ h) s (AskRefused refusal) tt (items.left p side h s (Asked ask) tt sums);
      puts = λ bytes z. subst (λ (b : List ℕ). PutsOut p side (AskRefused refusal ∷ Asked ask ∷ h) b) (sym (append-nil bytes)) (put_other (AskRefused refusal) tt (put_other (Asked ask) tt z));
    }

    spent_so : (ask : Ask) (l : List Item) (dead : Transport K) → first_refusal (ask_checks p side h ask) ≡ None → session.OnAsk p side h ask l → AreEncoded l → (AreNumbered l (Asked ask ∷ h) → ⊥) → dead.dead ≡ true →
        AskTurned p side h ask (Died ∷ Refused NumberSpent None ∷ Asked ask ∷ []) [] dead
    spent_so ask l dead fine on encoded none d = record {
      turn = session.AsksTurn.spends (sym sums.dead_is ∙ alive) fine on encoded none;
      sums = record { dead_is = d; live = λ z. absurd (cc (z, d)) };
      puts = λ bytes z. subst (λ (b : List ℕ). PutsOut p side (Died ∷ Refused NumberSpent None ∷ Asked ask ∷ h) b) (sym (append-nil bytes))
          (put_other Died tt (put_other (Refused NumberSpent None) tt (put_other (Asked ask) tt z)));
    }

    no_number : (ask : Ask) → s.sending.count ≡ 2 ^ 32 → count (sent (Asked ask ∷ h)) < 2 ^ 32 → ⊥
    no_number ask all few = omega (arith, all, few, (sums.live alive).sending.count_is)

    pub ask_spent : (ask : Ask) (m : Msg) (payload : List ℕ) (new dead : Transport K) → first_refusal (message_ask_checks s ask) ≡ None → Asks s ask m payload new → IsEncoded m payload → s.sending.count ≡ 2 ^ 32 → dead.dead ≡ true →
        AskTurned p side h ask (Died ∷ Refused NumberSpent None ∷ Asked ask ∷ []) [] dead
    ask_spent ask m payload new dead fine t encoded all d =
        spent_so ask (Sent None m payload ∷ []) dead (none_of_others ask m payload new t ∙ (asks_same p h s side sums alive ask ∙ fine)) (session.OnAsk.of_transport (allowed p side h s sums alive ask m payload new t).row) (encoded, tt)
        (λ n. no_number ask all n.0) d

    pub disconnect_spent : (description payload : List ℕ) (dead : Transport K) → first_refusal (message_ask_checks s (AskDisconnect description)) ≡ None → IsEncoded (Disconnect 11 description []) payload → s.sending.count ≡ 2 ^ 32 → dead.dead ≡ true →
        AskTurned p side h (AskDisconnect description) (Died ∷ Refused NumberSpent None ∷ Asked (AskDisconnect description) ∷ []) [] dead
    disconnect_spent description payload dead fine encoded all d =
        spent_so (AskDisconnect description) (Died ∷ Sent None (Disconnect 11 description []) payload ∷ []) dead (checks_same (AskDisconnect description) tt ∙ fine) (session.OnAsk.of_transport (row.TransportAsk.disconnect description payload)) (encoded, tt)
        (λ n. no_number (AskDisconnect description) all n.0) d

    -- ---- an exchange that has too few numbers to end

    last_numbered : (l more g : List Item) → AreNumbered (l ++ more) g → AreNumbered more g
    last_numbered [] more g n = n
    last_numbered (Sent c m q ∷ l) more g n = last_numbered l more g n.1
    last_numbered (i ∷ l) more g n = last_numbered l more g n

    too_few : (c : Chosen) (payload : List ℕ) (m : Msg) (last announced : List Encoded) (completed new : Transport K) → Completes p.crypto (parts_of p side) c s m last announced completed new → 2 ^ 32 < s.sending.count + length last →
        AreNumbered (items_sent last) (Took None m payload ∷ h) → ⊥
    too_few c payload m last announced completed new (kept.Completes.reply k_s q_s signature newkeys e here is y) few n = omega (arith, few, n.0, (sums.live alive).sending.count_is)
    too_few c payload m last announced completed new (kept.Completes.init q_c reply newkeys e here is y) few n = omega (arith, few, n.0, (sums.live alive).sending.count_is)

    pub end_spent : (c : Chosen) (m : Msg) (payload : List ℕ) (last announced : List Encoded) (completed new dead : Transport K) (owed : List Item) → Reads s m payload → IsAwaited s c m →
        first_refusal (message_checks (agreement_of p side) p.trusts c s m) ≡ None → Completes p.crypto (parts_of p side) c s m last announced completed new →
        AreEncoded (items_sent (announced ++ last)) → AreReplies (owed_replies side h) owed → AreEncoded owed → 2 ^ 32 < s.sending.count + length last → dead.dead ≡ true →
        Turned p side h payload (Died ∷ Refused NumberSpent (Some payload) ∷ []) [] dead
    end_spent c m payload last announced completed new dead owed r w fine t encoded replies owed_encoded few d =
        let e = ends_row p h s alive c side sums payload m last announced completed new t in
        let g : List Item = Took None m payload ∷ h in
        record {
          turn = session.OnPayload.spends None m (welcomed p side h s sums alive c m payload r w fine) (session.Answer.of_completion replies (e.answer owed)) (both_encoded owed (items_sent (announced ++ last)) owed_encoded encoded)
              (λ n. too_few c payload m last announced completed new t few
              (last_numbered (items_sent announced) (items_sent last) g (subst (λ (l : List Item). AreNumbered l g) (items_both announced last) (last_numbered owed (items_sent (announced ++ last)) g n))));
          sums = record { dead_is = d; live = λ z. absurd (cc (z, d)) };
          puts = λ bytes z. subst (λ (b : List ℕ). PutsOut p side (Died ∷ Refused NumberSpent (Some payload) ∷ h) b) (sym (append-nil bytes)) (put_other Died tt (put_other (Refused NumberSpent (Some payload)) tt z));
        }

-- ---- what the layers above owe

-- With the replies that are owed, and then what is told, the turn is one of a session.
pub closed : {K : Type 0} (p : Parties K) (side : Side) (h : List Item) (m : Msg) (payload : List ℕ) (position : ℕ) (items owed : List Item) (more late : List ℕ) (new : Transport K) → EndedBy p side h m payload position items more new →
    AreReplies (owed_replies side h) owed → PutOut p side (items ++ (Took None m payload ∷ h)) owed late →
    OnPayload p side h payload ((Told (Completed position) ∷ (owed ++ items)) ++ Took None m payload ∷ [])
closed p side h m payload position items owed more late new e replies out =
    let all = both_out p side (Took None m payload ∷ h) owed items late more out e.out in
    session.OnPayload.takes None m e.welcomes (session.Answer.of_completion replies (e.answer owed)) all.encoded all.numbered
