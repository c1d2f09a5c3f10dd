-- The turn in which an end completes an exchange, with the replies that it owed; and all turns of a payload.
use Rattle.std.proofs.Common.{◌≡◌, ℕ, ◌+◌, List, [], ◌∷◌, ◌++◌, refl, ap, sym, ◌∙◌, subst, true, false, None, append_assoc, ◌≤◌, length}
use Rattle.std.proofs.lemmas.Bool.{leb-true}
use Rattle.ssh_model.specs.declared.side.Side.{Side}
use Rattle.ssh_model.specs.Protocol.Wire.Message.{Msg}
use Rattle.ssh_model.specs.Protocol.KeyExchange.Choice.{Chosen}
use Rattle.ssh_model.specs.Protocol.Sessions.Parties.{Parties, agreement_of}
use Rattle.ssh_model.specs.Protocol.Sessions.Items.{Fact.Completed, Fact.Ignored, Item, Item.Took, Item.TookGuess, Item.Told, Encoded, messages_sent}
use Rattle.ssh_model.specs.Protocol.Sessions.Events.{PutsOut, PutsOut.other as put_other}
use Rattle.ssh_model.specs.Protocol.Sessions.Turns.{OnPayload}
use Rattle.ssh_model.specs.Protocol.Channels.Connection.{AreReplies, owed_replies}
use Rattle.ssh_model.specs.Protocol.Channels.History as channel
use Rattle.ssh_model.specs.State.Channels.Kept.{Channels, DueReply}
use Rattle.ssh_model.specs.State.Channels.Summary.{pending}
use Rattle.ssh_model.specs.State.Channels.Summary as channels
use Rattle.ssh_model.specs.State.TransportLayer.Kept.{Completes, Transport}
use Rattle.ssh_model.specs.State.TransportLayer.Kept as kept
use Rattle.ssh_model.specs.State.TransportLayer.Summary.{items_sent, parts_of}
use Rattle.ssh_model.specs.State.TransportLayer.Turns.{PutsPackets, EndedBy}
use Rattle.ssh_model.specs.State.End.State.{EndState, after_items}
use Rattle.ssh_model.specs.State.End.Summary.{AboveSumsUp, EndSumsUp, EndTurned}
use Rattle.ssh_model.specs.State.End.Payloads.{Admits, GivesOwed, TakesPayload}
use Rattle.ssh_model.specs.State.End.Payloads as end
use Rattle.ssh_model.proofs.Channels.Elsewhere.{kept_elsewhere}
use Rattle.ssh_model.proofs.TransportLayer.Ending.{both_out, closed, end_spent, ended_by}
use Rattle.ssh_model.proofs.Items as items_of_layers
use Rattle.ssh_model.proofs.TransportLayer.Packets.{stands_live}
use Rattle.ssh_model.proofs.TransportLayer.Turning.{disconnected, refused, skipped, spent, turned}
use Rattle.ssh_model.proofs.WholeEnd.Kept.{all_kept, authentication_kept, upper}
use Rattle.ssh_model.proofs.WholeEnd.Out.{answers_out}
use Rattle.ssh_model.proofs.WholeEnd.Owed.{Given, given, none_owed}
use Rattle.ssh_model.proofs.WholeEnd.Payloads.{above_turned, following_newkeys, of_turned, refused_turned, rows_above, spent_turned, Following}

still_alive : {K : Type 0} (p : Parties K) (side : Side) (s : Transport K) (c : Chosen) (m : Msg) (last announced : List Encoded) (completed new : Transport K) → Completes p.crypto (parts_of p side) c s m last announced completed new → new.dead ≡ s.dead
still_alive p side s c m last announced completed new (kept.Completes.reply k_s q_s signature newkeys e here is (kept.Announces.extensions ext f)) = refl
still_alive p side s c m last announced completed new (kept.Completes.reply k_s q_s signature newkeys e here is (kept.Announces.nothing f)) = refl
still_alive p side s c m last announced completed new (kept.Completes.init q_c reply newkeys e here is (kept.Announces.extensions ext f)) = refl
still_alive p side s c m last announced completed new (kept.Completes.init q_c reply newkeys e here is (kept.Announces.nothing f)) = refl

-- nothing is left where the queue is empty
pub all_given : (side : Side) (g : List Item) (waiting : List channel.Item) (a : _) (items : List Item) (new : Channels) → Given side g waiting a items new → new.owed ≡ [] → AreReplies waiting items
all_given side g waiting a items new v e =
    let none : pending new.owed ≡ [] = ap pending e in
    subst (λ (l : List channel.Item). AreReplies l items) (sym (v.split ∙ ap (λ (l : List channel.Item). l ++ v.older) none)) v.replies

module _ {K : Type 0} (p : Parties K) (side : Side) (h : List Item) (e : EndState K) (sums : EndSumsUp p side h e) (alive : e.transport.dead ≡ false) where
  -- The replies that were owed come after what the transport sends, and then what is told.
  pub close_turned : (m : Msg) (payload : List ℕ) (position : ℕ) (items : List Item) (more later : List ℕ) (transport : Transport K) (owed : List Item) (n : Channels) → EndedBy p side h m payload position items more transport → transport.dead ≡ false →
      Following side (items ++ (Took None m payload ∷ h)) (owed_replies side h) e.authentication e.channels → GivesOwed e.channels owed n → n.owed ≡ [] → PutsPackets p.crypto transport.sending (messages_sent owed) later →
      EndTurned p side h (OnPayload p side h payload) ((Told (Completed position) ∷ (owed ++ items)) ++ Took None m payload ∷ []) (more ++ later) (record e { transport = after_items side owed transport; channels = n })
  close_turned m payload position items more later transport owed n by lives b o none w =
      let g : List Item = items ++ (Took None m payload ∷ h) in
      let v = given side g (owed_replies side h) e.authentication e.channels b.channels_sum b.authentication owed n o in
      let live = by.sums.live lives in
      let out = answers_out p side g transport.sending (stands_live p side g transport live) live.counts.opened owed later v.answers w in
      let replies = all_given side g (owed_replies side h) e.authentication owed n v none in
      let told : Item = Told (Completed position) in
      let all = both_out p side (Took None m payload ∷ h) owed items later more out.out by.out in
      let same : (told ∷ (owed ++ g)) ≡ ((told ∷ (owed ++ items)) ++ Took None m payload ∷ []) ++ h =
      ap (λ (l : List Item). told ∷ l) (sym (append_assoc owed items (Took None m payload ∷ h)) ∙ sym (append_assoc (owed ++ items) (Took None m payload ∷ []) h)) in
      let new : EndState K = record e { transport = after_items side owed transport; channels = n } in
      let empty : pending n.owed ≡ owed_replies side (told ∷ (owed ++ g)) = ap pending none ∙ sym (none_owed side owed g v.answers b.none) in
      record {
        turn = closed p side h m payload position items owed more later transport by replies out.out;
        sums = subst (λ (l : List Item). EndSumsUp p side l new) same (record {
          transport = items_of_layers.left p side (owed ++ g) (after_items side owed transport) told tt (upper p side g transport owed v.upper by.sums);
          above = λ t. record {
            authentication_sums = authentication_kept side (owed ++ g) e.authentication told tt tt v.authentication;
            channels_sum = subst (λ (l : List channel.Item). channels.SumsUp side (told ∷ (owed ++ g)) l n) empty (kept_elsewhere side (owed ++ g) (pending n.owed) n told tt v.sums);
            few_owed = subst (λ (l : List DueReply). length l ≤ 256) (sym none) (leb-true 0 256 refl);
          };
        });
        puts = λ bytes t. subst (λ (l : List Item). PutsOut p side l (bytes ++ (more ++ later))) (ap (λ (l : List Item). told ∷ l) (sym (append_assoc (owed ++ items) (Took None m payload ∷ []) h)))
            (put_other told tt (all.puts bytes (put_other (Took None m payload) tt t)));
      }

  ended_turned : (c : Chosen) (m : Msg) (payload : List ℕ) (last announced : List Encoded) (completed transport : Transport K) (early late later : List ℕ) (owed : List Item) (n : Channels) → Admits p side e.transport c m payload →
      Completes p.crypto (parts_of p side) c e.transport m last announced completed transport → PutsPackets p.crypto e.transport.sending last early → PutsPackets p.crypto completed.sending announced late →
      GivesOwed e.channels owed n → n.owed ≡ [] → PutsPackets p.crypto transport.sending (messages_sent owed) later →
      EndTurned p side h (OnPayload p side h payload) ((Told (Completed (e.transport.sending.epoch + 1)) ∷ (owed ++ items_sent (announced ++ last))) ++ Took None m payload ∷ []) ((early ++ late) ++ later)
      (record e { transport = after_items side owed transport; channels = n })
  ended_turned c m payload last announced completed transport early late later owed n a x y z o none w =
      close_turned m payload (e.transport.sending.epoch + 1) (items_sent (announced ++ last)) (early ++ late) later transport owed n
      (ended_by p side h e.transport sums.transport alive c m payload last announced completed transport early late a.reads a.awaited a.unrefused x y z)
      (still_alive p side e.transport c m last announced completed transport x ∙ alive)
      (following_newkeys side h e.authentication e.channels (sums.above alive) p.crypto (parts_of p side) c e.transport m payload last announced completed transport x) o none w

  no_layers : (new : EndState K) (items : List Item) → new.transport.dead ≡ true → new.transport.dead ≡ false → AboveSumsUp side items new.authentication new.channels
  no_layers new items d z = absurd (cc (z, d))

  pub payload_turned : (payload : List ℕ) (items : List Item) (more : List ℕ) (new : EndState K) → TakesPayload p side e payload items more new → EndTurned p side h (OnPayload p side h payload) items more new
  payload_turned payload items more new (end.TakesPayload.answered c m answered transport a x y) =
      of_turned p side h e sums alive payload items more new (turned p side h e.transport sums.transport alive c m payload answered transport more a.reads a.awaited a.unrefused x y)
      (λ z. rows_above (agreement_of p side) side h e.transport e.authentication e.channels payload m answered transport (sums.transport.live alive).side_is (sums.above alive) x)
  payload_turned payload items more new (end.TakesPayload.skipped below taken here) =
      of_turned p side h e sums alive payload items more new (skipped p side h e.transport sums.transport alive payload below taken here)
      (λ z. all_kept side h e.authentication e.channels (Told Ignored ∷ TookGuess payload ∷ []) (record { server = tt; client = tt; channels = tt; owed = tt }, (record { server = tt; client = tt; channels = tt; owed = tt }, tt)) (sums.above alive))
  payload_turned payload items more new (end.TakesPayload.disconnected reason description language n r d) =
      of_turned p side h e sums alive payload items more new (disconnected p side h e.transport sums.transport alive reason description language payload new.transport r d) (no_layers new (items ++ h) d)
  payload_turned payload items more new (end.TakesPayload.ended c m last announced completed transport a x y z o none w) = ended_turned c m payload last announced completed transport _ _ _ _ _ a x y z o none w
  payload_turned payload items more new (end.TakesPayload.above m c r fine x y) = above_turned p side h e sums alive m payload c _ _ _ _ r fine x y
  payload_turned payload items more new (end.TakesPayload.refused_below {sent = l} why n r x d) =
      of_turned p side h e sums alive payload items more new (refused p side h e.transport sums.transport alive payload why l more new.transport r x d) (no_layers new (items ++ h) d)
  payload_turned payload items more new (end.TakesPayload.refused_above {sent = l} why n r x d) = refused_turned p side h e sums alive payload why l more new r x d
  payload_turned payload items more new (end.TakesPayload.spent c m answered transport n a x encoded one few d) =
      of_turned p side h e sums alive payload items more new (spent p side h e.transport sums.transport alive c m payload answered transport new.transport a.reads a.awaited a.unrefused x encoded one few d) (no_layers new (items ++ h) d)
  payload_turned payload items more new (end.TakesPayload.end_spent {owed = owed} {channels = n} c m last announced completed transport k a x encoded o none owed_encoded few d) =
      let above = sums.above alive in
      let v = given side h (owed_replies side h) e.authentication e.channels above.channels_sum above.authentication_sums owed n o in
      let replies = all_given side h (owed_replies side h) e.authentication owed n v none in
      of_turned p side h e sums alive payload items more new (end_spent p side h e.transport sums.transport alive c m payload last announced completed transport new.transport owed a.reads a.awaited a.unrefused x encoded replies owed_encoded few d) (no_layers new (items ++ h) d)
  payload_turned payload items more new (end.TakesPayload.above_spent m c n r fine x encoded one all d) = spent_turned p side h e sums alive m payload c _ _ _ new r fine x encoded one all d
