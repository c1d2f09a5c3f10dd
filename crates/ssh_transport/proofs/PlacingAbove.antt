-- Where what the layers above have it do takes a transport.
use Rattle.std.proofs.Common.{◌≡◌, ℕ, ◌<◌, ◌++◌, true, false, List, [], ◌∷◌, refl, ap, sym, ◌∙◌, subst, append-nil, Option, None}
use Rattle.ssh_model.specs.declared.side.Side.{Side}
use Rattle.ssh_model.specs.declared.side.Side.TheVariants.{Server}
use Rattle.ssh_model.specs.declared.refusal.Refusal.{Refusal}
use Rattle.ssh_model.specs.declared.refusal.Refusal.TheVariants.{NumberSpent}
use Rattle.ssh_model.specs.Protocol.Bounds.{numbers_of_epoch}
use Rattle.ssh_model.specs.Protocol.Sessions.AnyLayers.{TransportTurn, is_own_number}
use Rattle.ssh_model.specs.Protocol.Sessions.Events.{PutsOut}
use Rattle.ssh_model.specs.Protocol.Sessions.Items.{Encoded, Encoded.EncodedBy, Item, Item.Died, Item.Refused, Item.Sent}
use Rattle.ssh_model.specs.Protocol.Sessions.Parties.{Parties}
use Rattle.ssh_model.specs.Protocol.Sessions.Turns as turns
use Rattle.ssh_model.specs.Protocol.Sessions.Turns.{number_of}
use Rattle.ssh_model.specs.Protocol.Wire.Message.{Msg, Msg.UserauthSuccess}
use Rattle.ssh_model.specs.State.TransportLayer.Kept.{Transport, after_sent, after_success}
use Rattle.ssh_model.specs.State.TransportLayer.Summary.{IsPlain, Live, SumsUp}
use Rattle.ssh_model.specs.State.TransportLayer.Turns.{PutsPackets, SaysWhy, refusal_items}
use Rattle.ssh_model.specs.State.TransportLayer.View.{view}
use Rattle.ssh_transport_machine.specs.Answering.{SpentBy}
use Rattle.ssh_transport_machine.specs.Puts.{Outs, PutsPayload, Refuses}
use Rattle.ssh_transport_machine.specs.State.{State}
use Rattle.ssh_transport_machine.specs.declared.machine.sending.SendOutcome.{SendOutcome}
use Rattle.ssh_transport_machine.specs.declared.machine.sending.SendOutcome.TheVariants.{Done, Spent}
use Rattle.ssh_transport.specs.Above.{PayloadSent, PeerRefused}
use Rattle.ssh_transport.specs.Places.{MaySend, RanOut, RefusedTo, SentFor, SentTo, TransportStandsAfter, told_of}
use Rattle.ssh_transport.specs.Sending.{CanSend}
use Rattle.ssh_transport.proofs.Going.{Guards, goes_on, goes_quietly, lives, over, sent_before, told}
use Rattle.ssh_transport.proofs.PutsOn.{next_refused, puts_on, sends_next}
use Rattle.ssh_transport.proofs.Running.{sent_above}
use Rattle.ssh_transport.proofs.Sending.{is_plain}

-- the laws of the model
pub record AboveLaws (K : Type 0) : Type 0 where
  pub guards : Guards K
  pub sent : (p : Parties K) (side : Side) (history : List Item) (s : Transport K) (channel : Option ℕ) (message : Msg) (payload : List ℕ) → IsPlain message → SumsUp p side history s → SumsUp p side (Sent channel message payload ∷ history) (after_sent s)
  pub success : (p : Parties K) (history : List Item) (s : Transport K) (channel : Option ℕ) (payload : List ℕ) → SumsUp p Server history s → SumsUp p Server (Sent channel UserauthSuccess payload ∷ history) (after_success (after_sent s))

module _ {K : Type 0} (laws : AboveLaws K) (p : Parties K) (side : Side) (parts : Type 0) (history : List Item) (old : State K) (place : TransportStandsAfter p side parts history old.kept) (alive : old.kept.dead ≡ false) where
  live : Live p side (view p side history) old.kept
  live = place.sums.live alive

  module _ (new : State K) (o : Outs) where
    -- ---- a payload

    sent_for : (payload : List ℕ) → is_own_number (number_of payload) ≡ false → (old.kept.blocked ≡ true → number_of payload ≡ 3) → new.kept ≡ after_sent old.kept → PutsPayload p.crypto old.kept.sending payload o → SentFor p side parts history payload old.kept new.kept o
    sent_for payload theirs unblocked after puts = λ channel message may.
        goes_on laws.guards p side parts history old.kept place (Sent channel message payload ∷ []) (told_of message new.kept) o
        (TransportTurn.sends channel message payload (sent_above p side history old.kept live (lives p side parts history old.kept place alive) message payload may theirs unblocked puts.left))
        (sums channel message may) puts.wire (λ bytes y. puts_on p side history old.kept.sending (sends_next p side history old.kept live) channel message payload puts.wire puts.left puts.sealed bytes y) puts.parts (EncodedBy message payload ∷ []) refl puts.lists
      where
        sums : (channel : Option ℕ) (message : Msg) → MaySend side old.kept message payload → SumsUp p side (Sent channel message payload ∷ history) (told_of message new.kept)
        sums channel message may =
            subst (λ (k : Transport K). SumsUp p side (Sent channel message payload ∷ history) (told_of message k)) (sym after)
            (told p side (Sent channel message payload ∷ history) message (after_sent old.kept)
            (λ other. laws.sent p side history old.kept channel message payload (is_plain message payload (sym may.number) theirs other) place.sums)
            (λ same. subst (λ (m : Msg). SumsUp p side (Sent channel m payload ∷ history) (after_success (after_sent old.kept))) (sym same)
            (subst (λ (t : Side). SumsUp p t (Sent channel UserauthSuccess payload ∷ history) (after_success (after_sent old.kept))) (sym (may.success same))
            (laws.success p history old.kept channel payload (subst (λ (t : Side). SumsUp p t history old.kept) (may.success same) place.sums)))))

    pub ran_out : SpentBy old new o → RanOut p side parts history new.kept o
    ran_out x =
        goes_quietly laws.guards p side parts history old.kept place (Died ∷ Refused NumberSpent None ∷ []) new.kept o
        (TransportTurn.refuses NumberSpent None (lives p side parts history old.kept place alive) (turns.Refuses.spent (sym live.sending.count_is ∙ x.none_left)))
        (over p side (Died ∷ Refused NumberSpent None ∷ history) new.kept refl (ap (λ (t : State K). t.kept.dead) x.after))
        (λ before y. PutsOut.other Died tt (PutsOut.other (Refused NumberSpent None) tt y)) refl x.quiet

    pub sent_to : (payload : List ℕ) → CanSend old.kept payload → (answer : SendOutcome) → PayloadSent p.crypto old payload answer new o → SentTo p side parts history payload answer old.kept new.kept o
    sent_to payload can Done x = sent_for payload can.number (can.unblocked alive) (ap (λ (t : State K). t.kept) x.sent.after) x.sent.puts
    sent_to payload can Spent x = ran_out x.sent

    -- ---- a refusal

    module _ (why : Refusal) (payload : Option (List ℕ)) where
      after_why : List Item
      after_why = Refused why payload ∷ history

      says : (said : List Encoded) (more : List ℕ) → SaysWhy p.crypto old.kept why said more → turns.Refuses history why payload (refusal_items why payload said)
      says said more (SaysWhy.silently e) = turns.Refuses.silently e
      says said more (SaysWhy.spent e) = turns.Refuses.spent (sym live.sending.count_is ∙ e)
      says said more (SaysWhy.said reason text e (PutsPackets.packet m b wire PutsPackets.nothing encoded few sealed)) =
          turns.Refuses.said reason text e (subst (λ (n : ℕ). n < numbers_of_epoch) live.sending.count_is few) encoded

      quiet_puts : (bytes : List ℕ) → PutsOut p side history bytes → PutsOut p side (Died ∷ Refused why payload ∷ history) (bytes ++ [])
      quiet_puts bytes y = subst (λ (t : List ℕ). PutsOut p side (Died ∷ Refused why payload ∷ history) t) (sym (append-nil bytes)) (PutsOut.other Died tt (PutsOut.other (Refused why payload) tt y))

      puts : (said : List Encoded) (more : List ℕ) → SaysWhy p.crypto old.kept why said more → (bytes : List ℕ) → PutsOut p side history bytes → PutsOut p side (refusal_items why payload said ++ history) (bytes ++ more)
      puts said more (SaysWhy.silently e) bytes y = quiet_puts bytes y
      puts said more (SaysWhy.spent e) bytes y = quiet_puts bytes y
      puts said more (SaysWhy.said reason text e (PutsPackets.packet m b wire PutsPackets.nothing encoded few sealed)) bytes y =
          PutsOut.other Died tt (puts_on p side (Refused why payload ∷ history) old.kept.sending (next_refused p side history why payload old.kept.sending (sends_next p side history old.kept live)) None m text wire few sealed bytes (PutsOut.other (Refused why payload) tt y))

      refused_by : Refuses p.crypto old.kept why new.kept o → RefusedTo p side parts history why payload new.kept o
      refused_by x = record {
        items = refusal_items why payload x.said;
        refuses = says x.said x.more x.says;
        went = goes_on laws.guards p side parts history old.kept place (refusal_items why payload x.said) new.kept o
            (TransportTurn.refuses why payload (lives p side parts history old.kept place alive) (says x.said x.more x.says))
            (over p side (refusal_items why payload x.said ++ history) new.kept refl (ap (λ (t : Transport K). t.dead) x.after)) x.more (puts x.said x.more x.says)
            x.parts x.said (sent_before x.said (Refused why payload ∷ []) refl) x.lists;
      }

      pub refused_to : PeerRefused p.crypto old why new o → RefusedTo p side parts history why payload new.kept o
      refused_to x = refused_by x.refuses
