-- What a turn shows is what stands in its items.
use Rattle.std.proofs.Common.{Bor, ◌≡◌, ℕ, List, [], ◌∷◌, ◌++◌, ap, sym, ◌∙◌, subst, Option, Some, None, option_map}
use Rattle.ssh_message.specs.Meaning.{meaning}
use Rattle.ssh_message.specs.declared.message.Message.{Message}
use Rattle.ssh_model.specs.Protocol.Wire.Message.{Msg, IsPayload}
use Rattle.ssh_model.specs.Protocol.Sessions.Items.{Item, Item.Refused, Item.Took, Item.Died, Encoded}
use Rattle.ssh_model.specs.State.Channels.Summary.{told}
use Rattle.ssh_model.specs.State.TransportLayer.Summary.{items_sent}
use Rattle.ssh_model.specs.State.TransportLayer.Turns.{refusal_items}
use Rattle.ssh_end_machine.specs.SentItems.{are_quiet, encoded_are_sent, fact_over, oldest_is, refusal_over}
use Rattle.ssh_end_machine.specs.Steps.{AreSent, Shows, fact_told}
use Rattle.ssh_end_machine.specs.Told.{told_of}
use Rattle.ssh_end_machine.specs.Turn.{IsMessageTurn, ShowsTaken, TurnShows, oldest}
use Rattle.ssh_end_machine.specs.declared.step.Step.{Step}
use Rattle.ssh_end_machine.specs.declared.step.Step.TheVariants as step
use Rattle.ssh_end_machine.specs.declared.step.TakenMessage.{TakenMessage}
use Rattle.ssh_end_machine.specs.declared.told.Told.TheVariants as user
use Rattle.ssh_end_machine.specs.declared.turn.Took.{Took as Taken}
use Rattle.ssh_end_machine.specs.declared.turn.Took.TheVariants as took
use Rattle.ssh_end_machine.specs.declared.turn.Turn.{Turn}

-- ---- a message taken

module _ (payload : List ℕ) (turn : Turn) (unrefused : turn.refused ≡ None) where
  by_message : (s : TakenMessage) (message : Msg) (sent : List Item) → IsMessageTurn s message payload turn → AreSent sent → TurnShows turn (told (fact_told s.event_kind message s.channel) sent ++ Took s.channel message payload ∷ [])
  by_message s message sent x are =
      let fact = fact_told s.event_kind message s.channel in
      let rest = Took s.channel message payload ∷ [] in
      let nothing = are_quiet sent rest are in
      record {
        took = subst (λ (i : Option Item). ShowsTaken turn.took i) (sym (oldest_is (told fact sent) (Took s.channel message payload))) x.took;
        told = x.told ∙ sym (fact_over fact sent rest nothing.fact);
        refused = unrefused ∙ sym (refusal_over fact sent rest ∙ nothing.refusal);
      }

  pub message_shows : (s : TakenMessage) → ((message : Msg) → IsPayload s.probing message payload → IsMessageTurn s message payload turn) → (items : List Item) → Shows payload (step.Took s) items → TurnShows turn items
  message_shows s x items (Shows.took channel probing event_kind message sent is are) = by_message s message sent (x message is) are
  message_shows s x items (Shows.disconnected reason description language is) =
      let y = x _ is in
      record { took = y.took; told = y.told; refused = unrefused }

  pub message_shows_at : (given : Step) (s : TakenMessage) → given ≡ step.Took s → ((message : Msg) → IsPayload s.probing message payload → IsMessageTurn s message payload turn) → (items : List Item) → Shows payload given items → TurnShows turn items
  message_shows_at given s e x items shows = message_shows s x items (subst (λ (g : Step). Shows payload g items) e shows)

  -- the payload was decoded again, as this message
  pub decoded_shows_at : (given : Step) (s : TakenMessage) → given ≡ step.Took s → (text : Bor (List ℕ)) → text.now ≡ payload → (m : Message) → ((message : Msg) → IsPayload s.probing message text.now → meaning m ≡ message) →
      turn.took ≡ Some (took.Message s.channel m text) → option_map told_of turn.told ≡ fact_told s.event_kind (meaning m) s.channel → (items : List Item) → Shows payload given items → TurnShows turn items
  decoded_shows_at given s e text shown m only taken told_is = message_shows_at given s e (λ message is.
      let same : meaning m ≡ message = only message (subst (λ (l : List ℕ). IsPayload s.probing message l) (sym shown) is) in
      record {
        took = subst (λ (t : Option Taken). ShowsTaken t (Some (Item.Took s.channel message payload))) (sym taken) (λ i. Item.Took s.channel (sym same i) (sym shown i));
        told = told_is ∙ ap (λ (x : Msg). fact_told s.event_kind x s.channel) same;
      })

  -- it was no message
  pub undecoded_shows_at : (given : Step) (s : TakenMessage) → given ≡ step.Took s → (text : List ℕ) → text ≡ payload → ((message : Msg) → IsPayload s.probing message text → ⊥) → (items : List Item) → Shows payload given items → TurnShows turn items
  undecoded_shows_at given s e text shown none = message_shows_at given s e (λ message is. absurd (none message (subst (λ (l : List ℕ). IsPayload s.probing message l) (sym shown) is)))

-- ---- a packet that is not read

skipped_shows : (payload : List ℕ) (turn : Turn) (text : Bor (List ℕ)) → text.now ≡ payload → turn.took ≡ Some (took.Skipped text) → turn.told ≡ Some user.Ignored → turn.refused ≡ None → (items : List Item) → Shows payload step.Skipped items → TurnShows turn items
skipped_shows payload turn text shown taken told_is unrefused items Shows.skipped = record {
  took = subst (λ (t : Option Taken). ShowsTaken t (Some (Item.TookGuess payload))) (sym taken) (λ i. Item.TookGuess (sym shown i));
  told = ap (option_map told_of) told_is;
  refused = unrefused;
}

pub skipped_shows_at : (payload : List ℕ) (turn : Turn) (given : Step) → given ≡ step.Skipped → (text : Bor (List ℕ)) → text.now ≡ payload → turn.took ≡ Some (took.Skipped text) → turn.told ≡ Some user.Ignored → turn.refused ≡ None → (items : List Item) → Shows payload given items → TurnShows turn items
skipped_shows_at payload turn given e text shown taken told_is unrefused items shows = skipped_shows payload turn text shown taken told_is unrefused items (subst (λ (g : Step). Shows payload g items) e shows)

-- ---- a refusal

refusal_shows : (payload : List ℕ) (turn : Turn) (why : _) → turn.took ≡ None → turn.told ≡ None → turn.refused ≡ Some why → (opened : Option (List ℕ)) (said : List Encoded) → TurnShows turn (refusal_items why opened said)
refusal_shows payload turn why untaken untold refused opened said =
    let rest = Refused why opened ∷ [] in
    let nothing = are_quiet (items_sent said) rest (encoded_are_sent said) in
    record {
      took = subst (λ t. ShowsTaken t (oldest (refusal_items why opened said))) (sym untaken)
          (subst (λ (i : Option Item). ShowsTaken None i) (sym (oldest_is (Died ∷ items_sent said) (Refused why opened))) tt);
      told = ap (option_map told_of) untold ∙ sym nothing.fact;
      refused = refused ∙ sym nothing.refusal;
    }

pub refused_shows : (payload : List ℕ) (turn : Turn) (why : _) → turn.took ≡ None → turn.told ≡ None → turn.refused ≡ Some why → (items : List Item) → Shows payload (step.Refused why) items → TurnShows turn items
refused_shows payload turn why untaken untold refused items (Shows.refused _ opened said) = refusal_shows payload turn why untaken untold refused opened said

pub refused_shows_at : (payload : List ℕ) (turn : Turn) (given : Step) (why : _) → given ≡ step.Refused why → turn.took ≡ None → turn.told ≡ None → turn.refused ≡ Some why → (items : List Item) → Shows payload given items → TurnShows turn items
refused_shows_at payload turn given why e untaken untold refused items shows = refused_shows payload turn why untaken untold refused items (subst (λ (g : Step). Shows payload g items) e shows)
