-- Lemmas about the items of messages that were sent, for this crate and those above it.
use Rattle.std.proofs.Common.{◌≡◌, ℕ, List, [], ◌∷◌, ◌++◌, append-nil, append_assoc, refl, ap, ◌∙◌, sym, Option, Some, None}
use Rattle.ssh_model.specs.State.Channels.Summary.{told}
use Rattle.ssh_model.specs.Protocol.Sessions.Items.{Fact, Item, Encoded, Encoded.EncodedBy, has_died, messages_sent}
use Rattle.ssh_model.specs.State.TransportLayer.Summary.{items_sent}
use Rattle.ssh_end_machine.specs.Owed.{channels_sent}
use Rattle.ssh_end_machine.specs.Steps.{AreSent}
use Rattle.ssh_end_machine.specs.Turn.{fact_in, oldest, refusal_in}

-- Messages that were sent tell nothing, refuse nothing and end nothing. They add what they are, each with its channel.
pub record AreQuiet (sent rest : List Item) : Type 0 where
  pub fact : fact_in (sent ++ rest) ≡ fact_in rest
  pub refusal : refusal_in (sent ++ rest) ≡ refusal_in rest
  pub alive : has_died (sent ++ rest) ≡ has_died rest
  pub messages : messages_sent (sent ++ rest) ≡ messages_sent sent ++ messages_sent rest
  pub channels : channels_sent (sent ++ rest) ≡ channels_sent rest ++ channels_sent sent

pub are_quiet : (sent rest : List Item) → AreSent sent → AreQuiet sent rest
are_quiet [] rest are = record {
  fact = refl;
  refusal = refl;
  alive = refl;
  messages = refl;
  channels = sym (append-nil (channels_sent rest));
}
are_quiet (Item.Sent channel message payload ∷ sent) rest are =
    let x = are_quiet sent rest are in
    record {
      fact = x.fact;
      refusal = x.refusal;
      alive = x.alive;
      messages = ap (λ (l : List Encoded). EncodedBy message payload ∷ l) x.messages;
      channels = ap (λ (l : List (Option ℕ)). l ++ channel ∷ []) x.channels ∙
          append_assoc (channels_sent rest) (channels_sent sent) (channel ∷ []);
    }
are_quiet (Item.Fed cookie secret ∷ sent) rest are = absurd are
are_quiet (Item.Asked ask ∷ sent) rest are = absurd are
are_quiet (Item.AskRefused why ∷ sent) rest are = absurd are
are_quiet (Item.SentLine line ∷ sent) rest are = absurd are
are_quiet (Item.TookLine line ∷ sent) rest are = absurd are
are_quiet (Item.TookOtherLine line ∷ sent) rest are = absurd are
are_quiet (Item.Took channel message payload ∷ sent) rest are = absurd are
are_quiet (Item.TookGuess payload ∷ sent) rest are = absurd are
are_quiet (Item.Told fact ∷ sent) rest are = absurd are
are_quiet (Item.Refused why payload ∷ sent) rest are = absurd are
are_quiet (Item.Died ∷ sent) rest are = absurd are

-- messages of which each is sent, with its payload
pub encoded_are_sent : (said : List Encoded) → AreSent (items_sent said)
encoded_are_sent [] = tt
encoded_are_sent (EncodedBy message payload ∷ said) = encoded_are_sent said

-- the oldest item is the last of the list
pub oldest_is : (items : List Item) (item : Item) → oldest (items ++ item ∷ []) ≡ Some item
oldest_is [] item = refl
oldest_is (one ∷ []) item = refl
oldest_is (one ∷ next ∷ items) item = oldest_is (next ∷ items) item

-- a fact that is told over messages that were sent
pub fact_over : (fact : Option Fact) (sent rest : List Item) → fact_in (sent ++ rest) ≡ None → fact_in (told fact sent ++ rest) ≡ fact
fact_over None sent rest e = e
fact_over (Some fact) sent rest e = refl

pub refusal_over : (fact : Option Fact) (sent rest : List Item) → refusal_in (told fact sent ++ rest) ≡ refusal_in (sent ++ rest)
refusal_over None sent rest = refl
refusal_over (Some fact) sent rest = refl
