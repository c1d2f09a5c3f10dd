-- What an end sends after NEWKEYS, and what it then lists.
use Rattle.std.proofs.Common.{◌≡◌, ℕ, Bool, false, List, [], ◌∷◌, ◌++◌, append-nil, append_assoc, refl, ap, sym, ◌∙◌}
use Rattle.ssh_model.specs.declared.side.Side.{Side}
use Rattle.ssh_model.specs.Protocol.Wire.Message.{Msg, IsPayload}
use Rattle.ssh_model.specs.State.Channels.Kept.{Channels}
use Rattle.ssh_model.specs.State.Channels.Summary.{reply_sent}
use Rattle.ssh_model.specs.State.End.Payloads as payloads
use Rattle.ssh_model.specs.State.End.Payloads.{GivesOwed}
use Rattle.ssh_model.specs.Protocol.Sessions.Items.{Item, Encoded, Encoded.EncodedBy, messages_sent}
use Rattle.ssh_model.specs.Protocol.Sessions.Parties.{Parties}
use Rattle.ssh_model.specs.Protocol.Sessions.Transport.{CompletingAnswer}
use Rattle.ssh_model.specs.State.TransportLayer.Summary.{items_sent}
use Rattle.ssh_transport_machine.specs.Puts.{payloads_of}
use Rattle.ssh_end_machine.specs.SentItems.{encoded_are_sent}
use Rattle.ssh_end_machine.specs.Steps.{AreSent}

-- ---- nothing but messages sent

pub owed_are_sent : (before after : Channels) (owed : List Item) → GivesOwed before owed after → (said : List Encoded) → AreSent (owed ++ items_sent said)
owed_are_sent before _ _ payloads.GivesOwed.nothing said = encoded_are_sent said
owed_are_sent before after _ (payloads.GivesOwed.reply {items} {between} {new} reply payload gives u) said = owed_are_sent before between items gives said

-- ---- payloads

sends_encoded : (said : List Encoded) → messages_sent (items_sent said) ≡ said
sends_encoded [] = refl
sends_encoded (EncodedBy message payload ∷ said) = ap (λ (l : List Encoded). EncodedBy message payload ∷ l) (sends_encoded said)

sends_owed : (before after : Channels) (owed : List Item) → GivesOwed before owed after → (said : List Encoded) → messages_sent (owed ++ items_sent said) ≡ messages_sent owed ++ said
sends_owed before _ _ payloads.GivesOwed.nothing said = sends_encoded said
sends_owed before after _ (payloads.GivesOwed.reply {items} {between} {new} reply payload gives u) said = ap (λ (l : List Encoded). EncodedBy (reply_sent reply) payload ∷ l) (sends_owed before between items gives said)

payloads_following : (late early : List Encoded) → payloads_of (late ++ early) ≡ payloads_of early ++ payloads_of late
payloads_following [] early = sym (append-nil (payloads_of early))
payloads_following (EncodedBy message payload ∷ late) early = ap (λ (l : List (List ℕ)). l ++ payload ∷ []) (payloads_following late early) ∙ append_assoc (payloads_of early) (payloads_of late) (payload ∷ [])

-- the payloads of what was sent and of what was owed, the oldest first
pub lists_owed : (before after : Channels) (owed : List Item) → GivesOwed before owed after → (said : List Encoded) → payloads_of (messages_sent (owed ++ items_sent said)) ≡ payloads_of said ++ payloads_of (messages_sent owed)
lists_owed before after owed x said = ap payloads_of (sends_owed before after owed x said) ∙ payloads_following (messages_sent owed) said

-- ---- the message

-- A message that ends an exchange is read alike whether a key probe is outstanding or not.
pub ending_read : {K : Type 0} (p : Parties K) (owed items : List Item) (side : Side) (history : List Item) (message : Msg) (payload : List ℕ) (is_probing : Bool) → CompletingAnswer p owed side history message items → IsPayload is_probing message payload → IsPayload false message payload
ending_read p owed items side history message payload b (CompletingAnswer.init q_c reply newkeys announced) x = record { context = tt; row = x.row }
ending_read p owed items side history message payload b (CompletingAnswer.reply q_c q_s signature newkeys announced) x = record { context = tt; row = x.row }
