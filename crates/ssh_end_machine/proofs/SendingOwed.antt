-- On which channels an end sends after NEWKEYS.
use Rattle.std.proofs.Common.{◌≡◌, ◌≤◌, ◌+◌, ◌-◌, ℕ, List, [], ◌∷◌, ◌++◌, append-nil, append_assoc, length, map, replicate, reverse, refl, ap, sym, ◌∙◌, Option, Some, None, arith, false}
use Rattle.std.proofs.lemmas.List.{length-append, reverse-reverse}
use Rattle.ssh_model.specs.declared.side.Side.{Side}
use Rattle.ssh_model.specs.Protocol.Wire.Message.{Msg}
use Rattle.ssh_model.specs.Protocol.Channels.History as channel
use Rattle.ssh_model.specs.State.Channels.Kept.{Channels, DueReply, DueReply.AnswersClose, DueReply.RefusesOpen}
use Rattle.ssh_model.specs.State.Channels.Summary.{pending, reply_channel, reply_item}
use Rattle.ssh_model.specs.State.End.Payloads as payloads
use Rattle.ssh_model.specs.State.End.Payloads.{GivesOwed}
use Rattle.ssh_model.specs.State.End.State.{EndState}
use Rattle.ssh_model.specs.State.End.Summary.{EndSumsUp}
use Rattle.ssh_model.specs.Protocol.Sessions.Items.{Fact.Completed, Item, Item.Told, Item.Took, Encoded, messages_sent}
use Rattle.ssh_model.specs.Protocol.Sessions.Parties.{Parties}
use Rattle.ssh_model.specs.State.TransportLayer.Summary.{items_sent}
use Rattle.ssh_transport_machine.specs.Puts.{payloads_of}
use Rattle.ssh_end_machine.specs.WithChannels.{channels_with, last_channels}
use Rattle.ssh_end_machine.specs.Owed.{channels_sent}
use Rattle.ssh_end_machine.specs.Steps.{SendsOn}
use Rattle.ssh_end_machine.specs.declared.step.Step.TheVariants as step
use Rattle.ssh_end_machine.specs.declared.step.EventKind.TheVariants as event_kind
use Rattle.ssh_end_machine.proofs.Finishing.{sent_then_took}
use Rattle.ssh_end_machine.proofs.Owing.{all_given}
use Rattle.ssh_end_machine.proofs.TurningEnds.{lists_owed, owed_are_sent}
use Rattle.ssh_end_machine.proofs.SendingOn.{none_with, said_on, then_took}

-- ---- an exchange that is completed

abbrev item_channel : channel.Item → Option ℕ
item_channel (channel.Item.Sent number message) = number
item_channel _ = None

of_items : (owed : List DueReply) → map reply_channel owed ≡ map item_channel (map reply_item owed)
of_items [] = refl
of_items (RefusesOpen to ∷ owed) = ap (λ (l : List (Option ℕ)). None ∷ l) (of_items owed)
of_items (AnswersClose number to ∷ owed) = ap (λ (l : List (Option ℕ)). Some number ∷ l) (of_items owed)

of_pending : (owed : List DueReply) → map reply_channel owed ≡ map item_channel (reverse (pending owed))
of_pending owed = of_items owed ∙ ap (λ (l : List channel.Item). map item_channel l) (sym (reverse-reverse (map reply_item owed)))

-- what sums up a history owes what it owes
same_owed : (one other : List DueReply) (waiting : List channel.Item) → pending one ≡ waiting → pending other ≡ waiting → map reply_channel one ≡ map reply_channel other
same_owed one other waiting e f = of_pending one ∙ (ap (λ (l : List channel.Item). map item_channel (reverse l)) (e ∙ sym f) ∙ sym (of_pending other))

following_said : (before after : Channels) (owed : List Item) → GivesOwed before owed after → (said : List Encoded) → channels_sent (owed ++ items_sent said) ≡ replicate (length (payloads_of said)) None ++ channels_sent owed
following_said before _ _ payloads.GivesOwed.nothing said =
    ap channels_sent (sym (append-nil (items_sent said))) ∙ (said_on said [] refl ∙ sym (append-nil (replicate (length (payloads_of said)) None)))
following_said before after _ (payloads.GivesOwed.reply {items} {between} {new} reply payload gives u) said =
    ap (λ (l : List (Option ℕ)). l ++ reply_channel reply ∷ []) (following_said before between items gives said) ∙ append_assoc (replicate (length (payloads_of said)) None) (channels_sent items) (reply_channel reply ∷ [])

as_many : (before after : Channels) (owed : List Item) → GivesOwed before owed after → length (payloads_of (messages_sent owed)) ≡ length (channels_sent owed)
as_many before _ _ payloads.GivesOwed.nothing = refl
as_many before after _ (payloads.GivesOwed.reply {items} {between} {new} reply payload gives u) =
    length-append (payloads_of (messages_sent items)) (payload ∷ []) ∙ (ap (λ (n : ℕ). n + 1) (as_many before between items gives) ∙ sym (length-append (channels_sent items) (reply_channel reply ∷ [])))

with_some : (all : List (List ℕ)) (last : List (Option ℕ)) → 1 ≤ length all → channels_with all last ≡ replicate (length all - length last) None ++ last
with_some [] last some = absurd (omega (arith, some))
with_some (payload ∷ all) last some = refl

owed_with : (early late : List (List ℕ)) (owed : List (Option ℕ)) → length late ≡ length owed → replicate (length early) None ++ owed ≡ channels_with (early ++ late) (last_channels (None ∷ []) owed)
owed_with early [] [] e = append-nil (replicate (length early) None) ∙ (sym (none_with early) ∙ ap (λ (l : List (List ℕ)). channels_with l (None ∷ [])) (sym (append-nil early)))
owed_with early (payload ∷ late) [] e = absurd (omega (arith, e))
owed_with early late (first ∷ rest) e =
    let size = length-append early late in
    let some : 1 ≤ length (early ++ late) = omega (arith, size, e) in
    let others : length early ≡ length (early ++ late) - length (first ∷ rest) = omega (arith, size, e) in
    ap (λ (n : ℕ). replicate n None ++ first ∷ rest) others ∙ sym (with_some (early ++ late) (first ∷ rest) some)

-- after what the transport sent, all that was owed
pub completed_on : {K : Type 0} (p : Parties K) (side : Side) (history : List Item) (e : EndState K) → EndSumsUp p side history e → e.transport.dead ≡ false → (after : Channels) (owed : List Item) → GivesOwed e.channels owed after → after.owed ≡ [] →
    (said : List Encoded) (position : ℕ) (message : Msg) (payload : List ℕ) → SendsOn p side history ((Told (Completed position) ∷ (owed ++ items_sent said)) ++ Took None message payload ∷ []) (step.Took (record { channel = None; probing = false; event_kind = event_kind.Completed position }))
completed_on p side history e sums alive after owed gives none said position message payload old older live =
    let sent = owed_are_sent e.channels after owed gives said in
    let given : channels_sent owed ≡ map reply_channel e.channels.owed = all_given e.channels after owed gives none in
    let same : map reply_channel e.channels.owed ≡ map reply_channel old.channels.owed =
    same_owed e.channels.owed old.channels.owed _ (sums.above alive).channels_sum.queue (older.above live).channels_sum.queue in
    then_took (owed ++ items_sent said) sent None message payload
    ∙ (following_said e.channels after owed gives said
    ∙ (owed_with (payloads_of said) (payloads_of (messages_sent owed)) (channels_sent owed) (as_many e.channels after owed gives)
    ∙ (ap (λ (l : List (Option ℕ)). channels_with (payloads_of said ++ payloads_of (messages_sent owed)) (last_channels (None ∷ []) l)) (given ∙ same)
    ∙ ap (λ (l : List (List ℕ)). channels_with l (last_channels (None ∷ []) (map reply_channel old.channels.owed))) (sym (ap payloads_of (sent_then_took (owed ++ items_sent said) sent None message payload) ∙ lists_owed e.channels after owed gives said)))))
