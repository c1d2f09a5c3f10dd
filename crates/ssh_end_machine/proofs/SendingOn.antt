-- On which channels the items of a turn are sent.
use Rattle.std.proofs.Common.{◌≡◌, ◌+◌, ◌-◌, ℕ, List, [], ◌∷◌, ◌++◌, length, replicate, refl, ap, sym, ◌∙◌, Option, Some, None, arith, Bool, true, false}
use Rattle.std.proofs.lemmas.List.{length-append, replicate_more}
use Rattle.ssh_model.specs.Protocol.Wire.Message.{Msg}
use Rattle.ssh_model.specs.State.Authentication.Summary.{sent_with}
use Rattle.ssh_model.specs.State.Channels.Kept.{Channels, DueReply, DueReply.AnswersClose, DueReply.RefusesOpen, Taken, Takes, close_reply, has_said_close, peer_of, sent_at_once}
use Rattle.ssh_model.specs.State.Channels.Places.{at}
use Rattle.ssh_model.specs.State.Channels.Summary.{reply_channel, told}
use Rattle.ssh_model.specs.State.End.Payloads.{reply_items}
use Rattle.ssh_model.specs.Protocol.Sessions.Items.{Fact, Item, Item.Refused, Item.Sent, Item.Took, Encoded, Encoded.EncodedBy, messages_sent}
use Rattle.ssh_model.specs.declared.refusal.Refusal.{Refusal}
use Rattle.ssh_model.specs.State.TransportLayer.Summary.{items_sent}
use Rattle.ssh_model.specs.State.TransportLayer.Turns.{refusal_items}
use Rattle.ssh_transport_machine.specs.Puts.{payloads_of}
use Rattle.ssh_end_machine.specs.WithChannels.{channels_with}
use Rattle.ssh_end_machine.specs.Owed.{channels_sent}
use Rattle.ssh_end_machine.specs.Steps.{AreSent}

-- ---- payloads of no channel

-- one more payload
more : (payloads : List (List ℕ)) (payload : List ℕ) → replicate (length payloads) None ++ None ∷ [] ≡ replicate {A = Option ℕ} (length (payloads ++ payload ∷ [])) None
more payloads payload = replicate_more (length payloads) None ∙ ap (λ (n : ℕ). replicate n None) (sym (length-append payloads (payload ∷ [])))

pub none_with : (payloads : List (List ℕ)) → channels_with payloads (None ∷ []) ≡ replicate (length payloads) None
none_with [] = refl
none_with (payload ∷ payloads) =
    let less : length (payload ∷ payloads) - 1 ≡ length payloads = omega arith in
    let one_more : length payloads + 1 ≡ length (payload ∷ payloads) = omega arith in
    ap (λ (n : ℕ). replicate n None ++ None ∷ []) less ∙ (replicate_more (length payloads) None ∙ ap (λ (n : ℕ). replicate n None) one_more)

pub said_on : (said : List Encoded) (rest : List Item) → channels_sent rest ≡ [] → channels_sent (items_sent said ++ rest) ≡ replicate (length (payloads_of said)) None
said_on [] rest none = none
said_on (EncodedBy message payload ∷ said) rest none = ap (λ (l : List (Option ℕ)). l ++ None ∷ []) (said_on said rest none) ∙ more (payloads_of said) payload

said_sent : (said : List Encoded) (rest : List Item) → messages_sent rest ≡ [] → messages_sent (items_sent said ++ rest) ≡ said
said_sent [] rest none = none
said_sent (EncodedBy message payload ∷ said) rest none = ap (λ (l : List Encoded). EncodedBy message payload ∷ l) (said_sent said rest none)

-- what a transport sends belongs to no channel
pub transport_on : (said : List Encoded) (rest : List Item) → channels_sent rest ≡ [] → messages_sent rest ≡ [] → channels_sent (items_sent said ++ rest) ≡ channels_with (payloads_of (messages_sent (items_sent said ++ rest))) (None ∷ [])
transport_on said rest none no_message =
    said_on said rest none ∙ (sym (none_with (payloads_of said)) ∙ ap (λ (l : List Encoded). channels_with (payloads_of l) (None ∷ [])) (sym (said_sent said rest no_message)))

pub refusal_on : (said : List Encoded) (why : Refusal) (opened : Option (List ℕ)) → channels_sent (refusal_items why opened said) ≡ channels_with (payloads_of (messages_sent (refusal_items why opened said))) (None ∷ [])
refusal_on said why opened = transport_on said (Refused why opened ∷ []) refl refl

-- ---- a message taken

pub then_took : (sent : List Item) → AreSent sent → (channel : Option ℕ) (message : Msg) (payload : List ℕ) → channels_sent (sent ++ Took channel message payload ∷ []) ≡ channels_sent sent
then_took [] x channel message payload = refl
then_took (Sent c m l ∷ sent) x channel message payload = ap (λ (w : List (Option ℕ)). w ++ c ∷ []) (then_took sent x channel message payload)
then_took (_ ∷ sent) x channel message payload = absurd x

pub turn_on : (fact : Option Fact) (sent : List Item) → AreSent sent → (channel : Option ℕ) (message : Msg) (payload : List ℕ) → channels_sent (told fact sent ++ Took channel message payload ∷ []) ≡ channels_sent sent
turn_on None sent x channel message payload = then_took sent x channel message payload
turn_on (Some fact) sent x channel message payload = then_took sent x channel message payload

pub sent_with_on : (payload : List ℕ) (message : Option Msg) → channels_sent (sent_with payload message) ≡ channels_with (payloads_of (messages_sent (sent_with payload message))) (None ∷ [])
sent_with_on payload None = refl
sent_with_on payload (Some message) = refl

-- a reply is sent on the channel of what was taken
at_once : (is_blocked : Bool) (reply : DueReply) (payload : List ℕ) → channels_sent (reply_items (sent_at_once is_blocked reply) payload) ≡ channels_with (payloads_of (messages_sent (reply_items (sent_at_once is_blocked reply) payload))) (reply_channel reply ∷ [])
at_once true reply payload = refl
at_once false reply payload = refl

closing : (is_said is_blocked : Bool) (number to : ℕ) (payload : List ℕ) → channels_sent (reply_items (close_reply is_said is_blocked number to) payload) ≡ channels_with (payloads_of (messages_sent (reply_items (close_reply is_said is_blocked number to) payload))) (Some number ∷ [])
closing true b number to payload = refl
closing false b number to payload = at_once b (AnswersClose number to) payload

pub reply_on : (is_blocked : Bool) (c : Channels) (message : Msg) (taken : Taken) (new : Channels) → Takes is_blocked c message taken new → (payload : List ℕ) → channels_sent (reply_items taken.reply payload) ≡ channels_with (payloads_of (messages_sent (reply_items taken.reply payload))) (taken.channel ∷ [])
reply_on b c message taken new (Takes.global_request name want rest) payload = refl
reply_on b c message taken new (Takes.request_success rest) payload = refl
reply_on b c message taken new Takes.request_failure payload = refl
reply_on b c message taken new (Takes.open_taken number kind sender window max_packet rest unused) payload = refl
reply_on b c message taken new (Takes.open_refused kind sender window max_packet rest full) payload = at_once b (RefusesOpen sender) payload
reply_on b c message taken new (Takes.confirmation recipient sender window max_packet rest) payload = refl
reply_on b c message taken new (Takes.failure recipient reason description language) payload = refl
reply_on b c message taken new (Takes.adjust recipient bytes) payload = refl
reply_on b c message taken new (Takes.got_data recipient body) payload = refl
reply_on b c message taken new (Takes.got_extended recipient kind body) payload = refl
reply_on b c message taken new (Takes.eof recipient) payload = refl
reply_on b c message taken new (Takes.close recipient) payload = closing (has_said_close (at c.places recipient)) b recipient (peer_of (at c.places recipient)) payload
reply_on b c message taken new (Takes.request recipient name want rest) payload = refl
reply_on b c message taken new (Takes.success recipient) payload = refl
reply_on b c message taken new (Takes.no_success recipient) payload = refl
