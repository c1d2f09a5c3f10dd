-- What the toy ends do with and without strict key exchange, and with extensions.
use Rattle.std.specs.Prelude.{◌≡◌, ◌-◌, ◌^◌, ◌∷◌, ◌++◌, true, false, List, [], Some, None, codes, length}
use Rattle.ssh_model.specs.declared.side.Side.{Side}
use Rattle.ssh_model.specs.declared.side.Side.TheVariants.{Client, Server}
use Rattle.ssh_model.specs.Protocol.Side.{peer}
use Rattle.ssh_model.specs.Protocol.Wire.Message.{Msg.Ignore, Msg.Unimplemented, Msg.ExtInfo, Msg.KexInit, Msg.NewKeys, Msg.KexEcdhInit, Msg.Unknown}
use Rattle.ssh_model.specs.Protocol.KeyExchange.Choice.{Kind.Kex, client_marker, server_marker, client_extension_marker, server_extension_marker}
use Rattle.ssh_model.specs.Protocol.KeyExchange.Exchanges.{common, sending_number, taking_number}
use Rattle.ssh_model.specs.declared.strictness.Strictness.TheVariants.{Offer, Off}
use Rattle.ssh_model.specs.Protocol.Sessions.Parties.{lists_of}
use Rattle.ssh_model.specs.declared.refusal.Refusal.TheVariants.{Unexpected, NoCommon, NotStrict}
use Rattle.ssh_model.specs.Protocol.Sessions.Items.{Payload, took, Fact.Completed, Fact.GotExtensions, Item.TookGuess, Item.Told}
use Rattle.ssh_model.specs.Protocol.Sessions.Epochs.{count, wire_number}
use Rattle.ssh_model.specs.Protocol.Sessions.Phases.{is_wrong_guess, may_take}
use Rattle.ssh_model.specs.Protocol.Sessions.Transport.{reply_now}
use Rattle.ssh_model.specs.Protocol.Sessions.Turns.{Answer}
use Rattle.ssh_model.specs.Example.Toys.{announcing, from_to, plain, plain_announcing, secret, toy, toy_extensions, toys_announcing, toys_with}
use Rattle.ssh_model.specs.Example.Histories.{completed_by, first_reply_by, guessing_by, hears, keyed_by, lined_by, offer_by, offered_by, refusal_by, says, taken_by}
use Rattle.std.specs.Prelude.{refl}
use Rattle.ssh_model.specs.Protocol.KeyExchange.Choice.{methods}
use Rattle.ssh_model.specs.Protocol.Sessions.Transport.{IsAnnounced.extensions as announced, IsAnnounced.nothing, TransportAnswer.extensions, CompletingAnswer.init, CompletingAnswer.reply, TransportAnswer.unknown}
use Rattle.ssh_model.specs.Protocol.Channels.Connection.{AreReplies.none}
use Rattle.ssh_model.specs.Protocol.Sessions.Turns.{Answer.of_transport, Answer.of_completion}

pub at_first_where_offered_row : (side : Side) → taken_by (toys_with Offer Offer) side (lined_by (toys_with Offer Offer) side) ≡ from_to 1 4 ++ 20 ∷ []
unfolding methods
at_first_where_offered_row Client = refl
at_first_where_offered_row Server = refl

pub at_first_without_row : (side : Side) → taken_by plain side (lined_by plain side) ≡ from_to 1 4 ++ 20 ∷ []
unfolding methods
at_first_without_row Client = refl
at_first_without_row Server = refl

pub after_ignore_where_offered_row : (side : Side) → taken_by (toys_with Offer Offer) side (hears (Ignore []) ∷ lined_by (toys_with Offer Offer) side) ≡ from_to 1 4 ++ 20 ∷ []
unfolding methods
after_ignore_where_offered_row Client = refl
after_ignore_where_offered_row Server = refl

pub in_strict_exchange_row : taken_by (toys_with Offer Offer) Client (offered_by (toys_with Offer Offer) Client) ≡ 1 ∷ 31 ∷ []
unfolding methods
in_strict_exchange_row = refl

pub in_strict_exchange_of_server_row : taken_by (toys_with Offer Offer) Server (offered_by (toys_with Offer Offer) Server) ≡ 1 ∷ 30 ∷ []
unfolding methods
in_strict_exchange_of_server_row = refl

pub in_plain_exchange_row : taken_by plain Client (offered_by plain Client) ≡ from_to 1 4 ++ 31 ∷ []
unfolding methods
in_plain_exchange_row = refl

pub in_plain_exchange_of_server_row : taken_by plain Server (offered_by plain Server) ≡ from_to 1 4 ++ 30 ∷ []
unfolding methods
in_plain_exchange_of_server_row = refl

pub where_only_the_client_offers_row : taken_by (toys_with Offer Off) Client (offered_by (toys_with Offer Off) Client) ≡ from_to 1 4 ++ 31 ∷ []
unfolding methods
where_only_the_client_offers_row = refl

pub where_only_the_peer_offers_row : taken_by (toys_with Offer Off) Server (offered_by (toys_with Offer Off) Server) ≡ from_to 1 4 ++ 30 ∷ []
unfolding methods
where_only_the_peer_offers_row = refl

pub after_strict_exchange_row : (side : Side) → taken_by (toys_with Offer Offer) side (completed_by (toys_with Offer Offer) side) ≡ 1 ∷ 21 ∷ []
unfolding methods
after_strict_exchange_row Client = refl
after_strict_exchange_row Server = refl

pub after_plain_exchange_row : (side : Side) → taken_by plain side (completed_by plain side) ≡ from_to 1 4 ++ 21 ∷ []
unfolding methods
after_plain_exchange_row Client = refl
after_plain_exchange_row Server = refl

pub after_plain_wrong_guess_row : (side : Side) → taken_by plain side (hears (KexInit (guessing_by plain side true)) ∷ lined_by plain side) ≡ from_to 30 49
unfolding methods
after_plain_wrong_guess_row Client = refl
after_plain_wrong_guess_row Server = refl

pub after_plain_skipped_packet_row : taken_by plain Server (TookGuess [] ∷ hears (KexInit (guessing_by plain Server true)) ∷ lined_by plain Server) ≡ from_to 1 4 ++ 30 ∷ []
unfolding methods
after_plain_skipped_packet_row = refl

pub with_plain_keys_row : taken_by plain Client (keyed_by plain Client) ≡ from_to 0 4 ++ from_to 8 19 ++ from_to 22 29 ++ from_to 32 49 ++ from_to 54 59 ++ from_to 61 79
unfolding methods
with_plain_keys_row = refl

pub with_plain_keys_of_server_row : taken_by plain Server (keyed_by plain Server) ≡ from_to 0 5 ++ from_to 8 19 ++ from_to 22 29 ++ from_to 32 49 ++ from_to 54 59 ++ from_to 61 79
unfolding methods
with_plain_keys_of_server_row = refl

pub unmarked_where_offered_row : (side : Side) → refusal_by (toys_with Offer Offer) side (lined_by (toys_with Offer Offer) side) (KexInit (offer_by plain (peer side) true)) ≡ None
unfolding methods
unmarked_where_offered_row Client = refl
unmarked_where_offered_row Server = refl

pub unmarked_without_row : (side : Side) → refusal_by plain side (lined_by plain side) (KexInit (offer_by plain (peer side) true)) ≡ None
unfolding methods
unmarked_without_row Client = refl
unmarked_without_row Server = refl

pub marked_where_offered_row : (side : Side) → refusal_by (toys_with Offer Offer) side (lined_by (toys_with Offer Offer) side) (KexInit (offer_by toy (peer side) true)) ≡ None
unfolding methods
marked_where_offered_row Client = refl
marked_where_offered_row Server = refl

pub marked_without_row : (side : Side) → refusal_by plain side (lined_by plain side) (KexInit (offer_by toy (peer side) true)) ≡ None
unfolding methods
marked_without_row Client = refl
marked_without_row Server = refl

pub marked_and_late_row : (side : Side) → refusal_by (toys_with Offer Offer) side (hears (Ignore []) ∷ lined_by (toys_with Offer Offer) side) (KexInit (offer_by toy (peer side) true)) ≡ Some Unexpected
unfolding methods
marked_and_late_row Client = refl
marked_and_late_row Server = refl

pub marked_and_late_where_required_row : (side : Side) → refusal_by toy side (hears (Ignore []) ∷ lined_by toy side) (KexInit (offer_by toy (peer side) true)) ≡ Some Unexpected
unfolding methods
marked_and_late_where_required_row Client = refl
marked_and_late_where_required_row Server = refl

pub unmarked_and_late_row : (side : Side) → refusal_by (toys_with Offer Offer) side (hears (Ignore []) ∷ lined_by (toys_with Offer Offer) side) (KexInit (offer_by plain (peer side) true)) ≡ None
unfolding methods
unmarked_and_late_row Client = refl
unmarked_and_late_row Server = refl

pub late_without_row : (side : Side) → refusal_by plain side (hears (Ignore []) ∷ lined_by plain side) (KexInit (offer_by toy (peer side) true)) ≡ None
unfolding methods
late_without_row Client = refl
late_without_row Server = refl

pub late_before_no_common_row : (side : Side) → refusal_by (toys_with Offer Offer) side (hears (Ignore []) ∷ lined_by (toys_with Offer Offer) side) (KexInit (record (offer_by toy (peer side) true) { host = [] })) ≡ Some Unexpected
unfolding methods
late_before_no_common_row Client = refl
late_before_no_common_row Server = refl

pub not_strict_before_late_row : (side : Side) → refusal_by toy side (hears (Ignore []) ∷ lined_by toy side) (KexInit (offer_by plain (peer side) true)) ≡ Some NotStrict
unfolding methods
not_strict_before_late_row Client = refl
not_strict_before_late_row Server = refl

pub no_common_where_unmarked_row : (side : Side) → refusal_by (toys_with Offer Offer) side (lined_by (toys_with Offer Offer) side) (KexInit (record (offer_by plain (peer side) true) { host = [] })) ≡ Some NoCommon
unfolding methods
no_common_where_unmarked_row Client = refl
no_common_where_unmarked_row Server = refl

pub in_strict_session_row : (side : Side) → taking_number side (keyed_by (toys_with Offer Offer) side) ≡ 0
unfolding methods
in_strict_session_row Client = refl
in_strict_session_row Server = refl

pub own_in_strict_session_row : (side : Side) → sending_number side (completed_by (toys_with Offer Offer) side) ≡ 0
unfolding methods
own_in_strict_session_row Client = refl
own_in_strict_session_row Server = refl

pub in_plain_session_row : (side : Side) → taking_number side (keyed_by plain side) ≡ 3
unfolding methods
in_plain_session_row Client = refl
in_plain_session_row Server = refl

pub own_in_plain_session_row : (side : Side) → sending_number side (completed_by plain side) ≡ 3
unfolding methods
own_in_plain_session_row Client = refl
own_in_plain_session_row Server = refl

pub where_one_end_offers_row : (side : Side) → taking_number side (keyed_by (toys_with Offer Off) side) ≡ 3
unfolding methods
where_one_end_offers_row Client = refl
where_one_end_offers_row Server = refl

pub count_of_plain_epoch_row : (side : Side) → count (took (keyed_by plain side)) ≡ 0
unfolding methods
count_of_plain_epoch_row Client = refl
count_of_plain_epoch_row Server = refl

pub last_number_row : (l : List Payload) → length l ≡ 2 ^ 32 - 1 → wire_number false l ≡ 2 ^ 32 - 1
unfolding methods
last_number_row l e = rw e refl

pub after_the_last_row : (l : List Payload) → length l ≡ 2 ^ 32 → wire_number false l ≡ 0
unfolding methods
after_the_last_row l e = rw e refl

pub unimplemented_row : Answer plain Client (keyed_by plain Client) None (Unknown 9) (says (Unimplemented 3) ∷ [])
unfolding methods
unimplemented_row = of_transport (unknown 9 [])

pub next_unimplemented_row : Answer plain Client (hears (Ignore []) ∷ keyed_by plain Client) None (Unknown 9) (says (Unimplemented 4) ∷ [])
unfolding methods
next_unimplemented_row = of_transport (unknown 9 [])

pub required_row : (offer_by toy Client true).kex ≡ codes "curve25519-sha256" ∷ client_marker ∷ []
unfolding methods
required_row = refl

pub offered_row : (offer_by (toys_with Offer Offer) Server true).kex ≡ codes "curve25519-sha256" ∷ server_marker ∷ []
unfolding methods
offered_row = refl

pub not_offered_row : (side : Side) → (offer_by plain side true).kex ≡ codes "curve25519-sha256" ∷ []
unfolding methods
not_offered_row Client = refl
not_offered_row Server = refl

pub of_extensions_row : (offer_by announcing Client true).kex ≡ codes "curve25519-sha256" ∷ client_extension_marker ∷ client_marker ∷ []
unfolding methods
of_extensions_row = refl

pub of_extensions_of_server_row : (offer_by announcing Server true).kex ≡ codes "curve25519-sha256" ∷ server_extension_marker ∷ server_marker ∷ []
unfolding methods
of_extensions_of_server_row = refl

pub of_none_taken_row : (side : Side) → (offer_by (toys_announcing toy_extensions toy_extensions false) side true).kex ≡ (offer_by toy side true).kex
unfolding methods
of_none_taken_row Client = refl
of_none_taken_row Server = refl

pub not_later_row : (side : Side) → (offer_by announcing side false).kex ≡ codes "curve25519-sha256" ∷ []
unfolding methods
not_later_row Client = refl
not_later_row Server = refl

pub not_chosen_row : common Kex (lists_of (record (offer_by toy Client true) { kex = client_marker ∷ server_marker ∷ client_extension_marker ∷ server_extension_marker ∷ [] })) (lists_of (record (offer_by toy Server true) { kex = client_marker ∷ server_marker ∷ client_extension_marker ∷ server_extension_marker ∷ [] })) ≡ None
unfolding methods
not_chosen_row = refl

pub not_guessed_row : (side : Side) → is_wrong_guess (record (offer_by announcing (peer side) true) { kex = client_extension_marker ∷ server_extension_marker ∷ codes "curve25519-sha256" ∷ []; follows = true }) (offer_by announcing side false) ≡ false
unfolding methods
not_guessed_row Client = refl
not_guessed_row Server = refl

pub taken_first_row : (side : Side) → may_take announcing side (keyed_by announcing side) 7 ≡ true
unfolding methods
taken_first_row Client = refl
taken_first_row Server = refl

pub taken_first_in_plain_session_row : (side : Side) → may_take plain_announcing side (keyed_by plain_announcing side) 7 ≡ true
unfolding methods
taken_first_in_plain_session_row Client = refl
taken_first_in_plain_session_row Server = refl

pub not_before_newkeys_row : (side : Side) → may_take announcing side (completed_by announcing side) 7 ≡ false
unfolding methods
not_before_newkeys_row Client = refl
not_before_newkeys_row Server = refl

pub not_after_another_row : (side : Side) → may_take announcing side (hears (Ignore []) ∷ keyed_by announcing side) 7 ≡ false
unfolding methods
not_after_another_row Client = refl
not_after_another_row Server = refl

pub not_twice_row : (side : Side) → may_take announcing side (hears (ExtInfo toy_extensions) ∷ keyed_by announcing side) 7 ≡ false
unfolding methods
not_twice_row Client = refl
not_twice_row Server = refl

pub not_without_own_marker_row : (side : Side) → may_take toy side (keyed_by toy side) 7 ≡ false
unfolding methods
not_without_own_marker_row Client = refl
not_without_own_marker_row Server = refl

pub not_after_later_newkeys_row : (side : Side) → may_take announcing side (hears NewKeys ∷ says NewKeys ∷ hears (KexInit (offer_by announcing (peer side) false)) ∷ says (KexInit (offer_by announcing side false)) ∷ keyed_by announcing side) 7 ≡ false
unfolding methods
not_after_later_newkeys_row Client = refl
not_after_later_newkeys_row Server = refl

pub told_row : (side : Side) → Answer announcing side (keyed_by announcing side) None (ExtInfo toy_extensions) (Told (GotExtensions toy_extensions) ∷ [])
unfolding methods
told_row Client = of_transport (extensions toy_extensions)
told_row Server = of_transport (extensions toy_extensions)

pub none_told_row : (side : Side) → Answer announcing side (keyed_by announcing side) None (ExtInfo []) (Told (GotExtensions []) ∷ [])
unfolding methods
none_told_row Client = of_transport (extensions [])
none_told_row Server = of_transport (extensions [])

pub sent_by_server_row : Answer announcing Server (offered_by announcing Server) None (KexEcdhInit (secret 1)) (Told (Completed 1) ∷ says (ExtInfo toy_extensions) ∷ says NewKeys ∷ says (first_reply_by announcing) ∷ [])
unfolding methods
sent_by_server_row = of_completion none (init (secret 1) [] [] (announced [] refl))

pub sent_by_client_row : Answer announcing Client (offered_by announcing Client) None (first_reply_by announcing) (Told (Completed 1) ∷ says (ExtInfo toy_extensions) ∷ says NewKeys ∷ [])
unfolding methods
sent_by_client_row = of_completion none (reply _ _ _ [] (announced [] refl))

pub none_to_announce_row : Answer (toys_announcing [] [] true) Server (offered_by (toys_announcing [] [] true) Server) None (KexEcdhInit (secret 1)) (Told (Completed 1) ∷ says NewKeys ∷ says (first_reply_by (toys_announcing [] [] true)) ∷ [])
unfolding methods
none_to_announce_row = of_completion none (init (secret 1) [] [] (nothing refl))

pub none_taken_by_peer_row : Answer (toys_announcing toy_extensions toy_extensions false) Server (offered_by (toys_announcing toy_extensions toy_extensions false) Server) None (KexEcdhInit (secret 1)) (Told (Completed 1) ∷ says NewKeys ∷ says (first_reply_by (toys_announcing toy_extensions toy_extensions false)) ∷ [])
unfolding methods
none_taken_by_peer_row = of_completion none (init (secret 1) [] [] (nothing refl))

pub none_in_later_exchange_row : Answer announcing Server (hears (KexInit (offer_by announcing Client false)) ∷ says (KexInit (offer_by announcing Server false)) ∷ keyed_by announcing Server) None (KexEcdhInit (secret 4)) (Told (Completed 2) ∷ says NewKeys ∷ says (reply_now announcing (hears (KexInit (offer_by announcing Client false)) ∷ says (KexInit (offer_by announcing Server false)) ∷ keyed_by announcing Server) (secret 4)) ∷ [])
unfolding methods
none_in_later_exchange_row = of_completion none (init (secret 4) [] [] (nothing refl))
