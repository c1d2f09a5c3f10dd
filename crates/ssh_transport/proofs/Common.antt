-- The names that the proofs of both roles cite, passed on from one place. Declares nothing.
pub use Rattle.std.proofs.lemmas.List.{take_all}
pub use Rattle.ssh_model.specs.Laws.Sizes.{HasPayloadSize}
pub use Rattle.ssh_model.specs.Protocol.Channels.Connection.{AreReplies, owed_replies}
pub use Rattle.ssh_model.specs.Protocol.KeyExchange.Choice.{Chosen}
pub use Rattle.ssh_model.specs.Protocol.KeyExchange.Exchanges.{Material}
pub use Rattle.ssh_model.specs.Protocol.KeyExchange.Exchange.{exchange_hash}
pub use Rattle.ssh_model.specs.Protocol.Sessions.Items.{Item, Item.Died, Item.Refused, Encoded.EncodedBy}
pub use Rattle.ssh_model.specs.Protocol.Sessions.Parties.{Agreement, Parties, agreement_of, offer_of}
pub use Rattle.ssh_model.specs.Protocol.Sessions.Phases.{Phase}
pub use Rattle.ssh_model.specs.Protocol.Sessions.Refusals.{Check.RefusedWhere, first_refusal, refusal_name}
pub use Rattle.ssh_model.specs.Protocol.Sessions.TurnClaims.{HasEncoding}
pub use Rattle.ssh_model.specs.Protocol.Sessions.Turns.{AreEncoded}
pub use Rattle.ssh_model.specs.Protocol.Side.{peer}
pub use Rattle.ssh_model.specs.Protocol.Wire.DataTypes.{number}
pub use Rattle.ssh_model.specs.Protocol.Wire.Message.{IsPayload, IsWrittenPayload, Msg, Msg.Disconnect, Msg.KexEcdhInit, Msg.KexEcdhReply, Msg.KexInit, Msg.NewKeys}
pub use Rattle.ssh_model.specs.Protocol.Wire.Sealing.{Crypto}
pub use Rattle.ssh_model.specs.State.TransportLayer.Directions.{Direction}
pub use Rattle.ssh_model.specs.State.TransportLayer.Kept.{Completes, ExchangeParts, IsChosen, Transport, after_completion, after_sent, after_taken, is_good_point, message_checks, own_point, shared_value, shared_with, takes}
pub use Rattle.ssh_model.specs.State.TransportLayer.Summary.{SumsUp, items_sent, parts_of}
pub use Rattle.ssh_model.specs.State.TransportLayer.Turns.{IsRefused, PutsPackets, Reads, Turned}
pub use Rattle.ssh_model.specs.declared.refusal.Refusal.TheVariants.{BadPoint, NumberSpent}
pub use Rattle.ssh_model.specs.declared.side.Side.{Side}
pub use Rattle.ssh_model.specs.declared.side.Side.TheVariants.{Client, Server}
pub use Rattle.ssh_packet.specs.Directions.{newkeys}
pub use Rattle.ssh_kex.specs.Values.{owned_chosen}
pub use Rattle.ssh_transport.specs.Choices.{IsChoosing}
pub use Rattle.ssh_transport_machine.specs.Replies.{IsRead}
pub use Rattle.ssh_transport.specs.Endings.{ExchangeEnds, PayloadRefused, WouldEnd}
pub use Rattle.ssh_transport_machine.specs.Finishing.{AreKeys, HasAnnouncement, IsAnnouncement, after_announced, announced_by, forgotten, key_by, keyed, session_by}
pub use Rattle.ssh_transport_machine.specs.Hashing.{inputs_in}
pub use Rattle.ssh_transport_machine.specs.Classifying.{MessageIs, PayloadIs}
pub use Rattle.ssh_transport_machine.specs.Puts.{Outs}
pub use Rattle.ssh_transport.specs.Shown.{WouldAnswer, WouldSay}
pub use Rattle.ssh_transport.specs.Standing.{IsStanding}
pub use Rattle.ssh_transport_machine.specs.State.{State, awaits_exchange, before_taken, dead_state, noted}
pub use Rattle.ssh_transport_machine.specs.declared.machine.kexinit.KexinitFacts.{KexinitFacts}
pub use Rattle.ssh_transport_machine.specs.declared.machine.sending.SendOutcome.TheVariants.{Done}
pub use Rattle.ssh_transport.specs.Kexinits.{HasAnswer, KexinitDone, KexinitSpent}
pub use Rattle.ssh_transport.specs.Living.{IsKeptLive, IsLive}
pub use Rattle.ssh_transport.specs.Own.{Own}
pub use Rattle.ssh_transport.specs.declared.outcome.TransportTurn.{TransportTurn}
pub use Rattle.ssh_transport.proofs.Becoming.{Became, completed_by}
pub use Rattle.ssh_transport.proofs.Endings.{EndsBy, all_encoded, chosen_before, finished_by, refused_by, spent_by, would_end_by}
pub use Rattle.ssh_transport.proofs.Exchanging.{Numbered, announces, lines_same, newkeys_encoded, side_same, still_by, taking_same, user_after, user_by, user_same}
pub use Rattle.ssh_transport.proofs.LiftsAt.{KeptOrOver, LiftsAt, kept_by, lifts_answering, lifts_each, lifts_ending, lifts_nothing}
pub use Rattle.ssh_transport.specs.Laws.{ChoiceLaw, EndedLaw, EndsExchange, ForgetsLaw, RefusedLaw, RefusesFor, RunsOut, SpentLaw}
pub use Rattle.ssh_transport.specs.Roles.{IsCompleted, Lifts, OwnTurn, OwnWould}
