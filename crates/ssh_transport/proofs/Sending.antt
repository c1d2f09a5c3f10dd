-- A payload that a transport sends for a layer above, as an item of a history.
use Rattle.std.proofs.Common.{◌≡◌, ℕ, List, refl, sym, subst, true, false}
use Rattle.ssh_model.specs.declared.side.Side.{Side}
use Rattle.ssh_model.specs.declared.side.Side.TheVariants.{Server}
use Rattle.ssh_model.specs.Protocol.Wire.Message.{Msg, Msg.ServiceRequest, Msg.ServiceAccept, Msg.KexInit, Msg.NewKeys, Msg.KexEcdhInit, Msg.KexEcdhReply, Msg.UserauthSuccess, message_number}
use Rattle.ssh_model.specs.Protocol.Sessions.Items.{Item}
use Rattle.ssh_model.specs.Protocol.Sessions.Parties.{Parties}
use Rattle.ssh_model.specs.Protocol.Sessions.Turns.{number_of}
use Rattle.ssh_model.specs.State.TransportLayer.Kept.{after_sent, after_success}
use Rattle.ssh_model.specs.State.TransportLayer.Summary.{IsPlain, SumsUp}
use Rattle.ssh_transport_machine.specs.State.{State}
use Rattle.ssh_model.specs.Protocol.Sessions.AnyLayers.{is_own_number}

-- Of a message whose number is no own one of a transport it keeps no more than that a packet went, except for USERAUTH_SUCCESS.
pub is_plain : (message : Msg) (payload : List ℕ) → number_of payload ≡ message_number message → is_own_number (number_of payload) ≡ false → (message ≡ UserauthSuccess → ⊥) → IsPlain message
is_plain (ServiceRequest service) payload e own other = absurd (cc (e, own))
is_plain (ServiceAccept service) payload e own other = absurd (cc (e, own))
is_plain (KexInit proposal) payload e own other = absurd (cc (e, own))
is_plain NewKeys payload e own other = absurd (cc (e, own))
is_plain (KexEcdhInit q_c) payload e own other = absurd (cc (e, own))
is_plain (KexEcdhReply k_s q_s signature) payload e own other = absurd (cc (e, own))
is_plain UserauthSuccess payload e own other = absurd (other refl)
is_plain _ payload e own other = tt

pub sums_with : {K : Type 0} (p : Parties K) (side : Side) (history : List Item) (old new : State K) → new ≡ record old { kept = after_sent old.kept } → SumsUp p side history (after_sent old.kept) → SumsUp p side history new.kept
sums_with {K} p side history old new after sums = subst (λ (s : State K). SumsUp p side history s.kept) (sym after) sums

pub success_with : {K : Type 0} (p : Parties K) (history : List Item) (old new : State K) → new ≡ record old { kept = after_sent old.kept } → SumsUp p Server history (after_success (after_sent old.kept)) →
    SumsUp p Server history (record new.kept { authenticated = true })
success_with {K} p history old new after sums = subst (λ (s : State K). SumsUp p Server history (record s.kept { authenticated = true })) (sym after) sums
