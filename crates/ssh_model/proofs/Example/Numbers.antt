-- Epochs, numbers and keys of the toy ends.
use Rattle.std.specs.Prelude.{◌≡◌, ℕ, List, ◌∷◌, ◌++◌, true, [], Some, None, codes, refl}
use Rattle.ssh_model.specs.declared.side.Side.{Side}
use Rattle.ssh_model.specs.declared.side.Side.TheVariants.{Client, Server}
use Rattle.ssh_model.specs.Protocol.Side.{peer}
use Rattle.ssh_model.specs.Example.Histories.{hears, lined, offered, completed, keyed, admitted, offered_again, completed_again, guessing, plain_crypto, first_inputs, mac_key}
use Rattle.ssh_model.specs.Example.Toys.{toy, secret}
use Rattle.ssh_model.specs.Protocol.Wire.Message.{Msg.KexInit}
use Rattle.ssh_model.specs.Protocol.KeyExchange.Exchange.{Inputs, exchange_hash, derived}
use Rattle.ssh_model.specs.Protocol.Sessions.Items.{sent, took, Item.TookGuess}
use Rattle.ssh_model.specs.Protocol.Sessions.Epochs.{epoch}
use Rattle.ssh_model.specs.Protocol.KeyExchange.Exchanges.{sending_number, taking_number, exchange, choice, iv_letter, cipher_letter, mac_letter, key_of, sending_key, taking_key}
use Rattle.ssh_model.specs.Protocol.KeyExchange.Choice.{methods}

pub number_before_newkeys_row : sending_number Client (offered Client) ≡ 2
unfolding methods
number_before_newkeys_row = refl

pub number_after_newkeys_row : (side : Side) → sending_number side (completed side) ≡ 0
unfolding methods
number_after_newkeys_row Client = refl
number_after_newkeys_row Server = refl

pub number_taken_before_newkeys_row : taking_number Client (completed Client) ≡ 2
unfolding methods
number_taken_before_newkeys_row = refl

pub number_taken_after_newkeys_row : (side : Side) → taking_number side (keyed side) ≡ 0
unfolding methods
number_taken_after_newkeys_row Client = refl
number_taken_after_newkeys_row Server = refl

pub number_later_row : sending_number Client (admitted Client) ≡ 2
unfolding methods
number_later_row = refl

pub number_after_later_newkeys_row : (side : Side) → sending_number side (completed_again side) ≡ 0
unfolding methods
number_after_later_newkeys_row Client = refl
number_after_later_newkeys_row Server = refl

pub skipped_packet_has_number_row : taking_number Server (TookGuess [] ∷ hears (KexInit (guessing Server true)) ∷ lined Server) ≡ 2
unfolding methods
skipped_packet_has_number_row = refl

pub epoch_before_newkeys_row : (side : Side) → epoch (sent (offered side)) ≡ 0
unfolding methods
epoch_before_newkeys_row Client = refl
epoch_before_newkeys_row Server = refl

pub epoch_after_newkeys_row : (side : Side) → epoch (sent (completed side)) ≡ 1
unfolding methods
epoch_after_newkeys_row Client = refl
epoch_after_newkeys_row Server = refl

pub epoch_of_peer_row : (side : Side) → epoch (took (completed side)) ≡ 0
unfolding methods
epoch_of_peer_row Client = refl
epoch_of_peer_row Server = refl

pub epoch_after_later_newkeys_row : (side : Side) → epoch (sent (completed_again side)) ≡ 2
unfolding methods
epoch_after_later_newkeys_row Client = refl
epoch_after_later_newkeys_row Server = refl

pub no_key_before_newkeys_row : (side : Side) → sending_key toy side (offered side) ≡ None
unfolding methods
no_key_before_newkeys_row Client = refl
no_key_before_newkeys_row Server = refl

pub no_key_of_peer_before_newkeys_row : (side : Side) → taking_key toy side (completed side) ≡ None
unfolding methods
no_key_of_peer_before_newkeys_row Client = refl
no_key_of_peer_before_newkeys_row Server = refl

pub key_after_newkeys_row : (side : Side) → sending_key toy side (completed side) ≡ Some (mac_key side (first_inputs side))
unfolding methods
key_after_newkeys_row Client = refl
key_after_newkeys_row Server = refl

pub key_of_peer_after_newkeys_row : (side : Side) → taking_key toy side (keyed side) ≡ Some (mac_key (peer side) (first_inputs side))
unfolding methods
key_of_peer_after_newkeys_row Client = refl
key_of_peer_after_newkeys_row Server = refl

pub key_lasts_while_rekeying_row : (side : Side) → sending_key toy side (offered_again side) ≡ Some (mac_key side (first_inputs side))
unfolding methods
key_lasts_while_rekeying_row Client = refl
key_lasts_while_rekeying_row Server = refl

pub letters_of_keys_row : iv_letter Client ∷ iv_letter Server ∷ cipher_letter Client ∷ cipher_letter Server ∷ mac_letter Client ∷ mac_letter Server ∷ [] ≡ codes "ABCDEF"
unfolding methods
letters_of_keys_row = refl

pub parts_of_key_row : (x : Inputs) (session_hash : List ℕ) → key_of plain_crypto Server x session_hash (choice Client 0 (offered Client)) ≡ derived x.shared (exchange_hash x) (iv_letter Server) session_hash 2 ++ derived x.shared (exchange_hash x) (cipher_letter Server) session_hash 3 ++ derived x.shared (exchange_hash x) (mac_letter Server) session_hash 4
unfolding methods
parts_of_key_row x session_hash = refl

pub same_inputs_row : first_inputs Client ≡ first_inputs Server
unfolding methods
same_inputs_row = refl

pub shared_of_first_exchange_row : (side : Side) → (first_inputs side).shared ≡ 3
unfolding methods
shared_of_first_exchange_row Client = refl
shared_of_first_exchange_row Server = refl

pub shared_of_later_exchange_row : (side : Side) → (exchange toy side 1 (completed_again side)).shared ≡ 12
unfolding methods
shared_of_later_exchange_row Client = refl
shared_of_later_exchange_row Server = refl

pub lines_of_exchange_row : (side : Side) → (first_inputs side).client_version ≡ codes "SSH-2.0-c"
unfolding methods
lines_of_exchange_row Client = refl
lines_of_exchange_row Server = refl

pub points_of_exchange_row : (side : Side) → (first_inputs side).server_point ≡ secret 2
unfolding methods
points_of_exchange_row Client = refl
points_of_exchange_row Server = refl

pub points_of_later_exchange_row : (side : Side) → (exchange toy side 1 (completed_again side)).client_point ≡ secret 4
unfolding methods
points_of_later_exchange_row Client = refl
points_of_later_exchange_row Server = refl
