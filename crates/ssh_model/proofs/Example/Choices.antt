-- What is chosen, and which guess is wrong.
use Rattle.std.specs.Prelude.{◌≡◌, ◌∷◌, ◌++◌, true, false, [], Some, None, codes, refl}
use Rattle.ssh_model.specs.declared.side.Side.{Side}
use Rattle.ssh_model.specs.declared.side.Side.TheVariants.{Client, Server}
use Rattle.ssh_model.specs.Example.Histories.{says, hears, offer_of}
use Rattle.ssh_model.specs.Example.Toys.{toy}
use Rattle.ssh_model.specs.Protocol.Wire.Message.{Msg.KexInit}
use Rattle.ssh_model.specs.Protocol.Sessions.Parties.{marker_of, lists_of}
use Rattle.ssh_model.specs.Protocol.KeyExchange.Exchanges.{first_common, common, choice}
use Rattle.ssh_model.specs.Protocol.Sessions.Phases.{is_wrong_guess, own_names}
use Rattle.ssh_model.specs.Protocol.KeyExchange.Choice.{client_marker, server_marker, Kind.Kex, methods}

pub first_of_client_row : first_common (codes "a" ∷ codes "b" ∷ codes "c" ∷ []) (codes "c" ∷ codes "b" ∷ []) ≡ Some (codes "b")
unfolding methods
first_of_client_row = refl

pub nothing_in_common_row : first_common (codes "a" ∷ []) (codes "ab" ∷ []) ≡ None
unfolding methods
nothing_in_common_row = refl

pub markers_are_not_chosen_row : common Kex (lists_of (record (offer_of Client true) { kex = client_marker ∷ server_marker ∷ codes "a" ∷ [] })) (lists_of (record (offer_of Server true) { kex = server_marker ∷ client_marker ∷ codes "a" ∷ [] })) ≡ Some (codes "a")
unfolding methods
markers_are_not_chosen_row = refl

pub server_order_is_not_followed_row : (choice Server 0 (hears (KexInit (record (offer_of Client true) { host = codes "x" ∷ codes "y" ∷ [] })) ∷ says (KexInit (record (offer_of Server true) { host = codes "y" ∷ codes "x" ∷ [] })) ∷ [])).host ≡ codes "x"
unfolding methods
server_order_is_not_followed_row = refl

pub client_order_is_followed_row : (choice Client 0 (hears (KexInit (record (offer_of Server true) { host = codes "y" ∷ codes "x" ∷ [] })) ∷ says (KexInit (record (offer_of Client true) { host = codes "x" ∷ codes "y" ∷ [] })) ∷ [])).host ≡ codes "x"
unfolding methods
client_order_is_followed_row = refl

pub each_direction_is_chosen_row : (choice Client 0 (hears (KexInit (record (offer_of Server true) { mac_cs = codes "y" ∷ codes "x" ∷ []; mac_sc = codes "y" ∷ [] })) ∷ says (KexInit (record (offer_of Client true) { mac_cs = codes "x" ∷ codes "y" ∷ []; mac_sc = codes "x" ∷ codes "y" ∷ [] })) ∷ [])).mac_sc ≡ codes "y"
unfolding methods
each_direction_is_chosen_row = refl

pub no_guess_row : is_wrong_guess (record (offer_of Client true) { host = codes "x" ∷ [] }) (own_names toy Server) ≡ false
unfolding methods
no_guess_row = refl

pub right_guess_row : is_wrong_guess (record (offer_of Client true) { follows = true }) (own_names toy Server) ≡ false
unfolding methods
right_guess_row = refl

pub right_guess_after_marker_row : is_wrong_guess (record (offer_of Client true) { kex = client_marker ∷ codes "curve25519-sha256" ∷ []; follows = true }) (own_names toy Server) ≡ false
unfolding methods
right_guess_after_marker_row = refl

pub wrong_guess_of_method_row : is_wrong_guess (record (offer_of Client true) { kex = codes "x" ∷ codes "curve25519-sha256" ∷ []; follows = true }) (own_names toy Server) ≡ true
unfolding methods
wrong_guess_of_method_row = refl

pub wrong_guess_of_host_key_row : is_wrong_guess (record (offer_of Client true) { host = codes "x" ∷ codes "toy@example.com" ∷ []; follows = true }) (own_names toy Server) ≡ true
unfolding methods
wrong_guess_of_host_key_row = refl

pub marker_stands_last_row : (side : Side) → (offer_of side true).kex ≡ (offer_of side false).kex ++ marker_of side ∷ []
unfolding methods
marker_stands_last_row Client = refl
marker_stands_last_row Server = refl
