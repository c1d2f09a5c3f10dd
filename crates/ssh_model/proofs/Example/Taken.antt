-- Which messages the toy ends may take next, of all numbers.
use Rattle.std.specs.Prelude.{◌≡◌, ◌∷◌, ◌++◌, true, false, [], refl}
use Rattle.ssh_model.specs.declared.side.Side.{Side}
use Rattle.ssh_model.specs.declared.side.Side.TheVariants.{Client, Server}
use Rattle.ssh_model.specs.Example.Histories.{taken, hears, offer_of, lined, offered, completed, keyed, asking, served, requesting, probing_client, admitted, rekeying, offered_again, completed_again, guessing}
use Rattle.ssh_model.specs.Example.Toys.{from_to}
use Rattle.ssh_model.specs.Protocol.Wire.Message.{Msg.KexInit}
use Rattle.ssh_model.specs.Protocol.Sessions.Items.{Item.TookGuess}
use Rattle.ssh_model.specs.Protocol.KeyExchange.Choice.{methods}

pub at_first_row : (side : Side) → taken side (lined side) ≡ 1 ∷ 20 ∷ []
unfolding methods
at_first_row Client = refl
at_first_row Server = refl

pub in_first_exchange_row : taken Client (offered Client) ≡ 1 ∷ 31 ∷ []
unfolding methods
in_first_exchange_row = refl

pub in_first_exchange_of_server_row : taken Server (offered Server) ≡ 1 ∷ 30 ∷ []
unfolding methods
in_first_exchange_of_server_row = refl

pub after_first_exchange_row : (side : Side) → taken side (completed side) ≡ 1 ∷ 21 ∷ []
unfolding methods
after_first_exchange_row Client = refl
after_first_exchange_row Server = refl

pub after_wrong_guess_row : (side : Side) → taken side (hears (KexInit (guessing side true)) ∷ lined side) ≡ from_to 30 49
unfolding methods
after_wrong_guess_row Client = refl
after_wrong_guess_row Server = refl

pub after_skipped_packet_row : taken Server (TookGuess [] ∷ hears (KexInit (guessing Server true)) ∷ lined Server) ≡ 1 ∷ 30 ∷ []
unfolding methods
after_skipped_packet_row = refl

pub after_right_guess_row : taken Server (hears (KexInit (record (offer_of Client true) { follows = true })) ∷ lined Server) ≡ 1 ∷ 30 ∷ []
unfolding methods
after_right_guess_row = refl

pub by_keyed_server_row : taken Server (keyed Server) ≡ from_to 0 5 ++ from_to 8 19 ++ from_to 22 29 ++ from_to 32 49 ++ from_to 54 59 ++ from_to 61 79
unfolding methods
by_keyed_server_row = refl

pub by_keyed_client_row : taken Client (keyed Client) ≡ from_to 0 4 ++ from_to 8 19 ++ from_to 22 29 ++ from_to 32 49 ++ from_to 54 59 ++ from_to 61 79
unfolding methods
by_keyed_client_row = refl

pub by_server_after_service_row : taken Server (served Server) ≡ from_to 0 4 ++ from_to 8 19 ++ from_to 22 29 ++ from_to 32 50 ++ from_to 54 59 ++ from_to 61 79
unfolding methods
by_server_after_service_row = refl

pub by_client_that_asks_for_service_row : taken Client asking ≡ from_to 0 4 ++ from_to 6 6 ++ from_to 8 19 ++ from_to 22 29 ++ from_to 32 49 ++ from_to 54 59 ++ from_to 61 79
unfolding methods
by_client_that_asks_for_service_row = refl

pub by_client_after_service_row : taken Client (served Client) ≡ from_to 0 4 ++ from_to 8 19 ++ from_to 22 29 ++ from_to 32 49 ++ from_to 53 59 ++ from_to 61 79
unfolding methods
by_client_after_service_row = refl

pub by_client_that_requests_row : taken Client requesting ≡ from_to 0 4 ++ from_to 8 19 ++ from_to 22 29 ++ from_to 32 49 ++ from_to 51 59 ++ from_to 61 79
unfolding methods
by_client_that_requests_row = refl

pub by_client_that_probes_row : taken Client probing_client ≡ from_to 0 4 ++ from_to 8 19 ++ from_to 22 29 ++ from_to 32 49 ++ from_to 51 79
unfolding methods
by_client_that_probes_row = refl

pub by_authenticated_client_row : taken Client (admitted Client) ≡ from_to 0 4 ++ from_to 8 20 ++ from_to 22 29 ++ from_to 32 49 ++ from_to 54 59 ++ from_to 61 255
unfolding methods
by_authenticated_client_row = refl

pub by_authenticated_server_row : taken Server (admitted Server) ≡ from_to 0 4 ++ from_to 8 20 ++ from_to 22 29 ++ from_to 32 50 ++ from_to 54 59 ++ from_to 61 255
unfolding methods
by_authenticated_server_row = refl

pub by_client_that_rekeys_row : taken Client (rekeying Client) ≡ from_to 0 4 ++ from_to 8 20 ++ from_to 22 29 ++ from_to 32 49 ++ from_to 54 59 ++ from_to 61 255
unfolding methods
by_client_that_rekeys_row = refl

pub in_later_exchange_row : taken Client (offered_again Client) ≡ from_to 0 4 ++ from_to 8 19 ++ from_to 22 29 ++ 31 ∷ []
unfolding methods
in_later_exchange_row = refl

pub in_later_exchange_of_server_row : taken Server (offered_again Server) ≡ from_to 0 4 ++ from_to 8 19 ++ from_to 22 30
unfolding methods
in_later_exchange_of_server_row = refl

pub after_later_exchange_row : (side : Side) → taken side (completed_again side) ≡ from_to 0 4 ++ from_to 8 19 ++ from_to 21 29
unfolding methods
after_later_exchange_row Client = refl
after_later_exchange_row Server = refl

pub after_later_wrong_guess_row : (side : Side) → taken side (hears (KexInit (guessing side false)) ∷ rekeying side) ≡ from_to 30 49
unfolding methods
after_later_wrong_guess_row Client = refl
after_later_wrong_guess_row Server = refl
