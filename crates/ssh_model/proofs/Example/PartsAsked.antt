-- Which part the toy ends ask, under which name.
use Rattle.std.specs.Prelude.{◌≡◌, ◌++◌, true, false, [], Some, codes, replicate}
use Rattle.ssh_model.specs.declared.side.Side.TheVariants.{Client, Server}
use Rattle.ssh_model.specs.Protocol.KeyExchange.Exchanges.{sending_key, taking_key}
use Rattle.ssh_model.specs.Protocol.Sessions.Transport.{host_key_now, is_trusted, point_now}
use Rattle.ssh_model.specs.Example.Toys.{naming_toys, own_points, secret, two_host_keys}
use Rattle.ssh_model.specs.Example.Histories.{offered, offered_by, keyed_naming}
use Rattle.std.specs.Prelude.{refl}
use Rattle.ssh_model.specs.Protocol.KeyExchange.Choice.{methods}

pub client_sends_row : sending_key naming_toys Client (keyed_naming Client) ≡ Some (codes "a" ++ codes "c")
unfolding methods
client_sends_row = refl

pub client_takes_row : taking_key naming_toys Client (keyed_naming Client) ≡ Some (codes "b" ++ codes "d")
unfolding methods
client_takes_row = refl

pub server_sends_row : sending_key naming_toys Server (keyed_naming Server) ≡ Some (codes "b" ++ codes "d")
unfolding methods
server_sends_row = refl

pub server_takes_row : taking_key naming_toys Server (keyed_naming Server) ≡ Some (codes "a" ++ codes "c")
unfolding methods
server_takes_row = refl

pub by_server_row : host_key_now two_host_keys (offered_by two_host_keys Server) ≡ codes "x"
unfolding methods
by_server_row = refl

pub by_client_row : is_trusted two_host_keys (offered_by two_host_keys Client) (codes "x") [] [] ≡ true
unfolding methods
by_client_row = refl

pub other_by_client_row : is_trusted two_host_keys (offered_by two_host_keys Client) (codes "toy@example.com") [] [] ≡ false
unfolding methods
other_by_client_row = refl

pub client_row : point_now own_points Client (offered Client) ≡ secret 1
unfolding methods
client_row = refl

pub server_row : point_now own_points Server (offered Server) ≡ replicate 32 9
unfolding methods
server_row = refl
