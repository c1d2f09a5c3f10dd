-- What the toy ends refuse an ask for.
use Rattle.std.specs.Prelude.{◌≡◌, ◌∷◌, false, [], Some, None, codes, replicate, map, refl}
use Rattle.ssh_model.specs.Protocol.Bounds.{longest_description}
use Rattle.ssh_model.specs.declared.side.Side.{Side}
use Rattle.ssh_model.specs.declared.side.Side.TheVariants.{Client, Server}
use Rattle.ssh_model.specs.Example.Histories.{ask_refusal, hears, opened, completed, keyed, asking, served, requesting, probing_client, admitted, fed_again, rekeying, completed_again, requests}
use Rattle.ssh_model.specs.Protocol.Wire.Message.{Msg.UserauthFailure, Msg.UserauthPkOk}
use Rattle.ssh_model.specs.Protocol.Sessions.Items.{Ask.AskService, Ask.AskNone, Ask.AskPassword, Ask.AskProbe, Ask.AskSign, Ask.AskRekey, Ask.AskDisconnect}
use Rattle.ssh_model.specs.Protocol.KeyExchange.Choice.{methods}
use Rattle.ssh_model.specs.declared.ask_refusal.AskRefusal.{AskRefusal}
use Rattle.ssh_model.specs.declared.ask_refusal.AskRefusal.TheVariants.{NotYet, Busy, TooLong, WrongSide}

pub service_row : ask_refusal Client (keyed Client) AskService ≡ None
unfolding methods
service_row = refl

pub service_at_server_row : ask_refusal Server (opened Server) AskService ≡ Some WrongSide
unfolding methods
service_at_server_row = refl

pub service_before_newkeys_row : ask_refusal Client (completed Client) AskService ≡ Some NotYet
unfolding methods
service_before_newkeys_row = refl

pub second_service_row : ask_refusal Client asking AskService ≡ Some Busy
unfolding methods
second_service_row = refl

pub requests_row : map (ask_refusal Client (served Client)) requests ≡ replicate 4 None
unfolding methods
requests_row = refl

pub requests_at_server_row : map (ask_refusal Server (served Server)) requests ≡ replicate 4 (Some WrongSide)
unfolding methods
requests_at_server_row = refl

pub requests_without_service_row : map (ask_refusal Client asking) requests ≡ replicate 4 (Some NotYet)
unfolding methods
requests_without_service_row = refl

pub requests_while_one_waits_row : map (ask_refusal Client requesting) requests ≡ replicate 4 (Some Busy)
unfolding methods
requests_while_one_waits_row = refl

pub requests_when_authenticated_row : map (ask_refusal Client (admitted Client)) requests ≡ replicate 4 (Some AskRefusal.Ended)
unfolding methods
requests_when_authenticated_row = refl

pub requests_after_failure_row : map (ask_refusal Client (hears (UserauthFailure [] false) ∷ requesting)) requests ≡ replicate 4 None
unfolding methods
requests_after_failure_row = refl

pub requests_after_key_ok_row : map (ask_refusal Client (hears (UserauthPkOk (codes "toy") (codes "k")) ∷ probing_client)) requests ≡ replicate 4 None
unfolding methods
requests_after_key_ok_row = refl

pub long_user_row : ask_refusal Client (served Client) (AskNone (replicate 33969 0)) ≡ None
unfolding methods
long_user_row = refl

pub too_long_user_row : ask_refusal Client (served Client) (AskNone (replicate 33970 0)) ≡ Some TooLong
unfolding methods
too_long_user_row = refl

pub authenticated_before_too_long_row : ask_refusal Client (admitted Client) (AskNone (replicate 33970 0)) ≡ Some AskRefusal.Ended
unfolding methods
authenticated_before_too_long_row = refl

pub long_password_row : ask_refusal Client (served Client) (AskPassword (codes "u") (replicate 33959 0)) ≡ None
unfolding methods
long_password_row = refl

pub too_long_password_row : ask_refusal Client (served Client) (AskPassword (codes "u") (replicate 33960 0)) ≡ Some TooLong
unfolding methods
too_long_password_row = refl

pub long_key_row : ask_refusal Client (served Client) (AskProbe (codes "u") (codes "toy") (replicate 33951 0)) ≡ None
unfolding methods
long_key_row = refl

pub too_long_key_row : ask_refusal Client (served Client) (AskProbe (codes "u") (codes "toy") (replicate 33952 0)) ≡ Some TooLong
unfolding methods
too_long_key_row = refl

pub long_key_with_signature_row : ask_refusal Client (served Client) (AskSign (codes "u") (codes "toy") (replicate 29851 0)) ≡ None
unfolding methods
long_key_with_signature_row = refl

pub too_long_key_with_signature_row : ask_refusal Client (served Client) (AskSign (codes "u") (codes "toy") (replicate 29852 0)) ≡ Some TooLong
unfolding methods
too_long_key_with_signature_row = refl

pub rekey_row : (side : Side) → ask_refusal side (fed_again side) AskRekey ≡ None
unfolding methods
rekey_row Client = refl
rekey_row Server = refl

pub rekey_before_authentication_row : (side : Side) → ask_refusal side (served side) AskRekey ≡ Some NotYet
unfolding methods
rekey_before_authentication_row Client = refl
rekey_before_authentication_row Server = refl

pub rekey_while_blocked_row : (side : Side) → ask_refusal side (rekeying side) AskRekey ≡ Some Busy
unfolding methods
rekey_while_blocked_row Client = refl
rekey_while_blocked_row Server = refl

pub rekey_before_newkeys_is_taken_row : (side : Side) → ask_refusal side (completed_again side) AskRekey ≡ Some Busy
unfolding methods
rekey_before_newkeys_is_taken_row Client = refl
rekey_before_newkeys_is_taken_row Server = refl

pub rekey_without_material_row : (side : Side) → ask_refusal side (admitted side) AskRekey ≡ Some AskRefusal.NoMaterial
unfolding methods
rekey_without_material_row Client = refl
rekey_without_material_row Server = refl

pub disconnect_row : (side : Side) → ask_refusal side (opened side) (AskDisconnect (replicate longest_description 0)) ≡ None
unfolding methods
disconnect_row Client = refl
disconnect_row Server = refl

pub long_disconnect_row : (side : Side) → ask_refusal side (opened side) (AskDisconnect (replicate 1025 0)) ≡ Some TooLong
unfolding methods
long_disconnect_row Client = refl
long_disconnect_row Server = refl

pub disconnect_while_blocked_row : (side : Side) → ask_refusal side (rekeying side) (AskDisconnect []) ≡ None
unfolding methods
disconnect_while_blocked_row Client = refl
disconnect_while_blocked_row Server = refl
