-- What the toy ends refuse a message for.
use Rattle.std.specs.Prelude.{◌≡◌, ◌∷◌, true, false, [], Some, None, codes, replicate, refl}
use Rattle.ssh_model.specs.declared.side.Side.{Side}
use Rattle.ssh_model.specs.declared.side.Side.TheVariants.{Client, Server}
use Rattle.ssh_model.specs.Protocol.Side.{peer}
use Rattle.ssh_model.specs.Example.Histories.{refusal, says, offer_of, lined, offered, first_reply, keyed, userauth, connection, asking, right_request, wrong_request, probe, failed, admitted, fed_again, rekeying}
use Rattle.ssh_model.specs.Example.Toys.{toy_key, toy, secret}
use Rattle.ssh_model.specs.Protocol.Wire.Message.{Method.NoMethod, Method.Password, Method.Publickey, Method.Other, Msg.Ignore, Msg.ServiceRequest, Msg.ServiceAccept, Msg.KexInit, Msg.KexEcdhInit, Msg.KexEcdhReply, Msg.UserauthRequest, Msg.UserauthSuccess, Msg.Unknown}
use Rattle.ssh_model.specs.Protocol.Sessions.Transport.{hash_to_sign}
use Rattle.ssh_model.specs.Protocol.KeyExchange.Choice.{client_marker, server_marker, methods}
use Rattle.ssh_model.specs.Protocol.Channels.History.{has_place, some_free}
use Rattle.sha2.specs.Sha256.{sha256, digest_bytes, hash_after, compress, rounds, schedule, first_words}
use Rattle.ssh_model.specs.Example.Histories.{hears}
use Rattle.std.proofs.Common.{ℕ, List, take, arith}
use Rattle.std.proofs.lemmas.Cmp.{nat_list_eq_equiv}
use Rattle.std.proofs.lemmas.List.{take_all}
use Rattle.sha2.proofs.Facts256.{length-sha256}
use Rattle.ssh_model.specs.Protocol.Wire.DataTypes.{is_text}
use Rattle.ssh_model.specs.Protocol.KeyExchange.Exchange.{exchange_text, string_of, mpint_body, digits}
use Rattle.ssh_model.specs.Protocol.KeyExchange.Exchanges.{exchange}
use Rattle.ssh_model.specs.declared.refusal.Refusal.{Refusal}
use Rattle.ssh_model.specs.declared.refusal.Refusal.TheVariants.{Unexpected, NoCommon, NotStrict, BadPoint, BadHost}
use Rattle.ssh_model.specs.declared.refusal.Refusal.TheVariants.{NoService, TooManyTries}

-- A signature of a hash is the hash.
signs_itself : (text : List ℕ) → is_text (take 4096 (sha256 text)) (sha256 text) ≡ true
signs_itself text =
    let e : take 4096 (sha256 text) ≡ sha256 text = take_all 4096 (sha256 text) (omega (arith, length-sha256 text)) in rw e (nat_list_eq_equiv.refl (sha256 text))

pub service_row : refusal Server (keyed Server) (ServiceRequest userauth) ≡ None
unfolding methods has_place some_free
service_row = refl

pub other_service_row : refusal Server (keyed Server) (ServiceRequest (codes "ssh-x")) ≡ Some NoService
unfolding methods has_place some_free
other_service_row = refl

pub accepted_service_row : refusal Client asking (ServiceAccept userauth) ≡ None
unfolding methods has_place some_free
accepted_service_row = refl

pub other_accepted_service_row : refusal Client asking (ServiceAccept connection) ≡ Some Unexpected
unfolding methods has_place some_free
other_accepted_service_row = refl

pub first_kexinit_row : (side : Side) → refusal side (lined side) (KexInit (offer_of (peer side) true)) ≡ None
unfolding methods has_place some_free
first_kexinit_row Client = refl
first_kexinit_row Server = refl

pub no_marker_row : (side : Side) → refusal side (lined side) (KexInit (offer_of (peer side) false)) ≡ Some NotStrict
unfolding methods has_place some_free
no_marker_row Client = refl
no_marker_row Server = refl

pub marker_of_other_role_row : (side : Side) → refusal side (lined side) (KexInit (offer_of side true)) ≡ Some NotStrict
unfolding methods has_place some_free
marker_of_other_role_row Client = refl
marker_of_other_role_row Server = refl

pub no_marker_before_no_common_row : (side : Side) → refusal side (lined side) (KexInit (record (offer_of (peer side) false) { host = [] })) ≡ Some NotStrict
unfolding methods has_place some_free
no_marker_before_no_common_row Client = refl
no_marker_before_no_common_row Server = refl

pub no_common_method_row : (side : Side) → refusal side (lined side) (KexInit (record (offer_of (peer side) true) { kex = client_marker ∷ server_marker ∷ [] })) ≡ Some NoCommon
unfolding methods has_place some_free
no_common_method_row Client = refl
no_common_method_row Server = refl

pub no_common_host_key_row : refusal Client (lined Client) (KexInit (record (offer_of Server true) { host = codes "x" ∷ [] })) ≡ Some NoCommon
unfolding methods has_place some_free
no_common_host_key_row = refl

pub no_common_encryption_row : refusal Client (lined Client) (KexInit (record (offer_of Server true) { enc_cs = codes "x" ∷ [] })) ≡ Some NoCommon
unfolding methods has_place some_free
no_common_encryption_row = refl

pub no_common_encryption_back_row : refusal Client (lined Client) (KexInit (record (offer_of Server true) { enc_sc = codes "x" ∷ [] })) ≡ Some NoCommon
unfolding methods has_place some_free
no_common_encryption_back_row = refl

pub no_common_mac_row : refusal Client (lined Client) (KexInit (record (offer_of Server true) { mac_cs = codes "x" ∷ [] })) ≡ Some NoCommon
unfolding methods has_place some_free
no_common_mac_row = refl

pub no_common_mac_back_row : refusal Client (lined Client) (KexInit (record (offer_of Server true) { mac_sc = codes "x" ∷ [] })) ≡ Some NoCommon
unfolding methods has_place some_free
no_common_mac_back_row = refl

pub no_common_compression_row : refusal Client (lined Client) (KexInit (record (offer_of Server true) { comp_cs = codes "zlib" ∷ [] })) ≡ Some NoCommon
unfolding methods has_place some_free
no_common_compression_row = refl

pub no_common_compression_back_row : refusal Client (lined Client) (KexInit (record (offer_of Server true) { comp_sc = codes "zlib" ∷ [] })) ≡ Some NoCommon
unfolding methods has_place some_free
no_common_compression_back_row = refl

pub other_languages_row : refusal Client (lined Client) (KexInit (record (offer_of Server true) { lang_cs = codes "x" ∷ []; lang_sc = codes "y" ∷ [] })) ≡ None
unfolding methods has_place some_free
other_languages_row = refl

pub later_kexinit_row : (side : Side) → refusal side (fed_again side) (KexInit (offer_of (peer side) false)) ≡ None
unfolding methods has_place some_free
later_kexinit_row Client = refl
later_kexinit_row Server = refl

pub later_kexinit_with_marker_row : (side : Side) → refusal side (fed_again side) (KexInit (offer_of (peer side) true)) ≡ None
unfolding methods has_place some_free
later_kexinit_with_marker_row Client = refl
later_kexinit_with_marker_row Server = refl

pub no_material_row : (side : Side) → refusal side (admitted side) (KexInit (offer_of (peer side) false)) ≡ Some Refusal.NoMaterial
unfolding methods has_place some_free
no_material_row Client = refl
no_material_row Server = refl

pub no_common_before_no_material_row : (side : Side) → refusal side (admitted side) (KexInit (record (offer_of (peer side) false) { host = [] })) ≡ Some NoCommon
unfolding methods has_place some_free
no_common_before_no_material_row Client = refl
no_common_before_no_material_row Server = refl

pub material_in_use_row : (side : Side) → refusal side (rekeying side) (KexInit (offer_of (peer side) false)) ≡ None
unfolding methods has_place some_free
material_in_use_row Client = refl
material_in_use_row Server = refl

pub point_row : refusal Server (offered Server) (KexEcdhInit (secret 1)) ≡ None
unfolding methods has_place some_free
point_row = refl

pub short_point_row : refusal Server (offered Server) (KexEcdhInit (replicate 31 1)) ≡ Some BadPoint
unfolding methods has_place some_free
short_point_row = refl

pub long_point_row : refusal Server (offered Server) (KexEcdhInit (replicate 33 1)) ≡ Some BadPoint
unfolding methods has_place some_free
long_point_row = refl

pub point_that_shares_nothing_row : refusal Server (offered Server) (KexEcdhInit (secret 2)) ≡ Some BadPoint
unfolding methods has_place some_free
point_that_shares_nothing_row = refl

pub reply_row : refusal Client (offered Client) first_reply ≡ None
unfolding methods has_place some_free
reply_row = rw (signs_itself (exchange_text (exchange toy Client 0 (hears first_reply ∷ offered Client)))) refl

pub signature_of_other_point_row : refusal Client (offered Client) (KexEcdhReply toy_key (secret 3) (take 4096 (hash_to_sign toy (offered Server) (secret 1)))) ≡ Some BadHost
unfolding methods has_place some_free sha256 digest_bytes hash_after compress rounds schedule first_words string_of mpint_body digits
signature_of_other_point_row = refl

pub bad_point_before_bad_host_row : refusal Client (offered Client) (KexEcdhReply [] (secret 1) []) ≡ Some BadPoint
unfolding methods has_place some_free
bad_point_before_bad_host_row = refl

pub long_point_of_reply_row : refusal Client (offered Client) (KexEcdhReply toy_key (replicate 33 2) []) ≡ Some BadPoint
unfolding methods has_place some_free
long_point_of_reply_row = refl

pub other_host_key_row : refusal Client (offered Client) (KexEcdhReply (codes "host") (secret 2) (take 4096 (hash_to_sign toy (offered Server) (secret 1)))) ≡ Some BadHost
unfolding methods has_place some_free sha256 digest_bytes
other_host_key_row = refl

pub other_signature_row : refusal Client (offered Client) (KexEcdhReply toy_key (secret 2) []) ≡ Some BadHost
unfolding methods has_place some_free sha256 digest_bytes
other_signature_row = refl

pub tries_left_row : refusal Server (failed 1) wrong_request ≡ None
unfolding methods has_place some_free
tries_left_row = refl

pub no_tries_left_row : refusal Server (failed 2) wrong_request ≡ Some TooManyTries
unfolding methods has_place some_free
no_tries_left_row = refl

pub right_after_tries_row : refusal Server (failed 2) right_request ≡ None
unfolding methods has_place some_free
right_after_tries_row = refl

pub good_probe_after_tries_row : refusal Server (failed 2) (probe (codes "k")) ≡ None
unfolding methods has_place some_free
good_probe_after_tries_row = refl

pub bad_probe_after_tries_row : refusal Server (failed 2) (probe (codes "l")) ≡ Some TooManyTries
unfolding methods has_place some_free
bad_probe_after_tries_row = refl

pub bare_request_after_tries_row : refusal Server (failed 2) (UserauthRequest (codes "u") connection NoMethod) ≡ Some TooManyTries
unfolding methods has_place some_free
bare_request_after_tries_row = refl

pub new_password_after_tries_row : refusal Server (failed 2) (UserauthRequest (codes "u") connection (Password (codes "p") (Some (codes "p")))) ≡ Some TooManyTries
unfolding methods has_place some_free
new_password_after_tries_row = refl

pub bad_signature_after_tries_row : refusal Server (failed 2) (UserauthRequest (codes "u") connection (Publickey (codes "toy") (codes "k") (Some []))) ≡ Some TooManyTries
unfolding methods has_place some_free sha256 digest_bytes
bad_signature_after_tries_row = refl

pub other_method_after_tries_row : refusal Server (failed 2) (UserauthRequest (codes "u") connection (Other (codes "x") [])) ≡ Some TooManyTries
unfolding methods has_place some_free
other_method_after_tries_row = refl

pub other_service_after_tries_row : refusal Server (failed 2) (UserauthRequest (codes "u") userauth (Password (codes "p") None)) ≡ Some TooManyTries
unfolding methods has_place some_free
other_service_after_tries_row = refl

pub authenticated_after_tries_row : refusal Server (says UserauthSuccess ∷ failed 2) wrong_request ≡ None
unfolding methods has_place some_free
authenticated_after_tries_row = refl

pub free_of_refusal_row : refusal Client (admitted Client) (Ignore []) ≡ None
unfolding methods has_place some_free
free_of_refusal_row = refl

pub unknown_number_row : refusal Client (admitted Client) (Unknown 200) ≡ None
unfolding methods has_place some_free
unknown_number_row = refl
