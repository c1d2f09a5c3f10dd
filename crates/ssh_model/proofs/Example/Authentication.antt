-- What the toy server accepts.
use Rattle.std.specs.Prelude.{◌≡◌, ◌∷◌, true, false, [], Some, None, codes, replicate, refl}
use Rattle.ssh_model.specs.declared.side.Side.TheVariants.{Server}
use Rattle.ssh_model.specs.Example.Histories.{userauth, connection, served, with_methods, friendly}
use Rattle.ssh_model.specs.Example.Toys.{toy}
use Rattle.ssh_model.specs.Protocol.Wire.Message.{Method.NoMethod, Method.Password, Method.Publickey}
use Rattle.ssh_model.specs.Protocol.Authentication.Requests.{judge_of, is_known_key, signed_text, is_accepted, is_good_probe}
use Rattle.ssh_model.specs.Protocol.KeyExchange.Exchange.{string_of}

pub accepted_password_row : is_accepted toy (served Server) (codes "u") connection (Password (codes "p") None) ≡ true
unfolding string_of
accepted_password_row = refl

pub other_password_row : is_accepted toy (served Server) (codes "u") connection (Password (codes "q") None) ≡ false
unfolding string_of
other_password_row = refl

pub changed_password_row : is_accepted toy (served Server) (codes "u") connection (Password (codes "p") (Some (codes "q"))) ≡ false
unfolding string_of
changed_password_row = refl

pub other_service_of_request_row : is_accepted toy (served Server) (codes "u") userauth (Password (codes "p") None) ≡ false
unfolding string_of
other_service_of_request_row = refl

pub bare_request_row : is_accepted toy (served Server) (codes "u") connection NoMethod ≡ false
unfolding string_of
bare_request_row = refl

pub bare_request_admitted_row : is_accepted (record toy { admits = λ user. true }) (served Server) (codes "u") connection NoMethod ≡ true
unfolding string_of
bare_request_admitted_row = refl

pub password_not_configured_row : is_accepted (with_methods (codes "publickey" ∷ [])) (served Server) (codes "u") connection (Password (codes "p") None) ≡ false
unfolding string_of
password_not_configured_row = refl

pub key_alone_is_not_accepted_row : is_accepted toy (served Server) (codes "u") connection (Publickey (codes "toy") (codes "k") None) ≡ false
unfolding string_of
key_alone_is_not_accepted_row = refl

pub probe_of_known_key_row : is_good_probe toy (codes "u") connection (Publickey (codes "toy") (codes "k") None) ≡ true
unfolding string_of
probe_of_known_key_row = refl

pub probe_of_other_key_row : is_good_probe toy (codes "u") connection (Publickey (codes "toy") (codes "l") None) ≡ false
unfolding string_of
probe_of_other_key_row = refl

pub probe_for_other_service_row : is_good_probe toy (codes "u") userauth (Publickey (codes "toy") (codes "k") None) ≡ false
unfolding string_of
probe_for_other_service_row = refl

pub probe_not_configured_row : is_good_probe (with_methods (codes "password" ∷ [])) (codes "u") connection (Publickey (codes "toy") (codes "k") None) ≡ false
unfolding string_of
probe_not_configured_row = refl

pub longest_key_row : is_known_key (judge_of friendly) [] (replicate 64 0) (replicate 16384 0) ≡ true
unfolding string_of
longest_key_row = refl

pub longer_key_row : is_known_key (judge_of friendly) [] [] (replicate 16385 0) ≡ false
unfolding string_of
longer_key_row = refl

pub longer_algorithm_row : is_known_key (judge_of friendly) [] (replicate 65 0) [] ≡ false
unfolding string_of
longer_algorithm_row = refl

pub what_is_signed_row : signed_text (codes "s") (codes "u") (codes "c") (codes "t") (codes "k") ≡ 0 ∷ 0 ∷ 0 ∷ 1 ∷ 115 ∷ 50 ∷ 0 ∷ 0 ∷ 0 ∷ 1 ∷ 117 ∷ 0 ∷ 0 ∷ 0 ∷ 1 ∷ 99 ∷ 0 ∷ 0 ∷ 0 ∷ 9 ∷ 112 ∷ 117 ∷ 98 ∷ 108 ∷ 105 ∷ 99 ∷ 107 ∷ 101 ∷ 121 ∷ 1 ∷ 0 ∷ 0 ∷ 0 ∷ 1 ∷ 116 ∷ 0 ∷ 0 ∷ 0 ∷ 1 ∷ 107 ∷ []
unfolding string_of
what_is_signed_row = refl
