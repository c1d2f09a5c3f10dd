-- What lets a user of the toys in.
use Rattle.std.specs.Prelude.{◌&&◌, ℕ, Bool, false, List}
use Rattle.std.specs.List.{list_any}
use Rattle.sha2.specs.Sha256.{sha256}
use Rattle.ssh_model.specs.Protocol.Authentication.Requests.{Judge}
use Rattle.ssh_model.specs.Protocol.Wire.DataTypes.{is_text}
use Rattle.ssh_toys.specs.declared.user.ToyCredential.{ToyCredential}
use Rattle.ssh_toys.specs.declared.user.ToyCredential.TheVariants.{Password, Key}

abbrev pub password_fits : (user word : List ℕ) → ToyCredential → Bool
password_fits user word (Password name right) = is_text name.now user && is_text right.now word
password_fits user word (Key name known) = false

abbrev pub key_fits : (user key : List ℕ) → ToyCredential → Bool
key_fits user key (Password name right) = false
key_fits user key (Key name known) = is_text name.now user && is_text known.now key

abbrev pub is_password_of : List ToyCredential → (user word : List ℕ) → Bool
is_password_of credentials user word = list_any (password_fits user word) credentials

abbrev pub is_key_of : List ToyCredential → (user key : List ℕ) → Bool
is_key_of credentials user key = list_any (key_fits user key) credentials

-- The verdicts on users. The signature of a text is its SHA-256, whoever made it.
abbrev pub verdicts_of : List ToyCredential → Judge
verdicts_of credentials = record {
  admits = λ user. false;
  password_is_right = is_password_of credentials;
  knows_key = λ user algorithm key. is_key_of credentials user key;
  signature_is_right = λ algorithm key text signature. is_text signature (sha256 text);
}
