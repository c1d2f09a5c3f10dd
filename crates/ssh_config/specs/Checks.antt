-- The tests of settings, as truth values that can be computed.
use Rattle.std.specs.Prelude.{ℕ, Bool, true, false, not, nat_le, nat_lt, ◌+◌, ◌&&◌, ◌||◌, if◌then◌else◌, Option, Some, None, is_some, is_none, List, [], ◌∷◌, length, take, drop, codes}
use Rattle.std.specs.Option.{option_or}
use Rattle.std.specs.List.{list_all, list_any}
use Rattle.ssh_model.specs.Laws.Bounds.{least_epoch_limit, most_epoch_limit, most_extensions, most_names}
use Rattle.ssh_model.specs.Protocol.Wire.DataTypes.{is_name}
use Rattle.ssh_model.specs.Protocol.Wire.Line.{is_version_byte, is_text_byte}
use Rattle.ssh_model.specs.declared.strictness.Strictness.{Strictness}
use Rattle.ssh_model.specs.Protocol.Wire.Message.{Extension}
use Rattle.ssh_model.specs.Protocol.Wire.Sealing.{Crypto}
use Rattle.ssh_config.specs.Config.{Given, extension_names, is_same, is_short_value, version_text}
use Rattle.ssh_config.specs.declared.error.ConfigList.{ConfigList}
use Rattle.ssh_config.specs.declared.error.ConfigList.TheVariants.{Kex, Host, Encryption, Mac, Methods}
use Rattle.ssh_config.specs.declared.error.ListFault.{ListFault}
use Rattle.ssh_config.specs.declared.error.ListFault.TheVariants.{Empty, TooMany, NotName, Unknown, UnknownPair}
use Rattle.ssh_config.specs.declared.error.ExtensionFault.{ExtensionFault}
use Rattle.ssh_config.specs.declared.error.ExtensionFault.TheVariants.{NotTaken, TooMany as TooManyExtensions, NotName as NotExtensionName, LongValue, NameTwice}

-- ---- the version line

abbrev pub is_software : List ℕ → Bool
is_software text = nat_le 1 (length text) && list_all is_version_byte text

abbrev pub are_comments : Option (List ℕ) → Bool
are_comments None = true
are_comments (Some text) = list_all is_text_byte text

-- The line has at most 255 bytes, with the CR LF after its text.
abbrev pub fits_line : List ℕ → Option (List ℕ) → Bool
fits_line software comments = nat_le (length (version_text software comments)) 253

abbrev pub has_line : List ℕ → Option (List ℕ) → Bool
has_line software comments = (is_software software && are_comments comments) && fits_line software comments

-- ---- the lists

-- this value if the test failed
abbrev pub told_unless : {A : Type 0} → Bool → A → Option A
told_unless true fault = None
told_unless false fault = Some fault

-- the fault in the texts of one list, tested in this order
abbrev pub texts_fault : ConfigList → List (List ℕ) → Option (ConfigList × ListFault)
texts_fault list texts =
    option_or (option_or (told_unless (nat_le 1 (length texts)) (list, Empty))
    (told_unless (nat_le (length texts) most_names) (list, TooMany))) (told_unless (list_all is_name texts) (list, NotName))

abbrev pub is_kex_method : List ℕ → Bool
is_kex_method name = is_same name (codes "curve25519-sha256") || is_same name (codes "curve25519-sha256@libssh.org")

abbrev pub is_user_method : List ℕ → Bool
is_user_method name = is_same name (codes "publickey") || is_same name (codes "password")

abbrev pub knows : {K : Type 0} → Crypto K → List ℕ → List ℕ → Bool
knows c enc mac = is_some (c.lengths enc mac)

abbrev pub knows_each : {K : Type 0} → Crypto K → List (List ℕ) → List ℕ → Bool
knows_each c macs enc = list_all (λ mac. knows c enc mac) macs

abbrev pub knows_pairs : {K : Type 0} → Crypto K → List (List ℕ) → List (List ℕ) → Bool
knows_pairs c encryption macs = list_all (λ enc. knows_each c macs enc) encryption

abbrev pub each_fault : Given → Option (ConfigList × ListFault)
each_fault g =
    option_or (option_or (texts_fault Kex g.kex) (texts_fault Host g.host)) (option_or (option_or (texts_fault Encryption g.encryption) (texts_fault Mac g.mac)) (texts_fault Methods g.methods))

abbrev pub name_fault : Given → Option (ConfigList × ListFault)
name_fault g =
    option_or (told_unless (list_all is_kex_method g.kex) (Kex, Unknown)) (told_unless (list_all is_user_method g.methods) (Methods, Unknown))

abbrev pub pair_fault : {K : Type 0} → Crypto K → Given → Option (ConfigList × ListFault)
pair_fault c g = told_unless (knows_pairs c g.encryption g.mac) (Encryption, UnknownPair)

-- the first fault of the lists: a fault in a list's texts, in the order of lists, and then a fault in the names
abbrev pub lists_fault : {K : Type 0} → Crypto K → Given → Option (ConfigList × ListFault)
lists_fault c g = option_or (option_or (each_fault g) (name_fault g)) (pair_fault c g)

-- ---- the limits

abbrev pub is_epoch_limit : ℕ → Bool
is_epoch_limit packets = nat_le least_epoch_limit packets && nat_le packets most_epoch_limit

abbrev pub is_tries : ℕ → Bool
is_tries tries = nat_le 1 tries && nat_le tries 20

-- ---- the extensions

abbrev pub is_empty : List Extension → Bool
is_empty [] = true
is_empty _ = false

abbrev pub are_distinct : List (List ℕ) → Bool
are_distinct [] = true
are_distinct (name ∷ names) = not (list_any (is_same name) names) && are_distinct names

abbrev pub number_fault : Bool → List Extension → Option ExtensionFault
number_fault taken extensions =
    option_or (told_unless (taken || is_empty extensions) NotTaken)
    (told_unless (nat_le (length extensions) most_extensions) TooManyExtensions)

-- the fault in the extensions, tested in this order
abbrev pub extension_fault : Bool → List Extension → Option ExtensionFault
extension_fault taken extensions =
    option_or (option_or (number_fault taken extensions) (told_unless (list_all is_name (extension_names extensions)) NotExtensionName))
    (option_or (told_unless (list_all is_short_value extensions) LongValue) (told_unless (are_distinct (extension_names extensions)) NameTwice))

-- ---- all of it

abbrev pub are_good : {K : Type 0} → Crypto K → Given → Bool
are_good c g =
    ((has_line g.software g.comments && is_none (lists_fault c g)) && (is_epoch_limit g.epoch_limit && is_tries g.tries)) && is_none (extension_fault g.takes_extensions g.extensions)

-- ---- the values that a config keeps: the text of the version line with the length of the software in it, and the lists

abbrev pub software_in : ℕ → List ℕ → List ℕ
software_in n line = take n (drop 8 line)

abbrev pub comments_in : ℕ → List ℕ → Option (List ℕ)
comments_in n line = if nat_lt (8 + n) (length line) then Some (drop (9 + n) line) else None

abbrev pub kept : List ℕ → ℕ → (kex host encryption mac : List (List ℕ)) → ℕ → ℕ → (methods : List (List ℕ)) → Strictness → Bool → List Extension → Given
kept line n kex host encryption mac epoch_limit tries methods strictness takes_extensions extensions = record {
  software = software_in n line;
  comments = comments_in n line;
  kex = kex;
  host = host;
  encryption = encryption;
  mac = mac;
  epoch_limit = epoch_limit;
  tries = tries;
  methods = methods;
  strictness = strictness;
  takes_extensions = takes_extensions;
  extensions = extensions;
}
