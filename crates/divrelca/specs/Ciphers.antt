-- Which encryptions a list of names asks for, and which names a choice offers.
use Rattle.std.specs.Prelude.{ℕ, Bool, true, false, if◌then◌else◌, List, [], ◌∷◌, codes, Option, Some, None}
use Rattle.ssh_model.specs.Protocol.Wire.DataTypes.{is_text}
use Rattle.divrelca.specs.declared.cipher_choice.Ciphers.{Ciphers}
use Rattle.divrelca.specs.declared.cipher_choice.Ciphers.TheVariants.{Aes128, Aes256, Both}

abbrev pub aes_128 : List ℕ
aes_128 = codes "aes128-gcm@openssh.com"

abbrev pub aes_256 : List ℕ
aes_256 = codes "aes256-gcm@openssh.com"

-- the choice that a list asks for
abbrev pub choice_of : List ℕ → Option Ciphers
choice_of names =
    if is_text names aes_128 then Some Aes128
    else if is_text names aes_256 then Some Aes256
    else if is_text names (codes "aes256-gcm@openssh.com,aes128-gcm@openssh.com") then Some Both
    else None

abbrev pub ended_by_none : Bool → List (List ℕ)
ended_by_none true = codes "none" ∷ []
ended_by_none false = []

-- the names that are offered, with `none` last
abbrev pub names_of : Ciphers → Bool → List (List ℕ)
names_of Aes128 offers_none = aes_128 ∷ ended_by_none offers_none
names_of Aes256 offers_none = aes_256 ∷ ended_by_none offers_none
names_of Both offers_none = aes_256 ∷ aes_128 ∷ ended_by_none offers_none
