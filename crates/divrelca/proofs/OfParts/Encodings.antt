-- Keys and signatures of ssh-ed25519 as they go over the wire.
use Rattle.std.proofs.Common.{◌≡◌, ℕ, List, length, drop, Some, true, refl, arith}
use Rattle.std.proofs.lemmas.Cmp.{nat_list_eq_equiv}
use Rattle.ssh_model.specs.Protocol.KeyExchange.Exchange.{string_of}
use Rattle.ssh_model.specs.Protocol.Wire.DataTypes.{is_text}
use Rattle.divrelca.specs.Parts.Ed25519.{key_blob, key_in, signature_blob, signature_in}

same_text : (text : List ℕ) → is_text text text ≡ true
same_text text = nat_list_eq_equiv.refl text

key_following : (key : List ℕ) → drop 19 (key_blob key) ≡ key
unfolding key_blob string_of
key_following key = refl

key_length : (key : List ℕ) → length key ≡ 32 → length (key_blob key) ≡ 51
unfolding key_blob string_of
key_length key e = omega arith

pub keys_are_read : (key : List ℕ) → length key ≡ 32 → key_in (key_blob key) ≡ Some key
unfolding key_in
keys_are_read key e = rw (key_length key e, key_following key, same_text (key_blob key)) refl

signature_following : (signature : List ℕ) → drop 19 (signature_blob signature) ≡ signature
unfolding signature_blob string_of
signature_following signature = refl

signature_length : (signature : List ℕ) → length signature ≡ 64 → length (signature_blob signature) ≡ 83
unfolding signature_blob string_of
signature_length signature e = omega arith

pub signatures_are_read : (signature : List ℕ) → length signature ≡ 64 → signature_in (signature_blob signature) ≡ Some signature
unfolding signature_in
signatures_are_read signature e = rw (signature_length signature e, signature_following signature, same_text (signature_blob signature)) refl
