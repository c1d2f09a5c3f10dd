-- What the bounds on the answers of the supplied parts tell of them.
use Rattle.std.proofs.Common.{◌≡◌, ℕ, ◌<◌, ◌^◌, Bool, true, false, not, cond, ◌==◌, ◌&&◌, Option, Some, None, List, [], ◌∷◌, length, refl, arith}
use Rattle.std.specs.Prelude.{unwrap_or}
use Rattle.std.specs.List.{list_all}
use Rattle.std.proofs.lemmas.Bool.{and_parts, eqb-true, ltb-true}
use Rattle.ssh_model.specs.declared.side.Side.{Side}
use Rattle.ssh_model.specs.Protocol.Wire.DataTypes.{AreBytes, number}
use Rattle.ssh_model.specs.Protocol.KeyExchange.Exchange.{mpint_body}
use Rattle.ssh_model.specs.Protocol.KeyExchange.Exchanges.{shared_number}
use Rattle.ssh_model.specs.Protocol.Sessions.Parties.{Parties, is_byte, is_zero, is_shared, only_shared, agreement_of}
use Rattle.ssh_model.proofs.KeyExchange.Texts.{body_length, body_of_32}

pub are_bytes : (bytes : List ℕ) → list_all is_byte bytes ≡ true → AreBytes bytes
are_bytes [] h = tt
are_bytes (b ∷ l) h = let p = and_parts (is_byte b) (list_all is_byte l) h in (ltb-true b 256 p.0, are_bytes l p.1)

-- 32 bytes
record IsShared (bytes : List ℕ) : Type 0 where
  are_bytes : AreBytes bytes
  size : length bytes ≡ 32

shared_facts : (bytes : List ℕ) → is_shared bytes ≡ true → IsShared bytes
shared_facts bytes h =
    let p = and_parts (length bytes == 32) (list_all is_byte bytes && not (list_all is_zero bytes)) h in
    let q = and_parts (list_all is_byte bytes) (not (list_all is_zero bytes)) p.1 in
    record { are_bytes = are_bytes bytes q.0; size = eqb-true (length bytes) 32 p.0 }

found : (is_good : Bool) (bytes : List ℕ) → (is_good ≡ true → IsShared bytes) → length (mpint_body (number (unwrap_or (cond is_good (Some bytes) None) []))) < 2 ^ 32
found true bytes h = let f = h refl in omega (arith, body_of_32 (number bytes) bytes f.are_bytes f.size refl)
found false bytes h = omega (arith, body_length [] tt)

only : (answer : Option (List ℕ)) → length (mpint_body (number (unwrap_or (only_shared answer) []))) < 2 ^ 32
only None = omega (arith, body_length [] tt)
only (Some bytes) = found (is_shared bytes) bytes (shared_facts bytes)

-- the shared number of an exchange fits into an mpint
pub shared_fits : {K : Type 0} (p : Parties K) (side : Side) (secret theirs : List ℕ) → length (mpint_body (shared_number p side secret theirs)) < 2 ^ 32
shared_fits p side secret theirs = only ((agreement_of p side).shared secret theirs)
