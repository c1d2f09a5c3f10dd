-- A key that is ready for use.
use Rattle.std.specs.Prelude.{ℕ, List}
use Rattle.ciphers.specs.declared.aes_gcm.gcm.KeyParts.{KeyParts}
use Rattle.ciphers.specs.declared.aes_gcm.vector_rounds.VectorKeys.{VectorKeys}
use Rattle.ciphers.specs.AesGcm.SameBytes.{AreKeysOf}
use Rattle.ciphers.specs.AesGcm.Tables.{IsNibbles}

-- The vectors are the round keys, and the table has the products of sixteen times the encrypted zero block.
pub record IsMadeReady (k : KeyParts) (v : VectorKeys) (t : List ℕ) : Type 0 where
  pub keys : AreKeysOf k.schedule v
  pub table : IsNibbles 16 t k.hash
