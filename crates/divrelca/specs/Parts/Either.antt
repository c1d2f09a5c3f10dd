-- One sealing made of two: names that the first one knows go to the first, and all others to the second.
use Rattle.std.specs.Prelude.{Option, Some, None}
use Rattle.ssh_model.specs.Protocol.Wire.Sealing.{Crypto, Lengths}
use Rattle.divrelca.specs.declared.parts.either.EitherKey.{EitherKey}
use Rattle.divrelca.specs.declared.parts.either.EitherKey.TheVariants.{First, Second}

-- the answer of the first, or of the second if the first has none
abbrev pub first_of : Option Lengths → Option Lengths → Option Lengths
first_of (Some lengths) other = Some lengths
first_of None other = other

-- a key of the first one if it knows the names, otherwise of the second
abbrev pub made_by : {K L : Type 0} → Option Lengths → K → L → EitherKey K L
made_by (Some lengths) k l = First k
made_by None k l = Second l

-- the answer of the key's own sealing
abbrev pub by_key : {K L X : Type 0} → (K → X) → (L → X) → EitherKey K L → X
by_key f g (First k) = f k
by_key f g (Second l) = g l

abbrev pub either : {K L : Type 0} → Crypto K → Crypto L → Crypto (EitherKey K L)
either a b = record {
  lengths = λ enc mac. first_of (a.lengths enc mac) (b.lengths enc mac);
  made = λ enc mac iv cipher key.
      made_by (a.lengths enc mac) (a.made enc mac iv cipher key) (b.made enc mac iv cipher key);
  blocks = λ key. by_key a.blocks b.blocks key;
  tag = λ key. by_key a.tag b.tag key;
  sealed = λ key number packet. by_key (λ k. a.sealed k number packet) (λ l. b.sealed l number packet) key;
  opened = λ key number bytes. by_key (λ k. a.opened k number bytes) (λ l. b.opened l number bytes) key;
}
