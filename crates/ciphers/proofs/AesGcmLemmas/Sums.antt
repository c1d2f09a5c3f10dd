-- One step more of a product, and one block more of a sum.
use Rattle.std.proofs.Common.{◌≡◌, ℕ, ◌+◌, List, refl, add-one}
use Rattle.ciphers.specs.declared.aes_gcm.ghash.Begun.{Begun}
use Rattle.ciphers.specs.declared.aes_gcm.ghash.Element.{Element}
use Rattle.ciphers.specs.AesGcm.Ghash.{absorbed, absorbed_all, block_at, step, steps}

pub one_step : (n : ℕ) (b : Begun) → steps (n + 1) b ≡ step (steps n b)
unfolding steps
one_step n b = rw add-one refl

pub one_block : (n : ℕ) (key sum : Element) (bytes : List ℕ) → absorbed_all key sum bytes (n + 1) ≡ absorbed key (absorbed_all key sum bytes n) (block_at bytes n)
unfolding absorbed_all
one_block n key sum bytes = rw add-one refl
