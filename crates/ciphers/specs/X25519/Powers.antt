-- Powers of elements.
use Rattle.std.specs.Prelude.{ℕ, zero, suc}
use Rattle.ciphers.specs.declared.x25519.field.Element.{Element}
use Rattle.ciphers.specs.declared.x25519.powers.Powers.{Powers}
use Rattle.ciphers.specs.X25519.Field.{IsLoose, product}

unfoldable pub squared_times : Element → ℕ → Element
squared_times x zero = x
squared_times x (suc n) = product (squared_times x n) (squared_times x n)

-- the limbs that a product takes
pub record ArePowers (t : Powers) : Type 0 where
  pub eleventh : IsLoose t.eleventh
  pub ones : IsLoose t.ones

-- the powers 11 and 2^250 - 1
unfoldable pub tower : Element → Powers
tower z =
    let z2 : Element = product z z in
    let z9 : Element = product (squared_times z2 2) z in
    let z11 : Element = product z9 z2 in
    let z5 : Element = product (product z11 z11) z9 in
    let z10 : Element = product (squared_times z5 5) z5 in
    let z20 : Element = product (squared_times z10 10) z10 in
    let z40 : Element = product (squared_times z20 20) z20 in
    let z50 : Element = product (squared_times z40 10) z10 in
    let z100 : Element = product (squared_times z50 50) z50 in
    let z200 : Element = product (squared_times z100 100) z100 in
    record { eleventh = z11; ones = product (squared_times z200 50) z50 }

-- the power of the prime less two, 2^255 - 21
unfoldable pub inverse : Element → Element
inverse z = product (squared_times (tower z).ones 5) (tower z).eleventh

-- the power 2^252 - 3
unfoldable pub root_power : Element → Element
root_power z = product (squared_times (tower z).ones 2) z
