-- The bytes that an end put out and that are not written.
use Rattle.std.specs.Prelude.{ℕ, List, drop}
use Rattle.divrelca_c.specs.declared.embedded.state.Embedded.{Embedded}

-- what waits to be written: the bytes that were put out without the first ones, which are written
abbrev pub waiting_of : {R X S F K : Type 0} → Embedded R X S F K → List ℕ
waiting_of e = drop e.gone e.out.items
