-- What a handle owns, of an end of this row: the same as the box that it was made of.
use base.Fml.{Fml, ftrue}
use denote.RattleType.{RattleType}
use denote.RawPtr.{Ptr}
use Rattle.std.specs.Box.Ownership.{box_owns}
use Rattle.std.specs.Global.{Global}
use Rattle.std.specs.Prelude.{Option, None, Some}
use Rattle.std_heap.specs.contracts.GlobalAllocator.TheImpl.{ghosts}

abbrev pub handle_owns : (R : RattleType) → Global → Ptr → R.Denot → Fml
handle_owns R alloc = box_owns (ghosts.dealloc_token alloc) R

-- Where a new end is left: the place owns nothing until one stands there.
abbrev pub place_owns : (R : RattleType) → Global → Ptr → Option R.Denot → Fml
place_owns R alloc at None = ftrue
place_owns R alloc at (Some end) = handle_owns R alloc at end
