-- A handle, as the box that it was made of. What is proved of it asks for its end's laws; the rest holds by `refl` at its rows
-- (`EndHandle.antt`).
--     at_heap                a value in a box of the heap
--     alloc_ty, owner_ty     the MIR type of the heap's allocator, and of a struct of a pointer and that allocator
--     box_ty                 that of a box
--     compiled, copies       a function of one parameter in MIR, and a local that is set to what lies at a path
--     Handle                 what is asked of it:
--         end, laws, lives           an end's row, which names no lifetime
--         boxes, lies                a box of an end, and an end in memory, are at that row what they are at a type parameter
--         name, row, mir             the handle's struct
--         box_of, owns               the box that a handle stands for. The handle owns what the box owns
--         put, owns_put              the handle that leads to another end
--         last, silent               of a handle that is used up nothing is said
--         new_name, new_row          the struct of the place where a new end is left
--         made, owns_made            the place that is made of a box. It owns what the box owned
--         there, made_is             the end at a place, which is the box's
use mathlib.Core.List.{List, [], ◌∷◌, map}
use mathlib.Core.Path.{◌≡◌, refl}
use Prim.Native.Nat.{ℕ}
use base.Fml.{ftrue}
use base.Fraction.{full_share}
use contract.BorrowLft.{◌⊑◌}
use mir.Raw.{raw as bare}
use mir.Syntax.{Body, Fn, Step, Sym, Ty, assign, copy, dnil, impl, local, place, rv_opd, tcons, tnil, ty_ptr, ty_struct, value_local}
use mir.Val.{Val}
use denote.Builtin.{unit}
use denote.Exit.{Kept, Last, left, no, yes}
use denote.Memory.{part_at}
use denote.Param.{arg, layout}
use denote.Param.Laws.{Laws, arg_laws}
use denote.RattleType.{RattleType}
use Rattle.core.proofs.alloc.Calls.{Al}
use Rattle.std.specs.Prelude.{Option, Some}
use Rattle.std_alloc.proofs.BoxSteps.Form.{B, Bx, D, R}
use Rattle.std_alloc.specs.contracts.boxed.Box.{the_row as Box}
use Rattle.std_heap.specs.contracts.Global as Heap
use Rattle.std_heap.specs.contracts.GlobalAllocator.TheImpl.{dict, ghosts}
use Rattle.std_heap.proofs.Global.TheLaws as heap
use Rattle.divrelca_c.proofs.Destruct++none.drop.Symbol as no_drop

abbrev heap_row : RattleType
heap_row = arg (bare (layout Heap.the_row)) no Heap.the_row

abbrev heap_at : Al
heap_at = record {
  row = heap_row;
  laws = arg_laws (bare (layout Heap.the_row)) no Heap.the_row heap.the_row_laws refl;
  g = ghosts;
  d = dict;
  drops = impl (no_drop.symbol ∷ []) (tcons (layout heap_row) tnil) dnil;
}

abbrev pub at_heap : (S : RattleType) → Laws (arg (bare (layout S)) no S) → Bx
at_heap S laws = record { row = arg (bare (layout S)) no S; laws = laws; al = heap_at }

abbrev pub alloc_ty : Ty
alloc_ty = layout Heap.the_row

abbrev pub owner_ty : Sym → Ty
owner_ty name = ty_struct name (tcons ty_ptr (tcons alloc_ty tnil))

abbrev pub box_ty : Ty
box_ty = layout (Box unit Heap.the_row ghosts)

abbrev pub compiled : ℕ → List Ty → Body → Fn
compiled n types body = record {
  lifetimes = n;
  outlives = [];
  ty_params = [];
  givens = 0;
  params = 1;
  locals = map (λ τ. local τ value_local) types;
  body = body;
}

abbrev pub copies : ℕ → ℕ → List Step → Body
copies to from path = assign (place to []) (rv_opd (copy (place from path)))

pub record Handle : Type 2 where
  pub end : RattleType
  pub laws : Laws (arg (bare (layout end)) no end)
  pub lives : [] ⊑ end.lives
  pub boxes : (r : D (at_heap end laws)) (us : List Val) → (B (at_heap end laws)).own_val r us ≡ (Box end Heap.the_row ghosts).own_val r us
  pub lies : (s : end.Denot) (b o : ℕ) → part_at (R (at_heap end laws)) full_share s b o ≡ part_at end full_share s b o
  pub name : Sym
  pub row : RattleType
  pub mir : row.mir ≡ owner_ty name ∷ []
  pub box_of : row.Denot → D (at_heap end laws)
  pub owns : (h : row.Denot) (us : List Val) → row.own_val h us ≡ (B (at_heap end laws)).own_val (box_of h) us
  pub put : row.Denot → end.Denot → row.Denot
  pub owns_put : (h : row.Denot) (s : end.Denot) (us : List Val) →
      row.own_val (put h s) us ≡ (B (at_heap end laws)).own_val (record (box_of h) { value = s }) us
  pub last : (h : row.Denot) → Last (row.exit yes) h
  pub silent : (k : Kept) (h : row.Denot) (w : Last (row.exit k) h) → left (row.exit k) h w ≡ ftrue
  pub new_name : Sym
  pub new_row : RattleType
  pub made : D (at_heap end laws) → new_row.Denot
  pub owns_made : (b : D (at_heap end laws)) (us : List Val) → (B (at_heap end laws)).own_val b us ≡ new_row.own_val (made b) us
  pub there : new_row.Denot → Option end.Denot
  pub made_is : (b : D (at_heap end laws)) → there (made b) ≡ Some b.value
