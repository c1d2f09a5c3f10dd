-- The handle of an end, as what `Handling.antt` proves takes it.
use mathlib.Core.List.{[]}
use mathlib.Core.Path.{refl}
use contract.BorrowLft.{⊑_refl}
use mir.Raw.{raw as bare}
use denote.Exit.{no}
use denote.Param.{layout}
use denote.Param.Laws.{arg_laws}
use Rattle.std.specs.Prelude.{Some}
use Rattle.divrelca_c.proofs.embedded.any_end.AnyEnd.TheLaws as end_laws
use Rattle.divrelca_c.specs.contracts.embedded.any_end.AnyEnd as AnyEnd
use Rattle.divrelca_c.specs.contracts.handle.DvEnd as DvEnd
use Rattle.divrelca_c.specs.contracts.handle.DvNewEnd as DvNewEnd
use Rattle.divrelca_c.proofs.Handling.{Handle}

abbrev pub end_handle : Handle
end_handle = record {
  end = AnyEnd.the_row;
  laws = arg_laws (bare (layout AnyEnd.the_row)) no AnyEnd.the_row end_laws.the_row_laws refl;
  lives = ⊑_refl [];
  boxes = λ r us. refl;
  lies = λ s b o. refl;
  name = DvEnd.struct.name;
  row = DvEnd.the_row;
  mir = refl;
  box_of = λ h. record { ptr = h.at; alloc = h.alloc; value = h.value };
  owns = λ h us. refl;
  put = λ h s. record h { value = s };
  owns_put = λ h s us. refl;
  last = λ h. tt;
  silent = λ k h w. refl;
  new_name = DvNewEnd.struct.name;
  new_row = DvNewEnd.the_row;
  made = λ b. record { at = b.ptr; alloc = b.alloc; value = Some b.value };
  owns_made = λ b us. refl;
  there = λ h. h.value;
  made_is = λ b. refl;
}
