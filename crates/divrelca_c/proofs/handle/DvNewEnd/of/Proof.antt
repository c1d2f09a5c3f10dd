use mathlib.Core.Path.{refl}
use Rattle.divrelca_c.proofs.Boxing.{glued}
use Rattle.divrelca_c.proofs.HandleWalks.{leaves}
use Rattle.divrelca_c.proofs.EndHandle.{end_handle}
use Rattle.divrelca_c.proofs.divrelca_c++embedded++any_end++AnyEnd+Destruct.drop.Met as drop_met
use Rattle.divrelca_c.proofs.divrelca_c++embedded++any_end++AnyEnd+Destruct.drop.Symbol as drops
use Rattle.divrelca_c.specs.contracts.handle.DvNewEnd.of as f
use Rattle.divrelca_c.proofs.handle.DvNewEnd.of.Code as code
use Rattle.divrelca_c.proofs.handle.DvNewEnd.of.Statement.{statement}

pub of_spec : {M : Type 1} → statement M
of_spec 𝓤 𝓛 𝓜 𝓡 wired =
    let γ = 𝓡.env in let drop_is = code.calls-divrelca_c::divrelca_c++embedded++any_end++AnyEnd+Destruct::drop γ wired in
    leaves end_handle 𝓛 𝓜 𝓡
    (code.calls-std_heap::GlobalAllocator::allocate γ wired) (code.calls-std_heap::GlobalAllocator::deallocate γ wired)
    (code.calls-std_heap::GlobalAllocator::grow γ wired) (code.calls-std_heap::GlobalAllocator::shrink γ wired)
    (code.calls-divrelca_c::Destruct++none::drop γ wired)
    drops.symbol f.Key.name (code.unfolded 𝓤 𝓛.H 𝓜 𝓡 wired) (code.calls-std_alloc::boxed::Box::into_raw_with_allocator γ wired)
    (glued end_handle.end 𝓛 𝓜 𝓡 γ drops.symbol (drops.as_method γ drop_is _ refl) (drop_met.met 𝓤 𝓛 𝓜 𝓡 drop_is))
