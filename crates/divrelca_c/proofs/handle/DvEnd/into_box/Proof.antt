use Rattle.divrelca_c.proofs.HandleWalks.{unboxes}
use Rattle.divrelca_c.proofs.EndHandle.{end_handle}
use Rattle.divrelca_c.specs.contracts.handle.DvEnd.into_box as f
use Rattle.divrelca_c.proofs.handle.DvEnd.into_box.Code as code
use Rattle.divrelca_c.proofs.handle.DvEnd.into_box.Statement.{statement}

pub into_box_spec : {M : Type 1} → statement M
into_box_spec 𝓤 𝓛 𝓜 𝓡 wired =
    let γ = 𝓡.env in
    unboxes end_handle 𝓛 𝓜 𝓡
    (code.calls-std_heap::GlobalAllocator::allocate γ wired) (code.calls-std_heap::GlobalAllocator::deallocate γ wired)
    (code.calls-std_heap::GlobalAllocator::grow γ wired) (code.calls-std_heap::GlobalAllocator::shrink γ wired)
    (code.calls-divrelca_c::Destruct++none::drop γ wired)
    f.Key.name (code.unfolded 𝓤 𝓛.H 𝓜 𝓡 wired) (code.calls-std_alloc::boxed::Box::from_raw γ wired)
