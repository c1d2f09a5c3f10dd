use Rattle.std.proofs.Common.{refl}
use Rattle.ssh_model.specs.Laws.Places.{some_unused}
use Rattle.ssh_channels.specs.Entries.{place_of}
use Rattle.ssh_channels.proofs.Tables.{used_places, free_place, inserted_places, inserted_table, same_places}
use Rattle.ssh_channels.proofs.table.Table.insert.Goals as goal

pub number_for-number-requires : goal.number_for-number-requires
number_for-number-requires c = rw c.deref.ensures.value (some_unused _ (rw (c.self.invariant.size, ← used_places place_of _ _ c.self.invariant) (rw (← c.self.view_is) at c.requires)))

pub invariant_of-self : goal.invariant_of-self
invariant_of-self c =
    let a = rw c.deref.ensures.value at c.number_for-number.ensures.inside in
    let b = rw c.deref.ensures.value at c.number_for-number.ensures.free in
    inserted_table _ _ _ c.self.invariant _ _ _ a b c.in-Ok.ensures.was_vacant c.in-Ok.ensures.updates c.in-Ok.ensures.len

pub returns-in-Ok-clause-put : goal.returns-in-Ok-clause-put
returns-in-Ok-clause-put c =
    let a = rw c.deref.ensures.value at c.number_for-number.ensures.inside in
    let b = rw c.deref.ensures.value at c.number_for-number.ensures.free in
    rw (← c.self.view_is) (inserted_places _ _ _ c.self.invariant _ _ _ a b c.in-Ok.ensures.was_vacant c.in-Ok.ensures.updates place_of)

pub returns-in-Ok-clause-unused : goal.returns-in-Ok-clause-unused
returns-in-Ok-clause-unused c =
    let a = rw (c.deref.ensures.value, c.self.invariant.size) at c.number_for-number.ensures.inside in
    let b = rw c.deref.ensures.value at c.number_for-number.ensures.free in
    record { inside = a; nothing = rw (← c.self.view_is) (free_place place_of _ _ _ b) }

pub returns-in-Err-clause-kept : goal.returns-in-Err-clause-kept
returns-in-Err-clause-kept c = rw (← c.self.view_is) (same_places place_of _ _ _ (λ key. rw c.in-Err.ensures.err refl))
