-- The change of a byte on its way.
use Rattle.std.specs.Prelude.{ℕ, ◌-◌, List, [], ◌∷◌, ◌++◌, Option, Some, None, ◌&&◌, cond, nat_le, nat_lt, length, drop, suc, take, slice_index}
use Rattle.ssh_play.specs.declared.alteration.Alteration.{Alteration}
use Rattle.ssh_play.specs.declared.alteration.Change.{Change}
use Rattle.ssh_play.specs.declared.alteration.Change.TheVariants.{Doubled, Flipped, LeftOut}
use Rattle.ssh_play.specs.Runs.{is_side}
use Rattle.ssh_script.specs.declared.parcel.Origin.{Origin}
use Rattle.ssh_script.specs.declared.parcel.Origin.TheVariants.{PutOut, Script}
use Rattle.ssh_script.specs.declared.parcel.Parcel.{Parcel}
use Rattle.std.specs.Prelude.{bit_xor}

-- the bytes that come for it
abbrev pub changes : Change → ℕ → List ℕ
changes Flipped byte = bit_xor byte 1 ∷ []
changes LeftOut byte = []
changes Doubled byte = byte ∷ (byte ∷ [])

-- bytes with the one at this index changed
abbrev pub changed_at : Change → List ℕ → ℕ → List ℕ
changed_at change bytes index = take index bytes ++ changes change (slice_index bytes index) ++ drop (suc index) bytes

-- where the byte after so many others of its side stands among so many bytes, the first of them after others of that side
abbrev pub index_by : ℕ → Origin → ℕ → Option ℕ
index_by place (PutOut start) count = cond (nat_le start place && nat_lt (place - start) count) (Some (place - start)) None
index_by place Script count = None

-- where the byte stands in a parcel; a parcel to the side that puts it out doesn't have it
abbrev pub index_of : Alteration → Parcel → Option ℕ
index_of alteration parcel =
    cond (is_side parcel.to alteration.side) None (index_by alteration.place parcel.origin (length parcel.bytes.now))
