-- Laws of the tests of loads of maps: an instruction whose maps are there passes.
use Rattle.assembler.proofs.Common.{◌≡◌, ℕ, true, List, length, slice_get, is_none, IsSomeAnd, Option, Some, None, refl, ap, lt-ltb, eq-eqb, nat_lt, ◌==◌, MapDef, Insn, LoadMap, LoadMapValue, HoldsOffset, NamesRows, is_array, objection_to_value, objection_to_load}

value-held : (row : Option MapDef) (offset : ℕ) → IsSomeAnd row (HoldsOffset offset)
    → is_none (objection_to_value row offset) ≡ true
value-held None offset h = absurd h
value-held (Some row) offset h =
    let array : is_array row.kind ≡ true = ap is_array h.array in
    let one : (row.entries == 1) ≡ true = eq-eqb row.entries 1 h.one in
    let within : nat_lt offset row.value_size ≡ true = lt-ltb offset row.value_size h.within in
    rw (array, one, within) refl

-- there is no objection to an instruction whose maps have rows
pub objection_to_load-NamesRows : (maps : List MapDef) (i : Insn) → NamesRows maps i
    → is_none (objection_to_load maps i) ≡ true
objection_to_load-NamesRows maps (LoadMap d m) h =
    let t : nat_lt m (length maps) ≡ true = lt-ltb m (length maps) h in rw t refl
objection_to_load-NamesRows maps (LoadMapValue d m offset) h =
    value-held (slice_get maps m) offset h
objection_to_load-NamesRows maps i h = refl
