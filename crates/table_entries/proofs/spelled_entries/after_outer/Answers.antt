use Rattle.table_entries.proofs.spelled_entries.after_outer.Goals as goal

pub after_callers-requires : goal.after_callers-requires
after_callers-requires c = rw (c.maps-rows.ensures, c.as_slice.ensures.value) c.requires

pub returns-clause-spelled : goal.returns-clause-spelled
returns-clause-spelled c =
    rw (← c.maps-rows.ensures, ← c.as_slice.ensures.value) c.after_callers.ensures.spelled

pub returns-clause-after : goal.returns-clause-after
returns-clause-after c =
    rw (← c.maps-rows.ensures, ← c.as_slice.ensures.value) c.after_callers.ensures.after
