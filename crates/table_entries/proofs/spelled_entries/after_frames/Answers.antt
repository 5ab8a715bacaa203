use Rattle.table_entries.proofs.spelled_entries.after_frames.Goals as goal

pub after_outer-requires : goal.after_outer-requires
after_outer-requires c = c.requires.frames

pub after_innermost-requires : goal.after_innermost-requires
after_innermost-requires c =
    rw (c.maps-rows.ensures, c.len-holder.ensures.value) c.requires.slots

pub returns-in_err-rest-clause-spelled : goal.returns-in_err-rest-clause-spelled
returns-in_err-rest-clause-spelled c =
    record { frames = c.after_outer.ensures.spelled; slots = c.requires.slots }

pub returns-clause-spelled : goal.returns-clause-spelled
returns-clause-spelled c =
    record {
      frames = c.after_outer.ensures.spelled;
      slots =
          rw (← c.maps-rows.ensures, ← c.len-holder.ensures.value)
          c.after_innermost.ensures.spelled;
    }
