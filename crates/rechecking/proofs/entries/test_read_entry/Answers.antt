use Rattle.rechecking.proofs.Common.{length, refl, fetch, entry_of, entry_at, Grows-same}
use Rattle.rechecking.proofs.CheckingLaws.{there_is, IsClosedEntry-follows, fine_of, refused_step, unnamed_step}
use Rattle.rechecking.proofs.UntouchedLaws.{AreSpelled-after, AreSpelled-after_two}
use Rattle.rechecking.proofs.GrowingLaws.{HasEntry-grows}
use Rattle.rechecking.proofs.entries.test_read_entry.Goals as goal

pub follows-requires-clause-spelled : goal.follows-requires-clause-spelled
follows-requires-clause-spelled c =
    let p = c.args.image.now in
    let a = c.args.state.now in
    let (insn, fetched) = there_is (fetch p a.slot) c.requires.there.allowed.begins in
    AreSpelled-after (length p.maps) c.args.bytes.now c.keep.new.self p a insn c.in-Ok.ways
    c.step_in_place.new.state c.step_in_place.new.other c.parts_kept-parts.result
    c.kept_after-kept.result (c.parts_kept-parts.ensures insn fetched) c.kept_after-kept.ensures
    c.keep.ensures.frames c.keep.ensures.slots c.requires.spelled
    (c.in-Ok.ensures.steps insn fetched)

pub follows-requires-clause-others : goal.follows-requires-clause-others
follows-requires-clause-others c = λ two.
    let p = c.args.image.now in
    let a = c.args.state.now in
    let (insn, fetched) = there_is (fetch p a.slot) c.requires.there.allowed.begins in
    AreSpelled-after_two (length p.maps) c.args.bytes.now c.keep.new.self p a insn c.in-Ok.ways
    c.step_in_place.new.state c.step_in_place.new.other c.parts_kept-parts.result
    c.kept_after-kept.result (c.parts_kept-parts.ensures insn fetched) c.kept_after-kept.ensures
    c.keep.ensures.frames c.keep.ensures.slots c.requires.spelled
    (c.in-Ok.ensures.steps insn fetched) two

pub returns-in-Err-clause-grows : goal.returns-in-Err-clause-grows
returns-in-Err-clause-grows c = Grows-same c.args.image.now c.args.growing.now

pub returns-in-Err-clause-refused : goal.returns-in-Err-clause-refused
returns-in-Err-clause-refused c =
    let p = c.args.image.now in
    let t = entry_at p c.args.growing.now.table in
    let e = entry_of c.args.head c.args.state.now in
    refused_step p t c.args.index e c.in-Err.refusal c.step_in_place.new.state
    c.step_in_place.new.other c.requires.there.there
    c.requires.there.allowed.begins c.in-Err.ensures.steps

pub returns-in-Some-clause-fine : goal.returns-in-Some-clause-fine
returns-in-Some-clause-fine c =
    let p = c.args.image.now in
    let h = c.follows.new.growing in
    let e = entry_of c.args.head c.args.state.now in
    let allowed = c.requires.there.allowed in
    let has =
    HasEntry-grows p c.args.growing.now h c.args.index c.args.head c.args.state.now
    c.follows.ensures.grows c.requires.there in
    fine_of p (entry_at p h.table) c.args.index e has.there
    (IsClosedEntry-follows p
    (entry_at p h.table) e c.in-Ok.ways c.step_in_place.new.state c.step_in_place.new.other
    allowed.some allowed.most c.in-Ok.ensures.leads c.in-Some.ensures.yes)

pub returns-in-None-clause-refused : goal.returns-in-None-clause-refused
returns-in-None-clause-refused c =
    let p = c.args.image.now in
    let h = c.follows.new.growing in
    let e = entry_of c.args.head c.args.state.now in
    let has =
    HasEntry-grows p c.args.growing.now h c.args.index c.args.head c.args.state.now
    c.follows.ensures.grows c.requires.there in
    unnamed_step p (entry_at p h.table) c.args.index e c.in-Ok.ways c.step_in_place.new.state
    c.step_in_place.new.other has.there
    c.requires.there.allowed.begins c.in-Ok.ensures.steps (c.in-None.ensures.none refl)
