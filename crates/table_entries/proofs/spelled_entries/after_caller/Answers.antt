use Rattle.std.proofs.Common.{inl, refl, ap, ◌∙◌, true}
use Rattle.table_entries.specs.Frames.{frame_in}
use Rattle.table_entries.proofs.Fronts.{SpellsFrame-before}
use Rattle.table_entries.proofs.KnownBytesLaws.{NotesFrame-noted}
use Rattle.table_entries.proofs.spelled_entries.after_caller.Goals as goal

pub returns-in-Some-clause-notes : goal.returns-in-Some-clause-notes
returns-in-Some-clause-notes c = inl refl

pub returns-in-Some-clause-after : goal.returns-in-Some-clause-after
returns-in-Some-clause-after c =
    let (span, there, begins) = c.in-Some.ensures in
    ap (frame_in c.args.rows c.args.holder true) begins
    ∙ c.requires span (rw c.as_slice.ensures.value at there) c.in-Some.rest.now

pub returns-in_err-rest-clause-notes : goal.returns-in_err-rest-clause-notes
returns-in_err-rest-clause-notes c = inl refl

pub before-requires : goal.before-requires
before-requires c =
    (SpellsFrame-before c.args.rows c.args.holder c.args.bytes.now c.args.frame.now
    c.in_ok-rest.rest.now c.in_ok-rest.ensures).0

pub returns-clause-notes : goal.returns-clause-notes
returns-clause-notes c =
    let spells =
    (SpellsFrame-before c.args.rows c.args.holder c.args.bytes.now c.args.frame.now
    c.in_ok-rest.rest.now c.in_ok-rest.ensures).1 in
    NotesFrame-noted c.args.rows c.args.holder c.args.frame.now c.before-2.result.now
    c.args.known.now.items c.note.new.known.items (rw c.before-2.ensures spells) c.note.ensures
