use Rattle.std.proofs.Common.{refl, length}
use Rattle.stack_state.specs.declared.states.State.{State}
use Rattle.table_entries.proofs.KnownBytesLaws.{AreSpelled-outer}
use Rattle.table_entries.proofs.tables.Table.head_of_weaker.Goals as goal

pub head_of-requires : goal.head_of-requires
head_of-requires c =
    let a = c.args.state.now in
    let b : State = record a { innermost = c.forget_unsaid.new.frame } in
    AreSpelled-outer (length c.args.image.now.maps) 7 c.args.known.now c.keep.new.self a b
    c.keep.ensures.frames c.keep.ensures.slots refl c.requires

pub returns-clause-spelled : goal.returns-clause-spelled
returns-clause-spelled c =
    let a = c.args.state.now in
    let b : State = record a { innermost = c.forget_unsaid.new.frame } in
    let again : State = record a { innermost = c.copy-whole.result } in
    AreSpelled-outer (length c.args.image.now.maps) 7 c.head_of.new.known c.keep-2.new.self b again
    c.keep-2.ensures.frames c.keep-2.ensures.slots refl c.head_of.ensures.spelled
