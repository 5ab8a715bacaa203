use Rattle.table_entries.proofs.Common.{ℕ, List, sym, subst, SpellsFrame}
use Rattle.table_entries.proofs.PassedLaws.{seen-known, passed_before, ArePassed-noted}
use Rattle.table_entries.proofs.passing.pass_caller.Goals as goal

pub returns-in-Some-clause-read : goal.returns-in-Some-clause-read
returns-in-Some-clause-read c =
    seen-known c.args.rows c.args.holder c.args.passing.now.frames.items c.args.bytes.now
    c.in-Some.rest.now c.requires
    (rw c.as_slice.ensures.value at c.in-Some.ensures)

pub returns-then-not-allowed-clause-read : goal.returns-then-not-allowed-clause-read
returns-then-not-allowed-clause-read c = rw c.if-not-allowed.true at c.in_ok-allowed.ensures

pub before-requires : goal.before-requires
before-requires c =
    (passed_before c.args.rows c.args.holder c.args.bytes.now c.in_ok-allowed.rest.now
    (rw c.if-not-allowed.false at c.in_ok-allowed.ensures)).1

pub returns-clause-passed : goal.returns-clause-passed
returns-clause-passed c =
    let found = passed_before c.args.rows c.args.holder c.args.bytes.now c.in_ok-allowed.rest.now
    (rw c.if-not-allowed.false at c.in_ok-allowed.ensures) in
    ArePassed-noted c.args.rows c.args.holder c.before-2.result.now found.0
    c.args.passing.now.frames.items c.truncate.new.self.items c.note.new.known.items
    c.requires c.truncate.ensures.items c.note.ensures
    (subst (λ (b : List ℕ). SpellsFrame c.args.rows c.args.holder b found.0)
    (sym c.before-2.ensures) found.2)

pub returns-clause-read : goal.returns-clause-read
returns-clause-read c = rw c.if-not-allowed.false at c.in_ok-allowed.ensures
