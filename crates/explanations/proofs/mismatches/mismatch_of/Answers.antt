use Rattle.explanations.proofs.Common.{refl, entry_of, entry_at}
use Rattle.explanations.proofs.EntryLaws.{mismatches_of}
use Rattle.explanations.proofs.mismatches.mismatch_of.Goals as goal

pub returns-clause-is : goal.returns-clause-is
returns-clause-is c =
    mismatches_of (entry_at c.args.image.now c.args.table.now) c.args.number c.args.index
    c.read.new.state c.args.state.now (entry_of c.in-Some.head c.read.new.state)
    c.difference.result c.in-Some.ensures.entry refl c.if-head-number.false c.difference.ensures
