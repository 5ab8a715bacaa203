use Rattle.proof_table.specs.Writing.{GainsEntries}
use Rattle.proof_table.proofs.tables.write_entries.Given as goal

abbrev pub invariant-loop-index : goal.invariant-loop-index
invariant-loop-index g l =
    GainsEntries l.image l.explored l.index (g.W.Write.contents l.initial.writer)
    (g.W.Write.contents l.writer)
