use Rattle.assembler.proofs.Common.{◌≡◌, drop, map, hint_in, lent_row}
use Rattle.assembler.proofs.hints.hint_in.Given as goal

abbrev pub invariant-loop-row : goal.invariant-loop-row
invariant-loop-row l =
    hint_in (map lent_row l.rows) l.otherwise l.front l.back
    ≡ hint_in (map lent_row (drop l.row-index l.rows)) l.otherwise l.front l.back
