use Rattle.std.proofs.Common.{◌≡◌, false, length}
use Rattle.survey_rows.proofs.rows.grid_of.Given as goal

-- as many rows as the loop has passed, if all are chosen
abbrev pub invariant-loop-row : goal.invariant-loop-row
invariant-loop-row l = l.layout.only_refused ≡ false → length l.chosen.items ≡ l.row-index
