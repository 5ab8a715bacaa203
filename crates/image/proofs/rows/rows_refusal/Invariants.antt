use Rattle.image.proofs.Common.{◌≡◌, drop, rows_refusal}
use Rattle.image.proofs.rows.rows_refusal.Given as goal

abbrev pub invariant-loop-index : goal.invariant-loop-index
invariant-loop-index l = rows_refusal l.index (drop l.index l.rows) ≡ rows_refusal 0 l.rows
