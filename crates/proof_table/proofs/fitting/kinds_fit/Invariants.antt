use Rattle.proof_table.proofs.Common.{take, All, KindFits}
use Rattle.proof_table.proofs.fitting.kinds_fit.Given as goal

abbrev pub invariant-loop-kind : goal.invariant-loop-kind
invariant-loop-kind l = All (KindFits l.rows l.holder) (take l.kind-index l.kinds)
