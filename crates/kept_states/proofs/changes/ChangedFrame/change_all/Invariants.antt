use Rattle.kept_states.proofs.Common.{◌≤◌, IsChanged}
use Rattle.kept_states.proofs.changes.ChangedFrame.change_all.Given as goal

abbrev pub invariant-loop-index : goal.invariant-loop-index
invariant-loop-index l = (l.count ≤ l.index) × IsChanged l.count l.initial.self l.self
