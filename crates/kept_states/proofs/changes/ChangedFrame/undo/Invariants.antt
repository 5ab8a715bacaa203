use Rattle.kept_states.proofs.Common.{◌≡◌, ◌-◌, take, drop, all_written, changes_of}
use Rattle.kept_states.proofs.changes.ChangedFrame.undo.Given as goal

-- the changes from here on are still to be taken back
abbrev pub invariant-loop-change : goal.invariant-loop-change
invariant-loop-change l =
    (all_written l.self.frame (take (l.count - l._change) (changes_of l.self))
    ≡ all_written l.initial.self.frame (take l.count (changes_of l.initial.self)))
    × (drop (l.count - l._change) (changes_of l.self)
    ≡ drop l.count (changes_of l.initial.self))
