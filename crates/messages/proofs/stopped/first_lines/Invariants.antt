use Rattle.messages.proofs.Common.{◌≡◌, ◌++◌, drop, string_bytes, first_lines}
use Rattle.messages.proofs.stopped.first_lines.Given as goal

abbrev pub invariant-loop-index : goal.invariant-loop-index
invariant-loop-index l =
    string_bytes l.text ++ first_lines (drop l.index l.first) ≡ first_lines l.first
