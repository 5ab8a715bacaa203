use Rattle.assembler.proofs.Common.{◌≡◌, after_lines}
use Rattle.assembler.proofs.showing.after_lines.Given as goal

abbrev pub invariant-loop-skipped : goal.invariant-loop-skipped
invariant-loop-skipped l = l.rest ≡ after_lines l.skipped l.text
