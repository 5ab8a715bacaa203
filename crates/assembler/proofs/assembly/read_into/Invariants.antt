use Rattle.assembler.proofs.Common.{◌≡◌, ◌≤◌, ◌-◌, length, read_on, progress_of}
use Rattle.assembler.proofs.assembly.read_into.Given as goal

abbrev pub invariant-loop-rest : goal.invariant-loop-rest
invariant-loop-rest l =
    (read_on l.text 0 0 (progress_of l.fn.draft)
    ≡ read_on l.rest 0 (length l.text - length l.rest) (progress_of l.draft))
    × (length l.rest ≤ length l.text)

abbrev pub decreases-loop-rest : goal.decreases-loop-rest
decreases-loop-rest l = length l.rest
