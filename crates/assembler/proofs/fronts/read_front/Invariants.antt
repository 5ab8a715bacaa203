use Rattle.assembler.proofs.Common.{◌≡◌, ◌≤◌, ◌-◌, length, drop, progress_of, ReadsOn, IsBelow}
use Rattle.assembler.proofs.SettledTexts.{BeginsWithin}
use Rattle.assembler.proofs.fronts.read_front.Given as goal

abbrev pub invariant-loop-rest : goal.invariant-loop-rest
invariant-loop-rest l = record {
  goes_on : ReadsOn l.bytes l.rest (length l.bytes - length l.rest) (progress_of l.draft);
  within : BeginsWithin (length l.bytes) (progress_of l.draft).spans;
  few : length l.rest ≤ length l.bytes;
  ends : drop (length l.bytes - length l.rest) l.bytes ≡ l.rest;
  below : IsBelow (length l.bytes - length l.rest) (progress_of l.draft);
}

abbrev pub decreases-loop-rest : goal.decreases-loop-rest
decreases-loop-rest l = length l.rest
