use Rattle.assembler.proofs.Common.{◌≡◌, ◌≤◌, ◌-◌, ◌⊎◌, length, drop, take, progress_of, ReadsOn}
use Rattle.assembler.proofs.fronts.idle_end.Given as goal

abbrev pub invariant-loop-rest : goal.invariant-loop-rest
invariant-loop-rest l = record {
  goes_on : ReadsOn l.text (drop l.from l.text) l.from (progress_of l.draft)
      → ReadsOn l.text l.rest (length l.text - length l.rest) (progress_of l.draft);
  few : length l.rest ≤ length l.text - l.from;
  ends : drop (length l.text - length l.rest) l.text ≡ l.rest;
  idle : ReadsOn l.text (drop l.from l.text) l.from (progress_of l.draft)
      → ReadsOn l.text (drop l.end l.text) l.end (progress_of l.draft);
  after : l.from ≤ l.end;
  within : l.end ≤ length l.text;
  alike : (l.end ≡ l.from) ⊎ (take (length l.start) (drop l.end l.text) ≡ l.start);
}

abbrev pub decreases-loop-rest : goal.decreases-loop-rest
decreases-loop-rest l = length l.rest
