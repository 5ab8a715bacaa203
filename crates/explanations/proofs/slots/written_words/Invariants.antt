use Rattle.explanations.proofs.Common.{◌≡◌, string_bytes, written_words}
use Rattle.explanations.proofs.slots.written_words.Given as goal

abbrev pub invariant-loop-count : goal.invariant-loop-count
invariant-loop-count l = string_bytes l.text ≡ written_words l.slot l.marks l.count
