use Rattle.explanations.proofs.Common.{◌≡◌, string_bytes, place_turns}
use Rattle.explanations.proofs.turns.place_turns.Given as goal

abbrev pub invariant-loop-count : goal.invariant-loop-count
invariant-loop-count l = string_bytes l.text ≡ place_turns l.earlier l.state l.count
