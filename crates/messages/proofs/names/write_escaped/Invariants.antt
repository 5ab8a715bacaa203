use Rattle.messages.proofs.Common.{ℕ, List, Option, length, Appends, AppendsBeginning, shown_from}
use Rattle.messages.proofs.names.write_escaped.Given as goal

abbrev pub invariant-shown : goal.invariant-shown
invariant-shown g l = record {
  written : (new : Option (List ℕ))
      → Appends (g.W.Write.contents l.out) new (shown_from l.before l.rest)
      → Appends (g.W.Write.contents l.initial.out) new (shown_from 0 l.bytes);
  broken : (new : Option (List ℕ))
      → AppendsBeginning (g.W.Write.contents l.out) new (shown_from l.before l.rest)
      → AppendsBeginning (g.W.Write.contents l.initial.out) new (shown_from 0 l.bytes);
}

abbrev pub decreases-shown : goal.decreases-shown
decreases-shown g l = length l.rest
