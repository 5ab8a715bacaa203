use Rattle.explanations.proofs.FrontLaws.{front_open}
use Rattle.explanations.proofs.mismatches.first_slot.Goals as goal

pub returns-then-not-covers-clause-found : goal.returns-then-not-covers-clause-found
returns-then-not-covers-clause-found c = record {
  before = c.loop-slot.invariant;
  apart = front_open c.args.entry.now c.args.state.now c.front_of.result c.args.frame
      _ _ c.covers.result c.if-not-covers.true c.front_of.ensures c.covers.ensures.encloses;
}
