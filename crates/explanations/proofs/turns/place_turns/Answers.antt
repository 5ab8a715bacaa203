use Rattle.explanations.proofs.Common.{arith, string_bytes, place_turns}
use Rattle.explanations.proofs.Texts.{at_end}
use Rattle.explanations.proofs.turns.place_turns.Goals as goal

pub returns : goal.returns
returns c =
    at_end (place_turns c.args.earlier.now c.args.state.now) (string_bytes c.loop-count.text)
    c.loop-count.count 74 (omega (arith, c.loop-count-test.false, c.loop-count.auto.count-end))
    c.loop-count.invariant
