use Rattle.explanations.proofs.Common.{arith, string_bytes, written_words}
use Rattle.explanations.proofs.Texts.{at_end}
use Rattle.explanations.proofs.slots.written_words.Goals as goal

pub returns : goal.returns
returns c =
    at_end (written_words c.args.slot c.args.marks) (string_bytes c.loop-count.text)
    c.loop-count.count 8 (omega (arith, c.loop-count-test.false, c.loop-count.auto.count-end))
    c.loop-count.invariant
