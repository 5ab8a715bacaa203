use Rattle.std.proofs.Common.{◌∙◌, sym}
use Rattle.assembler.proofs.HintTests.{has_behind}
use Rattle.assembler.proofs.hints.has.Goals as goal

pub loop-at-preserved : goal.loop-at-preserved
loop-at-preserved c = c.loop-at.invariant
    ∙ has_behind c.args.bytes.now c.args.part.now c.loop-at.at
    (sym c.begins.ensures ∙ c.if-begins.false)
