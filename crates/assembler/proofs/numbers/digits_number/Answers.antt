use Rattle.assembler.proofs.Common.{◌+◌, ap, ◌∙◌, sym, drop, drop_more, digits_number}
use Rattle.assembler.proofs.numbers.digits_number.Goals as goal

pub loop-c-preserved : goal.loop-c-preserved
loop-c-preserved c = (
  c.add_digit-n.ensures.low,
  c.loop-c.invariant.1
      ∙ ap (digits_number c.args.base c.loop-c.n)
      (drop_more c.args.digits.now c.loop-c.c-index 0 c.loop-c-test.true)
      ∙ ap (λ n. digits_number c.args.base n (drop (c.loop-c.c-index + 1) c.args.digits.now))
      (sym c.add_digit-n.ensures.value),
)
