use Rattle.stack_state.proofs.Common.{arith, ap, length-set, set, ◌∙◌, map_over_more, forgotten_register}
use Rattle.stack_state.proofs.helpers.forget_in_registers.Goals as goal

pub loop-i-preserved : goal.loop-i-preserved
loop-i-preserved c =
    let xs = c.args.kinds.now in
    let ys = c.loop-i.kinds in
    let i = c.loop-i.i in
    let x = c.index-kinds-i.result in
    record {
      length = length-set ys i c.forgotten_register.result ∙ c.loop-i.invariant.length;
      done = ap (set ys i) c.forgotten_register.ensures
          ∙ map_over_more (forgotten_register c.args.index) xs ys i x
          (omega arith) c.loop-i.invariant.done c.index-kinds-i.is;
    }
