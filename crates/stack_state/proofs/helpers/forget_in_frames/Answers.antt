use Rattle.stack_state.proofs.Common.{arith, ap, length-set, get_or, set, ◌∙◌, get_or_default, map_over_more, forgotten_frame}
use Rattle.stack_state.proofs.helpers.forget_in_frames.Goals as goal

pub loop-i-preserved : goal.loop-i-preserved
loop-i-preserved c =
    let xs = c.args.frames.now in
    let ys = c.loop-i.frames in
    let i = c.loop-i.i in
    let x = get_or ys i c.index-frames-i.result in
    record {
      length = length-set ys i c.forget_in_frame.new.frame ∙ c.loop-i.invariant.length;
      done = ap (set ys i) c.forget_in_frame.ensures
          ∙ map_over_more (forgotten_frame c.args.index) xs ys i x
          (omega arith) c.loop-i.invariant.done
          (get_or_default ys i c.index-frames-i.result x (omega arith));
    }
