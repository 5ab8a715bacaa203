use Rattle.stack_state.proofs.Common.{arith, ap, length-set, get_or, set, ◌∙◌, get_or_default, map_over_more, with_kinds, learned}
use Rattle.stack_state.proofs.facts.learn_frames.Goals as goal

pub loop-index-preserved : goal.loop-index-preserved
loop-index-preserved c =
    let xs = c.args.frames.now in
    let ys = c.loop-index.frames in
    let i = c.loop-index.index in
    let x = get_or ys i c.index-frames-index.result in
    record {
      length = length-set ys i c.learn_frame.new.frame ∙ c.loop-index.invariant.length;
      done =
          ap (set ys i) c.learn_frame.ensures
          ∙ map_over_more (with_kinds (learned c.args.fact)) xs ys i x
          (omega arith) c.loop-index.invariant.done
          (get_or_default ys i c.index-frames-index.result x (omega arith));
    }
