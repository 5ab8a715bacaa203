use Rattle.kept_states.proofs.Common.{◌∙◌, ℕ, ◌∷◌, ◌++◌, [], ap, get_or, sym, arith, take_more, take_all, AbstractFrame}
use Rattle.kept_states.proofs.kept_frames.keep_all.Goals as goal

pub loop-index-preserved : goal.loop-index-preserved
loop-index-preserved c =
    let frames = c.args.frames.now in
    let i : ℕ = c.loop-index.index in
    let frame : AbstractFrame = c.index-frames-index-in-loop-index.result in
    c.in_ok-push.ensures.items
    ∙ ap (λ (f : AbstractFrame). c.loop-index.kept.items ++ f ∷ [])
    (c.in_ok-frame.ensures ∙ c.index-frames-index-in-loop-index.is)
    ∙ ap (λ l. l ++ get_or frames i frame ∷ []) c.loop-index.invariant
    ∙ sym (take_more frames i frame (omega arith))

pub returns : goal.returns
returns c = c.loop-index.invariant ∙ take_all c.loop-index.index c.args.frames.now (omega arith)
