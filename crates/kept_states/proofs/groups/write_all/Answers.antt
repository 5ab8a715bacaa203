use Rattle.kept_states.proofs.Common.{◌∙◌, ℕ, ◌+◌, drop, ap, sym, arith, all_written, all_written-more, all_written-all}
use Rattle.kept_states.proofs.groups.write_all.Goals as goal

pub loop-index-preserved : goal.loop-index-preserved
loop-index-preserved c =
    let parts = c.args.parts.now in
    let i : ℕ = c.loop-index.index in
    ap (λ f. all_written f (drop (i + 1) parts)) c.write.ensures
    ∙ sym (all_written-more c.loop-index.frame parts i c.index-parts-index.result
    (omega arith) c.index-parts-index.is)
    ∙ c.loop-index.invariant

pub returns : goal.returns
returns c =
    sym (all_written-all c.loop-index.frame c.args.parts.now c.loop-index.index (omega arith))
    ∙ c.loop-index.invariant
