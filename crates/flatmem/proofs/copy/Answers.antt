use Rattle.std.proofs.Common.{get_or, ◌∙◌, ap, List, ℕ, [], ◌∷◌, ◌+◌}
use Rattle.flatmem.specs.Bytes.{with_bytes}
use Rattle.flatmem.proofs.Copies.{copied_more}
use Rattle.flatmem.proofs.copy.Goals as goal

pub loop-i-preserved : goal.loop-i-preserved
loop-i-preserved c =
    c.put8.ensures ∙ ap
    (λ (b : ℕ). with_bytes c.loop-i.to (c.args.at + c.loop-i.i) (b ∷ [])) c.get8.ensures
    ∙ ap (λ (l : List ℕ). with_bytes l (c.args.at + c.loop-i.i)
    (get_or c.args.from.now c.loop-i.i 0 ∷ [])) c.loop-i.invariant
    ∙ copied_more c.args.to.now c.args.from.now c.args.at c.loop-i.i c.requires c.loop-i-test.true
