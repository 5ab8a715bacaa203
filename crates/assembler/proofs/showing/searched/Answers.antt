use Rattle.assembler.proofs.Common.{ℕ, take, ap, ◌∙◌, take_min}
use Rattle.assembler.specs.declared.showing.TheConstants.{MAX_SEARCHED}
use Rattle.assembler.proofs.showing.searched.Goals as goal

pub returns : goal.returns
returns c =
    ap (λ (n : ℕ). take n c.args.bytes.now) c.min.ensures
    ∙ take_min MAX_SEARCHED c.args.bytes.now
