use Rattle.machine.proofs.Common.{◌∙◌, ap, Running}
use Rattle.isa_model.specs.Code.Versions.{version_number}
use Rattle.machine.proofs.machines.Machine.version.Goals as goal

pub returns : goal.returns
returns c =
    c.self.invariant.version_is
    ∙ ap (λ (r : Running). version_number r.program.version) c.self.view_is
