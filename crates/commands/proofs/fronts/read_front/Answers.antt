use Rattle.std.proofs.Common.{rules, refl}
use Rattle.commands.proofs.FirstBytes.{file_form_whole}
use Rattle.commands.proofs.fronts.read_front.Goals as goal

pub returns-in-Whole-clause-form : goal.returns-in-Whole-clause-form
returns-in-Whole-clause-form g c =
    file_form_whole _ _ _ c.fill.new.buffer c.file_form_of.result c.file_form_of.ensures refl
    (search rules) c.in-Whole.ensures.fills
