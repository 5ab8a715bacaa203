use Rattle.assembler.proofs.Common.{◌≡◌, ap, ◌∙◌, sym, map, None, Ok, label_of, slot_in}
use Rattle.assembler.proofs.LabelLookups.{insert_label}
use Rattle.assembler.proofs.names.define.Goals as goal

pub returns-in-Ok : goal.returns-in-Ok
returns-in-Ok c =
    let none : slot_in (map label_of c.args.labels.now.entries) c.args.name.now ≡ None =
    sym c.in-None.ensures in
    rw none (ap (λ labels. Ok labels)
    (sym (ap (λ labels. map label_of labels) c.in-Ok.ensures.entries
    ∙ insert_label c.args.labels.now.entries c.args.name c.args.slot none)))
