use Rattle.kept_states.proofs.Common.{◌++◌, ◌∙◌, Option, option_to_list, ap, ap₂, sym, Part, all_written, others_of}
use Rattle.kept_states.proofs.groups.KeptParts.write_few.Goals as goal
use Rattle.kept_states.proofs.groups.KeptParts.write_few.Goals.{in-Some, in-None}

pub returns : goal.returns
unfolding all_written
returns c =
    let frame = c.args.frame.now in
    let kept = c.args.self.now in
    elim c.match-constant.branch [
      | in-Some w ↦
          c.write_all.ensures ∙ ap₂ all_written (w.frame-is ∙ w.write.ensures) c.others.ensures
          ∙ ap (λ (o : Option Part). all_written frame (option_to_list o ++ others_of kept))
          (sym w.in-Some.is ∙ c.constant.ensures)
      | in-None w ↦
          c.write_all.ensures ∙ ap₂ all_written w.frame-is c.others.ensures
          ∙ ap (λ (o : Option Part). all_written frame (option_to_list o ++ others_of kept))
          (sym w.in-None.is ∙ c.constant.ensures)
    ]
