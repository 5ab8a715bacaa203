use Rattle.commands.proofs.Common.{◌∙◌, ap, rules, subst, sym, Program, fetch}
use Rattle.walks.specs.Refused.{IsRefused}
use Rattle.commands.proofs.Refusing.{program_refused, refusal_told}
use Rattle.commands.proofs.verdicts.judge.Goals as goal

-- the copy is the program
pub program_ending-requires : goal.program_ending-requires
program_ending-requires g c = record {
  refused =
      refusal_told c.in-Err.field-0.refusal c.in-Err.field-0.slot c.copied-insn.result _ _ c.say_refused-outcome.result
      (IsRefused c.in-Ok.copy)
      (subst (λ (p : Program). IsRefused p c.in-Err.field-0.refusal c.in-Err.field-0.slot) (sym c.in-Ok.ensures)
      c.in-Err.ensures.refused)
      c.say_refused-outcome.ensures;
}

pub returns-clause-refused : goal.returns-clause-refused
returns-clause-refused g c =
    program_refused _ _ _ _ _ _ _ _ c.in-Err.ensures.refused
    (c.copied-insn.ensures
    ∙ (c.at.ensures ∙ ap (λ (p : Program). fetch p c.in-Err.field-0.slot) c.in-Ok.ensures))
    c.program_ending.ensures.outcome c.say_refused-outcome.ensures

pub returns-in-Ok-verify_watched-clause-program : goal.returns-in-Ok-verify_watched-clause-program
returns-in-Ok-verify_watched-clause-program g c = search rules

pub returns-in-Ok-verify_watched-clause-verified : goal.returns-in-Ok-verify_watched-clause-verified
returns-in-Ok-verify_watched-clause-verified g c = search rules

pub returns-in-Ok-verify_watched-clause-number : goal.returns-in-Ok-verify_watched-clause-number
returns-in-Ok-verify_watched-clause-number g c = search rules

pub returns-in-Ok-verify_watched-clause-bounds : goal.returns-in-Ok-verify_watched-clause-bounds
returns-in-Ok-verify_watched-clause-bounds g c = search rules
