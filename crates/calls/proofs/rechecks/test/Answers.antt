use Rattle.calls.proofs.Common.{ℕ, List, length, ap, ◌∙◌, sym, subst, IsVerified}
use Rattle.isa_model.specs.Code.Instructions.{Program}
use Rattle.rechecking.specs.Refusing.{ShowsBound}
use Rattle.messages.specs.Texts.{IsTableText}
use Rattle.calls.specs.Crossing.{filled}
use Rattle.calls.specs.Tables.{broken}
use Rattle.calls.proofs.rechecks.test.Goals as goal

pub returns-in-Ok-recheck-clause-accepted : goal.returns-in-Ok-recheck-clause-accepted
returns-in-Ok-recheck-clause-accepted c = λ _.
    let found = c.in-Ok-recheck in
    subst (λ (p : Program). IsVerified (record { program = p; bound = c.bound.result }))
    found.ensures.program
    (subst (λ (b : ℕ). IsVerified (record { program = found.verified.program; bound = b }))
    (sym c.bound.ensures.bound) found.ensures.verified)

pub returns-in-Ok-recheck-clause-shows : goal.returns-in-Ok-recheck-clause-shows
returns-in-Ok-recheck-clause-shows c = λ _.
    subst (λ (b : ℕ). ShowsBound c.args.program c.args.table.now b)
    (sym c.bound.ensures.bound) c.in-Ok-recheck.ensures.closed

pub returns-clause-refused : goal.returns-clause-refused
returns-clause-refused c = λ _.
    let error = c.in-Err.error in
    let text = c.in-Some.text.items in
    let bytes = c.as_slice.ensures.value in
    let said = c.broken.ensures.said in
    record {
      error = error;
      refused = c.in-Err.ensures.refused;
      not_memory = sym c.is_memory.ensures ∙ c.if-is_memory.false;
      out_is = c.broken.ensures.is ∙ ap (λ (n : ℕ). broken error n) (sym said);
      text = text;
      text_is = subst (λ (p : Program). IsTableText p c.args.table.now error text)
          c.in-Ok.ensures c.in-Some.ensures.text;
      fills =
          record {
            whole = said ∙ c.fill.ensures.count ∙ ap (λ (l : List ℕ). length l) bytes;
            written =
                c.fill.ensures.filled ∙ ap (λ (l : List ℕ). filled c.args.why.now l) bytes;
          };
    }
