use Rattle.filtering.proofs.Common.{◌≡◌, ◌∙◌, ℕ, List, [], ◌++◌, Option, Some, append-nil, refl, sym, subst, TaskOutcome, AppendsPart, FileForm, converted_lines, other_form}
use Rattle.commands.specs.declared.outcomes.TaskOutcome.TheVariants.{Done, WrongWords, Refused, Faulted, CannotRead, CannotWrite, CannotReplace, NoMemory}
use Rattle.commands.specs.Statuses.{status_of}
use Rattle.isa_model.specs.declared.streams.Fault.TheVariants.{BadMagic}
use Rattle.isa_model.specs.Reporting.Messages.{sentence_of}
use Rattle.filtering.proofs.DeliveringLaws.{said-wrong}
use Rattle.filtering.proofs.executing.tell_converted.Goals as goal

-- such a task ended by a fault of the frame stream
other-status : (o : TaskOutcome) (form : FileForm) → other_form o ≡ Some form → 3 ≡ status_of o
other-status Done form h = absurd cc
other-status (WrongWords text) form h = absurd cc
other-status (Refused rejection) form h = absurd cc
other-status (Faulted fault other) form h = refl
other-status (CannotRead path kind) form h = absurd cc
other-status (CannotWrite path cause) form h = absurd cc
other-status (CannotReplace path conflict) form h = absurd cc
other-status NoMemory form h = absurd cc

pub returns-in-Some-clause-status : goal.returns-in-Some-clause-status
returns-in-Some-clause-status g c =
    other-status c.args.ending.outcome c.in-Some.form (sym c.other_form.ensures ∙ c.in-Some.is)

pub returns-in-Some-clause-said : goal.returns-in-Some-clause-said
returns-in-Some-clause-said g c =
    let old = g.W.Write.contents c.args.err.now in
    let new = g.W.Write.contents c.write_texts.new.out in
    let line = c.stream_line.result.now in
    let form = sym c.other_form.ensures ∙ c.in-Some.is in
    subst (λ (o : Option FileForm). AppendsPart old new (converted_lines o c.args.ending))
    (sym form)
    (subst (λ (l : List ℕ). AppendsPart old new (sentence_of BadMagic ++ l))
    (append-nil line ∙ c.stream_line.ensures)
    (said-wrong c.write_texts.result old new (sentence_of BadMagic) _ (line ++ [])
    c.sentence.ensures c.write_texts.ensures.ok c.write_texts.ensures.err))
