use Rattle.filtering.proofs.Common.{ℕ, List, Option, String, ap₂, refl, subst, held, TaskOutcome, Says, usage}
use Rattle.std.specs.declared.alloc.Global.{Global}
use Rattle.commands.specs.declared.endings.Ending.{Ending}
use Rattle.commands.specs.declared.outcomes.TaskOutcome.TheVariants.{Done}
use Rattle.commands.specs.Flushing.{Flushes}
use Rattle.filtering.proofs.DeliveringLaws.{said-wrong}
use Rattle.filtering.proofs.executing.say_no_task.Goals as goal

pub returns-in-Wrong : goal.returns-in-Wrong
returns-in-Wrong g c =
    rw c.in-Wrong.is (
      refl,
      refl,
      said-wrong _ _ _ _ _ usage c.as_str-in-Wrong.ensures.value
          c.write_texts.ensures.ok c.write_texts.ensures.err,
    )

pub returns-in-Shown : goal.returns-in-Shown
returns-in-Shown g c =
    let same = ap₂ (λ (o : TaskOutcome) (w : Option (String Global)).
    let e : Ending = record { outcome = o; why = w } in e) c.plain.ensures.outcome
    c.plain.ensures.why in
    rw c.in-Shown.is (record {
      given = c.say_line-outcome.new.out;
      outcome = c.say_line-outcome.result;
      ending = c.flushed.result;
      says = subst (λ (l : List ℕ). Says (held g.W1.Write.contents c.args.out.now)
          (held g.W1.Write.contents c.say_line-outcome.new.out) l Done c.say_line-outcome.result)
          c.as_str.ensures.value c.say_line-outcome.ensures.said;
      hands_on = subst (λ (e : Ending). Flushes g.W1.Write.contents c.say_line-outcome.new.out
          c.flushed.new.out e c.flushed.result) same c.flushed.ensures;
      status_is = c.tell.ensures.status;
      said = c.tell.ensures.said;
    })
