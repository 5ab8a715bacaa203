use Rattle.std.proofs.Common.{◌∙◌, Some, ap, refl, sym, rules}
use Rattle.exact_io.specs.Waiting.{waiting}
use Rattle.commands.proofs.Delivered.{fails_at_the_end}
use Rattle.commands.proofs.streams.outcome_of.Goals as goal

pub returns-in-Err : goal.returns-in-Err
returns-in-Err g c =
    fails_at_the_end _ (waiting c.flush.new.self) _ _ _ _ _ _ _ c.in-Ok.is c.flush.ensures.bytes
    (refl, ap Some c.kind.ensures ∙ sym c.in-Err.ensures.remembered)

pub returns-in-None : goal.returns-in-None
returns-in-None g c = search rules

pub returns-in-Some : goal.returns-in-Some
returns-in-Some g c = search rules
