use Rattle.std.proofs.Common.{refl}
use Rattle.listeners.proofs.explaining.Follower.new.Goals as goal

pub returns-in-Ok-clause-nothing : goal.returns-in-Ok-clause-nothing
returns-in-Ok-clause-nothing c =
    rw c.in-Ok.ensures.ok (λ how. (
      c.new-2.result.last,
      record {
        program = refl;
        walk = tt;
        slots_are = c.new.ensures.items;
        found = λ _. refl;
        turns_are = c.new-2.ensures;
      },
    ))
