use Rattle.listeners.proofs.Common.{◌∷◌, rules, sym, subst, ComesThrough}
use Rattle.listeners.proofs.Following.{count_of, came_through}
use Rattle.listeners.proofs.Turning.{earlier_found, turn_before}
use Rattle.listeners.proofs.explaining.Follower.explanation.Goals as goal

pub returns-in-Ok : goal.returns-in-Ok
returns-in-Ok c = λ how p before s h at.
    let self = c.args.self.now in
    let count =
    count_of how self.image.now p self.slots.items self.slot self.turns (s ∷ before) s h in
    let further =
    earlier_found _ _ (s ∷ before) s self.turns c.earlier_before.result c.earlier_before.ensures at
    (search rules) h.turns_are in
    rw c.in-Ok.ensures.ok (
      search rules,
      c.in_ok-way.ensures how p before s h,
      turn_before how p s before c.earlier_before.result h.walk further,
      rw c.replace.ensures.value
          (subst (ComesThrough how p s) (sym h.slots_are) (came_through how p before s h.walk)),
    )
