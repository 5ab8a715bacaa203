use Rattle.transfer.proofs.Common.{◌≡◌, ◌+◌, ◌∙◌, rules, ap, sym, subst, unwrap_or, to_z-of_z, SFits, target, destination, State, go_to, Sides, beside}
use mir.Syntax.{w32}
use Rattle.branch_refine.specs.Leaving.{goes, left_in}
use Rattle.transfer.proofs.jumps.jump_beside.Goals as goal

pub returns-clause-branches : goal.returns-clause-branches
returns-clause-branches c = λ p count.
    let a : State = c.args.state.now in
    let cond = c.args.cond in
    let g = c.outcome_of-go.result in
    let h = c.outcome_of-stay.result in
    let fits : SFits w32 c.args.by = search rules in
    let found = simp to_z-of_z at c.destination-target.ensures in
    let leads : c.destination-target.result ≡ destination p a.slot c.args.by =
    found ∙ ap (λ n. unwrap_or (target a.slot c.args.by) n) (sym count) in
    record {
      compared = search rules;
      stays = goes h;
      stay = left_in cond a h;
      left_there = c.outcome_of-stay.ensures.refines;
      goes = goes g;
      go = left_in cond a g;
      taken_there = c.outcome_of-go.ensures.refines;
      sides =
          subst (λ n.
          Sides (goes h) (goes g) (go_to (left_in cond a h) (a.slot + 1))
          (go_to (left_in cond a g) n) c.split.result.0 c.split.new.state
          (beside c.split.result.1 c.split.new.state c.split.new.other))
          leads c.split.ensures.sides;
    }
