use Rattle.stack_state.proofs.Common.{◌≡◌, rules, true, sym, is_plain}
use Rattle.stack_state.proofs.FactLaws.{learned-plain}
use Rattle.stack_state.proofs.facts.learn_kind.Goals as goal

pub returns-then-is_plain : goal.returns-then-is_plain
returns-then-is_plain c =
    let plain : is_plain c.args.kind.now ≡ true = search rules in
    sym (learned-plain c.args.fact c.args.kind.now plain)
