use Rattle.kept_states.proofs.Common.{◌∙◌, rules, whole}
use Rattle.kept_states.proofs.GroupLaws.{whole_cut, whole_done}
use Rattle.kept_states.proofs.groups.cut.Goals as goal

pub loop-group-preserved : goal.loop-group-preserved
loop-group-preserved c =
    whole_cut (whole c.loop-group.groups.items)
    (whole c.push_group.new.groups.items) c.split_first.result.0.now c.loop-group.rest.now
    c.split_first.result.1.now c.args.parts.now c.in_ok-push_group.ensures c.split_first.ensures
    c.loop-group.invariant

pub returns-then-is_empty : goal.returns-then-is_empty
returns-then-is_empty c =
    let first = c.split_first.result.0.now in
    let more = c.split_first.result.1.now in
    let now = c.push_group.new.groups.items in
    whole_done now more c.args.parts.now (search rules)
    (whole_cut (whole c.loop-group.groups.items) (whole now) first c.loop-group.rest.now more
    c.args.parts.now c.in_ok-push_group.ensures c.split_first.ensures c.loop-group.invariant)

pub returns : goal.returns
returns c = c.in_ok-push_group-2.ensures ∙ c.loop-group.invariant
