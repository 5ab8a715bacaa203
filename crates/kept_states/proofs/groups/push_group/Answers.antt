use Rattle.kept_states.proofs.Common.{◌∙◌, ◌++◌, ap, whole}
use Rattle.kept_states.proofs.GroupLaws.{whole-more}
use Rattle.kept_states.proofs.groups.push_group.Goals as goal

pub returns : goal.returns
returns c =
    ap whole c.in_ok-push.ensures.items
    ∙ whole-more c.args.groups.now.items c.in_ok-group.group
    ∙ ap (λ l. whole c.args.groups.now.items ++ l) c.in_ok-group.ensures
