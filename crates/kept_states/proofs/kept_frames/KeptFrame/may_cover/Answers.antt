use Rattle.kept_states.proofs.Common.{◌++◌, ◌∙◌, ap, sym, subst, arith, All, parts_of, IsPartOf, whole, few_of, groups_of}
use Rattle.kept_states.proofs.GroupLaws.{All-first, All-others, parts_all, group_all}
use Rattle.kept_states.proofs.kept_frames.KeptFrame.may_cover.Goals as goal

pub returns-then-not-may_cover_few : goal.returns-then-not-may_cover_few
returns-then-not-may_cover_few c = λ same.
    let frame = c.args.frame.now in
    let few = (few_of c.self.inside.parts) in
    let groups = (groups_of c.self.inside.parts) in
    let all =
    parts_all frame (few ++ whole groups)
    (sym c.self.invariant ∙ ap parts_of (c.self.view_is ∙ same)) in
    let yes = c.may_cover_few.ensures (All-first (IsPartOf frame) few (whole groups) all) in
    absurd (cc (yes, c.if-not-may_cover_few.true))

pub returns-then-not-may_cover_all : goal.returns-then-not-may_cover_all
returns-then-not-may_cover_all c = λ same.
    let frame = c.args.frame.now in
    let few = (few_of c.self.inside.parts) in
    let groups = c.groups-groups.result.now in
    let at = c.index-groups-index.result in
    let all =
    parts_all frame (few ++ whole (groups_of c.self.inside.parts))
    (sym c.self.invariant ∙ ap parts_of (c.self.view_is ∙ same)) in
    let there : All (IsPartOf frame) (whole groups) =
    subst (λ ps. All (IsPartOf frame) (whole ps)) (sym c.groups-groups.ensures)
    (All-others (IsPartOf frame) few (whole (groups_of c.self.inside.parts)) all) in
    let here = group_all (IsPartOf frame) groups c.loop-index.index at (omega arith) there in
    let yes =
    c.may_cover_all.ensures
    (subst (All (IsPartOf frame)) (sym (c.parts.ensures ∙ c.index-groups-index.is)) here) in
    absurd (cc (yes, c.if-not-may_cover_all.true))
