use Rattle.std.proofs.Common.{◌≡◌, ◌<◌, ◌∙◌, false, length, get_or}
use Rattle.control_flow.proofs.MarkLemmas.{read_at}
use Rattle.control_flow.proofs.SlotSearch.{Extends-new}
use Rattle.control_flow.proofs.searches.SlotSearch.find.Goals as goal

pub returns-in_ok-push : goal.returns-in_ok-push
returns-in_ok-push c =
    let found = c.args.self.now.found.items in
    let inside : c.in-Some.slot < length found = c.requires c.in-Some.slot c.in-Some.is in
    let unmarked : get_or found c.in-Some.slot false ≡ false =
    read_at found c.in-Some.slot c.index.result.now false inside c.index.ensures
    ∙ c.if-not-index.true in
    rw (c.in-Some.is, c.in_ok-push.ensures.items)
    (Extends-new found c.args.self.now.frontier.items c.in-Some.slot inside unmarked)
