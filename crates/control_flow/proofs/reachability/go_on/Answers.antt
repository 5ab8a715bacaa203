use Rattle.control_flow.proofs.Common.{sym, ◌∙◌, subst, ◌<◌, ℕ, Falls, Jumps, Calls}
use Rattle.control_flow.proofs.SlotSearch.{Extends-leads}
use Rattle.control_flow.proofs.reachability.go_on.Goals as goal

pub find-requires : goal.find-requires
find-requires c = λ k e. c.requires.leads k (Falls (sym c.fall_target.ensures ∙ e))

pub find-requires-2 : goal.find-requires-2
find-requires-2 c =
    λ k e. subst (λ (n : ℕ). k < n) (sym c.in_ok-find.ensures.same)
    (c.requires.leads k (Jumps (sym c.jump_target.ensures ∙ e)))

pub find-requires-3 : goal.find-requires-3
find-requires-3 c =
    λ k e. subst (λ (n : ℕ). k < n) (sym (c.in_ok-find-2.ensures.same ∙ c.in_ok-find.ensures.same))
    (c.requires.leads k (Calls (sym c.call_target.ensures ∙ e)))

pub returns : goal.returns
returns c =
    Extends-leads c.args.image.now c.args.slot c.fall_target.result c.jump_target.result
    c.call_target.result _ _ _ _ _ _ _ _
    c.fall_target.ensures c.jump_target.ensures c.call_target.ensures c.in_ok-find.ensures
    c.in_ok-find-2.ensures c.in_ok-find-3.ensures
