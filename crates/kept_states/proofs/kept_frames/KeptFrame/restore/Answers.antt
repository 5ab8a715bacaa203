use Rattle.kept_states.proofs.Common.{◌∙◌, ℕ, ◌+◌, drop, ap, sym, arith, drop_all, unset_frame, all_written, whole, few_of, groups_of, all_written-append}
use Rattle.kept_states.proofs.GroupLaws.{all_written-next}
use Rattle.kept_states.proofs.kept_frames.KeptFrame.restore.Goals as goal

pub loop-index-init : goal.loop-index-init
loop-index-init c =
    let slot : ℕ = c.self.inside.return_slot in
    let few = (few_of c.self.inside.parts) in
    let groups = c.groups-groups.result.now in
    ap (λ f. all_written f (whole groups))
    (c.write_few.ensures ∙ ap (λ f. all_written f few) c.clear_frame.ensures)
    ∙ ap (λ ps. all_written (all_written (unset_frame slot) few) (whole ps)) c.groups-groups.ensures
    ∙ sym (all_written-append (unset_frame slot) few (whole (groups_of c.self.inside.parts)))
    ∙ c.self.view_is

pub loop-index-preserved : goal.loop-index-preserved
loop-index-preserved c =
    let groups = c.groups-groups.result.now in
    let i : ℕ = c.loop-index.index in
    ap (λ f. all_written f (whole (drop (i + 1) groups)))
    (c.write_all.ensures ∙ ap (all_written c.loop-index.frame) c.parts.ensures)
    ∙ sym (all_written-next c.loop-index.frame groups i c.index-groups-index.result
    (omega arith) c.index-groups-index.is)
    ∙ c.loop-index.invariant

pub returns : goal.returns
unfolding all_written
returns c =
    let groups = c.groups-groups.result.now in
    sym (ap (λ ps. all_written c.loop-index.frame (whole ps))
    (drop_all c.loop-index.index groups (omega arith))) ∙ c.loop-index.invariant
