use Rattle.kept_states.proofs.Common.{◌∙◌, proved_kind}
use Rattle.kept_states.proofs.SameMaps.{map-set_same}
use Rattle.kept_states.proofs.proved_bytes.leave_out_of_all.Goals as goal

pub loop-index-preserved : goal.loop-index-preserved
loop-index-preserved c =
    map-set_same (proved_kind c.args.proved.identity c.args.proved.bytes) c.loop-index.kinds
    c.loop-index.index c.leave_out.new.kind c.index-kinds-index.result c.leave_out.ensures
    ∙ c.loop-index.invariant
