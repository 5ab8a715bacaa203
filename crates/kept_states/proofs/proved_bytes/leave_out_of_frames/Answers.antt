use Rattle.kept_states.proofs.Common.{◌∙◌, proved_kind, with_kinds}
use Rattle.kept_states.proofs.SameMaps.{map-set_same}
use Rattle.kept_states.proofs.proved_bytes.leave_out_of_frames.Goals as goal

pub loop-index-preserved : goal.loop-index-preserved
loop-index-preserved c =
    map-set_same (with_kinds (proved_kind c.args.proved.identity c.args.proved.bytes))
    c.loop-index.frames c.loop-index.index c.leave_out_of_frame.new.frame
    c.index-frames-index.result c.leave_out_of_frame.ensures
    ∙ c.loop-index.invariant
