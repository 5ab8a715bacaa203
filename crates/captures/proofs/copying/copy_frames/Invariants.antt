use Rattle.captures.proofs.Common.{◌-◌, List, PacketFrame}
use Rattle.captures.proofs.CopiesLaws.{CopiedSoFar}
use Rattle.captures.proofs.copying.copy_frames.Given as goal

abbrev pub invariant-frames : goal.invariant-frames
invariant-frames g l = (copied : List PacketFrame) × CopiedSoFar l.form l.placing l.version
    (record { bytes = g.R.Source.remaining l.fn.source; may_fail = g.R.Source.may_fail })
    (g.W.Write.contents l.fn.out) copied (g.R.Source.remaining l.reader.source)
    l.reader.position l.counts (g.W.Write.contents l.out)

abbrev pub decreases-frames : goal.decreases-frames
decreases-frames g l = 4294967295 - l.counts.frames
