use Rattle.coverage.proofs.Common.{◌≡◌, ◌-◌, List, length, Version, PacketFrame, checked_rule, contents_after, HasBegun, HasCountedFrames}
use Rattle.coverage.proofs.stream_hits.count_frames.Given as goal

abbrev pub invariant-frames : goal.invariant-frames
invariant-frames g l = (v : Version) × (taken : List PacketFrame)
    × HasBegun v taken
    (record { bytes = g.R.Source.remaining l.fn.source; may_fail = g.R.Source.may_fail })
    (g.R.Source.remaining l.reader.source) l.reader.position
    × (l.number ≡ length taken)
    × (l.machine.program ≡ l.fn.machine.program)
    × (l.machine.contents
    ≡ contents_after (checked_rule l.fn.machine.program l.limit) l.fn.machine.contents taken)
    × HasCountedFrames l.fn.machine.program l.limit l.fn.machine.contents taken l.hits

abbrev pub decreases-frames : goal.decreases-frames
decreases-frames g l = 4294967295 - l.number
