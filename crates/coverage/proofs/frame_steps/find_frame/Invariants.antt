use Rattle.coverage.proofs.Common.{◌≡◌, List, length, PacketFrame, checked_rule, contents_after, HasBegun}
use Rattle.coverage.proofs.frame_steps.find_frame.Given as goal

abbrev pub invariant-loop-before : goal.invariant-loop-before
invariant-loop-before g l = (taken : List PacketFrame)
    × HasBegun l.stream taken
    (record { bytes = g.R.Source.remaining l.fn.source; may_fail = g.R.Source.may_fail })
    (g.R.Source.remaining l.reader.source) l.reader.position
    × (l.before ≡ length taken)
    × (l.machine.program ≡ l.fn.machine.program)
    × (l.machine.contents
    ≡ contents_after (checked_rule l.fn.machine.program l.limit) l.fn.machine.contents taken)
