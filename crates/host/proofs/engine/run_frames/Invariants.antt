use Rattle.host.proofs.Common.{◌≡◌, ◌-◌, List, PacketFrame, noted_after, rule_of}
use Rattle.host.specs.Forms.{report_form_by}
use Rattle.host.proofs.WrittenSoFar.{WrittenSoFar}
use Rattle.host.proofs.engine.run_frames.Given as goal

abbrev pub invariant-frames : goal.invariant-frames
invariant-frames g l = (taken : List PacketFrame) × WrittenSoFar (report_form_by l.form)
    (rule_of (g.M.Runner.bounded l.fn.machine)) (g.M.Runner.contents l.fn.machine)
    (record { bytes = g.R.Source.remaining l.fn.source; may_fail = g.R.Source.may_fail })
    (record { report = g.L.Report.written l.fn.report; sent = g.W.Write.contents l.fn.out })
    taken (g.R.Source.remaining l.reader.source) l.reader.position l.number
    (g.M.Runner.contents l.machine)
    (record { report = g.L.Report.written l.report; sent = g.W.Write.contents l.out })
    × (g.M.Runner.bounded l.machine ≡ g.M.Runner.bounded l.fn.machine)
    × (g.M.Runner.notes l.machine ≡ g.M.Runner.notes l.fn.machine)
    × (g.M.Runner.noted l.machine
    ≡ noted_after (g.M.Runner.notes l.fn.machine) (rule_of (g.M.Runner.bounded l.fn.machine))
    (g.M.Runner.noted l.fn.machine) 0 (g.M.Runner.contents l.fn.machine) taken)

abbrev pub decreases-frames : goal.decreases-frames
decreases-frames g l = 4294967295 - l.number
