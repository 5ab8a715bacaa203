use Rattle.std.proofs.Common.{sym, ◌∙◌}
use Rattle.captures.proofs.OpeningLaws.{opens_refused, opens_short, opens_read}
use Rattle.captures.proofs.reader.CaptureReader.open.Goals as goal

pub returns-in-Ended : goal.returns-in-Ended
returns-in-Ended g c =
    opens_short c.args.reasons g.R.Source.remaining _ _ _ c.fill.new.buffer c.fill.auto.buffer
    c.in-Ended.ensures.fills.0 c.in-Ended.ensures.fills.1 c.in-Ended.ensures.fills.2

pub returns-in-Err : goal.returns-in-Err
returns-in-Err g c =
    opens_refused c.args.reasons g.R.Source.remaining _ _ c.fill.new.buffer c.in-Err.refusal
    c.fill.auto.buffer
    c.in-Whole.ensures.fills (sym c.capture_format.ensures ∙ c.in-Err.is)

pub returns-in-Ok-begun : goal.returns-in-Ok-begun
returns-in-Ok-begun g c =
    opens_read c.args.reasons g.R.Source.remaining _ c.fill.new.buffer c.fill.new.source
    c.in-Ok.format _
    c.fill.auto.buffer c.in-Whole.ensures.fills (sym c.capture_format.ensures ∙ c.in-Ok.is)
    c.in-Ok-begun.ensures
