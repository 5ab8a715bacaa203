use Rattle.captures.proofs.StreamLaws.{end-found}
use Rattle.captures.proofs.streams.CaptureStream.advance.Goals as goal

pub returns-in-Stopped-clause-end : goal.returns-in-Stopped-clause-end
returns-in-Stopped-clause-end g c =
    end-found _ _ _ _ c.in-Stopped.end c.in-Stopped.ensures.past c.in-Stopped.ensures.finds
