use Rattle.filtering.proofs.copying.copied.Goals as goal

pub returns-clause-copies : goal.returns-clause-copies
returns-clause-copies g c =
    record {
      ended = c.copy_frames-ended.result;
      handed = _;
      copies = c.copy_frames-ended.ensures;
      ends = c.delivered.ensures.delivers;
    }
