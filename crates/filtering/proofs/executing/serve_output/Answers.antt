use Rattle.filtering.proofs.executing.serve_output.Goals as goal

pub returns : goal.returns
returns g c =
    record {
      given = c.filter_files.new.lines;
      ended = c.filter_files.result;
      ending = c.flushed.result;
      filters = c.filter_files.ensures;
      hands_on = c.flushed.ensures;
      status_is = c.tell.ensures.status;
      said = c.tell.ensures.said;
    }
