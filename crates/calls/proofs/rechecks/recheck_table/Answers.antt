use Rattle.calls.proofs.rechecks.recheck_table.Goals as goal

pub returns-in-Ok-clause-accepted : goal.returns-in-Ok-clause-accepted
returns-in-Ok-clause-accepted c = λ ok. record {
  accepts = record {
    program = c.in-Ok.program;
    spelled = c.in-Ok.ensures.found;
    verified = c.test.ensures.accepted ok;
  };
  shows = c.test.ensures.shows ok;
  alone = c.test.ensures.alone ok;
}
