use Rattle.calls.proofs.judging.verify_image.Goals as goal

pub returns-in-Ok-clause-accepted : goal.returns-in-Ok-clause-accepted
returns-in-Ok-clause-accepted c = λ ok. record {
  accepts = record {
    program = c.in-Ok.program;
    spelled = c.in-Ok.ensures.found;
    verified = c.judge.ensures.accepted ok;
  };
  number = c.judge.ensures.number ok;
  bounds = c.judge.ensures.bounds ok;
  alone = c.judge.ensures.alone ok;
}
