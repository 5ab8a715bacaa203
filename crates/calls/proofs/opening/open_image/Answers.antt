use Rattle.calls.proofs.opening.open_image.Goals as goal

pub returns-in-Ok-clause-opened : goal.returns-in-Ok-clause-opened
returns-in-Ok-clause-opened c = λ ok. record {
  bound = c.in-Ok.verified.bound;
  holds =
      record {
        accepts =
            record {
              program = c.in-Ok.verified.program;
              spelled = c.in-Ok.ensures.spelled;
              verified = c.in-Ok.ensures.verified;
            };
        is = c.open.ensures.opened ok;
      };
  number = c.in-Ok.ensures.number;
  bounds = c.in-Ok.ensures.bounds;
}
