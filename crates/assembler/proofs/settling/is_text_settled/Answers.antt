use Rattle.assembler.proofs.Common.{◌-◌, length, progress_of}
use Rattle.assembler.proofs.settling.is_text_settled.Goals as goal

pub returns-in-Ok-clause-open : goal.returns-in-Ok-clause-open
returns-in-Ok-clause-open c = λ no. record {
  rest = c.in-Ok.field-0.rest.now;
  at = length c.args.front.now - length c.in-Ok.field-0.rest.now;
  before = progress_of c.in-Ok.field-0.draft;
  goes_on = c.in-Ok.ensures.front.goes_on;
  is_beginning = c.in-Ok.ensures.front.is_beginning;
}
