use Rattle.control_flow.proofs.Whole.{passed_1, passed_2, passed_3, passed_4, leads-inside, IsFlow-passed}
use Rattle.control_flow.proofs.flows.test_all.Goals as goal

pub returns-in-Some-first_into_half-clause-refused : goal.returns-in-Some-first_into_half-clause-refused
returns-in-Some-first_into_half-clause-refused c =
    let found = c.in-Some-first_into_half.ensures in
    record {
      fails = found.0;
      lowest = found.1;
      first = passed_1 c.args.image.now c.in_default.ensures;
    }

pub returns-in-Some-first_leaving-clause-refused : goal.returns-in-Some-first_leaving-clause-refused
returns-in-Some-first_leaving-clause-refused c =
    let found = c.in-Some-first_leaving.ensures in
    record {
      fails = found.0;
      lowest = found.1;
      first = passed_2 c.args.image.now c.in_default.ensures
          c.in_default-first_into_half.ensures;
    }

pub returns-in-Some-first_falling_off-clause-refused : goal.returns-in-Some-first_falling_off-clause-refused
returns-in-Some-first_falling_off-clause-refused c =
    let found = c.in-Some-first_falling_off.ensures in
    record {
      fails = found.0;
      lowest = found.1;
      first =
          passed_3 c.args.image.now c.in_default.ensures c.in_default-first_into_half.ensures
          c.in_default-first_leaving.ensures;
    }

pub reached-requires : goal.reached-requires
reached-requires c =
    leads-inside c.args.image.now c.in_default.ensures c.in_default-first_falling_off.ensures

pub returns-in-Some-first_unreached-clause-refused : goal.returns-in-Some-first_unreached-clause-refused
returns-in-Some-first_unreached-clause-refused c =
    let found = c.in-Some-first_unreached.ensures in
    record {
      fails = found.0;
      lowest = found.1;
      first =
          passed_4 c.args.image.now c.in_default.ensures c.in_default-first_into_half.ensures
          c.in_default-first_leaving.ensures c.in_default-first_falling_off.ensures;
    }

pub returns-clause-good : goal.returns-clause-good
returns-clause-good c =
    IsFlow-passed c.args.image.now c.in-Ok-reached.marks.items c.recall.ensures c.in_default.ensures
    c.in_default-first_into_half.ensures c.in_default-first_leaving.ensures
    c.in_default-first_falling_off.ensures c.in_default-first_unreached.ensures
    c.in-Ok-reached.ensures
