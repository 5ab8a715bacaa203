use Rattle.listeners.proofs.Common.{arith, subst, IsRefused, AcceptsAll}
use Rattle.stack_state.specs.Starts.{start}
use Rattle.listeners.specs.Rejections.{IfRejected}
use Rattle.listeners.proofs.limited.verify_within.Goals as goal

pub verify_followed-requires : goal.verify_followed-requires
verify_followed-requires c = record { untold = λ how. (start, tt) }

pub verify_followed-requires-2 : goal.verify_followed-requires-2
verify_followed-requires-2 c = record { untold = λ how. (start, tt) }

pub returns-in-Ok : goal.returns-in-Ok
returns-in-Ok c = record {
  program = c.in-Ok.ensures.program;
  verified = c.in-Ok.ensures.verified;
  refused = tt;
  number = c.in-Ok.ensures.number;
  accepts = tt;
  bounds = c.in-Ok.ensures.bounds;
  whole = λ most is. absurd (cc is);
}

pub returns-in-Err-Rejected : goal.returns-in-Err-Rejected
returns-in-Err-Rejected c = let p = c.args.image in record {
  program = tt;
  verified = tt;
  refused = subst (λ h. IfRejected h (IsRefused p)) c.in-Err-Rejected.field-0-is
      c.in-Err-Rejected.ensures.refused;
  number = tt;
  accepts = subst (λ h. IfRejected h (λ e _. AcceptsAll p e)) c.in-Err-Rejected.field-0-is
      c.in-Err-Rejected.ensures.accepts;
  bounds = tt;
  whole = λ most is. absurd (cc is);
}

pub returns-in-Ok-verify_followed : goal.returns-in-Ok-verify_followed
returns-in-Ok-verify_followed c = record {
  program = c.in-Ok-verify_followed.ensures.program;
  verified = c.in-Ok-verify_followed.ensures.verified;
  refused = tt;
  number = c.in-Ok-verify_followed.ensures.number;
  accepts = tt;
  bounds = c.in-Ok-verify_followed.ensures.bounds;
  whole = λ most is. absurd (cc is);
}

pub returns-in-Err-Rejected-verify_followed : goal.returns-in-Err-Rejected-verify_followed
returns-in-Err-Rejected-verify_followed c =
    let p = c.args.image in
    let stop = c.in-Err-Rejected-verify_followed in
    record {
      program = tt;
      verified = tt;
      refused = subst (λ h. IfRejected h (IsRefused p)) stop.field-0-is stop.ensures.refused;
      number = tt;
      accepts =
          subst (λ h. IfRejected h (λ e _. AcceptsAll p e)) stop.field-0-is stop.ensures.accepts;
      bounds = tt;
      whole = λ most is. absurd (cc is);
    }

pub returns-in-Err-Stopped-verify_followed-clause-whole :
    goal.returns-in-Err-Stopped-verify_followed-clause-whole
returns-in-Err-Stopped-verify_followed-clause-whole c = λ most. absurd (omega arith)
