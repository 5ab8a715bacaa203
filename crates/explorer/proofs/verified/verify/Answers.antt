use Rattle.explorer.proofs.Common.{subst, IsRefused, IfRefused, start}
use Rattle.walks.specs.Accepting.{AcceptsAll}
use Rattle.explorer.proofs.verified.verify.Goals as goal

pub verify_with-requires : goal.verify_with-requires
verify_with-requires c = record { untold = λ how. (start, tt) }

pub returns-in-Ok-clause-program : goal.returns-in-Ok-clause-program
returns-in-Ok-clause-program c = c.in-Ok.ensures.program

pub returns-in-Ok-clause-verified : goal.returns-in-Ok-clause-verified
returns-in-Ok-clause-verified c = c.in-Ok.ensures.verified

pub returns-in-Ok-clause-refused : goal.returns-in-Ok-clause-refused
returns-in-Ok-clause-refused c = tt

pub returns-in-Ok-clause-number : goal.returns-in-Ok-clause-number
returns-in-Ok-clause-number c = c.in-Ok.ensures.number

pub returns-in-Ok-clause-accepts : goal.returns-in-Ok-clause-accepts
returns-in-Ok-clause-accepts c = tt

pub returns-in-Ok-clause-bounds : goal.returns-in-Ok-clause-bounds
returns-in-Ok-clause-bounds c = c.in-Ok.ensures.bounds

pub returns-in-Err-Refused : goal.returns-in-Err-Refused
returns-in-Err-Refused c = let p = c.args.image in record {
  program = tt;
  verified = tt;
  refused = subst (λ h. IfRefused h (IsRefused p)) c.in-Err-Refused.field-0-is
      c.in-Err-Refused.ensures.refused;
  number = tt;
  accepts = subst (λ h. IfRefused h (λ e _. AcceptsAll p e)) c.in-Err-Refused.field-0-is
      c.in-Err-Refused.ensures.accepts;
  bounds = tt;
}
