use Rattle.calls.proofs.Common.{ℕ, arith, sym, subst, IsVerified}
use Rattle.isa_model.specs.Code.Instructions.{Program}
use Rattle.stack_state.specs.Starts.{start}
use Rattle.walks.specs.Refused.{IsRefused}
use Rattle.walks.specs.Accepting.{BoundsAll}
use Rattle.walks.specs.Counts.{HasNumber}
use Rattle.calls.specs.Verdicts.{FillsProgramRefusal}
use Rattle.calls.proofs.judging.judge.Goals as goal

pub returns-in-Ok-verify_within-clause-accepted : goal.returns-in-Ok-verify_within-clause-accepted
returns-in-Ok-verify_within-clause-accepted c = λ _.
    let found = c.in-Ok-verify_within in
    subst (λ (p : Program). IsVerified (record { program = p; bound = c.bound.result }))
    found.ensures.program
    (subst (λ (b : ℕ). IsVerified (record { program = found.verified.program; bound = b }))
    (sym c.bound.ensures.bound) found.ensures.verified)

pub returns-in-Ok-verify_within-clause-number : goal.returns-in-Ok-verify_within-clause-number
returns-in-Ok-verify_within-clause-number c = λ _.
    subst (λ (b : ℕ). HasNumber c.args.program start b) (sym c.bound.ensures.bound)
    c.in-Ok-verify_within.ensures.number

pub returns-in-Ok-verify_within-clause-bounds : goal.returns-in-Ok-verify_within-clause-bounds
returns-in-Ok-verify_within-clause-bounds c = λ _.
    subst (λ (b : ℕ). BoundsAll c.args.program b) (sym c.bound.ensures.bound)
    c.in-Ok-verify_within.ensures.bounds

-- a search that came to its limit has no bound

pub returns-in-Err-Limit-clause-accepted : goal.returns-in-Err-Limit-clause-accepted
returns-in-Err-Limit-clause-accepted c = λ zero. absurd (omega (arith, zero))

pub returns-in-Err-Limit-clause-number : goal.returns-in-Err-Limit-clause-number
returns-in-Err-Limit-clause-number c = λ zero. absurd (omega (arith, zero))

pub returns-in-Err-Limit-clause-bounds : goal.returns-in-Err-Limit-clause-bounds
returns-in-Err-Limit-clause-bounds c = λ zero. absurd (omega (arith, zero))

pub returns-in-Err-Limit-clause-alone : goal.returns-in-Err-Limit-clause-alone
returns-in-Err-Limit-clause-alone c = λ zero. absurd (omega (arith, zero))

-- the copy that the text is made of is the program

pub write_refusal-requires : goal.write_refusal-requires
write_refusal-requires c =
    let stop = c.in-Err-Refused in
    subst (λ (p : Program). IsRefused p stop.rejected.refusal stop.rejected.slot)
    (sym c.in-Ok.ensures) (rw stop.field-0-is at stop.ensures.refused)

pub returns-clause-refused : goal.returns-clause-refused
returns-clause-refused c = λ two.
    let call = c.write_refusal in
    subst (λ (p : Program). FillsProgramRefusal p c.args.why.now call.new.why call.new.out)
    c.in-Ok.ensures (call.ensures.refused two)
