use Rattle.assembler.proofs.Common.{◌≡◌, ◌≤◌, ◌-◌, inr, ◌∙◌, ap, length, drop, take, arith, progress_of}
use Rattle.assembler.proofs.FrontLaws.{onward-passed, goes-on-there}
use Rattle.assembler.proofs.fronts.idle_end.Goals as goal

pub loop-rest-preserved-then-is_line_start : goal.loop-rest-preserved-then-is_line_start
loop-rest-preserved-then-is_line_start c =
    let text = c.args.text.now in
    let rest = c.loop-rest.rest.now in
    let left = c.after-rest.result.now in
    let at = c.saturating_sub-at.result in
    let i = c.loop-rest.invariant in
    let step = onward-passed text rest left c.args.from c.in-Some.len
    (progress_of c.args.draft.now) i.goes_on i.few i.ends (omega arith) (omega arith)
    c.in-Some.ensures c.after-rest.ensures.value in
    let here : at ≡ length text - length left = c.saturating_sub-at.ensures in
    let within : c.args.from ≤ length text = c.requires in
    let few : length left ≤ length text - c.args.from = step.1 in
    let there : drop at text ≡ left = ap (λ k. drop k text) here ∙ step.2 in
    record {
      goes_on = step.0;
      few = few;
      ends = step.2;
      idle = λ h. goes-on-there text left at (progress_of c.args.draft.now) (step.0 h) step.2
          here;
      after = omega (arith, here, few, within);
      within = omega (arith, here);
      alike = inr
          (ap (take (length c.args.start.now)) there
          ∙ c.begins_with.ensures c.if-begins_with.true);
    }

pub loop-rest-preserved : goal.loop-rest-preserved
loop-rest-preserved c =
    let i = c.loop-rest.invariant in
    let step = onward-passed c.args.text.now c.loop-rest.rest.now c.after-rest.result.now
    c.args.from c.in-Some.len (progress_of c.args.draft.now) i.goes_on i.few i.ends (omega arith)
    (omega arith) c.in-Some.ensures c.after-rest.ensures.value in
    record {
      goes_on = step.0;
      few = step.1;
      ends = step.2;
      idle = i.idle;
      after = i.after;
      within = i.within;
      alike = i.alike;
    }
