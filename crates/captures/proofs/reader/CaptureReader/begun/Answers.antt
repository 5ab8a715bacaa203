use Rattle.captures.proofs.Common.{◌≡◌, ◌-◌, [], refl, ap, ◌∙◌, arith, first_offset, Before}
use Rattle.captures.proofs.CapturedLaws.{max_record-head}
use Rattle.captures.proofs.reader.CaptureReader.begun.Goals as goal

pub invariant_of-result : goal.invariant_of-result
invariant_of-result g c =
    let long = c.in_ok-block.ensures.len in
    let most = c.max_record.ensures in
    let count = c.take_first_in-count.ensures.count in
    let head = max_record-head c.args.format in
    let kept = c.take_first_in-count.ensures.room in
    record {
      room = omega (arith, long, most, kept);
      inside = omega (arith, long, most, count, head, kept);
      ordered = omega arith;
      within = omega arith;
      part = c.take_first_in-count.ensures.part;
    }

pub returns : goal.returns
returns g c =
    let count = c.take_first_in-count.ensures.count in
    let at : 24 - c.take_first_in-count.result ≡ first_offset c.args.format =
    omega (arith, count) in
    record {
      is_source = refl;
      is_before =
          ap (λ l. Before c.args.format l (24 - c.take_first_in-count.result))
          c.in_ok-interfaces.ensures
          ∙ ap (Before c.args.format []) at;
      is_front = c.take_first_in-count.ensures.front;
    }
