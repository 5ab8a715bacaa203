use Rattle.walks.proofs.forgetting.may_forget_all.Goals as goal
use Rattle.walks.proofs.forgetting.may_forget_all.Goals.{then-forgets_numbers, else-forgets_numbers, then-is_join, else-is_join}

pub returns-then-ends_plainly : goal.returns-then-ends_plainly
returns-then-ends_plainly c =
    elim c.if-is_join.branch [
      | then-is_join w ↦ elim c.if-forgets_numbers.branch [
        | then-forgets_numbers v ↦
            let may = c.forgets_numbers.ensures.0 v.if-forgets_numbers.true in
            let join = v.is_join.ensures.join.0 (cc (v.value-is, w.if-is_join.true)) in
            let ends = (w.ends_plainly.ensures may).0 (cc (w.value-is, c.if-ends_plainly.true)) in (
              λ yes. record {
                may = may;
                join = join;
                ends = ends;
                numbers = λ r live. c.are_numbers.ensures.0 yes r ((c.live.ensures r).1 live);
              },
              λ all. c.are_numbers.ensures.1 (λ r has. all.numbers r ((c.live.ensures r).0 has)),
            )
        | else-forgets_numbers v ↦ absurd (cc (v.value-is, w.if-is_join.true))
      ]
      | else-is_join w ↦ absurd (cc (w.value-is, c.if-ends_plainly.true))
    ]
