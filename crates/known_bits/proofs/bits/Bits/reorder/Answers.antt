use Rattle.known_bits.proofs.Common.{arith, ap, ◌∙◌, reordered}
use Rattle.known_bits.proofs.Members.{is_apart}
use Rattle.known_bits.proofs.Copies.{copied_known, copied_contains, copied_fits, copied_sharp}
use Rattle.known_bits.proofs.Reversed.{reorder_copies, reordered_zero}
use Rattle.known_bits.proofs.bits.Bits.reorder.Goals as goal

pub returns-clause-contains : goal.returns-clause-contains
returns-clause-contains c = λ x hx.
    let ka = is_apart c.args.a (omega arith) (omega arith) in
    rw (c.reorder.ensures, c.reorder-2.ensures)
    (copied_contains (reorder_copies c.args.order c.args.span) ka x hx)

pub returns-clause-sharp : goal.returns-clause-sharp
returns-clause-sharp c = λ i h.
    let ka = is_apart c.args.a (omega arith) (omega arith) in
    copied_sharp (reorder_copies c.args.order c.args.span) ka ka i (rw c.reorder-2.ensures at h)

pub returns-clause-fits : goal.returns-clause-fits
returns-clause-fits c = λ x h.
    let ka = is_apart c.args.a (omega arith) (omega arith) in
    copied_fits (reorder_copies c.args.order c.args.span) ka
    (rw (c.reorder.ensures, c.reorder-2.ensures) at h)

pub invariant_of-result : goal.invariant_of-result
invariant_of-result c =
    let ka = is_apart c.args.a (omega arith) (omega arith) in
    record {
      apart = rw (c.reorder.ensures, c.reorder-2.ensures)
          ((copied_known (reorder_copies c.args.order c.args.span) ka).apart);
      fits = omega arith;
    }

pub returns-clause-exact : goal.returns-clause-exact
returns-clause-exact c = λ u h.
    let order = c.args.order in
    let span = c.args.span in (
      c.reorder.ensures ∙ ap (reordered order span) h.0,
      c.reorder-2.ensures ∙ ap (reordered order span) h.1 ∙ reordered_zero order span,
    )

pub returns-clause-little : goal.returns-clause-little
unfolding reordered
returns-clause-little c =
    λ is. c.reorder-2.ensures ∙ ap (λ o. reordered o c.args.span c.args.a.mask) is
