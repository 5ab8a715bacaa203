use Rattle.known_bits.proofs.Common.{arith, ap, ◌∙◌, sign_extended}
use Rattle.known_bits.proofs.Members.{is_apart}
use Rattle.known_bits.proofs.Copies.{extension_copies, copied_known, copied_contains, copied_fits, copied_sharp, extended_zero}
use Rattle.known_bits.proofs.bits.Bits.sign_extend.Goals as goal

pub returns-clause-contains : goal.returns-clause-contains
returns-clause-contains c = λ x hx.
    let ka = is_apart c.args.a (omega arith) (omega arith) in
    rw (c.sign_extend.ensures, c.sign_extend-2.ensures)
    (copied_contains (extension_copies c.args.extension) ka x hx)

pub returns-clause-sharp : goal.returns-clause-sharp
returns-clause-sharp c = λ i h.
    let ka = is_apart c.args.a (omega arith) (omega arith) in
    copied_sharp (extension_copies c.args.extension) ka ka i (rw c.sign_extend-2.ensures at h)

pub returns-clause-fits : goal.returns-clause-fits
returns-clause-fits c = λ x h.
    let ka = is_apart c.args.a (omega arith) (omega arith) in
    copied_fits (extension_copies c.args.extension) ka
    (rw (c.sign_extend.ensures, c.sign_extend-2.ensures) at h)

pub invariant_of-result : goal.invariant_of-result
invariant_of-result c =
    let ka = is_apart c.args.a (omega arith) (omega arith) in
    record {
      apart = rw (c.sign_extend.ensures, c.sign_extend-2.ensures)
          ((copied_known (extension_copies c.args.extension) ka).apart);
      fits = omega arith;
    }

pub returns-clause-exact : goal.returns-clause-exact
returns-clause-exact c = λ u h.
    let e = c.args.extension in (
      c.sign_extend.ensures ∙ ap (sign_extended e) h.0,
      c.sign_extend-2.ensures ∙ ap (sign_extended e) h.1 ∙ extended_zero e,
    )
