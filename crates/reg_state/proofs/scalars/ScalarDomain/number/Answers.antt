use Rattle.reg_state.proofs.Common.{◌≡◌, refl, inl, inr, none-some, bits_constant_only}
use Rattle.reg_state.proofs.scalars.ScalarDomain.number.Goals as goal

pub returns-in-Some-clause-constant : goal.returns-in-Some-clause-constant
returns-in-Some-clause-constant c = λ u h. (c.in-Some.ensures u).1 h.0

pub returns-in-Some-clause-only : goal.returns-in-Some-clause-only
returns-in-Some-clause-only c =
    λ x h. bits_constant_only c.args.self.bits c.in-Some.number x
    ((c.in-Some.ensures c.in-Some.number).0 refl) h.0

pub returns-in-Some-clause-value : goal.returns-in-Some-clause-value
returns-in-Some-clause-value c = λ x.
    let known = ((c.in-Some.ensures c.in-Some.number).0 refl).1 in (
      λ e. inl ((c.in-Some.ensures x).0 e),
      λ is. elim is
          [ inl bits ↦ (c.in-Some.ensures x).1 bits | inr limits ↦ absurd (limits.0 known) ],
    )

pub returns-in-None-clause-value : goal.returns-in-None-clause-value
returns-in-None-clause-value c = λ x.
    let open_bits =
    λ (known : c.args.self.bits.mask ≡ 0).
    none-some c.args.self.bits.value
    ((c.in-None.ensures c.args.self.bits.value).1 (refl, known)) in
    let limits = c.number-in-None.ensures.value x in (
      λ e. inr (open_bits, limits.0 e),
      λ is. elim is [
        | inl bits ↦ absurd (none-some x ((c.in-None.ensures x).1 bits))
        | inr alone ↦ limits.1 alone.1
      ],
    )
