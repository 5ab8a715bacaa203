use Rattle.ranges.proofs.Common.{ℕ, ◌≡◌, ◌≤◌, ◌%◌, ◌^◌, ◌∙◌, sym, subst, ap, inl, inr, w64, arith, ◌≤ℤ◌, cast_signed, cast_unsigned, ints, of_z-to_z, signed_equation, IsHalfBetween, Has, HasLow, Range}
use Rattle.ranges.specs.Lows as L
use Rattle.ranges.proofs.LowLaws.{reached_weaker}
use Rattle.ranges.proofs.range.Range.narrowed.Goals as goal

pub returns-in_err-least-clause-common : goal.returns-in_err-least-clause-common
returns-in_err-least-clause-common c =
    λ x hx h. absurd (c.in_err-least.ensures.first x (omega arith) (omega arith) h)

pub returns-in_err-greatest-clause-common : goal.returns-in_err-greatest-clause-common
returns-in_err-greatest-clause-common c =
    λ x hx h. absurd (c.in_err-greatest.ensures.last x (omega arith) h)

pub returns-then-least-greatest-clause-common : goal.returns-then-least-greatest-clause-common
returns-then-least-greatest-clause-common c = λ x hx h.
    let from : c.in_ok-least.least ≤ x =
    c.in_ok-least.ensures.first x (omega arith) (omega arith) h in
    let to : x ≤ c.in_ok-greatest.greatest = c.in_ok-greatest.ensures.last x (omega arith) h in
    absurd (omega arith)

pub returns-clause-common : goal.returns-clause-common
returns-clause-common c = λ x hx h.
    let from : c.in_ok-least.least ≤ x =
    c.in_ok-least.ensures.first x (omega arith) (omega arith) h in
    let to : x ≤ c.in_ok-greatest.greatest = c.in_ok-greatest.ensures.last x (omega arith) h in
    ((c.between.ensures.members x).1 (from, to), c.among.ensures.contains x from to h)

pub returns-clause-enclosed : goal.returns-clause-enclosed
returns-clause-enclosed c =
    let lim = c.between.ensures.limits in
    let first = c.in_ok-least.ensures.some in
    let last = c.in_ok-greatest.ensures.some in
    let alike = c.requires.alike in
    let e = signed_equation c.in_ok-least.least (omega arith) in
    let f = signed_equation c.in_ok-greatest.greatest (omega arith) in
    let g = signed_equation c.args.part.least (omega arith) in
    let h = signed_equation c.args.part.greatest (omega arith) in
    let order : (cast_signed w64 c.args.part.least ≤ℤ cast_signed w64 c.in_ok-least.least)
    × (cast_signed w64 c.in_ok-greatest.greatest ≤ℤ cast_signed w64 c.args.part.greatest)
    × (cast_signed w64 c.in_ok-least.least ≤ℤ cast_signed w64 c.in_ok-greatest.greatest) =
    elim c.requires.side [
      | inl plain ↦ (omega (arith, ints), omega (arith, ints), omega (arith, ints))
      | inr signed ↦ (omega (arith, ints), omega (arith, ints), omega (arith, ints))
    ] in
    let s = c.between.ensures.signed order.2 in (
      (
        omega (arith, lim, first),
        omega (arith, lim, last),
        rw (alike.0, s.0) order.0,
        rw (alike.1, s.1) order.1,
      ),
      c.among.ensures.enclosed,
    )

pub returns-clause-alike : goal.returns-clause-alike
returns-clause-alike c =
    let lim = c.between.ensures.limits in
    let first = c.in_ok-least.ensures.some in
    let last = c.in_ok-greatest.ensures.some in
    let e = signed_equation c.in_ok-least.least (omega arith) in
    let f = signed_equation c.in_ok-greatest.greatest (omega arith) in
    let s = c.between.ensures.signed
    (elim c.requires.side
    [ inl plain ↦ omega (arith, ints) | inr signed ↦ omega (arith, ints) ]) in
    rw (lim.0, lim.1) s

pub returns-clause-tight : goal.returns-clause-tight
returns-clause-tight c =
    let least = c.in_ok-least.least in
    let greatest = c.in_ok-greatest.greatest in
    let r : Range = record { wide = c.between.result; low = c.among.result } in
    let lim = c.between.ensures.limits in
    let first = c.in_ok-least.ensures.some in
    let last = c.in_ok-greatest.ensures.some in
    let e = signed_equation least (omega arith) in
    let f = signed_equation greatest (omega arith) in
    let s = c.between.ensures.signed
    (elim c.requires.side
    [ inl plain ↦ omega (arith, ints) | inr signed ↦ omega (arith, ints) ]) in
    let has : (x : ℕ) → least ≤ x → x ≤ greatest → L.Has c.args.low (x % 2 ^ 32) → Has r x =
    λ x from to h.
    ((c.between.ensures.members x).1 (from, to), c.among.ensures.contains x from to h) in
    let from : Has r least = has least (omega arith) (omega arith) first.1 in
    let to : Has r greatest = has greatest (omega arith) (omega arith) last.1 in
    let back : cast_unsigned w64 c.between.result.signed_least ≡ least = ap (cast_unsigned w64) s.0
    ∙ of_z-to_z w64 least (omega arith) in
    let over : cast_unsigned w64 c.between.result.signed_greatest ≡ greatest =
    ap (cast_unsigned w64) s.1 ∙ of_z-to_z w64 greatest (omega arith) in (
      subst (Has r) (sym lim.0) from,
      subst (Has r) (sym lim.1) to,
      subst (Has r) (sym back) from,
      subst (Has r) (sym over) to,
      reached_weaker c.among.result
          (λ (half : ℕ). L.Has c.args.low half × IsHalfBetween least greatest half) (HasLow r)
          (λ half is. record {
            number = is.1.number;
            has = has is.1.number is.1.from is.1.to (subst (L.Has c.args.low) (sym is.1.low) is.0);
            low = is.1.low;
          })
          c.among.ensures.reached,
    )
