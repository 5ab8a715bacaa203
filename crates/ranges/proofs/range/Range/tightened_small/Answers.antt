use Rattle.std.proofs.Common.{ℕ, ◌≡◌, ◌%◌, ◌^◌, ◌∙◌, sym, subst, ap, rules, w32, w64, arith, ◌≤ℤ◌, FitsSigned}
use Rattle.ranges.proofs.Common.{cast_signed, cast_unsigned, ints, of_z-to_z, to_z-of_z, mod-eq_of_lt, signed_equation, Has, HasLow, Range}
use Rattle.ranges.specs.Lows as L
use Rattle.ranges.proofs.LowLaws.{reached_weaker}
use Rattle.ranges.proofs.RangeLaws.{wide_trans}
use Rattle.ranges.proofs.range.Range.tightened_small.Goals as goal

pub returns-in_err-part-clause-common : goal.returns-in_err-part-clause-common
returns-in_err-part-clause-common c =
    λ x h. absurd (c.in_err-part.ensures.common x h.0 (omega (arith, h.0.to)))

pub returns-then-least-greatest-clause-common : goal.returns-then-least-greatest-clause-common
returns-then-least-greatest-clause-common c = λ x h.
    let part = c.in_ok-part.ensures.common x h.0 (omega (arith, h.0.to)) in
    let half : x % 2 ^ 32 ≡ x = omega (arith, h.0.to) in
    absurd (omega (arith, part.from, part.to, h.1.from, h.1.to))

pub returns-in_err-low-clause-common : goal.returns-in_err-low-clause-common
returns-in_err-low-clause-common c = λ x h.
    let fl : FitsSigned w32 c.args.self.low.signed_least = search rules in
    let fg : FitsSigned w32 c.args.self.low.signed_greatest = search rules in
    let back = to_z-of_z w32 c.args.self.low.signed_least fl in
    let over = to_z-of_z w32 c.args.self.low.signed_greatest fg in
    let part = c.in_ok-part.ensures.common x h.0 (omega (arith, h.0.to)) in
    let half : x % 2 ^ 32 ≡ x = omega (arith, h.0.to) in
    absurd (c.in_err-low.ensures.common (x % 2 ^ 32) (record {
      below = h.1.below;
      from = omega (arith, part.from, h.1.from);
      to = omega (arith, part.to, h.1.to);
      signed_from = subst (λ z. z ≤ℤ cast_signed w32 (x % 2 ^ 32)) (sym back) h.1.signed_from;
      signed_to = subst (λ z. cast_signed w32 (x % 2 ^ 32) ≤ℤ z) (sym over) h.1.signed_to;
    }))

pub returns-clause-common : goal.returns-clause-common
returns-clause-common c = λ x h.
    let fl : FitsSigned w32 c.args.self.low.signed_least = search rules in
    let fg : FitsSigned w32 c.args.self.low.signed_greatest = search rules in
    let back = to_z-of_z w32 c.args.self.low.signed_least fl in
    let over = to_z-of_z w32 c.args.self.low.signed_greatest fg in
    let part = c.in_ok-part.ensures.common x h.0 (omega (arith, h.0.to)) in
    let half : x % 2 ^ 32 ≡ x = omega (arith, h.0.to) in
    let low : L.Has c.in_ok-low.low (x % 2 ^ 32) =
    c.in_ok-low.ensures.common (x % 2 ^ 32) (record {
      below = h.1.below;
      from = omega (arith, part.from, h.1.from);
      to = omega (arith, part.to, h.1.to);
      signed_from = subst (λ z. z ≤ℤ cast_signed w32 (x % 2 ^ 32)) (sym back) h.1.signed_from;
      signed_to = subst (λ z. cast_signed w32 (x % 2 ^ 32) ≤ℤ z) (sym over) h.1.signed_to;
    }) in
    ((c.between.ensures.members x).1 (omega (arith, low.from), omega (arith, low.to)), low)

pub returns-clause-enclosed : goal.returns-clause-enclosed
returns-clause-enclosed c =
    let fl : FitsSigned w32 c.args.self.low.signed_least = search rules in
    let fg : FitsSigned w32 c.args.self.low.signed_greatest = search rules in
    let back = to_z-of_z w32 c.args.self.low.signed_least fl in
    let over = to_z-of_z w32 c.args.self.low.signed_greatest fg in
    let s = c.args.self in
    let part = c.in_ok-part.part in
    let low = c.in_ok-low.low in
    let in_part = c.in_ok-part.ensures.enclosed in
    let alike = c.in_ok-part.ensures.alike in
    let in_both = c.in_ok-low.ensures.enclosed in
    let lim = c.between.ensures.limits in
    let e = signed_equation c.from.result (omega arith) in
    let f = signed_equation c.from-2.result (omega arith) in
    let g = signed_equation part.least (omega arith) in
    let h = signed_equation part.greatest (omega arith) in
    let signed = c.between.ensures.signed (omega (arith, ints)) in (
      wide_trans s.wide part c.between.result in_part (
        omega (arith, lim, in_both),
        omega (arith, lim, in_both),
        omega (arith, ints, in_both, alike, signed),
        omega (arith, ints, in_both, alike, signed),
      ),
      (
        omega (arith, in_both),
        omega (arith, in_both),
        subst (λ z. z ≤ℤ low.signed_least) back in_both.2,
        subst (λ z. low.signed_greatest ≤ℤ z) over in_both.3,
      ),
    )

pub returns-clause-tight : goal.returns-clause-tight
returns-clause-tight c =
    let low = c.in_ok-low.low in
    let t = c.in_ok-low.ensures.tight in
    let r : Range = record { wide = c.between.result; low = low } in
    let lim = c.between.ensures.limits in
    let e = signed_equation c.from.result (omega arith) in
    let f = signed_equation c.from-2.result (omega arith) in
    let s = c.between.ensures.signed (omega (arith, ints)) in
    let has : (e : ℕ) → L.Has low e → Has r e = λ e h. (
      (c.between.ensures.members e).1 (omega (arith, h.from), omega (arith, h.to)),
      subst (L.Has low) (sym (mod-eq_of_lt {n = e} {m = 2 ^ 32} h.below)) h,
    ) in
    let from : Has r c.from.result = subst (Has r) (sym c.from.ensures) (has low.least t.0) in
    let to : Has r c.from-2.result = subst (Has r) (sym c.from-2.ensures) (has low.greatest t.1) in
    let back : cast_unsigned w64 c.between.result.signed_least ≡ c.from.result =
    ap (cast_unsigned w64) s.0 ∙ of_z-to_z w64 c.from.result (omega arith) in
    let over : cast_unsigned w64 c.between.result.signed_greatest ≡ c.from-2.result =
    ap (cast_unsigned w64) s.1 ∙ of_z-to_z w64 c.from-2.result (omega arith) in (
      subst (Has r) (sym lim.0) from,
      subst (Has r) (sym lim.1) to,
      subst (Has r) (sym back) from,
      subst (Has r) (sym over) to,
      reached_weaker low (L.Has low) (HasLow r)
          (λ e is. record {
            number = e;
            has = has e is;
            low = mod-eq_of_lt {n = e} {m = 2 ^ 32} is.below;
          })
          t,
    )
