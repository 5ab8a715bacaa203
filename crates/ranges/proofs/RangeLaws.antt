-- Laws of ranges: wider limits, low halves of their numbers, and tight limits.
use Rattle.ranges.proofs.Common.{◌≡◌, ◌<◌, ◌≤◌, ◌%◌, ◌^◌, ◌∙◌, ℕ, subst, sym, refl, ap, inl, inr, arith, w64, ℤ, ◌-◌, ◌⊎◌, ◌↔◌, ◌≤ℤ◌, FitsSigned, w32, cast_signed, cast_unsigned, ints, of_z-to_z, to_z-of_z, cases_lt, signed_equation, IsHalfBetween, Wide, Low, Range}
use Rattle.ranges.specs.Wides as W
use Rattle.ranges.specs.Lows as L
use Rattle.ranges.specs.Ranges.{Has, HasLow, IsConstant, IsTight, Encloses}
use Rattle.ranges.proofs.EnclosesLaws.{enclosed_has}
use Rattle.ranges.proofs.Limits.{signed_below_64}
use Rattle.ranges.proofs.LowLaws.{reached_weaker, either_reached}

pub enclosed_half : (a b : Range) (e : ℕ) → Encloses a b → HasLow b e → HasLow a e
enclosed_half a b e h within =
    record {
      number = within.number;
      has = enclosed_has a b within.number h within.has;
      low = within.low;
    }

-- limits within limits are within wider ones
pub wide_trans : (a b c : Wide) → W.Encloses a b → W.Encloses b c → W.Encloses a c
wide_trans a b c h k =
    (omega (arith, h, k), omega (arith, h, k), omega (arith, ints, h, k), omega (arith, ints, h, k))

pub low_trans : (a b c : Low) → L.Encloses a b → L.Encloses b c → L.Encloses a c
low_trans a b c h k =
    (omega (arith, h, k), omega (arith, h, k), omega (arith, ints, h, k), omega (arith, ints, h, k))

-- ---- numbers without a sign bit, or with it: both readings have one order

pub alike_has : (r : Wide) (x : ℕ) → r.greatest < 2 ^ 64
    → (r.greatest < 2 ^ 63) ⊎ (2 ^ 63 ≤ r.least) → W.ReadsAlike r
    → r.least ≤ x → x ≤ r.greatest → W.Has r x
alike_has r x below part alike from to =
    let e = signed_equation r.least (omega arith) in
    let f = signed_equation r.greatest below in
    let g = signed_equation x (omega arith) in
    let order : (cast_signed w64 r.least ≤ℤ cast_signed w64 x)
    × (cast_signed w64 x ≤ℤ cast_signed w64 r.greatest) =
    elim part [
      | inl plain ↦ (omega (arith, ints), omega (arith, ints))
      | inr signed ↦ (omega (arith, ints), omega (arith, ints))
    ] in
    record {
      below = omega arith;
      from = from;
      to = to;
      signed_from = rw alike.0 order.0;
      signed_to = rw alike.1 order.1;
    }

-- the low half of a number between limits whose readings have one order, and which others enclose
pub among_half : (s r : Wide) (half : ℕ) → r.greatest < 2 ^ 64
    → (r.greatest < 2 ^ 63) ⊎ (2 ^ 63 ≤ r.least) → W.ReadsAlike r
    → ((x : ℕ) → W.Has r x → W.Has s x) → IsHalfBetween r.least r.greatest half → W.HasHalf s half
among_half s r half below part alike left is =
    record {
      number = is.number;
      has = left is.number (alike_has r is.number below part alike is.from is.to);
      low = is.low;
    }

-- ---- tight limits

-- a signed limit that is one of the numbers
signed_has : (r : Wide) (x : ℕ) (z : ℤ) → W.Has r x → z ≡ cast_signed w64 x
    → W.Has r (cast_unsigned w64 z)
signed_has r x z h same =
    subst (W.Has r) (sym (ap (cast_unsigned w64) same ∙ of_z-to_z w64 x h.below)) h

-- the numbers between two, where the signed limits are those of the type if they cross the sign bit
pub between_tight : (r : Wide) (least greatest : ℕ) → least ≤ greatest → greatest < 2 ^ 64
    → FitsSigned w64 r.signed_least
    → FitsSigned w64 r.signed_greatest → ((x : ℕ) → (W.Has r x ↔ ((least ≤ x) × (x ≤ greatest))))
    → (r.least ≡ least) × (r.greatest ≡ greatest)
    → (cast_signed w64 least ≤ℤ cast_signed w64 greatest
    → (r.signed_least ≡ cast_signed w64 least) × (r.signed_greatest ≡ cast_signed w64 greatest))
    → W.IsTight r
between_tight r least greatest ordered below fl fg members limits signed =
    let e = signed_equation least (omega arith) in
    let f = signed_equation greatest below in
    let first = (members least).1 (omega arith, ordered) in
    let last = (members greatest).1 (ordered, omega arith) in
    let alike : cast_signed w64 least ≤ℤ cast_signed w64 greatest
    → W.Has r (cast_unsigned w64 r.signed_least) × W.Has r (cast_unsigned w64 r.signed_greatest) =
    λ order. (
      signed_has r least r.signed_least first (signed order).0,
      signed_has r greatest r.signed_greatest last (signed order).1,
    ) in
    let both : W.Has r (cast_unsigned w64 r.signed_least)
    × W.Has r (cast_unsigned w64 r.signed_greatest) =
    elim (cases_lt greatest (2 ^ 63)) [
      | inl plain ↦ alike (omega (arith, ints))
      | inr over ↦ elim (cases_lt least (2 ^ 63)) [
        | inl under ↦
            let a = (members (2 ^ 63)).1 (omega arith, omega arith) in
            let b = (members (2 ^ 63 - 1)).1 (omega arith, omega arith) in
            let ea = signed_equation (2 ^ 63) (omega arith) in
            let eb = signed_equation (2 ^ 63 - 1) (omega arith) in (
              signed_has r (2 ^ 63) r.signed_least a (omega (arith, ints, a.signed_from, fl.sfits)),
              signed_has r (2 ^ 63 - 1) r.signed_greatest b
                  (omega (arith, ints, b.signed_to, fg.sfits)),
            )
        | inr signed_all ↦ alike (omega (arith, ints))
      ]
    ] in
    (subst (W.Has r) (sym limits.0) first, subst (W.Has r) (sym limits.1) last, both.0, both.1)

-- the numbers between two read with a sign, where the unsigned limits are those of the type if they
-- cross the sign bit
pub signed_between_tight : (r : Wide) (least greatest : ℤ) → least ≤ℤ greatest
    → FitsSigned w64 least → FitsSigned w64 greatest → r.greatest < 2 ^ 64
    → ((x : ℕ)
    → (W.Has r x
    ↔ ((x < 2 ^ 64) × (least ≤ℤ cast_signed w64 x) × (cast_signed w64 x ≤ℤ greatest))))
    → (r.signed_least ≡ least) × (r.signed_greatest ≡ greatest)
    → (cast_unsigned w64 least ≤ cast_unsigned w64 greatest
    → (r.least ≡ cast_unsigned w64 least) × (r.greatest ≡ cast_unsigned w64 greatest))
    → W.IsTight r
signed_between_tight r least greatest ordered fl fg most members limits unsigned =
    let from_in = signed_below_64 least fl in
    let to_in = signed_below_64 greatest fg in
    let back = to_z-of_z w64 least fl in
    let over = to_z-of_z w64 greatest fg in
    let e = signed_equation (cast_unsigned w64 least) from_in in
    let f = signed_equation (cast_unsigned w64 greatest) to_in in
    let first = (members (cast_unsigned w64 least)).1
    (from_in, omega (arith, ints, back), omega (arith, ints, back, ordered)) in
    let last = (members (cast_unsigned w64 greatest)).1
    (to_in, omega (arith, ints, over, ordered), omega (arith, ints, over)) in
    let both : W.Has r r.least × W.Has r r.greatest =
    elim (cases_lt (cast_unsigned w64 greatest) (cast_unsigned w64 least)) [
      | inl crossed ↦
          let zero = (members 0).1 (
            omega arith,
            omega (arith, ints, e, f, back, over, ordered, crossed),
            omega (arith, ints, e, f, back, over, ordered, crossed),
          ) in
          let ez = signed_equation (2 ^ 64 - 1) (omega arith) in
          let all = (members (2 ^ 64 - 1)).1 (
            omega arith,
            omega (arith, ints, e, f, back, over, ordered, crossed),
            omega (arith, ints, e, f, back, over, ordered, crossed),
          ) in
          let is_zero : 0 ≡ r.least = omega (arith, zero.from) in
          let is_all : 2 ^ 64 - 1 ≡ r.greatest = omega (arith, all.to, most) in
          (subst (W.Has r) is_zero zero, subst (W.Has r) is_all all)
      | inr plain ↦ (
        subst (W.Has r) (sym (unsigned plain).0) first,
        subst (W.Has r) (sym (unsigned plain).1) last,
      )
    ] in (
      both.0,
      both.1,
      subst (λ z. W.Has r (cast_unsigned w64 z)) (sym limits.0) first,
      subst (λ z. W.Has r (cast_unsigned w64 z)) (sym limits.1) last,
    )

-- those of one number
pub constant_tight : (r : Range) (x : ℕ) → IsConstant r x → Has r x → IsTight r
constant_tight r x is has =
    let below = has.0.below in
    let back = subst (λ z. Has r (cast_unsigned w64 z)) (sym is.0.2)
    (subst (Has r) (sym (of_z-to_z w64 x below)) has) in
    let over = subst (λ z. Has r (cast_unsigned w64 z)) (sym is.0.3)
    (subst (Has r) (sym (of_z-to_z w64 x below)) has) in
    let has' : HasLow r (x % 2 ^ 32) = record { number = x; has = has; low = refl } in
    let same = of_z-to_z w32 (x % 2 ^ 32) has.1.below in (
      subst (Has r) (sym is.0.0) has,
      subst (Has r) (sym is.0.1) has,
      back,
      over,
      (
        subst (HasLow r) (sym is.1.0) has',
        subst (HasLow r) (sym is.1.1) has',
        subst (λ z. HasLow r (cast_unsigned w32 z)) (sym is.1.2) (subst (HasLow r) (sym same) has'),
        subst (λ z. HasLow r (cast_unsigned w32 z)) (sym is.1.3) (subst (HasLow r) (sym same) has'),
      ),
    )

-- two tight ranges, between whose outer limits a third one lies
pub either_tight : (r a b : Range) → Encloses r a → Encloses r b → r.wide.least ≡ a.wide.least
    → r.wide.greatest ≡ b.wide.greatest
    → r.wide.signed_least ≡ b.wide.signed_least → r.wide.signed_greatest ≡ a.wide.signed_greatest
    → L.IsOfEither r.low a.low b.low → IsTight a → IsTight b → IsTight r
either_tight r a b left right least greatest signed_least signed_greatest either ta tb = (
  subst (Has r) (sym least) (enclosed_has r a a.wide.least left ta.0),
  subst (Has r) (sym greatest) (enclosed_has r b b.wide.greatest right tb.1),
  subst (λ z. Has r (cast_unsigned w64 z)) (sym signed_least)
      (enclosed_has r b (cast_unsigned w64 b.wide.signed_least) right tb.2),
  subst (λ z. Has r (cast_unsigned w64 z)) (sym signed_greatest)
      (enclosed_has r a (cast_unsigned w64 a.wide.signed_greatest) left ta.3),
  either_reached r.low a.low b.low (HasLow r) either
      (reached_weaker a.low (HasLow a) (HasLow r) (λ e h. enclosed_half r a e left h) ta.4)
      (reached_weaker b.low (HasLow b) (HasLow r) (λ e h. enclosed_half r b e right h) tb.4),
)
