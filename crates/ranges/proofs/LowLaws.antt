-- Laws of low halves: their signed readings, limits that are reached, and which halves the numbers
-- between two limits have.
use Rattle.ranges.proofs.Common.{◌≡◌, ℕ, ℤ, ◌+◌, ◌-◌, ◌*◌, ◌/◌, ◌%◌, ◌^◌, ◌<◌, ◌≤◌, ◌∙◌, inl, inr, ap, sym, subst, arith, ◌⊎◌, ◌↔◌, ◌≤ℤ◌, FitsSigned, w32, cast_signed, cast_unsigned, ints, of_z-to_z, cases_lt, lt-ltb, le-ltb, IsHalfBetween, Low}
use borrow.Author.Differences.{up, down}
use Rattle.ranges.specs.Lows.{Has, IsOfEither, IsTight, AreReached}
use Rattle.ranges.proofs.Limits.{fits_32}

-- one linear equation between a low half and its signed reading: the quotient is the sign bit
pub low_signed_equation : (e : ℕ) → e < 2 ^ 32
    → up (cast_signed w32 e) + 2 ^ 32 * (e / 2 ^ 31) ≡ e + down (cast_signed w32 e)
low_signed_equation e h =
    elim (cases_lt e (2 ^ 31)) [
      | inl lt ↦ rw (lt-ltb e (2 ^ 31) lt) (omega arith)
      | inr ge ↦ rw (le-ltb e (2 ^ 31) ge) (omega arith)
    ]

-- ---- limits that are reached

pub reached_weaker : (l : Low) (P Q : ℕ → Type 0) → ((e : ℕ) → P e → Q e) → AreReached l P
    → AreReached l Q
reached_weaker l P Q f h = (f _ h.0, f _ h.1, f _ h.2, f _ h.3)

one_of : {A : Type 0} (P : A → Type 0) (x a b : A) → (x ≡ a) ⊎ (x ≡ b) → P a → P b → P x
one_of P x a b is left right =
    elim is [ inl e ↦ subst P (sym e) left | inr e ↦ subst P (sym e) right ]

-- each limit of the one is that of one of the two
pub either_reached : (l a b : Low) (P : ℕ → Type 0) → IsOfEither l a b → AreReached a P
    → AreReached b P → AreReached l P
either_reached l a b P is left right = (
  one_of P l.least a.least b.least is.0 left.0 right.0,
  one_of P l.greatest a.greatest b.greatest is.1 left.1 right.1,
  one_of (λ z. P (cast_unsigned w32 z)) l.signed_least a.signed_least b.signed_least is.2 left.2
      right.2,
  one_of (λ z. P (cast_unsigned w32 z)) l.signed_greatest a.signed_greatest b.signed_greatest is.3
      left.3 right.3,
)

-- a signed limit that is one of the low halves
signed_has : (l : Low) (e : ℕ) (z : ℤ) → Has l e → z ≡ cast_signed w32 e
    → Has l (cast_unsigned w32 z)
signed_has l e z h same =
    subst (Has l) (sym (ap (cast_unsigned w32) same ∙ of_z-to_z w32 e h.below)) h

-- those between two, where the signed limits are those of the type if they cross the sign bit
pub low_between_tight : (l : Low) (least greatest : ℕ) → least ≤ greatest → greatest < 2 ^ 32
    → FitsSigned w32 l.signed_least → FitsSigned w32 l.signed_greatest
    → ((e : ℕ) → (Has l e ↔ ((least ≤ e) × (e ≤ greatest))))
    → (l.least ≡ least) × (l.greatest ≡ greatest)
    → (cast_signed w32 least ≤ℤ cast_signed w32 greatest
    → (l.signed_least ≡ cast_signed w32 least) × (l.signed_greatest ≡ cast_signed w32 greatest))
    → IsTight l
low_between_tight l least greatest ordered below fl fg members limits signed =
    let e = low_signed_equation least (omega arith) in
    let f = low_signed_equation greatest below in
    let first = (members least).1 (omega arith, ordered) in
    let last = (members greatest).1 (ordered, omega arith) in
    let alike : cast_signed w32 least ≤ℤ cast_signed w32 greatest
    → Has l (cast_unsigned w32 l.signed_least) × Has l (cast_unsigned w32 l.signed_greatest) =
    λ order. (
      signed_has l least l.signed_least first (signed order).0,
      signed_has l greatest l.signed_greatest last (signed order).1,
    ) in
    let both : Has l (cast_unsigned w32 l.signed_least)
    × Has l (cast_unsigned w32 l.signed_greatest) =
    elim (cases_lt greatest (2 ^ 31)) [
      | inl plain ↦ alike (omega (arith, ints))
      | inr over ↦ elim (cases_lt least (2 ^ 31)) [
        | inl under ↦
            let a = (members (2 ^ 31)).1 (omega arith, omega arith) in
            let b = (members (2 ^ 31 - 1)).1 (omega arith, omega arith) in
            let ea = low_signed_equation (2 ^ 31) (omega arith) in
            let eb = low_signed_equation (2 ^ 31 - 1) (omega arith) in (
              signed_has l (2 ^ 31) l.signed_least a (omega (arith, ints, a.signed_from, fl.sfits)),
              signed_has l (2 ^ 31 - 1) l.signed_greatest b
                  (omega (arith, ints, b.signed_to, fg.sfits)),
            )
        | inr signed_all ↦ alike (omega (arith, ints))
      ]
    ] in
    (subst (Has l) (sym limits.0) first, subst (Has l) (sym limits.1) last, both.0, both.1)

-- ---- low halves of the numbers between two limits

-- both limits have the same upper half
pub among_same : (least greatest e : ℕ) → least / 2 ^ 32 ≡ greatest / 2 ^ 32 → least % 2 ^ 32 ≤ e
    → e ≤ greatest % 2 ^ 32 → IsHalfBetween least greatest e
among_same least greatest e same from to =
    record {
      number = least / 2 ^ 32 * 2 ^ 32 + e;
      from = omega arith;
      to = omega arith;
      low = omega arith;
    }

-- the numbers with the first upper half
pub among_start : (least greatest e : ℕ) → least / 2 ^ 32 < greatest / 2 ^ 32 → least % 2 ^ 32 ≤ e
    → e < 2 ^ 32 → IsHalfBetween least greatest e
among_start least greatest e apart from below =
    record {
      number = least / 2 ^ 32 * 2 ^ 32 + e;
      from = omega arith;
      to = omega arith;
      low = omega arith;
    }

-- those with the last one
pub among_end : (least greatest e : ℕ) → least / 2 ^ 32 < greatest / 2 ^ 32 → e ≤ greatest % 2 ^ 32
    → IsHalfBetween least greatest e
among_end least greatest e apart to =
    record {
      number = greatest / 2 ^ 32 * 2 ^ 32 + e;
      from = omega arith;
      to = omega arith;
      low = omega arith;
    }

-- those with one in between
pub among_middle : (least greatest e : ℕ) → least / 2 ^ 32 + 1 < greatest / 2 ^ 32 → e < 2 ^ 32
    → IsHalfBetween least greatest e
among_middle least greatest e apart below =
    record {
      number = (least / 2 ^ 32 + 1) * 2 ^ 32 + e;
      from = omega arith;
      to = omega arith;
      low = omega arith;
    }

-- ---- numbers that 32 bits with a sign hold

pub fits_between : (l g z : ℤ) → FitsSigned w32 l → FitsSigned w32 g → l ≤ℤ z → z ≤ℤ g
    → FitsSigned w32 z
fits_between l g z fl fg from to =
    fits_32 z (omega (arith, ints, fl.sfits)) (omega (arith, ints, fg.sfits))
