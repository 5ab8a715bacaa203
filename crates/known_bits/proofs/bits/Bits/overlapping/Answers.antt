use Rattle.known_bits.proofs.Common.{◌≡◌, ◌≢◌, ℕ, ◌*◌, ◌%◌, ◌^◌, ◌<◌, arith, w64, sym, ap, ◌∙◌, bit_and, bit_or, bit_at, trailing_zeros, and_le_l, and_le_r, or_lt, one_shl, bit_at-trailing_zeros, Bits, IsMember}
use Rattle.known_bits.proofs.Members.{Apart, is_apart}
use Rattle.known_bits.proofs.Overlaps.{and_shared, shared_bit, same_position, one_position}
use Rattle.known_bits.proofs.Sharp.{most_member}
use Rattle.known_bits.proofs.bits.Bits.overlapping.Goals as goal

-- the bits that a member of each may have
abbrev shared : Bits → Bits → ℕ
shared a b = bit_and (bit_or a.value a.mask) (bit_or b.value b.mask)

shared_fits : (a b : Bits) → Apart a.value a.mask → shared a b < 2 ^ 64
shared_fits a b ka =
    let le = and_le_l (bit_or a.value a.mask) (bit_or b.value b.mask) in
    let o = or_lt 64 a.value a.mask ka.value_in ka.mask_in in
    omega arith

-- the position of the lowest of them
abbrev lowest : Bits → Bits → ℕ
lowest a b = trailing_zeros w64 (shared a b)

lowest_inside : (a b : Bits) → Apart a.value a.mask → shared a b ≢ 0 → lowest a b < 64
lowest_inside a b ka some =
    let fits = shared_fits a b ka in
    (bit_at-trailing_zeros w64 (shared a b) (omega arith) fits).0

-- the only one
lone : (a b : Bits) → Apart a.value a.mask → shared a b ≢ 0
    → shared a b ≡ 1 * 2 ^ lowest a b % 2 ^ 64 → shared a b ≡ 2 ^ lowest a b
lone a b ka some one = one ∙ one_shl (lowest a b) 64 (lowest_inside a b ka some)

-- which two members with a common bit have
both_have : (a b : Bits) (x y : ℕ) → Apart a.value a.mask → Apart b.value b.mask
    → IsMember a.value a.mask x → IsMember b.value b.mask y → bit_and x y ≢ 0 → shared a b ≢ 0
    → shared a b ≡ 1 * 2 ^ lowest a b % 2 ^ 64
    → (bit_at x (lowest a b) ≡ 1) × (bit_at y (lowest a b) ≡ 1)
both_have a b x y ka kb hx hy common some one =
    shared_bit x y (lowest a b) common
    (ap (bit_and (bit_and x y)) (sym (lone a b ka some one)) ∙ and_shared ka kb hx hy)

pub returns-then-shared-eq0-clause-common : goal.returns-then-shared-eq0-clause-common
returns-then-shared-eq0-clause-common c = λ x y hx hy some.
    let ka = is_apart c.args.self (omega arith) (omega arith) in
    let kb = is_apart c.args.other (omega arith) (omega arith) in
    let e = and_shared ka kb hx hy in
    let le = and_le_r (bit_and x y) (shared c.args.self c.args.other) in
    some (omega arith)

pub overflow_shl-lowest : goal.overflow_shl-lowest
overflow_shl-lowest c =
    let ka = is_apart c.args.self (omega arith) (omega arith) in
    lowest_inside c.args.self c.args.other ka c.if-shared-eq0.false

pub returns-in_err-left-clause-common : goal.returns-in_err-left-clause-common
returns-in_err-left-clause-common c = λ x y hx hy some.
    let ka = is_apart c.args.self (omega arith) (omega arith) in
    let kb = is_apart c.args.other (omega arith) (omega arith) in
    let both = both_have c.args.self c.args.other x y ka kb hx hy some
    c.if-shared-eq0.false c.if-shared-lowest.false in
    absurd (c.in_err-left.ensures.common x hx (c.having.ensures.contains x hx.below both.0))

pub returns-in_err-right-clause-common : goal.returns-in_err-right-clause-common
returns-in_err-right-clause-common c = λ x y hx hy some.
    let ka = is_apart c.args.self (omega arith) (omega arith) in
    let kb = is_apart c.args.other (omega arith) (omega arith) in
    let both = both_have c.args.self c.args.other x y ka kb hx hy some
    c.if-shared-eq0.false c.if-shared-lowest.false in
    absurd (c.in_err-right.ensures.common y hy (c.having-2.ensures.contains y hy.below both.1))

pub returns-clause-common : goal.returns-clause-common
returns-clause-common c = λ x y hx hy some.
    let ka = is_apart c.args.self (omega arith) (omega arith) in
    let kb = is_apart c.args.other (omega arith) (omega arith) in
    let both = both_have c.args.self c.args.other x y ka kb hx hy some
    c.if-shared-eq0.false c.if-shared-lowest.false in (
      c.in_ok-left.ensures.common x hx (c.having.ensures.contains x hx.below both.0),
      c.in_ok-right.ensures.common y hy (c.having-2.ensures.contains y hy.below both.1),
    )

pub returns-clause-found : goal.returns-clause-found
returns-clause-found c =
    let ka = is_apart c.args.self (omega arith) (omega arith) in
    let kb = is_apart c.args.other (omega arith) (omega arith) in
    record {
      x = bit_or c.args.self.value c.args.self.mask;
      y = bit_or c.args.other.value c.args.other.mask;
      first = most_member ka;
      second = most_member kb;
      is = c.if-shared-eq0.false;
    }

pub returns-clause-left_only : goal.returns-clause-left_only
returns-clause-left_only c = λ x i alone h.
    let ka = is_apart c.args.self (omega arith) (omega arith) in
    let one = lone c.args.self c.args.other ka c.if-shared-eq0.false c.if-shared-lowest.false in
    rw (same_position i (lowest c.args.self c.args.other) (sym alone ∙ one))
    (c.having.ensures.only x (c.in_ok-left.ensures.right x h))

pub returns-clause-right_only : goal.returns-clause-right_only
returns-clause-right_only c = λ y i alone h.
    let ka = is_apart c.args.self (omega arith) (omega arith) in
    let one = lone c.args.self c.args.other ka c.if-shared-eq0.false c.if-shared-lowest.false in
    rw (same_position i (lowest c.args.self c.args.other) (sym alone ∙ one))
    (c.having-2.ensures.only y (c.in_ok-right.ensures.right y h))

pub returns-then-shared-lowest-clause-found : goal.returns-then-shared-lowest-clause-found
returns-then-shared-lowest-clause-found c =
    let ka = is_apart c.args.self (omega arith) (omega arith) in
    let kb = is_apart c.args.other (omega arith) (omega arith) in
    record {
      x = bit_or c.args.self.value c.args.self.mask;
      y = bit_or c.args.other.value c.args.other.mask;
      first = most_member ka;
      second = most_member kb;
      is = c.if-shared-eq0.false;
    }

pub returns-then-shared-lowest-clause-left_only : goal.returns-then-shared-lowest-clause-left_only
returns-then-shared-lowest-clause-left_only c = λ x i alone h.
    let ka = is_apart c.args.self (omega arith) (omega arith) in
    let fits = shared_fits c.args.self c.args.other ka in
    absurd (c.if-shared-lowest.true (one_position (shared c.args.self c.args.other) i fits alone))

pub returns-then-shared-lowest-clause-right_only : goal.returns-then-shared-lowest-clause-right_only
returns-then-shared-lowest-clause-right_only c = λ y i alone h.
    let ka = is_apart c.args.self (omega arith) (omega arith) in
    let fits = shared_fits c.args.self c.args.other ka in
    absurd (c.if-shared-lowest.true (one_position (shared c.args.self c.args.other) i fits alone))
