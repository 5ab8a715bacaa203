use Rattle.ranges.proofs.Common.{◌≡◌, ℕ, ◌+◌, ◌-◌, ◌/◌, ◌%◌, ◌^◌, ◌≤◌, ap, sym, subst, arith, mod_below, pow_pos, mod-eq_of_lt, Has, div_mono}
use Rattle.std.proofs.lemmas.Nat.Bits.{ones_shr}
use Rattle.ranges.proofs.range.Range.part.Goals as goal

most_is : (count : ℕ) → count ≤ 64 → (2 ^ 64 - 1) / 2 ^ (64 - count) + 1 ≡ 2 ^ count
most_is count h =
    let ones = ones_shr 64 (64 - count) (omega arith) in
    let same : 2 ^ (64 - (64 - count)) ≡ 2 ^ count =
    ap (λ k. 2 ^ k) (let e : 64 - (64 - count) ≡ count = omega arith in e) in
    let some = pow_pos count in
    omega arith

pub returns-then-greatest-most-clause-contains : goal.returns-then-greatest-most-clause-contains
returns-then-greatest-most-clause-contains c = λ x hx.
    let from : ℕ = c.args.from in
    let wide = c.args.self.wide in
    let most = most_is c.args.count c.requires.count in
    let low = div_mono wide.least x from hx.0.from in
    let high = div_mono x wide.greatest from hx.0.to in
    let whole : x / 2 ^ from % 2 ^ c.args.count ≡ x / 2 ^ from = mod-eq_of_lt (omega arith) in
    subst (Has c.between.result) (sym whole)
    ((c.between.ensures.members (x / 2 ^ from)).1 (low, high))

pub returns-then-greatest-most-clause-fits : goal.returns-then-greatest-most-clause-fits
returns-then-greatest-most-clause-fits c =
    let most = most_is c.args.count c.requires.count in
    let limits = c.between.ensures.limits in
    omega (arith, limits.1)

pub returns-else-from-eq0-clause-contains : goal.returns-else-from-eq0-clause-contains
returns-else-from-eq0-clause-contains c = λ x hx.
    let most = most_is c.args.count c.requires.count in
    let below = mod_below (x / 2 ^ c.args.from) (2 ^ c.args.count) (pow_pos c.args.count) in
    (c.between-else-from-eq0.ensures.members (x / 2 ^ c.args.from % 2 ^ c.args.count)).1
    (omega arith, omega arith)

pub returns-else-from-eq0-clause-fits : goal.returns-else-from-eq0-clause-fits
returns-else-from-eq0-clause-fits c =
    let most = most_is c.args.count c.requires.count in
    let limits = c.between-else-from-eq0.ensures.limits in
    omega (arith, limits.1)

pub returns-else-from-eq0-clause-limits : goal.returns-else-from-eq0-clause-limits
returns-else-from-eq0-clause-limits c = λ fits.
    let most = most_is c.args.count c.requires.count in
    let above = c.if-greatest-most.false in
    absurd (omega arith)
