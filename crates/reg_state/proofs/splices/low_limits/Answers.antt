use Rattle.reg_state.proofs.Common.{◌≡◌, ℕ, ◌+◌, ◌-◌, ◌/◌, ◌%◌, ◌^◌, ◌<◌, ◌≤◌, ap, arith, mod_below, pow_pos}
use Rattle.std.proofs.lemmas.Nat.Bits.{ones_shr}
use Rattle.std.proofs.Math.Nat.{mod-eq_of_lt}
use Rattle.reg_state.proofs.splices.low_limits.Goals as goal

most_is : (count : ℕ) → count ≤ 64 → (2 ^ 64 - 1) / 2 ^ (64 - count) + 1 ≡ 2 ^ count
most_is count h =
    let ones = ones_shr 64 (64 - count) (omega arith) in
    let same : 2 ^ (64 - (64 - count)) ≡ 2 ^ count =
    ap (λ k. 2 ^ k) (let e : 64 - (64 - count) ≡ count = omega arith in e) in
    let some = pow_pos count in
    omega arith

pub returns-then-range-most-clause-contains : goal.returns-then-range-most-clause-contains
returns-then-range-most-clause-contains c = λ x hx.
    let most = most_is c.args.count c.requires.count in
    let from = hx.0.from in
    let to = hx.0.to in
    let whole : x % 2 ^ c.args.count ≡ x = mod-eq_of_lt (omega arith) in
    (omega arith, omega arith)

pub returns-then-range-most-clause-fits : goal.returns-then-range-most-clause-fits
returns-then-range-most-clause-fits c =
    let most = most_is c.args.count c.requires.count in
    omega arith

pub returns-else-count-eq32-clause-contains : goal.returns-else-count-eq32-clause-contains
returns-else-count-eq32-clause-contains c = λ x hx.
    let most = most_is c.args.count c.requires.count in
    let below = mod_below x (2 ^ c.args.count) (pow_pos c.args.count) in
    (omega arith, omega arith)

pub returns-else-count-eq32-clause-fits : goal.returns-else-count-eq32-clause-fits
returns-else-count-eq32-clause-fits c =
    let most = most_is c.args.count c.requires.count in
    omega arith

pub returns-else-count-eq32-clause-kept : goal.returns-else-count-eq32-clause-kept
returns-else-count-eq32-clause-kept c = λ fits.
    let most = most_is c.args.count c.requires.count in
    let above = c.if-range-most.false in
    absurd (omega arith)
