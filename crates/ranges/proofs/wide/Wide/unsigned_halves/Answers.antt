use Rattle.std.proofs.Common.{ℕ, ◌≡◌, ◌<◌, ◌%◌, ◌^◌, rules, w32, arith, FitsSigned}
use Rattle.ranges.proofs.Common.{ints, mod-eq_of_lt, signed_equation, IsHalfBetween}
use Rattle.ranges.specs.Lows.{Has}
use Rattle.ranges.proofs.LowLaws.{reached_weaker, low_between_tight, low_signed_equation}
use Rattle.ranges.proofs.wide.Wide.unsigned_halves.Goals as goal

pub returns-then-self-from-clause-contains : goal.returns-then-self-from-clause-contains
returns-then-self-from-clause-contains c = λ x h.
    let half : x % 2 ^ 32 ≡ x = omega (arith, h.to) in
    (c.between.ensures.members _).1 (omega (arith, h.from), omega (arith, h.to))

pub returns-then-self-from-clause-signed : goal.returns-then-self-from-clause-signed
returns-then-self-from-clause-signed c = λ alike is.
    let e = signed_equation c.args.self.least (omega arith) in
    let f = signed_equation c.args.self.greatest (omega arith) in
    let g = low_signed_equation c.args.self.least (omega arith) in
    let h = low_signed_equation c.args.self.greatest (omega arith) in
    let s = c.between.ensures.signed (omega (arith, ints, alike, is.1.sfits)) in
    (omega (arith, ints, alike, s, is.1.sfits), omega (arith, ints, alike, s, is.1.sfits))

pub returns-then-self-from-clause-reached : goal.returns-then-self-from-clause-reached
returns-then-self-from-clause-reached c =
    let l = c.between.result in
    let fl : FitsSigned w32 l.signed_least = search rules in
    let fg : FitsSigned w32 l.signed_greatest = search rules in
    reached_weaker l (Has l) (IsHalfBetween c.args.self.least c.args.self.greatest)
    (λ e is.
    let m = (c.between.ensures.members e).0 is in
    record {
      number = e;
      from = m.0;
      to = m.1;
      low = mod-eq_of_lt {n = e} {m = 2 ^ 32} is.below;
    })
    (low_between_tight l c.args.self.least c.args.self.greatest (omega arith) (omega arith) fl fg
    c.between.ensures.members c.between.ensures.limits c.between.ensures.signed)

pub among-requires-clause-least : goal.among-requires-clause-least
among-requires-clause-least c =
    (c.any.ensures.members _).1 (let b : c.args.self.least % 2 ^ 32 < 2 ^ 32 = omega arith in b)

pub among-requires-clause-greatest : goal.among-requires-clause-greatest
among-requires-clause-greatest c =
    (c.any.ensures.members _).1 (let b : c.args.self.greatest % 2 ^ 32 < 2 ^ 32 = omega arith in b)

pub returns-clause-reached : goal.returns-clause-reached
returns-clause-reached c =
    reached_weaker c.among.result
    (λ (half : ℕ). Has c.any.result half
    × IsHalfBetween c.args.self.least c.args.self.greatest half)
    (IsHalfBetween c.args.self.least c.args.self.greatest) (λ e is. is.1) c.among.ensures.reached
