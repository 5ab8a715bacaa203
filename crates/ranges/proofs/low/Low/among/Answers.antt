use Rattle.ranges.proofs.Common.{ℕ, ◌≡◌, ◌+◌, ◌<◌, ◌/◌, ◌%◌, ◌^◌, inl, inr, arith, cases_lt, IsHalfBetween}
use Rattle.ranges.specs.Lows.{Has}
use Rattle.ranges.proofs.EnclosesLaws.{enclosed_low}
use Rattle.ranges.proofs.LowLaws.{reached_weaker, either_reached, among_same, among_start, among_end, among_middle}
use Rattle.ranges.proofs.low.Low.among.Goals as goal

pub returns-then-first-last-clause-reached : goal.returns-then-first-last-clause-reached
returns-then-first-last-clause-reached c =
    let l = c.requires.least in
    let least : c.low_32_bits-from.result ≡ c.args.least % 2 ^ 32 = c.low_32_bits-from.ensures in
    let greatest : c.low_32_bits-to.result ≡ c.args.greatest % 2 ^ 32 = c.low_32_bits-to.ensures in
    let same : c.args.least / 2 ^ 32 ≡ c.args.greatest / 2 ^ 32 = omega arith in
    let here : Has c.between.result (c.args.least % 2 ^ 32) =
    (c.between.ensures.members _).1 (omega arith, omega arith) in
    let other = c.with.ensures.other _ l here in
    reached_weaker c.with.result (Has c.with.result)
    (λ (e : ℕ). Has c.args.self e × IsHalfBetween c.args.least c.args.greatest e)
    (λ e h. (
      enclosed_low c.args.self c.with.result e c.with.ensures.enclosed h,
      let m = (c.between.ensures.members e).0
          (enclosed_low c.between.result c.with.result e other h) in
          among_same c.args.least c.args.greatest e same (omega arith) (omega arith),
    ))
    (c.with.ensures.tight _ l here)

pub returns-then-first-last-2-clause-contains : goal.returns-then-first-last-2-clause-contains
returns-then-first-last-2-clause-contains c = λ x from to h.
    let least : c.low_32_bits-from.result ≡ c.args.least % 2 ^ 32 = c.low_32_bits-from.ensures in
    let greatest : c.low_32_bits-to.result ≡ c.args.greatest % 2 ^ 32 = c.low_32_bits-to.ensures in
    elim (cases_lt (x / 2 ^ 32) (c.args.greatest / 2 ^ 32)) [
      | inl start ↦
          let here : Has c.between-then-first-last-2.result (x % 2 ^ 32) =
          (c.between-then-first-last-2.ensures.members _).1 (omega arith, omega arith) in
          enclosed_low c.hull.result c.with-start.result _ c.hull.ensures.left
          (c.with-start.ensures.common _ h here)
      | inr end ↦
          let here : Has c.between-then-first-last-2-2.result (x % 2 ^ 32) =
          (c.between-then-first-last-2-2.ensures.members _).1 (omega arith, omega arith) in
          enclosed_low c.hull.result c.with-end.result _ c.hull.ensures.right
          (c.with-end.ensures.common _ h here)
    ]

pub returns-then-first-last-2-clause-reached : goal.returns-then-first-last-2-clause-reached
returns-then-first-last-2-clause-reached c =
    let l = c.requires.least in
    let g = c.requires.greatest in
    let least : c.low_32_bits-from.result ≡ c.args.least % 2 ^ 32 = c.low_32_bits-from.ensures in
    let greatest : c.low_32_bits-to.result ≡ c.args.greatest % 2 ^ 32 = c.low_32_bits-to.ensures in
    let apart : c.args.least / 2 ^ 32 < c.args.greatest / 2 ^ 32 = omega arith in
    let start : Has c.between-then-first-last-2.result (c.args.least % 2 ^ 32) =
    (c.between-then-first-last-2.ensures.members _).1 (omega arith, omega arith) in
    let end : Has c.between-then-first-last-2-2.result (c.args.greatest % 2 ^ 32) =
    (c.between-then-first-last-2-2.ensures.members _).1 (omega arith, omega arith) in
    either_reached c.hull.result c.with-start.result c.with-end.result
    (λ (e : ℕ). Has c.args.self e × IsHalfBetween c.args.least c.args.greatest e)
    c.hull.ensures.either
    (reached_weaker c.with-start.result (Has c.with-start.result)
    (λ (e : ℕ). Has c.args.self e × IsHalfBetween c.args.least c.args.greatest e)
    (λ e is. (
      enclosed_low c.args.self c.with-start.result e c.with-start.ensures.enclosed is,
      let m = (c.between-then-first-last-2.ensures.members e).0
          (enclosed_low c.between-then-first-last-2.result c.with-start.result e
          (c.with-start.ensures.other _ l start) is) in
          among_start c.args.least c.args.greatest e apart (omega arith) is.below,
    ))
    (c.with-start.ensures.tight _ l start))
    (reached_weaker c.with-end.result (Has c.with-end.result)
    (λ (e : ℕ). Has c.args.self e × IsHalfBetween c.args.least c.args.greatest e)
    (λ e is. (
      enclosed_low c.args.self c.with-end.result e c.with-end.ensures.enclosed is,
      let m = (c.between-then-first-last-2-2.ensures.members e).0
          (enclosed_low c.between-then-first-last-2-2.result c.with-end.result e
          (c.with-end.ensures.other _ g end) is) in
          among_end c.args.least c.args.greatest e apart (omega arith),
    ))
    (c.with-end.ensures.tight _ g end))

pub returns-else-first-last-2-clause-reached : goal.returns-else-first-last-2-clause-reached
returns-else-first-last-2-clause-reached c =
    let apart : c.args.least / 2 ^ 32 + 1 < c.args.greatest / 2 ^ 32 = omega arith in
    reached_weaker c.args.self (Has c.args.self)
    (λ (e : ℕ). Has c.args.self e × IsHalfBetween c.args.least c.args.greatest e)
    (λ e is. (is, among_middle c.args.least c.args.greatest e apart is.below)) c.requires.tight
