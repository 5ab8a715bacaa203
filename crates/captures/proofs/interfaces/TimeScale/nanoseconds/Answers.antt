use Rattle.captures.proofs.Common.{◌<◌, ◌*◌, ◌/◌, ◌%◌, ◌^◌, ◌-◌, sym, ap, ◌∙◌, subst, arith, units_per_second}
use Rattle.captures.proofs.TimeLaws.{scaled_up, scaled_down, too_fine_10, too_fine_2, part_fits, ten_some}
use Rattle.captures.proofs.interfaces.TimeScale.nanoseconds.Goals as goal

pub nonzero_div-result : goal.nonzero_div-result
nonzero_div-result c =
    subst (λ n. 0 < n) (sym c.pow-then-power-le28.ensures) (ten_some _)

pub returns-then-power-le9 : goal.returns-then-power-le9
returns-then-power-le9 c =
    ap (λ p. c.args.units * p % 2 ^ 64)
    (c.pow.ensures ∙ ap (λ n. 10 ^ (9 - n)) c.from.ensures)
    ∙ ap (λ n. n % 2 ^ 64) (sym (scaled_up c.args.units c.in-PowerOf10.power c.if-power-le9.true))
    ∙ ap (λ s. c.args.units * 10 ^ 9 / units_per_second s % 2 ^ 64) (sym c.in-PowerOf10.is)

pub returns-then-power-le28 : goal.returns-then-power-le28
returns-then-power-le28 c =
    ap (λ p. c.args.units / p)
    (c.pow-then-power-le28.ensures ∙ ap (λ n. 10 ^ (n - 9)) c.from-then-power-le28.ensures)
    ∙ sym (part_fits c.args.units (10 ^ (c.in-PowerOf10.power - 9)) c.ranges.units.fits)
    ∙ ap (λ n. n % 2 ^ 64)
    (sym (scaled_down c.args.units c.in-PowerOf10.power c.if-power-le9.false))
    ∙ ap (λ s. c.args.units * 10 ^ 9 / units_per_second s % 2 ^ 64) (sym c.in-PowerOf10.is)

pub returns-else-power-le28 : goal.returns-else-power-le28
returns-else-power-le28 c =
    ap (λ n. n % 2 ^ 64)
    (sym (too_fine_10 c.args.units c.in-PowerOf10.power c.ranges.units.fits
    c.if-power-le28.false))
    ∙ ap (λ s. c.args.units * 10 ^ 9 / units_per_second s % 2 ^ 64) (sym c.in-PowerOf10.is)

pub returns-else-power-lt128 : goal.returns-else-power-lt128
returns-else-power-lt128 c =
    ap (λ n. n % 2 ^ 64)
    (sym (too_fine_2 c.args.units c.in-PowerOf2.power c.ranges.units.fits
    (omega (arith, c.if-power-lt128.false))))
    ∙ ap (λ s. c.args.units * 10 ^ 9 / units_per_second s % 2 ^ 64) (sym c.in-PowerOf2.is)
