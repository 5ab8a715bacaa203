use Rattle.captures.proofs.Common.{◌+◌, ◌/◌, ◌*◌, length, min, refl, sym, ap, ◌∙◌, arith, length-drop, nat_tests, option_value}
use Rattle.captures.proofs.PcapngLaws.{option_value-none, option_value-end, option_value-found, option_value-later, option_cut, option_next}
use Rattle.captures.proofs.options.option_value.Goals as goal

pub loop-rest-init : goal.loop-rest-init
loop-rest-init c = refl

pub returns-then-kind-eq0 : goal.returns-then-kind-eq0
returns-then-kind-eq0 c =
    sym (c.loop-rest.invariant
    ∙ option_value-end c.args.order c.args.code c.loop-rest.rest.now c.loop-rest-test.true
    (sym c.short_at-kind.ensures ∙ c.if-kind-eq0.true))

pub returns-then-kind-code : goal.returns-then-kind-code
returns-then-kind-code c =
    let kind = c.short_at-kind.ensures in
    let more = c.if-kind-eq0.false in
    option_cut c.args.order c.loop-rest.rest.now _ (c.min-end.ensures
    ∙ ap (λ n. min (length c.loop-rest.rest.now) (4 + n))
    (c.from-size.ensures ∙ c.short_at.ensures))
    ∙ sym (c.loop-rest.invariant
    ∙ option_value-found c.args.order c.args.code c.loop-rest.rest.now c.loop-rest-test.true
    (grind (arith, nat_tests, kind)) (sym kind ∙ c.if-kind-code.true))

pub loop-rest-smaller : goal.loop-rest-smaller
loop-rest-smaller c =
    let some = c.loop-rest-test.true in
    let cut = c.min-next.ensures in
    let left = ap length c.split_at.ensures.back in
    let short = length-drop c.min-next.result c.loop-rest.rest.now in
    omega (arith, some, cut, left, short)

pub loop-rest-preserved : goal.loop-rest-preserved
loop-rest-preserved c =
    let kind = c.short_at-kind.ensures in
    let some = c.loop-rest-test.true in
    let rest = c.loop-rest.rest.now in
    let next = c.min-next.result in
    c.loop-rest.invariant
    ∙ option_value-later c.args.order c.args.code rest next some
    (grind (arith, nat_tests, kind, c.if-kind-eq0.false))
    (grind (arith, nat_tests, kind, c.if-kind-code.false))
    (option_next c.args.order rest next (c.min-next.ensures
    ∙ ap (λ n. min (length rest) (4 + (n + 3) / 4 * 4))
    (c.from-size.ensures ∙ c.short_at.ensures))) (omega (arith, some, c.min-next.ensures))
    ∙ ap (option_value c.args.order c.args.code) (sym c.split_at.ensures.back)

pub returns : goal.returns
returns c =
    sym (c.loop-rest.invariant
    ∙ option_value-none c.args.order c.args.code c.loop-rest.rest.now c.loop-rest-test.false)
