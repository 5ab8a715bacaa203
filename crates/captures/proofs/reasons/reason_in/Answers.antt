use Rattle.captures.proofs.Common.{◌+◌, ◌-◌, ◌/◌, ◌*◌, drop, take, length, min, refl, sym, ap, ◌∙◌, arith, length-drop, nat_tests, option_reason, padded, reason_in, short_field}
use Rattle.captures.proofs.PcapngLaws.{option_next}
use Rattle.captures.proofs.ReasonLaws.{reason_in-end, reason_in-found, reason_in-later, reason_in-none, value_cut}
use Rattle.captures.proofs.reasons.reason_in.Goals as goal

pub loop-rest-init : goal.loop-rest-init
loop-rest-init c = refl

pub returns-then-kind-eq0 : goal.returns-then-kind-eq0
returns-then-kind-eq0 c =
    sym (c.loop-rest.invariant
    ∙ reason_in-end c.args.order c.loop-rest.rest.now c.loop-rest-test.true
    (sym c.short_at-kind.ensures ∙ c.if-kind-eq0.true))

pub returns-in-Some : goal.returns-in-Some
returns-in-Some c =
    let order = c.args.order in
    let rest = c.loop-rest.rest.now in
    let kind = c.short_at-kind.ensures in
    let some = c.loop-rest-test.true in
    let size = c.from-size.ensures ∙ c.short_at.ensures in
    let value = value_cut order rest c.min-end.result
    (c.min-end.ensures ∙ ap (λ n. min (length rest) (4 + n)) size) in
    sym (c.loop-rest.invariant
    ∙ reason_in-found order rest (4 + padded (short_field order 2 rest)) some
    (grind (arith, nat_tests, kind, c.if-kind-eq0.false)) refl (omega arith) c.in-Some.reason
    (ap (option_reason (short_field order 0 rest)) (sym value)
    ∙ ap (λ n. option_reason n (take (c.min-end.result - 4) (drop 4 rest))) (sym kind)
    ∙ sym c.option_reason.ensures ∙ c.in-Some.is))

pub loop-rest-smaller : goal.loop-rest-smaller
loop-rest-smaller c =
    let some = c.loop-rest-test.true in
    let cut = c.min-next.ensures in
    let left = ap length c.split_at.ensures.back in
    let short = length-drop c.min-next.result c.loop-rest.rest.now in
    omega (arith, some, cut, left, short)

pub loop-rest-preserved : goal.loop-rest-preserved
loop-rest-preserved c =
    let order = c.args.order in
    let rest = c.loop-rest.rest.now in
    let next = c.min-next.result in
    let kind = c.short_at-kind.ensures in
    let some = c.loop-rest-test.true in
    let size = c.from-size.ensures ∙ c.short_at.ensures in
    let value = value_cut order rest c.min-end.result
    (c.min-end.ensures ∙ ap (λ n. min (length rest) (4 + n)) size) in
    c.loop-rest.invariant
    ∙ reason_in-later order rest next some (grind (arith, nat_tests, kind, c.if-kind-eq0.false))
    (option_next order rest next (c.min-next.ensures
    ∙ ap (λ n. min (length rest) (4 + (n + 3) / 4 * 4)) size))
    (omega (arith, some, c.min-next.ensures))
    (ap (option_reason (short_field order 0 rest)) (sym value)
    ∙ ap (λ n. option_reason n (take (c.min-end.result - 4) (drop 4 rest))) (sym kind)
    ∙ sym c.option_reason.ensures ∙ c.in_default.is)
    ∙ ap (reason_in order) (sym c.split_at.ensures.back)

pub returns : goal.returns
returns c =
    sym (c.loop-rest.invariant
    ∙ reason_in-none c.args.order c.loop-rest.rest.now c.loop-rest-test.false)
