use Rattle.captures.proofs.Common.{arith, false, true, ◌==◌, ◌≡◌, ◌%◌, sym, ◌∙◌, subst, ◌<◌, ◌≤◌, nat_tests}
use Rattle.captures.proofs.PcapngLaws.{block_size-none, block_size-few, block_size-uneven, block_size-long, block_size-fits}
use Rattle.captures.proofs.blocks.block_size.Goals as goal

pub returns-in_default : goal.returns-in_default
returns-in_default c =
    sym (block_size-none c.args.order c.args.block.now
    (sym c.block_order.ensures ∙ c.in_default.is))

pub returns-then-size-least_size : goal.returns-then-size-least_size
returns-then-size-least_size c =
    sym (block_size-few c.args.order c.in-Some.order c.args.block.now c.number_at-size.result
    c.number_at.result (sym c.block_order.ensures ∙ c.in-Some.is) c.number_at-size.ensures
    c.number_at.ensures
    (subst (λ n. c.number_at-size.result < n) c.least_size.ensures c.if-size-least_size.true))

pub returns-then-size-ne0 : goal.returns-then-size-ne0
returns-then-size-ne0 c =
    let uneven : (c.number_at-size.result % 4 == 0) ≡ false = grind (arith, nat_tests) in
    sym (block_size-uneven c.args.order c.in-Some.order c.args.block.now c.number_at-size.result
    c.number_at.result (sym c.block_order.ensures ∙ c.in-Some.is) c.number_at-size.ensures
    c.number_at.ensures
    (subst (λ n. n ≤ c.number_at-size.result) c.least_size.ensures c.if-size-least_size.false)
    uneven)

pub returns-then-size-gt-MAX_BLOCK : goal.returns-then-size-gt-MAX_BLOCK
returns-then-size-gt-MAX_BLOCK c =
    let even : (c.number_at-size.result % 4 == 0) ≡ true = grind (arith, nat_tests) in
    sym (block_size-long c.args.order c.in-Some.order c.args.block.now c.number_at-size.result
    c.number_at.result (sym c.block_order.ensures ∙ c.in-Some.is) c.number_at-size.ensures
    c.number_at.ensures
    (subst (λ n. n ≤ c.number_at-size.result) c.least_size.ensures c.if-size-least_size.false)
    even c.if-size-gt-MAX_BLOCK.true)

pub returns : goal.returns
returns c =
    let even : (c.number_at-size.result % 4 == 0) ≡ true = grind (arith, nat_tests) in
    sym (block_size-fits c.args.order c.in-Some.order c.args.block.now c.number_at-size.result
    c.number_at.result (sym c.block_order.ensures ∙ c.in-Some.is) c.number_at-size.ensures
    c.number_at.ensures
    (subst (λ n. n ≤ c.number_at-size.result) c.least_size.ensures c.if-size-least_size.false)
    even c.if-size-gt-MAX_BLOCK.false)
