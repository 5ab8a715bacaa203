use Rattle.captures.proofs.Common.{◌≡◌, ◌-◌, ◌==◌, ◌≤◌, [], Ok, false, true, length, sym, ap, subst, ◌∙◌, arith, nat_tests, field, least_size, said_in, said_of_block}
use Rattle.captures.specs.declared.forms.CaptureFormat.TheVariants as formats
use Rattle.captures.proofs.PcapngLaws.{block_size-least, least-inside, block_said-none, block_said-unlike, block_said-section, block_said-other}
use Rattle.captures.proofs.blocks.take_block.Goals as goal

pub block_order-requires : goal.block_order-requires
block_order-requires c = block_size-least c.args.form.order c.args.block.now _ c.requires

pub returns-in_default-clause-said : goal.returns-in_default-clause-said
returns-in_default-clause-said c =
    ap said_of_block
    (sym (block_said-none c.args.form c.args.interfaces.now c.args.block.now
    (sym c.block_order.ensures ∙ c.in_default.is)))

pub overflow_sub-size : goal.overflow_sub-size
overflow_sub-size c =
    let long = block_size-least c.args.form.order c.args.block.now _ c.requires in
    omega (arith, long)

pub number_at-requires : goal.number_at-requires
number_at-requires c =
    let long = block_size-least c.args.form.order c.args.block.now _ c.requires in
    omega (arith, long)

pub overflow_cast-number_at : goal.overflow_cast-number_at
overflow_cast-number_at c = omega (arith, c.number_at.type_inv)

pub returns-then-number_at-size-clause-said : goal.returns-then-number_at-size-clause-said
returns-then-number_at-size-clause-said c =
    let block = c.args.block.now in
    let says = c.number_at.ensures in
    let other = c.if-number_at-size.true in
    let unlike : (field c.in-Some.own (length block - 4) block == length block) ≡ false =
    grind (arith, nat_tests, says, other) in
    ap said_of_block
    (sym (block_said-unlike c.args.form c.args.interfaces.now block c.in-Some.own
    (sym c.block_order.ensures ∙ c.in-Some.is) unlike))

pub is_section-requires : goal.is_section-requires
is_section-requires c =
    let long = block_size-least c.args.form.order c.args.block.now _ c.requires in
    omega (arith, long)

pub returns-then-is_section-clause-said : goal.returns-then-is_section-clause-said
returns-then-is_section-clause-said c =
    let block = c.args.block.now in
    let says = c.number_at.ensures in
    let same = c.if-number_at-size.false in
    let like : (field c.in-Some.own (length block - 4) block == length block) ≡ true =
    grind (arith, nat_tests, says, same) in
    ap (λ l. Ok (record {
      format = formats.Pcapng (record { order = c.in-Some.own; reasons = c.args.form.reasons });
      interfaces = l;
      packets = [];
    }))
    c.clear.ensures
    ∙ ap said_of_block
    (sym (block_said-section c.args.form c.args.interfaces.now block c.in-Some.own
    (sym c.block_order.ensures ∙ c.in-Some.is) like
    (sym c.is_section.ensures ∙ c.if-is_section.true)))

pub number_at-requires-2 : goal.number_at-requires-2
number_at-requires-2 c =
    let long = block_size-least c.args.form.order c.args.block.now _ c.requires in
    omega (arith, long)

pub take_in-requires : goal.take_in-requires
take_in-requires c =
    subst (λ n. least_size n ≤ length c.args.block.now) (sym c.number_at-2.ensures)
    (least-inside c.args.form.order c.in-Some.own c.args.block.now c.requires
    (sym c.block_order.ensures ∙ c.in-Some.is))

pub returns-clause-said : goal.returns-clause-said
returns-clause-said c =
    let block = c.args.block.now in
    let says = c.number_at.ensures in
    let same = c.if-number_at-size.false in
    let like : (field c.in-Some.own (length block - 4) block == length block) ≡ true =
    grind (arith, nat_tests, says, same) in
    c.take_in.ensures.said
    ∙ ap said_of_block
    (ap (said_in _ block) c.number_at-2.ensures
    ∙ sym (block_said-other c.args.form c.args.interfaces.now block c.in-Some.own
    (sym c.block_order.ensures ∙ c.in-Some.is) like
    (sym c.is_section.ensures ∙ c.if-is_section.false)))

pub returns-clause-inside : goal.returns-clause-inside
returns-clause-inside c = c.take_in.ensures.inside
