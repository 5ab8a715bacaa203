use Rattle.kept_states.proofs.Common.{◌∙◌, reverse, NumberStacks}
use Rattle.kept_states.proofs.EarlierLaws.{number_back, stacks_back}
use Rattle.kept_states.proofs.earlier_numbers.EarlierNumbers.put.Goals as goal

pub returns-clause-was : goal.returns-clause-was
returns-clause-was c =
    let own = c.self.inside in
    let old : NumberStacks =
    record {
      bits = reverse own.bits.items;
      unsigned = reverse own.unsigned.items;
      signed = reverse own.signed.items;
      low_unsigned = reverse own.low_unsigned.items;
      low_signed = reverse own.low_signed.items;
    } in
    number_back _ old _ c.args.was.now c.args.there.now c.in_ok-put_bits.ensures.was
    c.in_ok-put.ensures c.in_ok-put_signed.ensures c.in_ok-put-2.ensures
    c.in_ok-put_low_signed.ensures

pub returns-clause-left : goal.returns-clause-left
returns-clause-left c =
    let own = c.self.inside in
    let old : NumberStacks =
    record {
      bits = reverse own.bits.items;
      unsigned = reverse own.unsigned.items;
      signed = reverse own.signed.items;
      low_unsigned = reverse own.low_unsigned.items;
      low_signed = reverse own.low_signed.items;
    } in
    stacks_back _ old _ c.in_ok-put_bits.ensures.left c.in_ok-put.ensures.left
    c.in_ok-put_signed.ensures.left c.in_ok-put-2.ensures.left
    c.in_ok-put_low_signed.ensures.left
    ∙ c.self.view_is
