use Rattle.assembler.proofs.Common.{ap, ◌∙◌, prefix_len, is_digit, take_rest, number_after, token_length}
use Rattle.assembler.proofs.numbers.number_len_at.Goals as goal

pub returns : goal.returns
returns c = c.number_len_after.ensures c.args.base
    ∙ ap (λ n. token_length (number_after c.args.base c.args.skip c.args.text.now n))
    (c.digits_len.ensures.value
    ∙ ap (prefix_len (λ b. is_digit b c.args.base)) (take_rest c.args.text.now c.args.skip))
