use Rattle.assembler.proofs.Common.{◌≡◌, ap, ◌∙◌, subst, IfErr, prefix_len, is_digit, take_rest, number_after, number_end}
use Rattle.assembler.proofs.numbers.number_at.Goals as goal

pub returns-clause-found : goal.returns-clause-found
returns-clause-found c = c.number_after.ensures.found
    ∙ ap (number_after c.args.base c.args.skip c.args.text.now)
    (c.digits_len.ensures.value
    ∙ ap (prefix_len (λ b. is_digit b c.args.base)) (take_rest c.args.text.now c.args.skip))

pub returns-clause-unknown : goal.returns-clause-unknown
returns-clause-unknown c = subst
    (λ n. IfErr c.number_after.result (λ at. at ≡ number_end c.args.skip n))
    (c.digits_len.ensures.value
    ∙ ap (prefix_len (λ b. is_digit b c.args.base))
    (take_rest c.args.text.now c.args.skip)) c.number_after.ensures.unknown
