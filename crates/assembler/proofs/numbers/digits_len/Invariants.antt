use Rattle.assembler.proofs.Common.{◌≡◌, ◌+◌, drop, prefix_len, is_digit}
use Rattle.assembler.proofs.numbers.digits_len.Given as goal

abbrev pub invariant-loop-i : goal.invariant-loop-i
invariant-loop-i l = prefix_len (λ c. is_digit c l.base) l.text
    ≡ l.i + prefix_len (λ c. is_digit c l.base) (drop l.i l.text)
