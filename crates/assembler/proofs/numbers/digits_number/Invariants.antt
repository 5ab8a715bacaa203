use Rattle.assembler.proofs.Common.{◌≡◌, ◌<◌, ◌^◌, drop, digits_number}
use Rattle.assembler.proofs.numbers.digits_number.Given as goal

abbrev pub invariant-loop-c : goal.invariant-loop-c
invariant-loop-c l = (l.n < 2 ^ 70)
    × (digits_number l.base 0 l.digits ≡ digits_number l.base l.n (drop l.c-index l.digits))
