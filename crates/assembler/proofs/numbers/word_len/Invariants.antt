use Rattle.assembler.proofs.Common.{◌≡◌, ◌+◌, drop, prefix_len, is_word_byte}
use Rattle.assembler.proofs.numbers.word_len.Given as goal

abbrev pub invariant-loop-i : goal.invariant-loop-i
invariant-loop-i l =
    prefix_len is_word_byte l.text ≡ l.i + prefix_len is_word_byte (drop l.i l.text)
