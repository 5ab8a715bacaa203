use Rattle.map_texts.proofs.Common.{◌≡◌, ◌+◌, drop, prefix_len, is_digit}
use Rattle.map_texts.proofs.fields.digits_len.Given as goal

abbrev pub invariant-loop-i : goal.invariant-loop-i
invariant-loop-i l = prefix_len is_digit l.text ≡ l.i + prefix_len is_digit (drop l.i l.text)
