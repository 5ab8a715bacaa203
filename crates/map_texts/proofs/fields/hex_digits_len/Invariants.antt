use Rattle.map_texts.proofs.Common.{◌≡◌, ◌+◌, drop, prefix_len, is_hex_digit}
use Rattle.map_texts.proofs.fields.hex_digits_len.Given as goal

abbrev pub invariant-loop-i : goal.invariant-loop-i
invariant-loop-i l =
    prefix_len is_hex_digit l.text ≡ l.i + prefix_len is_hex_digit (drop l.i l.text)
