use Rattle.map_texts.proofs.Common.{◌≡◌, ◌+◌, drop, prefix_len, is_field_byte}
use Rattle.map_texts.proofs.fields.field_len.Given as goal

abbrev pub invariant-loop-i : goal.invariant-loop-i
invariant-loop-i l =
    prefix_len is_field_byte l.text ≡ l.i + prefix_len is_field_byte (drop l.i l.text)
