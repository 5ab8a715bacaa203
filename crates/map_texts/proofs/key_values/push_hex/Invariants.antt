use Rattle.map_texts.proofs.Common.{◌≡◌, ◌+◌, ◌*◌, ◌++◌, take, encode_lower}
use Rattle.arrayvec.specs.ArrayVec.{array_vec_len}
use Rattle.map_texts.proofs.key_values.push_hex.Given as goal

abbrev pub invariant-loop-byte : goal.invariant-loop-byte
invariant-loop-byte
    l = (l.line.items ≡ l.initial.line.items ++ encode_lower (take l.byte-index l.bytes))
    × (array_vec_len l.line ≡ array_vec_len l.initial.line + 2 * l.byte-index)
