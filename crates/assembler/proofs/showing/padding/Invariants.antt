use Rattle.assembler.proofs.Common.{◌≡◌, map, take, string_bytes, padding_byte}
use Rattle.assembler.proofs.showing.padding.Given as goal

abbrev pub invariant-loop-byte : goal.invariant-loop-byte
invariant-loop-byte l = string_bytes l.written ≡ map padding_byte (take l.byte-index l.front)
