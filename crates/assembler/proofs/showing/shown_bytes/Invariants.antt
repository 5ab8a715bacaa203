use Rattle.assembler.proofs.Common.{◌≡◌, map, take, string_bytes, shown_byte}
use Rattle.assembler.proofs.showing.shown_bytes.Given as goal

abbrev pub invariant-loop-byte : goal.invariant-loop-byte
invariant-loop-byte l = string_bytes l.written ≡ map shown_byte (take l.byte-index l.line)
