use Rattle.std.proofs.Common.{◌≡◌, map, take}
use Rattle.isa_model.specs.declared.values.Cell.TheVariants.{Byte}
use Rattle.coverage.proofs.recording.cells_of.Given as goal

abbrev pub invariant-loop-byte : goal.invariant-loop-byte
invariant-loop-byte l = l.cells.items ≡ map Byte (take l.byte-index l.bytes)
