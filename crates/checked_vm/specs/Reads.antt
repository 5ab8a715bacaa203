-- Reads of some cells of a region.
use Rattle.std.specs.Prelude.{ℕ, List, Option, Result, Ok}
use Rattle.isa_model.specs.declared.values.Cell.{Cell}
use Rattle.isa_model.specs.declared.ends.TrapReason.{TrapReason}
use Rattle.isa_model.specs.Machine.Memory.{and_then, place_in, cells_at}

-- n cells of a region, from an index on
abbrev pub read_cells : Option (List Cell) → Option ℕ → ℕ → Result (List Cell) TrapReason
read_cells cells at n = and_then (place_in cells at n) (λ i. Ok (cells_at cells i n))
