-- How many slots of code an index has room for.
use Rattle.std.specs.Prelude.{◌≡◌, ℕ, vec_len}
use Rattle.state_index.specs.declared.index.StateIndex.{StateIndex}

-- it has room for the first shapes of code with this number of slots
abbrev pub HasShapeRoom : StateIndex → ℕ → Type 0
HasShapeRoom index slots = vec_len index.first_shapes ≡ slots
