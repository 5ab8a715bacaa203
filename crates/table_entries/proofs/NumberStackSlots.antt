-- A number in a register, or spilled to a stack slot, is allowed exactly where its fields are.
use Rattle.table_entries.proofs.Common.{◌≡◌, Option, Some, None, refl, is_some, option_map, Scalar, Number, spilled}

pub number_there : (x : Option Scalar) → is_some (option_map Number x) ≡ is_some x
number_there (Some x) = refl
number_there None = refl

pub spilled_number : (x : Option Scalar) → is_some (spilled (option_map Number x)) ≡ is_some x
spilled_number (Some x) = refl
spilled_number None = refl
