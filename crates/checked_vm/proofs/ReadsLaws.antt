-- Laws of the definitions in specs/Reads.
use Rattle.checked_vm.proofs.Common.{◌≡◌, ℕ, map, Option, Some, None, option_map, Byte, Content, index_of_serial, key_value_at, value_bytes}
use Rattle.std.specs.Prelude.{refl}

-- the cells of a map value are its bytes
pub value_cells : (content : Content) (n : ℕ)
    → option_map (λ j. map Byte (key_value_at content j).1.bytes) (index_of_serial content n)
    ≡ option_map (map Byte) (value_bytes content n)
value_cells content n = by (index_of_serial content n)
  where
    by : (o : Option ℕ)
        → option_map (λ j. map Byte (key_value_at content j).1.bytes) o
        ≡ option_map (map Byte) (option_map (λ j. (key_value_at content j).1.bytes) o)
    by None = refl
    by (Some j) = refl
