-- Counts by index, in numbers of 64 bits.
use Rattle.std.specs.Prelude.{◌≡◌, ℕ, ◌<◌, ◌%◌, ◌^◌, Bool, List, length, slice_index, count_by}

-- at each index the list has how many elements pass the index's test, as far as 64 bits go
abbrev pub CountsModulo : {A : Type 0} → (ℕ → A → Bool) → List A → List ℕ → Type 0
CountsModulo test xs counts =
    (k : ℕ) → k < length counts → slice_index counts k ≡ count_by (test k) xs % 2 ^ 64

-- at each index the list has how many elements pass the index's test
abbrev pub CountsExactly : {A : Type 0} → (ℕ → A → Bool) → List A → List ℕ → Type 0
CountsExactly test xs counts = (k : ℕ) → k < length counts → slice_index counts k ≡ count_by (test k) xs
