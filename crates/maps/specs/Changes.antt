-- What an update and a delete do to the places of keys and to the block of values.
use Rattle.std.specs.Prelude.{◌≡◌, ◌≢◌, ℕ, List, Some, None}
use Rattle.std.specs.FinMap.{get, remove}
use Rattle.map_indexes.specs.BlockRows.{with_block_row}
use Rattle.map_indexes.specs.PlaceKeys.{Places, TakesPlace}

-- the value of a key is written: a present key keeps its place, and a new one takes a free one
pub record WritesPair (size : ℕ) (key value : List ℕ) (P : Places) (B : List ℕ) (P' : Places)
    (B' : List ℕ) : Type 0 where
  pub place : ℕ
  pub there : get P' key ≡ Some place
  pub kept : (p : ℕ) → get P key ≡ Some p → P' ≡ P
  pub taken : get P key ≡ None → TakesPlace P key place P'
  pub written : B' ≡ with_block_row size B place value

-- what an update does, by its answer, where values have this size: an error changes nothing
pub record Updates (size answer : ℕ) (key value : List ℕ) (P : Places) (B : List ℕ) (P' : Places)
    (B' : List ℕ) : Type 0 where
  pub writes : answer ≡ 0 → WritesPair size key value P B P' B'
  pub stays : answer ≢ 0 → (P' ≡ P) × (B' ≡ B)

-- what a delete does, by its answer: the block of values stays as it is
pub record Deletes (answer : ℕ) (key : List ℕ) (P : Places) (B : List ℕ) (P' : Places)
    (B' : List ℕ) : Type 0 where
  pub removes : answer ≡ 0 → P' ≡ remove P key
  pub stays : answer ≢ 0 → P' ≡ P
  pub block : B' ≡ B
