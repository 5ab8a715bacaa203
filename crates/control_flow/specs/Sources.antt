-- The jumps of a graph of slots by their targets: for each target a chain of slots, the highest
-- first.
use Rattle.std.specs.Prelude.{◌≡◌, ℕ, ◌<◌, List, length, slice_index_or, Option, Some, None}
use Rattle.control_flow.specs.declared.nodes.Node.{Node}
use Rattle.control_flow.specs.Nodes.{jump_from}

-- the greatest number below n that passes, if one does
abbrev pub IsLastBelow : (ℕ → Type 0) → ℕ → Option ℕ → Type 0
IsLastBelow Passes n None = (k : ℕ) → k < n → ¬ Passes k
IsLastBelow Passes n (Some last) =
    (last < n) × Passes last × ((k : ℕ) → last < k → k < n → ¬ Passes k)

-- a jump goes from one slot to another
abbrev pub HasJump : List Node → ℕ → ℕ → Type 0
HasJump nodes to slot = jump_from nodes slot ≡ Some to

-- the last jump to each slot, and for each jump the last one below it to the same slot
pub record AreSources (nodes : List Node) (latest earlier : List (Option ℕ)) : Type 0 where
  pub as_many : length latest ≡ length nodes
  pub as_many_earlier : length earlier ≡ length nodes
  pub last : (to : ℕ) → to < length nodes
      → IsLastBelow (HasJump nodes to) (length nodes) (slice_index_or latest to None)
  pub before : (slot to : ℕ) → HasJump nodes to slot
      → IsLastBelow (HasJump nodes to) slot (slice_index_or earlier slot None)
