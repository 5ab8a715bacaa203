-- The functions of a program. Each ends before the next one begins.
use Rattle.std.specs.Prelude.{◌≡◌, ℕ, ◌<◌, ◌≤◌, ◌↔◌, ◌⊎◌, Bool, false, IsTrue, List, length, slice_index, slice_index_or, Some}
use Rattle.isa_model.specs.Code.Instructions.{Program}
use Rattle.control_flow.specs.Graph.{call_to}

-- a function begins at slot 0 and at the target of each call
abbrev pub BeginsFunction : Program → ℕ → Type 0
BeginsFunction p slot = (slot ≡ 0) ⊎ ((from : ℕ) × (call_to p from ≡ Some slot))

-- no function begins between the two slots
pub record SameFunction (p : Program) (slot to : ℕ) : Type 0 where
  pub none : (f : ℕ) → BeginsFunction p f → (f ≤ slot) ↔ (f ≤ to)

-- after the last instruction of a function: the code ends there or another function begins
abbrev pub EndsFunction : Program → ℕ → Type 0
EndsFunction p slot = (length p.insns ≤ slot) ⊎ BeginsFunction p slot

-- ---- what the tests of functions compute

-- the slots of the code at which functions begin are marked
pub record MarksFunctions (p : Program) (marks : List Bool) : Type 0 where
  pub same : length marks ≡ length p.insns
  pub each : (slot : ℕ) → slot < length p.insns → IsTrue (slice_index_or marks slot false)
      ↔ BeginsFunction p slot

-- the function of a slot begins at f
pub record IsFunctionOf (p : Program) (slot f : ℕ) : Type 0 where
  pub begins : BeginsFunction p f
  pub before : f ≤ slot
  pub last : (g : ℕ) → BeginsFunction p g → g ≤ slot → g ≤ f

-- for each slot the one at which its function begins
pub record HasFunctions (p : Program) (functions : List ℕ) : Type 0 where
  pub same : length functions ≡ length p.insns
  pub each : (slot : ℕ) → slot < length p.insns → IsFunctionOf p slot (slice_index functions slot)
