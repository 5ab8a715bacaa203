-- The code as a graph of slots, what is wanted there, and what is added to it.
use Rattle.std.specs.Prelude.{◌≡◌, ◌≢◌, ◌↔◌, ◌⊎◌, ℕ, zero, suc, ◌+◌, ◌<◌, ◌-◌, ◌^◌, Bool, true, false, List, length, sum_by, Option, Some, None, slice_get}
use Rattle.std.specs.Option.{option_and_then}
use Rattle.isa_model.specs.Code.Instructions.{Program}
use Rattle.control_flow.specs.declared.homes.HomeMask.{HomeMask}
use Rattle.control_flow.specs.declared.nodes.Node.{Node}
use Rattle.control_flow.specs.Graph.{fall_to, jump_to}
use Rattle.control_flow.specs.Masks.{HasHome, no_homes, mask_at}
use Rattle.control_flow.specs.Liveness.{Home, ReadsHome, WritesHome}
use Rattle.control_flow.specs.TestedNumbers.{TestsHome, MayReadAt, MayWriteAt}

-- ---- nodes

-- the successors of a slot
pub record HasEdges (p : Program) (slot : ℕ) (node : Node) : Type 0 where
  pub falls : node.falls_to ≡ fall_to p slot
  pub jumps : node.jumps_to ≡ jump_to p slot

-- a slot of which nothing but its successors is said
pub record IsBlankNode (p : Program) (slot : ℕ) (node : Node) : Type 0 where
  pub wants : node.wants ≡ no_homes
  pub writes : node.writes ≡ no_homes
  pub from : node.from ≡ no_homes
  pub into : node.into ≡ no_homes
  pub edges : HasEdges p slot node

-- wanted is what the instruction at a slot reads, and nothing is passed on
pub record ShowsReads (p : Program) (slot : ℕ) (node : Node) : Type 0 where
  pub wants : (h : Home) → HasHome node.wants h ↔ ReadsHome p h slot
  pub writes : (h : Home) → HasHome node.writes h ↔ WritesHome p h slot
  pub from : node.from ≡ no_homes
  pub edges : HasEdges p slot node

-- wanted is what it tests, and what it may read is passed on to what it may write
pub record ShowsTests (p : Program) (slot : ℕ) (node : Node) : Type 0 where
  pub wants : (h : Home) → HasHome node.wants h ↔ TestsHome p h slot
  pub writes : (h : Home) → HasHome node.writes h ↔ WritesHome p h slot
  pub from : (h : Home) → HasHome node.from h ↔ MayReadAt p h slot
  pub into : (h : Home) → HasHome node.into h ↔ MayWriteAt p h slot
  pub edges : HasEdges p slot node

-- the nodes of all slots
pub record AreNodes (Shows : ℕ → Node → Type 0) (p : Program) (nodes : List Node) : Type 0 where
  pub same : length nodes ≡ length p.insns
  pub each : (slot : ℕ) (node : Node) → slice_get nodes slot ≡ Some node → Shows slot node

-- ---- what is wanted

-- what is in h before the instruction may be in g after it
abbrev pub PassesOn : Node → Home → Home → Type 0
PassesOn node h g =
    ((g ≡ h) × (¬ HasHome node.writes h)) ⊎ (HasHome node.from h × HasHome node.into g)

-- a path of n edges goes from a slot to one that wants what is in the home, wherever it went until
-- then
abbrev pub IsWantedAfter : List Node → Home → ℕ → ℕ → Type 0
IsWantedAfter nodes h zero slot =
    (node : Node) × (slice_get nodes slot ≡ Some node) × HasHome node.wants h
IsWantedAfter nodes h (suc n) slot =
    (node : Node) × (slice_get nodes slot ≡ Some node) × (next : ℕ)
    × ((node.falls_to ≡ Some next) ⊎ (node.jumps_to ≡ Some next))
    × (g : Home) × PassesOn node h g × IsWantedAfter nodes g n next

abbrev pub IsWanted : List Node → Home → ℕ → Type 0
IsWanted nodes h slot = (n : ℕ) × IsWantedAfter nodes h n slot

-- ---- edges

-- where control goes from a slot
abbrev pub fall_from : List Node → ℕ → Option ℕ
fall_from nodes slot = option_and_then (λ (node : Node). node.falls_to) (slice_get nodes slot)

abbrev pub jump_from : List Node → ℕ → Option ℕ
jump_from nodes slot = option_and_then (λ (node : Node). node.jumps_to) (slice_get nodes slot)

-- control goes to a slot from another one
abbrev pub ComesFrom : List Node → ℕ → ℕ → Type 0
ComesFrom nodes to slot = (fall_from nodes slot ≡ Some to) ⊎ (jump_from nodes slot ≡ Some to)

-- control falls through to the next slot, or to the one after that
abbrev pub FallsNear : List Node → Type 0
FallsNear nodes = (slot to : ℕ) → fall_from nodes slot ≡ Some to → (slot + 1 ≡ to) ⊎ (slot + 2 ≡ to)

-- ---- what is wanted before an instruction

-- the mask of the slot to which control goes has it
abbrev pub HasBehind : List HomeMask → Option ℕ → Home → Type 0
HasBehind masks None r = ⊥
HasBehind masks (Some to) r = HasHome (mask_at masks to) r

-- the mask of a successor has it
abbrev pub IsWantedBehind : List HomeMask → Node → Home → Type 0
IsWantedBehind masks node h = HasBehind masks node.falls_to h ⊎ HasBehind masks node.jumps_to h

-- the instruction wants it, or passes it on to what is wanted after the instruction
abbrev pub IsWantedBefore : List HomeMask → Node → Home → Type 0
IsWantedBefore masks node h =
    HasHome node.wants h ⊎ ((g : Home) × PassesOn node h g × IsWantedBehind masks node g)

-- ---- what is added

-- the masks have nothing that is not wanted
abbrev pub AreSound : List Node → List HomeMask → Type 0
AreSound nodes masks =
    (h : Home) (slot : ℕ) → HasHome (mask_at masks slot) h → IsWanted nodes h slot

-- the mask of a slot has what is wanted before its instruction, by the masks of its successors
abbrev pub HasWantedBefore : List HomeMask → ℕ → Node → Type 0
HasWantedBefore masks slot node =
    (h : Home) → IsWantedBefore masks node h → HasHome (mask_at masks slot) h

-- the mask of each slot has what is wanted there, and nothing else
abbrev pub AreWantedMasks : List Node → List HomeMask → Type 0
AreWantedMasks nodes masks =
    (h : Home) (slot : ℕ) → HasHome (mask_at masks slot) h ↔ IsWanted nodes h slot

-- what may still be added
abbrev pub room_in : HomeMask → ℕ
room_in mask = (2 ^ 16 - mask.registers.bits) + (2 ^ 64 - mask.slots.bits)

abbrev pub room_left : List HomeMask → ℕ
room_left masks = sum_by room_in masks

-- the mask of a slot gets what is wanted before its instruction, and nothing that is not wanted
pub record AddsAt (nodes : List Node) (slot : ℕ) (old new : List HomeMask) (grown : Bool)
    : Type 0 where
  pub same : length new ≡ length old
  pub sound : AreSound nodes old → AreSound nodes new
  pub kept : (r : Home) → HasHome (mask_at old slot) r → HasHome (mask_at new slot) r
  pub added : (node : Node) → slice_get nodes slot ≡ Some node → (r : Home)
      → IsWantedBefore old node r → HasHome (mask_at new slot) r
  pub others : (k : ℕ) → k ≢ slot → mask_at new k ≡ mask_at old k
  pub still : grown ≡ false → new ≡ old
  pub less : grown ≡ true → room_left new < room_left old
