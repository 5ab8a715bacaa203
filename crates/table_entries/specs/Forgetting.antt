-- Call frames of which some is forgotten.
use Rattle.std.specs.Prelude.{◌≡◌, ℕ, ◌⊎◌, List, get_or}
use Rattle.reg_state.specs.declared.kinds.Kind.TheVariants.{Unset}
use Rattle.stack_state.specs.declared.slots.StackSlot.TheVariants.{Written}
use Rattle.stack_state.specs.declared.states.AbstractFrame.{AbstractFrame}

-- each element is as it was, or is d
abbrev pub IsWeakerList : {X : Type 0} → X → List X → List X → Type 0
IsWeakerList d xs ys = (k : ℕ) → (get_or ys k d ≡ get_or xs k d) ⊎ (get_or ys k d ≡ d)

-- each register is as it was, or is unset; each stack slot is as it was, or nothing is known of it
pub record IsWeakerFrame (f g : AbstractFrame) : Type 0 where
  pub returns : g.return_slot ≡ f.return_slot
  pub registers : IsWeakerList Unset f.registers g.registers
  pub slots : IsWeakerList (Written 0) f.stack.slots g.stack.slots
