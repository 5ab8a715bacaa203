-- The slots of an abstract state's successors, and the slots to which their call frames return.
use Rattle.std.specs.Prelude.{◌≡◌, ℕ, ◌+◌, ◌⊎◌, ℤ, List, [], ◌∷◌, ◌++◌, map, Some}
use Rattle.isa_model.specs.declared.instructions.Insn.TheVariants.{CallLocal, Exit}
use Rattle.isa_model.specs.Code.Instructions.{Program, fetch}
use Rattle.isa_model.specs.Machine.Steps.{destination}
use Rattle.isa_model.specs.Machine.Successors.{Follows}
use Rattle.stack_state.specs.declared.states.State.{State}
use Rattle.stack_state.specs.Meaning.{frames_of}

-- the slots to which the live frames return, the outermost first
abbrev pub returns_of : State → List ℕ
returns_of a = map (λ f. f.return_slot) (frames_of a)

-- within the function
pub record StaysIn (p : Program) (a b : State) : Type 0 where
  pub follows : Follows p a.slot b.slot
  pub returns : returns_of b ≡ returns_of a

-- to the function that is called, which returns to the slot after the call
pub record CallsFrom (p : Program) (a b : State) : Type 0 where
  pub by : ℤ
  pub here : fetch p a.slot ≡ Some (CallLocal by)
  pub target : b.slot ≡ destination p a.slot by
  pub returns : returns_of b ≡ returns_of a ++ (a.slot + 1) ∷ []

-- to the slot to which the innermost frame returns
pub record ReturnsFrom (p : Program) (a b : State) : Type 0 where
  pub here : fetch p a.slot ≡ Some Exit
  pub returns : returns_of a ≡ returns_of b ++ b.slot ∷ []

abbrev pub GoesOnTo : Program → State → State → Type 0
GoesOnTo p a b = StaysIn p a b ⊎ (CallsFrom p a b ⊎ ReturnsFrom p a b)
