-- What a listener keeps of a path that it follows to a slot.
use Rattle.std.specs.Prelude.{◌≡◌, ℕ, List, [], ◌∷◌, ◌++◌}
use Rattle.isa_model.specs.Code.Instructions.{Program}
use Rattle.stack_state.specs.declared.states.State.{State}
use Rattle.listeners.specs.declared.turns.Turns.{Turns}
use Rattle.walks.specs.Forgetting.{Precision}
use Rattle.explorer.specs.Listening.{ComesTo}
use Rattle.listeners.specs.Turns.{AreOn}

-- the states of a path, the last one first; each is a successor of the one before it on the path
abbrev pub IsWalk : Precision → Program → List State → Type 0
IsWalk how p [] = Unit {0}
IsWalk how p (s ∷ before) = ComesTo how p before s × IsWalk how p before

-- their slots, the first one first
abbrev pub slots_along : List State → List ℕ
slots_along [] = []
slots_along (s ∷ before) = slots_along before ++ s.slot ∷ []

-- the slots are those of the path, and of the states that came to one slot the last ones are kept
pub record HasFollowed (how : Precision) (image : Program) (slots : List ℕ) (slot : ℕ)
    (turns : Turns) (p : Program)
    (path : List State) (last : State) : Type 0 where
  pub program : image ≡ p
  pub walk : IsWalk how p path
  pub slots_are : slots ≡ slots_along path
  pub found : last.slot ≡ slot → turns.last ≡ last
  pub turns_are : AreOn path turns
