-- The pending states, of which the last ones are kept by what they change.
use Rattle.std.specs.Prelude.{List, [], ◌∷◌, take, drop, reverse}
use Rattle.reg_state.specs.declared.kinds.Kind.{Kind}
use Rattle.stack_state.specs.declared.states.AbstractFrame.{AbstractFrame}
use Rattle.stack_state.specs.declared.states.State.{State}
use Rattle.state_index.specs.declared.parts.Part.{Part}
use Rattle.state_index.specs.Parts.{all_written}
use Rattle.kept_states.specs.declared.changing.ChangedState.{ChangedState}
use Rattle.kept_states.specs.declared.changing.PendingState.{PendingState}
use Rattle.kept_states.specs.declared.changing.PendingState.TheVariants.{Whole, Changed}
use Rattle.kept_states.specs.declared.changing.Changing.{Changing}
use Rattle.kept_states.specs.Around.{state_around}
use Rattle.kept_states.specs.Changes.{changes_of}
use Rattle.kept_states.specs.HeldPlaces.{seen}

-- what contracts see of pending states
pub record States : Type 0 where
  pub items : List State

abbrev pub changed_state : Kind → ChangedState → AbstractFrame → State
changed_state any s f = state_around s.around (seen s.places s.return_slot any f)

-- the states, the last one first; f is the call frame after all changes, and `parts` what was there
-- before each of them
unfoldable pub states_from : Kind → List PendingState → List Part → AbstractFrame → List State
states_from any [] parts f = []
states_from any (Whole s ∷ states) parts f = s.value ∷ states_from any states parts f
states_from any (Changed s ∷ states) parts f =
    changed_state any s f
    ∷ states_from any states (drop s.count parts) (all_written f (take s.count parts))

-- the states, the last one first
abbrev pub states_below : Changing → List PendingState → List State
states_below c states = states_from c.any states (changes_of c.changed) c.changed.frame

abbrev pub pending_states : Changing → List PendingState → List State
pending_states c states = reverse (states_below c (reverse states))
