-- A call frame that changes part by part.
use Rattle.std.specs.Prelude.{◌≡◌, ℕ, List, [], ◌∷◌, take, drop, reverse}
use Rattle.stack_state.specs.declared.states.AbstractFrame.{AbstractFrame}
use Rattle.state_index.specs.declared.parts.Part.{Part}
use Rattle.state_index.specs.Parts.{with_part, all_written}
use Rattle.kept_states.specs.declared.part_changes.Change.{Change}
use Rattle.kept_states.specs.declared.changes.ChangedFrame.{ChangedFrame}
use Rattle.kept_states.specs.EarlierParts.{PartStacks, earlier_part, parts_left}

-- what the parts of a frame were before each of the changes, the last one first
unfoldable pub earlier_parts : AbstractFrame → List Change → PartStacks → List Part
earlier_parts f [] s = []
earlier_parts f (c ∷ cs) s =
    earlier_part c s f
    ∷ earlier_parts (with_part f (earlier_part c s f)) cs (parts_left c s f)

-- what its parts were before each change, the last change first
abbrev pub changes_of : ChangedFrame → List Part
changes_of c = earlier_parts c.frame (reverse c.changes.items) c.earlier

-- n changes made the second frame of the first one
pub record IsChanged (n : ℕ) (old new : ChangedFrame) : Type 0 where
  pub frame : all_written new.frame (take n (changes_of new)) ≡ old.frame
  pub changes : drop n (changes_of new) ≡ changes_of old
