-- The counterparts of identities: the name that a covered state has at the first place where the
-- covering state uses an identity.
use Rattle.std.specs.Prelude.{ℕ, List, [], ◌∷◌, ◌++◌, map, Bool, false, Option, Some, None, nat_eq, unwrap_or, if◌then◌else◌}
use Rattle.std.specs.List.{find, zip}
use Rattle.reg_state.specs.declared.kinds.Kind.{Kind}
use Rattle.reg_state.specs.KindCover.{packet_identity_of, null_identity_of}
use Rattle.stack_state.specs.declared.slots.StackSlot.{StackSlot}
use Rattle.stack_state.specs.declared.states.AbstractFrame.{AbstractFrame}
use Rattle.stack_state.specs.declared.states.State.{State}
use Rattle.stack_state.specs.Meaning.{frames_of}
use Rattle.stack_state.specs.Slots.{kind_in}
use Rattle.state_cover.specs.declared.names.NameSort.{NameSort}
use Rattle.state_cover.specs.declared.names.NameSort.TheVariants.{Packet, Null}

abbrev pub identity_of : NameSort → Kind → Option ℕ
identity_of Packet k = packet_identity_of k
identity_of Null k = null_identity_of k

-- whether there is an identity, and it is i
abbrev pub is_identity : Option ℕ → ℕ → Bool
is_identity None i = false
is_identity (Some j) i = nat_eq j i

abbrev pub is_named : NameSort → ℕ → Kind → Bool
is_named sort i k = is_identity (identity_of sort k) i

-- the kinds of spilled values, slot by slot
abbrev pub spilled_kinds : List StackSlot → List Kind
spilled_kinds slots = map kind_in slots

-- the kinds of two call frames in pairs, a pair for each place: registers, then slots
abbrev pub frame_places : AbstractFrame → AbstractFrame → List (Kind × Kind)
frame_places f g =
    zip f.registers g.registers ++ zip (spilled_kinds f.stack.slots) (spilled_kinds g.stack.slots)

-- the same of two lists of frames
abbrev pub places : List AbstractFrame → List AbstractFrame → List (Kind × Kind)
places [] gs = []
places (f ∷ fs) [] = []
places (f ∷ fs) (g ∷ gs) = frame_places f g ++ places fs gs

-- the kinds at the first place whose first kind has the identity
abbrev pub first_named : NameSort → ℕ → List (Kind × Kind) → Option (Kind × Kind)
first_named sort i ps = find (λ pair. is_named sort i pair.0) ps

-- the counterpart of an identity, or the identity itself if there is none
abbrev pub name_at : NameSort → ℕ → Option (Kind × Kind) → ℕ
name_at sort i None = i
name_at sort i (Some pair) = unwrap_or (identity_of sort pair.1) i

unfoldable pub name_of : NameSort → State → State → ℕ → ℕ
name_of sort a b i = name_at sort i (first_named sort i (places (frames_of a) (frames_of b)))

-- packet identity 0 is none, in every state
abbrev pub packet_name : State → State → ℕ → ℕ
packet_name a b i = if nat_eq i 0 then 0 else name_of Packet a b i

abbrev pub null_name : State → State → ℕ → ℕ
null_name a b i = name_of Null a b i
