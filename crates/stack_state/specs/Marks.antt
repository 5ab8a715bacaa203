-- Which identities are used: a mark for each of the lowest ones, to find one that no kind uses.
use Rattle.std.specs.Prelude.{◌≡◌, ◌≢◌, ℕ, suc, ◌+◌, ◌<◌, ◌≤◌, ◌⊎◌, Bool, true, false, List, [], ◌∷◌, length, slice_index_or, Some}
use Rattle.reg_state.specs.declared.kinds.Kind.{Kind}
use Rattle.stack_state.specs.declared.identities.IdentitySort.{IdentitySort}
use Rattle.stack_state.specs.declared.slots.StackSlot.{StackSlot}
use Rattle.stack_state.specs.declared.states.AbstractFrame.{AbstractFrame}
use Rattle.stack_state.specs.Meaning.{no_frame, kind_at}
use Rattle.stack_state.specs.Identities.{named_by}
use Rattle.stack_state.specs.Slots.{slot_at, kind_in}

-- ---- what does not name an identity

-- no register and no slot of the call frame names the identity
pub record IsFreshIn (sort : IdentitySort) (f : AbstractFrame) (i : ℕ) : Type 0 where
  pub registers : (k : ℕ) → named_by sort (kind_at f.registers k) ≢ Some i
  pub slots : (k : ℕ) → named_by sort (kind_in (slot_at f.stack.slots k)) ≢ Some i

-- none of the first n registers, slots or call frames names the identity; `Free` says of each
-- which identities it does not name
abbrev pub AreFree : (ℕ → ℕ → Type 0) → ℕ → ℕ → Type 0
AreFree Free n i = (k : ℕ) → k < n → Free k i

-- register k does not name identity i
abbrev pub NamesOther : IdentitySort → List Kind → ℕ → ℕ → Type 0
NamesOther sort kinds k i = named_by sort (kind_at kinds k) ≢ Some i

-- slot k does not name identity i
abbrev pub HoldsOther : IdentitySort → List StackSlot → ℕ → ℕ → Type 0
HoldsOther sort slots k i = named_by sort (kind_in (slot_at slots k)) ≢ Some i

-- no place of call frame j names identity i
abbrev pub IsFreshAt : IdentitySort → List AbstractFrame → ℕ → ℕ → Type 0
IsFreshAt sort frames j i = IsFreshIn sort (slice_index_or frames j no_frame) i

-- ---- marks

-- identity i is marked
abbrev pub is_marked : List Bool → ℕ → Bool
is_marked marks i = slice_index_or marks i false

-- how many identities are marked
unfoldable pub marked : List Bool → ℕ
marked [] = 0
marked (true ∷ marks) = suc (marked marks)
marked (false ∷ marks) = marked marks

-- at most n more marks: a marked identity was marked before or is used, an unmarked one was not
-- marked and is free
pub record Marks (IsFree : ℕ → Type 0) (n : ℕ) (old new : List Bool) : Type 0 where
  pub named : (i : ℕ) → is_marked new i ≡ true → (is_marked old i ≡ true) ⊎ (¬ IsFree i)
  pub free : (i : ℕ) → i < length new → is_marked new i ≡ false → (is_marked old i ≡ false)
      × IsFree i
  pub few : marked new ≤ marked old + n
  pub long : length new ≡ length old
