-- Identities that no kind of a state uses.
use Rattle.std.specs.Prelude.{◌≢◌, ℕ, ◌<◌, Option, Some}
use Rattle.reg_state.specs.declared.kinds.Kind.{Kind}
use Rattle.reg_state.specs.KindCover.{packet_identity_of, null_identity_of}
use Rattle.stack_state.specs.declared.identities.IdentitySort.{IdentitySort}
use Rattle.stack_state.specs.declared.identities.IdentitySort.TheVariants.{Packets, Nulls}
use Rattle.stack_state.specs.declared.states.State.{State}
use Rattle.stack_state.specs.Meaning.{kind_at, kinds_of, stack_slots_of}
use Rattle.stack_state.specs.Slots.{slot_at, kind_in}

-- the identity of a sort that a kind names
abbrev pub named_by : IdentitySort → Kind → Option ℕ
named_by Packets k = packet_identity_of k
named_by Nulls k = null_identity_of k

-- no register and no slot of any call frame names the identity
pub record IsFresh (sort : IdentitySort) (a : State) (i : ℕ) : Type 0 where
  pub registers : (j k : ℕ) → named_by sort (kind_at (kinds_of a j) k) ≢ Some i
  pub slots : (j k : ℕ) → named_by sort (kind_in (slot_at (stack_slots_of a j) k)) ≢ Some i

-- the least identity from 1 up that no register and no slot names
pub record IsLeastFresh (sort : IdentitySort) (a : State) (i : ℕ) : Type 0 where
  pub some : 0 < i
  pub fresh : IsFresh sort a i
  pub least : (j : ℕ) → 0 < j → j < i → ¬ IsFresh sort a j

-- packet identities
abbrev pub IsFreshPacket : State → ℕ → Type 0
IsFreshPacket = IsFresh Packets

abbrev pub IsLeastFreshPacket : State → ℕ → Type 0
IsLeastFreshPacket = IsLeastFresh Packets

-- null identities
abbrev pub IsFreshNull : State → ℕ → Type 0
IsFreshNull = IsFresh Nulls

abbrev pub IsLeastFreshNull : State → ℕ → Type 0
IsLeastFreshNull = IsLeastFresh Nulls
