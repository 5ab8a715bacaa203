-- Registers that are known to be set are set, so that a machine state passes the tests that its
-- abstract state passes.
use Rattle.transfer.proofs.Common.{◌≡◌, ℕ, Bool, false, List, [], ◌∷◌, Option, Some, None, ap, refl, list_any, or_parts, Reg, Insn, Value, Program, reads, writes, is_frame_pointer, reg, act, is_unset, performed, Kind, Assigned, Allows, AllowsOrNull, State, MeansBy, kind_of, reg_allowed}
use Rattle.isa_model.specs.Machine.States as Machine
use Rattle.reg_state.specs.declared.kinds.Kind.TheVariants as kind
use Rattle.transfer.specs.Refusing.{is_unset as is_unset_kind, is_unset_in}

-- what was looked up is set, null or not
or_null_is_set : (e : Assigned) (m : ℕ) (o : Option ℕ) (v : Value) → AllowsOrNull e m o v
    → is_unset v ≡ false
or_null_is_set e m None v h = ap is_unset h
or_null_is_set e m (Some n) v h = ap is_unset h.0

-- a register that is known to be set is set
set_is_set : (e : Assigned) (k : Kind) (v : Value) → is_unset_kind k ≡ false → Allows e k v
    → is_unset v ≡ false
set_is_set e kind.Unset v known allowed = absurd (cc)
set_is_set e (kind.Number numbers) v known allowed = ap is_unset allowed.1
set_is_set e kind.Context v known allowed = ap is_unset allowed
set_is_set e (kind.Stack frame offset) v known allowed = ap is_unset allowed.2
set_is_set e (kind.Packet fixed identity least greatest proved) v known allowed =
    ap is_unset allowed.points
set_is_set e kind.PacketEnd v known allowed = ap is_unset allowed
set_is_set e (kind.Map index) v known allowed = ap is_unset allowed
set_is_set e (kind.MapValue index least greatest) v known allowed = ap is_unset allowed.points
set_is_set e (kind.MapValueOrNull index identity) v known allowed =
    or_null_is_set e index (e.map_value identity) v allowed

abbrev pub unset_in : Machine.State → Reg → Bool
unset_in s r = is_unset (reg s r)

-- registers that are all known to be set are set
pub none_unset : (p : Program) (e : Assigned) (a : State) (s : Machine.State) → MeansBy p e a s
    → (rs : List Reg) → list_any (is_unset_in a) rs ≡ false → list_any (unset_in s) rs ≡ false
none_unset p e a s m [] h = refl
none_unset p e a s m (r ∷ rs) h =
    let (first, rest) = or_parts (is_unset_in a r) (list_any (is_unset_in a) rs) h in
    let here : unset_in s r ≡ false =
    set_is_set e (kind_of a r) (reg s r) first (reg_allowed p e a s m r) in
    rw here (none_unset p e a s m rs rest)

-- the tests of the registers pass, and the instruction acts
pub performed_acts : (p : Program) (clock : ℕ → ℕ) (s : Machine.State) (i : Insn)
    → list_any (unset_in s) (reads i) ≡ false
    → is_frame_pointer (writes i) ≡ false → performed p clock s i ≡ act p clock s i
performed_acts p clock s i set own = rw (set, own) refl
