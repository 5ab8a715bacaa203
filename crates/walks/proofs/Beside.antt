-- An abstract state beside the machine state of a run: its numbers are known.
use Rattle.walks.proofs.Common.{◌≡◌, ◌<◌, ◌*◌, ℕ, arith, Some, Ok, Bool, true, false, length, set, refl, sym, ap, ◌∙◌, subst, inl, inr, ◌⊎◌, ◌≢◌, ◌^◌, frame_slots, U64, Low32, Full64, Reg, R1, R10, AluOp, Mov, Operand, Constant, Register, Place, Insn, Alu, Neg, MovSx, ByteSwap, LoadNumber, Load, StoreConstant, Store, Jump, JumpLong, JumpIf, CallHelper, CallLocal, Exit, Value, alu, low, unsigned, negated, sign_extended, reordered, Program, fetch, operand_reads, alu_reads, reads, writes, reg, set_reg, value_at, new_call_frame, Trapped, is_unset, operand_value, sets, act, start_state, Reaches, Each, IsOneOf, stack_slot_place, IsStackSlotPlace, IsDeterminedForm, operands, WritesIn, IsDetermined, no_trap, is_set, step_unset, HasKnownStackSlots, load_acts, Kind, Scalar, State, depth, registers_of, kind_of, IsJust, OfNumber, NumberAnd, Combined, Copied, Arithmetic, OperandKind, ResultKind, Home, InRegister, InSlot, IsLive, IsHomeLive, ReadsSlot, IsLive-read}
use Rattle.std.specs.List.{list_any}
use Rattle.isa_model.specs.declared.sizes.Width.{Width}
use Rattle.isa_model.specs.declared.values.Value.TheVariants.{Unset, Num, Ptr}
use Rattle.isa_model.specs.declared.ends.TrapReason.{TrapReason}
use Rattle.isa_model.specs.Code.NumberLaws.{low_same}
use Rattle.isa_model.specs.Machine.States as Machine
use Rattle.isa_model.specs.Machine.Pointers.{arithmetic, on_number}
use Rattle.reg_state.specs.declared.kinds.Kind.TheVariants as kind
use Rattle.reg_state.specs.Scalars.{Has, IsConstant}
use Rattle.reg_state.specs.Arithmetic.{IsAlu, IsNegated, IsSignExtended, IsReordered}
use Rattle.walks.proofs.Accepted.{Each-all, Each-one}
use Rattle.walks.proofs.Living.{CallsNothing, read_needed}
use Rattle.walks.proofs.StackSlots.{SlotHolds, load_just}

-- ---- an abstract state beside the machine state of the run

-- a number is there as a constant
abbrev pub Mirrored : Value → Kind → Type 0
Mirrored (Num x) k = IsJust k x
Mirrored v k = Unit {0}

abbrev pub IsNoPointer : Value → Type 0
IsNoPointer (Ptr r z) = ⊥
IsNoPointer v = Unit {0}

-- stack slot j holds this number, if it is one of these homes
abbrev pub HoldsIf : (Home → Type 0) → State → ℕ → ℕ → Type 0
HoldsIf alive s j y = alive (InSlot j) → SlotHolds s j y

-- the named registers and stack slots hold their numbers
pub record Mirrors (alive : Home → Type 0) (s : State) (t : Machine.State) : Type 0 where
  pub slot : t.slot ≡ s.slot
  pub one : depth s ≡ 1
  pub room : length (registers_of s) ≡ 10
  pub wide : length t.regs ≡ 11
  pub regs : (r : Reg) → r ≢ R10 → alive (InRegister r) → Mirrored (reg t r) (kind_of s r)
  pub all_slots : length s.innermost.stack.slots ≡ frame_slots
  pub stack : HasKnownStackSlots (HoldsIf alive s) t

abbrev pub first : (p : Program) (steps : ℕ) → IsDetermined p steps → Machine.State
first p steps d = start_state d.run.head d.run.packet d.run.contents

-- the run reaches the machine state after k steps; no register but r1, until it is written, and r10
-- holds a pointer
pub record Along (p : Program) (steps : ℕ) (d : IsDetermined p steps) (k : ℕ) (s : State)
    (t : Machine.State) : Type 0 where
  pub reached : Reaches p d.run.clock (first p steps d) k t
  pub mirrors : Mirrors (λ h. IsHomeLive p h s.slot) s t
  pub numbers : (r : Reg) → r ≢ R10
      → IsNoPointer (reg t r) ⊎ ((r ≡ R1) × (WritesIn p d.run.clock (first p steps d) k R1 → ⊥))

-- ---- what an instruction reads

-- the register holds a number, and it is known
abbrev pub KnowsRegister : State → Machine.State → Reg → Type 0
KnowsRegister s t r = (x : ℕ) × (reg t r ≡ Num x) × IsJust (kind_of s r) x

read_value : (s : State) (t : Machine.State) (r : Reg) (v : Value) → reg t r ≡ v
    → is_unset v ≡ false → IsNoPointer v → Mirrored v (kind_of s r) → KnowsRegister s t r
read_value s t r Unset is set free mirrored = absurd (cc)
read_value s t r (Num x) is set free mirrored = (x, is, mirrored)
read_value s t r (Ptr region z) is set free mirrored = absurd free

-- the registers that the run reads are set
pub none_unset : (p : Program) (steps : ℕ) (d : IsDetermined p steps) (k : ℕ) (s : State)
    (t : Machine.State) (i : Insn)
    → Along p steps d k s t → fetch p t.slot ≡ Some i
    → list_any (λ r. is_unset (reg t r)) (reads i) ≡ false
none_unset p steps d k s t i along here =
    of (list_any (λ r. is_unset (reg t r)) (reads i)) refl where
      of : (b : Bool) → list_any (λ r. is_unset (reg t r)) (reads i) ≡ b
          → list_any (λ r. is_unset (reg t r)) (reads i) ≡ false
      of false is = is
      of true is =
          let trap = step_unset p d.run.clock t i here is in
          absurd (no_trap p d.run.clock
          (first p steps d) steps d.run.number k t trap.0 d.run.runs along.reached trap.1)

pub determined_calls : (i : Insn) → IsDeterminedForm i → CallsNothing i
determined_calls (CallHelper number) form = absurd form
determined_calls (CallLocal by) form = absurd form
determined_calls i form = tt

-- what is read is live
read_live : (p : Program) (steps : ℕ) (d : IsDetermined p steps) (k : ℕ) (s : State)
    (t : Machine.State) (i : Insn) (r : Reg)
    → Along p steps d k s t → fetch p t.slot ≡ Some i → IsOneOf (reads i) r → IsLive p r s.slot
read_live p steps d k s t i r along here among =
    let there : fetch p s.slot ≡ Some i = ap (fetch p) (sym along.mirrors.slot) ∙ here in
    IsLive-read p r s.slot i there
    (read_needed i (determined_calls i (d.forms t.slot i here)) r among)

-- and what the operands of an instruction hold are numbers
operand_read : (i : Insn) (r : Reg) → IsOneOf (operands i) r → IsOneOf (reads i) r
operand_read (Load size d place) r among = absurd among
operand_read (Store size place q) r among = inr among
operand_read (StoreConstant size place k) r among = absurd among
operand_read i r among = among

pub read_numbers : (p : Program) (steps : ℕ) (d : IsDetermined p steps) (k : ℕ) (s : State)
    (t : Machine.State) (i : Insn)
    → Along p steps d k s t → fetch p t.slot ≡ Some i → Each (KnowsRegister s t) (operands i)
read_numbers p steps d k s t i along here =
    let set = none_unset p steps d k s t i along here in
    Each-all (KnowsRegister s t) (operands i) (λ r among.
    let own = Each-one (λ r. r ≢ R10) (operands i) r (d.unnamed t.slot i here) among in
    let read = operand_read i r among in
    let free : IsNoPointer (reg t r) = elim (along.numbers r own) [
      | inl is ↦ is
      | inr argument ↦
          absurd (argument.1
          (d.run.argument k t i along.reached here (subst (IsOneOf (reads i)) argument.0 read)))
    ] in
    read_value s t r (reg t r) refl (is_set (reads i) (λ q. is_unset (reg t q)) r set read) free
    (along.mirrors.regs r own (read_live p steps d k s t i r along here read)))

-- ---- what an instruction on numbers computes

-- the relation allows what is computed, and a constant leads to a constant
record ComputesConstants (says : Scalar → Scalar → Type 0) (f : ℕ → ℕ) : Type 0 where
  contains : (a c : Scalar) → says a c → (x : ℕ) → Has a x → Has c (f x)
  exact : (a c : Scalar) → says a c → (x : ℕ) → IsConstant a x → IsConstant c (f x)

just_one : (says : Scalar → Scalar → Type 0) (f : ℕ → ℕ) (a k : Kind) (x : ℕ)
    → ComputesConstants says f → OfNumber says a (Ok k) → IsJust a x → IsJust k (f x)
just_one says f (kind.Number a) (kind.Number c) x computes h just =
    (computes.contains a c h x just.0, computes.exact a c h x just.1)
just_one says f (kind.Number a) k x computes h just = absurd h
just_one says f a k x computes h just = absurd just

just_is : (k : Kind) (x : ℕ) → IsJust k x
    → (c : Scalar) × (k ≡ kind.Number c) × Has c x × IsConstant c x
just_is (kind.Number c) x just = (c, refl, just.0, just.1)
just_is k x just = absurd just

pub just_below : (k : Kind) (x : ℕ) → IsJust k x → x < 2 ^ 64
just_below (kind.Number c) x just = just.0.0.below
just_below k x just = absurd just

just_and : (s : State) (op : AluOp) (w : Width) (a b : Scalar) (k : Kind) (x y : ℕ)
    → NumberAnd s op w a (kind.Number b) (Ok k) → Has a x → IsConstant a x → Has b y
    → IsConstant b y → IsJust k (alu op w x y)
just_and s op w a b (kind.Number c) x y h in_a is_a in_b is_b =
    (h.contains x y in_a in_b, h.exact x y is_a is_b)
just_and s op w a b k x y h in_a is_a in_b is_b = absurd h

just_both : (s : State) (op : AluOp) (w : Width) (a b k : Kind) (x y : ℕ)
    → Combined s op w a b (Ok k) → IsJust a x → IsJust b y → IsJust k (alu op w x y)
just_both s op w a b k x y h left right =
    let (c, is, in_c, is_c) = just_is a x left in
    let (e, is_e, in_e, just_e) = just_is b y right in
    just_and s op w c e k x y (rw (is, is_e) at h) in_c is_c in_e just_e

just_low : (b k : Kind) (y : ℕ) → OfNumber (λ a c. IsAlu Mov Low32 a a c) b (Ok k) → IsJust b y
    → IsJust k (low Low32 y)
unfolding alu
just_low b k y h just =
    just_one (λ a c. IsAlu Mov Low32 a a c) (low Low32) b k y
    (record {
      contains = λ a c fact x has. fact.contains x x has has;
      exact = λ a c fact x is. fact.exact x x is is;
    }) h just

just_copied : (w : Width) (b k : Kind) (y : ℕ) → Copied w b (Ok k) → IsJust b y → IsJust k (low w y)
just_copied Full64 b k y h just =
    let same = low_same Full64 y (just_below b y just) in
    let is : k ≡ b = cc h in
    rw (is, same) just
just_copied Low32 b k y h just = just_low b k y h just

just_operand : (s : State) (t : Machine.State) (w : Width) (source : Operand) (b : Kind)
    → Each (KnowsRegister s t) (operand_reads source) → OperandKind s w source b
    → (y : ℕ) × (operand_value t w source ≡ Num y) × IsJust b y
just_operand s t w (Constant k) b set h = (unsigned w k, refl, h)
just_operand s t w (Register r) b set h =
    (set.0.0, set.0.1, subst (λ x. IsJust x set.0.0) (sym h) set.0.2)

alu_computed : (s : State) (t : Machine.State) (w : Width) (op : AluOp) (x : Reg) (source : Operand)
    (b k : Kind)
    → Each (KnowsRegister s t) (alu_reads op x source) → OperandKind s w source b
    → Arithmetic s op w (kind_of s x) b (Ok k)
    → (n : ℕ) × (arithmetic op w (reg t x) (operand_value t w source) ≡ Ok (Num n)) × IsJust k n
alu_computed s t w Mov x source b k set operand h =
    let (y, is, just) = just_operand s t w source b set operand in
    (low w y, rw is refl, just_copied w b k y h just)
alu_computed s t w op x source b k set operand h =
    let (y, is, just) = just_operand s t w source b set.1 operand in
    let (n, there, own) = set.0 in
    (alu op w n y, rw (there, is) refl, just_both s op w (kind_of s x) b k n y h own just)

-- a form that sets a register puts the number into it, and the kind is that constant
pub record Computed (p : Program) (clock : ℕ → ℕ) (t : Machine.State) (i : Insn) (d : Reg)
    (k : Kind) : Type 0 where
  pub number : ℕ
  pub acts : act p clock t i ≡ sets t i d (Ok (Num number))
  pub just : IsJust k number

-- a load from the place of a stack slot reads it
pub within_place : (d : Reg) (place : Place) (j : ℕ) → j < 64 → place ≡ stack_slot_place j
    → ReadsSlot (Load U64 d place) j
within_place d place j below is = (
  8 * j,
  (omega arith, ap (λ (q : Place). q.base) is, ap (λ (q : Place). q.offset) is),
  omega arith,
  omega arith,
)

-- 8 bytes that a run loads from a stack slot
load_computed : (alive : Home → Type 0) (p : Program) (clock : ℕ → ℕ) (s : State)
    (t : Machine.State) (d : Reg) (k : Kind) (place : Place)
    → HasKnownStackSlots (HoldsIf alive s) t
    → ((j : ℕ) → ReadsSlot (Load U64 d place) j → alive (InSlot j)) → IsStackSlotPlace place
    → ((e : TrapReason) → act p clock t (Load U64 d place) ≡ Trapped e → ⊥)
    → ResultKind p.maps s (Load U64 d place) (Ok k) → Computed p clock t (Load U64 d place) d k
load_computed alive p clock s t d k place stack read (j, below, is) goes h =
    of place is goes h where
      there : ((e : TrapReason) → act p clock t (Load U64 d (stack_slot_place j)) ≡ Trapped e → ⊥)
          → ResultKind p.maps s (Load U64 d (stack_slot_place j)) (Ok k)
          → Computed p clock t (Load U64 d (stack_slot_place j)) d k
      there goes h =
          let (y, held, acts) = load_acts (HoldsIf alive s) p clock t d j stack below goes in
          record {
            number = y;
            acts = acts;
            just = load_just s j y k (held (read j (within_place d place j below is))) h;
          }

      of : (place : Place) → place ≡ stack_slot_place j
          → ((e : TrapReason) → act p clock t (Load U64 d place) ≡ Trapped e → ⊥)
          → ResultKind p.maps s (Load U64 d place) (Ok k)
          → Computed p clock t (Load U64 d place) d k
      of place is =
          subst (λ q. ((e : TrapReason) → act p clock t (Load U64 d q) ≡ Trapped e → ⊥)
          → ResultKind p.maps s (Load U64 d q) (Ok k) → Computed p clock t (Load U64 d q) d k)
          (sym is) there

pub computed : (alive : Home → Type 0) (p : Program) (clock : ℕ → ℕ) (s : State) (t : Machine.State)
    (i : Insn) (d : Reg) (k : Kind)
    → IsDeterminedForm i → Each (KnowsRegister s t) (operands i)
    → HasKnownStackSlots (HoldsIf alive s) t
    → ((j : ℕ) → ReadsSlot i j → alive (InSlot j))
    → ((e : TrapReason) → act p clock t i ≡ Trapped e → ⊥) → writes i ≡ Some d
    → ResultKind p.maps s i (Ok k) → Computed p clock t i d k
unfolding act
computed alive p clock s t (Alu w op x source) d k form set stack read traps written h =
    let same : x ≡ d = cc in
    let (b, operand, gives) = h in
    let (n, is, just) = alu_computed s t w op x source b k set operand gives in
    record {
      number = n;
      acts = ap (λ r. sets t (Alu w op x source) x r) is
          ∙ ap (λ y. sets t (Alu w op x source) y (Ok (Num n))) same;
      just = just;
    }
computed alive p clock s t (Neg w x) d k form set stack read traps written h =
    let same : x ≡ d = cc in
    let (n, there, own) = set.0 in
    record {
      number = negated w n;
      acts = ap (λ v. sets t (Neg w x) x (on_number (negated w) v)) there
          ∙ ap (λ y. sets t (Neg w x) y (Ok (Num (negated w n)))) same;
      just = just_one (IsNegated w) (negated w) (kind_of s x) k n
          (record { contains = λ a c fact. fact.contains; exact = λ a c fact. fact.exact }) h own;
    }
computed alive p clock s t (MovSx by x r) d k form set stack read traps written h =
    let same : x ≡ d = cc in
    let (n, there, own) = set.0 in
    record {
      number = sign_extended by n;
      acts = ap (λ v. sets t (MovSx by x r) x (on_number (sign_extended by) v)) there
          ∙ ap (λ y. sets t (MovSx by x r) y (Ok (Num (sign_extended by n)))) same;
      just = just_one (IsSignExtended by) (sign_extended by) (kind_of s r) k n
          (record { contains = λ a c fact. fact.contains; exact = λ a c fact. fact.exact }) h own;
    }
computed alive p clock s t (ByteSwap order span x) d k form set stack read traps written h =
    let same : x ≡ d = cc in
    let (n, there, own) = set.0 in
    record {
      number = reordered order span n;
      acts = ap (λ v. sets t (ByteSwap order span x) x (on_number (reordered order span) v)) there
          ∙ ap (λ y. sets t (ByteSwap order span x) y (Ok (Num (reordered order span n)))) same;
      just = just_one (IsReordered order span) (reordered order span) (kind_of s x) k n
          (record { contains = λ a c fact. fact.contains; exact = λ a c fact. fact.exact }) h own;
    }
computed alive p clock s t (LoadNumber x n) d k form set stack read traps written h =
    let same : x ≡ d = cc in
    record {
      number = n;
      acts = ap (λ y. sets t (LoadNumber x n) y (Ok (Num n))) same;
      just = let kept : k ≡ h.0 = cc (h.2) in subst (λ q. IsJust q n) (sym kept) h.1;
    }
computed alive p clock s t (Load U64 x place) d k form set stack read traps written h =
    let same : x ≡ d = cc in
    let c = load_computed alive p clock s t x k place stack read form traps h in
    record {
      number = c.number;
      acts = c.acts ∙ ap (λ y. sets t (Load U64 x place) y (Ok (Num c.number))) same;
      just = c.just;
    }
computed alive p clock s t (Load size x place) d k form set stack read traps written h = absurd form
computed alive p clock s t (Store size place r) d k form set stack read traps written h =
    absurd (cc)
computed alive p clock s t (StoreConstant size place n) d k form set stack read traps written h =
    absurd (cc)
computed alive p clock s t (Jump by) d k form set stack read traps written h = absurd (cc)
computed alive p clock s t (JumpLong by) d k form set stack read traps written h = absurd (cc)
computed alive p clock s t (JumpIf c by) d k form set stack read traps written h = absurd (cc)
computed alive p clock s t Exit d k form set stack read traps written h = absurd (cc)
computed alive p clock s t i d k form set stack read traps written h = absurd form
