-- The exact successors of an abstract state, and the refusals of its step.
use Rattle.std.specs.Prelude.{◌≡◌, ◌≢◌, ℕ, zero, suc, ◌+◌, ◌%◌, ◌^◌, ◌<◌, ◌≤◌, ◌==◌, nat_le, ℤ, pos, Bool, true, false, ◌||◌, if◌then◌else◌, List, length, Option, Some, None, Result, Ok, Err}
use Rattle.isa_model.specs.declared.sizes.Width.{Width}
use Rattle.isa_model.specs.declared.sizes.Width.TheVariants.{Full64}
use Rattle.isa_model.specs.declared.sizes.Size.{Size}
use Rattle.isa_model.specs.declared.registers.Reg.{Reg}
use Rattle.isa_model.specs.declared.registers.Reg.TheVariants.{R0, R10}
use Rattle.isa_model.specs.declared.instructions.Cond.{Cond}
use Rattle.isa_model.specs.declared.instructions.Operand.{Operand}
use Rattle.isa_model.specs.declared.instructions.Operand.TheVariants.{Constant, Register}
use Rattle.isa_model.specs.declared.instructions.Place.{Place}
use Rattle.isa_model.specs.declared.instructions.Insn.{Insn}
use Rattle.isa_model.specs.declared.instructions.Insn.TheVariants.{Alu, Neg, MovSx, ByteSwap, LoadNumber, LoadMap, LoadMapValue, Load, LoadSx, StoreConstant, Store, Atomic, Exchange, CompareExchange, Jump, JumpLong, JumpIf, CallHelper, CallLocal, Exit}
use Rattle.isa_model.specs.declared.map_defs.MapDef.{MapDef}
use Rattle.isa_model.specs.declared.versions.Version.{Version}
use Rattle.isa_model.specs.declared.versions.Version.TheVariants as version
use Rattle.isa_model.specs.Code.Sizes.{width_size}
use Rattle.isa_model.specs.Code.Numbers.{unsigned}
use Rattle.isa_model.specs.Code.Instructions.{Program, slots_filled, writes}
use Rattle.isa_model.specs.Code.Limits.{max_call_frames}
use Rattle.isa_model.specs.Machine.Steps.{destination}
use Rattle.known_bits.specs.Bits.{greatest_of}
use Rattle.reg_state.specs.declared.scalars.Scalar.{Scalar}
use Rattle.reg_state.specs.declared.kinds.Kind.{Kind}
use Rattle.reg_state.specs.declared.kinds.Kind.TheVariants.{Number, Stack, Map, MapValue}
use Rattle.reg_state.specs.Arithmetic.{IsNegated, IsReordered, IsSignExtended}
use Rattle.stack_state.specs.declared.states.State.{State}
use Rattle.stack_state.specs.Meaning.{depth}
use Rattle.stack_state.specs.Places.{kind_of, with_register, go_to}
use Rattle.stack_state.specs.Calls.{entered, ended}
use Rattle.branch_refine.specs.Refining.{IsJust, Refines}
use Rattle.branch_refine.specs.Comparing.{compared_by, IsDefined}
use Rattle.transfer.specs.declared.Ways.{Ways}
use Rattle.transfer.specs.declared.Ways.TheVariants as ways
use Rattle.transfer.specs.declared.refusals.Refusal.{Refusal}
use Rattle.transfer.specs.declared.refusals.Refusal.TheVariants.{TooManyFrames, ExitValue, NoAction}
use Rattle.transfer.specs.Refusing.{register_refusal, comparison_refusal}
use Rattle.transfer.specs.Results.{OfNumber, Arithmetic}
use Rattle.transfer.specs.Accesses.{LoadsKind, LoadsSigned, StoresKind}
use Rattle.transfer.specs.Atomics.{Swaps, Compares}
use Rattle.transfer.specs.HelperCalls.{CallsHelper}

-- ---- registers set

-- the kind of an operand; a constant is sign-extended to the width
abbrev pub OperandKind : State → Width → Operand → Kind → Type 0
OperandKind a w (Constant k) b = IsJust b (unsigned w k)
OperandKind a w (Register r) b = b ≡ kind_of a r

-- the forms that set a register and leave all else as it is
abbrev pub IsSetter : Insn → Type 0
IsSetter (Alu w op d source) = Unit {0}
IsSetter (Neg w d) = Unit {0}
IsSetter (MovSx e d r) = Unit {0}
IsSetter (ByteSwap order span d) = Unit {0}
IsSetter (LoadNumber d n) = Unit {0}
IsSetter (LoadMap d m) = Unit {0}
IsSetter (LoadMapValue d m offset) = Unit {0}
IsSetter (Load size d place) = Unit {0}
IsSetter (LoadSx size d place) = Unit {0}
IsSetter i = ⊥

-- the kind that a form puts into its register, or its refusal; `rows` are the map rows
abbrev pub ResultKind : List MapDef → State → Insn → Result Kind Refusal → Type 0
ResultKind rows a (Alu w op d source) result =
    (b : Kind) × OperandKind a w source b × Arithmetic a op w (kind_of a d) b result
ResultKind rows a (Neg w d) result = OfNumber (IsNegated w) (kind_of a d) result
ResultKind rows a (MovSx e d r) result = OfNumber (IsSignExtended e) (kind_of a r) result
ResultKind rows a (ByteSwap order span d) result =
    OfNumber (IsReordered order span) (kind_of a d) result
ResultKind rows a (LoadNumber d n) result = (k : Kind) × IsJust k n × (result ≡ Ok k)
ResultKind rows a (LoadMap d m) result = result ≡ Ok (Map m)
ResultKind rows a (LoadMapValue d m offset) result =
    result ≡ Ok (MapValue m (pos offset) (pos offset))
ResultKind rows a (Load size d place) result =
    LoadsKind rows a size (kind_of a place.base) place.offset result
ResultKind rows a (LoadSx size d place) result =
    LoadsSigned rows a size (kind_of a place.base) place.offset result
ResultKind rows a i result = ⊥

-- the state at the next instruction: the written register has a kind, and all else is as before
pub record SetsRegister (rows : List MapDef) (a : State) (i : Insn) (b : State) : Type 0 where
  pub register : Reg
  pub written : writes i ≡ Some register
  pub own : register ≢ R10
  pub kind : Kind
  pub puts : ResultKind rows a i (Ok kind)
  pub next : b ≡ go_to (with_register a register kind) (a.slot + slots_filled i)

abbrev pub SetsOrRefuses : List MapDef → State → Insn → Result Ways Refusal → State → Type 0
SetsOrRefuses rows a i (Ok w) b = (w ≡ ways.One) × SetsRegister rows a i b
SetsOrRefuses rows a i (Err e) b = ResultKind rows a i (Err e)

-- ---- memory

-- the state at the next instruction, after a store or an atomic instruction
pub record GoesOnWith (a : State) (leaves : State → Result (Unit {0}) Refusal → Type 0)
    (b : State) : Type 0 where
  pub left : State
  pub leaving : leaves left (Ok tt)
  pub next : b ≡ go_to left (a.slot + 1)

abbrev pub GoesOn : State → (State → Result (Unit {0}) Refusal → Type 0) → Result Ways Refusal
    → State → Type 0
GoesOn a leaves (Ok w) b = (w ≡ ways.One) × GoesOnWith a leaves b
GoesOn a leaves (Err e) b = (left : State) × leaves left (Err e)

abbrev pub StoresAt : List MapDef → State → Size → Place → Kind → State → Result (Unit {0}) Refusal
    → Type 0
StoresAt rows a size place source left result =
    StoresKind rows a size (kind_of a place.base) place.offset source left result

-- with the kind of register r; `kept` is the register that gets the old number, if any
abbrev pub SwapsAtPlace : List MapDef → State → Width → Place → Reg → Option Reg → State
    → Result (Unit {0}) Refusal → Type 0
SwapsAtPlace rows a w place r kept left result =
    Swaps rows a (kind_of a r) (kind_of a place.base) place.offset (width_size w) kept left result

abbrev pub ComparesAtPlace : List MapDef → State → Width → Place → Reg → State
    → Result (Unit {0}) Refusal → Type 0
ComparesAtPlace rows a w place r left result =
    Compares rows a (kind_of a r) (kind_of a place.base) place.offset (width_size w) left result

-- ---- jumps

-- the sides of a jump that are taken, the fall-through first
abbrev pub Sides : Bool → Bool → State → State → Ways → State → State → Type 0
Sides true true stay go w b c = (w ≡ ways.Two) × (b ≡ stay) × (c ≡ go)
Sides true false stay go w b c = (w ≡ ways.One) × (b ≡ stay)
Sides false true stay go w b c = (w ≡ ways.One) × (b ≡ go)
Sides false false stay go w b c = w ≡ ways.None

-- each side is narrowed by all that the test shows
pub record Branches (p : Program) (a : State) (cond : Cond) (by : ℤ) (w : Ways)
    (b c : State) : Type 0 where
  pub compared : IsDefined (compared_by a cond)
  pub stays : Bool
  pub stay : State
  pub left_there : Refines cond false a stays stay
  pub goes : Bool
  pub go : State
  pub taken_there : Refines cond true a goes go
  pub sides : Sides stays goes (go_to stay (a.slot + 1)) (go_to go (destination p a.slot by)) w b c

-- the same, if the comparison is defined, and else the refusal
abbrev pub BranchesOr : Program → State → Cond → ℤ → Result Ways Refusal → State → State → Type 0
BranchesOr p a cond by (Ok w) b c = Branches p a cond by w b c
BranchesOr p a cond by (Err e) b c =
    (e ≡ comparison_refusal a cond) × ¬ IsDefined (compared_by a cond)

-- the state as before, at the jump's target
abbrev pub StepsJump : Program → State → ℤ → Result Ways Refusal → State → Type 0
StepsJump p a by result b = (result ≡ Ok ways.One) × (b ≡ go_to a (destination p a.slot by))

-- ---- calls and exits

-- a call frame is pushed, unless as many are live as may be
abbrev pub StepsCall : Program → State → ℤ → Result Ways Refusal → State → Type 0
StepsCall p a by (Ok w) b =
    (depth a < max_call_frames) × (w ≡ ways.One) × (b ≡ entered a (destination p a.slot by))
StepsCall p a by (Err e) b = (max_call_frames ≤ depth a) × (e ≡ TooManyFrames)

-- known bits or limits show that the low half of each number is at most 4, as version 2 requires of
-- answers
abbrev pub shows_action : Version → Scalar → Bool
shows_action version.One numbers = true
shows_action version.Two numbers =
    nat_le (greatest_of numbers.bits % 2 ^ 32) 4
    || (nat_le numbers.range.low.greatest 4 || nat_le numbers.range.wide.greatest 4)

-- the result of the program's exit: no successor if the answer is a number, in version 2 that of an
-- action
abbrev pub exit_result : Version → Kind → Result Ways Refusal
exit_result v (Number numbers) = if shows_action v numbers then Ok ways.None else Err NoAction
exit_result v k = Err ExitValue

-- whether the kind points into the nth frame
abbrev pub points_into : ℕ → Kind → Bool
points_into n (Stack f z) = f == n
points_into n k = false

-- a frame is popped, unless r0 points into it
abbrev pub StepsReturn : State → Result Ways Refusal → State → Type 0
StepsReturn a (Ok w) b =
    (points_into (length a.callers.items) (kind_of a R0) ≡ false) × (w ≡ ways.One) × (b ≡ ended a)
StepsReturn a (Err e) b =
    (points_into (length a.callers.items) (kind_of a R0) ≡ true) × (e ≡ ExitValue)

abbrev pub ExitsFrom : Version → ℕ → State → Result Ways Refusal → State → Type 0
ExitsFrom v zero a result b = result ≡ exit_result v (kind_of a R0)
ExitsFrom v (suc n) a result b = StepsReturn a result b

-- the first frame, which has no callers, answers
abbrev pub StepsExit : Version → State → Result Ways Refusal → State → Type 0
StepsExit v a result b = ExitsFrom v (length a.callers.items) a result b

-- ---- instructions

-- the step of each form, once the tests of its registers pass
abbrev pub StepsForm : Program → State → Insn → Result Ways Refusal → State → State → Type 0
StepsForm p a (StoreConstant size place k) result b c =
    (source : Kind) × IsJust source (unsigned Full64 k)
    × GoesOn a (StoresAt p.maps a size place source) result b
StepsForm p a (Store size place r) result b c =
    GoesOn a (StoresAt p.maps a size place (kind_of a r)) result b
StepsForm p a (Atomic w op fetched place r) result b c =
    GoesOn a (SwapsAtPlace p.maps a w place r (writes (Atomic w op fetched place r))) result b
StepsForm p a (Exchange w place r) result b c =
    GoesOn a (SwapsAtPlace p.maps a w place r (Some r)) result b
StepsForm p a (CompareExchange w place r) result b c =
    GoesOn a (ComparesAtPlace p.maps a w place r) result b
StepsForm p a (Jump by) result b c = StepsJump p a by result b
StepsForm p a (JumpLong by) result b c = StepsJump p a by result b
StepsForm p a (JumpIf cond by) result b c = BranchesOr p a cond by result b c
StepsForm p a (CallLocal by) result b c = StepsCall p a by result b
StepsForm p a Exit result b c = StepsExit p.version a result b
StepsForm p a (CallHelper number) result b c = GoesOn a (CallsHelper p.maps a number) result b
StepsForm p a i result b c = SetsOrRefuses p.maps a i result b

-- if the test fails, its refusal is the result; if it passes, the rest decides
abbrev pub Tested : Option Refusal → Result Ways Refusal → Type 0 → Type 0
Tested None result Rest = Rest
Tested (Some e) result Rest = result ≡ Err e

-- one step: the tests of the registers, and then the form's own
abbrev pub Steps : Program → State → Insn → Result Ways Refusal → State → State → Type 0
Steps p a i result b c = Tested (register_refusal a i) result (StepsForm p a i result b c)

-- how many successors the instruction has, and the states that it leaves
abbrev pub StepsToWays : Program → State → Insn → Ways → State → State → Type 0
StepsToWays p a i w b c = Steps p a i (Ok w) b c

-- its step gets this refusal
abbrev pub RefusesStep : Program → State → Insn → Refusal → Type 0
RefusesStep p a i e = (b c : State) × Steps p a i (Err e) b c
