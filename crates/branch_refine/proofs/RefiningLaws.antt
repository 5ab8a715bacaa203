-- What is kept where pointers are compared. Numbers are compared exactly where both operands are
-- known to be numbers.
use Rattle.branch_refine.proofs.Common.{◌≡◌, ◌≢◌, ℕ, zero, suc, ◌==◌, ℤ, pos, ◌+ℤ◌, ◌≤ℤ◌, max, Bool, true, false, not, if◌then◌else◌, IsTrue, sym, ap, ◌∙◌, subst, arith, refl, Width, Cond, Operand, Constant, Register, Program, test_of, Kind, Number, Packet, PacketEnd, MapValue, MapValueOrNull, Assigned, Allows, IsProved, State, MeansBy, kind_of}
use Rattle.isa_model.specs.declared.sizes.Width.TheVariants.{Low32, Full64}
use Rattle.isa_model.specs.declared.instructions.Comparison.{Comparison}
use Rattle.isa_model.specs.declared.instructions.Comparison.TheVariants.{Equal, NotEqual, Greater, GreaterEqual, Less, LessEqual}
use Rattle.isa_model.specs.Machine.States as Machine
use Rattle.reg_state.specs.Going.{exchanged}
use Rattle.stack_state.specs.Effects.{map_kinds, proved_kind}
use Rattle.stack_state.proofs.KindEffects.{MeansBy-map_kinds, MeansBy-proved, MeansBy-tested, proved_kind-none}
use Rattle.branch_refine.specs.declared.comparing.Compared.{Compared}
use Rattle.branch_refine.specs.declared.comparing.Compared.TheVariants as compared
use Rattle.branch_refine.specs.declared.comparing.Compared.TheVariants.{Numbers, OrNull, Live, Undefined}
use Rattle.branch_refine.specs.Comparing.{packet_by, with_end, with_packet, null_by, zero_by, with_number, pointers_by, registers_by, constant_by, operand_by, compared_by, same}
use Rattle.branch_refine.proofs.ComparingLaws.{SaysUnder, test-outcome, OutcomeIs-says}
use Rattle.branch_refine.specs.Refining.{IsNumberKind, IsNumberOperand, IsJust, IsJustOperand, AreCompared, KeepsMembers, LearnsOf, Refines}

-- ---- what is kept

-- n bytes after the identity's number are in the packet, if n is not 0
pub MeansBy-proves : (p : Program) (e : Assigned) (a : State) (s : Machine.State) (i n : ℕ)
    → IsProved e i n → MeansBy p e a s → MeansBy p e (map_kinds (proved_kind i n) a) s
MeansBy-proves p e a s i zero inside m =
    MeansBy-map_kinds p e (proved_kind i 0) a s refl
    (λ k v h. subst (λ l. Allows e l v) (sym (proved_kind-none i k)) h) m
MeansBy-proves p e a s i (suc n) inside m =
    MeansBy-proved p e a s i (suc n)
    (subst (λ l. (e.offset i +ℤ pos (suc n)) ≤ℤ pos l) m.assigned.length_is (inside (omega arith)))
    m

same_is : (taken shows : Bool) → same taken shows ≡ true → taken ≡ shows
same_is true true h = refl
same_is true false h = absurd (cc)
same_is false true h = absurd (cc)
same_is false false h = refl

packet_kept : (p : Program) (e : Assigned) (a : State) (s : Machine.State) (i n : ℕ)
    (taken shows b : Bool) → same taken shows ≡ b
    → (taken ≡ shows → IsProved e i n) → MeansBy p e a s
    → MeansBy p e (if b then map_kinds (proved_kind i n) a else a) s
packet_kept p e a s i n taken shows true is says m =
    MeansBy-proves p e a s i n (says (same_is taken shows is)) m
packet_kept p e a s i n taken shows false is says m = m

pointers_kept : (p : Program) (e : Assigned) (a : State) (s : Machine.State) (c : Compared)
    (taken some : Bool) (b : State) → c ≢ Numbers
    → LearnsOf c taken a some b → SaysUnder e c taken → MeansBy p e a s
    → IsTrue some × MeansBy p e b s
pointers_kept p e a s Numbers taken some b other h says m = absurd (other refl)
pointers_kept p e a s (compared.Packet i shows n) taken some b other h says m = (
  h.0,
  subst (λ b. MeansBy p e b s) (sym h.1)
      (packet_kept p e a s i n taken shows (same taken shows) refl says m),
)
pointers_kept p e a s (OrNull i null) taken some b other h says m =
    let (numbers, has, constant, is) = h.1 in (
      h.0,
      subst (λ b. MeansBy p e b s) (sym is)
          (MeansBy-tested p e a s i (same taken null) numbers says has m),
    )
pointers_kept p e a s (Live null) taken some b other h says m =
    (h.0 ∙ ap not says, subst (λ b. MeansBy p e b s) (sym h.1) m)
pointers_kept p e a s Undefined taken some b other h says m =
    (h.0, subst (λ b. MeansBy p e b s) (sym h.1) m)

pub KeepsMembers-pointers : (cond : Cond) (taken : Bool) (a : State) (some : Bool) (b : State)
    → compared_by a cond ≢ Numbers
    → LearnsOf (compared_by a cond) taken a some b → KeepsMembers cond taken a some b
unfolding KeepsMembers
KeepsMembers-pointers cond taken a some b other h = λ p e s m says.
    pointers_kept p e a s (compared_by a cond) taken some b other h
    (OutcomeIs-says e (compared_by a cond) (test_of s cond) taken says
    (test-outcome p e a s cond m)) m

-- ---- two numbers

registers-numbers : (c : Comparison) (w : Width) (j k : Kind) → IsNumberKind j → IsNumberKind k
    → registers_by c w j k ≡ Numbers
registers-numbers c w (Number x) (Number y) left right = refl
registers-numbers c w (Number x) k left right = absurd right
registers-numbers c w j k left right = absurd left

constant-numbers : (c : Comparison) (w : Width) (k : Kind) (n : ℤ) → IsNumberKind k
    → constant_by c w k n ≡ Numbers
constant-numbers c w (Number x) n is = refl
constant-numbers c w k n is = absurd is

operand-numbers : (a : State) (cond : Cond) (operand : Operand)
    → IsNumberKind (kind_of a cond.register) → IsNumberOperand a operand
    → operand_by a cond operand ≡ Numbers
operand-numbers a cond (Constant n) left right =
    constant-numbers cond.comparison cond.width (kind_of a cond.register) n left
operand-numbers a cond (Register r) left right =
    registers-numbers cond.comparison cond.width (kind_of a cond.register) (kind_of a r) left right

-- numbers are compared where both operands are known to be numbers
pub compared_by-numbers : (a : State) (cond : Cond) → AreCompared a cond
    → compared_by a cond ≡ Numbers
compared_by-numbers a cond both = operand-numbers a cond cond.operand both.0 both.1

-- and only there
packet_no_numbers : (c : Comparison) (i : ℕ) (fixed : ℤ) → packet_by c i fixed ≢ Numbers
packet_no_numbers Greater i fixed = λ h. absurd (cc)
packet_no_numbers GreaterEqual i fixed = λ h. absurd (cc)
packet_no_numbers Less i fixed = λ h. absurd (cc)
packet_no_numbers LessEqual i fixed = λ h. absurd (cc)
packet_no_numbers c i fixed = λ h. absurd (cc)

end_no_numbers : (c : Comparison) (i : ℕ) (fixed : ℤ) (k : Kind) → with_end c i fixed k ≢ Numbers
end_no_numbers c i fixed PacketEnd = packet_no_numbers c i fixed
end_no_numbers c i fixed k = λ h. absurd (cc)

mirrored_no_numbers : (c : Comparison) (k : Kind) → with_packet c k ≢ Numbers
mirrored_no_numbers c (Packet fixed i least greatest proved) =
    packet_no_numbers (exchanged c) i fixed
mirrored_no_numbers c k = λ h. absurd (cc)

pointers_no_numbers : (c : Comparison) (j k : Kind) → pointers_by c j k ≢ Numbers
pointers_no_numbers c (Packet fixed i least greatest proved) k = end_no_numbers c i fixed k
pointers_no_numbers c PacketEnd k = mirrored_no_numbers c k
pointers_no_numbers c j k = λ h. absurd (cc)

with_numbers : (k : Kind) → with_number k ≡ Numbers → IsNumberKind k
with_numbers (Number x) h = tt
with_numbers k h = absurd (cc)

registers_are : (c : Comparison) (w : Width) (j k : Kind) → registers_by c w j k ≡ Numbers
    → IsNumberKind j × IsNumberKind k
registers_are c w (Number x) k h = (tt, with_numbers k h)
registers_are c Full64 j k h = absurd (pointers_no_numbers c j k h)
registers_are c Low32 j k h = absurd (cc)

null_no_numbers : (null : Bool) (k : Kind) → null_by null k ≢ Numbers
null_no_numbers null (MapValueOrNull m i) = λ h. absurd (cc)
null_no_numbers null (MapValue m least greatest) = λ h. absurd (cc)
null_no_numbers null k = λ h. absurd (cc)

zero_no_numbers : (c : Comparison) (k : Kind) → zero_by c k ≢ Numbers
zero_no_numbers Equal k = null_no_numbers true k
zero_no_numbers NotEqual k = null_no_numbers false k
zero_no_numbers c k = λ h. absurd (cc)

if_no_numbers : (b : Bool) (c : Comparison) (k : Kind)
    → (if b then zero_by c k else Undefined) ≢ Numbers
if_no_numbers true c k = zero_no_numbers c k
if_no_numbers false c k = λ h. absurd (cc)

constant_is : (c : Comparison) (w : Width) (k : Kind) (n : ℤ) → constant_by c w k n ≡ Numbers
    → IsNumberKind k
constant_is c w (Number x) n h = tt
constant_is c Full64 k (pos n) h = absurd (if_no_numbers (n == 0) c k h)
constant_is c w k n h = absurd (cc)

operands_are : (a : State) (cond : Cond) (operand : Operand) → operand_by a cond operand ≡ Numbers
    → IsNumberKind (kind_of a cond.register) × IsNumberOperand a operand
operands_are a cond (Constant n) h =
    (constant_is cond.comparison cond.width (kind_of a cond.register) n h, tt)
operands_are a cond (Register r) h =
    registers_are cond.comparison cond.width (kind_of a cond.register) (kind_of a r) h

pub numbers-compared_by : (a : State) (cond : Cond) → compared_by a cond ≡ Numbers
    → AreCompared a cond
numbers-compared_by a cond h = operands_are a cond cond.operand h

-- ---- all that is promised

is_number : (k : Kind) (x : ℕ) → IsJust k x → IsNumberKind k
is_number (Number numbers) x h = tt
is_number k x h = absurd h

is_number_operand : (a : State) (w : Width) (operand : Operand) (y : ℕ)
    → IsJustOperand a w operand y → IsNumberOperand a operand
is_number_operand a w (Constant n) y h = tt
is_number_operand a w (Register r) y h = is_number (kind_of a r) y h

stays : (c : Compared) (taken : Bool) (a : State) (some : Bool) (b : State) → c ≢ Numbers
    → LearnsOf c taken a some b → some ≡ false → b ≡ a
stays Numbers taken a some b other h none = absurd (other refl)
stays (compared.Packet i shows n) taken a some b other h none = absurd (cc h.0)
stays (OrNull i null) taken a some b other h none = absurd (cc h.0)
stays (Live null) taken a some b other h none = h.1
stays Undefined taken a some b other h none = h.1

pub Refines-pointers : (cond : Cond) (taken : Bool) (a : State) (some : Bool) (b : State)
    → compared_by a cond ≢ Numbers
    → LearnsOf (compared_by a cond) taken a some b → Refines cond taken a some b
Refines-pointers cond taken a some b other h =
    let no : AreCompared a cond → ⊥ = λ both. other (compared_by-numbers a cond both) in
    record {
      kept = KeepsMembers-pointers cond taken a some b other h;
      never = stays (compared_by a cond) taken a some b other h;
      narrowed = λ both. absurd (no both);
      others = λ both. absurd (no both);
      shown = λ both some. absurd (no both);
      constants = λ x y left right apart.
          absurd (no (
            is_number (kind_of a cond.register) x left,
            is_number_operand a cond.width cond.operand y right,
          ));
      constants_go = λ x y left right goes.
          absurd (no (
            is_number (kind_of a cond.register) x left,
            is_number_operand a cond.width cond.operand y right,
          ));
      pointers = h;
    }
