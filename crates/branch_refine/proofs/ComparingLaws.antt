-- What the outcome of a comparison says of the members of a state, and that a defined comparison
-- has an outcome.
use Rattle.branch_refine.proofs.Common.{◌≡◌, ℕ, ◌<◌, ◌==◌, ℤ, pos, negsuc, ◌+ℤ◌, ◌≤ℤ◌, Bool, true, false, int_lt, int_le, if◌then◌else◌, Option, Some, None, Result, Ok, sym, ◌∙◌, subst, arith, refl, Width, Cond, Operand, Constant, Register, Program, tested, test_of, Kind, Number, Packet, PacketEnd, MapValue, MapValueOrNull, Assigned, Allows, AllowsOrNull, IsProved, State, MeansBy, kind_of}
use Rattle.std.proofs.lemmas.Bool.Decides.{nat_tests}
use Rattle.std.proofs.lemmas.Int.{ints}
use Rattle.isa_model.specs.declared.sizes.Width.TheVariants.{Low32, Full64}
use Rattle.isa_model.specs.declared.instructions.Comparison.{Comparison}
use Rattle.isa_model.specs.declared.instructions.Comparison.TheVariants.{Equal, NotEqual, Greater, GreaterEqual, Less, LessEqual}
use Rattle.isa_model.specs.declared.values.Region.TheVariants as region
use Rattle.isa_model.specs.declared.values.Value.{Value}
use Rattle.isa_model.specs.declared.values.Value.TheVariants.{Ptr}
use Rattle.isa_model.specs.declared.ends.TrapReason.{TrapReason}
use Rattle.isa_model.specs.Code.Numbers.{holds, unsigned}
use Rattle.isa_model.specs.Machine.States.{reg}
use Rattle.isa_model.specs.Machine.States as Machine
use Rattle.isa_model.specs.Machine.Pointers.{packet_order, compared, compared_constant}
use Rattle.reg_state.specs.declared.scalars.Scalar.{Scalar}
use Rattle.reg_state.specs.Going.{exchanged}
use Rattle.stack_state.proofs.MeaningLaws.{reg_allowed}
use Rattle.stack_state.proofs.KindEffects.{IsNull}
use Rattle.branch_refine.specs.declared.comparing.Compared.{Compared}
use Rattle.branch_refine.specs.declared.comparing.Compared.TheVariants as comparing
use Rattle.branch_refine.specs.declared.comparing.Compared.TheVariants.{Numbers, OrNull, Live, Undefined}
use Rattle.branch_refine.specs.Comparing.{bytes_before, packet_by, with_end, with_packet, null_by, zero_by, with_number, pointers_by, registers_by, constant_by, operand_by, compared_by, same, IsDefined}

-- ---- what an outcome says

-- under the assignment
abbrev pub SaysUnder : Assigned → Compared → Bool → Type 0
SaysUnder e (comparing.Packet identity shows bytes) taken =
    taken ≡ shows → IsProved e identity bytes
SaysUnder e (OrNull identity null) taken = IsNull (e.map_value identity) (same taken null)
SaysUnder e (Live null) taken = same taken null ≡ false
SaysUnder e c taken = Unit {0}

-- a defined comparison has an outcome, and what it says holds
abbrev pub OutcomeIs : Assigned → Compared → Result Bool TrapReason → Type 0
OutcomeIs e Undefined went = Unit {0}
OutcomeIs e c went = (taken : Bool) × (went ≡ Ok taken) × SaysUnder e c taken

-- ---- a packet pointer and the packet end

before : (fixed z : ℤ) (length : ℕ) → (fixed +ℤ z) ≤ℤ pos length → 0 < bytes_before fixed
    → (z +ℤ pos (bytes_before fixed)) ≤ℤ pos length
before (pos n) z length h some = omega (arith, ints)
before (negsuc n) z length h some = absurd (omega arith)

not_below : (a b : ℤ) → int_lt b a ≡ false → a ≤ℤ b
not_below a b h = grind (arith, ints)

packet_outcome : (e : Assigned) (c : Comparison) (i : ℕ) (fixed : ℤ)
    → OutcomeIs e (packet_by c i fixed) (packet_order c (fixed +ℤ e.offset i) (pos e.packet_length))
packet_outcome e Greater i fixed = (
  int_lt (pos e.packet_length) (fixed +ℤ e.offset i),
  refl,
  λ says. before fixed (e.offset i) e.packet_length (grind (arith, ints)),
)
packet_outcome e GreaterEqual i fixed = (
  int_le (pos e.packet_length) (fixed +ℤ e.offset i),
  refl,
  λ says. before (fixed +ℤ pos 1) (e.offset i) e.packet_length (grind (arith, ints)),
)
packet_outcome e Less i fixed = (
  int_lt (fixed +ℤ e.offset i) (pos e.packet_length),
  refl,
  λ says. before (fixed +ℤ pos 1) (e.offset i) e.packet_length (grind (arith, ints)),
)
packet_outcome e LessEqual i fixed = (
  int_le (fixed +ℤ e.offset i) (pos e.packet_length),
  refl,
  λ says. before fixed (e.offset i) e.packet_length (grind (arith, ints)),
)
packet_outcome e c i fixed = tt

-- the same comparison with its operands exchanged
mirrored : (c : Comparison) (a b : ℤ) → packet_order c b a ≡ packet_order (exchanged c) a b
mirrored Greater a b = refl
mirrored GreaterEqual a b = refl
mirrored Less a b = refl
mirrored LessEqual a b = refl
mirrored c a b = refl

end_outcome : (e : Assigned) (c : Comparison) (i : ℕ) (fixed : ℤ) (k : Kind) (u v : Value)
    → u ≡ Ptr region.Packet (fixed +ℤ e.offset i)
    → Allows e k v → OutcomeIs e (with_end c i fixed k) (compared e.packet_length c Full64 u v)
end_outcome e c i fixed PacketEnd u v at h = rw (at, h) (packet_outcome e c i fixed)
end_outcome e c i fixed k u v at h = tt

mirrored_outcome : (e : Assigned) (c : Comparison) (k : Kind) (u v : Value)
    → u ≡ Ptr region.PacketEnd (pos 0) → Allows e k v
    → OutcomeIs e (with_packet c k) (compared e.packet_length c Full64 u v)
mirrored_outcome e c (Packet fixed i least greatest proved) u v at h =
    let points = h.points in
    rw (at, points)
    (subst (OutcomeIs e (packet_by (exchanged c) i fixed))
    (sym (mirrored c (fixed +ℤ e.offset i) (pos e.packet_length)))
    (packet_outcome e (exchanged c) i fixed))
mirrored_outcome e c k u v at h = tt

pointers_outcome : (e : Assigned) (c : Comparison) (j k : Kind) (u v : Value) → Allows e j u
    → Allows e k v → OutcomeIs e (pointers_by c j k) (compared e.packet_length c Full64 u v)
pointers_outcome e c (Packet fixed i least greatest proved) k u v left right =
    end_outcome e c i fixed k u v left.points right
pointers_outcome e c PacketEnd k u v left right = mirrored_outcome e c k u v left right
pointers_outcome e c j k u v left right = tt

-- ---- null

or_null_equal : (e : Assigned) (m : ℕ) (o : Option ℕ) (u : Value) → AllowsOrNull e m o u
    → (taken : Bool) × (compared_constant Equal Full64 u (pos 0) ≡ Ok taken)
    × IsNull o (same taken true)
unfolding holds
or_null_equal e m None u h = (true, rw h refl, refl)
or_null_equal e m (Some n) u h = let points = h.0 in (false, rw points refl, refl)

or_null_unequal : (e : Assigned) (m : ℕ) (o : Option ℕ) (u : Value) → AllowsOrNull e m o u
    → (taken : Bool) × (compared_constant NotEqual Full64 u (pos 0) ≡ Ok taken)
    × IsNull o (same taken false)
unfolding holds
or_null_unequal e m None u h = (false, rw h refl, refl)
or_null_unequal e m (Some n) u h = let points = h.0 in (true, rw points refl, refl)

equal_outcome : (e : Assigned) (k : Kind) (u : Value) → Allows e k u
    → OutcomeIs e (null_by true k) (compared_constant Equal Full64 u (pos 0))
equal_outcome e (MapValueOrNull m i) u h = or_null_equal e m (e.map_value i) u h
equal_outcome e (MapValue m least greatest) u h =
    let points = h.points in (false, rw points refl, refl)
equal_outcome e k u h = tt

unequal_outcome : (e : Assigned) (k : Kind) (u : Value) → Allows e k u
    → OutcomeIs e (null_by false k) (compared_constant NotEqual Full64 u (pos 0))
unequal_outcome e (MapValueOrNull m i) u h = or_null_unequal e m (e.map_value i) u h
unequal_outcome e (MapValue m least greatest) u h =
    let points = h.points in (true, rw points refl, refl)
unequal_outcome e k u h = tt

zero_outcome : (e : Assigned) (c : Comparison) (k : Kind) (u : Value) → Allows e k u
    → OutcomeIs e (zero_by c k) (compared_constant c Full64 u (pos 0))
zero_outcome e Equal k u h = equal_outcome e k u h
zero_outcome e NotEqual k u h = unequal_outcome e k u h
zero_outcome e c k u h = tt

if_zero_outcome : (e : Assigned) (c : Comparison) (k : Kind) (u : Value) (n : ℕ) (b : Bool)
    → (n == 0) ≡ b → Allows e k u
    → OutcomeIs e (if b then zero_by c k else Undefined) (compared_constant c Full64 u (pos n))
if_zero_outcome e c k u n true is h =
    let none : n ≡ 0 = grind (arith, nat_tests) in
    subst (λ n. OutcomeIs e (zero_by c k) (compared_constant c Full64 u (pos n))) (sym none)
    (zero_outcome e c k u h)
if_zero_outcome e c k u n false is h = tt

-- ---- all comparisons

number_outcome : (e : Assigned) (c : Comparison) (w : Width) (numbers : Scalar) (k : Kind)
    (u v : Value) → Allows e (Number numbers) u → Allows e k v
    → OutcomeIs e (with_number k) (compared e.packet_length c w u v)
number_outcome e c w numbers (Number others) u v left right =
    let (x, x_is, x_has) = left in
    let (y, y_is, y_has) = right in
    (holds c w x y, rw (x_is, y_is) refl, tt)
number_outcome e c w numbers k u v left right = tt

registers_outcome : (e : Assigned) (c : Comparison) (w : Width) (j k : Kind) (u v : Value)
    → Allows e j u → Allows e k v
    → OutcomeIs e (registers_by c w j k) (compared e.packet_length c w u v)
registers_outcome e c w (Number numbers) k u v left right =
    number_outcome e c w numbers k u v left right
registers_outcome e c Full64 j k u v left right = pointers_outcome e c j k u v left right
registers_outcome e c Low32 j k u v left right = tt

constant_outcome : (e : Assigned) (c : Comparison) (w : Width) (k : Kind) (n : ℤ) (u : Value)
    → Allows e k u → OutcomeIs e (constant_by c w k n) (compared_constant c w u n)
constant_outcome e c w (Number numbers) n u h =
    let (x, x_is, x_has) = h in
    (holds c w x (unsigned w n), rw x_is refl, tt)
constant_outcome e c Full64 k (pos n) u h = if_zero_outcome e c k u n (n == 0) refl h
constant_outcome e c w k n u h = tt

operand_outcome : (p : Program) (e : Assigned) (a : State) (s : Machine.State) (cond : Cond)
    (operand : Operand) → MeansBy p e a s
    → OutcomeIs e (operand_by a cond operand) (tested s cond operand)
operand_outcome p e a s cond (Constant n) m =
    constant_outcome e cond.comparison cond.width (kind_of a cond.register) n (reg s cond.register)
    (reg_allowed p e a s m cond.register)
operand_outcome p e a s cond (Register r) m =
    subst (λ n. OutcomeIs e
    (registers_by cond.comparison cond.width (kind_of a cond.register) (kind_of a r))
    (compared n cond.comparison cond.width (reg s cond.register) (reg s r))) m.assigned.length_is
    (registers_outcome e cond.comparison cond.width (kind_of a cond.register) (kind_of a r)
    (reg s cond.register) (reg s r)
    (reg_allowed p e a s m cond.register) (reg_allowed p e a s m r))

-- what the test of a member says
pub test-outcome : (p : Program) (e : Assigned) (a : State) (s : Machine.State) (cond : Cond)
    → MeansBy p e a s → OutcomeIs e (compared_by a cond) (test_of s cond)
test-outcome p e a s cond m = operand_outcome p e a s cond cond.operand m

has_outcome : (e : Assigned) (c : Compared) (went : Result Bool TrapReason) → IsDefined c
    → OutcomeIs e c went → (taken : Bool) × (went ≡ Ok taken)
has_outcome e Undefined went is h = absurd is
has_outcome e c went is h = (h.0, h.1)

-- a defined comparison does not trap
pub test-defined : (p : Program) (e : Assigned) (a : State) (s : Machine.State) (cond : Cond)
    → IsDefined (compared_by a cond) → MeansBy p e a s
    → (taken : Bool) × (test_of s cond ≡ Ok taken)
test-defined p e a s cond is m =
    has_outcome e (compared_by a cond) (test_of s cond) is (test-outcome p e a s cond m)

-- what an outcome says holds
pub OutcomeIs-says : (e : Assigned) (c : Compared) (went : Result Bool TrapReason) (taken : Bool)
    → went ≡ Ok taken → OutcomeIs e c went → SaysUnder e c taken
OutcomeIs-says e Undefined went taken is h = tt
OutcomeIs-says e c went taken is h =
    let both : Ok h.0 ≡ Ok taken = sym h.1 ∙ is in
    let one : h.0 ≡ taken = cc in
    subst (SaysUnder e c) one h.2
