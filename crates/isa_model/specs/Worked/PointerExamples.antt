-- Worked examples of arithmetic and comparisons with pointers, computed from the definitions.
use Rattle.std.specs.Prelude.{◌≡◌, ℤ, pos, negsuc, true, false, List, [], ◌∷◌, ◌++◌, map, replicate, Ok, Err, refl}
use Rattle.isa_model.specs.declared.registers.Reg.TheVariants.{R0, R10}
use Rattle.isa_model.specs.declared.sizes.Width.TheVariants.{Low32, Full64}
use Rattle.isa_model.specs.declared.sizes.Extension.TheVariants.{Full32}
use Rattle.isa_model.specs.declared.sizes.SwapWidth.TheVariants.{B64}
use Rattle.isa_model.specs.declared.sizes.ByteOrder.TheVariants.{Swap}
use Rattle.isa_model.specs.declared.instructions.AluOp.{AluOp}
use Rattle.isa_model.specs.declared.instructions.AluOp.TheVariants.{Add, Sub, Mul, Div, SignedDiv, Or, And, Lsh, Rsh, Mod, SignedMod, Xor, Mov, Arsh}
use Rattle.isa_model.specs.declared.instructions.Comparison.{Comparison}
use Rattle.isa_model.specs.declared.instructions.Comparison.TheVariants.{Equal, NotEqual, Greater, GreaterEqual, Less, LessEqual, AnyBit, SignedGreater, SignedGreaterEqual, SignedLess, SignedLessEqual}
use Rattle.isa_model.specs.declared.instructions.Insn.TheVariants as insn
use Rattle.isa_model.specs.declared.values.Region.{Region}
use Rattle.isa_model.specs.declared.values.Region.TheVariants as region
use Rattle.isa_model.specs.declared.values.Value.{Value}
use Rattle.isa_model.specs.declared.values.Value.TheVariants.{Num, Ptr}
use Rattle.isa_model.specs.declared.ends.End.TheVariants.{Trap}
use Rattle.isa_model.specs.declared.ends.TrapReason.TheVariants.{BadPointer, OutOfRange, BadCompare}
use Rattle.isa_model.specs.Code.Numbers.{alu, holds, sign_extended, reordered}
use Rattle.isa_model.specs.Machine.States.{new_call_frame}
use Rattle.isa_model.specs.Machine.Steps.{act, step}
use Rattle.isa_model.specs.Running.Runs.{start_state, progress, turn}
use Rattle.isa_model.specs.Machine.Pointers.{arithmetic, compared, compared_constant}
use Rattle.isa_model.specs.Worked.Examples.{end_on, copy}

-- ---- arithmetic

abbrev pub in_packet : ℤ → Value
in_packet z = Ptr region.Packet z

abbrev pub at_packet_end : Value
at_packet_end = Ptr region.PacketEnd (pos 0)

-- the regions whose pointers move, and the others
abbrev pub moving : List Region
moving = region.Packet ∷ region.CallFrame 3 ∷ region.MapValue 0 5 ∷ []

abbrev pub fixed : List Region
fixed = region.Context ∷ region.PacketEnd ∷ region.Map 0 ∷ []

-- the number counts as a signed one: 4 + -8 in either order, and 4 - 8
pub pointer_plus_number : map
    (λ r. arithmetic Add Full64 (Ptr r (pos 4)) (Num 0xfffffffffffffff8)) moving
    ≡ map (λ r. Ok (Ptr r (negsuc 3))) moving
pointer_plus_number = refl

pub number_plus_pointer : map
    (λ r. arithmetic Add Full64 (Num 0xfffffffffffffff8) (Ptr r (pos 4))) moving
    ≡ map (λ r. Ok (Ptr r (negsuc 3))) moving
number_plus_pointer = refl

pub pointer_less_a_number : map (λ r. arithmetic Sub Full64 (Ptr r (pos 4)) (Num 8)) moving
    ≡ map (λ r. Ok (Ptr r (negsuc 3))) moving
pointer_less_a_number = refl

-- 4 - -8
pub pointer_less_a_negative_number : map
    (λ r. arithmetic Sub Full64 (Ptr r (pos 4)) (Num 0xfffffffffffffff8)) moving
    ≡ map (λ r. Ok (Ptr r (pos 12))) moving
pointer_less_a_negative_number = refl

pub fixed_pointers_do_not_move : map (λ r. arithmetic Add Full64 (Ptr r (pos 0)) (Num 0)) fixed
    ≡ replicate 3 (Err BadPointer)
fixed_pointers_do_not_move = refl

-- number - pointer, pointer - pointer, pointer + pointer, and sums and differences at 32 bits
pub undefined_sums : arithmetic Sub Full64 (Num 8) (in_packet (pos 4))
    ∷ arithmetic Sub Full64 (in_packet (pos 4)) (in_packet (pos 4))
    ∷ arithmetic Add Full64 (in_packet (pos 4)) (in_packet (pos 4))
    ∷ arithmetic Add Low32 (in_packet (pos 4)) (Num 0)
    ∷ arithmetic Sub Low32 (in_packet (pos 4)) (Num 0)
    ∷ arithmetic Add Low32 (Num 0) (in_packet (pos 4))
    ∷ []
    ≡ replicate 6 (Err BadPointer)
undefined_sums = refl

-- no other operation is defined on a pointer, on either side
abbrev pub numbers_only : List AluOp
numbers_only = Mul ∷ Div ∷ SignedDiv ∷ Or ∷ And ∷ Lsh ∷ Rsh ∷ Mod ∷ SignedMod ∷ Xor ∷ Arsh ∷ []

pub other_operations : map (λ op. arithmetic op Full64 (in_packet (pos 0)) (Num 1)) numbers_only
    ++ map (λ op. arithmetic op Full64 (Num 1) (in_packet (pos 0))) numbers_only
    ≡ replicate 22 (Err BadPointer)
other_operations = refl

-- every pointer is copied whole at 64 bits, and none at 32 bits
pub copies : map (λ r. arithmetic Mov Full64 (Num 1) (Ptr r (pos 4))) (moving ++ fixed)
    ≡ map (λ r. Ok (Ptr r (pos 4))) (moving ++ fixed)
copies = refl

pub copies_at_32_bits : map (λ r. arithmetic Mov Low32 (Num 1) (Ptr r (pos 4))) (moving ++ fixed)
    ≡ replicate 6 (Err BadPointer)
copies_at_32_bits = refl

-- r0 = r10, and then r0 = -r0, r0 = (s32)r0, r0 = bswap64 r0
pub operations_on_one_operand : map (λ i. end_on (copy R0 R10 ∷ i ∷ insn.Exit ∷ []) [] 100)
    (insn.Neg Full64 R0 ∷ insn.MovSx Full32 R0 R0 ∷ insn.ByteSwap Swap B64 R0 ∷ [])
    ≡ replicate 3 (Trap BadPointer 1)
unfolding turn progress start_state new_call_frame step act alu holds sign_extended reordered
operations_on_one_operand = refl

-- ---- the limit of offsets, 2^29 both ways

pub offsets_at_the_limit : arithmetic Add Full64 (in_packet (pos 1)) (Num 0x1fffffff)
    ∷ arithmetic Add Full64 (Num 0xffffffffe0000000) (in_packet (pos 0))
    ∷ arithmetic Sub Full64 (in_packet (pos 0)) (Num 0x20000000) ∷ []
    ≡ Ok (in_packet (pos 0x20000000)) ∷ Ok (in_packet (negsuc 0x1fffffff))
    ∷ Ok (in_packet (negsuc 0x1fffffff)) ∷ []
offsets_at_the_limit = refl

pub offsets_past_the_limit : arithmetic Add Full64 (in_packet (pos 1)) (Num 0x20000000)
    ∷ arithmetic Sub Full64 (in_packet (pos 0)) (Num 0x20000001)
    ∷ arithmetic Add Full64 (Num 0x8000000000000000) (in_packet (pos 0))
    ∷ arithmetic Sub Full64 (in_packet (pos 0)) (Num 0x8000000000000000) ∷ []
    ≡ replicate 4 (Err OutOfRange)
offsets_past_the_limit = refl

-- ---- comparisons

abbrev pub orders : List Comparison
orders = Greater ∷ GreaterEqual ∷ Less ∷ LessEqual ∷ []

abbrev pub other_comparisons : List Comparison
other_comparisons = Equal ∷ NotEqual ∷ AnyBit ∷ SignedGreater ∷ SignedGreaterEqual ∷ SignedLess
    ∷ SignedLessEqual ∷ []

-- offset 14 against the end of a packet of 14 bytes, and the end against it
pub packet_pointer_at_the_end : map
    (λ c. compared 14 c Full64 (in_packet (pos 14)) at_packet_end) orders
    ≡ Ok false ∷ Ok true ∷ Ok false ∷ Ok true ∷ []
packet_pointer_at_the_end = refl

pub end_at_a_packet_pointer : map
    (λ c. compared 14 c Full64 at_packet_end (in_packet (pos 14))) orders
    ≡ Ok false ∷ Ok true ∷ Ok false ∷ Ok true ∷ []
end_at_a_packet_pointer = refl

-- offset 14 against the end of 13 bytes, the end against it, and an offset before the packet
-- against its end
pub packet_pointer_past_the_end : map
    (λ c. compared 13 c Full64 (in_packet (pos 14)) at_packet_end) orders
    ≡ Ok true ∷ Ok true ∷ Ok false ∷ Ok false ∷ []
packet_pointer_past_the_end = refl

pub end_before_a_packet_pointer : map
    (λ c. compared 13 c Full64 at_packet_end (in_packet (pos 14))) orders
    ≡ Ok false ∷ Ok false ∷ Ok true ∷ Ok true ∷ []
end_before_a_packet_pointer = refl

pub packet_pointer_before_the_packet : map
    (λ c. compared 0 c Full64 (in_packet (negsuc 0)) at_packet_end) orders
    ≡ Ok false ∷ Ok false ∷ Ok true ∷ Ok true ∷ []
packet_pointer_before_the_packet = refl

pub other_comparisons_with_the_end : map
    (λ c. compared 14 c Full64 (in_packet (pos 14)) at_packet_end) other_comparisons
    ≡ replicate 7 (Err BadCompare)
other_comparisons_with_the_end = refl

-- at 32 bits, two packet pointers, two ends, two frame pointers, and a pointer and a number
pub undefined_comparisons : compared 14 Greater Low32 (in_packet (pos 14)) at_packet_end
    ∷ compared 14 Greater Full64 (in_packet (pos 14)) (in_packet (pos 13))
    ∷ compared 14 Greater Full64 at_packet_end at_packet_end
    ∷ compared 14 Equal Full64 (Ptr (region.CallFrame 3) (pos 0)) (Ptr (region.CallFrame 3) (pos 0))
    ∷ compared 14 Equal Full64 (in_packet (pos 0)) (Num 0)
    ∷ compared 14 Equal Full64 (Num 0) (in_packet (pos 0)) ∷ []
    ≡ replicate 6 (Err BadCompare)
undefined_comparisons = refl

pub numbers_compared : compared 14 Greater Full64 (Num 0x100000000) (Num 1)
    ∷ compared 14 Greater Low32 (Num 0x100000000) (Num 1) ∷ [] ≡ Ok true ∷ Ok false ∷ []
unfolding holds
numbers_compared = refl

-- ---- comparisons with a constant

-- a pointer to a map value
abbrev pub in_map_value : Value
in_map_value = Ptr (region.MapValue 0 5) (pos 8)

-- a pointer to a map's value is never 0
pub null_tests : map (λ c. compared_constant c Full64 in_map_value (pos 0)) (Equal ∷ NotEqual ∷ [])
    ≡ Ok false ∷ Ok true ∷ []
null_tests = refl

-- by another comparison, at 32 bits, with other constants than 0, and of other pointers
pub undefined_null_tests : map (λ c. compared_constant c Full64 in_map_value (pos 0))
    (orders ++ AnyBit ∷ SignedGreater ∷ SignedGreaterEqual ∷ SignedLess ∷ SignedLessEqual ∷ [])
    ++ compared_constant Equal Low32 in_map_value (pos 0)
    ∷ compared_constant Equal Full64 in_map_value (pos 1)
    ∷ compared_constant Equal Full64 in_map_value (negsuc 0) ∷ []
    ++ map (λ r. compared_constant Equal Full64 (Ptr r (pos 0)) (pos 0))
    (region.Packet ∷ region.CallFrame 3 ∷ fixed)
    ≡ replicate 17 (Err BadCompare)
undefined_null_tests = refl

-- the constant -1 is sign-extended to the width
pub constants_compared : compared_constant Equal Full64 (Num 0xffffffffffffffff) (negsuc 0)
    ∷ compared_constant Equal Full64 (Num 0xffffffff) (negsuc 0)
    ∷ compared_constant Equal Low32 (Num 0xffffffff) (negsuc 0)
    ∷ compared_constant Less Full64 (Num 7) (negsuc 0) ∷ []
    ≡ Ok true ∷ Ok false ∷ Ok true ∷ Ok true ∷ []
unfolding holds
constants_compared = refl
