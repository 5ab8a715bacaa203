-- Worked examples: what small programs do, computed from the definitions only.
-- An end names its step, so `Exit a n` says that step n is the exit and that the n - 1 before it go
-- on; `Trap e n` says that n steps go on and the next one traps.
use Rattle.std.specs.Prelude.{◌≡◌, ℕ, zero, suc, false, ℤ, pos, negsuc, List, [], ◌∷◌, refl, replicate}
use Rattle.isa_model.specs.declared.registers.Reg.{Reg}
use Rattle.isa_model.specs.declared.registers.Reg.TheVariants.{R0, R1, R2, R3, R4, R5, R6, R7, R8, R10}
use Rattle.isa_model.specs.declared.sizes.Width.TheVariants.{Low32, Full64}
use Rattle.isa_model.specs.declared.sizes.Size.TheVariants.{U8, U32, U64}
use Rattle.isa_model.specs.declared.sizes.SignedSize.TheVariants.{S8}
use Rattle.isa_model.specs.declared.sizes.SwapWidth.TheVariants.{B16}
use Rattle.isa_model.specs.declared.sizes.ByteOrder.TheVariants.{Big}
use Rattle.isa_model.specs.declared.instructions.AluOp.TheVariants.{Add, Sub, SignedDiv, Rsh, Mod, SignedMod, Mov}
use Rattle.isa_model.specs.declared.instructions.AtomicOp.TheVariants as atomic
use Rattle.isa_model.specs.declared.instructions.Comparison.{Comparison}
use Rattle.isa_model.specs.declared.instructions.Comparison.TheVariants.{Equal, NotEqual, Greater, GreaterEqual, Less}
use Rattle.isa_model.specs.declared.instructions.Operand.TheVariants.{Constant, Register}
use Rattle.isa_model.specs.declared.instructions.Place.{Place}
use Rattle.isa_model.specs.declared.instructions.Insn.{Insn}
use Rattle.isa_model.specs.declared.instructions.Insn.TheVariants as insn
use Rattle.isa_model.specs.declared.ends.End.{End}
use Rattle.isa_model.specs.declared.ends.End.TheVariants.{Exit, Trap, Limit}
use Rattle.isa_model.specs.declared.ends.TrapReason.TheVariants.{NoCode, UnsetRead, ReadOnly, OutOfRange, BadAccess, TooManyCallFrames, NoResult}
use Rattle.isa_model.specs.declared.frames.FrameHead.{FrameHead}
use Rattle.isa_model.specs.Code.Numbers.{alu, holds, sign_extended, reordered}
use Rattle.isa_model.specs.Code.Instructions.{slots}
use Rattle.isa_model.specs.Machine.States.{new_call_frame}
use Rattle.isa_model.specs.Machine.Steps.{act, step}
use Rattle.isa_model.specs.Running.Runs.{start_state, progress, Turn, turn}
use Rattle.isa_model.specs.declared.versions.Version.TheVariants.{One}

-- ---- abbreviations

-- the head of a packet frame that came in by an interface
abbrev pub head_by : ℕ → FrameHead
head_by interface = record { time = 0; interface = interface; queue = 0 }

-- the turn of a run on a packet frame, with no maps and a clock that answers 0
abbrev pub turn_of_code : List Insn → FrameHead → List ℕ → ℕ → Turn
turn_of_code code head packet limit =
    turn (record { insns = slots code; maps = []; version = One }) limit (λ k. 0) head packet []

-- how it ends on this packet
abbrev pub end_on : List Insn → List ℕ → ℕ → End
end_on code packet limit = (turn_of_code code (head_by 0) packet limit).ends

-- r = k, r = q, r += k, r -= k, with 64 bits
abbrev pub set : Reg → ℤ → Insn
set r k = insn.Alu Full64 Mov r (Constant k)

abbrev pub copy : Reg → Reg → Insn
copy r q = insn.Alu Full64 Mov r (Register q)

abbrev pub add : Reg → ℤ → Insn
add r k = insn.Alu Full64 Add r (Constant k)

abbrev pub subtract : Reg → ℤ → Insn
subtract r k = insn.Alu Full64 Sub r (Constant k)

-- r + n, and r - n
abbrev pub above : Reg → ℕ → Place
above r n = record { base = r; offset = pos n }

abbrev pub minus : ℕ → ℤ
minus zero = pos 0
minus (suc m) = negsuc m

abbrev pub below : Reg → ℕ → Place
below r n = record { base = r; offset = minus n }

-- if r c k goto by, with 64 bits
abbrev pub if_constant : Comparison → Reg → ℤ → ℤ → Insn
if_constant c r k by =
    insn.JumpIf (record { width = Full64; comparison = c; register = r; operand = Constant k }) by

abbrev pub if_register : Comparison → Reg → Reg → ℤ → Insn
if_register c r q by =
    insn.JumpIf (record { width = Full64; comparison = c; register = r; operand = Register q }) by

-- ---- arithmetic

-- r0 = 2; exit
pub answers_a_constant : end_on (set R0 (pos 2) ∷ insn.Exit ∷ []) [] 2 ≡ Exit 2 2
unfolding turn progress start_state new_call_frame step act alu holds sign_extended reordered
answers_a_constant = refl

-- r0 = 0x100000002 ll; w1 = 0; w0 %= w1; exit
pub modulo_by_zero_clears_the_upper_half : end_on
    (insn.LoadNumber R0 0x100000002 ∷ insn.Alu Low32 Mov R1 (Constant (pos 0))
    ∷ insn.Alu Low32 Mod R0 (Register R1)
    ∷ insn.Exit ∷ []) [] 4 ≡ Exit 2 4
unfolding turn progress start_state new_call_frame step act alu holds sign_extended reordered
modulo_by_zero_clears_the_upper_half = refl

-- r0 = -1; r1 = 0; w0 %= w1; r0 >>= 31; exit
pub modulo_by_zero_of_minus_one : end_on
    (set R0 (minus 1) ∷ set R1 (pos 0) ∷ insn.Alu Low32 Mod R0 (Register R1)
    ∷ insn.Alu Full64 Rsh R0 (Constant (pos 31))
    ∷ insn.Exit ∷ []) [] 5 ≡ Exit 1 5
unfolding turn progress start_state new_call_frame step act alu holds sign_extended reordered
modulo_by_zero_of_minus_one = refl

-- r0 = -1; r1 = 0; w0 s%= w1; r0 >>= 31; exit
pub signed_modulo_by_zero_of_minus_one : end_on
    (set R0 (minus 1) ∷ set R1 (pos 0) ∷ insn.Alu Low32 SignedMod R0 (Register R1)
    ∷ insn.Alu Full64 Rsh R0 (Constant (pos 31))
    ∷ insn.Exit ∷ []) [] 5 ≡ Exit 1 5
unfolding turn progress start_state new_call_frame step act alu holds sign_extended reordered
signed_modulo_by_zero_of_minus_one = refl

-- r0 = 0x8000000000000000 ll; r1 = -1; r0 s/= r1; r0 >>= 62; exit
pub least_number_by_minus_one : end_on
    (insn.LoadNumber R0 0x8000000000000000 ∷ set R1 (minus 1)
    ∷ insn.Alu Full64 SignedDiv R0 (Register R1)
    ∷ insn.Alu Full64 Rsh R0 (Constant (pos 62)) ∷ insn.Exit ∷ []) [] 5 ≡ Exit 2 5
unfolding turn progress start_state new_call_frame step act alu holds sign_extended reordered
least_number_by_minus_one = refl

-- r0 = -13; r0 s%= 3; r0 += 3; exit
pub signed_modulo_cuts_toward_zero : end_on
    (set R0 (minus 13) ∷ insn.Alu Full64 SignedMod R0 (Constant (pos 3)) ∷ add R0 (pos 3)
    ∷ insn.Exit ∷ []) [] 4
    ≡ Exit 2 4
unfolding turn progress start_state new_call_frame step act alu holds sign_extended reordered
signed_modulo_cuts_toward_zero = refl

-- r0 = 0x102030405060708 ll; r0 = be16 r0; exit
pub big_endian_16_bits : end_on
    (insn.LoadNumber R0 0x102030405060708 ∷ insn.ByteSwap Big B16 R0 ∷ insn.Exit ∷ []) [] 3
    ≡ Exit 2055 3
unfolding turn progress start_state new_call_frame step act alu holds sign_extended reordered
big_endian_16_bits = refl

-- ---- jumps and loops

-- r1 = 0; r1 += 1; if r1 < 10 goto -2; r0 = 2; exit
pub counts_to_ten : end_on
    (set R1 (pos 0) ∷ add R1 (pos 1) ∷ if_constant Less R1 (pos 10) (minus 2) ∷ set R0 (pos 2)
    ∷ insn.Exit ∷ []) [] 23
    ≡ Exit 2 23
unfolding turn progress start_state new_call_frame step act alu holds sign_extended reordered
counts_to_ten = refl

-- r0 = 0; goto -1
pub endless_loop_meets_the_limit : end_on (set R0 (pos 0) ∷ insn.Jump (minus 1) ∷ []) [] 100 ≡ Limit
unfolding turn progress start_state new_call_frame step act alu holds sign_extended reordered
endless_loop_meets_the_limit = refl

-- r0 = 0x1 ll; goto -2
pub jump_into_a_second_half : end_on (insn.LoadNumber R0 1 ∷ insn.Jump (minus 2) ∷ []) [] 100
    ≡ Trap NoCode 2
unfolding turn progress start_state new_call_frame step act alu holds sign_extended reordered
jump_into_a_second_half = refl

-- r0 = 0
pub falls_off_the_end : end_on (set R0 (pos 0) ∷ []) [] 100 ≡ Trap NoCode 1
unfolding turn progress start_state new_call_frame step act alu holds sign_extended reordered
falls_off_the_end = refl

-- ---- registers

-- r0 = r2; exit
pub reads_an_unset_register : end_on (copy R0 R2 ∷ insn.Exit ∷ []) [] 100 ≡ Trap UnsetRead 0
unfolding turn progress start_state new_call_frame step act alu holds sign_extended reordered
reads_an_unset_register = refl

-- r10 = 0; exit
pub writes_the_frame_pointer : end_on (set R10 (pos 0) ∷ insn.Exit ∷ []) [] 100 ≡ Trap ReadOnly 0
unfolding turn progress start_state new_call_frame step act alu holds sign_extended reordered
writes_the_frame_pointer = refl

-- r0 = r10; exit
pub exits_with_a_pointer : end_on (copy R0 R10 ∷ insn.Exit ∷ []) [] 100 ≡ Trap NoResult 1
unfolding turn progress start_state new_call_frame step act alu holds sign_extended reordered
exits_with_a_pointer = refl

-- ---- the packet

-- r2 = *(u32 *)(r1 + 0); r3 = *(u32 *)(r1 + 4); r4 = r2; r4 += 14; if r4 c r3 goto +3;
-- r0 = *(u8 *)(r2 + n); r0 = 2; exit; r0 = 1; exit
abbrev pub guarded_load : Comparison → ℕ → List Insn
guarded_load c n =
    insn.Load U32 R2 (above R1 0) ∷ insn.Load U32 R3 (above R1 4) ∷ copy R4 R2 ∷ add R4 (pos 14)
    ∷ if_register c R4 R3 (pos 3)
    ∷ insn.Load U8 R0 (above R2 n) ∷ set R0 (pos 2) ∷ insn.Exit ∷ set R0 (pos 1) ∷ insn.Exit ∷ []

-- a packet of n zero bytes
abbrev pub zeros : ℕ → List ℕ
zeros n = replicate n 0

-- the 14th byte of 14
pub guarded_load_of_the_last_byte : end_on (guarded_load Greater 13) (zeros 14) 8 ≡ Exit 2 8
unfolding turn progress start_state new_call_frame step act alu holds sign_extended reordered
guarded_load_of_the_last_byte = refl

-- the 14th byte of 13
pub guard_turns_a_short_packet_away : end_on (guarded_load Greater 13) (zeros 13) 7 ≡ Exit 1 7
unfolding turn progress start_state new_call_frame step act alu holds sign_extended reordered
guard_turns_a_short_packet_away = refl

-- the 15th byte of 14
pub guarded_load_past_the_guard : end_on (guarded_load Greater 14) (zeros 14) 100 ≡ Trap BadAccess 5
unfolding turn progress start_state new_call_frame step act alu holds sign_extended reordered
guarded_load_past_the_guard = refl

-- the 15th byte, after a guard that wants more than 14
pub strict_guard_turns_its_own_length_away : end_on (guarded_load GreaterEqual 14) (zeros 14) 7
    ≡ Exit 1 7
unfolding turn progress start_state new_call_frame step act alu holds sign_extended reordered
strict_guard_turns_its_own_length_away = refl

-- and on a packet of 15
pub strict_guard_lets_one_byte_more_through : end_on (guarded_load GreaterEqual 14) (zeros 15) 8
    ≡ Exit 2 8
unfolding turn progress start_state new_call_frame step act alu holds sign_extended reordered
strict_guard_lets_one_byte_more_through = refl

-- r2 = *(u32 *)(r1 + 0); r2 += k; r0 = 1; exit
abbrev pub far_pointer : ℤ → List Insn
far_pointer k = insn.Load U32 R2 (above R1 0) ∷ add R2 k ∷ set R0 (pos 1) ∷ insn.Exit ∷ []

-- 2^29 is in
pub offset_at_its_limit : end_on (far_pointer (pos 536870912)) [] 4 ≡ Exit 1 4
unfolding turn progress start_state new_call_frame step act alu holds sign_extended reordered
offset_at_its_limit = refl

-- 2^29 + 1 is out
pub offset_past_its_limit : end_on (far_pointer (pos 536870913)) [] 100 ≡ Trap OutOfRange 1
unfolding turn progress start_state new_call_frame step act alu holds sign_extended reordered
offset_past_its_limit = refl

-- r2 = *(u32 *)(r1 + 0); r3 = 0x100000000 ll; r2 += r3; r0 = 1; exit
pub offset_does_not_wrap : end_on
    (insn.Load U32 R2 (above R1 0) ∷ insn.LoadNumber R3 0x100000000
    ∷ insn.Alu Full64 Add R2 (Register R3)
    ∷ set R0 (pos 1) ∷ insn.Exit ∷ []) [] 100 ≡ Trap OutOfRange 2
unfolding turn progress start_state new_call_frame step act alu holds sign_extended reordered
offset_does_not_wrap = refl

-- r2 = *(u32 *)(r1 + 0); r3 = *(u32 *)(r1 + 4); r4 = r2; r4 += 8; if r4 > r3 goto +4; r5 = 1;
-- lock *(u64 *)(r2 + 0) += r5; r0 = 2; exit; r0 = 1; exit
abbrev pub counts_in_the_packet : List Insn
counts_in_the_packet =
    insn.Load U32 R2 (above R1 0) ∷ insn.Load U32 R3 (above R1 4) ∷ copy R4 R2 ∷ add R4 (pos 8)
    ∷ if_register Greater R4 R3 (pos 4)
    ∷ set R5 (pos 1) ∷ insn.Atomic Full64 atomic.Add false (above R2 0) R5 ∷ set R0 (pos 2)
    ∷ insn.Exit
    ∷ set R0 (pos 1) ∷ insn.Exit ∷ []

-- the packet is left with the sum
pub atomic_add_in_the_packet : turn_of_code counts_in_the_packet (head_by 0) (zeros 8) 9
    ≡ record { ends = Exit 2 9; packet = 1 ∷ zeros 7; contents = []; clock_calls = 0 }
unfolding turn progress start_state new_call_frame step act alu holds sign_extended reordered
atomic_add_in_the_packet = refl

-- ---- the stack

-- r8 = *(u32 *)(r1 + 12); r2 = 0; *(u64 *)(r10 - 16) = r2; r3 = r10; r3 += -16;
-- *(u64 *)(r10 - 8) = r8;
-- if r8 == 7 goto +1; *(u64 *)(r10 - 8) = r3; r8 = 0; r4 = *(u64 *)(r10 - 8);
-- r0 = *(u64 *)(r4 + 0); exit
abbrev pub spills_by_interface : List Insn
spills_by_interface =
    insn.Load U32 R8 (above R1 12) ∷ set R2 (pos 0) ∷ insn.Store U64 (below R10 16) R2 ∷ copy R3 R10
    ∷ add R3 (minus 16)
    ∷ insn.Store U64 (below R10 8) R8 ∷ if_constant Equal R8 (pos 7) (pos 1)
    ∷ insn.Store U64 (below R10 8) R3 ∷ set R8 (pos 0)
    ∷ insn.Load U64 R4 (below R10 8) ∷ insn.Load U64 R0 (above R4 0) ∷ insn.Exit ∷ []

-- on interface 5 the pointer is spilled
pub spilled_pointer_is_loaded_whole : (turn_of_code spills_by_interface (head_by 5) [] 12).ends
    ≡ Exit 0 12
unfolding turn progress start_state new_call_frame step act alu holds sign_extended reordered
spilled_pointer_is_loaded_whole = refl

-- on interface 7 the number 7 is
pub spilled_number_is_no_pointer : (turn_of_code spills_by_interface (head_by 7) [] 100).ends
    ≡ Trap BadAccess 9
unfolding turn progress start_state new_call_frame step act alu holds sign_extended reordered
spilled_number_is_no_pointer = refl

-- *(u64 *)(r10 - 8) = r10; *(u8 *)(r10 - 8) = 0; r4 = *(u64 *)(r10 - 8); r0 = 0; exit
pub overwritten_spill_is_no_pointer : end_on
    (insn.Store U64 (below R10 8) R10 ∷ insn.StoreConstant U8 (below R10 8) (pos 0)
    ∷ insn.Load U64 R4 (below R10 8)
    ∷ set R0 (pos 0) ∷ insn.Exit ∷ []) [] 100 ≡ Trap BadAccess 2
unfolding turn progress start_state new_call_frame step act alu holds sign_extended reordered
overwritten_spill_is_no_pointer = refl

-- *(u32 *)(r10 - 8) = 5; r0 = *(u64 *)(r10 - 8); exit
pub load_of_unwritten_bytes : end_on
    (insn.StoreConstant U32 (below R10 8) (pos 5) ∷ insn.Load U64 R0 (below R10 8) ∷ insn.Exit ∷ [])
    [] 100
    ≡ Trap UnsetRead 1
unfolding turn progress start_state new_call_frame step act alu holds sign_extended reordered
load_of_unwritten_bytes = refl

-- *(u64 *)(r10 - 8) = -2; r0 = *(s8 *)(r10 - 8); r0 += 4; exit
pub sign_extending_load : end_on
    (insn.StoreConstant U64 (below R10 8) (minus 2) ∷ insn.LoadSx S8 R0 (below R10 8)
    ∷ add R0 (pos 4) ∷ insn.Exit ∷ []) [] 4
    ≡ Exit 2 4
unfolding turn progress start_state new_call_frame step act alu holds sign_extended reordered
sign_extending_load = refl

-- *(u32 *)(r10 - 8) = 5; r0 = 0x100000005 ll; r1 = 9; r0 = cmpxchg_32(r10 - 8, r0, r1); exit
pub compare_exchange_of_4_bytes : end_on
    (insn.StoreConstant U32 (below R10 8) (pos 5) ∷ insn.LoadNumber R0 0x100000005 ∷ set R1 (pos 9)
    ∷ insn.CompareExchange Low32 (below R10 8) R1 ∷ insn.Exit ∷ []) [] 5 ≡ Exit 5 5
unfolding turn progress start_state new_call_frame step act alu holds sign_extended reordered
compare_exchange_of_4_bytes = refl

-- r6 = 0; *(u64 *)(r10 - 512) = r6; r7 = *(u64 *)(r10 - 512); r7 += 3; *(u64 *)(r10 - 512) = r7;
-- if r7 != 300 goto -4;
-- r0 = r7; r0 -= 298; exit
abbrev pub counts_on_the_stack : List Insn
counts_on_the_stack =
    set R6 (pos 0) ∷ insn.Store U64 (below R10 512) R6 ∷ insn.Load U64 R7 (below R10 512)
    ∷ add R7 (pos 3)
    ∷ insn.Store U64 (below R10 512) R7 ∷ if_constant NotEqual R7 (pos 300) (minus 4) ∷ copy R0 R7
    ∷ subtract R0 (pos 298)
    ∷ insn.Exit ∷ []

-- the loop has 100 turns
pub counts_at_the_first_byte_of_the_stack : end_on counts_on_the_stack [] 405 ≡ Exit 2 405
unfolding turn progress start_state new_call_frame step act alu holds sign_extended reordered
counts_at_the_first_byte_of_the_stack = refl

-- ---- local calls

-- r1 = 5; call pc+1; exit; r0 = r1; r0 -= 3; exit
pub arguments_are_handed_over : end_on
    (set R1 (pos 5) ∷ insn.CallLocal (pos 1) ∷ insn.Exit ∷ copy R0 R1 ∷ subtract R0 (pos 3)
    ∷ insn.Exit ∷ []) [] 6
    ≡ Exit 2 6
unfolding turn progress start_state new_call_frame step act alu holds sign_extended reordered
arguments_are_handed_over = refl

-- call pc-1; exit
pub ninth_call_frame : end_on (insn.CallLocal (minus 1) ∷ insn.Exit ∷ []) [] 100
    ≡ Trap TooManyCallFrames 7
unfolding turn progress start_state new_call_frame step act alu holds sign_extended reordered
ninth_call_frame = refl

-- call pc+1; exit; r0 = r10; exit
pub pointer_into_a_call_frame_that_has_ended : end_on
    (insn.CallLocal (pos 1) ∷ insn.Exit ∷ copy R0 R10 ∷ insn.Exit ∷ []) [] 100 ≡ Trap NoResult 3
unfolding turn progress start_state new_call_frame step act alu holds sign_extended reordered
pointer_into_a_call_frame_that_has_ended = refl

-- r1 = r10; r1 += -8; call pc+1; exit; *(u64 *)(r1 + 0) = r10; r0 = 0; exit
pub frame_pointer_stored_in_the_callers_stack : end_on
    (copy R1 R10 ∷ add R1 (minus 8) ∷ insn.CallLocal (pos 1) ∷ insn.Exit
    ∷ insn.Store U64 (above R1 0) R10
    ∷ set R0 (pos 0) ∷ insn.Exit ∷ []) [] 7 ≡ Exit 0 7
unfolding turn progress start_state new_call_frame step act alu holds sign_extended reordered
frame_pointer_stored_in_the_callers_stack = refl
