-- Worked examples of jumps, local calls and exits, and of the order of traps, computed from the
-- definitions.
use Rattle.std.specs.Prelude.{◌≡◌, ℤ, pos, negsuc, List, [], ◌∷◌, ◌++◌, map, replicate, refl}
use Rattle.isa_model.specs.declared.registers.Reg.{Reg}
use Rattle.isa_model.specs.declared.registers.Reg.TheVariants.{R0, R1, R2, R3, R4, R5, R6, R7, R8, R9, R10}
use Rattle.isa_model.specs.declared.sizes.Width.TheVariants.{Low32, Full64}
use Rattle.isa_model.specs.declared.sizes.Size.TheVariants.{U8, U64}
use Rattle.isa_model.specs.declared.sizes.SignedSize.TheVariants.{S8}
use Rattle.isa_model.specs.declared.sizes.Extension.TheVariants.{Full8}
use Rattle.isa_model.specs.declared.sizes.SwapWidth.TheVariants.{B16}
use Rattle.isa_model.specs.declared.sizes.ByteOrder.TheVariants.{Little}
use Rattle.isa_model.specs.declared.instructions.AluOp.TheVariants.{Add, Mov}
use Rattle.isa_model.specs.declared.instructions.Comparison.TheVariants.{Equal, NotEqual}
use Rattle.isa_model.specs.declared.instructions.Operand.TheVariants.{Constant, Register}
use Rattle.isa_model.specs.declared.instructions.Insn.{Insn}
use Rattle.isa_model.specs.declared.instructions.Insn.TheVariants as insn
use Rattle.isa_model.specs.declared.ends.End.{End}
use Rattle.isa_model.specs.declared.ends.End.TheVariants.{Exit, Trap, Limit}
use Rattle.isa_model.specs.declared.ends.TrapReason.TheVariants.{NoCode, UnsetRead, ReadOnly, BadAccess, TooManyCallFrames, NoResult}
use Rattle.isa_model.specs.Code.Numbers.{alu, holds, sign_extended, reordered}
use Rattle.isa_model.specs.Machine.States.{new_call_frame}
use Rattle.isa_model.specs.Machine.Steps.{act, step}
use Rattle.isa_model.specs.Running.Runs.{start_state, progress, turn}
use Rattle.isa_model.specs.Worked.Examples.{end_on, set, copy, add, above, below, if_constant, if_register}

-- ---- jumps

-- i; r0 = 1; exit; r0 = 2; exit
abbrev pub past_one : Insn → End
past_one i = end_on (i ∷ set R0 (pos 1) ∷ insn.Exit ∷ set R0 (pos 2) ∷ insn.Exit ∷ []) [] 3

pub jumps_count_from_the_next_slot : map past_one
    (insn.Jump (pos 2) ∷ insn.Jump (pos 0) ∷ insn.JumpLong (pos 2) ∷ insn.JumpLong (pos 0) ∷ [])
    ≡ Exit 2 3 ∷ Exit 1 3 ∷ Exit 2 3 ∷ Exit 1 3 ∷ []
unfolding turn progress start_state new_call_frame step act alu holds sign_extended reordered
jumps_count_from_the_next_slot = refl

-- after the last slot, past it, and before slot 0
pub jumps_out_of_the_code : map past_one
    (insn.Jump (pos 4) ∷ insn.Jump (pos 300) ∷ insn.Jump (negsuc 1)
    ∷ insn.JumpLong (negsuc 0x7fffffff) ∷ insn.CallLocal (pos 4) ∷ insn.CallLocal (negsuc 1) ∷ [])
    ≡ replicate 6 (Trap NoCode 1)
unfolding turn progress start_state new_call_frame step act alu holds sign_extended reordered
jumps_out_of_the_code = refl

-- r3 = 0; i; r0 = 1; exit; r0 = 2; exit: where the test holds, two slots on
pub conditional_jumps : map
    (λ i. end_on (set R3 (pos 0) ∷ i ∷ set R0 (pos 1) ∷ insn.Exit ∷ set R0 (pos 2) ∷ insn.Exit ∷ [])
    [] 4)
    (if_constant Equal R3 (pos 0) (pos 2) ∷ if_constant Equal R3 (pos 1) (pos 2)
    ∷ if_register NotEqual R3 R3 (pos 2) ∷ if_register Equal R3 R3 (pos 2) ∷ [])
    ≡ Exit 2 4 ∷ Exit 1 4 ∷ Exit 1 4 ∷ Exit 2 4 ∷ []
unfolding turn progress start_state new_call_frame step act alu holds sign_extended reordered
conditional_jumps = refl

-- a wide load fills two slots: r0 = 7 ll; exit, and goto +2 over it
pub wide_loads_fill_two_slots : end_on (insn.LoadNumber R0 7 ∷ insn.Exit ∷ []) [] 2
    ∷ end_on (insn.Jump (pos 2) ∷ insn.LoadNumber R1 7 ∷ set R0 (pos 1) ∷ insn.Exit ∷ []) [] 3
    ∷ end_on (insn.Jump (pos 1) ∷ insn.LoadNumber R1 7 ∷ set R0 (pos 1) ∷ insn.Exit ∷ []) [] 3 ∷ []
    ≡ Exit 7 2 ∷ Exit 1 3 ∷ Trap NoCode 1 ∷ []
unfolding turn progress start_state new_call_frame step act alu holds sign_extended reordered
wide_loads_fill_two_slots = refl

-- r0 = 1; exit, within 2 steps and within 1
pub exit_at_the_limit : map (end_on (set R0 (pos 1) ∷ insn.Exit ∷ []) []) (2 ∷ 1 ∷ [])
    ≡ Exit 1 2 ∷ Limit ∷ []
unfolding turn progress start_state new_call_frame step act alu holds sign_extended reordered
exit_at_the_limit = refl

-- a trap at the step after the limit is not met
pub trap_behind_the_limit : map (end_on (set R1 (pos 1) ∷ insn.Exit ∷ []) []) (2 ∷ 1 ∷ [])
    ≡ Trap NoResult 1 ∷ Limit ∷ []
unfolding turn progress start_state new_call_frame step act alu holds sign_extended reordered
trap_behind_the_limit = refl

-- ---- registers that have to be set, and r10

-- each form reads r3, which is unset
pub reads_of_an_unset_register : map past_one
    (insn.Alu Full64 Add R3 (Constant (pos 1)) ∷ insn.Alu Full64 Add R1 (Register R3)
    ∷ insn.Alu Low32 Mov R0 (Register R3)
    ∷ insn.Neg Full64 R3 ∷ insn.MovSx Full8 R0 R3 ∷ insn.ByteSwap Little B16 R3
    ∷ insn.Load U8 R0 (above R3 0) ∷ insn.LoadSx S8 R0 (above R3 0)
    ∷ insn.StoreConstant U8 (above R3 0) (pos 1) ∷ insn.Store U8 (above R3 0) R1
    ∷ insn.Store U8 (below R10 8) R3
    ∷ if_constant Equal R3 (pos 0) (pos 1) ∷ if_register Equal R3 R1 (pos 1)
    ∷ if_register Equal R1 R3 (pos 1) ∷ [])
    ≡ replicate 14 (Trap UnsetRead 0)
unfolding turn progress start_state new_call_frame step act alu holds sign_extended reordered
reads_of_an_unset_register = refl

-- MOV, wide loads and loads do not read their destination register; this load reads unwritten
-- bytes
pub destinations_that_are_not_read : map past_one
    (insn.Alu Full64 Mov R3 (Register R1) ∷ insn.Alu Low32 Mov R3 (Constant (pos 1))
    ∷ insn.LoadNumber R3 1 ∷ insn.Load U64 R3 (below R10 8) ∷ [])
    ≡ Exit 1 3 ∷ Exit 1 3 ∷ Exit 1 3 ∷ Trap UnsetRead 0 ∷ []
unfolding turn progress start_state new_call_frame step act alu holds sign_extended reordered
destinations_that_are_not_read = refl

-- at the start only r1 and r10 are set
pub registers_at_the_start : map (λ r. past_one (insn.Alu Full64 Mov R0 (Register r)))
    (R0 ∷ R1 ∷ R2 ∷ R3 ∷ R4 ∷ R5 ∷ R6 ∷ R7 ∷ R8 ∷ R9 ∷ R10 ∷ [])
    ≡ Trap UnsetRead 0 ∷ Exit 1 3 ∷ replicate 8 (Trap UnsetRead 0) ++ Exit 1 3 ∷ []
unfolding turn progress start_state new_call_frame step act alu holds sign_extended reordered
registers_at_the_start = refl

-- no form writes r10
pub writes_of_the_frame_pointer : map past_one
    (insn.Alu Full64 Mov R10 (Constant (pos 1)) ∷ insn.Alu Full64 Add R10 (Constant (pos 0))
    ∷ insn.Neg Full64 R10 ∷ insn.MovSx Full8 R10 R1
    ∷ insn.ByteSwap Little B16 R10 ∷ insn.LoadNumber R10 1 ∷ insn.Load U8 R10 (above R1 0)
    ∷ insn.LoadSx S8 R10 (above R1 0) ∷ [])
    ≡ replicate 8 (Trap ReadOnly 0)
unfolding turn progress start_state new_call_frame step act alu holds sign_extended reordered
writes_of_the_frame_pointer = refl

-- r10 = r3: the unset register counts first
pub unset_before_readonly : past_one (copy R10 R3) ≡ Trap UnsetRead 0
unfolding turn progress start_state new_call_frame step act alu holds sign_extended reordered
unset_before_readonly = refl

-- ---- calls

-- r0 += r
abbrev pub add_register : Reg → Insn
add_register r = insn.Alu Full64 Add R0 (Register r)

-- r6 = 6; r7 = 7; r8 = 8; r9 = 9; call pc+6; r0 += r6; r0 += r7; r0 += r8; r0 += r9; i; exit;
-- r6 = 60; r7 = 70; r8 = 80; r9 = 90; r1 = 1; r0 = 100; exit
abbrev pub kept_over_a_call : Insn → End
kept_over_a_call i =
    end_on (set R6 (pos 6) ∷ set R7 (pos 7) ∷ set R8 (pos 8) ∷ set R9 (pos 9)
    ∷ insn.CallLocal (pos 6) ∷ add_register R6 ∷ add_register R7 ∷ add_register R8
    ∷ add_register R9 ∷ i ∷ insn.Exit
    ∷ set R6 (pos 60) ∷ set R7 (pos 70) ∷ set R8 (pos 80) ∷ set R9 (pos 90) ∷ set R1 (pos 1)
    ∷ set R0 (pos 100) ∷ insn.Exit ∷ []) [] 18

-- r6 to r9 and r10 are the caller's, r0 is returned
pub registers_kept : kept_over_a_call (insn.StoreConstant U8 (below R10 512) (pos 1)) ≡ Exit 130 18
unfolding turn progress start_state new_call_frame step act alu holds sign_extended reordered
registers_kept = refl

-- r1 to r5 are unset after it
pub arguments_unset_after : map (λ r. kept_over_a_call (copy R0 r)) (R1 ∷ R2 ∷ R3 ∷ R4 ∷ R5 ∷ [])
    ≡ replicate 5 (Trap UnsetRead 16)
unfolding turn progress start_state new_call_frame step act alu holds sign_extended reordered
arguments_unset_after = refl

-- r0 to r9 = 1; call pc+1; exit; and within, inner; exit
abbrev pub within_a_call : List Insn → End
within_a_call inner =
    end_on (map (λ r. set r (pos 1)) (R0 ∷ R1 ∷ R2 ∷ R3 ∷ R4 ∷ R5 ∷ R6 ∷ R7 ∷ R8 ∷ R9 ∷ [])
    ++ insn.CallLocal (pos 1) ∷ insn.Exit ∷ inner ++ insn.Exit ∷ []) [] 14

-- r1 to r5 are passed; r0 and r6 to r9 are unset within
pub registers_within : map (λ r. within_a_call (copy R0 r ∷ []))
    (R0 ∷ R1 ∷ R2 ∷ R3 ∷ R4 ∷ R5 ∷ R6 ∷ R7 ∷ R8 ∷ R9 ∷ [])
    ≡ Trap UnsetRead 11 ∷ replicate 5 (Exit 1 14) ++ replicate 4 (Trap UnsetRead 11)
unfolding turn progress start_state new_call_frame step act alu holds sign_extended reordered
registers_within = refl

-- r0 is returned unset, too
pub answer_handed_over_unset : within_a_call [] ≡ Trap NoResult 12
unfolding turn progress start_state new_call_frame step act alu holds sign_extended reordered
answer_handed_over_unset = refl

-- unset arguments are no trap: call pc+1; exit; r0 = 3; exit
pub call_with_no_arguments : end_on
    (insn.CallLocal (pos 1) ∷ insn.Exit ∷ set R0 (pos 3) ∷ insn.Exit ∷ []) [] 4 ≡ Exit 3 4
unfolding turn progress start_state new_call_frame step act alu holds sign_extended reordered
call_with_no_arguments = refl

-- *(u64 *)(r10 - 8) = 5; call pc+2; r0 = *(u64 *)(r10 - 8); exit; and within, i; r0 = 1; exit
abbrev pub with_call_frames_of_their_own : Insn → End
with_call_frames_of_their_own i =
    end_on (insn.StoreConstant U64 (below R10 8) (pos 5) ∷ insn.CallLocal (pos 2)
    ∷ insn.Load U64 R0 (below R10 8) ∷ insn.Exit ∷ i ∷ set R0 (pos 1) ∷ insn.Exit ∷ []) [] 7

-- each function has a stack of its own, in which nothing is written at its start
pub call_frames_of_their_own : map with_call_frames_of_their_own
    (insn.StoreConstant U64 (below R10 8) (pos 9) ∷ insn.Load U64 R1 (below R10 8) ∷ [])
    ≡ Exit 5 7 ∷ Trap UnsetRead 2 ∷ []
unfolding turn progress start_state new_call_frame step act alu holds sign_extended reordered
call_frames_of_their_own = refl

-- call pc+3; r1 = r0; call pc+3; exit; r0 = r10; exit; *(u64 *)(r10 - 8) = 1;
-- r0 = *(u64 *)(r1 - 8); exit:
-- the call frame of the first call is gone for ever, also while another one lives at its depth
pub pointer_into_a_call_frame_that_is_gone : end_on
    (insn.CallLocal (pos 3) ∷ copy R1 R0 ∷ insn.CallLocal (pos 3) ∷ insn.Exit ∷ copy R0 R10
    ∷ insn.Exit
    ∷ insn.StoreConstant U64 (below R10 8) (pos 1) ∷ insn.Load U64 R0 (below R1 8) ∷ insn.Exit ∷ [])
    [] 100
    ≡ Trap BadAccess 6
unfolding turn progress start_state new_call_frame step act alu holds sign_extended reordered
pointer_into_a_call_frame_that_is_gone = refl

-- r1 = n; if r1 == 0 goto +2; r1 -= 1; call pc-3; r0 = 4; exit
abbrev pub deep : ℤ → End
deep n =
    end_on (set R1 n ∷ if_constant Equal R1 (pos 0) (pos 2) ∷ add R1 (negsuc 0)
    ∷ insn.CallLocal (negsuc 2) ∷ set R0 (pos 4) ∷ insn.Exit ∷ []) [] 100

-- seven calls in one another make eight call frames, and the eighth call, for a ninth, traps
pub eight_call_frames : map deep (pos 7 ∷ pos 8 ∷ []) ≡ Exit 4 39 ∷ Trap TooManyCallFrames 24 ∷ []
unfolding turn progress start_state new_call_frame step act alu holds sign_extended reordered
eight_call_frames = refl
