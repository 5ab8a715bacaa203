-- Worked examples of the calls of helpers and of wide loads of maps, computed from the definitions.
use Rattle.std.specs.Prelude.{◌≡◌, ℕ, ◌+◌, ℤ, pos, List, [], ◌∷◌, ◌++◌, map, replicate, refl}
use Rattle.isa_model.specs.declared.registers.Reg.{Reg}
use Rattle.isa_model.specs.declared.registers.Reg.TheVariants.{R0, R1, R2, R3, R4, R5, R6, R10}
use Rattle.isa_model.specs.declared.sizes.Size.TheVariants.{U8, U32, U64}
use Rattle.isa_model.specs.declared.instructions.Insn.{Insn}
use Rattle.isa_model.specs.declared.instructions.Insn.TheVariants as insn
use Rattle.isa_model.specs.declared.map_defs.MapDef.{MapDef}
use Rattle.isa_model.specs.declared.ends.End.{End}
use Rattle.isa_model.specs.declared.ends.End.TheVariants.{Exit, Trap}
use Rattle.isa_model.specs.declared.ends.TrapReason.TheVariants.{UnsetRead, BadAccess, BadHelper}
use Rattle.isa_model.specs.Code.Numbers.{alu}
use Rattle.isa_model.specs.Code.Instructions.{slots}
use Rattle.isa_model.specs.Machine.States.{KeyValues, new_call_frame}
use Rattle.isa_model.specs.Machine.Steps.{act, step}
use Rattle.isa_model.specs.Running.Runs.{start_state, progress, Turn, turn}
use Rattle.isa_model.specs.Worked.Examples.{head_by, end_on, set, copy, add, above, below, minus}
use Rattle.isa_model.specs.Worked.MapExamples.{one_key, one_index, index, map_value, zero_filled}
use Rattle.isa_model.specs.declared.versions.Version.TheVariants.{One}

-- the turn of a run on a packet frame of no bytes, with one map, and a clock that answers 7, 8, ..
abbrev pub turn_with : MapDef → KeyValues → List Insn → Turn
turn_with row content code =
    turn (record { insns = slots code; maps = row ∷ []; version = One }) 100 (λ k. k + 7)
    (head_by 0) [] (content ∷ [])

-- a turn that leaves the map with this content, where the run did not ask the clock
abbrev pub turn_leaving : End → KeyValues → Turn
turn_leaving e content = record { ends = e; packet = []; contents = content ∷ []; clock_calls = 0 }

-- how it ends
abbrev pub end_with : MapDef → KeyValues → List Insn → End
end_with row content code = (turn_with row content code).ends

-- ---- abbreviations

-- call map_lookup_elem, call map_update_elem, call map_delete_elem, call ktime_get_ns
abbrev pub lookup : Insn
lookup = insn.CallHelper (pos 1)

abbrev pub update : Insn
update = insn.CallHelper (pos 2)

abbrev pub delete : Insn
delete = insn.CallHelper (pos 3)

abbrev pub ktime : Insn
ktime = insn.CallHelper (pos 5)

-- r = r10 - n
abbrev pub stack : Reg → ℕ → List Insn
stack r n = copy r R10 ∷ add r (minus n) ∷ []

-- r1 = map_by_idx(0); r2 = r10; r2 += -n
abbrev pub map_and_key : ℕ → List Insn
map_and_key n = insn.LoadMap R1 0 ∷ stack R2 n

-- *(u8 *)(r10 - n) = k
abbrev pub store_byte : ℕ → ℕ → Insn
store_byte n k = insn.StoreConstant U8 (below R10 n) (pos k)

-- r1 = map_by_idx(0); r2 = r10; r2 += -1; r3 = r10; r3 += -2; r4 = 0; call 2
abbrev pub update_bytes : List Insn
update_bytes = map_and_key 1 ++ stack R3 2 ++ set R4 (pos 0) ∷ update ∷ []

-- ---- arrays

-- map array 4 8 1:
-- *(u32 *)(r10 - 4) = 1; *(u64 *)(r10 - 16) = 0; r1 = map_by_idx(0); r2 = r10; r2 += -4; r3 = r10;
-- r3 += -16;
-- r4 = flags; call 2; r0 += more; exit
abbrev pub update_past_the_end : ℤ → ℤ → Turn
update_past_the_end flags more =
    turn_with one_index zero_filled
    (insn.StoreConstant U32 (below R10 4) (pos 1) ∷ insn.StoreConstant U64 (below R10 16) (pos 0)
    ∷ map_and_key 4 ++ stack R3 16 ++ set R4 flags ∷ update ∷ add R0 more ∷ insn.Exit ∷ [])

-- past the end it is -7, and with flags over 2 it is -22 before that; nothing is written
pub updates_past_the_end : update_past_the_end (pos 1) (pos 9)
    ∷ update_past_the_end (pos 9) (pos 24) ∷ []
    ≡ replicate 2 (turn_leaving (Exit 2 11) zero_filled)
unfolding turn progress start_state new_call_frame step act alu
updates_past_the_end = refl

-- ---- hash maps

-- map hash 1 1 2
abbrev pub two_key_row : MapDef
two_key_row = record one_key { entries = 2 }

-- key 9 is put with 7, and key 3 with 7; the keys are in order
pub two_keys : turn_with two_key_row []
    (store_byte 1 9 ∷ store_byte 2 7 ∷ update_bytes ++ store_byte 1 3 ∷ update_bytes
    ++ set R0 (pos 2) ∷ insn.Exit ∷ [])
    ≡ turn_leaving (Exit 2 19) ((3 ∷ [], 7 ∷ []) ∷ (9 ∷ [], 7 ∷ []) ∷ [])
unfolding turn progress start_state new_call_frame step act alu
two_keys = refl

-- map hash 1 1 1: key 9 is put with 7 and looked up into r6; `is` run; it is put again;
-- r0 = *(u8 *)(r6 + 0); exit
abbrev pub put_again_after : List Insn → Turn
put_again_after is =
    turn_with one_key []
    (store_byte 1 9 ∷ store_byte 2 7 ∷ update_bytes ++ map_and_key 1 ++ lookup ∷ copy R6 R0 ∷ is
    ++ update_bytes
    ++ insn.Load U8 R0 (above R6 0) ∷ insn.Exit ∷ [])

-- deleted in between: what r6 points to is gone for ever, though the map has the key again
pub pointer_to_a_deleted_map_value : put_again_after (map_and_key 1 ++ delete ∷ [])
    ≡ turn_leaving (Trap BadAccess 25) ((9 ∷ [], 7 ∷ []) ∷ [])
unfolding turn progress start_state new_call_frame step act alu
pointer_to_a_deleted_map_value = refl

-- and with no delete: the key's value is written over, and r6 points to it still
pub pointer_to_a_kept_map_value : put_again_after (store_byte 2 8 ∷ [])
    ≡ turn_leaving (Exit 8 24) ((9 ∷ [], 8 ∷ []) ∷ [])
unfolding turn progress start_state new_call_frame step act alu
pointer_to_a_kept_map_value = refl

-- *(u8 *)(r10 - 1) = 9; r1 = map_by_idx(0); r2 = r10; r2 += -1; i; r0 += 2; exit
abbrev pub on_an_absent_key : Insn → End
on_an_absent_key i =
    end_with one_key [] (store_byte 1 9 ∷ map_and_key 1 ++ i ∷ add R0 (pos 2) ∷ insn.Exit ∷ [])

-- a look-up gives 0, and a delete -2
pub absent_key : map on_an_absent_key (lookup ∷ delete ∷ [])
    ≡ Exit 2 7 ∷ Exit 0 7 ∷ []
unfolding turn progress start_state new_call_frame step act alu
absent_key = refl

-- ---- the order of the tests

-- an unset argument before everything, and an unknown helper reads none: call 1; exit, call 4;
-- exit, and with r3 unset
pub unset_arguments : end_on (lookup ∷ insn.Exit ∷ []) [] 9
    ∷ end_on (insn.CallHelper (pos 4) ∷ insn.Exit ∷ []) [] 9
    ∷ end_with one_key [] (map_and_key 1 ++ set R4 (pos 0) ∷ update ∷ insn.Exit ∷ []) ∷ []
    ≡ Trap UnsetRead 0 ∷ Trap BadHelper 0 ∷ Trap UnsetRead 4 ∷ []
unfolding turn progress start_state new_call_frame step act alu
unset_arguments = refl

-- j; r1 = map_by_idx(0); r2 = r10; r2 += -1; r3 = r10; r3 += -2; r4 = 0; i; call 2; exit:
-- the byte of the key is at r10 - 1, and that of the value at r10 - 2
abbrev pub update_by : Insn → Insn → End
update_by j i =
    end_with one_key []
    (j ∷ map_and_key 1 ++ stack R3 2 ++ set R4 (pos 0) ∷ i ∷ update ∷ insn.Exit ∷ [])

-- the type of each argument is tested before the key, which is unwritten
pub types_of_arguments : map (update_by (set R0 (pos 0)))
    (set R1 (pos 0) ∷ copy R1 R10 ∷ set R2 (pos 0) ∷ copy R2 R1 ∷ set R3 (pos 0) ∷ copy R3 R1
    ∷ copy R4 R10 ∷ [])
    ≡ replicate 7 (Trap BadHelper 8)
unfolding turn progress start_state new_call_frame step act alu
types_of_arguments = refl

-- the key is unwritten and the value past the call frame, the key is past the call frame and the
-- value unwritten: the key comes first
pub key_before_value : update_by (set R0 (pos 0)) (copy R3 R10)
    ∷ update_by (set R0 (pos 0)) (copy R2 R10) ∷ []
    ≡ Trap UnsetRead 8 ∷ Trap BadAccess 8 ∷ []
unfolding turn progress start_state new_call_frame step act alu
key_before_value = refl

-- the key is there. The value is past the call frame, and it is unwritten where the flags are over
-- 2: the value comes first
pub value_before_flags : update_by (store_byte 1 9) (copy R3 R10)
    ∷ update_by (store_byte 1 9) (set R4 (pos 3)) ∷ []
    ≡ Trap BadAccess 8 ∷ Trap UnsetRead 8 ∷ []
unfolding turn progress start_state new_call_frame step act alu
value_before_flags = refl

-- *(u64 *)(r10 - 8) = r10: a key of pieces of a pointer
pub key_of_pieces : update_by (insn.Store U64 (below R10 8) R10) (set R0 (pos 0)) ≡ Trap BadAccess 8
unfolding turn progress start_state new_call_frame step act alu
key_of_pieces = refl

-- ---- what is in the registers after a call

-- r1 to r6 = 1; call 5; r0 = r; exit
abbrev pub after_ktime : Reg → End
after_ktime r =
    end_with one_key []
    (map (λ q. set q (pos 1)) (R1 ∷ R2 ∷ R3 ∷ R4 ∷ R5 ∷ R6 ∷ [])
    ++ ktime ∷ copy R0 r ∷ insn.Exit ∷ [])

-- r1 to r5 are unset, and r0 and r6 are not
pub registers_after_a_helper : map after_ktime (R1 ∷ R2 ∷ R3 ∷ R4 ∷ R5 ∷ R6 ∷ R0 ∷ [])
    ≡ replicate 5 (Trap UnsetRead 7) ++ Exit 1 9 ∷ Exit 7 9 ∷ []
unfolding turn progress start_state new_call_frame step act alu
registers_after_a_helper = refl

-- call 5; call 5; exit: the clock's second answer, and it was asked twice
pub answers_of_the_clock : turn_with one_key [] (ktime ∷ ktime ∷ insn.Exit ∷ [])
    ≡ record { ends = Exit 8 3; packet = []; contents = [] ∷ []; clock_calls = 2 }
unfolding turn progress start_state new_call_frame step act alu
answers_of_the_clock = refl

-- ---- wide loads of maps

-- map array 4 8 1 with the value 1 1 1 1 1 1 1 1:
-- r1 = map_val(map_by_idx(0)) + 7; r0 = *(u8 *)(r1 + 0); *(u8 *)(r1 - 7) = 5; exit
pub map_value_pointer_of_an_array : turn_with one_index ((index 0, map_value 1) ∷ [])
    (insn.LoadMapValue R1 0 7 ∷ insn.Load U8 R0 (above R1 0)
    ∷ insn.StoreConstant U8 (below R1 7) (pos 5)
    ∷ insn.Exit ∷ [])
    ≡ turn_leaving (Exit 1 4) ((index 0, 5 ∷ replicate 7 1) ∷ [])
unfolding turn progress start_state new_call_frame step act alu
map_value_pointer_of_an_array = refl

-- one byte past the map's value: r1 = map_val(map_by_idx(0)) + 7; r0 = *(u8 *)(r1 + 1)
pub past_a_map_value : end_with one_index zero_filled
    (insn.LoadMapValue R1 0 7 ∷ insn.Load U8 R0 (above R1 1) ∷ insn.Exit ∷ [])
    ≡ Trap BadAccess 1
unfolding turn progress start_state new_call_frame step act alu
past_a_map_value = refl

-- a map itself is not read: r1 = map_by_idx(0); r0 = *(u8 *)(r1 + 0)
pub read_of_a_map : end_with one_index zero_filled
    (insn.LoadMap R1 0 ∷ insn.Load U8 R0 (above R1 0) ∷ insn.Exit ∷ [])
    ≡ Trap BadAccess 1
unfolding turn progress start_state new_call_frame step act alu
read_of_a_map = refl
