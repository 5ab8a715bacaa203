-- Worked examples of loads and stores: stack, packet, context and map values, computed from the
-- definitions.
use Rattle.std.specs.Prelude.{◌≡◌, ℕ, ℤ, pos, negsuc, false, List, [], ◌∷◌, ◌++◌, map, replicate, take, drop, Result, Ok, Err, refl}
use Rattle.isa_model.specs.declared.registers.Reg.TheVariants.{R0, R1, R2, R3, R10}
use Rattle.isa_model.specs.declared.sizes.Width.TheVariants.{Low32, Full64}
use Rattle.isa_model.specs.declared.sizes.Size.TheVariants.{U8, U16, U32, U64}
use Rattle.isa_model.specs.declared.sizes.SignedSize.TheVariants.{S8, S16, S32}
use Rattle.isa_model.specs.declared.instructions.AtomicOp.TheVariants as atomic
use Rattle.isa_model.specs.declared.instructions.Comparison.TheVariants.{Greater}
use Rattle.isa_model.specs.declared.instructions.Insn.{Insn}
use Rattle.isa_model.specs.declared.instructions.Insn.TheVariants as insn
use Rattle.isa_model.specs.declared.values.Region.TheVariants as region
use Rattle.isa_model.specs.declared.values.Value.{Value}
use Rattle.isa_model.specs.declared.values.Value.TheVariants.{Num, Ptr}
use Rattle.isa_model.specs.declared.ends.End.{End}
use Rattle.isa_model.specs.declared.ends.End.TheVariants.{Exit, Trap}
use Rattle.isa_model.specs.declared.ends.TrapReason.{TrapReason}
use Rattle.isa_model.specs.declared.ends.TrapReason.TheVariants.{UnsetRead, BadAccess}
use Rattle.isa_model.specs.declared.frames.FrameHead.{FrameHead}
use Rattle.isa_model.specs.Code.Numbers.{alu, holds, sign_extended, reordered}
use Rattle.isa_model.specs.Machine.States.{State, KeyValues, key_values_of, new_call_frame}
use Rattle.isa_model.specs.Machine.Memory.{pieces, value_in, load, load_signed, store}
use Rattle.isa_model.specs.Machine.Steps.{act, step}
use Rattle.isa_model.specs.Running.Runs.{start_state, progress, turn}
use Rattle.isa_model.specs.Worked.Examples.{turn_of_code, end_on, head_by, set, add, above, below, zeros, if_register}

-- ---- the stack: bytes, the lowest first

-- r1 = n ll; *(u64 *)(r10 - 8) = r1; i; exit
abbrev pub with_stored : ℕ → Insn → End
with_stored n i =
    end_on (insn.LoadNumber R1 n ∷ insn.Store U64 (below R10 8) R1 ∷ i ∷ insn.Exit ∷ []) [] 4

pub loads_by_size : map (with_stored 0x8090a0b0c0d0e0f0)
    (insn.Load U8 R0 (below R10 8) ∷ insn.Load U8 R0 (below R10 1) ∷ insn.Load U16 R0 (below R10 7)
    ∷ insn.Load U32 R0 (below R10 4) ∷ insn.Load U64 R0 (below R10 8) ∷ [])
    ≡ Exit 0xf0 4 ∷ Exit 0x80 4 ∷ Exit 0xd0e0 4 ∷ Exit 0x8090a0b0 4 ∷ Exit 0x8090a0b0c0d0e0f0 4 ∷ []
unfolding turn progress start_state new_call_frame step act alu holds sign_extended reordered
loads_by_size = refl

pub sign_extending_loads : map (with_stored 0x8090a0b0c0d0e0f0)
    (insn.LoadSx S8 R0 (below R10 8) ∷ insn.LoadSx S16 R0 (below R10 8)
    ∷ insn.LoadSx S32 R0 (below R10 8) ∷ [])
    ≡ Exit 0xfffffffffffffff0 4 ∷ Exit 0xffffffffffffe0f0 4 ∷ Exit 0xffffffffc0d0e0f0 4 ∷ []
unfolding turn progress start_state new_call_frame step act alu holds sign_extended reordered
sign_extending_loads = refl

pub sign_extending_loads_of_positive_numbers : map (with_stored 0x7f6f5f4f3f2f1f0f)
    (insn.LoadSx S8 R0 (below R10 8) ∷ insn.LoadSx S16 R0 (below R10 8)
    ∷ insn.LoadSx S32 R0 (below R10 8) ∷ [])
    ≡ Exit 0x0f 4 ∷ Exit 0x1f0f 4 ∷ Exit 0x3f2f1f0f 4 ∷ []
unfolding turn progress start_state new_call_frame step act alu holds sign_extended reordered
sign_extending_loads_of_positive_numbers = refl

-- *(u64 *)(r10 - 8) = 0; r1 = 0x8090a0b0c0d0e0f0 ll; i; r0 = *(u64 *)(r10 - 8); exit
abbrev pub over_zeros : Insn → End
over_zeros i =
    end_on (insn.StoreConstant U64 (below R10 8) (pos 0) ∷ insn.LoadNumber R1 0x8090a0b0c0d0e0f0 ∷ i
    ∷ insn.Load U64 R0 (below R10 8) ∷ insn.Exit ∷ []) [] 5

-- the low bytes are written, and no others
pub stores_by_size : map over_zeros
    (insn.Store U8 (below R10 7) R1 ∷ insn.Store U16 (below R10 7) R1
    ∷ insn.Store U32 (below R10 7) R1 ∷ insn.Store U64 (below R10 8) R1 ∷ [])
    ≡ Exit 0xf000 5 ∷ Exit 0xe0f000 5 ∷ Exit 0xc0d0e0f000 5 ∷ Exit 0x8090a0b0c0d0e0f0 5 ∷ []
unfolding turn progress start_state new_call_frame step act alu holds sign_extended reordered
stores_by_size = refl

-- the constant -2; with 8 bytes it is sign-extended
pub stores_of_a_constant : map over_zeros
    (insn.StoreConstant U8 (below R10 8) (negsuc 1)
    ∷ insn.StoreConstant U16 (below R10 8) (negsuc 1)
    ∷ insn.StoreConstant U32 (below R10 8) (negsuc 1)
    ∷ insn.StoreConstant U64 (below R10 8) (negsuc 1) ∷ [])
    ≡ Exit 0xfe 5 ∷ Exit 0xfffe 5 ∷ Exit 0xfffffffe 5 ∷ Exit 0xfffffffffffffffe 5 ∷ []
unfolding turn progress start_state new_call_frame step act alu holds sign_extended reordered
stores_of_a_constant = refl

-- ---- the stack: its boundaries

-- i; r0 = 0; exit
abbrev pub alone : Insn → End
alone i = end_on (i ∷ set R0 (pos 0) ∷ insn.Exit ∷ []) [] 3

pub stores_at_the_boundaries : map alone
    (insn.StoreConstant U8 (below R10 512) (pos 1) ∷ insn.StoreConstant U64 (below R10 512) (pos 1)
    ∷ insn.StoreConstant U8 (below R10 1) (pos 1) ∷ insn.StoreConstant U64 (below R10 8) (pos 1)
    ∷ [])
    ≡ replicate 4 (Exit 0 3)
unfolding turn progress start_state new_call_frame step act alu holds sign_extended reordered
stores_at_the_boundaries = refl

pub stores_past_the_boundaries : map alone
    (insn.StoreConstant U8 (below R10 513) (pos 1) ∷ insn.StoreConstant U64 (below R10 513) (pos 1)
    ∷ insn.StoreConstant U8 (above R10 0) (pos 1) ∷ insn.StoreConstant U64 (below R10 7) (pos 1)
    ∷ insn.Store U64 (below R10 7) R10 ∷ [])
    ≡ replicate 5 (Trap BadAccess 0)
unfolding turn progress start_state new_call_frame step act alu holds sign_extended reordered
stores_past_the_boundaries = refl

-- the place is tested before unwritten bytes
pub loads_past_the_boundaries : map alone
    (insn.Load U8 R0 (below R10 513) ∷ insn.Load U64 R0 (below R10 7)
    ∷ insn.Load U8 R0 (below R10 1) ∷ [])
    ≡ Trap BadAccess 0 ∷ Trap BadAccess 0 ∷ Trap UnsetRead 0 ∷ []
unfolding turn progress start_state new_call_frame step act alu holds sign_extended reordered
loads_past_the_boundaries = refl

-- ---- pointers on the stack

-- *(u64 *)(r10 - 16) = r10; i; r0 = 0; exit
abbrev pub after_a_spill : Insn → End
after_a_spill i =
    end_on (insn.Store U64 (below R10 16) R10 ∷ i ∷ set R0 (pos 0) ∷ insn.Exit ∷ []) [] 4

-- it is read whole, by 8 bytes and without sign
pub loads_of_a_pointer : map after_a_spill
    (insn.Load U64 R0 (below R10 16) ∷ insn.Load U32 R0 (below R10 16)
    ∷ insn.Load U8 R0 (below R10 16) ∷ insn.LoadSx S32 R0 (below R10 16) ∷ [])
    ≡ Exit 0 4 ∷ Trap BadAccess 1 ∷ Trap BadAccess 1 ∷ Trap BadAccess 1 ∷ []
unfolding turn progress start_state new_call_frame step act alu holds sign_extended reordered
loads_of_a_pointer = refl

-- four pieces and four unwritten bytes: unwritten bytes count first
pub pieces_and_unwritten_bytes : after_a_spill (insn.Load U64 R0 (below R10 12)) ≡ Trap UnsetRead 1
unfolding turn progress start_state new_call_frame step act alu holds sign_extended reordered
pieces_and_unwritten_bytes = refl

-- *(u64 *)(r10 - 16) = r10; i; r0 = *(u64 *)(r10 - k); r0 = 0; exit
abbrev pub after_two_stores : Insn → ℕ → End
after_two_stores i k =
    end_on (insn.Store U64 (below R10 16) R10 ∷ i ∷ insn.Load U64 R0 (below R10 k) ∷ set R0 (pos 0)
    ∷ insn.Exit ∷ []) [] 5

-- pieces and number bytes; pieces 4 to 7 and 0 to 3 of one pointer; pieces 0 to 3 twice
pub mixed_pieces : after_two_stores (insn.StoreConstant U64 (below R10 8) (pos 0)) 12
    ∷ after_two_stores (insn.Store U64 (below R10 8) R10) 12
    ∷ after_two_stores (insn.Store U64 (below R10 12) R10) 16 ∷ []
    ≡ replicate 3 (Trap BadAccess 2)
unfolding turn progress start_state new_call_frame step act alu holds sign_extended reordered
mixed_pieces = refl

-- the second pointer is whole, at a place that is no multiple of 8 too
pub whole_pointers : after_two_stores (insn.Store U64 (below R10 12) R10) 12
    ∷ after_two_stores (insn.Store U64 (below R10 8) R1) 8
    ∷ after_two_stores (insn.Store U64 (below R10 8) R1) 16 ∷ []
    ≡ replicate 3 (Exit 0 5)
unfolding turn progress start_state new_call_frame step act alu holds sign_extended reordered
whole_pointers = refl

-- pieces 0 to 3 of a pointer and 4 to 7 of another: of another call frame, another offset, and
-- another map value
abbrev pub first_pieces_and : Value → Value → Result Value TrapReason
first_pieces_and (Ptr r z) (Ptr q y) = value_in (take 4 (pieces r z) ++ drop 4 (pieces q y))
first_pieces_and v w = Ok v

pub pieces_of_two_pointers : first_pieces_and (Ptr (region.CallFrame 3) (pos 0))
    (Ptr (region.CallFrame 4) (pos 0))
    ∷ first_pieces_and (Ptr region.Packet (pos 1)) (Ptr region.Packet (pos 2))
    ∷ first_pieces_and (Ptr region.Packet (pos 0)) (Ptr region.Packet (negsuc 0))
    ∷ first_pieces_and (Ptr (region.MapValue 0 1) (pos 0)) (Ptr (region.MapValue 0 2) (pos 0))
    ∷ first_pieces_and (Ptr (region.MapValue 0 1) (pos 0)) (Ptr (region.MapValue 1 1) (pos 0))
    ∷ first_pieces_and (Ptr region.Packet (pos 0)) (Ptr region.Context (pos 0)) ∷ []
    ≡ replicate 6 (Err BadAccess)
pieces_of_two_pointers = refl

pub pieces_of_one_pointer : first_pieces_and (Ptr (region.MapValue 0 1) (negsuc 3))
    (Ptr (region.MapValue 0 1) (negsuc 3))
    ∷ first_pieces_and (Ptr region.PacketEnd (pos 0)) (Ptr region.PacketEnd (pos 0))
    ∷ first_pieces_and (Ptr (region.Map 2) (pos 0)) (Ptr (region.Map 2) (pos 0)) ∷ []
    ≡ Ok (Ptr (region.MapValue 0 1) (negsuc 3)) ∷ Ok (Ptr region.PacketEnd (pos 0))
    ∷ Ok (Ptr (region.Map 2) (pos 0)) ∷ []
pieces_of_one_pointer = refl

-- by fewer than 8 bytes no pointer is stored
pub short_stores_of_a_pointer : map alone
    (insn.Store U32 (below R10 8) R10 ∷ insn.Store U16 (below R10 8) R10
    ∷ insn.Store U8 (below R10 8) R10 ∷ [])
    ≡ replicate 3 (Trap BadAccess 0)
unfolding turn progress start_state new_call_frame step act alu holds sign_extended reordered
short_stores_of_a_pointer = refl

-- ---- the packet

-- r2 = *(u32 *)(r1 + 0); r3 = *(u32 *)(r1 + 4); i; exit, on the bytes 0x80, 0x90, 0xa0
abbrev pub on_three_bytes : Insn → End
on_three_bytes i =
    end_on (insn.Load U32 R2 (above R1 0) ∷ insn.Load U32 R3 (above R1 4) ∷ i ∷ insn.Exit ∷ [])
    (0x80 ∷ 0x90 ∷ 0xa0 ∷ []) 4

pub packet_loads : map on_three_bytes
    (insn.Load U8 R0 (above R2 0) ∷ insn.Load U8 R0 (above R2 2) ∷ insn.Load U16 R0 (above R2 1)
    ∷ insn.LoadSx S16 R0 (above R2 0) ∷ [])
    ≡ Exit 0x80 4 ∷ Exit 0xa0 4 ∷ Exit 0xa090 4 ∷ Exit 0xffffffffffff9080 4 ∷ []
unfolding turn progress start_state new_call_frame step act alu holds sign_extended reordered
packet_loads = refl

-- before the first byte, across the last, through the packet end, and a store of a pointer
pub packet_accesses_past_the_boundaries : map on_three_bytes
    (insn.Load U8 R0 (below R2 1) ∷ insn.Load U8 R0 (above R2 3) ∷ insn.Load U16 R0 (above R2 2)
    ∷ insn.Load U8 R0 (below R3 1)
    ∷ insn.Store U32 (above R2 0) R10 ∷ insn.StoreConstant U32 (above R2 0) (pos 0) ∷ [])
    ≡ replicate 6 (Trap BadAccess 2)
unfolding turn progress start_state new_call_frame step act alu holds sign_extended reordered
packet_accesses_past_the_boundaries = refl

-- r2 = *(u32 *)(r1 + 0); i; r0 = 2; exit: the bytes that are left of eight zeros
abbrev pub left_of_zeros : Insn → List ℕ
left_of_zeros i =
    (turn_of_code (insn.Load U32 R2 (above R1 0) ∷ i ∷ set R0 (pos 2) ∷ insn.Exit ∷ []) (head_by 0)
    (zeros 8) 4).packet

pub packet_stores : map left_of_zeros
    (insn.StoreConstant U16 (above R2 1) (pos 0x0708)
    ∷ insn.StoreConstant U32 (above R2 4) (pos 0x05060708)
    ∷ insn.StoreConstant U8 (above R2 7) (pos 0x1ff) ∷ [])
    ≡ (0 ∷ 8 ∷ 7 ∷ zeros 5) ∷ (zeros 4 ++ 8 ∷ 7 ∷ 6 ∷ 5 ∷ []) ∷ (zeros 7 ++ 0xff ∷ []) ∷ []
unfolding turn progress start_state new_call_frame step act alu holds sign_extended reordered
packet_stores = refl

-- a pointer does not go into the packet, and the packet stays as it was
pub pointer_stored_in_the_packet : left_of_zeros (insn.Store U64 (above R2 0) R10) ≡ zeros 8
unfolding turn progress start_state new_call_frame step act alu holds sign_extended reordered
pointer_stored_in_the_packet = refl

-- ---- the context

abbrev pub head : FrameHead
head = record { time = 9; interface = 5; queue = 7 }

-- i; exit
abbrev pub on_the_context : Insn → End
on_the_context i = (turn_of_code (i ∷ insn.Exit ∷ []) head (zeros 3) 2).ends

-- ingress_ifindex and rx_queue_index
pub context_numbers : map on_the_context
    (insn.Load U32 R0 (above R1 12) ∷ insn.Load U32 R0 (above R1 16) ∷ [])
    ≡ Exit 5 2 ∷ Exit 7 2 ∷ []
unfolding turn progress start_state new_call_frame step act alu holds sign_extended reordered
context_numbers = refl

-- other offsets, other sizes, sign-extending and atomic instructions, and stores
pub other_context_accesses : map on_the_context (
    map (λ n. insn.Load U32 R0 (above R1 n)) (1 ∷ 8 ∷ 14 ∷ 20 ∷ [])
    ++ map (λ size. insn.Load size R0 (above R1 12)) (U8 ∷ U16 ∷ U64 ∷ [])
    ++ insn.Load U32 R0 (below R1 4) ∷ insn.LoadSx S32 R0 (above R1 12)
    ∷ insn.StoreConstant U32 (above R1 12) (pos 0) ∷ insn.Store U64 (above R1 0) R10
    ∷ [])
    ≡ replicate 11 (Trap BadAccess 0)
unfolding turn progress start_state new_call_frame step act alu holds sign_extended reordered
other_context_accesses = refl

-- r0 = 1; i; exit
pub atomic_context_accesses : map (λ i. end_on (set R0 (pos 1) ∷ i ∷ insn.Exit ∷ []) [] 3)
    (insn.Atomic Low32 atomic.Add false (above R1 12) R0 ∷ insn.Exchange Low32 (above R1 12) R0
    ∷ [])
    ≡ replicate 2 (Trap BadAccess 1)
unfolding turn progress start_state new_call_frame step act alu holds sign_extended reordered
atomic_context_accesses = refl

-- r2 = *(u32 *)(r1 + 0); r3 = *(u32 *)(r1 + 4); r2 += k; if r2 > r3 goto +2; r0 = 2; exit; r0 = 1;
-- exit
abbrev pub longer_than : ℤ → End
longer_than k =
    end_on (insn.Load U32 R2 (above R1 0) ∷ insn.Load U32 R3 (above R1 4) ∷ add R2 k
    ∷ if_register Greater R2 R3 (pos 2)
    ∷ set R0 (pos 2) ∷ insn.Exit ∷ set R0 (pos 1) ∷ insn.Exit ∷ []) (zeros 3) 6

-- the end lies after the packet's three bytes
pub data_and_data_end : map longer_than (pos 3 ∷ pos 4 ∷ []) ≡ Exit 2 6 ∷ Exit 1 6 ∷ []
unfolding turn progress start_state new_call_frame step act alu holds sign_extended reordered
data_and_data_end = refl

-- ---- numbers are no places

-- r0 = 0; i; exit
pub accesses_through_a_number : map (λ i. end_on (set R0 (pos 0) ∷ i ∷ insn.Exit ∷ []) [] 3)
    (insn.Load U8 R0 (above R0 0) ∷ insn.LoadSx S8 R0 (above R0 0)
    ∷ insn.StoreConstant U8 (above R0 0) (pos 1) ∷ insn.Store U64 (above R0 0) R10
    ∷ insn.Atomic Full64 atomic.Add false (above R0 0) R0 ∷ [])
    ≡ replicate 5 (Trap BadAccess 1)
unfolding turn progress start_state new_call_frame step act alu holds sign_extended reordered
accesses_through_a_number = refl

-- ---- map values

-- two maps: keys 1 and 2 with two bytes each, and key 3 with one
abbrev pub contents : List KeyValues
contents = ((1 ∷ [], 0xf0 ∷ 0xe0 ∷ []) ∷ (2 ∷ [], 7 ∷ 9 ∷ []) ∷ []) ∷ ((3 ∷ [], 5 ∷ []) ∷ []) ∷ []

abbrev pub state : State
state = start_state head [] contents

-- a pointer to a map value, by the map's index and the serial: the values have the serials 0 and 1
-- in the first map and 2 in the second; the call frame has 3
abbrev pub to_map_value : ℕ → ℕ → ℤ → Value
to_map_value m n z = Ptr (region.MapValue m n) z

pub map_value_loads : load state U8 (to_map_value 0 1 (pos 1)) (pos 0)
    ∷ load state U16 (to_map_value 0 0 (pos 4)) (negsuc 3)
    ∷ load state U8 (to_map_value 1 2 (pos 0)) (pos 0)
    ∷ load_signed state S16 (to_map_value 0 0 (pos 0)) (pos 0) ∷ []
    ≡ Ok (Num 9) ∷ Ok (Num 0xe0f0) ∷ Ok (Num 5) ∷ Ok (Num 0xffffffffffffe0f0) ∷ []
unfolding start_state new_call_frame sign_extended
map_value_loads = refl

-- before a map value, past its end, of a serial that is gone or another map's, and of a map itself
pub other_map_value_loads : load state U8 (to_map_value 0 1 (pos 0)) (negsuc 0)
    ∷ load state U8 (to_map_value 0 0 (pos 2)) (pos 0)
    ∷ load state U16 (to_map_value 1 2 (pos 0)) (pos 0)
    ∷ load state U8 (to_map_value 0 4 (pos 0)) (pos 0)
    ∷ load state U8 (to_map_value 0 2 (pos 0)) (pos 0)
    ∷ load state U8 (to_map_value 2 0 (pos 0)) (pos 0)
    ∷ load state U8 (Ptr (region.Map 0) (pos 0)) (pos 0) ∷ []
    ≡ replicate 7 (Err BadAccess)
unfolding start_state new_call_frame
other_map_value_loads = refl

-- the maps' contents after a store, where there is one
abbrev pub contents_then : Result State TrapReason → Result (List KeyValues) TrapReason
contents_then (Ok s) = Ok (map key_values_of s.maps)
contents_then (Err e) = Err e

pub map_value_store : contents_then (store state U8 (to_map_value 0 1 (pos 0)) (pos 1) (Num 0x1ff))
    ≡ Ok (((1 ∷ [], 0xf0 ∷ 0xe0 ∷ []) ∷ (2 ∷ [], 7 ∷ 0xff ∷ []) ∷ []) ∷ ((3 ∷ [], 5 ∷ []) ∷ [])
    ∷ [])
unfolding start_state new_call_frame
map_value_store = refl

pub map_value_store_in_the_second_map : contents_then
    (store state U8 (to_map_value 1 2 (pos 0)) (pos 0) (Num 6))
    ≡ Ok (((1 ∷ [], 0xf0 ∷ 0xe0 ∷ []) ∷ (2 ∷ [], 7 ∷ 9 ∷ []) ∷ []) ∷ ((3 ∷ [], 6 ∷ []) ∷ []) ∷ [])
unfolding start_state new_call_frame
map_value_store_in_the_second_map = refl

-- past the end, of a serial that is gone, and a pointer
pub other_map_value_stores : contents_then
    (store state U16 (to_map_value 0 1 (pos 1)) (pos 0) (Num 1))
    ∷ contents_then (store state U8 (to_map_value 0 3 (pos 0)) (pos 0) (Num 1))
    ∷ contents_then (store state U64 (to_map_value 0 1 (pos 0)) (pos 0) (to_map_value 0 1 (pos 0)))
    ∷ []
    ≡ replicate 3 (Err BadAccess)
unfolding start_state new_call_frame
other_map_value_stores = refl

-- a map value that is 8 bytes long takes no pointer either
pub pointer_stored_in_a_map_value : contents_then
    (store (start_state head [] (((1 ∷ [], zeros 8) ∷ []) ∷ [])) U64 (to_map_value 0 0 (pos 0))
    (pos 0) (to_map_value 0 0 (pos 0))) ≡ Err BadAccess
unfolding start_state new_call_frame
pointer_stored_in_a_map_value = refl
