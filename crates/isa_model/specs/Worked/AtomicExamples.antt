-- Worked examples of atomic instructions, computed from the definitions. RFC 9669, section 5.3.
use Rattle.std.specs.Prelude.{◌≡◌, ℕ, pos, true, false, List, [], ◌∷◌, map, replicate, refl}
use Rattle.isa_model.specs.declared.registers.Reg.TheVariants.{R0, R1, R2, R3, R10}
use Rattle.isa_model.specs.declared.sizes.Width.{Width}
use Rattle.isa_model.specs.declared.sizes.Width.TheVariants.{Low32, Full64}
use Rattle.isa_model.specs.declared.sizes.Size.TheVariants.{U32, U64}
use Rattle.isa_model.specs.declared.instructions.AtomicOp.TheVariants as atomic
use Rattle.isa_model.specs.declared.instructions.Insn.{Insn}
use Rattle.isa_model.specs.declared.instructions.Insn.TheVariants as insn
use Rattle.isa_model.specs.declared.ends.End.{End}
use Rattle.isa_model.specs.declared.ends.End.TheVariants.{Exit, Trap}
use Rattle.isa_model.specs.declared.ends.TrapReason.TheVariants.{UnsetRead, ReadOnly, BadPointer, BadAccess}
use Rattle.isa_model.specs.Code.Numbers.{alu, holds, sign_extended, reordered, bytes_of}
use Rattle.isa_model.specs.Machine.States.{new_call_frame}
use Rattle.isa_model.specs.Machine.Steps.{act, step}
use Rattle.isa_model.specs.Running.Runs.{start_state, progress, turn}
use Rattle.isa_model.specs.Worked.Examples.{turn_of_code, end_on, head_by, set, copy, above, below}

-- r2 = *(u32 *)(r1 + 0); r3 = source ll; i; r0 = r3;
-- exit, on a packet of eight bytes that spell a number:
-- what becomes of r3, and of the packet
abbrev pub source_after : ℕ → ℕ → Insn → End × List ℕ
source_after old source i =
    let t = turn_of_code (insn.Load U32 R2 (above R1 0) ∷ insn.LoadNumber R3 source ∷ i ∷ copy R0 R3
    ∷ insn.Exit ∷ []) (head_by 0) (bytes_of U64 old) 5 in
    (t.ends, t.packet)

-- 0x7ffffffff and 2: at 32 bits the sum wraps, and the upper half stays
pub sums : map (λ w. source_after 0x7ffffffff 2 (insn.Atomic w atomic.Add false (above R2 0) R3))
    (Full64 ∷ Low32 ∷ [])
    ≡ (Exit 2 5, bytes_of U64 0x800000001) ∷ (Exit 2 5, bytes_of U64 0x700000001) ∷ []
unfolding turn progress start_state new_call_frame step act alu holds sign_extended reordered
sums = refl

-- with FETCH the source gets the old number, at 32 bits with an upper half of zeros
pub fetched_sums : map
    (λ w. source_after 0x7ffffffff 2 (insn.Atomic w atomic.Add true (above R2 0) R3))
    (Full64 ∷ Low32 ∷ [])
    ≡ (Exit 0x7ffffffff 5, bytes_of U64 0x800000001) ∷ (Exit 0xffffffff 5, bytes_of U64 0x700000001)
    ∷ []
unfolding turn progress start_state new_call_frame step act alu holds sign_extended reordered
fetched_sums = refl

-- 0xc and 0xa, in both halves
pub operations : map
    (λ op. source_after 0xc0000000c 0xa0000000a (insn.Atomic Full64 op false (above R2 0) R3))
    (atomic.Or ∷ atomic.And ∷ atomic.Xor ∷ [])
    ≡ (Exit 0xa0000000a 5, bytes_of U64 0xe0000000e)
    ∷ (Exit 0xa0000000a 5, bytes_of U64 0x800000008)
    ∷ (Exit 0xa0000000a 5, bytes_of U64 0x600000006) ∷ []
unfolding turn progress start_state new_call_frame step act alu holds sign_extended reordered
operations = refl

pub fetched_operations : map
    (λ op. source_after 0xc0000000c 0xa0000000a (insn.Atomic Low32 op true (above R2 0) R3))
    (atomic.Or ∷ atomic.And ∷ atomic.Xor ∷ [])
    ≡ (Exit 0xc 5, bytes_of U64 0xc0000000e) ∷ (Exit 0xc 5, bytes_of U64 0xc00000008)
    ∷ (Exit 0xc 5, bytes_of U64 0xc00000006) ∷ []
unfolding turn progress start_state new_call_frame step act alu holds sign_extended reordered
fetched_operations = refl

pub exchanges : map (λ w. source_after 0x700000009 0x500000003 (insn.Exchange w (above R2 0) R3))
    (Full64 ∷ Low32 ∷ [])
    ≡ (Exit 0x700000009 5, bytes_of U64 0x500000003) ∷ (Exit 9 5, bytes_of U64 0x700000003) ∷ []
unfolding turn progress start_state new_call_frame step act alu holds sign_extended reordered
exchanges = refl

-- r2 = *(u32 *)(r1 + 0); r0 = expected ll; r3 = 0x500000003 ll; cmpxchg;
-- exit, where the packet spells 0x700000009:
-- what becomes of r0, and of the packet
abbrev pub compared_with : Width → ℕ → End × List ℕ
compared_with w expected =
    let t = turn_of_code (insn.Load U32 R2 (above R1 0) ∷ insn.LoadNumber R0 expected
    ∷ insn.LoadNumber R3 0x500000003 ∷ insn.CompareExchange w (above R2 0) R3 ∷ insn.Exit ∷ [])
    (head_by 0) (bytes_of U64 0x700000009) 5 in
    (t.ends, t.packet)

-- with the number itself, and with one that is equal to it in the low half only
pub compare_exchanges : map (compared_with Full64) (0x700000009 ∷ 0x900000009 ∷ [])
    ≡ (Exit 0x700000009 5, bytes_of U64 0x500000003)
    ∷ (Exit 0x700000009 5, bytes_of U64 0x700000009) ∷ []
unfolding turn progress start_state new_call_frame step act alu holds sign_extended reordered
compare_exchanges = refl

-- at 32 bits the low halves are compared, and the old low half is in r0 either way
pub compare_exchanges_at_32_bits : map (compared_with Low32) (0x900000009 ∷ 0x700000008 ∷ [])
    ≡ (Exit 9 5, bytes_of U64 0x700000003) ∷ (Exit 9 5, bytes_of U64 0x700000009) ∷ []
unfolding turn progress start_state new_call_frame step act alu holds sign_extended reordered
compare_exchanges_at_32_bits = refl

-- ---- traps in their order

-- r0 = 0; i; exit
abbrev pub with_zero : Insn → End
with_zero i = end_on (set R0 (pos 0) ∷ i ∷ insn.Exit ∷ []) [] 3

-- an unset source, r0 unset where it is compared, and an unset base
pub unset_operands : map (λ i. end_on (i ∷ insn.Exit ∷ []) [] 2)
    (insn.Atomic Full64 atomic.Add false (below R10 8) R3 ∷ insn.Exchange Full64 (below R10 8) R3
    ∷ insn.CompareExchange Full64 (below R10 8) R1
    ∷ insn.Atomic Full64 atomic.Add false (above R3 0) R1 ∷ [])
    ≡ replicate 4 (Trap UnsetRead 0)
unfolding turn progress start_state new_call_frame step act alu holds sign_extended reordered
unset_operands = refl

-- the old number would go into r10
pub fetches_into_the_frame_pointer : map with_zero
    (insn.Atomic Full64 atomic.Add true (below R10 8) R10 ∷ insn.Exchange Full64 (below R10 8) R10
    ∷ [])
    ≡ replicate 2 (Trap ReadOnly 1)
unfolding turn progress start_state new_call_frame step act alu holds sign_extended reordered
fetches_into_the_frame_pointer = refl

-- a pointer as the source is a trap; it is tested before the place, which is no pointer here
pub pointers_as_operands : map with_zero
    (insn.Atomic Full64 atomic.Add false (above R0 0) R10
    ∷ insn.Atomic Full64 atomic.Add true (above R0 0) R1
    ∷ insn.Exchange Full64 (above R0 0) R1 ∷ insn.CompareExchange Full64 (above R0 0) R10 ∷ [])
    ≡ replicate 4 (Trap BadPointer 1)
unfolding turn progress start_state new_call_frame step act alu holds sign_extended reordered
pointers_as_operands = refl

-- r0 = r10; r3 = 0; r0 = cmpxchg_64(r10 - 8, r0, r3); exit
pub pointer_compared : end_on
    (copy R0 R10 ∷ set R3 (pos 0) ∷ insn.CompareExchange Full64 (below R10 8) R3 ∷ insn.Exit ∷ [])
    [] 4 ≡ Trap BadPointer 2
unfolding turn progress start_state new_call_frame step act alu holds sign_extended reordered
pointer_compared = refl

-- the place, and then unwritten bytes
pub places_of_atomic_instructions : map with_zero
    (insn.Atomic Full64 atomic.Add false (below R10 7) R0 ∷ insn.Exchange Low32 (below R10 3) R0
    ∷ insn.CompareExchange Low32 (below R10 513) R0
    ∷ insn.Atomic Full64 atomic.Add false (below R10 8) R0 ∷ insn.Exchange Low32 (below R10 4) R0
    ∷ insn.CompareExchange Low32 (below R10 512) R0 ∷ [])
    ≡ Trap BadAccess 1 ∷ Trap BadAccess 1 ∷ Trap BadAccess 1 ∷ Trap UnsetRead 1 ∷ Trap UnsetRead 1
    ∷ Trap UnsetRead 1 ∷ []
unfolding turn progress start_state new_call_frame step act alu holds sign_extended reordered
places_of_atomic_instructions = refl

-- *(u64 *)(r10 - 8) = r10; r0 = 0; i; exit: a pointer lies at the place
pub atomic_instruction_on_a_pointer : map
    (λ i. end_on (insn.Store U64 (below R10 8) R10 ∷ set R0 (pos 0) ∷ i ∷ insn.Exit ∷ []) [] 4)
    (insn.Atomic Full64 atomic.Add true (below R10 8) R0
    ∷ insn.Exchange Full64 (below R10 8) R0 ∷ insn.CompareExchange Full64 (below R10 8) R0 ∷ [])
    ≡ replicate 3 (Trap BadAccess 2)
unfolding turn progress start_state new_call_frame step act alu holds sign_extended reordered
atomic_instruction_on_a_pointer = refl
