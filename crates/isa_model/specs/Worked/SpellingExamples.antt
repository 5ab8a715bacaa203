-- Worked examples of spellings: the bytes of each form in hexadecimal, computed from the
-- definitions. The bytes wanted are worked out by hand from the tables of RFC 9669, sections 3 to
-- 5.
use Rattle.std.specs.Prelude.{◌≡◌, ℕ, pos, negsuc, true, false, List, [], ◌∷◌, map, codes, refl}
use Rattle.hex.specs.Hex.{encode_lower, encode_with}
use Rattle.isa_model.specs.declared.registers.Reg.TheVariants.{R0, R1, R2, R3, R4, R5, R6, R7, R8, R9, R10}
use Rattle.isa_model.specs.declared.sizes.Width.TheVariants.{Low32, Full64}
use Rattle.isa_model.specs.declared.sizes.Size.TheVariants.{U8, U16, U32, U64}
use Rattle.isa_model.specs.declared.sizes.SignedSize.TheVariants.{S8, S16, S32}
use Rattle.isa_model.specs.declared.sizes.Extension.TheVariants.{Low8, Low16, Full8, Full16, Full32}
use Rattle.isa_model.specs.declared.sizes.SwapWidth.TheVariants.{B16, B32, B64}
use Rattle.isa_model.specs.declared.sizes.ByteOrder.TheVariants.{Little, Big, Swap}
use Rattle.isa_model.specs.declared.instructions.AluOp.{AluOp}
use Rattle.isa_model.specs.declared.instructions.AluOp.TheVariants.{Add, Sub, Mul, Div, SignedDiv, Or, And, Lsh, Rsh, Mod, SignedMod, Xor, Mov, Arsh}
use Rattle.isa_model.specs.declared.instructions.AtomicOp.{AtomicOp}
use Rattle.isa_model.specs.declared.instructions.AtomicOp.TheVariants as atomic
use Rattle.isa_model.specs.declared.instructions.Comparison.{Comparison}
use Rattle.isa_model.specs.declared.instructions.Comparison.TheVariants.{Equal, NotEqual, Greater, GreaterEqual, Less, LessEqual, AnyBit, SignedGreater, SignedGreaterEqual, SignedLess, SignedLessEqual}
use Rattle.isa_model.specs.declared.instructions.Operand.TheVariants.{Constant, Register}
use Rattle.isa_model.specs.declared.instructions.Insn.{Insn}
use Rattle.isa_model.specs.declared.instructions.Insn.TheVariants as insn
use Rattle.isa_model.specs.Code.Registers.{reg_number}
use Rattle.isa_model.specs.Code.Spelling.{spelling_of}
use Rattle.isa_model.specs.Worked.Examples.{above, below}

-- the bytes in hexadecimal
abbrev pub spelled : Insn → List ℕ
spelled i = encode_lower (spelling_of i)

-- RFC 9669, section 3.1: r1 += 0x11223344
pub example_of_the_rfc : spelled (insn.Alu Full64 Add R1 (Constant (pos 0x11223344)))
    ≡ codes "0701000044332211"
unfolding encode_with
example_of_the_rfc = refl

-- ---- arithmetic

abbrev pub all_operations : List AluOp
all_operations = Add ∷ Sub ∷ Mul ∷ Div ∷ SignedDiv ∷ Or ∷ And ∷ Lsh ∷ Rsh ∷ Mod ∷ SignedMod ∷ Xor
    ∷ Mov ∷ Arsh ∷ []

-- r3 op -2
pub constants_at_64_bits : map
    (λ op. spelled (insn.Alu Full64 op R3 (Constant (negsuc 1)))) all_operations
    ≡ codes "07030000feffffff" ∷ codes "17030000feffffff" ∷ codes "27030000feffffff"
    ∷ codes "37030000feffffff"
    ∷ codes "37030100feffffff" ∷ codes "47030000feffffff" ∷ codes "57030000feffffff"
    ∷ codes "67030000feffffff"
    ∷ codes "77030000feffffff" ∷ codes "97030000feffffff" ∷ codes "97030100feffffff"
    ∷ codes "a7030000feffffff"
    ∷ codes "b7030000feffffff" ∷ codes "c7030000feffffff" ∷ []
unfolding encode_with
constants_at_64_bits = refl

-- w1 op w10
pub registers_at_32_bits : map (λ op. spelled (insn.Alu Low32 op R1 (Register R10))) all_operations
    ≡ codes "0ca1000000000000" ∷ codes "1ca1000000000000" ∷ codes "2ca1000000000000"
    ∷ codes "3ca1000000000000"
    ∷ codes "3ca1010000000000" ∷ codes "4ca1000000000000" ∷ codes "5ca1000000000000"
    ∷ codes "6ca1000000000000"
    ∷ codes "7ca1000000000000" ∷ codes "9ca1000000000000" ∷ codes "9ca1010000000000"
    ∷ codes "aca1000000000000"
    ∷ codes "bca1000000000000" ∷ codes "cca1000000000000" ∷ []
unfolding encode_with
registers_at_32_bits = refl

pub other_widths : spelled (insn.Alu Low32 Add R3 (Constant (pos 2)))
    ∷ spelled (insn.Alu Full64 Add R1 (Register R10)) ∷ []
    ≡ codes "0403000002000000" ∷ codes "0fa1000000000000" ∷ []
unfolding encode_with
other_widths = refl

pub negations : spelled (insn.Neg Low32 R1) ∷ spelled (insn.Neg Full64 R2) ∷ []
    ≡ codes "8401000000000000" ∷ codes "8702000000000000" ∷ []
unfolding encode_with
negations = refl

pub extensions : map (λ e. spelled (insn.MovSx e R1 R2))
    (Low8 ∷ Low16 ∷ Full8 ∷ Full16 ∷ Full32 ∷ [])
    ≡ codes "bc21080000000000" ∷ codes "bc21100000000000" ∷ codes "bf21080000000000"
    ∷ codes "bf21100000000000" ∷ codes "bf21200000000000" ∷ []
unfolding encode_with
extensions = refl

pub byte_swaps : spelled (insn.ByteSwap Little B32 R1) ∷ spelled (insn.ByteSwap Big B16 R0)
    ∷ spelled (insn.ByteSwap Swap B64 R9) ∷ []
    ≡ codes "d401000020000000" ∷ codes "dc00000010000000" ∷ codes "d709000040000000" ∷ []
unfolding encode_with
byte_swaps = refl

-- r1 = 0x102030405060708 ll: the low half, the reserved bits and the upper half
pub wide_load : spelled (insn.LoadNumber R1 0x0102030405060708)
    ≡ codes "18010000080706050000000004030201"
unfolding encode_with
wide_load = refl

pub registers : map reg_number (R0 ∷ R1 ∷ R2 ∷ R3 ∷ R4 ∷ R5 ∷ R6 ∷ R7 ∷ R8 ∷ R9 ∷ R10 ∷ [])
    ≡ 0 ∷ 1 ∷ 2 ∷ 3 ∷ 4 ∷ 5 ∷ 6 ∷ 7 ∷ 8 ∷ 9 ∷ 10 ∷ []
registers = refl

-- ---- loads and stores

-- r2 = *(size *)(r1 + 256)
pub loads : map (λ size. spelled (insn.Load size R2 (above R1 256))) (U32 ∷ U16 ∷ U8 ∷ U64 ∷ [])
    ≡ codes "6112000100000000" ∷ codes "6912000100000000" ∷ codes "7112000100000000"
    ∷ codes "7912000100000000" ∷ []
unfolding encode_with
loads = refl

-- r2 = *(size *)(r10 - 8)
pub sign_extending_loads : map (λ size. spelled (insn.LoadSx size R2 (below R10 8)))
    (S32 ∷ S16 ∷ S8 ∷ [])
    ≡ codes "81a2f8ff00000000" ∷ codes "89a2f8ff00000000" ∷ codes "91a2f8ff00000000" ∷ []
unfolding encode_with
sign_extending_loads = refl

-- *(size *)(r10 - 512) = -2
pub stores_of_constants : map (λ size. spelled (insn.StoreConstant size (below R10 512) (negsuc 1)))
    (U32 ∷ U16 ∷ U8 ∷ U64 ∷ [])
    ≡ codes "620a00fefeffffff" ∷ codes "6a0a00fefeffffff" ∷ codes "720a00fefeffffff"
    ∷ codes "7a0a00fefeffffff" ∷ []
unfolding encode_with
stores_of_constants = refl

-- *(size *)(r1 + 2) = r9
pub stores_of_registers : map (λ size. spelled (insn.Store size (above R1 2) R9))
    (U32 ∷ U16 ∷ U8 ∷ U64 ∷ [])
    ≡ codes "6391020000000000" ∷ codes "6b91020000000000" ∷ codes "7391020000000000"
    ∷ codes "7b91020000000000" ∷ []
unfolding encode_with
stores_of_registers = refl

-- ---- atomic instructions

abbrev pub all_atomic_operations : List AtomicOp
all_atomic_operations = atomic.Add ∷ atomic.Or ∷ atomic.And ∷ atomic.Xor ∷ []

-- lock *(u64 *)(r1 + 8) op r2
pub atomic_without_fetch : map
    (λ op. spelled (insn.Atomic Full64 op false (above R1 8) R2)) all_atomic_operations
    ≡ codes "db21080000000000" ∷ codes "db21080040000000" ∷ codes "db21080050000000"
    ∷ codes "db210800a0000000" ∷ []
unfolding encode_with
atomic_without_fetch = refl

-- the same with the old number into r2, on 4 bytes
pub atomic_with_fetch : map
    (λ op. spelled (insn.Atomic Low32 op true (above R1 8) R2)) all_atomic_operations
    ≡ codes "c321080001000000" ∷ codes "c321080041000000" ∷ codes "c321080051000000"
    ∷ codes "c3210800a1000000" ∷ []
unfolding encode_with
atomic_with_fetch = refl

pub exchanges : map (λ w. spelled (insn.Exchange w (above R1 8) R2)) (Low32 ∷ Full64 ∷ [])
    ≡ codes "c3210800e1000000" ∷ codes "db210800e1000000" ∷ []
unfolding encode_with
exchanges = refl

pub compare_exchanges : map (λ w. spelled (insn.CompareExchange w (below R10 8) R1))
    (Low32 ∷ Full64 ∷ []) ≡ codes "c31af8fff1000000" ∷ codes "db1af8fff1000000" ∷ []
unfolding encode_with
compare_exchanges = refl

-- ---- jumps, calls and exits

abbrev pub all_comparisons : List Comparison
all_comparisons =
    Equal ∷ Greater ∷ GreaterEqual ∷ AnyBit ∷ NotEqual ∷ SignedGreater ∷ SignedGreaterEqual ∷ Less
    ∷ LessEqual ∷ SignedLess ∷ SignedLessEqual ∷ []

-- if r1 c 7 goto +1
pub jumps_by_constants : map
    (λ c. spelled
    (insn.JumpIf
    (record { width = Full64; comparison = c; register = R1; operand = Constant (pos 7) }) (pos 1)))
    all_comparisons
    ≡ codes "1501010007000000" ∷ codes "2501010007000000" ∷ codes "3501010007000000"
    ∷ codes "4501010007000000"
    ∷ codes "5501010007000000" ∷ codes "6501010007000000" ∷ codes "7501010007000000"
    ∷ codes "a501010007000000"
    ∷ codes "b501010007000000" ∷ codes "c501010007000000" ∷ codes "d501010007000000" ∷ []
unfolding encode_with
jumps_by_constants = refl

-- if w1 c w2 goto -1
pub jumps_by_registers : map
    (λ c. spelled
    (insn.JumpIf (record { width = Low32; comparison = c; register = R1; operand = Register R2 })
    (negsuc 0))) all_comparisons
    ≡ codes "1e21ffff00000000" ∷ codes "2e21ffff00000000" ∷ codes "3e21ffff00000000"
    ∷ codes "4e21ffff00000000"
    ∷ codes "5e21ffff00000000" ∷ codes "6e21ffff00000000" ∷ codes "7e21ffff00000000"
    ∷ codes "ae21ffff00000000"
    ∷ codes "be21ffff00000000" ∷ codes "ce21ffff00000000" ∷ codes "de21ffff00000000" ∷ []
unfolding encode_with
jumps_by_registers = refl

-- goto -2; gotol +65536; call pc-1; exit
pub jumps : spelled (insn.Jump (negsuc 1)) ∷ spelled (insn.JumpLong (pos 65536))
    ∷ spelled (insn.CallLocal (negsuc 0)) ∷ spelled insn.Exit ∷ []
    ≡ codes "0500feff00000000" ∷ codes "0600000000000100" ∷ codes "85100000ffffffff"
    ∷ codes "9500000000000000" ∷ []
unfolding encode_with
jumps = refl
