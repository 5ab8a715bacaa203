-- Lines of the canonical text, computed from the definitions.
use Rattle.std.specs.Prelude.{◌≡◌, pos, negsuc, true, false, [], ◌∷◌, ◌++◌, codes, refl}
use Rattle.std.specs.List.{flat_map}
use Rattle.std.specs.Fmt.{digits}
use Rattle.isa_model.specs.declared.registers.Reg.TheVariants.{R0, R1, R2, R3, R4, R5, R6, R7, R8, R9, R10}
use Rattle.isa_model.specs.declared.sizes.Width.TheVariants.{Low32, Full64}
use Rattle.isa_model.specs.declared.sizes.Size.TheVariants.{U8, U16, U32, U64}
use Rattle.isa_model.specs.declared.sizes.SignedSize.TheVariants.{S8, S16, S32}
use Rattle.isa_model.specs.declared.sizes.Extension.TheVariants.{Low8, Low16, Full8, Full16, Full32}
use Rattle.isa_model.specs.declared.sizes.SwapWidth.TheVariants.{B16, B32, B64}
use Rattle.isa_model.specs.declared.sizes.ByteOrder.TheVariants.{Little, Big, Swap}
use Rattle.isa_model.specs.declared.instructions.AluOp.TheVariants.{Add, Sub, Mul, Div, SignedDiv, Or, And, Lsh, Rsh, Mod, SignedMod, Xor, Mov, Arsh}
use Rattle.isa_model.specs.declared.instructions.AtomicOp.TheVariants as atomic
use Rattle.isa_model.specs.declared.instructions.Comparison.TheVariants.{Equal, NotEqual, Greater, GreaterEqual, Less, LessEqual, AnyBit, SignedGreater, SignedGreaterEqual, SignedLess, SignedLessEqual}
use Rattle.isa_model.specs.declared.instructions.Operand.TheVariants.{Constant, Register}
use Rattle.isa_model.specs.declared.instructions.Insn.TheVariants as insn
use Rattle.isa_model.specs.declared.map_defs.MapType.TheVariants.{Hash, Array}
use Rattle.isa_model.specs.Code.Instructions.{Program, slots}
use Rattle.isa_model.specs.Text.CanonicalText.{line_of, row_line, canonical_text}
use Rattle.isa_model.specs.declared.versions.Version.{Version}
use Rattle.isa_model.specs.declared.versions.Version.TheVariants.{One, Two}

-- every sign, between two registers
pub operations : flat_map (λ op. line_of (insn.Alu Full64 op R1 (Register R10)))
    (Add ∷ Sub ∷ Mul ∷ Div ∷ SignedDiv ∷ Or ∷ And ∷ Lsh ∷ Rsh ∷ Mod ∷ SignedMod ∷ Xor ∷ Mov ∷ Arsh
    ∷ [])
    ≡ codes "r1 += r10\nr1 -= r10\nr1 *= r10\nr1 /= r10\nr1 s/= r10\nr1 |= r10\nr1 &= r10\n"
    ++ codes "r1 <<= r10\nr1 >>= r10\nr1 %= r10\nr1 s%= r10\nr1 ^= r10\nr1 = r10\nr1 s>>= r10\n"
unfolding line_of
operations = refl

pub comparisons : flat_map
    (λ c. line_of
    (insn.JumpIf
    (record { width = Full64; comparison = c; register = R4; operand = Constant (negsuc 0) })
    (negsuc 32767)))
    (Equal ∷ NotEqual ∷ Greater ∷ GreaterEqual ∷ Less ∷ LessEqual ∷ AnyBit ∷ SignedGreater
    ∷ SignedGreaterEqual ∷ SignedLess ∷ SignedLessEqual ∷ [])
    ≡ codes "if r4 == -1 goto -32768\nif r4 != -1 goto -32768\nif r4 > -1 goto -32768\n"
    ++ codes "if r4 >= -1 goto -32768\nif r4 < -1 goto -32768\nif r4 <= -1 goto -32768\n"
    ++ codes "if r4 & -1 goto -32768\nif r4 s> -1 goto -32768\nif r4 s>= -1 goto -32768\n"
    ++ codes "if r4 s< -1 goto -32768\nif r4 s<= -1 goto -32768\n"
unfolding line_of digits
comparisons = refl

pub registers : flat_map (λ r. line_of (insn.Alu Low32 Mov r (Register r)))
    (R0 ∷ R1 ∷ R2 ∷ R3 ∷ R4 ∷ R5 ∷ R6 ∷ R7 ∷ R8 ∷ R9 ∷ R10 ∷ [])
    ≡ codes "w0 = w0\nw1 = w1\nw2 = w2\nw3 = w3\nw4 = w4\nw5 = w5\nw6 = w6\nw7 = w7\nw8 = w8\n"
    ++ codes "w9 = w9\nw10 = w10\n"
unfolding line_of
registers = refl

pub extensions : flat_map (λ e. line_of (insn.MovSx e R1 R2))
    (Low8 ∷ Low16 ∷ Full8 ∷ Full16 ∷ Full32 ∷ [])
    ≡ codes "w1 = (s8)w2\nw1 = (s16)w2\nr1 = (s8)r2\nr1 = (s16)r2\nr1 = (s32)r2\n"
unfolding line_of
extensions = refl

pub byte_orders : line_of (insn.ByteSwap Little B16 R9) ++ line_of (insn.ByteSwap Big B32 R9)
    ++ line_of (insn.ByteSwap Swap B64 R9) ≡ codes "r9 = le16 r9\nr9 = be32 r9\nr9 = bswap64 r9\n"
unfolding line_of
byte_orders = refl

pub loads : flat_map
    (λ size. line_of (insn.Load size R2 (record { base = R1; offset = pos 32767 })))
    (U8 ∷ U16 ∷ U32 ∷ U64 ∷ [])
    ++ flat_map (λ size. line_of (insn.LoadSx size R2 (record { base = R1; offset = negsuc 0 })))
    (S8 ∷ S16 ∷ S32 ∷ [])
    ≡ codes "r2 = *(u8 *)(r1 + 32767)\nr2 = *(u16 *)(r1 + 32767)\nr2 = *(u32 *)(r1 + 32767)\n"
    ++ codes "r2 = *(u64 *)(r1 + 32767)\nr2 = *(s8 *)(r1 - 1)\nr2 = *(s16 *)(r1 - 1)\n"
    ++ codes "r2 = *(s32 *)(r1 - 1)\n"
unfolding line_of digits
loads = refl

pub stores : line_of (insn.Store U64 (record { base = R10; offset = negsuc 7 }) R5)
    ++ line_of (insn.Store U16 (record { base = R1; offset = pos 0 }) R10)
    ≡ codes "*(u64 *)(r10 - 8) = r5\n*(u16 *)(r1 + 0) = r10\n"
unfolding line_of digits
stores = refl

pub atomic_operations : flat_map
    (λ op. line_of (insn.Atomic Low32 op false (record { base = R1; offset = pos 8 }) R2))
    (atomic.Add ∷ atomic.Or ∷ atomic.And ∷ atomic.Xor ∷ [])
    ≡ codes "lock *(u32 *)(r1 + 8) += r2\nlock *(u32 *)(r1 + 8) |= r2\n"
    ++ codes "lock *(u32 *)(r1 + 8) &= r2\nlock *(u32 *)(r1 + 8) ^= r2\n"
unfolding line_of digits
atomic_operations = refl

pub fetched_operations : flat_map
    (λ op. line_of (insn.Atomic Full64 op true (record { base = R1; offset = pos 8 }) R2))
    (atomic.Add ∷ atomic.Or ∷ atomic.And ∷ atomic.Xor ∷ [])
    ≡ codes "r2 = atomic_fetch_add_64(r1 + 8, r2)\nr2 = atomic_fetch_or_64(r1 + 8, r2)\n"
    ++ codes "r2 = atomic_fetch_and_64(r1 + 8, r2)\nr2 = atomic_fetch_xor_64(r1 + 8, r2)\n"
unfolding line_of digits
fetched_operations = refl

pub other_widths : line_of (insn.Neg Full64 R1)
    ++ line_of (insn.Exchange Low32 (record { base = R1; offset = pos 8 }) R2)
    ++ line_of (insn.CompareExchange Full64 (record { base = R10; offset = negsuc 7 }) R1)
    ≡ codes "r1 = -r1\nr2 = xchg_32(r1 + 8, r2)\nr0 = cmpxchg_64(r10 - 8, r0, r1)\n"
unfolding line_of digits
other_widths = refl

pub shift_by_a_constant : line_of (insn.Alu Low32 Arsh R3 (Constant (pos 5))) ≡ codes "w3 s>>= 5\n"
unfolding line_of digits
shift_by_a_constant = refl

pub least_constant : line_of (insn.Alu Full64 Mov R9 (Constant (negsuc 2147483647)))
    ≡ codes "r9 = -2147483648\n"
unfolding line_of digits
least_constant = refl

pub negation : line_of (insn.Neg Low32 R1) ≡ codes "w1 = -w1\n"
unfolding line_of
negation = refl

pub wide_numbers : line_of (insn.LoadNumber R0 0x0102030405060708) ++ line_of (insn.LoadNumber R0 0)
    ≡ codes "r0 = 0x102030405060708 ll\nr0 = 0x0 ll\n"
unfolding line_of digits
wide_numbers = refl

pub store : line_of (insn.StoreConstant U8 (record { base = R10; offset = negsuc 7 }) (negsuc 0))
    ≡ codes "*(u8 *)(r10 - 8) = -1\n"
unfolding line_of digits
store = refl

pub atomic_sum : line_of
    (insn.Atomic Full64 atomic.Add false (record { base = R10; offset = negsuc 7 }) R2)
    ≡ codes "lock *(u64 *)(r10 - 8) += r2\n"
unfolding line_of digits
atomic_sum = refl

pub fetched_xor : line_of
    (insn.Atomic Low32 atomic.Xor true (record { base = R1; offset = pos 8 }) R2)
    ≡ codes "r2 = atomic_fetch_xor_32(r1 + 8, r2)\n"
unfolding line_of digits
fetched_xor = refl

pub exchange : line_of (insn.Exchange Full64 (record { base = R1; offset = pos 8 }) R2)
    ≡ codes "r2 = xchg_64(r1 + 8, r2)\n"
unfolding line_of digits
exchange = refl

pub compare_exchange : line_of
    (insn.CompareExchange Low32 (record { base = R10; offset = negsuc 7 }) R1)
    ≡ codes "r0 = cmpxchg_32(r10 - 8, r0, r1)\n"
unfolding line_of digits
compare_exchange = refl

pub jumps : line_of (insn.Jump (negsuc 1)) ++ line_of (insn.JumpLong (pos 0))
    ≡ codes "goto -2\ngotol +0\n"
unfolding line_of digits
jumps = refl

pub conditional_jump : line_of (insn.JumpIf
    (record {
      width = Low32;
      comparison = SignedGreaterEqual;
      register = R1;
      operand = Register R2;
    }) (pos 3))
    ≡ codes "if w1 s>= w2 goto +3\n"
unfolding line_of digits
conditional_jump = refl

pub calls : line_of (insn.CallLocal (pos 1)) ++ line_of (insn.CallLocal (negsuc 8))
    ≡ codes "call pc+1\ncall pc-9\n"
unfolding line_of digits
calls = refl

pub hash_row : row_line (record { kind = Hash; key_size = 64; value_size = 4096; entries = 65536 })
    ≡ codes "map hash 64 4096 65536\n"
unfolding row_line digits
hash_row = refl

-- a map row, then the instructions; a wide load has one line
abbrev two_loaded : Version → Program
two_loaded version = record {
  insns = slots (insn.LoadNumber R0 2 ∷ insn.Exit ∷ []);
  maps = record { kind = Array; key_size = 4; value_size = 16; entries = 1 } ∷ [];
  version = version;
}

pub program : canonical_text (two_loaded One) ≡ codes "map array 4 16 1\nr0 = 0x2 ll\nexit\n"
unfolding canonical_text row_line line_of digits
program = refl

-- the text of a program of version 2 begins with the line of its version
pub program_of_version_2 : canonical_text (two_loaded Two)
    ≡ codes "version 2\nmap array 4 16 1\nr0 = 0x2 ll\nexit\n"
unfolding canonical_text row_line line_of digits
program_of_version_2 = refl
