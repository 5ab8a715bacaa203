-- Worked examples of arithmetic, comparisons, sign extension and byte order, computed from the
-- definitions. The numbers wanted are worked out by hand from RFC 9669, sections 4.1 to 4.3.
use Rattle.std.specs.Prelude.{◌≡◌, ℕ, pos, negsuc, Bool, true, false, List, [], ◌∷◌, map, refl}
use Rattle.isa_model.specs.declared.sizes.Width.TheVariants.{Low32, Full64}
use Rattle.isa_model.specs.declared.sizes.Size.TheVariants.{U8, U16, U32, U64}
use Rattle.isa_model.specs.declared.sizes.Extension.TheVariants.{Low8, Low16, Full8, Full16, Full32}
use Rattle.isa_model.specs.declared.sizes.SwapWidth.TheVariants.{B16, B32, B64}
use Rattle.isa_model.specs.declared.sizes.ByteOrder.{ByteOrder}
use Rattle.isa_model.specs.declared.sizes.ByteOrder.TheVariants.{Little, Big, Swap}
use Rattle.isa_model.specs.declared.instructions.AluOp.{AluOp}
use Rattle.isa_model.specs.declared.instructions.AluOp.TheVariants.{Add, Sub, Mul, Div, SignedDiv, Or, And, Lsh, Rsh, Mod, SignedMod, Xor, Mov, Arsh}
use Rattle.isa_model.specs.declared.instructions.AtomicOp.TheVariants as atomic
use Rattle.isa_model.specs.declared.instructions.Comparison.{Comparison}
use Rattle.isa_model.specs.declared.instructions.Comparison.TheVariants.{Equal, NotEqual, Greater, GreaterEqual, Less, LessEqual, AnyBit, SignedGreater, SignedGreaterEqual, SignedLess, SignedLessEqual}
use Rattle.isa_model.specs.Code.Numbers.{signed, unsigned, sign_extended, alu, negated, reordered, atomic_alu, holds, bytes_of, number_from}

-- ---- arithmetic

-- what an operation gives at 64 and at 32 bits
abbrev pub both : AluOp → ℕ → ℕ → ℕ × ℕ
both op a b = (alu op Full64 a b, alu op Low32 a b)

-- -1, 2^63, 2^31 and 2^32
abbrev pub minus_one : ℕ
minus_one = 0xffffffffffffffff

abbrev pub least : ℕ
least = 0x8000000000000000

abbrev pub least32 : ℕ
least32 = 0x80000000

abbrev pub end32 : ℕ
end32 = 0x100000000

pub sums_wrap : both Add minus_one 2 ∷ both Add least32 least32 ∷ both Add end32 7 ∷ []
    ≡ (1, 1) ∷ (end32, 0) ∷ (0x100000007, 7) ∷ []
unfolding alu
sums_wrap = refl

pub differences_wrap : both Sub 1 2 ∷ both Sub least 1 ∷ both Sub 0 0 ∷ both Sub end32 1 ∷ []
    ≡ (minus_one, 0xffffffff) ∷ (0x7fffffffffffffff, 0xffffffff) ∷ (0, 0) ∷ (0xffffffff, 0xffffffff)
    ∷ []
unfolding alu
differences_wrap = refl

pub products_wrap : both Mul minus_one 3 ∷ both Mul least32 6 ∷ both Mul end32 end32 ∷ []
    ≡ (0xfffffffffffffffd, 0xfffffffd) ∷ (0x300000000, 0) ∷ (0, 0) ∷ []
unfolding alu
products_wrap = refl

-- the operands are unsigned, and a division by zero gives 0
pub quotients : both Div minus_one 2 ∷ both Div 7 minus_one ∷ both Div 7 0
    ∷ both Div 0x900000009 end32 ∷ []
    ≡ (0x7fffffffffffffff, 0x7fffffff) ∷ (0, 0) ∷ (0, 0) ∷ (9, 0) ∷ []
unfolding alu
quotients = refl

-- -7 by 2, 7 by -2, and -7 by -2 are cut toward zero
pub signed_quotients : both SignedDiv 0xfffffffffffffff9 2 ∷ both SignedDiv 7 0xfffffffffffffffe
    ∷ both SignedDiv 0xfffffffffffffff9 0xfffffffffffffffe ∷ []
    ≡ (0xfffffffffffffffd, 0xfffffffd) ∷ (0xfffffffffffffffd, 0xfffffffd) ∷ (3, 3) ∷ []
unfolding alu
signed_quotients = refl

-- by zero, and the least numbers of 64 and of 32 bits by -1
pub signed_quotients_by_zero_and_minus_one : both SignedDiv 7 0 ∷ both SignedDiv least minus_one
    ∷ both SignedDiv least32 minus_one ∷ []
    ≡ (0, 0) ∷ (least, 0) ∷ (0xffffffff80000000, least32) ∷ []
unfolding alu
signed_quotients_by_zero_and_minus_one = refl

-- a modulo by zero leaves the dividend, at 32 bits its low half
pub remainders : both Mod minus_one 10 ∷ both Mod 0x700000007 0 ∷ both Mod 7 minus_one ∷ []
    ≡ (5, 5) ∷ (0x700000007, 7) ∷ (7, 7) ∷ []
unfolding alu
remainders = refl

-- the remainder has the dividend's sign: of -13 by 3, 13 by -3 and -13 by -3
pub signed_remainders : both SignedMod 0xfffffffffffffff3 3 ∷ both SignedMod 13 0xfffffffffffffffd
    ∷ both SignedMod 0xfffffffffffffff3 0xfffffffffffffffd ∷ []
    ≡ (minus_one, 0xffffffff) ∷ (1, 1) ∷ (minus_one, 0xffffffff) ∷ []
unfolding alu
signed_remainders = refl

pub signed_remainders_by_zero_and_minus_one : both SignedMod minus_one 0
    ∷ both SignedMod least minus_one ∷ both SignedMod least32 minus_one ∷ []
    ≡ (minus_one, 0xffffffff) ∷ (0, 0) ∷ (0, 0) ∷ []
unfolding alu
signed_remainders_by_zero_and_minus_one = refl

-- on 12 and 10, bit for bit, and above bit 31
pub bits : both Or 12 10 ∷ both And 12 10 ∷ both Xor 12 10 ∷ []
    ≡ (14, 14) ∷ (8, 8) ∷ (6, 6) ∷ []
unfolding alu
bits = refl

pub high_bits : both Or end32 1 ∷ both And minus_one 0x300000003 ∷ both Xor minus_one end32
    ∷ []
    ≡ (0x100000001, 1) ∷ (0x300000003, 3) ∷ (0xfffffffeffffffff, 0xffffffff) ∷ []
unfolding alu
high_bits = refl

-- the right operand counts modulo the width: 33, 65 and -1
pub left_shifts : both Lsh 3 33 ∷ both Lsh 3 65 ∷ both Lsh 3 minus_one ∷ []
    ≡ (0x600000000, 6) ∷ (6, 6) ∷ (least, least32) ∷ []
unfolding alu
left_shifts = refl

-- zeros come in from the left
pub right_shifts : both Rsh minus_one 1 ∷ both Rsh least 33 ∷ both Rsh minus_one 64 ∷ []
    ≡ (0x7fffffffffffffff, 0x7fffffff) ∷ (0x40000000, 0) ∷ (minus_one, 0xffffffff) ∷ []
unfolding alu
right_shifts = refl

-- the sign comes in from the left, that of the width
pub signed_right_shifts : both Arsh least 1 ∷ both Arsh least32 33 ∷ both Arsh 0x7fffffff 1 ∷ []
    ≡ (0xc000000000000000, 0) ∷ (0, 0xc0000000) ∷ (0x3fffffff, 0x3fffffff) ∷ []
unfolding alu
signed_right_shifts = refl

pub copies : both Mov 5 0x900000007 ≡ (0x900000007, 7)
unfolding alu
copies = refl

pub negations : negated Full64 1 ∷ negated Low32 1 ∷ negated Full64 least ∷ negated Low32 least32
    ∷ negated Low32 end32 ∷ negated Full64 0 ∷ []
    ≡ minus_one ∷ 0xffffffff ∷ least ∷ least32 ∷ 0 ∷ 0 ∷ []
unfolding alu
negations = refl

pub atomic_operations : map (λ op. alu (atomic_alu op) Full64 12 10)
    (atomic.Add ∷ atomic.Or ∷ atomic.And ∷ atomic.Xor ∷ [])
    ≡ 22 ∷ 14 ∷ 8 ∷ 6 ∷ []
unfolding alu
atomic_operations = refl

-- ---- two's complement

pub signs : signed Full64 minus_one ∷ signed Full64 least ∷ signed Low32 0x7fffffff
    ∷ signed Low32 least32 ∷ []
    ≡ negsuc 0 ∷ negsuc 0x7fffffffffffffff ∷ pos 0x7fffffff ∷ negsuc 0x7fffffff ∷ []
signs = refl

-- `imm` as the right operand
pub constants : unsigned Full64 (negsuc 1) ∷ unsigned Low32 (negsuc 1) ∷ unsigned Full64 (pos 7)
    ∷ []
    ≡ 0xfffffffffffffffe ∷ 0xfffffffe ∷ 7 ∷ []
constants = refl

-- from the low 8, 16 and 32 bits, what is above them aside;
-- a 32-bit result has an upper half of zeros
pub extensions_of_negative_numbers : map (λ e. sign_extended e 0x5080f080)
    (Low8 ∷ Full8 ∷ Low16 ∷ Full16 ∷ [])
    ≡ 0xffffff80 ∷ 0xffffffffffffff80 ∷ 0xfffff080 ∷ 0xfffffffffffff080 ∷ []
unfolding sign_extended
extensions_of_negative_numbers = refl

pub extensions_of_positive_numbers : map (λ e. sign_extended e 0xffff70807f7f)
    (Low8 ∷ Full8 ∷ Low16 ∷ Full16 ∷ Full32 ∷ [])
    ≡ 0x7f ∷ 0x7f ∷ 0x7f7f ∷ 0x7f7f ∷ 0x70807f7f ∷ []
unfolding sign_extended
extensions_of_positive_numbers = refl

pub extension_of_negative_32_bits : sign_extended Full32 0x580000000 ≡ 0xffffffff80000000
unfolding sign_extended
extension_of_negative_32_bits = refl

-- ---- byte order

abbrev pub reordered_by : ByteOrder → List ℕ
reordered_by order = map (λ span. reordered order span 0x0102030405060708) (B16 ∷ B32 ∷ B64 ∷ [])

pub little_endian : reordered_by Little ≡ 0x0708 ∷ 0x05060708 ∷ 0x0102030405060708 ∷ []
unfolding reordered
little_endian = refl

pub big_endian : reordered_by Big ≡ 0x0807 ∷ 0x08070605 ∷ 0x0807060504030201 ∷ []
unfolding reordered
big_endian = refl

pub byte_swaps : reordered_by Swap ≡ 0x0807 ∷ 0x08070605 ∷ 0x0807060504030201 ∷ []
unfolding reordered
byte_swaps = refl

pub bytes_of_a_number : map (λ size. bytes_of size 0x0102030405060708) (U8 ∷ U16 ∷ U32 ∷ U64 ∷ [])
    ≡ (8 ∷ []) ∷ (8 ∷ 7 ∷ []) ∷ (8 ∷ 7 ∷ 6 ∷ 5 ∷ []) ∷ (8 ∷ 7 ∷ 6 ∷ 5 ∷ 4 ∷ 3 ∷ 2 ∷ 1 ∷ []) ∷ []
bytes_of_a_number = refl

pub number_from_bytes : map number_from
    ((8 ∷ []) ∷ (8 ∷ 7 ∷ []) ∷ (8 ∷ 7 ∷ 6 ∷ 5 ∷ []) ∷ (8 ∷ 7 ∷ 6 ∷ 5 ∷ 4 ∷ 3 ∷ 2 ∷ 1 ∷ []) ∷ [])
    ≡ 8 ∷ 0x0708 ∷ 0x05060708 ∷ 0x0102030405060708 ∷ []
number_from_bytes = refl

-- ---- comparisons

-- whether a comparison holds at 64 and at 32 bits
abbrev pub both_hold : ℕ → ℕ → Comparison → Bool × Bool
both_hold a b c = (holds c Full64 a b, holds c Low32 a b)

abbrev pub unsigned_comparisons : List Comparison
unsigned_comparisons = Equal ∷ NotEqual ∷ Greater ∷ GreaterEqual ∷ Less ∷ LessEqual ∷ AnyBit ∷ []

abbrev pub signed_comparisons : List Comparison
signed_comparisons = SignedGreater ∷ SignedGreaterEqual ∷ SignedLess ∷ SignedLessEqual ∷ []

-- 6 and 6: equal, and with bits in common
pub equal_numbers : map (both_hold 6 6) unsigned_comparisons
    ≡ (true, true) ∷ (false, false) ∷ (false, false) ∷ (true, true) ∷ (false, false) ∷ (true, true)
    ∷ (true, true) ∷ []
unfolding holds
equal_numbers = refl

pub equal_numbers_with_signs : map (both_hold minus_one minus_one) signed_comparisons
    ≡ (false, false) ∷ (true, true) ∷ (false, false) ∷ (true, true) ∷ []
unfolding holds
equal_numbers_with_signs = refl

-- -1 and 0: above without signs, below with them, and no bit in common
pub minus_one_and_zero : map (both_hold minus_one 0) unsigned_comparisons
    ≡ (false, false) ∷ (true, true) ∷ (true, true) ∷ (true, true) ∷ (false, false) ∷ (false, false)
    ∷ (false, false) ∷ []
unfolding holds
minus_one_and_zero = refl

pub minus_one_and_zero_with_signs : map (both_hold minus_one 0) signed_comparisons
    ≡ (false, false) ∷ (false, false) ∷ (true, true) ∷ (true, true) ∷ []
unfolding holds
minus_one_and_zero_with_signs = refl

-- 2^32 and 1: above at 64 bits, below at 32
pub widths_differ : map (both_hold end32 1) unsigned_comparisons
    ≡ (false, false) ∷ (true, true) ∷ (true, false) ∷ (true, false) ∷ (false, true) ∷ (false, true)
    ∷ (false, false) ∷ []
unfolding holds
widths_differ = refl

-- 2^32 and 0 are equal at 32 bits, and 2^32 has a bit in common with itself at 64 only
pub low_halves_are_equal : holds Equal Low32 end32 0 ∷ holds NotEqual Low32 end32 0
    ∷ holds AnyBit Full64 end32 end32 ∷ holds AnyBit Low32 end32 end32 ∷ []
    ≡ true ∷ false ∷ true ∷ false ∷ []
unfolding holds
low_halves_are_equal = refl

-- 2^31 and 0: the sign at 32 bits is another than at 64
pub sign_of_the_low_half : map (both_hold least32 0) signed_comparisons
    ≡ (true, false) ∷ (true, false) ∷ (false, true) ∷ (false, true) ∷ []
unfolding holds
sign_of_the_low_half = refl
