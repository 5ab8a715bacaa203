-- Single tokens of a statement, and what operands they spell.
use Rattle.std.specs.Prelude.{ℕ, ◌+◌, ◌-◌, ◌^◌, ◌==◌, nat_lt, nat_le, Bool, true, false, if◌then◌else◌, ℤ, pos, neg_ℤ, List, length, slice_get, Option, Some, None, ok_or, Result, Ok, Err}
use Rattle.isa_model.specs.declared.registers.Reg.{Reg}
use Rattle.isa_model.specs.declared.sizes.Width.{Width}
use Rattle.isa_model.specs.declared.sizes.Width.TheVariants.{Low32, Full64}
use Rattle.isa_model.specs.declared.sizes.Size.{Size}
use Rattle.isa_model.specs.declared.sizes.Size.TheVariants.{U32, U64}
use Rattle.isa_model.specs.declared.sizes.SignedSize.{SignedSize}
use Rattle.isa_model.specs.declared.sizes.SignedSize.TheVariants.{S8, S16, S32}
use Rattle.isa_model.specs.declared.sizes.Extension.{Extension}
use Rattle.isa_model.specs.declared.sizes.Extension.TheVariants.{Low8, Low16, Full8, Full16, Full32}
use Rattle.isa_model.specs.declared.instructions.AluOp.{AluOp}
use Rattle.isa_model.specs.declared.instructions.AluOp.TheVariants as op
use Rattle.isa_model.specs.declared.instructions.AtomicOp.{AtomicOp}
use Rattle.isa_model.specs.declared.instructions.AtomicOp.TheVariants as atomic
use Rattle.isa_model.specs.declared.instructions.Comparison.{Comparison}
use Rattle.isa_model.specs.declared.instructions.Comparison.TheVariants as comparison
use Rattle.isa_model.specs.declared.instructions.Operand.{Operand}
use Rattle.isa_model.specs.declared.instructions.Operand.TheVariants.{Constant, Register}
use Rattle.isa_model.specs.declared.instructions.Place.{Place}
use Rattle.isa_model.specs.declared.map_defs.MapType.{MapType}
use Rattle.isa_model.specs.Code.Registers.{reg_number}
use Rattle.isa_model.specs.Code.Sizes.{width_bits}
use Rattle.assembler.specs.declared.tokens.Word.{Word}
use Rattle.assembler.specs.declared.tokens.Word.TheVariants as word
use Rattle.assembler.specs.declared.tokens.Sign.{Sign}
use Rattle.assembler.specs.declared.tokens.Sign.TheVariants as sign
use Rattle.assembler.specs.declared.tokens.Token.{Token}
use Rattle.assembler.specs.declared.tokens.Token.TheVariants.{Named, Number, Signed}
use Rattle.assembler.specs.declared.wrong.Wrong.{Wrong}
use Rattle.assembler.specs.declared.wrong.Wrong.TheVariants.{Form, Range}

infixl 10 ◌>>=◌
abbrev pub ◌>>=◌ : {A B E : Type 0} → Result A E → (A → Result B E) → Result B E
(Ok x) >>= f = f x
(Err e) >>= f = Err e

abbrev pub keep : {A : Type 0} → Bool → A → Result A Wrong
keep true x = Ok x
keep false x = Err Form

-- ---- single tokens

abbrev pub token_at : List Token → ℕ → Result Token Wrong
token_at ts i = ok_or (slice_get ts i) Form

abbrev pub as_sign : Token → Result Sign Wrong
as_sign (Signed s) = Ok s
as_sign (Named x) = Err Form
as_sign (Number n) = Err Form

abbrev pub as_number : Token → Result ℕ Wrong
as_number (Number n) = Ok n
as_number (Signed s) = Err Form
as_number (Named x) = Err Form

abbrev pub as_word : Token → Result Word Wrong
as_word (Named x) = Ok x
as_word (Signed s) = Err Form
as_word (Number n) = Err Form

abbrev pub sign_at : List Token → ℕ → Result Sign Wrong
sign_at ts i = token_at ts i >>= as_sign

abbrev pub number_at : List Token → ℕ → Result ℕ Wrong
number_at ts i = token_at ts i >>= as_number

abbrev pub word_at : List Token → ℕ → Result Word Wrong
word_at ts i = token_at ts i >>= as_word

-- the signs between other tokens
abbrev pub is_sign : Sign → Sign → Bool
is_sign sign.Open sign.Open = true
is_sign sign.Close sign.Close = true
is_sign sign.Star sign.Star = true
is_sign sign.Comma sign.Comma = true
is_sign sign.Assign sign.Assign = true
is_sign sign.Plus sign.Plus = true
is_sign s t = false

abbrev pub expect_at : List Token → ℕ → Sign → Result (Unit {0}) Wrong
expect_at ts i s = sign_at ts i >>= λ t. keep (is_sign t s) tt

-- whether the sign is a minus; it has to be + or -
abbrev pub is_minus : Sign → Result Bool Wrong
is_minus sign.Minus = Ok true
is_minus sign.Plus = Ok false
is_minus s = Err Form

abbrev pub op_of : Sign → Result AluOp Wrong
op_of sign.Assign = Ok op.Mov
op_of sign.AddAssign = Ok op.Add
op_of sign.SubAssign = Ok op.Sub
op_of sign.MulAssign = Ok op.Mul
op_of sign.DivAssign = Ok op.Div
op_of sign.SignedDivAssign = Ok op.SignedDiv
op_of sign.ModAssign = Ok op.Mod
op_of sign.SignedModAssign = Ok op.SignedMod
op_of sign.OrAssign = Ok op.Or
op_of sign.AndAssign = Ok op.And
op_of sign.XorAssign = Ok op.Xor
op_of sign.LshAssign = Ok op.Lsh
op_of sign.RshAssign = Ok op.Rsh
op_of sign.ArshAssign = Ok op.Arsh
op_of s = Err Form

abbrev pub atomic_op_of : Sign → Result AtomicOp Wrong
atomic_op_of sign.AddAssign = Ok atomic.Add
atomic_op_of sign.OrAssign = Ok atomic.Or
atomic_op_of sign.AndAssign = Ok atomic.And
atomic_op_of sign.XorAssign = Ok atomic.Xor
atomic_op_of s = Err Form

abbrev pub comparison_of : Sign → Result Comparison Wrong
comparison_of sign.Equal = Ok comparison.Equal
comparison_of sign.NotEqual = Ok comparison.NotEqual
comparison_of sign.Greater = Ok comparison.Greater
comparison_of sign.GreaterEqual = Ok comparison.GreaterEqual
comparison_of sign.Less = Ok comparison.Less
comparison_of sign.LessEqual = Ok comparison.LessEqual
comparison_of sign.Ampersand = Ok comparison.AnyBit
comparison_of sign.SignedGreater = Ok comparison.SignedGreater
comparison_of sign.SignedGreaterEqual = Ok comparison.SignedGreaterEqual
comparison_of sign.SignedLess = Ok comparison.SignedLess
comparison_of sign.SignedLessEqual = Ok comparison.SignedLessEqual
comparison_of s = Err Form

-- the width of an atomic instruction on memory of the size
abbrev pub width_of : Size → Result Width Wrong
width_of U32 = Ok Low32
width_of U64 = Ok Full64
width_of size = Err Form

abbrev pub extension_of : Width → SignedSize → Result Extension Wrong
extension_of Low32 S8 = Ok Low8
extension_of Low32 S16 = Ok Low16
extension_of Low32 S32 = Err Form
extension_of Full64 S8 = Ok Full8
extension_of Full64 S16 = Ok Full16
extension_of Full64 S32 = Ok Full32

-- ---- numbers in their ranges; `at` is the index of the number or of its minus

-- from -limit up to below limit
abbrev pub signed_within : ℕ → ℕ → Bool → ℕ → Result ℤ Wrong
signed_within limit at true n = if nat_le n limit then Ok (neg_ℤ (pos n)) else Err (Range at)
signed_within limit at false n = if nat_lt n limit then Ok (pos n) else Err (Range at)

-- 64 bits, signed or not
abbrev pub wide_within : ℕ → Bool → ℕ → Result ℕ Wrong
wide_within at true n =
    if nat_le n (2 ^ 63) then Ok (if n == 0 then 0 else 2 ^ 64 - n) else Err (Range at)
wide_within at false n = if nat_lt n (2 ^ 64) then Ok n else Err (Range at)

-- a sign and a number
abbrev pub signed_at : ℕ → List Token → ℕ → Result ℤ Wrong
signed_at limit ts i =
    sign_at ts i >>= is_minus >>= λ minus. number_at ts (i + 1) >>= signed_within limit i minus

-- the index of the number at index i, after its minus if it has one
abbrev pub number_index : ℕ → Token → Result (Bool × ℕ) Wrong
number_index i (Number n) = Ok (false, i)
number_index i (Signed sign.Minus) = Ok (true, i + 1)
number_index i t = Err Form

-- a number for imm, and the index after it
abbrev pub constant_at : List Token → ℕ → Result (ℤ × ℕ) Wrong
constant_at ts i =
    token_at ts i >>= number_index i >>= λ (p : Bool × ℕ). number_at ts p.1 >>= signed_within
    (2 ^ 31) i p.0 >>= λ k. Ok (k, p.1 + 1)

-- ---- registers and places

abbrev pub same_width : Width → Width → Bool
same_width v w = width_bits v == width_bits w

abbrev pub same_register : Reg → Reg → Bool
same_register r s = reg_number r == reg_number s

-- a register of that width
abbrev pub as_register : Width → Word → Result Reg Wrong
as_register w (word.Register v r) = keep (same_width v w) r
as_register w x = Err Form

abbrev pub register_at : Width → List Token → ℕ → Result Reg Wrong
register_at w ts i = word_at ts i >>= as_register w

-- that register, at that width
abbrev pub again_at : Width → Reg → List Token → ℕ → Result (Unit {0}) Wrong
again_at w r ts i = register_at w ts i >>= λ s. keep (same_register s r) tt

-- an operand, and the index after it
abbrev pub operand_token : Width → List Token → ℕ → Token → Result (Operand × ℕ) Wrong
operand_token w ts i (Named x) = as_register w x >>= λ r. Ok (Register r, i + 1)
operand_token w ts i t = constant_at ts i >>= λ (k : ℤ × ℕ). Ok (Constant k.0, k.1)

abbrev pub operand_at : Width → List Token → ℕ → Result (Operand × ℕ) Wrong
operand_at w ts i = token_at ts i >>= operand_token w ts i

-- a base, and an offset after its sign
abbrev pub place_at : List Token → ℕ → Result Place Wrong
place_at ts i = register_at Full64 ts i >>= λ b. signed_at (2 ^ 15) ts (i + 1)
    >>= λ by. Ok (record { base = b; offset = by })

-- * ( size * ) ( place )
abbrev pub memory_at : List Token → ℕ → Result (Word × Place) Wrong
memory_at ts i =
    expect_at ts i sign.Star >>= λ a. expect_at ts (i + 1) sign.Open >>= λ b. word_at ts (i + 2)
    >>= λ size.
    expect_at ts (i + 3) sign.Star >>= λ c. expect_at ts (i + 4) sign.Close
    >>= λ d. expect_at ts (i + 5) sign.Open >>= λ e.
    place_at ts (i + 6) >>= λ p. expect_at ts (i + 9) sign.Close >>= λ f. Ok (size, p)

-- ( place , as the first argument of a function is written
abbrev pub argument_at : List Token → ℕ → Result Place Wrong
argument_at ts i =
    expect_at ts i sign.Open >>= λ a. place_at ts (i + 1) >>= λ p. expect_at ts (i + 4) sign.Comma
    >>= λ b. Ok p

abbrev pub as_size : Word → Result Size Wrong
as_size (word.Unsigned size) = Ok size
as_size x = Err Form

abbrev pub as_signed_size : Word → Result SignedSize Wrong
as_signed_size (word.SignExtended size) = Ok size
as_signed_size x = Err Form

-- ---- targets: a distance, or the index of a name instead

-- all words but pc are names
abbrev pub is_name : Word → Bool
is_name word.Pc = false
is_name x = true

abbrev pub target_token : ℕ → List Token → ℕ → Token → Result (ℤ × Option ℕ) Wrong
target_token limit ts i (Signed s) =
    signed_at limit ts i >>= λ by. keep (length ts == i + 2) (by, None)
target_token limit ts i (Named x) =
    if is_name x then keep (length ts == i + 1) (pos 0, Some i) else Err Form
target_token limit ts i (Number n) = Err Form

-- a target at index i, and nothing after it
abbrev pub target_at : ℕ → List Token → ℕ → Result (ℤ × Option ℕ) Wrong
target_at limit ts i = token_at ts i >>= target_token limit ts i

-- ---- maps

-- a number without a sign; one over the most of its field counts as the most, which is out of a
-- map's limits as well
abbrev pub field_at : ℕ → List Token → ℕ → Result ℕ Wrong
field_at most ts i = number_at ts i >>= λ n. Ok (if nat_le n most then n else most)

abbrev pub as_map_type : Word → Result MapType Wrong
as_map_type (word.MapType kind) = Ok kind
as_map_type x = Err Form

abbrev pub is_by_index : Word → Bool
is_by_index word.MapByIndex = true
is_by_index x = false

-- ( n )
abbrev pub index_at : List Token → ℕ → Result ℕ Wrong
index_at ts i = expect_at ts i sign.Open >>= λ a. field_at 4294967295 ts (i + 1)
    >>= λ n. expect_at ts (i + 2) sign.Close >>= λ b. Ok n

-- map_by_idx ( n )
abbrev pub by_index_at : List Token → ℕ → Result ℕ Wrong
by_index_at ts i = word_at ts i >>= λ x. if is_by_index x then index_at ts (i + 1) else Err Form
