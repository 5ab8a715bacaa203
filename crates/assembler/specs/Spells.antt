-- Which tokens spell an instruction: one case for each form of the program text.
use Rattle.std.specs.Prelude.{◌≡◌, ◌≢◌, ℕ, ◌+◌, ◌-◌, ◌^◌, ◌<◌, ◌≤◌, ◌==◌, nat_le, if◌then◌else◌, ◌⊎◌, true, false, ℤ, pos, neg_ℤ, List, [], ◌∷◌, ◌++◌, length, Option, Some, None}
use Rattle.isa_model.specs.declared.registers.Reg.{Reg}
use Rattle.isa_model.specs.declared.registers.Reg.TheVariants.{R0}
use Rattle.isa_model.specs.declared.sizes.Width.{Width}
use Rattle.isa_model.specs.declared.sizes.Width.TheVariants.{Low32, Full64}
use Rattle.isa_model.specs.declared.sizes.SignedSize.{SignedSize}
use Rattle.isa_model.specs.declared.sizes.SignedSize.TheVariants.{S8, S16, S32}
use Rattle.isa_model.specs.declared.sizes.Extension.{Extension}
use Rattle.isa_model.specs.declared.sizes.Extension.TheVariants.{Low8, Low16, Full8, Full16, Full32}
use Rattle.isa_model.specs.declared.instructions.AluOp.{AluOp}
use Rattle.isa_model.specs.declared.instructions.AluOp.TheVariants as op
use Rattle.isa_model.specs.declared.instructions.AtomicOp.{AtomicOp}
use Rattle.isa_model.specs.declared.instructions.AtomicOp.TheVariants as atomic
use Rattle.isa_model.specs.declared.instructions.Comparison.{Comparison}
use Rattle.isa_model.specs.declared.instructions.Comparison.TheVariants as comparison
use Rattle.isa_model.specs.declared.instructions.Operand.{Operand}
use Rattle.isa_model.specs.declared.instructions.Operand.TheVariants.{Constant, Register}
use Rattle.isa_model.specs.declared.instructions.Place.{Place}
use Rattle.isa_model.specs.declared.instructions.Insn.{Insn}
use Rattle.isa_model.specs.declared.instructions.Insn.TheVariants.{Alu, Neg, MovSx, ByteSwap, LoadNumber, LoadMap, LoadMapValue, Load, LoadSx, StoreConstant, Store, Atomic, Exchange, CompareExchange, Jump, JumpLong, JumpIf, CallHelper, CallLocal, Exit}
use Rattle.isa_model.specs.Code.Sizes.{width_size}
use Rattle.assembler.specs.declared.tokens.Word.{Word}
use Rattle.assembler.specs.declared.tokens.Word.TheVariants as word
use Rattle.assembler.specs.declared.tokens.Sign.{Sign}
use Rattle.assembler.specs.declared.tokens.Sign.TheVariants as sign
use Rattle.assembler.specs.declared.tokens.Token.{Token}
use Rattle.assembler.specs.declared.tokens.Token.TheVariants.{Named, Number, Signed}

-- ---- the signs and sizes of the forms

-- = += -= *= /= s/= |= &= <<= >>= %= s%= ^= s>>=
abbrev pub assigns : AluOp → Sign
assigns op.Mov = sign.Assign
assigns op.Add = sign.AddAssign
assigns op.Sub = sign.SubAssign
assigns op.Mul = sign.MulAssign
assigns op.Div = sign.DivAssign
assigns op.SignedDiv = sign.SignedDivAssign
assigns op.Or = sign.OrAssign
assigns op.And = sign.AndAssign
assigns op.Lsh = sign.LshAssign
assigns op.Rsh = sign.RshAssign
assigns op.Mod = sign.ModAssign
assigns op.SignedMod = sign.SignedModAssign
assigns op.Xor = sign.XorAssign
assigns op.Arsh = sign.ArshAssign

-- += |= &= ^=
abbrev pub changes : AtomicOp → Sign
changes atomic.Add = sign.AddAssign
changes atomic.Or = sign.OrAssign
changes atomic.And = sign.AndAssign
changes atomic.Xor = sign.XorAssign

-- == != > >= < <= & s> s>= s< s<=
abbrev pub compares : Comparison → Sign
compares comparison.Equal = sign.Equal
compares comparison.NotEqual = sign.NotEqual
compares comparison.Greater = sign.Greater
compares comparison.GreaterEqual = sign.GreaterEqual
compares comparison.Less = sign.Less
compares comparison.LessEqual = sign.LessEqual
compares comparison.AnyBit = sign.Ampersand
compares comparison.SignedGreater = sign.SignedGreater
compares comparison.SignedGreaterEqual = sign.SignedGreaterEqual
compares comparison.SignedLess = sign.SignedLess
compares comparison.SignedLessEqual = sign.SignedLessEqual

-- W1 = (s8)W2, also s16; R1 = (s8)R2, also s16 and s32
abbrev pub extends : Extension → Width × SignedSize
extends Low8 = (Low32, S8)
extends Low16 = (Low32, S16)
extends Full8 = (Full64, S8)
extends Full16 = (Full64, S16)
extends Full32 = (Full64, S32)

-- ---- operands

-- R or W
abbrev pub reg : Width → Reg → Token
reg w r = Named (word.Register w r)

-- a sign and a number from -limit up to below limit
abbrev pub IsSigned : ℕ → Sign → ℕ → ℤ → Type 0
IsSigned limit s n k = ((s ≡ sign.Plus) × (n < limit) × (k ≡ pos n))
    ⊎ ((s ≡ sign.Minus) × (n ≤ limit) × (k ≡ neg_ℤ (pos n)))

-- N: a number of 32 bits, with or without a minus
abbrev pub SpellsConstant : List Token → ℤ → Type 0
SpellsConstant ts k =
    ((n : ℕ) × (ts ≡ Number n ∷ []) × (n < 2 ^ 31) × (k ≡ pos n))
    ⊎ ((n : ℕ) × (ts ≡ Signed sign.Minus ∷ Number n ∷ []) × (n ≤ 2 ^ 31) × (k ≡ neg_ℤ (pos n)))

-- N of 64 bits, as a register holds it
abbrev pub IsWide : List Token → ℕ → Type 0
IsWide ts k =
    ((n : ℕ) × (ts ≡ Number n ∷ []) × (n < 2 ^ 64) × (k ≡ n))
    ⊎ ((n : ℕ) × (ts ≡ Signed sign.Minus ∷ Number n ∷ []) × (n ≤ 2 ^ 63)
    × (k ≡ (if n == 0 then 0 else 2 ^ 64 - n)))

-- a register of the width, or N
abbrev pub IsOperand : Width → List Token → Operand → Type 0
IsOperand w ts (Register r) = ts ≡ reg w r ∷ []
IsOperand w ts (Constant k) = SpellsConstant ts k

-- a number without a sign; one over the most of its field counts as the most
abbrev pub field : ℕ → ℕ
field n = if nat_le n 4294967295 then n else 4294967295

-- R + n or R - n, with what follows it
abbrev pub place : Reg → Sign → ℕ → List Token → List Token
place base s n rest = reg Full64 base ∷ Signed s ∷ Number n ∷ rest

-- *(size *)(P), with what follows it
abbrev pub memory : Word → Reg → Sign → ℕ → List Token → List Token
memory size base s n rest = Signed sign.Star ∷ Signed sign.Open ∷ Named size ∷ Signed sign.Star
    ∷ Signed sign.Close ∷ Signed sign.Open ∷ place base s n (Signed sign.Close ∷ rest)

-- some sign and number spell the place's offset, and the rest holds of them
abbrev pub Offset : Place → (Sign → ℕ → Type 0) → Type 0
Offset p Is = (s : Sign) × (n : ℕ) × IsSigned (2 ^ 15) s n p.offset × Is s n

-- T: a distance, or a name, which is the token at this index
abbrev pub IsTarget : ℕ → List Token → ℤ → ℕ → Option ℕ → Type 0
IsTarget limit ts by i name =
    ((s : Sign) × (n : ℕ) × (ts ≡ Signed s ∷ Number n ∷ []) × IsSigned limit s n by × (name ≡ None))
    ⊎ ((x : Word) × (ts ≡ Named x ∷ []) × (x ≢ word.Pc) × (by ≡ pos 0) × (name ≡ Some i))

-- ---- forms

-- the tokens spell the instruction; where its target is a name the distance is 0, and the name is
-- the token at that index
unfoldable pub Spells : List Token → Insn → Option ℕ → Type 0
Spells ts (Alu w o d x) name = (name ≡ None)
    × ((xs : List Token) × IsOperand w xs x × (ts ≡ reg w d ∷ Signed (assigns o) ∷ xs))
Spells ts (Neg w d) name =
    (name ≡ None) × (ts ≡ reg w d ∷ Signed sign.Assign ∷ Signed sign.Minus ∷ reg w d ∷ [])
Spells ts (MovSx e d s) name =
    (name ≡ None)
    × (ts ≡ reg (extends e).0 d ∷ Signed sign.Assign ∷ Signed sign.Open
    ∷ Named (word.SignExtended (extends e).1) ∷ Signed sign.Close ∷ reg (extends e).0 s ∷ [])
Spells ts (ByteSwap order bits d) name = (name ≡ None)
    × (ts ≡ reg Full64 d ∷ Signed sign.Assign ∷ Named (word.Swapped order bits) ∷ reg Full64 d ∷ [])
Spells ts (LoadNumber d k) name =
    (name ≡ None) × ((xs : List Token) × IsWide xs k
    × (ts ≡ reg Full64 d ∷ Signed sign.Assign ∷ (xs ++ Named word.Wide ∷ [])))
Spells ts (LoadMap d m) name =
    (name ≡ None) × ((n : ℕ) × (m ≡ field n)
    × (ts ≡ reg Full64 d ∷ Signed sign.Assign ∷ Named word.MapByIndex ∷ Signed sign.Open
    ∷ Number n ∷ Signed sign.Close ∷ []))
Spells ts (LoadMapValue d m offset) name =
    (name ≡ None)
    × ((n : ℕ) × (k : ℕ) × (m ≡ field n) × (offset ≡ field k)
    × (ts ≡ reg Full64 d ∷ Signed sign.Assign ∷ Named word.MapValue ∷ Signed sign.Open
    ∷ Named word.MapByIndex ∷ Signed sign.Open ∷ Number n ∷ Signed sign.Close ∷ Signed sign.Close
    ∷ Signed sign.Plus ∷ Number k ∷ []))
Spells ts (Load size d p) name =
    (name ≡ None) × Offset p
    (λ s n. ts ≡ reg Full64 d ∷ Signed sign.Assign ∷ memory (word.Unsigned size) p.base s n [])
Spells ts (LoadSx size d p) name =
    (name ≡ None) × Offset p
    (λ s n. ts ≡ reg Full64 d ∷ Signed sign.Assign
    ∷ memory (word.SignExtended size) p.base s n [])
Spells ts (StoreConstant size p k) name =
    (name ≡ None) × ((xs : List Token) × SpellsConstant xs k
    × Offset p (λ s n. ts ≡ memory (word.Unsigned size) p.base s n (Signed sign.Assign ∷ xs)))
Spells ts (Store size p r) name =
    (name ≡ None) × Offset p
    (λ s n. ts ≡ memory (word.Unsigned size) p.base s n
    (Signed sign.Assign ∷ reg Full64 r ∷ []))
Spells ts (Atomic w o false p r) name =
    (name ≡ None) × Offset p
    (λ s n. ts ≡ Named word.Lock
    ∷ memory (word.Unsigned (width_size w)) p.base s n (Signed (changes o) ∷ reg Full64 r ∷ []))
Spells ts (Atomic w o true p r) name =
    (name ≡ None)
    × Offset p (λ s n. ts
    ≡ reg Full64 r ∷ Signed sign.Assign ∷ Named (word.Fetch o w) ∷ Signed sign.Open
    ∷ place p.base s n (Signed sign.Comma ∷ reg Full64 r ∷ Signed sign.Close ∷ []))
Spells ts (Exchange w p r) name =
    (name ≡ None)
    × Offset p (λ s n. ts
    ≡ reg Full64 r ∷ Signed sign.Assign ∷ Named (word.Exchange w) ∷ Signed sign.Open
    ∷ place p.base s n (Signed sign.Comma ∷ reg Full64 r ∷ Signed sign.Close ∷ []))
Spells ts (CompareExchange w p r) name =
    (name ≡ None)
    × Offset p (λ s n. ts
    ≡ reg Full64 R0 ∷ Signed sign.Assign ∷ Named (word.CompareExchange w) ∷ Signed sign.Open
    ∷ place p.base s n
    (Signed sign.Comma ∷ reg Full64 R0 ∷ Signed sign.Comma ∷ reg Full64 r ∷ Signed sign.Close ∷ []))
Spells ts (Jump by) name =
    (xs : List Token) × IsTarget (2 ^ 15) xs by 1 name × (ts ≡ Named word.Goto ∷ xs)
Spells ts (JumpLong by) name =
    (xs : List Token) × IsTarget (2 ^ 31) xs by 1 name × (ts ≡ Named word.GotoLong ∷ xs)
Spells ts (JumpIf cond by) name =
    (xs : List Token) × (ys : List Token) × IsOperand cond.width xs cond.operand
    × IsTarget (2 ^ 15) ys by (4 + length xs) name
    × (ts ≡ Named word.If ∷ reg cond.width cond.register ∷ Signed (compares cond.comparison)
    ∷ (xs ++ Named word.Goto ∷ ys))
Spells ts (CallHelper k) name =
    (name ≡ None) × ((xs : List Token) × SpellsConstant xs k × (ts ≡ Named word.Call ∷ xs))
Spells ts (CallLocal by) name =
    ((name ≡ None) × ((s : Sign) × (n : ℕ) × IsSigned (2 ^ 31) s n by
    × (ts ≡ Named word.Call ∷ Named word.Pc ∷ Signed s ∷ Number n ∷ [])))
    ⊎ ((x : Word) × (x ≢ word.Pc) × (by ≡ pos 0) × (name ≡ Some 1)
    × (ts ≡ Named word.Call ∷ Named x ∷ []))
Spells ts Exit name = (name ≡ None) × (ts ≡ Named word.Exit ∷ [])
