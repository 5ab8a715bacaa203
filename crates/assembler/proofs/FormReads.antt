-- The tokens of each form are read as its instruction.
use Rattle.assembler.proofs.Common.{◌≡◌, ℕ, suc, ◌<◌, ◌^◌, List, [], ◌∷◌, ◌++◌, refl, ap, arith, lt-ltb, le-leb, eq-eqb, Some, None, Result, Ok, true, false, ◌==◌, nat_lt, nat_le, ℤ, pos, negsuc, w16, w32, FitsSigned, Reg, R0, Width, Low32, Full64, Size, SignedSize, Extension, Low8, Low16, Full8, Full16, Full32, SwapWidth, ByteOrder, AluOp, AtomicOp, Comparison, Operand, Constant, Register, Insn, Alu, Neg, MovSx, ByteSwap, LoadNumber, Load, LoadSx, StoreConstant, Store, Atomic, Exchange, CompareExchange, Jump, JumpLong, JumpIf, CallHelper, CallLocal, Exit, width_bits, width_size, OperandFits, extension_width, Word, Sign, Token, Named, Number, Signed, Reading, Wrong, atomic_op_of, comparison_of, width_of, arithmetic, reading_of, assigns, changes, compares, extends}
use Rattle.isa_model.specs.declared.instructions.AluOp.TheVariants as op
use Rattle.isa_model.specs.declared.instructions.AtomicOp.TheVariants as atomic
use Rattle.isa_model.specs.declared.instructions.Comparison.TheVariants as comparison
use Rattle.isa_model.specs.Code.Registers.{reg_number}
use Rattle.assembler.specs.declared.tokens.Word.TheVariants as word
use Rattle.assembler.specs.declared.tokens.Sign.TheVariants as sign
use Rattle.assembler.proofs.PlainTexts.{unnamed_reading, plain_statement}
use Rattle.assembler.proofs.TokenReads.{signed_tokens, constant_tokens, operand_tokens}

-- ---- single tokens and numbers

pub same-width : (w : Width) → (width_bits w == width_bits w) ≡ true
same-width w = eq-eqb (width_bits w) (width_bits w) refl

pub same-register : (r : Reg) → (reg_number r == reg_number r) ≡ true
same-register r = eq-eqb (reg_number r) (reg_number r) refl

pub imm-pos : (n : ℕ) → FitsSigned w32 (pos n) → nat_lt n (2 ^ 31) ≡ true
imm-pos n h = lt-ltb n (2 ^ 31) (omega (arith, h))

pub imm-neg : (n : ℕ) → FitsSigned w32 (negsuc n) → nat_le (suc n) (2 ^ 31) ≡ true
imm-neg n h = le-leb (suc n) (2 ^ 31) (omega (arith, h))

pub offset-pos : (n : ℕ) → FitsSigned w16 (pos n) → nat_lt n (2 ^ 15) ≡ true
offset-pos n h = lt-ltb n (2 ^ 15) (omega (arith, h))

pub offset-neg : (n : ℕ) → FitsSigned w16 (negsuc n) → nat_le (suc n) (2 ^ 15) ≡ true
offset-neg n h = le-leb (suc n) (2 ^ 15) (omega (arith, h))

abbrev reg : Width → Reg → Token
reg w r = Named (word.Register w r)

abbrev read : Insn → Result Reading Wrong
read i = Ok (record { insn = i; name = None })

-- ---- arithmetic

arithmetic-read : (o : AluOp) (w : Width) (d : Reg) (x : Operand) (s : Sign) → OperandFits x
    → arithmetic o w d (reg w d ∷ Signed s ∷ operand_tokens w x) ≡ read (Alu w o d x)
arithmetic-read o w d (Register r) s h = rw (same-width w) refl
arithmetic-read o w d (Constant (pos n)) s h = rw (imm-pos n h) refl
arithmetic-read o w d (Constant (negsuc n)) s h = rw (imm-neg n h) refl

moved-read : (w : Width) (d : Reg) (x : Operand) → OperandFits x
    → reading_of (reg w d ∷ Signed sign.Assign ∷ operand_tokens w x) ≡ read (Alu w op.Mov d x)
unfolding reading_of
moved-read Low32 d (Register r) h = arithmetic-read op.Mov Low32 d (Register r) sign.Assign h
moved-read Full64 d (Register r) h = arithmetic-read op.Mov Full64 d (Register r) sign.Assign h
moved-read w d (Constant (pos n)) h = arithmetic-read op.Mov w d (Constant (pos n)) sign.Assign h
moved-read w d (Constant (negsuc n)) h =
    arithmetic-read op.Mov w d (Constant (negsuc n)) sign.Assign h

alu-statement : (o : AluOp) (w : Width) (d : Reg) (x : Operand) → OperandFits x
    → reading_of (reg w d ∷ Signed (assigns o) ∷ operand_tokens w x) ≡ read (Alu w o d x)
unfolding reading_of
alu-statement op.Mov w d x h = moved-read w d x h
alu-statement op.Add w d x h = arithmetic-read op.Add w d x sign.AddAssign h
alu-statement op.Sub w d x h = arithmetic-read op.Sub w d x sign.SubAssign h
alu-statement op.Mul w d x h = arithmetic-read op.Mul w d x sign.MulAssign h
alu-statement op.Div w d x h = arithmetic-read op.Div w d x sign.DivAssign h
alu-statement op.SignedDiv w d x h = arithmetic-read op.SignedDiv w d x sign.SignedDivAssign h
alu-statement op.Or w d x h = arithmetic-read op.Or w d x sign.OrAssign h
alu-statement op.And w d x h = arithmetic-read op.And w d x sign.AndAssign h
alu-statement op.Lsh w d x h = arithmetic-read op.Lsh w d x sign.LshAssign h
alu-statement op.Rsh w d x h = arithmetic-read op.Rsh w d x sign.RshAssign h
alu-statement op.Mod w d x h = arithmetic-read op.Mod w d x sign.ModAssign h
alu-statement op.SignedMod w d x h = arithmetic-read op.SignedMod w d x sign.SignedModAssign h
alu-statement op.Xor w d x h = arithmetic-read op.Xor w d x sign.XorAssign h
alu-statement op.Arsh w d x h = arithmetic-read op.Arsh w d x sign.ArshAssign h

pub alu-form : (o : AluOp) (w : Width) (d : Reg) (x : Operand) → OperandFits x
    → plain_statement (reg w d ∷ Signed (assigns o) ∷ operand_tokens w x) ≡ Some (Alu w o d x)
alu-form o w d x h = ap unnamed_reading (alu-statement o w d x h)

pub neg-form : (w : Width) (d : Reg)
    → plain_statement (reg w d ∷ Signed sign.Assign ∷ Signed sign.Minus ∷ reg w d ∷ [])
    ≡ Some (Neg w d)
unfolding reading_of
neg-form w d = rw (same-width w, same-register d) refl

pub extension-form : (e : Extension) (d s : Reg)
    → plain_statement
    (reg (extension_width e) d ∷ Signed sign.Assign ∷ Signed sign.Open
    ∷ Named (word.SignExtended (extends e).1) ∷ Signed sign.Close ∷ reg (extension_width e) s ∷ [])
    ≡ Some (MovSx e d s)
unfolding reading_of
extension-form Low8 d s = refl
extension-form Low16 d s = refl
extension-form Full8 d s = refl
extension-form Full16 d s = refl
extension-form Full32 d s = refl

pub swap-form : (order : ByteOrder) (bits : SwapWidth) (d : Reg)
    → plain_statement
    (reg Full64 d ∷ Signed sign.Assign ∷ Named (word.Swapped order bits) ∷ reg Full64 d ∷ [])
    ≡ Some (ByteSwap order bits d)
unfolding reading_of
swap-form order bits d = rw (same-register d) refl

pub wide-form : (d : Reg) (n : ℕ) → n < 2 ^ 64
    → plain_statement (reg Full64 d ∷ Signed sign.Assign ∷ Number n ∷ Named word.Wide ∷ [])
    ≡ Some (LoadNumber d n)
unfolding reading_of
wide-form d n h = let t : nat_lt n (2 ^ 64) ≡ true = lt-ltb n (2 ^ 64) h in rw t refl

-- ---- memory

-- * ( size * ) ( place )
abbrev pub memory_tokens : Word → Reg → ℤ → List Token → List Token
memory_tokens size b by rest =
    Signed sign.Star ∷ Signed sign.Open ∷ Named size ∷ Signed sign.Star ∷ Signed sign.Close
    ∷ Signed sign.Open ∷ reg Full64 b ∷ (signed_tokens by ++ Signed sign.Close ∷ rest)

pub load-form : (size : Size) (d b : Reg) (by : ℤ) → FitsSigned w16 by
    → plain_statement
    (reg Full64 d ∷ Signed sign.Assign ∷ memory_tokens (word.Unsigned size) b by [])
    ≡ Some (Load size d (record { base = b; offset = by }))
unfolding reading_of
load-form size d b (pos n) h = rw (offset-pos n h) refl
load-form size d b (negsuc n) h = rw (offset-neg n h) refl

pub extending-form : (size : SignedSize) (d b : Reg) (by : ℤ) → FitsSigned w16 by
    → plain_statement
    (reg Full64 d ∷ Signed sign.Assign ∷ memory_tokens (word.SignExtended size) b by [])
    ≡ Some (LoadSx size d (record { base = b; offset = by }))
unfolding reading_of
extending-form size d b (pos n) h = rw (offset-pos n h) refl
extending-form size d b (negsuc n) h = rw (offset-neg n h) refl

pub store-form : (size : Size) (b s : Reg) (by : ℤ) → FitsSigned w16 by
    → plain_statement
    (memory_tokens (word.Unsigned size) b by (Signed sign.Assign ∷ reg Full64 s ∷ []))
    ≡ Some (Store size (record { base = b; offset = by }) s)
unfolding reading_of
store-form size b s (pos n) h = rw (offset-pos n h) refl
store-form size b s (negsuc n) h = rw (offset-neg n h) refl

pub constant-form : (size : Size) (b : Reg) (by k : ℤ) → FitsSigned w16 by → FitsSigned w32 k
    → plain_statement
    (memory_tokens (word.Unsigned size) b by (Signed sign.Assign ∷ constant_tokens k))
    ≡ Some (StoreConstant size (record { base = b; offset = by }) k)
unfolding reading_of
constant-form size b (pos n) (pos m) h g = rw (offset-pos n h, imm-pos m g) refl
constant-form size b (pos n) (negsuc m) h g = rw (offset-pos n h, imm-neg m g) refl
constant-form size b (negsuc n) (pos m) h g = rw (offset-neg n h, imm-pos m g) refl
constant-form size b (negsuc n) (negsuc m) h g = rw (offset-neg n h, imm-neg m g) refl

-- ---- atomic instructions

pub atomic-back : (o : AtomicOp) → atomic_op_of (changes o) ≡ Ok o
atomic-back atomic.Add = refl
atomic-back atomic.Or = refl
atomic-back atomic.And = refl
atomic-back atomic.Xor = refl

pub width-back : (w : Width) → width_of (width_size w) ≡ Ok w
width-back Low32 = refl
width-back Full64 = refl

pub lock-form : (w : Width) (o : AtomicOp) (b s : Reg) (by : ℤ) → FitsSigned w16 by
    → plain_statement
    (Named word.Lock
    ∷ memory_tokens (word.Unsigned (width_size w)) b by (Signed (changes o) ∷ reg Full64 s ∷ []))
    ≡ Some (Atomic w o false (record { base = b; offset = by }) s)
unfolding reading_of
lock-form w o b s (pos n) h = rw (offset-pos n h, width-back w, atomic-back o) refl
lock-form w o b s (negsuc n) h = rw (offset-neg n h, width-back w, atomic-back o) refl

-- R = word ( place ,
abbrev pub exchange_tokens : Word → Reg → Reg → ℤ → List Token → List Token
exchange_tokens x d b by rest =
    reg Full64 d ∷ Signed sign.Assign ∷ Named x ∷ Signed sign.Open ∷ reg Full64 b
    ∷ (signed_tokens by ++ Signed sign.Comma ∷ rest)

pub fetch-form : (w : Width) (o : AtomicOp) (b s : Reg) (by : ℤ) → FitsSigned w16 by
    → plain_statement
    (exchange_tokens (word.Fetch o w) s b by (reg Full64 s ∷ Signed sign.Close ∷ []))
    ≡ Some (Atomic w o true (record { base = b; offset = by }) s)
unfolding reading_of
fetch-form w o b s (pos n) h = rw (offset-pos n h, same-register s) refl
fetch-form w o b s (negsuc n) h = rw (offset-neg n h, same-register s) refl

pub exchange-form : (w : Width) (b s : Reg) (by : ℤ) → FitsSigned w16 by
    → plain_statement
    (exchange_tokens (word.Exchange w) s b by (reg Full64 s ∷ Signed sign.Close ∷ []))
    ≡ Some (Exchange w (record { base = b; offset = by }) s)
unfolding reading_of
exchange-form w b s (pos n) h = rw (offset-pos n h, same-register s) refl
exchange-form w b s (negsuc n) h = rw (offset-neg n h, same-register s) refl

pub compare-form : (w : Width) (b s : Reg) (by : ℤ) → FitsSigned w16 by
    → plain_statement
    (exchange_tokens (word.CompareExchange w) R0 b by
    (reg Full64 R0 ∷ Signed sign.Comma ∷ reg Full64 s ∷ Signed sign.Close ∷ []))
    ≡ Some (CompareExchange w (record { base = b; offset = by }) s)
unfolding reading_of
compare-form w b s (pos n) h = rw (offset-pos n h) refl
compare-form w b s (negsuc n) h = rw (offset-neg n h) refl

-- ---- jumps

pub jump-form : (by : ℤ) → FitsSigned w16 by
    → plain_statement (Named word.Goto ∷ signed_tokens by) ≡ Some (Jump by)
unfolding reading_of
jump-form (pos n) h = rw (offset-pos n h) refl
jump-form (negsuc n) h = rw (offset-neg n h) refl

pub long-form : (by : ℤ) → FitsSigned w32 by
    → plain_statement (Named word.GotoLong ∷ signed_tokens by) ≡ Some (JumpLong by)
unfolding reading_of
long-form (pos n) h = rw (imm-pos n h) refl
long-form (negsuc n) h = rw (imm-neg n h) refl

pub call-form : (by : ℤ) → FitsSigned w32 by
    → plain_statement (Named word.Call ∷ Named word.Pc ∷ signed_tokens by) ≡ Some (CallLocal by)
unfolding reading_of
call-form (pos n) h = rw (imm-pos n h) refl
call-form (negsuc n) h = rw (imm-neg n h) refl

pub helper-form : (k : ℤ) → FitsSigned w32 k
    → plain_statement (Named word.Call ∷ constant_tokens k) ≡ Some (CallHelper k)
unfolding reading_of
helper-form (pos n) h = rw (imm-pos n h) refl
helper-form (negsuc n) h = rw (imm-neg n h) refl

pub exit-form : plain_statement (Named word.Exit ∷ []) ≡ Some Exit
unfolding reading_of
exit-form = refl

pub comparison-back : (c : Comparison) → comparison_of (compares c) ≡ Ok c
comparison-back comparison.Equal = refl
comparison-back comparison.NotEqual = refl
comparison-back comparison.Greater = refl
comparison-back comparison.GreaterEqual = refl
comparison-back comparison.Less = refl
comparison-back comparison.LessEqual = refl
comparison-back comparison.AnyBit = refl
comparison-back comparison.SignedGreater = refl
comparison-back comparison.SignedGreaterEqual = refl
comparison-back comparison.SignedLess = refl
comparison-back comparison.SignedLessEqual = refl

pub condition-form : (w : Width) (c : Comparison) (d : Reg) (x : Operand) (by : ℤ) → OperandFits x
    → FitsSigned w16 by
    → plain_statement
    (Named word.If ∷ reg w d ∷ Signed (compares c)
    ∷ (operand_tokens w x ++ Named word.Goto ∷ signed_tokens by))
    ≡ Some (JumpIf (record { width = w; comparison = c; register = d; operand = x }) by)
unfolding reading_of
condition-form w c d (Register r) (pos m) h g =
    rw (comparison-back c, same-width w, offset-pos m g) refl
condition-form w c d (Register r) (negsuc m) h g =
    rw (comparison-back c, same-width w, offset-neg m g) refl
condition-form w c d (Constant (pos n)) (pos m) h g =
    rw (comparison-back c, imm-pos n h, offset-pos m g) refl
condition-form w c d (Constant (pos n)) (negsuc m) h g =
    rw (comparison-back c, imm-pos n h, offset-neg m g) refl
condition-form w c d (Constant (negsuc n)) (pos m) h g =
    rw (comparison-back c, imm-neg n h, offset-pos m g) refl
condition-form w c d (Constant (negsuc n)) (negsuc m) h g =
    rw (comparison-back c, imm-neg n h, offset-neg m g) refl
