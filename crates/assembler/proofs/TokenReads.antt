-- Tokens of canonical text are read.
use Rattle.assembler.proofs.Common.{◌≡◌, ℕ, suc, ◌<◌, ◌^◌, List, [], ◌∷◌, ◌++◌, length, refl, ap, ◌∙◌, arith, append_assoc, codes, Some, false, slice_index, ◌==◌, decimal, ℤ, pos, negsuc, w16, w32, FitsSigned, Reg, R0, R1, R2, R3, R4, R5, R6, R7, R8, R9, R10, Width, Low32, Full64, Size, SignedSize, Extension, Low8, Low16, Full8, Full16, Full32, SwapWidth, ByteOrder, AluOp, AtomicOp, Comparison, Operand, Constant, Register, Place, MapType, OperandFits, reg_text, size_text, signed_text, extension_text, span_text, order_text, width_text, op_text, comparison_text, atomic_text, fetch_text, operand_text, offset_text, distance_text, map_type_text, Token, Named, Number, Signed, Solid, is_word_byte, lexeme_at, assigns, changes, compares, extends}
use Rattle.isa_model.specs.declared.sizes.Size.TheVariants.{U8, U16, U32, U64}
use Rattle.isa_model.specs.declared.sizes.SignedSize.TheVariants.{S8, S16, S32}
use Rattle.isa_model.specs.declared.sizes.SwapWidth.TheVariants.{B16, B32, B64}
use Rattle.isa_model.specs.declared.sizes.ByteOrder.TheVariants.{Little, Big, Swap}
use Rattle.isa_model.specs.declared.instructions.AluOp.TheVariants as op
use Rattle.isa_model.specs.declared.instructions.AtomicOp.TheVariants as atomic
use Rattle.isa_model.specs.declared.instructions.Comparison.TheVariants as comparison
use Rattle.isa_model.specs.declared.map_defs.MapType.TheVariants.{Hash, Array}
use Rattle.assembler.specs.declared.tokens.Word.TheVariants as word
use Rattle.assembler.specs.declared.tokens.Sign.TheVariants as sign
use Rattle.assembler.proofs.PlainTexts.{Parts, PlainReadSoFar, read_rest}
use Rattle.assembler.proofs.FrontTokens.{token}
use Rattle.assembler.proofs.Digits.{decimal-read, no-equals}

-- the tokens of the statement so far, and what comes before it
abbrev pub draft : List Token → Parts → PlainReadSoFar
draft ts ps = record { tokens = ts; parts = ps }

-- ---- registers, before a byte that is part of no word

reg-lexeme : (w : Width) (r : Reg) (c : ℕ) (rest : List ℕ) → is_word_byte c ≡ false
    → lexeme_at (reg_text w r ++ c ∷ rest)
    ≡ Some (Solid (Named (word.Register w r)), length (reg_text w r))
reg-lexeme Low32 R0 c rest h = rw h refl
reg-lexeme Low32 R1 c rest h = rw h refl
reg-lexeme Low32 R2 c rest h = rw h refl
reg-lexeme Low32 R3 c rest h = rw h refl
reg-lexeme Low32 R4 c rest h = rw h refl
reg-lexeme Low32 R5 c rest h = rw h refl
reg-lexeme Low32 R6 c rest h = rw h refl
reg-lexeme Low32 R7 c rest h = rw h refl
reg-lexeme Low32 R8 c rest h = rw h refl
reg-lexeme Low32 R9 c rest h = rw h refl
reg-lexeme Low32 R10 c rest h = rw h refl
reg-lexeme Full64 R0 c rest h = rw h refl
reg-lexeme Full64 R1 c rest h = rw h refl
reg-lexeme Full64 R2 c rest h = rw h refl
reg-lexeme Full64 R3 c rest h = rw h refl
reg-lexeme Full64 R4 c rest h = rw h refl
reg-lexeme Full64 R5 c rest h = rw h refl
reg-lexeme Full64 R6 c rest h = rw h refl
reg-lexeme Full64 R7 c rest h = rw h refl
reg-lexeme Full64 R8 c rest h = rw h refl
reg-lexeme Full64 R9 c rest h = rw h refl
reg-lexeme Full64 R10 c rest h = rw h refl

some-letters : (w : Width) (r : Reg) → 0 < length (reg_text w r)
some-letters Low32 r = omega arith
some-letters Full64 r = omega arith

pub reg-read : (w : Width) (r : Reg) (c : ℕ) (rest : List ℕ) (ts : List Token) (ps : Parts)
    → is_word_byte c ≡ false
    → read_rest (reg_text w r ++ c ∷ rest) 0 (draft ts ps)
    ≡ read_rest (c ∷ rest) 0 (draft (ts ++ Named (word.Register w r) ∷ []) ps)
reg-read w r c rest ts ps h = token (reg_text w r) (c ∷ rest) (Named (word.Register w r))
    (draft ts ps) (reg-lexeme w r c rest h) (some-letters w r)

-- ---- other words

pub size-read : (size : Size) (rest : List ℕ) (ts : List Token) (ps : Parts)
    → read_rest (size_text size ++ 32 ∷ rest) 0 (draft ts ps)
    ≡ read_rest (32 ∷ rest) 0 (draft (ts ++ Named (word.Unsigned size) ∷ []) ps)
size-read U8 rest ts ps = refl
size-read U16 rest ts ps = refl
size-read U32 rest ts ps = refl
size-read U64 rest ts ps = refl

pub signed_size-read : (size : SignedSize) (rest : List ℕ) (ts : List Token) (ps : Parts)
    → read_rest (signed_text size ++ 32 ∷ rest) 0 (draft ts ps)
    ≡ read_rest (32 ∷ rest) 0 (draft (ts ++ Named (word.SignExtended size) ∷ []) ps)
signed_size-read S8 rest ts ps = refl
signed_size-read S16 rest ts ps = refl
signed_size-read S32 rest ts ps = refl

pub extension-read : (e : Extension) (rest : List ℕ) (ts : List Token) (ps : Parts)
    → read_rest (extension_text e ++ 41 ∷ rest) 0 (draft ts ps)
    ≡ read_rest (41 ∷ rest) 0 (draft (ts ++ Named (word.SignExtended (extends e).1) ∷ []) ps)
extension-read Low8 rest ts ps = refl
extension-read Low16 rest ts ps = refl
extension-read Full8 rest ts ps = refl
extension-read Full16 rest ts ps = refl
extension-read Full32 rest ts ps = refl

pub swap-read : (order : ByteOrder) (bits : SwapWidth) (rest : List ℕ) (ts : List Token)
    (ps : Parts)
    → read_rest (order_text order ++ (span_text bits ++ 32 ∷ rest)) 0 (draft ts ps)
    ≡ read_rest (32 ∷ rest) 0 (draft (ts ++ Named (word.Swapped order bits) ∷ []) ps)
swap-read Little B16 rest ts ps = refl
swap-read Little B32 rest ts ps = refl
swap-read Little B64 rest ts ps = refl
swap-read Big B16 rest ts ps = refl
swap-read Big B32 rest ts ps = refl
swap-read Big B64 rest ts ps = refl
swap-read Swap B16 rest ts ps = refl
swap-read Swap B32 rest ts ps = refl
swap-read Swap B64 rest ts ps = refl

pub fetch-read : (o : AtomicOp) (w : Width) (rest : List ℕ) (ts : List Token) (ps : Parts)
    → read_rest (fetch_text o ++ (width_text w ++ 40 ∷ rest)) 0 (draft ts ps)
    ≡ read_rest (40 ∷ rest) 0 (draft (ts ++ Named (word.Fetch o w) ∷ []) ps)
fetch-read atomic.Add Low32 rest ts ps = refl
fetch-read atomic.Add Full64 rest ts ps = refl
fetch-read atomic.Or Low32 rest ts ps = refl
fetch-read atomic.Or Full64 rest ts ps = refl
fetch-read atomic.And Low32 rest ts ps = refl
fetch-read atomic.And Full64 rest ts ps = refl
fetch-read atomic.Xor Low32 rest ts ps = refl
fetch-read atomic.Xor Full64 rest ts ps = refl

pub map_type-read : (kind : MapType) (rest : List ℕ) (ts : List Token) (ps : Parts)
    → read_rest (map_type_text kind ++ 32 ∷ rest) 0 (draft ts ps)
    ≡ read_rest (32 ∷ rest) 0 (draft (ts ++ Named (word.MapType kind) ∷ []) ps)
map_type-read Hash rest ts ps = refl
map_type-read Array rest ts ps = refl

pub exchange-read : (w : Width) (rest : List ℕ) (ts : List Token) (ps : Parts)
    → read_rest (codes "xchg_" ++ (width_text w ++ 40 ∷ rest)) 0 (draft ts ps)
    ≡ read_rest (40 ∷ rest) 0 (draft (ts ++ Named (word.Exchange w) ∷ []) ps)
exchange-read Low32 rest ts ps = refl
exchange-read Full64 rest ts ps = refl

pub compare-read : (w : Width) (rest : List ℕ) (ts : List Token) (ps : Parts)
    → read_rest (codes "cmpxchg_" ++ (width_text w ++ 40 ∷ rest)) 0 (draft ts ps)
    ≡ read_rest (40 ∷ rest) 0 (draft (ts ++ Named (word.CompareExchange w) ∷ []) ps)
compare-read Low32 rest ts ps = refl
compare-read Full64 rest ts ps = refl

-- ---- signs

pub op-read : (o : AluOp) (rest : List ℕ) (ts : List Token) (ps : Parts)
    → read_rest (op_text o ++ 32 ∷ rest) 0 (draft ts ps)
    ≡ read_rest (32 ∷ rest) 0 (draft (ts ++ Signed (assigns o) ∷ []) ps)
op-read op.Mov rest ts ps = refl
op-read op.Add rest ts ps = refl
op-read op.Sub rest ts ps = refl
op-read op.Mul rest ts ps = refl
op-read op.Div rest ts ps = refl
op-read op.SignedDiv rest ts ps = refl
op-read op.Or rest ts ps = refl
op-read op.And rest ts ps = refl
op-read op.Lsh rest ts ps = refl
op-read op.Rsh rest ts ps = refl
op-read op.Mod rest ts ps = refl
op-read op.SignedMod rest ts ps = refl
op-read op.Xor rest ts ps = refl
op-read op.Arsh rest ts ps = refl

pub atomic-read : (o : AtomicOp) (rest : List ℕ) (ts : List Token) (ps : Parts)
    → read_rest (atomic_text o ++ 32 ∷ rest) 0 (draft ts ps)
    ≡ read_rest (32 ∷ rest) 0 (draft (ts ++ Signed (changes o) ∷ []) ps)
atomic-read atomic.Add rest ts ps = refl
atomic-read atomic.Or rest ts ps = refl
atomic-read atomic.And rest ts ps = refl
atomic-read atomic.Xor rest ts ps = refl

pub comparison-read : (c : Comparison) (rest : List ℕ) (ts : List Token) (ps : Parts)
    → read_rest (comparison_text c ++ 32 ∷ rest) 0 (draft ts ps)
    ≡ read_rest (32 ∷ rest) 0 (draft (ts ++ Signed (compares c) ∷ []) ps)
comparison-read comparison.Equal rest ts ps = refl
comparison-read comparison.NotEqual rest ts ps = refl
comparison-read comparison.Greater rest ts ps = refl
comparison-read comparison.GreaterEqual rest ts ps = refl
comparison-read comparison.Less rest ts ps = refl
comparison-read comparison.LessEqual rest ts ps = refl
comparison-read comparison.AnyBit rest ts ps = refl
comparison-read comparison.SignedGreater rest ts ps = refl
comparison-read comparison.SignedGreaterEqual rest ts ps = refl
comparison-read comparison.SignedLess rest ts ps = refl
comparison-read comparison.SignedLessEqual rest ts ps = refl

-- a minus before a register
pub negative-read : (w : Width) (r : Reg) (rest : List ℕ) (ts : List Token) (ps : Parts)
    → read_rest (45 ∷ (reg_text w r ++ rest)) 0 (draft ts ps)
    ≡ read_rest (reg_text w r ++ rest) 0 (draft (ts ++ Signed sign.Minus ∷ []) ps)
negative-read Low32 r rest ts ps = refl
negative-read Full64 r rest ts ps = refl

-- ---- numbers with their signs

abbrev pub signed_tokens : ℤ → List Token
signed_tokens (pos n) = Signed sign.Plus ∷ Number n ∷ []
signed_tokens (negsuc n) = Signed sign.Minus ∷ Number (suc n) ∷ []

abbrev pub constant_tokens : ℤ → List Token
constant_tokens (pos n) = Number n ∷ []
constant_tokens (negsuc n) = Signed sign.Minus ∷ Number (suc n) ∷ []

abbrev pub operand_tokens : Width → Operand → List Token
operand_tokens w (Register r) = Named (word.Register w r) ∷ []
operand_tokens w (Constant k) = constant_tokens k

abbrev pub place_tokens : Place → List Token
place_tokens p = Named (word.Register Full64 p.base) ∷ signed_tokens p.offset

-- two tokens, one after the other
two : (bs : List ℕ) (ts : List Token) (a b : Token) (ps : Parts)
    → read_rest bs 0 (draft ((ts ++ a ∷ []) ++ b ∷ []) ps)
    ≡ read_rest bs 0 (draft (ts ++ a ∷ b ∷ []) ps)
two bs ts a b ps = ap (λ us. read_rest bs 0 (draft us ps)) (append_assoc ts (a ∷ []) (b ∷ []))

minus-one : (n c : ℕ) (rest : List ℕ) (ts : List Token) (ps : Parts) → n < 2 ^ 64 → c < 48
    → read_rest (45 ∷ (decimal n ++ c ∷ rest)) 0 (draft ts ps)
    ≡ read_rest (decimal n ++ c ∷ rest) 0 (draft (ts ++ Signed sign.Minus ∷ []) ps)
minus-one n c rest ts ps small low =
    let t : (slice_index (decimal n ++ c ∷ rest) 0 == 61) ≡ false = no-equals n c rest small low in
    rw t refl

plus-one : (n c : ℕ) (rest : List ℕ) (ts : List Token) (ps : Parts) → n < 2 ^ 64 → c < 48
    → read_rest (43 ∷ (decimal n ++ c ∷ rest)) 0 (draft ts ps)
    ≡ read_rest (decimal n ++ c ∷ rest) 0 (draft (ts ++ Signed sign.Plus ∷ []) ps)
plus-one n c rest ts ps small low =
    let t : (slice_index (decimal n ++ c ∷ rest) 0 == 61) ≡ false = no-equals n c rest small low in
    rw t refl

signed-number : (n c : ℕ) (t : Token) (rest : List ℕ) (ts : List Token) (ps : Parts) → n < 2 ^ 64
    → c < 48 → read_rest (decimal n ++ c ∷ rest) 0 (draft (ts ++ t ∷ []) ps)
    ≡ read_rest (c ∷ rest) 0 (draft (ts ++ t ∷ Number n ∷ []) ps)
signed-number n c t rest ts ps small low =
    decimal-read n c rest (draft (ts ++ t ∷ []) ps) small low ∙ two (c ∷ rest) ts t (Number n) ps

pub distance-read : (by : ℤ) (c : ℕ) (rest : List ℕ) (ts : List Token) (ps : Parts)
    → FitsSigned w32 by → c < 48
    → read_rest (distance_text by ++ c ∷ rest) 0 (draft ts ps)
    ≡ read_rest (c ∷ rest) 0 (draft (ts ++ signed_tokens by) ps)
distance-read (pos n) c rest ts ps h low = plus-one n c rest ts ps (omega (arith, h)) low
    ∙ signed-number n c (Signed sign.Plus) rest ts ps (omega (arith, h)) low
distance-read (negsuc n) c rest ts ps h low =
    minus-one (suc n) c rest ts ps (omega (arith, h)) low
    ∙ signed-number (suc n) c (Signed sign.Minus) rest ts ps (omega (arith, h)) low

pub near-read : (by : ℤ) (c : ℕ) (rest : List ℕ) (ts : List Token) (ps : Parts) → FitsSigned w16 by
    → c < 48 → read_rest (distance_text by ++ c ∷ rest) 0 (draft ts ps)
    ≡ read_rest (c ∷ rest) 0 (draft (ts ++ signed_tokens by) ps)
near-read (pos n) c rest ts ps h low = plus-one n c rest ts ps (omega (arith, h)) low
    ∙ signed-number n c (Signed sign.Plus) rest ts ps (omega (arith, h)) low
near-read (negsuc n) c rest ts ps h low = minus-one (suc n) c rest ts ps (omega (arith, h)) low
    ∙ signed-number (suc n) c (Signed sign.Minus) rest ts ps (omega (arith, h)) low

offset-read : (by : ℤ) (c : ℕ) (rest : List ℕ) (ts : List Token) (ps : Parts) → FitsSigned w16 by
    → c < 48 → read_rest (offset_text by ++ c ∷ rest) 0 (draft ts ps)
    ≡ read_rest (c ∷ rest) 0 (draft (ts ++ signed_tokens by) ps)
offset-read (pos n) c rest ts ps h low =
    signed-number n c (Signed sign.Plus) rest ts ps (omega (arith, h)) low
offset-read (negsuc n) c rest ts ps h low =
    signed-number (suc n) c (Signed sign.Minus) rest ts ps (omega (arith, h)) low

pub constant-read : (k : ℤ) (c : ℕ) (rest : List ℕ) (ts : List Token) (ps : Parts)
    → FitsSigned w32 k → c < 48
    → read_rest (operand_text Full64 (Constant k) ++ c ∷ rest) 0 (draft ts ps)
    ≡ read_rest (c ∷ rest) 0 (draft (ts ++ constant_tokens k) ps)
constant-read (pos n) c rest ts ps h low =
    decimal-read n c rest (draft ts ps) (omega (arith, h)) low
constant-read (negsuc n) c rest ts ps h low =
    minus-one (suc n) c rest ts ps (omega (arith, h)) low
    ∙ signed-number (suc n) c (Signed sign.Minus) rest ts ps (omega (arith, h)) low

pub operand-read : (w : Width) (x : Operand) (c : ℕ) (rest : List ℕ) (ts : List Token) (ps : Parts)
    → OperandFits x → c < 48 → is_word_byte c ≡ false
    → read_rest (operand_text w x ++ c ∷ rest) 0 (draft ts ps)
    ≡ read_rest (c ∷ rest) 0 (draft (ts ++ operand_tokens w x) ps)
operand-read w (Register r) c rest ts ps h low e = reg-read w r c rest ts ps e
operand-read w (Constant k) c rest ts ps h low e = constant-read k c rest ts ps h low

-- a base and an offset
pub place-read : (p : Place) (c : ℕ) (rest : List ℕ) (ts : List Token) (ps : Parts)
    → FitsSigned w16 p.offset → c < 48
    → read_rest (reg_text Full64 p.base ++ 32 ∷ (offset_text p.offset ++ c ∷ rest)) 0 (draft ts ps)
    ≡ read_rest (c ∷ rest) 0 (draft (ts ++ place_tokens p) ps)
place-read p c rest ts ps h low =
    let base : Token = Named (word.Register Full64 p.base) in
    reg-read Full64 p.base 32 (offset_text p.offset ++ c ∷ rest) ts ps refl
    ∙ offset-read p.offset c rest (ts ++ base ∷ []) ps h low
    ∙ ap (λ us. read_rest (c ∷ rest) 0 (draft us ps))
    (append_assoc ts (base ∷ []) (signed_tokens p.offset))
