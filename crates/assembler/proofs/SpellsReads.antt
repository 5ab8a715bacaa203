-- Tokens that spell an instruction are read as that instruction.
use Rattle.assembler.proofs.Common.{◌≡◌, ℕ, ◌+◌, ◌^◌, length, List, [], ◌∷◌, ◌++◌, refl, sym, ap, ◌∙◌, inl, inr, lt-ltb, le-leb, ◌≢◌, Option, Some, None, Result, Ok, true, false, ℤ, pos, Reg, R0, Width, Low32, Full64, Size, SignedSize, SwapWidth, ByteOrder, Extension, Low8, Low16, Full8, Full16, Full32, AluOp, AtomicOp, Comparison, Operand, Constant, Register, Insn, Alu, Neg, MovSx, ByteSwap, LoadNumber, LoadMap, LoadMapValue, Load, LoadSx, StoreConstant, Store, Atomic, Exchange, CompareExchange, Jump, JumpLong, JumpIf, CallHelper, CallLocal, Exit, width_size, Word, Sign, Token, Named, Number, Signed, Reading, Wrong, ◌>>=◌, is_minus, signed_within, is_name, arithmetic, called_word, reading_of, assigns, changes, compares, extends, reg, IsSigned, SpellsConstant, IsWide, IsOperand, field, place, memory, IsTarget, Spells}
use Rattle.isa_model.specs.declared.instructions.AluOp.TheVariants as op
use Rattle.assembler.specs.declared.tokens.Word.TheVariants as word
use Rattle.assembler.specs.declared.tokens.Sign.TheVariants as sign
use Rattle.assembler.proofs.FormReads.{atomic-back, comparison-back, same-register, same-width, width-back}

abbrev read : Insn → Option ℕ → Result Reading Wrong
read i name = Ok (record { insn = i; name = name })

-- a sign at that index, and a number
signed-reads : (limit at : ℕ) (s : Sign) (n : ℕ) (k : ℤ) → IsSigned limit s n k
    → (is_minus s >>= λ minus. signed_within limit at minus n) ≡ Ok k
signed-reads limit at s n k (inl h) = rw (h.0, h.2, lt-ltb n limit h.1) refl
signed-reads limit at s n k (inr h) = rw (h.0, h.2, le-leb n limit h.1) refl

-- ---- arithmetic

arithmetic-reads : (o : AluOp) (w : Width) (d : Reg) (s : Sign) (x : Operand) (xs : List Token)
    → IsOperand w xs x → arithmetic o w d (reg w d ∷ Signed s ∷ xs) ≡ read (Alu w o d x) None
arithmetic-reads o w d s (Register r) xs h = rw (h, same-width w) refl
arithmetic-reads o w d s (Constant k) xs (inl h) = rw (h.1, h.3, lt-ltb h.0 (2 ^ 31) h.2) refl
arithmetic-reads o w d s (Constant k) xs (inr h) = rw (h.1, h.3, le-leb h.0 (2 ^ 31) h.2) refl

moved-reads : (w : Width) (d : Reg) (x : Operand) (xs : List Token) → IsOperand w xs x
    → reading_of (reg w d ∷ Signed sign.Assign ∷ xs) ≡ read (Alu w op.Mov d x) None
unfolding reading_of
moved-reads Low32 d (Register r) xs h = rw h refl
moved-reads Full64 d (Register r) xs h = rw h refl
moved-reads w d (Constant k) xs (inl h) = rw (h.1, h.3, lt-ltb h.0 (2 ^ 31) h.2) refl
moved-reads w d (Constant k) xs (inr h) = rw (h.1, h.3, le-leb h.0 (2 ^ 31) h.2) refl

alu-reads : (o : AluOp) (w : Width) (d : Reg) (x : Operand) (xs : List Token) → IsOperand w xs x
    → reading_of (reg w d ∷ Signed (assigns o) ∷ xs) ≡ read (Alu w o d x) None
unfolding reading_of
alu-reads op.Mov w d x xs h = moved-reads w d x xs h
alu-reads op.Add w d x xs h = arithmetic-reads op.Add w d sign.AddAssign x xs h
alu-reads op.Sub w d x xs h = arithmetic-reads op.Sub w d sign.SubAssign x xs h
alu-reads op.Mul w d x xs h = arithmetic-reads op.Mul w d sign.MulAssign x xs h
alu-reads op.Div w d x xs h = arithmetic-reads op.Div w d sign.DivAssign x xs h
alu-reads op.SignedDiv w d x xs h = arithmetic-reads op.SignedDiv w d sign.SignedDivAssign x xs h
alu-reads op.Or w d x xs h = arithmetic-reads op.Or w d sign.OrAssign x xs h
alu-reads op.And w d x xs h = arithmetic-reads op.And w d sign.AndAssign x xs h
alu-reads op.Lsh w d x xs h = arithmetic-reads op.Lsh w d sign.LshAssign x xs h
alu-reads op.Rsh w d x xs h = arithmetic-reads op.Rsh w d sign.RshAssign x xs h
alu-reads op.Mod w d x xs h = arithmetic-reads op.Mod w d sign.ModAssign x xs h
alu-reads op.SignedMod w d x xs h = arithmetic-reads op.SignedMod w d sign.SignedModAssign x xs h
alu-reads op.Xor w d x xs h = arithmetic-reads op.Xor w d sign.XorAssign x xs h
alu-reads op.Arsh w d x xs h = arithmetic-reads op.Arsh w d sign.ArshAssign x xs h

neg-reads : (w : Width) (d : Reg)
    → reading_of (reg w d ∷ Signed sign.Assign ∷ Signed sign.Minus ∷ reg w d ∷ [])
    ≡ read (Neg w d) None
unfolding reading_of
neg-reads w d = rw (same-width w, same-register d) refl

extension-reads : (e : Extension) (d s : Reg)
    → reading_of
    (reg (extends e).0 d ∷ Signed sign.Assign ∷ Signed sign.Open
    ∷ Named (word.SignExtended (extends e).1) ∷ Signed sign.Close ∷ reg (extends e).0 s ∷ [])
    ≡ read (MovSx e d s) None
unfolding reading_of
extension-reads Low8 d s = refl
extension-reads Low16 d s = refl
extension-reads Full8 d s = refl
extension-reads Full16 d s = refl
extension-reads Full32 d s = refl

swap-reads : (order : ByteOrder) (bits : SwapWidth) (d : Reg)
    → reading_of
    (reg Full64 d ∷ Signed sign.Assign ∷ Named (word.Swapped order bits) ∷ reg Full64 d ∷ [])
    ≡ read (ByteSwap order bits d) None
unfolding reading_of
swap-reads order bits d = rw (same-register d) refl

wide-reads : (d : Reg) (k : ℕ) (xs : List Token) → IsWide xs k
    → reading_of (reg Full64 d ∷ Signed sign.Assign ∷ (xs ++ Named word.Wide ∷ []))
    ≡ read (LoadNumber d k) None
unfolding reading_of
wide-reads d k xs (inl h) = rw (h.1, h.3, lt-ltb h.0 (2 ^ 64) h.2) refl
wide-reads d k xs (inr h) = rw (h.1, h.3, le-leb h.0 (2 ^ 63) h.2) refl

map-reads : (d : Reg) (n : ℕ)
    → reading_of
    (reg Full64 d ∷ Signed sign.Assign ∷ Named word.MapByIndex ∷ Signed sign.Open ∷ Number n
    ∷ Signed sign.Close ∷ []) ≡ read (LoadMap d (field n)) None
unfolding reading_of
map-reads d n = refl

value-reads : (d : Reg) (n k : ℕ)
    → reading_of
    (reg Full64 d ∷ Signed sign.Assign ∷ Named word.MapValue ∷ Signed sign.Open
    ∷ Named word.MapByIndex ∷ Signed sign.Open ∷ Number n ∷ Signed sign.Close ∷ Signed sign.Close
    ∷ Signed sign.Plus ∷ Number k ∷ [])
    ≡ read (LoadMapValue d (field n) (field k)) None
unfolding reading_of
value-reads d n k = refl

-- ---- memory

load-reads : (size : Size) (d b : Reg) (s : Sign) (n : ℕ) (by : ℤ) → IsSigned (2 ^ 15) s n by
    → reading_of (reg Full64 d ∷ Signed sign.Assign ∷ memory (word.Unsigned size) b s n [])
    ≡ read (Load size d (record { base = b; offset = by })) None
unfolding reading_of
load-reads size d b s n by h = rw (signed-reads (2 ^ 15) 9 s n by h) refl

extending-reads : (size : SignedSize) (d b : Reg) (s : Sign) (n : ℕ) (by : ℤ)
    → IsSigned (2 ^ 15) s n by
    → reading_of (reg Full64 d ∷ Signed sign.Assign ∷ memory (word.SignExtended size) b s n [])
    ≡ read (LoadSx size d (record { base = b; offset = by })) None
unfolding reading_of
extending-reads size d b s n by h = rw (signed-reads (2 ^ 15) 9 s n by h) refl

store-reads : (size : Size) (b r : Reg) (s : Sign) (n : ℕ) (by : ℤ) → IsSigned (2 ^ 15) s n by
    → reading_of (memory (word.Unsigned size) b s n (Signed sign.Assign ∷ reg Full64 r ∷ []))
    ≡ read (Store size (record { base = b; offset = by }) r) None
unfolding reading_of
store-reads size b r s n by h = rw (signed-reads (2 ^ 15) 7 s n by h) refl

constant-reads : (size : Size) (b : Reg) (s : Sign) (n : ℕ) (by k : ℤ) (xs : List Token)
    → IsSigned (2 ^ 15) s n by → SpellsConstant xs k
    → reading_of (memory (word.Unsigned size) b s n (Signed sign.Assign ∷ xs))
    ≡ read (StoreConstant size (record { base = b; offset = by }) k) None
unfolding reading_of
constant-reads size b s n by k xs h (inl g) =
    rw (g.1, g.3, signed-reads (2 ^ 15) 7 s n by h, lt-ltb g.0 (2 ^ 31) g.2) refl
constant-reads size b s n by k xs h (inr g) =
    rw (g.1, g.3, signed-reads (2 ^ 15) 7 s n by h, le-leb g.0 (2 ^ 31) g.2) refl

-- ---- atomic instructions

lock-reads : (w : Width) (o : AtomicOp) (b r : Reg) (s : Sign) (n : ℕ) (by : ℤ)
    → IsSigned (2 ^ 15) s n by
    → reading_of
    (Named word.Lock
    ∷ memory (word.Unsigned (width_size w)) b s n (Signed (changes o) ∷ reg Full64 r ∷ []))
    ≡ read (Atomic w o false (record { base = b; offset = by }) r) None
unfolding reading_of
lock-reads w o b r s n by h =
    rw (signed-reads (2 ^ 15) 8 s n by h, width-back w, atomic-back o) refl

fetch-reads : (w : Width) (o : AtomicOp) (b r : Reg) (s : Sign) (n : ℕ) (by : ℤ)
    → IsSigned (2 ^ 15) s n by
    → reading_of
    (reg Full64 r ∷ Signed sign.Assign ∷ Named (word.Fetch o w) ∷ Signed sign.Open
    ∷ place b s n (Signed sign.Comma ∷ reg Full64 r ∷ Signed sign.Close ∷ []))
    ≡ read (Atomic w o true (record { base = b; offset = by }) r) None
unfolding reading_of
fetch-reads w o b r s n by h = rw (signed-reads (2 ^ 15) 5 s n by h, same-register r) refl

exchange-reads : (w : Width) (b r : Reg) (s : Sign) (n : ℕ) (by : ℤ) → IsSigned (2 ^ 15) s n by
    → reading_of
    (reg Full64 r ∷ Signed sign.Assign ∷ Named (word.Exchange w) ∷ Signed sign.Open
    ∷ place b s n (Signed sign.Comma ∷ reg Full64 r ∷ Signed sign.Close ∷ []))
    ≡ read (Exchange w (record { base = b; offset = by }) r) None
unfolding reading_of
exchange-reads w b r s n by h = rw (signed-reads (2 ^ 15) 5 s n by h, same-register r) refl

compare-reads : (w : Width) (b r : Reg) (s : Sign) (n : ℕ) (by : ℤ) → IsSigned (2 ^ 15) s n by
    → reading_of
    (reg Full64 R0 ∷ Signed sign.Assign ∷ Named (word.CompareExchange w) ∷ Signed sign.Open
    ∷ place b s n
    (Signed sign.Comma ∷ reg Full64 R0 ∷ Signed sign.Comma ∷ reg Full64 r ∷ Signed sign.Close ∷ []))
    ≡ read (CompareExchange w (record { base = b; offset = by }) r) None
unfolding reading_of
compare-reads w b r s n by h = rw (signed-reads (2 ^ 15) 5 s n by h) refl

-- ---- jumps and calls

not_pc : (x : Word) → x ≢ word.Pc → is_name x ≡ true
not_pc word.Pc h = absurd (h refl)
not_pc x h = refl

jump-reads : (by : ℤ) (name : Option ℕ) (xs : List Token) → IsTarget (2 ^ 15) xs by 1 name
    → reading_of (Named word.Goto ∷ xs) ≡ read (Jump by) name
unfolding reading_of
jump-reads by name xs (inl (s, n, is, h, none)) =
    rw (is, none, signed-reads (2 ^ 15) 1 s n by h) refl
jump-reads by name xs (inr (x, is, other, zero, index)) = rw (is, zero, index, not_pc x other) refl

long-reads : (by : ℤ) (name : Option ℕ) (xs : List Token) → IsTarget (2 ^ 31) xs by 1 name
    → reading_of (Named word.GotoLong ∷ xs) ≡ read (JumpLong by) name
unfolding reading_of
long-reads by name xs (inl (s, n, is, h, none)) =
    rw (is, none, signed-reads (2 ^ 31) 1 s n by h) refl
long-reads by name xs (inr (x, is, other, zero, index)) = rw (is, zero, index, not_pc x other) refl

condition-reads : (w : Width) (c : Comparison) (d : Reg) (x : Operand) (by : ℤ) (name : Option ℕ)
    (xs ys : List Token) → IsOperand w xs x → IsTarget (2 ^ 15) ys by (4 + length xs) name
    → reading_of (Named word.If ∷ reg w d ∷ Signed (compares c) ∷ (xs ++ Named word.Goto ∷ ys))
    ≡ read (JumpIf (record { width = w; comparison = c; register = d; operand = x }) by) name
unfolding reading_of
condition-reads w c d (Register r) by name xs ys g (inl (s, n, is, h, none)) =
    rw (g, is, none, comparison-back c, same-width w, signed-reads (2 ^ 15) 5 s n by h) refl
condition-reads w c d (Constant k) by name xs ys (inl g) (inl (s, n, is, h, none)) =
    rw (
      g.1,
      g.3,
      is,
      none,
      comparison-back c,
      lt-ltb g.0 (2 ^ 31) g.2,
      signed-reads (2 ^ 15) 5 s n by h,
    ) refl
condition-reads w c d (Constant k) by name xs ys (inr g) (inl (s, n, is, h, none)) =
    rw (
      g.1,
      g.3,
      is,
      none,
      comparison-back c,
      le-leb g.0 (2 ^ 31) g.2,
      signed-reads (2 ^ 15) 6 s n by h,
    ) refl
condition-reads w c d (Register r) by name xs ys g (inr (x, is, other, zero, index)) =
    rw (index, g, is, zero, comparison-back c, same-width w, not_pc x other) refl
condition-reads w c d (Constant k) by name xs ys (inl g) (inr (x, is, other, zero, index)) =
    rw (index, g.1, g.3, is, zero, comparison-back c, lt-ltb g.0 (2 ^ 31) g.2, not_pc x other) refl
condition-reads w c d (Constant k) by name xs ys (inr g) (inr (x, is, other, zero, index)) =
    rw (index, g.1, g.3, is, zero, comparison-back c, le-leb g.0 (2 ^ 31) g.2, not_pc x other) refl

helper-reads : (k : ℤ) (xs : List Token) → SpellsConstant xs k
    → reading_of (Named word.Call ∷ xs) ≡ read (CallHelper k) None
unfolding reading_of
helper-reads k xs (inl h) = rw (h.1, h.3, lt-ltb h.0 (2 ^ 31) h.2) refl
helper-reads k xs (inr h) = rw (h.1, h.3, le-leb h.0 (2 ^ 31) h.2) refl

call-reads : (s : Sign) (n : ℕ) (by : ℤ) → IsSigned (2 ^ 31) s n by
    → reading_of (Named word.Call ∷ Named word.Pc ∷ Signed s ∷ Number n ∷ [])
    ≡ read (CallLocal by) None
unfolding reading_of
call-reads s n by h = rw (signed-reads (2 ^ 31) 2 s n by h) refl

called-reads : (x : Word) → x ≢ word.Pc
    → called_word (Named word.Call ∷ Named x ∷ []) x ≡ read (CallLocal (pos 0)) (Some 1)
called-reads word.Pc h = absurd (h refl)
called-reads x h = refl

call_of_name-reads : (x : Word) → x ≢ word.Pc
    → reading_of (Named word.Call ∷ Named x ∷ []) ≡ read (CallLocal (pos 0)) (Some 1)
unfolding reading_of
call_of_name-reads x h = called-reads x h

exit-reads : reading_of (Named word.Exit ∷ []) ≡ read Exit None
unfolding reading_of
exit-reads = refl

-- ---- all forms

-- a statement of these tokens, without a name
plainly : (ts xs : List Token) (i : Insn) (name : Option ℕ) → name ≡ None → ts ≡ xs
    → reading_of xs ≡ read i None → reading_of ts ≡ read i name
plainly ts xs i name none is reads = ap reading_of is ∙ reads ∙ ap (read i) (sym none)

pub Spells-reading_of : (ts : List Token) (i : Insn) (name : Option ℕ) → Spells ts i name
    → reading_of ts ≡ Ok (record { insn = i; name = name })
unfolding Spells
Spells-reading_of ts (Alu w o d x) name (none, (xs, h, is)) =
    plainly ts _ (Alu w o d x) name none is (alu-reads o w d x xs h)
Spells-reading_of ts (Neg w d) name (none, is) =
    plainly ts _ (Neg w d) name none is (neg-reads w d)
Spells-reading_of ts (MovSx e d s) name (none, is) =
    plainly ts _ (MovSx e d s) name none is (extension-reads e d s)
Spells-reading_of ts (ByteSwap order bits d) name (none, is) =
    plainly ts _ (ByteSwap order bits d) name none is (swap-reads order bits d)
Spells-reading_of ts (LoadNumber d k) name (none, (xs, h, is)) =
    plainly ts _ (LoadNumber d k) name none is (wide-reads d k xs h)
Spells-reading_of ts (LoadMap d m) name (none, (n, map_is, is)) =
    plainly ts _ (LoadMap d m) name none is (rw map_is (map-reads d n))
Spells-reading_of ts (LoadMapValue d m offset) name (none, (n, k, map_is, offset_is, is)) =
    plainly ts _ (LoadMapValue d m offset) name none is (rw (map_is, offset_is) (value-reads d n k))
Spells-reading_of ts (Load size d p) name (none, (s, n, h, is)) =
    plainly ts _ (Load size d p) name none is (load-reads size d p.base s n p.offset h)
Spells-reading_of ts (LoadSx size d p) name (none, (s, n, h, is)) =
    plainly ts _ (LoadSx size d p) name none is (extending-reads size d p.base s n p.offset h)
Spells-reading_of ts (StoreConstant size p k) name (none, (xs, g, (s, n, h, is))) =
    plainly ts _ (StoreConstant size p k) name none is
    (constant-reads size p.base s n p.offset k xs h g)
Spells-reading_of ts (Store size p r) name (none, (s, n, h, is)) =
    plainly ts _ (Store size p r) name none is (store-reads size p.base r s n p.offset h)
Spells-reading_of ts (Atomic w o false p r) name (none, (s, n, h, is)) =
    plainly ts _ (Atomic w o false p r) name none is (lock-reads w o p.base r s n p.offset h)
Spells-reading_of ts (Atomic w o true p r) name (none, (s, n, h, is)) =
    plainly ts _ (Atomic w o true p r) name none is (fetch-reads w o p.base r s n p.offset h)
Spells-reading_of ts (Exchange w p r) name (none, (s, n, h, is)) =
    plainly ts _ (Exchange w p r) name none is (exchange-reads w p.base r s n p.offset h)
Spells-reading_of ts (CompareExchange w p r) name (none, (s, n, h, is)) =
    plainly ts _ (CompareExchange w p r) name none is (compare-reads w p.base r s n p.offset h)
Spells-reading_of ts (Jump by) name (xs, h, is) = ap reading_of is ∙ jump-reads by name xs h
Spells-reading_of ts (JumpLong by) name (xs, h, is) = ap reading_of is ∙ long-reads by name xs h
Spells-reading_of ts (JumpIf cond by) name (xs, ys, g, h, is) =
    ap reading_of is
    ∙ condition-reads cond.width cond.comparison cond.register cond.operand by name xs ys g h
Spells-reading_of ts (CallHelper k) name (none, (xs, h, is)) =
    plainly ts _ (CallHelper k) name none is (helper-reads k xs h)
Spells-reading_of ts (CallLocal by) name (inl (none, (s, n, h, is))) =
    plainly ts _ (CallLocal by) name none is (call-reads s n by h)
Spells-reading_of ts (CallLocal by) name (inr (x, other, zero, index, is)) =
    rw (is, zero, index) (call_of_name-reads x other)
Spells-reading_of ts Exit name (none, is) = plainly ts _ Exit name none is exit-reads
