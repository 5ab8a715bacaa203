-- Low halves of results: the operation at 32 bits on low halves, and by way of halves extended by
-- their sign.
use Rattle.ranges.proofs.Common.{◌≡◌, ℕ, ℤ, ◌*◌, ◌%◌, ◌^◌, ◌<◌, sym, ◌∙◌, arith, w64, FitsSigned, w32, cast_signed, cast_unsigned, ints, and_mod, or_mod, xor_mod, mul-mod, mul-mod_first, mod-mod, Width, Low32, Full64, AluOp, Add, Sub, Mul, Div, SignedDiv, Or, And, Lsh, Rsh, Mod, SignedMod, Xor, Mov, Arsh, alu, result_of, alu_below, low_wrapped, low_same, ReadsLow, Wide, Low}
use Rattle.ranges.specs.Wides as W
use Rattle.ranges.specs.Lows as L
use Rattle.ranges.proofs.LowLaws.{low_signed_equation, fits_between}

both : {A B : Type 0} (f : A → A → B) {a b u v : A} → a ≡ b → u ≡ v → f a u ≡ f b v
both f p q = cc

-- the low halves of operands are their own low halves
half_twice : (op : AluOp) (x y : ℕ) → alu op Low32 (x % 2 ^ 32) (y % 2 ^ 32) ≡ alu op Low32 x y
unfolding alu
half_twice op x y = both (result_of op Low32) (mod-mod x (2 ^ 32)) (mod-mod y (2 ^ 32))

low_whole : (op : AluOp) (x y : ℕ) (b : Wide) → x < 2 ^ 64 → W.Has b y → ReadsLow op Full64 b
    → alu op Full64 x y % 2 ^ 32 ≡ alu op Low32 x y
unfolding alu
low_whole Add x y b hx hy reads = omega arith
low_whole Sub x y b hx hy reads = omega arith
low_whole Mul x y b hx hy reads =
    rw (low_same Full64 x hx, low_same Full64 y hy.below)
    (low_wrapped Low32 (x * y) ∙ mul-mod x y (2 ^ 32))
low_whole And x y b hx hy reads =
    rw (low_same Full64 x hx, low_same Full64 y hy.below) (and_mod x y 32)
low_whole Or x y b hx hy reads =
    rw (low_same Full64 x hx, low_same Full64 y hy.below) (or_mod x y 32)
low_whole Xor x y b hx hy reads =
    rw (low_same Full64 x hx, low_same Full64 y hy.below) (xor_mod x y 32)
low_whole Mov x y b hx hy reads = omega arith
low_whole Lsh x y b hx hy reads =
    let one : y ≡ b.least = let from = hy.from in
    let to = hy.to in let is = reads.0 in omega arith in
    let near : b.least % 64 < 32 = reads.1 in
    let k : (y % 2 ^ 32) % 32 ≡ (y % 2 ^ 64) % 64 = omega arith in
    low_wrapped Low32 (x % 2 ^ 64 * 2 ^ ((y % 2 ^ 64) % 64))
    ∙ rw (k, low_same Full64 x hx) (sym (mul-mod_first x (2 ^ ((y % 2 ^ 64) % 64)) (2 ^ 32)))
low_whole Div x y b hx hy reads = absurd reads
low_whole SignedDiv x y b hx hy reads = absurd reads
low_whole Rsh x y b hx hy reads = absurd reads
low_whole Mod x y b hx hy reads = absurd reads
low_whole SignedMod x y b hx hy reads = absurd reads
low_whole Arsh x y b hx hy reads = absurd reads

-- where the low half of a result is that of low halves
pub low_result : (op : AluOp) (w : Width) (x y : ℕ) (b : Wide) → x < 2 ^ 64 → W.Has b y
    → ReadsLow op w b → alu op w x y % 2 ^ 32 ≡ alu op Low32 (x % 2 ^ 32) (y % 2 ^ 32)
low_result op Low32 x y b hx hy reads =
    low_same Low32 (alu op Low32 x y) (alu_below op Low32 x y) ∙ sym (half_twice op x y)
low_result op Full64 x y b hx hy reads = low_whole op x y b hx hy reads ∙ sym (half_twice op x y)

of_halves : (op : AluOp) (x y : ℕ)
    → alu op Low32 (x % 2 ^ 32) (y % 2 ^ 32) ≡ result_of op Low32 (x % 2 ^ 32) (y % 2 ^ 32)
unfolding alu
of_halves op x y = both (result_of op Low32) (mod-mod x (2 ^ 32)) (mod-mod y (2 ^ 32))

-- the same, by the operation's result on two numbers of 32 bits
pub low_result_of : (op : AluOp) (w : Width) (x y : ℕ) (b : Wide) → x < 2 ^ 64 → W.Has b y
    → ReadsLow op w b → alu op w x y % 2 ^ 32 ≡ result_of op Low32 (x % 2 ^ 32) (y % 2 ^ 32)
low_result_of op w x y b hx hy reads = low_result op w x y b hx hy reads ∙ of_halves op x y

-- a difference's low half is that of low halves at both widths
pub reads_difference : (w : Width) (b : Wide) → ReadsLow Sub w b
reads_difference Low32 b = tt
reads_difference Full64 b = tt

-- ---- by way of halves extended by their sign

pub sign_extended_low : (e : ℕ) → e < 2 ^ 32 → cast_unsigned w64 (cast_signed w32 e) % 2 ^ 32 ≡ e
sign_extended_low e h = let q = low_signed_equation e h in omega (arith, ints)

-- the low half of an operation on halves so extended
pub low_of_extended : (op : AluOp) (e f : ℕ) (b : Wide) → e < 2 ^ 32 → f < 2 ^ 32
    → cast_unsigned w64 (cast_signed w32 e) < 2 ^ 64
    → W.Has b (cast_unsigned w64 (cast_signed w32 f)) → ReadsLow op Full64 b
    → alu op Full64 (cast_unsigned w64 (cast_signed w32 e))
    (cast_unsigned w64 (cast_signed w32 f)) % 2 ^ 32 ≡ alu op Low32 e f
low_of_extended op e f b he hf small hy reads =
    low_result op Full64 (cast_unsigned w64 (cast_signed w32 e))
    (cast_unsigned w64 (cast_signed w32 f)) b small hy reads
    ∙ both (alu op Low32) (sign_extended_low e he) (sign_extended_low f hf)

-- signed limits that 32 bits hold are kept by the low halves
pub signed_kept : (wide : Wide) (halves : Low) (l g : ℤ) → FitsSigned w32 l → FitsSigned w32 g
    → W.IsSignedBetween wide l g
    → (W.IsSignedOf w32 wide → L.IsSignedBetween halves wide.signed_least wide.signed_greatest)
    → L.IsSignedBetween halves l g
signed_kept wide halves l g fl fg within keeps =
    let o = wide.signed_ordered in
    let a = fits_between l g wide.signed_least fl fg within.0 (omega (arith, ints, o, within.1)) in
    let b = fits_between l g wide.signed_greatest fl fg
    (omega (arith, ints, o, within.0)) within.1 in
    let k = keeps (a, b) in
    (omega (arith, ints, k.0, within.0), omega (arith, ints, k.1, within.1))

-- what 32 bits hold 64 bits do
pub widened : (z : ℤ) → FitsSigned w32 z → FitsSigned w64 z
widened z f = record { sfits = let s = f.sfits in omega arith }
