-- Laws of numbers of 32 and 64 bits: results of operations fit their width; low bits.
use Rattle.std.proofs.Common.{inl, inr, ◌≡◌, ℕ, ℤ, pos, negsuc, neg_ℤ, zero, suc, ◌+◌, ◌-◌, ◌*◌, ◌/◌, ◌%◌, ◌^◌, ◌<◌, ◌≤◌, refl, arith, Bool, true, false, cond, w32, w64, int_div, int_rem, nat_eq, unsigned_abs}
use Rattle.std.specs.Int.{Width as IntWidth, cast_signed, cast_unsigned}
use mir.Val.{bits, hbits}
use lib.Signed.{mag, shr_z}
use Rattle.isa_model.proofs.Common.{mod-le, mod-mod, div-le_self, div-mul-le_self, mod_below, le-div, pow_pos, or_lt, xor_lt, and_le_l, cases_lt, lt-ltb, le-ltb, Width, Low32, Full64, Add, Sub, Mul, Div, SignedDiv, Or, And, Lsh, Rsh, Mod, SignedMod, Xor, Mov, Arsh, width_bits, span_bits, low, alu, result_of, shift, reordered}
use Rattle.isa_model.specs.declared.sizes.SwapWidth.{SwapWidth}
use Rattle.isa_model.specs.declared.sizes.SwapWidth.TheVariants.{B16, B32, B64}
use Rattle.isa_model.specs.declared.sizes.ByteOrder.{ByteOrder}
use Rattle.isa_model.specs.declared.sizes.ByteOrder.TheVariants.{Little, Big, Swap}
use Rattle.isa_model.specs.declared.instructions.AluOp.{AluOp}

-- a number of a width fits a register
pub width_fits : (w : Width) → 2 ^ width_bits w ≤ 2 ^ 64
width_fits Low32 = omega arith
width_fits Full64 = omega arith

pub span_fits : (span : SwapWidth) → 2 ^ span_bits span ≤ 2 ^ 64
span_fits B16 = omega arith
span_fits B32 = omega arith
span_fits B64 = omega arith

-- no width is wider than a register
pub width_most : (w : Width) → width_bits w ≤ 64
width_most Low32 = omega arith
width_most Full64 = omega arith

-- no width is empty
pub width_positive : (w : Width) → 0 < width_bits w
width_positive Low32 = omega arith
width_positive Full64 = omega arith

-- without their low bits, numbers keep their order
pub div_mono : (a b k : ℕ) → a ≤ b → a / 2 ^ k ≤ b / 2 ^ k
div_mono a b k h =
    le-div (a / 2 ^ k) b (2 ^ k) (pow_pos k) (let l = div-mul-le_self a (2 ^ k) in omega arith)

-- the low bits make a number of the width
pub low_below : (w : Width) (n : ℕ) → low w n < 2 ^ width_bits w
low_below w n = mod_below n (2 ^ width_bits w) (pow_pos (width_bits w))

-- a shift's distance is below the width
pub shift_below : (w : Width) (b : ℕ) → shift w b < width_bits w
shift_below w b = mod_below b (width_bits w) (width_positive w)

cond_below : (b : Bool) (p q n : ℕ) → p < n → q < n → cond b p q < n
cond_below true p q n h k = h
cond_below false p q n h k = k

negated_in : (w : IntWidth) (q : ℕ) → cast_unsigned w (neg_ℤ (pos q)) < 2 ^ bits w
negated_in w zero = pow_pos (bits w)
negated_in w (suc n) = let p = pow_pos (bits w) in omega arith

magnitude_in : (w : IntWidth) (x : ℕ) → 2 ^ bits w ≡ 2 * 2 ^ hbits w → x < 2 ^ bits w
    → mag (cast_signed w x) < 2 ^ hbits w
magnitude_in w x e h =
    elim (cases_lt x (2 ^ hbits w)) [
      | inl lt ↦ rw (lt-ltb x (2 ^ hbits w) lt) lt
      | inr ge ↦ rw (le-ltb x (2 ^ hbits w) ge) (omega arith)
    ]

quotient_in : (w : IntWidth) (a b : ℤ) → 2 ^ bits w ≡ 2 * 2 ^ hbits w → mag a < 2 ^ hbits w
    → cast_unsigned w (int_div a b) < 2 ^ bits w
quotient_in w (pos a) (pos b) e h = let l = div-le_self a b in omega arith
quotient_in w (pos a) (negsuc b) e h = negated_in w (a / suc b)
quotient_in w (negsuc a) (pos b) e h = negated_in w (suc a / b)
quotient_in w (negsuc a) (negsuc b) e h = let l = div-le_self (suc a) (suc b) in omega arith

remainder_in : (w : IntWidth) (a b : ℤ) → 2 ^ bits w ≡ 2 * 2 ^ hbits w → mag a < 2 ^ hbits w
    → cast_unsigned w (int_rem a b) < 2 ^ bits w
remainder_in w (pos a) b e h = let l = mod-le a (unsigned_abs b) in omega arith
remainder_in w (negsuc a) b e h = negated_in w (suc a % unsigned_abs b)

shifted_in : (w : IntWidth) (a : ℤ) (k : ℕ) → 2 ^ bits w ≡ 2 * 2 ^ hbits w → mag a < 2 ^ hbits w
    → cast_unsigned w (shr_z a k) < 2 ^ bits w
shifted_in w (pos a) k e h = let l = div-le_self a k in omega arith
shifted_in w (negsuc a) k e h = let p = pow_pos (bits w) in omega arith

-- a shift that keeps the sign keeps the width
pub arithmetic_shift_below : (w : Width) (x b : ℕ) → x < 2 ^ width_bits w
    → result_of Arsh w x b < 2 ^ width_bits w
arithmetic_shift_below Low32 x b h =
    shifted_in w32 _ (2 ^ shift Low32 b) refl (magnitude_in w32 x refl h)
arithmetic_shift_below Full64 x b h =
    shifted_in w64 _ (2 ^ shift Full64 b) refl (magnitude_in w64 x refl h)

-- the result of an operation is a number of the width
pub alu_below : (op : AluOp) (w : Width) (x y : ℕ) → alu op w x y < 2 ^ width_bits w
unfolding alu
alu_below Add w x y = low_below w _
alu_below Sub w x y = low_below w _
alu_below Mul w x y = low_below w _
alu_below Div w x y =
    let a = low_below w x in
    let l = div-le_self (low w x) (low w y) in
    cond_below (nat_eq (low w y) 0) _ _ _ (pow_pos (width_bits w)) (omega arith)
alu_below SignedDiv Low32 x y =
    let m = magnitude_in w32 (low Low32 x) refl (low_below Low32 x) in
    cond_below (nat_eq (low Low32 y) 0) _ _ _ (pow_pos 32)
    (quotient_in w32 _ (cast_signed w32 (low Low32 y)) refl m)
alu_below SignedDiv Full64 x y =
    let m = magnitude_in w64 (low Full64 x) refl (low_below Full64 x) in
    cond_below (nat_eq (low Full64 y) 0) _ _ _ (pow_pos 64)
    (quotient_in w64 _ (cast_signed w64 (low Full64 y)) refl m)
alu_below Or w x y = or_lt (width_bits w) _ _ (low_below w x) (low_below w y)
alu_below And w x y =
    let a = low_below w x in
    let l = and_le_l (low w x) (low w y) in
    omega arith
alu_below Lsh w x y = low_below w _
alu_below Rsh w x y =
    let a = low_below w x in
    let l = div-le_self (low w x) (2 ^ shift w (low w y)) in
    omega arith
alu_below Mod w x y =
    let a = low_below w x in
    let l = mod-le (low w x) (low w y) in
    cond_below (nat_eq (low w y) 0) _ _ _ a (omega arith)
alu_below SignedMod Low32 x y =
    let m = magnitude_in w32 (low Low32 x) refl (low_below Low32 x) in
    cond_below (nat_eq (low Low32 y) 0) _ _ _ (low_below Low32 x)
    (remainder_in w32 _ (cast_signed w32 (low Low32 y)) refl m)
alu_below SignedMod Full64 x y =
    let m = magnitude_in w64 (low Full64 x) refl (low_below Full64 x) in
    cond_below (nat_eq (low Full64 y) 0) _ _ _ (low_below Full64 x)
    (remainder_in w64 _ (cast_signed w64 (low Full64 y)) refl m)
alu_below Xor w x y = xor_lt (width_bits w) _ _ (low_below w x) (low_below w y)
alu_below Mov w x y = low_below w y
alu_below Arsh w x y = arithmetic_shift_below w (low w x) (low w y) (low_below w x)

-- so it fits a register
pub alu_fits : (op : AluOp) (w : Width) (x y : ℕ) → alu op w x y < 2 ^ 64
alu_fits op w x y = let b = alu_below op w x y in let f = width_fits w in omega arith

-- the low bytes in an order are a number of that many bits
pub reordered_below : (order : ByteOrder) (span : SwapWidth) (x : ℕ)
    → reordered order span x < 2 ^ span_bits span
unfolding reordered
reordered_below Little span x = mod_below x (2 ^ span_bits span) (pow_pos (span_bits span))
reordered_below Big B16 x = omega arith
reordered_below Big B32 x = omega arith
reordered_below Big B64 x = omega arith
reordered_below Swap B16 x = omega arith
reordered_below Swap B32 x = omega arith
reordered_below Swap B64 x = omega arith

pub reordered_fits : (order : ByteOrder) (span : SwapWidth) (x : ℕ)
    → reordered order span x < 2 ^ 64
reordered_fits order span x =
    let b = reordered_below order span x in let f = span_fits span in omega arith

-- bits that are cut off later may be cut off twice
pub low_wrapped : (w : Width) (n : ℕ) → low w (n % 2 ^ 64) ≡ low w n
low_wrapped Low32 n = omega arith
low_wrapped Full64 n = mod-mod n (2 ^ 64)

-- a difference of 64 bits has the low bits of the difference at the width
pub low_difference : (w : Width) (x y : ℕ) → y ≤ 2 ^ width_bits w
    → low w ((x + (2 ^ 64 - y)) % 2 ^ 64) ≡ (x + (2 ^ width_bits w - y)) % 2 ^ width_bits w
low_difference Low32 x y h = omega arith
low_difference Full64 x y h = mod-mod (x + (2 ^ 64 - y)) (2 ^ 64)
