-- Laws of the definitions in specs/Relations.
use Rattle.reg_state.proofs.Common.{◌≡◌, ℕ, ℤ, ◌^◌, ◌<◌, ◌<ℤ◌, ◌≤ℤ◌, Bool, true, false, refl, sym, ap, ◌∙◌, arith, bit_and, int_lt, int_le, if◌then◌else◌, w32, w64, cast_signed, cast_unsigned, ints, ltb-true, ltb-false, leb-true, leb-false, eqb-true, eqb-false, not-true, not-false, Low32, Full64, low, signed, alu, sign_extended, compares, holds, low_same}
use Rattle.isa_model.specs.declared.sizes.Width.{Width}
use Rattle.isa_model.specs.declared.sizes.Extension.TheVariants.{Full32}
use Rattle.isa_model.specs.declared.instructions.AluOp.TheVariants.{Mov}
use Rattle.isa_model.specs.declared.instructions.Comparison.{Comparison}
use Rattle.isa_model.specs.declared.instructions.Comparison.TheVariants.{Equal, NotEqual, Greater, GreaterEqual, Less, LessEqual, AnyBit, SignedGreater, SignedGreaterEqual, SignedLess, SignedLessEqual}
use Rattle.isa_model.proofs.NumberLaws.{low_below}
use Rattle.isa_model.proofs.ExtensionLaws.{sign_extended-small, sign_extended_fits}
use Rattle.reg_state.specs.Relations.{ComparesTo, low_half, low_half_limit, reads_signed}

lt-true : (a b : ℤ) → int_lt a b ≡ true → a <ℤ b
lt-true a b e = grind (arith, ints)

lt-false : (a b : ℤ) → int_lt a b ≡ false → b ≤ℤ a
lt-false a b e = grind (arith, ints)

le-true : (a b : ℤ) → int_le a b ≡ true → a ≤ℤ b
le-true a b e = grind (arith, ints)

le-false : (a b : ℤ) → int_le a b ≡ false → b <ℤ a
le-false a b e = grind (arith, ints)

-- of two registers' numbers
pub goes : (c : Comparison) (w : Width) (t : Bool) (x y : ℕ) → holds c w x y ≡ t
    → ComparesTo w c t x y
unfolding holds
goes Equal w true x y e = eqb-true (low w x) (low w y) e
goes Equal w false x y e = eqb-false (low w x) (low w y) e
goes NotEqual w true x y e = eqb-false (low w x) (low w y) (not-true _ e)
goes NotEqual w false x y e = eqb-true (low w x) (low w y) (not-false _ e)
goes Greater w true x y e = ltb-true (low w y) (low w x) e
goes Greater w false x y e = ltb-false (low w y) (low w x) e
goes GreaterEqual w true x y e = leb-true (low w y) (low w x) e
goes GreaterEqual w false x y e = leb-false (low w y) (low w x) e
goes Less w true x y e = ltb-true (low w x) (low w y) e
goes Less w false x y e = ltb-false (low w x) (low w y) e
goes LessEqual w true x y e = leb-true (low w x) (low w y) e
goes LessEqual w false x y e = leb-false (low w x) (low w y) e
goes AnyBit w true x y e = eqb-false (bit_and (low w x) (low w y)) 0 (not-true _ e)
goes AnyBit w false x y e = eqb-true (bit_and (low w x) (low w y)) 0 (not-false _ e)
goes SignedGreater w true x y e = lt-true (signed w (low w y)) (signed w (low w x)) e
goes SignedGreater w false x y e = lt-false (signed w (low w y)) (signed w (low w x)) e
goes SignedGreaterEqual w true x y e = le-true (signed w (low w y)) (signed w (low w x)) e
goes SignedGreaterEqual w false x y e = le-false (signed w (low w y)) (signed w (low w x)) e
goes SignedLess w true x y e = lt-true (signed w (low w x)) (signed w (low w y)) e
goes SignedLess w false x y e = lt-false (signed w (low w x)) (signed w (low w y)) e
goes SignedLessEqual w true x y e = le-true (signed w (low w x)) (signed w (low w y)) e
goes SignedLessEqual w false x y e = le-false (signed w (low w x)) (signed w (low w y)) e

both : {A : Type 0} (f : A → A → Bool) {a b u v : A} → a ≡ b → u ≡ v → f a u ≡ f b v
both f p q = cc

zeros : (x : ℕ) → low Low32 x ≡ low Full64 (low Low32 x)
zeros x = sym (low_same Full64 (low Low32 x) (let b = low_below Low32 x in omega arith))

same_signed : (n : ℕ) → n < 2 ^ 32
    → cast_signed w64 (cast_unsigned w64 (cast_signed w32 n)) ≡ cast_signed w32 n
same_signed n h = omega (arith, ints)

signs : (x : ℕ)
    → cast_signed w32 (low Low32 x) ≡ cast_signed w64 (low Full64 (sign_extended Full32 x))
unfolding sign_extended
signs x =
    sym (ap (cast_signed w64)
    (low_same Full64 (sign_extended Full32 x) (sign_extended_fits Full32 x))
    ∙ same_signed (low Low32 x) (low_below Low32 x))

-- a comparison at 32 bits is that of the low halves at 64
pub holds_low : (c : Comparison) (x y : ℕ)
    → holds c Low32 x y ≡ holds c Full64 (low_half c x) (low_half c y)
unfolding holds
holds_low Equal x y = both (compares Equal Full64) (zeros x) (zeros y)
holds_low NotEqual x y = both (compares NotEqual Full64) (zeros x) (zeros y)
holds_low Greater x y = both (compares Greater Full64) (zeros x) (zeros y)
holds_low GreaterEqual x y = both (compares GreaterEqual Full64) (zeros x) (zeros y)
holds_low Less x y = both (compares Less Full64) (zeros x) (zeros y)
holds_low LessEqual x y = both (compares LessEqual Full64) (zeros x) (zeros y)
holds_low AnyBit x y = both (compares AnyBit Full64) (zeros x) (zeros y)
holds_low SignedGreater x y = both int_lt (signs y) (signs x)
holds_low SignedGreaterEqual x y = both int_le (signs y) (signs x)
holds_low SignedLess x y = both int_lt (signs x) (signs y)
holds_low SignedLessEqual x y = both int_le (signs x) (signs y)

low_half_below : (signed : Bool) (x : ℕ) → x < (if signed then 2 ^ 31 else 2 ^ 32)
    → (if signed then sign_extended Full32 x else low Low32 x) ≡ x
low_half_below true x h = sign_extended-small Full32 x (2 ^ 31) refl h
low_half_below false x h = low_same Low32 x h

-- a number below the limit is its own low half
pub low_half-small : (c : Comparison) (x : ℕ) → x < low_half_limit c → low_half c x ≡ x
low_half-small c x h = low_half_below (reads_signed c) x h

-- a comparison at 32 bits says of numbers that are their own low halves what it says at 64 bits
pub goes_whole : (c : Comparison) (t : Bool) (x y : ℕ) → low_half c x ≡ x → low_half c y ≡ y
    → holds c Low32 x y ≡ t → ComparesTo Full64 c t x y
goes_whole c t x y left right e =
    goes c Full64 t x y (both (holds c Full64) (sym left) (sym right) ∙ sym (holds_low c x y) ∙ e)

-- the low half, extended by its sign, has its signed reading
pub signed_half : (x : ℕ) → cast_signed w64 (sign_extended Full32 x) ≡ signed Low32 (low Low32 x)
unfolding sign_extended
signed_half x = same_signed (low Low32 x) (low_below Low32 x)

-- numbers of 64 bits below 2^31 are their low halves so extended
pub signed_half-small : (x : ℕ) → x < 2 ^ 31 → sign_extended Full32 x ≡ x
signed_half-small x h = sign_extended-small Full32 x (2 ^ 31) refl h

-- moved at 32 bits, a number is its low half
pub moved_low : (x : ℕ) → alu Mov Low32 x x ≡ low Low32 x
unfolding alu
moved_low x = refl
