-- What the members of a value and a mask have in common.
use Rattle.known_bits.proofs.Common.{ℕ, ◌≡◌, ◌%◌, ◌^◌, ◌<◌, ◌≤◌, ◌-◌, min, bit_and, bit_or, arith, ap, sym, ◌∙◌, and_le_l, and_le_r, mod_below, pow_pos, bit_at_and, bit_at_or, bit_at_not, bit_at-lt, same_from_bits_below, IsMember, Bits, Has, greatest_of}
use Rattle.std.specs.Int.{w64, bit_not, bit_at}
use Rattle.known_bits.proofs.Carry.{low_bit}

kept_bit : (m x i : ℕ) → m < 2 ^ 64 → i < 64
    → bit_at (bit_and x (bit_not w64 m)) i ≡ min (bit_at x i) (1 - bit_at m i)
kept_bit m x i fits inside =
    bit_at_and x (bit_not w64 m) i ∙ ap (min (bit_at x i)) (bit_at_not w64 m i fits inside)

-- two members differ only in bits of the mask
pub bit_at-differing : (v m x y i : ℕ) → m < 2 ^ 64 → IsMember v m x → IsMember v m y → i < 64
    → bit_at x i ≡ 0 → bit_at y i ≡ 1 → bit_at m i ≡ 1
bit_at-differing v m x y i fits hx hy inside zero one =
    let same : bit_at (bit_and x (bit_not w64 m)) i ≡ bit_at (bit_and y (bit_not w64 m)) i =
    ap (λ n. bit_at n i) (hx.known ∙ sym hy.known) in
    let left = kept_bit m x i fits inside in
    let right = kept_bit m y i fits inside in
    let small = bit_at-lt m i in
    omega arith

-- where a member has a bit, the value or the mask has one
bit_at-allowed : (v m x i : ℕ) → m < 2 ^ 64 → IsMember v m x → i < 64
    → bit_at x i ≤ bit_at (bit_or v m) i
bit_at-allowed v m x i fits h inside =
    let known : min (bit_at x i) (1 - bit_at m i) ≡ bit_at v i = sym (kept_bit m x i fits inside)
    ∙ ap (λ n. bit_at n i) h.known in
    let greatest = bit_at_or v m i in
    let small = bit_at-lt m i in
    omega arith

-- no low part of a member is greater than that of the greatest
pub low-greatest : (b : Bits) (x w : ℕ) → w ≤ 64 → Has b x → x % 2 ^ w ≤ greatest_of b % 2 ^ w
low-greatest b x w within h =
    let g = greatest_of b % 2 ^ w in
    let positive = pow_pos w in
    let common : bit_and (x % 2 ^ w) g ≡ x % 2 ^ w =
    same_from_bits_below w _ _
    (let le = and_le_l (x % 2 ^ w) g in let below = mod_below x (2 ^ w) positive in omega arith)
    (mod_below x (2 ^ w) positive)
    (λ i below. bit_at_and (x % 2 ^ w) g i
    ∙ (let left = low_bit x w i below in
    let right = low_bit (greatest_of b) w i below in
    let allowed = bit_at-allowed b.value b.mask x i b.fits h (omega arith) in
    omega arith)) in
    let le = and_le_r (x % 2 ^ w) g in
    omega arith
