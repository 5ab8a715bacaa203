-- Constants: what is known of a number, if its bits and each limit leave that number only.
use Rattle.kept_states.proofs.Common.{◌≡◌, ℕ, ap₂, Bits, Wide, Low, Range, same_wide, same_low, Scalar}
use Rattle.known_bits.proofs.SameBits.{same_bits}
use Rattle.reg_state.specs.Scalars.{IsConstant}
use Rattle.kept_states.specs.Constants.{constant_numbers}

pub constant_numbers-is : (s : Scalar) (v : ℕ) → IsConstant s v → s ≡ constant_numbers v
unfolding constant_numbers
constant_numbers-is s v is =
    let k : Scalar = constant_numbers v in
    let r : Range = k.range in
    let bits = is.0 in
    let wide = is.1.0 in
    let low = is.1.1 in
    ap₂ (λ (b : Bits) (q : Range). record { bits = b; range = q })
    (same_bits s.bits k.bits bits.0 bits.1)
    (ap₂ (λ (w : Wide) (l : Low). record { wide = w; low = l })
    (same_wide s.range.wide r.wide wide.0 wide.1 wide.2 wide.3)
    (same_low s.range.low r.low low.0 low.1 low.2 low.3))
