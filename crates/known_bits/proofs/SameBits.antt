-- Bits with the same value and the same mask are the same, whatever proofs they hold.
use Rattle.known_bits.proofs.Common.{◌≡◌, ℕ, ◌^◌, ◌<◌, bit_and, ap₂, subst₂, Bits}
use Rattle.std.proofs.Props.{props}

-- two proofs are one
pub one_proof : (n m : ℕ) (p q : n ≡ m) → p ≡ q
one_proof n m p q = let prop : IsProp (n ≡ m) = hlevel props in prop p q

pub one_less : (n m : ℕ) (p q : n < m) → p ≡ q
one_less n m p q = let prop : IsProp (n < m) = hlevel props in prop p q

pub same_bits : (b c : Bits) → b.value ≡ c.value → b.mask ≡ c.mask → b ≡ c
same_bits b c value mask =
    subst₂ (λ (v m : ℕ). (a : bit_and v m ≡ 0) (f : m < 2 ^ 64)
    → b ≡ record { value = v; mask = m; apart = a; fits = f })
    value mask
    (λ a f. ap₂ (λ (p : bit_and b.value b.mask ≡ 0) (q : b.mask < 2 ^ 64).
    record { value = b.value; mask = b.mask; apart = p; fits = q })
    (one_proof (bit_and b.value b.mask) 0 b.apart a)
    (one_less b.mask (2 ^ 64) b.fits f))
    c.apart c.fits
