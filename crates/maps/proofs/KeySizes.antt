-- How long the keys of maps are.
use Rattle.maps.proofs.Common.{◌≡◌, ℕ, ◌≤◌, arith, MapType, Hash, Array, KeyFits}
use Rattle.isa_model.specs.Code.Limits.{max_key_size}

-- no key has more than `max_key_size` bytes
pub KeyFits-most : (kind : MapType) (n : ℕ) → KeyFits kind n → n ≤ max_key_size
KeyFits-most Hash n fits = fits.1
KeyFits-most Array n fits = omega arith

-- an array's keys have four
pub KeyFits-index : (kind : MapType) (n : ℕ) → KeyFits kind n → kind ≡ Array → n ≡ 4
KeyFits-index Hash n fits e = absurd (cc)
KeyFits-index Array n fits e = fits
