-- Laws of the limits of map rows.
use Rattle.isa_model.proofs.Common.{ℕ, ◌<◌, arith, MapType, Hash, Array, KeyFits}

-- no key is empty
pub KeyFits-some : (kind : MapType) (n : ℕ) → KeyFits kind n → 0 < n
KeyFits-some Hash n h = omega arith
KeyFits-some Array n h = omega arith
