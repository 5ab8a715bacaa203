-- Constants: sets of one number.
use Rattle.known_bits.proofs.Common.{◌≡◌, ℕ, IsMember}
use Rattle.known_bits.proofs.Shift.{constant_only}

-- the one member where the mask is empty
pub only_member : {v m y : ℕ} → m ≡ 0 → IsMember v m y → y ≡ v
only_member {v} {m} {y} e h = constant_only v y (rw e at h)
