-- Words of pointers as numbers.
use Rattle.machine.proofs.Common.{◌≡◌, ℕ, ◌^◌, ◌<◌, ◌≤◌, refl, arith, ℤ, pos, negsuc, ◌+ℤ◌, ◌-ℤ◌, inl, inr, ints, cases_lt, lt-ltb, le-ltb, w16, w64, cast_signed, FitsSigned, Full64, Add, Sub, Region, alu, signed, unsigned, IsOffset, IsRegion, Layout, IsLayout, region_start, moved, word}
use Rattle.isa_model.specs.declared.values.Region.TheVariants as region

-- an address as an integer, where it cannot be below 0
pub moved_is : (s : ℕ) (z : ℤ) → 4294967296 ≤ s → IsOffset z → pos (moved s z) ≡ pos s +ℤ z
moved_is s (pos n) h l = refl
moved_is s (negsuc n) h l = omega (arith, ints)

pub moved_far : (s : ℕ) (z : ℤ) → 4294967296 ≤ s → s < 1099511627776 → IsOffset z
    → (2147483648 ≤ moved s z) × (moved s z < 2199023255552)
moved_far s (pos n) h g l = (omega (arith, ints), omega (arith, ints))
moved_far s (negsuc n) h g l = (omega (arith, ints), omega (arith, ints))

-- adding a number as the processor does is adding it as a signed number
pub add_moved : (s n : ℕ) (z : ℤ) → 4294967296 ≤ s → s < 1099511627776 → n < 2 ^ 64 → IsOffset z
    → IsOffset (z +ℤ signed Full64 n)
    → alu Add Full64 (moved s z) n ≡ moved s (z +ℤ signed Full64 n)
unfolding alu
add_moved s n z h g fits l m =
    let e = moved_is s z h l in
    let f = moved_is s (z +ℤ signed Full64 n) h m in
    let (lo, hi) = moved_far s z h g l in
    let (lo2, hi2) = moved_far s (z +ℤ signed Full64 n) h g m in
    elim (cases_lt n (2 ^ 63)) [
      | inl lt ↦
          let t : cast_signed w64 n ≡ pos n = rw (lt-ltb n (2 ^ 63) lt) refl in omega (arith, ints)
      | inr ge ↦
          let t : pos (2 ^ 64) +ℤ cast_signed w64 n ≡ pos n =
          rw (le-ltb n (2 ^ 63) ge) (omega (arith, ints)) in omega (arith, ints)
    ]

pub sub_moved : (s n : ℕ) (z : ℤ) → 4294967296 ≤ s → s < 1099511627776 → n < 2 ^ 64 → IsOffset z
    → IsOffset (z -ℤ signed Full64 n)
    → alu Sub Full64 (moved s z) n ≡ moved s (z -ℤ signed Full64 n)
unfolding alu
sub_moved s n z h g fits l m =
    let e = moved_is s z h l in
    let f = moved_is s (z -ℤ signed Full64 n) h m in
    let (lo, hi) = moved_far s z h g l in
    let (lo2, hi2) = moved_far s (z -ℤ signed Full64 n) h g m in
    elim (cases_lt n (2 ^ 63)) [
      | inl lt ↦
          let t : cast_signed w64 n ≡ pos n = rw (lt-ltb n (2 ^ 63) lt) refl in omega (arith, ints)
      | inr ge ↦
          let t : pos (2 ^ 64) +ℤ cast_signed w64 n ≡ pos n =
          rw (le-ltb n (2 ^ 63) ge) (omega (arith, ints)) in omega (arith, ints)
    ]

pub alu_add_swap : (a b : ℕ) → alu Add Full64 a b ≡ alu Add Full64 b a
unfolding alu
alu_add_swap a b = omega arith

-- every region's offset 0 is far from both ends of the addresses
pub start_far : (a : Layout) (count next : ℕ) (r : Region) → IsLayout a count
    → IsRegion count next r
    → (4294967296 ≤ region_start a r) × (region_start a r < 1099511627776)
start_far a count next region.Context good h = (omega arith, omega arith)
start_far a count next region.Packet good h = (omega arith, omega arith)
start_far a count next region.PacketEnd good h = let l = good.short in (omega arith, omega arith)
start_far a count next (region.Map m) good h = let f = good.few in (omega arith, omega arith)
start_far a count next (region.MapValue m n) good h =
    let f = good.few in
    let l = good.low m n in
    let k = h.0 in
    (omega arith, omega arith)
start_far a count next (region.CallFrame n) good h =
    let l = good.shallow n in (omega arith, omega arith)

pub word_far : (a : Layout) (r : Region) (z : ℤ) → 4294967296 ≤ region_start a r
    → region_start a r < 1099511627776 → IsOffset z
    → (2147483648 ≤ word a r z) × (word a r z < 2199023255552)
word_far a region.Context z h g l = moved_far (region_start a region.Context) z h g l
word_far a region.Packet z h g l = moved_far (region_start a region.Packet) z h g l
word_far a region.PacketEnd z h g l = (omega arith, omega arith)
word_far a (region.Map m) z h g l = moved_far (region_start a (region.Map m)) z h g l
word_far a (region.MapValue m n) z h g l = moved_far (region_start a (region.MapValue m n)) z h g l
word_far a (region.CallFrame n) z h g l = moved_far (region_start a (region.CallFrame n)) z h g l

-- an offset that is a little over its limit
pub add_near : (s : ℕ) (z by : ℤ) → 4294967296 ≤ s → s < 1099511627776 → IsOffset z
    → FitsSigned w16 by
    → pos (alu Add Full64 (moved s z) (unsigned Full64 by)) ≡ pos s +ℤ (z +ℤ by)
unfolding alu
add_near s z (pos n) h g l f =
    let e = moved_is s z h l in let (lo, hi) = moved_far s z h g l in omega (arith, ints)
add_near s z (negsuc n) h g l f =
    let e = moved_is s z h l in let (lo, hi) = moved_far s z h g l in omega (arith, ints)
