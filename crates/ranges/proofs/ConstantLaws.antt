-- An operation on two constants: the limits of its result, which is one too.
use Rattle.ranges.proofs.Common.{ℕ, ℤ, ◌≡◌, ◌≤◌, ◌<◌, ◌*◌, ◌%◌, ◌^◌, ap, refl, sym, subst, subst₂, ◌∙◌, arith, w64, ◌*ℤ◌, ◌≤ℤ◌, pos, w32, cast_signed, mod-eq_of_lt, Width, Low32, Full64, AluOp, Lsh, width_bits, alu, result_of, shift, alu_below, low_same, KeepsUnsigned, KeepsSigned, Has, IsConstant, ReadsLow, Range}
use Rattle.ranges.specs.Wides as W
use Rattle.ranges.specs.Lows as L
use Rattle.ranges.proofs.Limits.{shl_mono}
use Rattle.ranges.proofs.KeepsLaws.{keeps_member, keeps_signed_member}
use Rattle.ranges.proofs.LowResults.{low_result_of}
use Rattle.ranges.proofs.Raised.{shifted_raised, raised_signed, times_mono}

-- limits that both are the result lie between those that it must keep
between : (op : AluOp) (w : Width) (al ag bl bg n least greatest : ℕ) → least ≡ n → greatest ≡ n
    → KeepsUnsigned op w al ag bl bg (λ l g. (l ≤ n) × (n ≤ g))
    → KeepsUnsigned op w al ag bl bg (λ l g. (l ≤ least) × (greatest ≤ g))
between op w al ag bl bg n least greatest from to =
    subst₂ (λ m k. KeepsUnsigned op w al ag bl bg (λ l g. (l ≤ m) × (k ≤ g))) (sym from) (sym to)

signed_between : (op : AluOp) (w : Width) (al ag bl bg : ℤ) (d e : ℕ) (n least greatest : ℤ)
    → least ≡ n → greatest ≡ n
    → KeepsSigned op w al ag bl bg d e (λ l g. (l ≤ℤ n) × (n ≤ℤ g))
    → KeepsSigned op w al ag bl bg d e (λ l g. (l ≤ℤ least) × (greatest ≤ℤ g))
signed_between op w al ag bl bg d e n least greatest from to =
    subst₂ (λ m k. KeepsSigned op w al ag bl bg d e (λ l g. (l ≤ℤ m) × (k ≤ℤ g)))
    (sym from) (sym to)

-- the result of the operation on the constants of a and b is n, and r has only n
pub record OfConstants (op : AluOp) (w : Width) (a b r : Range) (n : ℕ) : Type 0 where
  pub first : a.wide.least ≡ a.wide.greatest
  pub second : b.wide.least ≡ b.wide.greatest
  pub computed : n ≡ alu op w a.wide.least b.wide.least
  pub constant : IsConstant r n
  pub has : Has r n

module _ {op : AluOp} {w : Width} {a b r : Range} {n : ℕ} (given : OfConstants op w a b r n) where
  value : (x y : ℕ) → Has a x → Has b y → n ≡ alu op w x y
  value x y hx hy =
      let one : x ≡ a.wide.least = let from = hx.0.from in let to = hx.0.to in omega arith in
      let other : y ≡ b.wide.least = let from = hy.0.from in let to = hy.0.to in omega arith in
      rw (one, other) given.computed

  pub constants_contain : (x y : ℕ) → Has a x → Has b y → Has r (alu op w x y)
  constants_contain x y hx hy = subst (Has r) (value x y hx hy) given.has

  pub constants_fit : r.wide.greatest < 2 ^ width_bits w
  constants_fit =
      let below = alu_below op w a.wide.least b.wide.least in
      let is = given.computed in
      omega (arith, given.constant.0.1)

  pub constants_kept : a.wide.greatest < 2 ^ width_bits w → b.wide.greatest < 2 ^ width_bits w
      → W.KeepsLimits op w a.wide b.wide (W.IsBetween r.wide)
  unfolding alu
  constants_kept fa fb =
      let k = given.constant.0 in
      let x_in : a.wide.least < 2 ^ width_bits w = omega arith in
      let y_in : b.wide.least < 2 ^ width_bits w = omega arith in
      let is = rw (low_same w a.wide.least x_in, low_same w b.wide.least y_in) at given.computed in
      between op w a.wide.least a.wide.greatest b.wide.least b.wide.greatest _ r.wide.least
      r.wide.greatest (k.0 ∙ is) (k.1 ∙ is)
      (keeps_member op w _ _ _ _ a.wide.least b.wide.least (omega arith) (omega arith)
      (omega arith) (omega arith) x_in y_in)

  pub constants_kept_signed : (x y : ℕ) → Has a x → Has b y → w ≡ Full64
      → W.KeepsSignedLimits op a.wide b.wide (W.IsSignedBetween r.wide)
  unfolding alu
  constants_kept_signed x y hx hy full =
      let k = given.constant.0 in
      let x_in = hx.0.below in
      let y_in = hy.0.below in
      let is = ap (cast_signed w64)
      (rw (full, low_same Full64 x x_in, low_same Full64 y y_in) at (value x y hx hy)) in
      signed_between op Full64 a.wide.signed_least a.wide.signed_greatest
      b.wide.signed_least b.wide.signed_greatest b.wide.least b.wide.greatest _
      r.wide.signed_least r.wide.signed_greatest (k.2 ∙ is)
      (k.3 ∙ is)
      (keeps_signed_member op Full64 a.wide.signed_least a.wide.signed_greatest
      b.wide.signed_least b.wide.signed_greatest b.wide.least b.wide.greatest x y x_in y_in hx.0.signed_from hx.0.signed_to
      hy.0.signed_from hy.0.signed_to hy.0.from hy.0.to)

  low_value : (x y : ℕ) → Has a x → Has b y → ReadsLow op w b.wide
      → n % 2 ^ 32 ≡ result_of op Low32 (x % 2 ^ 32) (y % 2 ^ 32)
  low_value x y hx hy reads =
      ap (λ m. m % 2 ^ 32) (value x y hx hy)
      ∙ low_result_of op w x y b.wide hx.0.below hy.0 reads

  pub constants_kept_low : (x y : ℕ) → Has a x → Has b y → ReadsLow op w b.wide
      → L.KeepsLimits op a.low b.low (L.IsBetween r.low)
  constants_kept_low x y hx hy reads =
      let k = given.constant.1 in
      let is = low_value x y hx hy reads in
      between op Low32 a.low.least a.low.greatest b.low.least b.low.greatest _ r.low.least
      r.low.greatest (k.0 ∙ is) (k.1 ∙ is)
      (keeps_member op Low32 _ _ _ _ (x % 2 ^ 32) (y % 2 ^ 32) hx.1.from hx.1.to hy.1.from hy.1.to
      hx.1.below hy.1.below)

  pub constants_kept_low_signed : (x y : ℕ) → Has a x → Has b y → ReadsLow op w b.wide
      → L.KeepsSignedLimits op a.low b.low (L.IsSignedBetween r.low)
  constants_kept_low_signed x y hx hy reads =
      let k = given.constant.1 in
      let is = ap (cast_signed w32) (low_value x y hx hy reads) in
      signed_between op Low32 a.low.signed_least a.low.signed_greatest
      b.low.signed_least b.low.signed_greatest b.low.least b.low.greatest _
      r.low.signed_least r.low.signed_greatest (k.2 ∙ is)
      (k.3 ∙ is)
      (keeps_signed_member op Low32 a.low.signed_least a.low.signed_greatest
      b.low.signed_least b.low.signed_greatest b.low.least b.low.greatest (x % 2 ^ 32) (y % 2 ^ 32) hx.1.below hy.1.below
      hx.1.signed_from hx.1.signed_to hy.1.signed_from hy.1.signed_to hy.1.from hy.1.to)

-- ---- shifts to the left by 32 or more

module _ {w : Width} {a b r : Range} {n : ℕ} (given : OfConstants Lsh w a b r n) (x y : ℕ)
    (hx : Has a x) (hy : Has b y) (full : w ≡ Full64) where
  raised_value : (by : ℕ) → by ≡ shift w b.wide.least → 32 ≤ by
      → n ≡ (x % 2 ^ 32 * 2 ^ by) % 2 ^ 64
  raised_value by is far =
      let other : b.wide.least ≡ y = let from = hy.0.from in let to = hy.0.to in omega arith in
      (rw full at (value given x y hx hy))
      ∙ shifted_raised x y by hx.0.below hy.0.below (rw (full, other) at is) far

  pub constants_raised : 32 ≤ shift w b.wide.least
      → a.low.greatest * 2 ^ shift w b.wide.least < 2 ^ 64
      → W.IsBetween r.wide (a.low.least * 2 ^ shift w b.wide.least)
      (a.low.greatest * 2 ^ shift w b.wide.least)
  constants_raised far fits =
      let by = shift w b.wide.least in
      let k = given.constant.0 in
      let is = raised_value by refl far in
      let from = shl_mono a.low.least (x % 2 ^ 32) by hx.1.from in
      let to = shl_mono (x % 2 ^ 32) a.low.greatest by hx.1.to in
      let m = mod-eq_of_lt {n = x % 2 ^ 32 * 2 ^ by} {m = 2 ^ 64} (omega (arith, to, fits)) in
      (omega (arith, k.0, is, m, from), omega (arith, k.1, is, m, to))

  pub constants_raised_signed : shift w b.wide.least ≡ 32
      → W.IsSignedBetween r.wide (a.low.signed_least *ℤ pos (2 ^ 32))
      (a.low.signed_greatest *ℤ pos (2 ^ 32))
  constants_raised_signed is32 =
      let k = given.constant.0 in
      let is = ap (cast_signed w64) (raised_value 32 (sym is32) (omega arith))
      ∙ raised_signed (x % 2 ^ 32) hx.1.below in
      rw (k.2 ∙ is, k.3 ∙ is) (
        times_mono a.low.signed_least (cast_signed w32 (x % 2 ^ 32)) hx.1.signed_from,
        times_mono (cast_signed w32 (x % 2 ^ 32)) a.low.signed_greatest hx.1.signed_to,
      )
