-- Which numbers of a set may have an outcome in a comparison with some number of another set, by
-- what is known of both.
use Rattle.std.specs.Prelude.{ℕ, ◌≡◌, ◌≢◌, ◌⊎◌, ◌<◌, ◌^◌, pos, ◌<ℤ◌, ◌≤ℤ◌, Bool, true, false, ⊤, bit_and}
use Rattle.std.specs.Int.{bit_at}
use Rattle.isa_model.specs.declared.sizes.Width.{Width}
use Rattle.isa_model.specs.declared.sizes.Width.TheVariants.{Low32, Full64}
use Rattle.isa_model.specs.declared.instructions.Comparison.{Comparison}
use Rattle.isa_model.specs.declared.instructions.Comparison.TheVariants.{Equal, NotEqual, Greater, GreaterEqual, Less, LessEqual, AnyBit, SignedGreater, SignedGreaterEqual, SignedLess, SignedLessEqual}
use Rattle.isa_model.specs.Code.Numbers.{signed}
use Rattle.reg_state.specs.Limits.{Limits}
use Rattle.reg_state.specs.Relations.{low_half_limit}

-- x, a number of the width, is between the limits, read without and with a sign
pub record IsWithinLimits (w : Width) (l : Limits) (x : ℕ) : Type 0 where
  pub from : l.least ≤ℤ pos x
  pub to : pos x ≤ℤ l.greatest
  pub signed_from : l.signed_least ≤ℤ signed w x
  pub signed_to : signed w x ≤ℤ l.signed_greatest

-- the number of the width is one of the limits, of the unsigned or of the signed ones
abbrev pub IsLimit : Width → Limits → ℕ → Type 0
IsLimit w l n =
    ((l.least ≡ pos n) ⊎ (l.greatest ≡ pos n))
    ⊎ ((l.signed_least ≡ signed w n) ⊎ (l.signed_greatest ≡ signed w n))

-- the unsigned limits leave this number only
abbrev pub IsAlone : Limits → ℕ → Type 0
IsAlone l n = (l.least ≡ pos n) × (l.greatest ≡ pos n)

-- what the outcome of a comparison of x, a number of the width, with some number of another set
-- says of x. They are equal: x is in that set, as `has` says. They differ: where the limits of the
-- set, `l`, leave one number, and that is a limit of `own`, between which x is known to be, x is
-- another. An order: the limit of `l` that is best for it does not rule x out. Bit tests: see
-- `MayShare`
abbrev pub MayGo : Width → Comparison → Bool → (ℕ → Type 0) → Limits → Limits → ℕ → Type 0
MayGo w Equal true has l own x = has x
MayGo w NotEqual false has l own x = has x
MayGo w Equal false has l own x = (n : ℕ) → IsAlone l n → IsLimit w own n → x ≢ n
MayGo w NotEqual true has l own x = (n : ℕ) → IsAlone l n → IsLimit w own n → x ≢ n
MayGo w Less true has l own x = pos x <ℤ l.greatest
MayGo w GreaterEqual false has l own x = pos x <ℤ l.greatest
MayGo w LessEqual true has l own x = pos x ≤ℤ l.greatest
MayGo w Greater false has l own x = pos x ≤ℤ l.greatest
MayGo w Greater true has l own x = l.least <ℤ pos x
MayGo w LessEqual false has l own x = l.least <ℤ pos x
MayGo w GreaterEqual true has l own x = l.least ≤ℤ pos x
MayGo w Less false has l own x = l.least ≤ℤ pos x
MayGo w SignedLess true has l own x = signed w x <ℤ l.signed_greatest
MayGo w SignedGreaterEqual false has l own x = signed w x <ℤ l.signed_greatest
MayGo w SignedLessEqual true has l own x = signed w x ≤ℤ l.signed_greatest
MayGo w SignedGreater false has l own x = signed w x ≤ℤ l.signed_greatest
MayGo w SignedGreater true has l own x = l.signed_least <ℤ signed w x
MayGo w SignedLessEqual false has l own x = l.signed_least <ℤ signed w x
MayGo w SignedGreaterEqual true has l own x = l.signed_least ≤ℤ signed w x
MayGo w SignedLess false has l own x = l.signed_least ≤ℤ signed w x
MayGo w c t has l own x = ⊤

-- the test of x's bits against a number that has the bits `ones` may have this outcome, where
-- `shared` are the bits that both may have: if no bit is common, x has none of `ones`; if one is, x
-- has the shared bit, where there is only one
abbrev pub MayShare : Comparison → Bool → ℕ → ℕ → ℕ → Type 0
MayShare AnyBit false ones shared x = bit_and x ones ≡ 0
MayShare AnyBit true ones shared x = (i : ℕ) → shared ≡ 2 ^ i → bit_at x i ≡ 1
MayShare c t ones shared x = ⊤

-- the comparison that has the same outcome once its operands are exchanged
abbrev pub exchanged : Comparison → Comparison
exchanged Greater = Less
exchanged GreaterEqual = LessEqual
exchanged Less = Greater
exchanged LessEqual = GreaterEqual
exchanged SignedGreater = SignedLess
exchanged SignedGreaterEqual = SignedLessEqual
exchanged SignedLess = SignedGreater
exchanged SignedLessEqual = SignedGreaterEqual
exchanged c = c

-- the comparison reads numbers whole: at 64 bits all, at 32 bits those that the limits, or the bits
-- that they may have, show to be their own low halves
abbrev pub ReadsWhole : Comparison → Width → Limits → ℕ → Type 0
ReadsWhole c Full64 l possible = ⊤
ReadsWhole c Low32 l possible =
    (l.greatest <ℤ pos (low_half_limit c)) ⊎ (possible < low_half_limit c)
