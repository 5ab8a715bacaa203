-- Laws of the definitions in specs/Going: what the outcome of a comparison says of a number, where
-- one set of numbers is replaced by a larger one.
use Rattle.reg_state.proofs.Common.{ℕ, ◌^◌, ◌<◌, Bool, true, false, subst, Full64, low, low_same, Limits, MayGo}
use Rattle.isa_model.specs.declared.instructions.Comparison.{Comparison}
use Rattle.isa_model.specs.declared.instructions.Comparison.TheVariants.{Equal, NotEqual, Greater, GreaterEqual, Less, LessEqual, AnyBit, SignedGreater, SignedGreaterEqual, SignedLess, SignedLessEqual}

may_weaker : (c : Comparison) (t : Bool) (P Q : ℕ → Type 0) (l own : Limits) (x : ℕ)
    → ((n : ℕ) → P n → Q n) → MayGo Full64 c t P l own x → MayGo Full64 c t Q l own x
may_weaker Equal true P Q l own x f h = f x h
may_weaker Equal false P Q l own x f h = h
may_weaker NotEqual true P Q l own x f h = h
may_weaker NotEqual false P Q l own x f h = f x h
may_weaker Greater true P Q l own x f h = h
may_weaker Greater false P Q l own x f h = h
may_weaker GreaterEqual true P Q l own x f h = h
may_weaker GreaterEqual false P Q l own x f h = h
may_weaker Less true P Q l own x f h = h
may_weaker Less false P Q l own x f h = h
may_weaker LessEqual true P Q l own x f h = h
may_weaker LessEqual false P Q l own x f h = h
may_weaker AnyBit true P Q l own x f h = tt
may_weaker AnyBit false P Q l own x f h = tt
may_weaker SignedGreater true P Q l own x f h = h
may_weaker SignedGreater false P Q l own x f h = h
may_weaker SignedGreaterEqual true P Q l own x f h = h
may_weaker SignedGreaterEqual false P Q l own x f h = h
may_weaker SignedLess true P Q l own x f h = h
may_weaker SignedLess false P Q l own x f h = h
may_weaker SignedLessEqual true P Q l own x f h = h
may_weaker SignedLessEqual false P Q l own x f h = h

-- of whole numbers, as 64 bits read them
pub may_whole : (c : Comparison) (t : Bool) (P Q : ℕ → Type 0) (l own : Limits) (x : ℕ) → x < 2 ^ 64
    → ((n : ℕ) → P n → Q n) → MayGo Full64 c t P l own (low Full64 x) → MayGo Full64 c t Q l own x
may_whole c t P Q l own x small f h =
    let at : ℕ → Type 0 = λ n. MayGo Full64 c t P l own n in
    may_weaker c t P Q l own x f (subst at (low_same Full64 x small) h)
