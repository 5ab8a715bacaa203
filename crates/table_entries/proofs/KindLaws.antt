-- Laws of `bits_of`, `wide_of`, `low_of` and `limits_of`: what they make of the fields of bits and
-- limits, and that they make nothing where the bits overlap or a least limit is over its greatest.
use Rattle.table_entries.proofs.Common.{◌≡◌, ℕ, ◌^◌, ◌<◌, ◌≤◌, ℤ, ◌≤ℤ◌, ◌⊎◌, Some, None, bit_and, inl, inr, ap, sym, ◌∙◌, refl, cases_eq, bits_when, bits_of, ordered_when, wide_with, wide_of, low_with, low_of, limits_when, limits_of}
use Rattle.known_bits.specs.declared.bits.Bits.{Bits}
use Rattle.known_bits.proofs.SameBits.{one_proof, one_less}
use Rattle.ranges.specs.declared.wide.Wide.{Wide}
use Rattle.ranges.specs.declared.low.Low.{Low}
use Rattle.ranges.proofs.SameLimits.{one_order, one_order_z}
use Rattle.table_entries.specs.Deciding.{decide, decide_less, decide_z}

pub bits_of-is : (b : Bits) → bits_of b.value b.mask ≡ Some b
unfolding bits_of
bits_of-is b = of (cases_eq (bit_and b.value b.mask) 0) (decide_less b.mask (2 ^ 64)) where
  of : (d : (bit_and b.value b.mask ≡ 0) ⊎ (bit_and b.value b.mask ≡ 0 → ⊥))
      (f : (b.mask < 2 ^ 64) ⊎ (b.mask < 2 ^ 64 → ⊥)) → bits_when b.value b.mask d f ≡ Some b
  of (inl apart) (inl fits) =
      ap (λ (h : bit_and b.value b.mask ≡ 0).
      Some (record { value = b.value; mask = b.mask; apart = h; fits = fits }))
      (one_proof (bit_and b.value b.mask) 0 apart b.apart)
      ∙ ap (λ (h : b.mask < 2 ^ 64).
      Some (record { value = b.value; mask = b.mask; apart = b.apart; fits = h }))
      (one_less b.mask (2 ^ 64) fits b.fits)
  of (inr refuted) f = absurd (refuted b.apart)
  of (inl apart) (inr refuted) = absurd (refuted b.fits)

pub bits_of-none : (v m : ℕ) → (bit_and v m ≡ 0 → ⊥) → bits_of v m ≡ None
unfolding bits_of
bits_of-none v m out = of (cases_eq (bit_and v m) 0) (decide_less m (2 ^ 64)) where
  of : (d : (bit_and v m ≡ 0) ⊎ (bit_and v m ≡ 0 → ⊥)) (f : (m < 2 ^ 64) ⊎ (m < 2 ^ 64 → ⊥))
      → bits_when v m d f ≡ None
  of (inl apart) f = absurd (out apart)
  of (inr refuted) f = refl

ordered_when-is : {X : Type 0} (l g : ℕ) (s t : ℤ) (make : l ≤ g → s ≤ℤ t → X) (o : l ≤ g)
    (p : s ≤ℤ t)
    (a : (l ≤ g) ⊎ (l ≤ g → ⊥)) (b : (s ≤ℤ t) ⊎ (s ≤ℤ t → ⊥))
    → ordered_when l g s t make a b ≡ Some (make o p)
ordered_when-is l g s t make o p (inl first) (inl second) =
    ap (λ (h : l ≤ g). Some (make h second)) (one_order l g first o)
    ∙ ap (λ (h : s ≤ℤ t). Some (make o h)) (one_order_z s t second p)
ordered_when-is l g s t make o p (inr out) b = absurd (out o)
ordered_when-is l g s t make o p (inl first) (inr out) = absurd (out p)

ordered_when-none : {X : Type 0} (l g : ℕ) (s t : ℤ) (make : l ≤ g → s ≤ℤ t → X)
    → (l ≤ g → s ≤ℤ t → ⊥)
    → (a : (l ≤ g) ⊎ (l ≤ g → ⊥)) (b : (s ≤ℤ t) ⊎ (s ≤ℤ t → ⊥))
    → ordered_when l g s t make a b ≡ None
ordered_when-none l g s t make out (inl o) (inl p) = absurd (out o p)
ordered_when-none l g s t make out (inr refuted) b = refl
ordered_when-none l g s t make out (inl o) (inr refuted) = refl

pub wide_of-is : (w : Wide) → wide_of w.least w.greatest w.signed_least w.signed_greatest ≡ Some w
unfolding wide_of
wide_of-is w =
    ordered_when-is w.least w.greatest w.signed_least w.signed_greatest
    (wide_with w.least w.greatest w.signed_least w.signed_greatest) w.ordered w.signed_ordered
    (decide w.least w.greatest) (decide_z w.signed_least w.signed_greatest)

pub wide_of-none : (l g : ℕ) (s t : ℤ) → (l ≤ g → s ≤ℤ t → ⊥) → wide_of l g s t ≡ None
unfolding wide_of
wide_of-none l g s t out =
    ordered_when-none l g s t (wide_with l g s t) out (decide l g) (decide_z s t)

pub low_of-is : (l : Low) → low_of l.least l.greatest l.signed_least l.signed_greatest ≡ Some l
unfolding low_of
low_of-is l =
    ordered_when-is l.least l.greatest l.signed_least l.signed_greatest
    (low_with l.least l.greatest l.signed_least l.signed_greatest) l.ordered l.signed_ordered
    (decide l.least l.greatest) (decide_z l.signed_least l.signed_greatest)

pub low_of-none : (l g : ℕ) (s t : ℤ) → (l ≤ g → s ≤ℤ t → ⊥) → low_of l g s t ≡ None
unfolding low_of
low_of-none l g s t out =
    ordered_when-none l g s t (low_with l g s t) out (decide l g) (decide_z s t)

pub limits_of-some : (l g : ℤ) → l ≤ℤ g → limits_of l g ≡ Some (l, g)
unfolding limits_of
limits_of-some l g h = of (decide_z l g) where
  of : (a : (l ≤ℤ g) ⊎ (l ≤ℤ g → ⊥)) → limits_when l g a ≡ Some (l, g)
  of (inl o) = refl
  of (inr refuted) = absurd (refuted h)

pub wide_of-made : (w : Wide) (s t : ℤ) → w.signed_least ≡ s → w.signed_greatest ≡ t
    → Some w ≡ wide_of w.least w.greatest s t
wide_of-made w s t e f =
    sym (wide_of-is w) ∙ ap (λ (z : ℤ). wide_of w.least w.greatest z w.signed_greatest) e
    ∙ ap (wide_of w.least w.greatest s) f

pub low_of-made : (w : Low) (s t : ℤ) → w.signed_least ≡ s → w.signed_greatest ≡ t
    → Some w ≡ low_of w.least w.greatest s t
low_of-made w s t e f =
    sym (low_of-is w) ∙ ap (λ (z : ℤ). low_of w.least w.greatest z w.signed_greatest) e
    ∙ ap (low_of w.least w.greatest s) f
