-- Limits with the same numbers are the same, whatever proofs they hold.
use Rattle.ranges.proofs.Common.{◌≡◌, ℕ, ◌≤◌, ℤ, ◌≤ℤ◌, ap, ap₂, subst₂, Wide, Low}
use Rattle.std.proofs.Props.{props}

-- two proofs are one
pub one_order : (n m : ℕ) (p q : n ≤ m) → p ≡ q
one_order n m p q = let prop : IsProp (n ≤ m) = hlevel props in prop p q

pub one_order_z : (n m : ℤ) (p q : n ≤ℤ m) → p ≡ q
one_order_z n m p q = let prop : IsProp (n ≤ℤ m) = hlevel props in prop p q

-- limits of numbers read without a sign and with one
record Limits : Type 0 where
  least : ℕ
  greatest : ℕ
  signed_least : ℤ
  signed_greatest : ℤ
  ordered : least ≤ greatest
  signed_ordered : signed_least ≤ℤ signed_greatest

abbrev limits : (l g : ℕ) (s t : ℤ) → l ≤ g → s ≤ℤ t → Limits
limits l g s t o p = record {
  least = l;
  greatest = g;
  signed_least = s;
  signed_greatest = t;
  ordered = o;
  signed_ordered = p;
}

same_limits : (a b : Limits) → a.least ≡ b.least → a.greatest ≡ b.greatest
    → a.signed_least ≡ b.signed_least → a.signed_greatest ≡ b.signed_greatest → a ≡ b
same_limits a b least greatest signed_least signed_greatest =
    subst₂ (λ (m n : ℕ). (q : m ≤ n)
    → a ≡ limits m n b.signed_least b.signed_greatest q b.signed_ordered) least greatest
    (subst₂ (λ (y z : ℤ). (v : y ≤ℤ z) (q : a.least ≤ a.greatest)
    → a ≡ limits a.least a.greatest y z q v) signed_least signed_greatest
    (λ v q. ap₂ (limits a.least a.greatest a.signed_least a.signed_greatest)
    (one_order a.least a.greatest a.ordered q)
    (one_order_z a.signed_least a.signed_greatest a.signed_ordered v))
    b.signed_ordered)
    b.ordered

abbrev limits_of_wide : Wide → Limits
limits_of_wide w =
    limits w.least w.greatest w.signed_least w.signed_greatest w.ordered w.signed_ordered

abbrev wide_of : Limits → Wide
wide_of l = record {
  least = l.least;
  greatest = l.greatest;
  signed_least = l.signed_least;
  signed_greatest = l.signed_greatest;
  ordered = l.ordered;
  signed_ordered = l.signed_ordered;
}

pub same_wide : (w x : Wide) → w.least ≡ x.least → w.greatest ≡ x.greatest
    → w.signed_least ≡ x.signed_least → w.signed_greatest ≡ x.signed_greatest → w ≡ x
same_wide w x least greatest signed_least signed_greatest =
    ap wide_of
    (same_limits (limits_of_wide w) (limits_of_wide x) least greatest signed_least signed_greatest)

abbrev limits_of_low : Low → Limits
limits_of_low l =
    limits l.least l.greatest l.signed_least l.signed_greatest l.ordered l.signed_ordered

abbrev low_of : Limits → Low
low_of l = record {
  least = l.least;
  greatest = l.greatest;
  signed_least = l.signed_least;
  signed_greatest = l.signed_greatest;
  ordered = l.ordered;
  signed_ordered = l.signed_ordered;
}

pub same_low : (l x : Low) → l.least ≡ x.least → l.greatest ≡ x.greatest
    → l.signed_least ≡ x.signed_least → l.signed_greatest ≡ x.signed_greatest → l ≡ x
same_low l x least greatest signed_least signed_greatest =
    ap low_of
    (same_limits (limits_of_low l) (limits_of_low x) least greatest signed_least signed_greatest)
