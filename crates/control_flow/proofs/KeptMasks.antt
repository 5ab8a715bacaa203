-- Masks of what is kept at each slot, as they are made slot by slot.
use Rattle.control_flow.proofs.Common.{◌≡◌, ℕ, ◌+◌, List, [], ◌∷◌, ◌++◌, length, sym, subst, arith, inl, inr, get_or-append_seam, cases_lt, cases_eq, get_or_append_left, get_or_past, length-append, HomeMask, Home, HasHome, no_homes, mask_at, AreWithin}
use Rattle.control_flow.proofs.MaskLemmas.{no_home}

-- the masks of the slots below n have nothing but what the others have there
pub record AreWithinBelow (n : ℕ) (masks others : List HomeMask) : Type 0 where
  pub same : length masks ≡ n
  pub within : AreWithin masks others

pub AreWithinBelow-start : (others : List HomeMask) → AreWithinBelow 0 [] others
AreWithinBelow-start others = record {
  same = omega arith;
  within = λ h slot has. absurd (no_home h
      (subst (λ m. HasHome m h) (get_or_past [] slot no_homes (omega arith)) has));
}

pub AreWithinBelow-more : (n : ℕ) (masks others : List HomeMask) (mask : HomeMask)
    → ((h : Home) → HasHome mask h → HasHome (mask_at others n) h)
    → AreWithinBelow n masks others → AreWithinBelow (n + 1) (masks ++ mask ∷ []) others
AreWithinBelow-more n masks others mask kept are = record {
  same = omega (arith, length-append masks (mask ∷ []), are.same);
  within = λ h slot has. elim (cases_lt slot n) [
    | inl low ↦
        are.within h slot
        (subst (λ m. HasHome m h)
        (get_or_append_left masks (mask ∷ []) no_homes slot (omega (arith, low, are.same))) has)
    | inr high ↦ elim (cases_eq slot n) [
      | inl here ↦
          let at : slot ≡ length masks = omega (arith, here, are.same) in
          let seam = get_or-append_seam masks mask [] no_homes in
          subst (λ k. HasHome (mask_at others k) h) (sym here)
          (kept h
          (subst (λ m. HasHome m h) seam
          (subst (λ k. HasHome (mask_at (masks ++ mask ∷ []) k) h) at has)))
      | inr apart ↦
          let past = get_or_past (masks ++ mask ∷ []) slot no_homes
          (omega (arith, length-append masks (mask ∷ []), are.same, high, apart)) in
          absurd (no_home h (subst (λ m. HasHome m h) past has))
    ]
  ];
}
