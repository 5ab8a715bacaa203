-- The place of a reason among others that rise, and what one more frame of it changes.
use Rattle.host.proofs.Common.{◌≡◌, ℕ, zero, suc, ◌<◌, ◌≤◌, ◌==◌, nat_lt, Bool, true, false, if◌then◌else◌, List, [], ◌∷◌, ◌++◌, length, take, drop, get_or, set, refl, sym, ap, ◌∙◌, subst, arith, length-set, eq-eqb, ne_eqb, lt-ltb, le-ltb, one_more, Totals, is_met, one_more_of, with_reason, place_of}
use Rattle.std.specs.List.{insert, refill}
use Rattle.std.proofs.Math.Seq.{take-append_seam}
use Rattle.host.specs.declared.counts.ReasonCount.{ReasonCount}

module _ (d : ReasonCount) (r : ℕ) where
  abbrev at : List ReasonCount → ℕ → ReasonCount
  at rs k = get_or rs k d

  -- the walk passes a smaller reason
  pub passes : (rs : List ReasonCount) (k : ℕ) → k < length rs → k ≤ place_of rs r
      → nat_lt (at rs k).reason r ≡ true → suc k ≤ place_of rs r
  passes [] k h p lt = absurd (omega (arith, h))
  passes (x ∷ rs) zero h p lt = rw lt (omega arith)
  passes (x ∷ rs) (suc k) h p lt =
      go (λ q. passes rs k (omega (arith, h)) q lt) (nat_lt x.reason r) p
    where
      go : (k ≤ place_of rs r → suc k ≤ place_of rs r) → (b : Bool)
          → suc k ≤ (if b then suc (place_of rs r) else 0)
          → suc (suc k) ≤ (if b then suc (place_of rs r) else 0)
      go later true p = let q = later (omega (arith, p)) in omega (arith, q)
      go later false p = absurd (omega (arith, p))

  -- it stops at the first one that is not smaller
  pub stops : (rs : List ReasonCount) (k : ℕ) → k < length rs → k ≤ place_of rs r
      → nat_lt (at rs k).reason r ≡ false → place_of rs r ≡ k
  stops [] k h p lt = absurd (omega (arith, h))
  stops (x ∷ rs) zero h p lt = rw lt refl
  stops (x ∷ rs) (suc k) h p lt =
      go (λ q. stops rs k (omega (arith, h)) q lt) (nat_lt x.reason r) p
    where
      go : (k ≤ place_of rs r → place_of rs r ≡ k) → (b : Bool)
          → suc k ≤ (if b then suc (place_of rs r) else 0)
          → (if b then suc (place_of rs r) else 0) ≡ suc k
      go later true p = let q = later (omega (arith, p)) in omega (arith, q)
      go later false p = absurd (omega (arith, p))

  pub within : (rs : List ReasonCount) → place_of rs r ≤ length rs
  within [] = omega arith
  within (x ∷ rs) = go (within rs) (nat_lt x.reason r)
    where
      go : place_of rs r ≤ length rs → (b : Bool)
          → (if b then suc (place_of rs r) else 0) ≤ suc (length rs)
      go later true = omega (arith, later)
      go later false = omega arith

  -- these with one more frame of the reason at a place
  abbrev pub again : List ReasonCount → ℕ → List ReasonCount
  again rs k = set rs k (record { reason = r; frames = one_more (at rs k).frames })

  abbrev counted : ℕ → ℕ → ReasonCount
  counted reason frames = record { reason = reason; frames = frames }

  -- the reason is met at its place
  pub met : (rs : List ReasonCount) → place_of rs r < length rs
      → (at rs (place_of rs r)).reason ≡ r
      → (is_met rs r ≡ true) × (one_more_of rs r ≡ again rs (place_of rs r))
  met [] h is = absurd (omega (arith, h))
  met (x ∷ rs) h is = go (met rs) (nat_lt x.reason r) h is
    where
      go : (place_of rs r < length rs → (at rs (place_of rs r)).reason ≡ r
          → (is_met rs r ≡ true) × (one_more_of rs r ≡ again rs (place_of rs r)))
          → (b : Bool) → (if b then suc (place_of rs r) else 0) < suc (length rs)
          → (at (x ∷ rs) (if b then suc (place_of rs r) else 0)).reason ≡ r
          → ((if b then is_met rs r else x.reason == r) ≡ true)
          × ((if b
          then x ∷ one_more_of rs r
          else (
          if x.reason == r
          then counted x.reason (one_more x.frames) ∷ rs
          else counted r 1 ∷ x ∷ rs))
          ≡ again (x ∷ rs) (if b then suc (place_of rs r) else 0))
      go later true h is =
          let q = later (omega (arith, h)) is in (
            q.0,
            ap (λ (l : List ReasonCount). x ∷ l) q.1,
          )
      go later false h is = (
        eq-eqb x.reason r is,
        rw (eq-eqb x.reason r is) (ap (λ n. counted n (one_more x.frames) ∷ rs) is),
      )

  -- the reason is not met: one more is put into its place
  pub missing : (rs : List ReasonCount)
      → (place_of rs r < length rs → (at rs (place_of rs r)).reason ≡ r → ⊥)
      → (is_met rs r ≡ false) × (one_more_of rs r ≡ insert rs (place_of rs r) (counted r 1))
  missing [] other = (refl, refl)
  missing (x ∷ rs) other = go (missing rs) (nat_lt x.reason r) other
    where
      go : ((place_of rs r < length rs → (at rs (place_of rs r)).reason ≡ r → ⊥)
          → (is_met rs r ≡ false) × (one_more_of rs r ≡ insert rs (place_of rs r) (counted r 1)))
          → (b : Bool)
          → ((if b then suc (place_of rs r) else 0) < suc (length rs)
          → (at (x ∷ rs) (if b then suc (place_of rs r) else 0)).reason ≡ r → ⊥)
          → ((if b then is_met rs r else x.reason == r) ≡ false)
          × ((if b
          then x ∷ one_more_of rs r
          else (
          if x.reason == r
          then counted x.reason (one_more x.frames) ∷ rs
          else counted r 1 ∷ x ∷ rs))
          ≡ insert (x ∷ rs) (if b then suc (place_of rs r) else 0) (counted r 1))
      go later true other =
          let q = later (λ h is. other (omega (arith, h)) is) in (
            q.0,
            ap (λ (l : List ReasonCount). x ∷ l) q.1,
          )
      go later false other =
          let not = ne_eqb x.reason r (λ is. other (omega arith) is) in (not, rw not refl)

-- ---- counts with one more frame of a reason

abbrev with_reasons : Totals → List ReasonCount → Totals
with_reasons c reasons = record c { reasons = reasons }

abbrev with_others : Totals → ℕ → Totals
with_others c count = record c { other_reasons = count }

abbrev pub no_frames : ReasonCount
no_frames = record { reason = 0; frames = 0 }

-- writing all elements of a vector
refill_whole : (xs ws : List ReasonCount) → length ws ≡ length xs → refill (length xs) xs ws ≡ ws
refill_whole xs ws same =
    ap (λ (n : ℕ). take n (ws ++ drop (length ws) xs)) (sym same)
    ∙ take-append_seam ws (drop (length ws) xs)

module _ (c : Totals) (r k : ℕ) (place : k ≡ place_of c.reasons r) where
  pub add_met : (frames : ℕ) (ws : List ReasonCount) → ws ≡ c.reasons → k < length c.reasons
      → (get_or c.reasons k no_frames).reason ≡ r
      → frames ≡ one_more (get_or c.reasons k no_frames).frames
      → with_reasons c (refill (length c.reasons) c.reasons
      (set ws k (record { reason = r; frames = frames })))
      ≡ with_reason c r
  add_met frames ws same inside is counted_is =
      let rs = c.reasons in
      let value : ReasonCount = record { reason = r; frames = frames } in
      let here : (get_or rs (place_of rs r) no_frames).reason ≡ r =
      subst (λ (i : ℕ). (get_or rs i no_frames).reason ≡ r) place is in
      let m = met no_frames r rs (omega (arith, place, inside)) here in
      let items : refill (length rs) rs (set ws k value) ≡ one_more_of rs r =
      refill_whole rs (set ws k value)
      (length-set ws k value ∙ ap (λ (l : List ReasonCount). length l) same)
      ∙ ap (λ (l : List ReasonCount). set l k value) same
      ∙ ap (λ (n : ℕ). let v : ReasonCount = record { reason = r; frames = n } in set rs k v)
      counted_is
      ∙ ap (λ (i : ℕ). again no_frames r rs i) place
      ∙ sym m.1 in
      ap (λ (l : List ReasonCount). with_reasons c l) items ∙ rw m.0 refl

  module _ (other : k < length c.reasons → (get_or c.reasons k no_frames).reason ≡ r → ⊥) where
    missing_here : (is_met c.reasons r ≡ false)
        × (one_more_of c.reasons r
        ≡ insert c.reasons (place_of c.reasons r) (record { reason = r; frames = 1 }))
    missing_here =
        missing no_frames r c.reasons
        (subst (λ (i : ℕ). i < length c.reasons → (get_or c.reasons i no_frames).reason ≡ r → ⊥)
        place other)

    pub add_new : (new : List ReasonCount) → length c.reasons < 64
        → new ≡ insert c.reasons k (record { reason = r; frames = 1 })
        → with_reasons c new ≡ with_reason c r
    add_new new room is =
        let m = missing_here in
        let v : ReasonCount = record { reason = r; frames = 1 } in
        ap (λ (l : List ReasonCount). with_reasons c l)
        (is ∙ ap (λ (i : ℕ). insert c.reasons i v) place ∙ sym m.1)
        ∙ rw (m.0, lt-ltb (length c.reasons) 64 room) refl

    pub add_other : (count : ℕ) → 64 ≤ length c.reasons → count ≡ one_more c.other_reasons
        → with_others c count ≡ with_reason c r
    add_other count full is =
        let m = missing_here in
        ap (λ (n : ℕ). with_others c n) is ∙ rw (m.0, le-ltb (length c.reasons) 64 full) refl
