-- The last jumps of a walk, one step at a time.
use Rattle.walks.proofs.Common.{◌≡◌, ◌≢◌, ◌∙◌, ℕ, zero, suc, ◌+◌, ◌-◌, ◌<◌, ◌≤◌, [], ◌∷◌, ◌++◌, List, length, drop, Some, if◌then◌else◌, Bool, ◌⊎◌, inl, inr, arith, refl, sym, ap, subst, ne_eqb, eq-eqb, append-nil, length-append, length-drop, drop-append-le, drop-drop, Insn, Program, fetch, slots_filled, State, start, Precision, Forgets, StepsTo}
use Rattle.walks.specs.declared.explained.Jump.{Jump}
use Rattle.walks.specs.declared.explained.TheConstants.{MOST_JUMPS}
use Rattle.walks.specs.Explained.{jump_of, IsStart, OneMore, last, IsLed}

-- no jump leads to a state with which a walk begins
pub led_start : {how : Precision} (p : Program) (s : State) (way : List Jump)
    → Forgets how p start s → way ≡ []
    → IsLed how p s way
unfolding last
led_start p s way at none = record { jumps = []; comes = IsStart s [] at refl; last_are = none }

-- ---- one more jump

more : (n : ℕ) (jumps : List Jump) (j : Jump) → length jumps < n
    → last n (jumps ++ j ∷ []) ≡ last n jumps ++ j ∷ []
unfolding last
more n jumps j h =
    let all : length jumps - n ≡ 0 = omega (arith, h) in
    let both : length (jumps ++ j ∷ []) - n ≡ 0 = omega (arith, h, length-append jumps (j ∷ [])) in
    ap (λ k. drop k (jumps ++ j ∷ [])) both ∙ ap (λ k. drop k jumps ++ j ∷ []) (sym all)

slides : (n : ℕ) (jumps : List Jump) (j : Jump) → n ≤ length jumps → 0 < n
    → last n (jumps ++ j ∷ []) ≡ drop 1 (last n jumps) ++ j ∷ []
unfolding last
slides n jumps j h some =
    let k = length jumps - n in
    let one : length (jumps ++ j ∷ []) - n ≡ k + 1 =
    omega (arith, h, length-append jumps (j ∷ [])) in
    ap (λ i. drop i (jumps ++ j ∷ [])) one
    ∙ (drop-append-le (k + 1) jumps (j ∷ []) (omega (arith, h, some))
    ∙ ap (λ (xs : List Jump). xs ++ j ∷ []) (sym (drop-drop 1 k jumps)))

length-last : (n : ℕ) (jumps : List Jump)
    → length (last n jumps) ≡ length jumps - (length jumps - n)
unfolding last
length-last n jumps = length-drop (length jumps - n) jumps

few_or_many : (n k : ℕ) → (k < n) ⊎ (n ≤ k)
few_or_many zero k = inr (omega arith)
few_or_many (suc n) zero = inl (omega arith)
few_or_many (suc n) (suc k) =
    elim (few_or_many n k)
    [ inl few ↦ inl (omega (arith, few)) | inr many ↦ inr (omega (arith, many)) ]

noted : (jumps way new : List Jump) (j : Jump) → way ≡ last MOST_JUMPS jumps
    → (length way < MOST_JUMPS → new ≡ way ++ j ∷ [])
    → (length way ≡ MOST_JUMPS → new ≡ drop 1 way ++ j ∷ [])
    → new ≡ last MOST_JUMPS (jumps ++ j ∷ [])
noted jumps way new j is room full =
    let long : length way ≡ length jumps - (length jumps - MOST_JUMPS) =
    ap (λ (xs : List Jump). length xs) is ∙ length-last MOST_JUMPS jumps in
    elim (few_or_many MOST_JUMPS (length jumps)) [
      | inl few ↦
          room (omega (arith, long, few))
          ∙ (ap (λ (xs : List Jump). xs ++ j ∷ []) is ∙ sym (more MOST_JUMPS jumps j few))
      | inr many ↦
          full (omega (arith, long, many))
          ∙ (ap (λ (xs : List Jump). drop 1 xs ++ j ∷ []) is
          ∙ sym (slides MOST_JUMPS jumps j many (omega arith)))
    ]

-- ---- one more step

by_jump : {how : Precision} (p : Program) (a s : State) (i : Insn) (way new : List Jump)
    → fetch p a.slot ≡ Some i
    → StepsTo how p a s → s.slot ≢ a.slot + slots_filled i
    → (length way < MOST_JUMPS → new ≡ way ++ record { from = a.slot; to = s.slot } ∷ [])
    → (length way ≡ MOST_JUMPS → new ≡ drop 1 way ++ record { from = a.slot; to = s.slot } ∷ [])
    → IsLed how p a way → IsLed how p s new
by_jump p a s i way new here step away room full h =
    let j : Jump = record { from = a.slot; to = s.slot } in
    let is : j ∷ [] ≡ jump_of a i s =
    ap (λ (b : Bool). if b then [] else j ∷ [])
    (sym (ne_eqb s.slot (a.slot + slots_filled i) away)) in
    record {
      jumps = h.jumps ++ j ∷ [];
      comes =
          OneMore a s i h.jumps (h.jumps ++ j ∷ []) h.comes here step
          (ap (λ (xs : List Jump). h.jumps ++ xs) is);
      last_are = noted h.jumps way new j h.last_are room full;
    }

by_next : {how : Precision} (p : Program) (a s : State) (i : Insn) (way : List Jump)
    → fetch p a.slot ≡ Some i
    → StepsTo how p a s → s.slot ≡ a.slot + slots_filled i → IsLed how p a way → IsLed how p s way
by_next p a s i way here step next h =
    let j : Jump = record { from = a.slot; to = s.slot } in
    let none : h.jumps ++ jump_of a i s ≡ h.jumps =
    ap (λ (b : Bool). h.jumps ++ (if b then [] else j ∷ []))
    (eq-eqb s.slot (a.slot + slots_filled i) next) ∙ append-nil h.jumps in
    record {
      jumps = h.jumps;
      comes = OneMore a s i h.jumps h.jumps h.comes here step (sym none);
      last_are = h.last_are;
    }

-- the same, where the slots are `from` and `to`

pub led_by_jump : {how : Precision} (p : Program) (a s : State) (i : Insn) (from to : ℕ)
    (way new : List Jump)
    → fetch p from ≡ Some i → to ≢ from + slots_filled i
    → (length way < MOST_JUMPS → new ≡ way ++ record { from = from; to = to } ∷ [])
    → (length way ≡ MOST_JUMPS → new ≡ drop 1 way ++ record { from = from; to = to } ∷ [])
    → a.slot ≡ from → s.slot ≡ to → StepsTo how p a s → IsLed how p a way → IsLed how p s new
led_by_jump p a s i from to way new here away room full at_from at_to step h =
    let j : Jump = record { from = from; to = to } in
    let k : Jump = record { from = a.slot; to = s.slot } in
    let same : j ≡ k =
    ap (λ (x : ℕ). record { from = x; to = to }) (sym at_from)
    ∙ ap (λ (y : ℕ). record { from = a.slot; to = y }) (sym at_to) in
    by_jump p a s i way new (subst (λ x. fetch p x ≡ Some i) (sym at_from) here) step
    (λ e. away (sym at_to ∙ (e ∙ ap (λ x. x + slots_filled i) at_from)))
    (λ few. room few ∙ ap (λ (x : Jump). way ++ x ∷ []) same)
    (λ many. full many ∙ ap (λ (x : Jump). drop 1 way ++ x ∷ []) same) h

pub led_by_next : {how : Precision} (p : Program) (a s : State) (i : Insn) (from to : ℕ)
    (way : List Jump)
    → fetch p from ≡ Some i → to ≡ from + slots_filled i
    → a.slot ≡ from → s.slot ≡ to → StepsTo how p a s → IsLed how p a way → IsLed how p s way
led_by_next p a s i from to way here next at_from at_to step h =
    by_next p a s i way (subst (λ x. fetch p x ≡ Some i) (sym at_from) here) step
    (at_to ∙ (next ∙ ap (λ x. x + slots_filled i) (sym at_from))) h
