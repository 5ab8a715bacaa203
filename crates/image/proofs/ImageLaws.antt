-- What holds of each slot of an image's program.
use Rattle.image.proofs.Common.{◌≡◌, ℕ, zero, suc, ◌+◌, ◌<◌, Bool, true, false, List, [], ◌∷◌, length, Option, Some, None, refl, ap, ◌∙◌, subst, inl, inr, arith, slice_get, ◌⊎◌, option_flatten, MapDef, Insn, LoadNumber, LoadMap, LoadMapValue, Program, fetch, slots_filled, NamesRows, InsnFits, IsCode, is_wide, NamesMaps, IsImage}

-- ---- code, slot by slot

-- the instruction that begins at a slot of code
abbrev insn_in : List (Option Insn) → ℕ → Option Insn
insn_in xs k = option_flatten (slice_get xs k)

same_insn : (i j : Insn) → Some i ≡ Some j → i ≡ j
same_insn i j e = cc

InsnFits-insn_in : (xs : List (Option Insn)) (half : Bool) (k : ℕ) (i : Insn) → IsCode half xs
    → insn_in xs k ≡ Some i → InsnFits i
InsnFits-insn_in [] half k i h e = absurd cc
InsnFits-insn_in (None ∷ xs) true zero i h e = absurd cc
InsnFits-insn_in (None ∷ xs) true (suc k) i h e = InsnFits-insn_in xs false k i h e
InsnFits-insn_in (Some j ∷ xs) true k i h e = absurd h
InsnFits-insn_in (None ∷ xs) false k i h e = absurd h
InsnFits-insn_in (Some j ∷ xs) false zero i h e = subst InsnFits (same_insn j i e) h.0
InsnFits-insn_in (Some j ∷ xs) false (suc k) i h e = InsnFits-insn_in xs (is_wide j) k i h.1 e

NamesRows-insn_in : (rows : List MapDef) (xs : List (Option Insn)) (k : ℕ) (i : Insn)
    → NamesMaps rows xs → insn_in xs k ≡ Some i → NamesRows rows i
NamesRows-insn_in rows [] k i h e = absurd cc
NamesRows-insn_in rows (None ∷ xs) zero i h e = absurd cc
NamesRows-insn_in rows (None ∷ xs) (suc k) i h e = NamesRows-insn_in rows xs k i h e
NamesRows-insn_in rows (Some j ∷ xs) zero i h e = subst (NamesRows rows) (same_insn j i e) h.0
NamesRows-insn_in rows (Some j ∷ xs) (suc k) i h e = NamesRows-insn_in rows xs k i h.1 e

-- code ends there, or an instruction begins there
abbrev EndsOrBegins : List (Option Insn) → ℕ → Type 0
EndsOrBegins xs n = (n ≡ length xs) ⊎ ((j : Insn) × (insn_in xs n ≡ Some j))

one_on : (x : Option Insn) (xs : List (Option Insn)) (m n : ℕ) → n ≡ suc m → EndsOrBegins xs m
    → EndsOrBegins (x ∷ xs) n
one_on x xs m n e (inl h) = inl (e ∙ ap suc h)
one_on x xs m n e (inr (j, h)) = inr (j, ap (insn_in (x ∷ xs)) e ∙ h)

at_front : (xs : List (Option Insn)) → IsCode false xs → EndsOrBegins xs 0
at_front [] h = inl refl
at_front (None ∷ xs) h = absurd h
at_front (Some j ∷ xs) h = inr (j, refl)

behind_two : (i : Insn) (xs : List (Option Insn)) → IsCode true xs → EndsOrBegins (Some i ∷ xs) 2
behind_two i [] h = absurd cc
behind_two i (None ∷ xs) h =
    one_on (Some i) (None ∷ xs) 1 2 refl (one_on None xs 0 1 refl (at_front xs h))
behind_two i (Some j ∷ xs) h = absurd h

behind_first : (i : Insn) (xs : List (Option Insn)) → IsCode (is_wide i) xs
    → EndsOrBegins (Some i ∷ xs) (slots_filled i)
behind_first (LoadNumber d n) xs h = behind_two (LoadNumber d n) xs h
behind_first (LoadMap d m) xs h = behind_two (LoadMap d m) xs h
behind_first (LoadMapValue d m o) xs h = behind_two (LoadMapValue d m o) xs h
behind_first i xs h = one_on (Some i) xs 0 1 refl (at_front xs h)

behind : (xs : List (Option Insn)) (half : Bool) (k : ℕ) (i : Insn) → IsCode half xs
    → insn_in xs k ≡ Some i → EndsOrBegins xs (k + slots_filled i)
behind [] half k i h e = absurd cc
behind (None ∷ xs) true zero i h e = absurd cc
behind (None ∷ xs) true (suc k) i h e = one_on None xs (k + slots_filled i) (suc k + slots_filled i)
    (omega arith) (behind xs false k i h e)
behind (Some j ∷ xs) true k i h e = absurd h
behind (None ∷ xs) false k i h e = absurd h
behind (Some j ∷ xs) false zero i h e =
    let n : slots_filled j ≡ 0 + slots_filled i = ap slots_filled (same_insn j i e) ∙ omega arith in
    subst (EndsOrBegins (Some j ∷ xs)) n (behind_first j xs h.1)
behind (Some j ∷ xs) false (suc k) i h e = one_on (Some j) xs (k + slots_filled i)
    (suc k + slots_filled i) (omega arith) (behind xs (is_wide j) k i h.1 e)

-- a slot of code at which no instruction begins
abbrev IsSecond : List (Option Insn) → ℕ → Type 0
IsSecond xs n = (n < length xs) × (insn_in xs n ≡ None)

one_further : (x : Option Insn) (xs : List (Option Insn)) (m n : ℕ) → n ≡ suc m → IsSecond xs m
    → IsSecond (x ∷ xs) n
one_further x xs m n e h = (omega (arith, h.0), ap (insn_in (x ∷ xs)) e ∙ h.1)

second_half : (i : Insn) (xs : List (Option Insn)) → IsCode true xs → IsSecond (Some i ∷ xs) 1
second_half i [] h = absurd cc
second_half i (None ∷ xs) h = (omega arith, refl)
second_half i (Some j ∷ xs) h = absurd h

second_of_first : (i : Insn) (xs : List (Option Insn)) → IsCode (is_wide i) xs → slots_filled i ≡ 2
    → IsSecond (Some i ∷ xs) 1
second_of_first (LoadNumber d n) xs h w = second_half (LoadNumber d n) xs h
second_of_first (LoadMap d m) xs h w = second_half (LoadMap d m) xs h
second_of_first (LoadMapValue d m o) xs h w = second_half (LoadMapValue d m o) xs h
second_of_first i xs h w = absurd (omega arith)

second_of : (xs : List (Option Insn)) (half : Bool) (k : ℕ) (i : Insn) → IsCode half xs
    → insn_in xs k ≡ Some i → slots_filled i ≡ 2 → IsSecond xs (k + 1)
second_of [] half k i h e w = absurd cc
second_of (None ∷ xs) true zero i h e w = absurd cc
second_of (None ∷ xs) true (suc k) i h e w =
    one_further None xs (k + 1) (suc k + 1) (omega arith) (second_of xs false k i h e w)
second_of (Some j ∷ xs) true k i h e w = absurd h
second_of (None ∷ xs) false k i h e w = absurd h
second_of (Some j ∷ xs) false zero i h e w =
    second_of_first j xs h.1 (ap slots_filled (same_insn j i e) ∙ w)
second_of (Some j ∷ xs) false (suc k) i h e w =
    one_further (Some j) xs (k + 1) (suc k + 1) (omega arith) (second_of xs (is_wide j) k i h.1 e w)

-- ---- images

-- the numbers in an instruction are of their types
pub InsnFits-fetch : (p : Program) (s : ℕ) (i : Insn) → IsImage p → fetch p s ≡ Some i → InsnFits i
InsnFits-fetch p s i h e = InsnFits-insn_in p.insns false s i h.code e

-- the map that an instruction names is there
pub NamesRows-fetch : (p : Program) (s : ℕ) (i : Insn) → IsImage p → fetch p s ≡ Some i
    → NamesRows p.maps i
NamesRows-fetch p s i h e = NamesRows-insn_in p.maps p.insns s i h.named e

-- an instruction begins at slot 0
pub fetch-zero : (p : Program) → IsImage p → (i : Insn) × (fetch p 0 ≡ Some i)
fetch-zero p h = elim (at_front p.insns h.code)
    [ inl e ↦ absurd (omega (arith, h.some_slots, e)) | inr f ↦ f ]

-- after an instruction the code ends or another one begins
pub fetch-next : (p : Program) (s : ℕ) (i : Insn) → IsImage p → fetch p s ≡ Some i
    → (s + slots_filled i ≡ length p.insns) ⊎ ((j : Insn) × (fetch p (s + slots_filled i) ≡ Some j))
fetch-next p s i h e = behind p.insns false s i h.code e

-- an instruction of two slots has its second half
pub fetch-second : (p : Program) (s : ℕ) (i : Insn) → IsImage p → fetch p s ≡ Some i
    → slots_filled i ≡ 2 → (s + 1 < length p.insns) × (fetch p (s + 1) ≡ None)
fetch-second p s i h e w = second_of p.insns false s i h.code e w
