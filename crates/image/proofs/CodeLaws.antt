-- Laws of lists of instructions, and of their slots.
use Rattle.image.proofs.Common.{◌≡◌, ◌≢◌, ◌+◌, Bool, true, false, List, [], ◌∷◌, ◌++◌, length, Option, Some, None, refl, ap, ◌∙◌, arith, length-append, Insn, LoadNumber, LoadMap, LoadMapValue, slots, slots_filled, InsnFits, IsCode, is_wide}
use Rattle.isa_model.specs.Text.CanonicalText.{instructions}

abbrev CodeSlots : Type 0
CodeSlots = List (Option Insn)

-- the numbers in instructions are of their types
abbrev pub AllFit : List Insn → Type 0
AllFit [] = Unit {0}
AllFit (i ∷ is) = InsnFits i × AllFit is

pub slots-append : (is js : List Insn) → slots (is ++ js) ≡ slots is ++ slots js
slots-append [] js = refl
slots-append (LoadNumber d n ∷ is) js =
    ap (λ (l : CodeSlots). Some (LoadNumber d n) ∷ None ∷ l) (slots-append is js)
slots-append (LoadMap d m ∷ is) js =
    ap (λ (l : CodeSlots). Some (LoadMap d m) ∷ None ∷ l) (slots-append is js)
slots-append (LoadMapValue d m o ∷ is) js =
    ap (λ (l : CodeSlots). Some (LoadMapValue d m o) ∷ None ∷ l) (slots-append is js)
slots-append (i ∷ is) js = ap (λ (l : CodeSlots). Some i ∷ l) (slots-append is js)

-- an instruction of two slots
pub slots-two : (i : Insn) → slots_filled i ≡ 2 → slots (i ∷ []) ≡ Some i ∷ None ∷ []
slots-two (LoadNumber d n) h = refl
slots-two (LoadMap d m) h = refl
slots-two (LoadMapValue d m o) h = refl
slots-two i h = absurd (omega arith)

-- and of one
pub slots-one : (i : Insn) → slots_filled i ≢ 2 → slots (i ∷ []) ≡ Some i ∷ []
slots-one (LoadNumber d n) h = absurd (h refl)
slots-one (LoadMap d m) h = absurd (h refl)
slots-one (LoadMapValue d m o) h = absurd (h refl)
slots-one i h = refl

pub length-slots : (i : Insn) → length (slots (i ∷ [])) ≡ slots_filled i
length-slots (LoadNumber d n) = refl
length-slots (LoadMap d m) = refl
length-slots (LoadMapValue d m o) = refl
length-slots i = refl

-- one more instruction adds its slots
pub length-slots-more : (is : List Insn) (i : Insn)
    → length (slots (is ++ i ∷ [])) ≡ length (slots is) + slots_filled i
length-slots-more is i = ap (λ (l : CodeSlots). length l) (slots-append is (i ∷ []))
    ∙ length-append (slots is) (slots (i ∷ [])) ∙ ap (λ n. length (slots is) + n) (length-slots i)

pub IsCode-one : (i : Insn) → InsnFits i → IsCode false (slots (i ∷ []))
IsCode-one (LoadNumber d n) h = (h, refl)
IsCode-one (LoadMap d m) h = (h, refl)
IsCode-one (LoadMapValue d m o) h = (h, refl)
IsCode-one i h = (h, refl)

pub IsCode-append : (xs ys : List (Option Insn)) (half : Bool) → IsCode half xs → IsCode false ys
    → IsCode half (xs ++ ys)
IsCode-append [] ys true h k = absurd cc
IsCode-append [] ys false h k = k
IsCode-append (None ∷ xs) ys true h k = IsCode-append xs ys false h k
IsCode-append (Some i ∷ xs) ys true h k = absurd h
IsCode-append (None ∷ xs) ys false h k = absurd h
IsCode-append (Some i ∷ xs) ys false h k = (h.0, IsCode-append xs ys (is_wide i) h.1 k)

-- where a second half comes first
abbrev halves : Bool → List Insn → CodeSlots
halves true is = None ∷ slots is
halves false is = slots is

front : (i : Insn) (is : List Insn) → slots (i ∷ is) ≡ Some i ∷ halves (is_wide i) is
front (LoadNumber d n) is = refl
front (LoadMap d m) is = refl
front (LoadMapValue d m o) is = refl
front i is = refl

halves-instructions : (xs : List (Option Insn)) (half : Bool) → IsCode half xs
    → halves half (instructions xs) ≡ xs
halves-instructions [] true h = absurd cc
halves-instructions [] false h = refl
halves-instructions (None ∷ xs) true h =
    ap (λ (l : CodeSlots). None ∷ l) (halves-instructions xs false h)
halves-instructions (Some i ∷ xs) true h = absurd h
halves-instructions (None ∷ xs) false h = absurd h
halves-instructions (Some i ∷ xs) false h =
    front i (instructions xs)
    ∙ ap (λ (l : CodeSlots). Some i ∷ l) (halves-instructions xs (is_wide i) h.1)

-- the slots of an image's instructions are its slots
pub slots-instructions : (xs : List (Option Insn)) → IsCode false xs → slots (instructions xs) ≡ xs
slots-instructions xs h = halves-instructions xs false h

-- the numbers in code are of their types
pub AllFit-instructions : (xs : List (Option Insn)) (half : Bool) → IsCode half xs
    → AllFit (instructions xs)
AllFit-instructions [] half h = tt
AllFit-instructions (None ∷ xs) true h = AllFit-instructions xs false h
AllFit-instructions (Some i ∷ xs) true h = absurd h
AllFit-instructions (None ∷ xs) false h = absurd h
AllFit-instructions (Some i ∷ xs) false h = (h.0, AllFit-instructions xs (is_wide i) h.1)
