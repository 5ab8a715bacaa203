-- Texts of several lists, line by line; what a loop has found at its end; and the first stack slot
-- with a byte that is not written.
use Rattle.explanations.proofs.Common.{◌≡◌, ◌∙◌, ℕ, suc, ◌+◌, List, [], ◌∷◌, ◌++◌, ap, refl, sym, slot_at, marks_of, first_open}
use Rattle.std.proofs.lemmas.Bool.{eq-eqb}
use Rattle.std.proofs.lemmas.Grind.{flat_map-append}
use Rattle.std.proofs.lemmas.List.{append-nil, append_assoc}
use Rattle.std.specs.List.{flat_map}
use Rattle.stack_state.specs.declared.slots.StackSlot.{StackSlot}

-- ---- lines

pub flat_map_one : {X : Type 0} (f : X → List ℕ) (x : X) → flat_map f (x ∷ []) ≡ f x
flat_map_one f x = append-nil (f x)

-- the lines of four lists, one after another
pub flat_map_four : {X : Type 0} (f : X → List ℕ) (a b c d all : List X) → a ++ b ++ c ++ d ≡ all
    → flat_map f a ++ (flat_map f b ++ (flat_map f c ++ flat_map f d)) ≡ flat_map f all
flat_map_four f a b c d all is =
    let two = flat_map-append f a b in
    let three = flat_map-append f (a ++ b) c ∙ ap (λ (l : List ℕ). l ++ flat_map f c) two in
    let four = flat_map-append f ((a ++ b) ++ c) d ∙ ap (λ (l : List ℕ). l ++ flat_map f d) three in
    sym (append_assoc (flat_map f a) (flat_map f b) (flat_map f c ++ flat_map f d))
    ∙ (sym (append_assoc (flat_map f a ++ flat_map f b) (flat_map f c) (flat_map f d))
    ∙ (sym four ∙ ap (flat_map f) is))

-- ---- loops

-- what is so after n turns, the last of them the one with the number m
pub at_end : {A : Type 0} (f : ℕ → A) (x : A) (n m : ℕ) → n ≡ m → x ≡ f n → x ≡ f m
at_end f x n m last is = is ∙ ap f last

-- ---- stack slots

-- the first stack slot of some is not open, so it is one of the others
pub first_open-next : (slots : List StackSlot) (at n : ℕ) → marks_of (slot_at slots at) ≡ 255
    → first_open slots at (suc n) ≡ first_open slots (at + 1) n
first_open-next slots at n written = rw (eq-eqb (marks_of (slot_at slots at)) 255 written) refl
