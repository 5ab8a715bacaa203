-- Laws of look-ups of names: an `IndexMap` of labels and the list of them agree.
use Rattle.assembler.proofs.Common.{◌≡◌, ℕ, Bool, true, false, cond, List, [], ◌∷◌, ◌++◌, map, refl, ap, Option, Some, None, label_of}
use denote.Ref.{Bor}
use Rattle.std.specs.Map.{lookup}
use Rattle.std.specs.Str.{bytes_eq}
use Rattle.indexmap.specs.IndexMap.{insert_entry}

abbrev Labels : Type 0
Labels = List (Bor (List ℕ) × ℕ)

pub lookup_label : (name : List ℕ) (labels : Labels)
    → lookup (bytes_eq name) (map label_of labels) ≡ lookup (λ k. bytes_eq name k.now) labels
lookup_label name [] = refl
lookup_label name (l ∷ labels) =
    ap (λ found. cond (bytes_eq name l.0.now) (Some l.1) found) (lookup_label name labels)

abbrev same_name : Bor (List ℕ) → Bor (List ℕ) → Bool
same_name a b = bytes_eq a.now b.now

abbrev none : Option ℕ
none = None

found-none : (n : ℕ) → Some n ≡ none → ⊥
found-none n h = cc

behind : (there : Bool) (l : Bor (List ℕ) × ℕ) (labels : Labels) (name : Bor (List ℕ)) (slot : ℕ)
    → (lookup (bytes_eq name.now) (map label_of labels) ≡ None
    → map label_of (insert_entry same_name labels name slot)
    ≡ map label_of labels ++ (name.now, slot) ∷ [])
    → cond there (Some l.1) (lookup (bytes_eq name.now) (map label_of labels)) ≡ None
    → map label_of (cond there ((l.0, slot) ∷ labels) (l ∷ insert_entry same_name labels name slot))
    ≡ label_of l ∷ (map label_of labels ++ (name.now, slot) ∷ [])
behind true l labels name slot more h = absurd (found-none l.1 h)
behind false l labels name slot more h = ap (λ ls. label_of l ∷ ls) (more h)

-- a new name is the last one
pub insert_label : (labels : Labels) (name : Bor (List ℕ)) (slot : ℕ)
    → lookup (bytes_eq name.now) (map label_of labels) ≡ None
    → map label_of (insert_entry same_name labels name slot)
    ≡ map label_of labels ++ (name.now, slot) ∷ []
insert_label [] name slot h = refl
insert_label (l ∷ labels) name slot h =
    behind (bytes_eq name.now l.0.now) l labels name slot (insert_label labels name slot) h
