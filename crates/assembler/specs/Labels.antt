-- The names that labels define, in the order of their definitions, and what functions return that
-- add a name or an instruction.
use Rattle.std.specs.Prelude.{◌≡◌, ◌⊎◌, ℕ, if◌then◌else◌, List, [], ◌∷◌, ◌++◌, is_some, Option, Result, Ok, Err}
use denote.Ref.{Bor}
use Rattle.std.specs.Map.{lookup}
use Rattle.std.specs.Str.{bytes_eq}
use Rattle.assembler.specs.declared.errors.AsmErrorKind.{AsmErrorKind}
use Rattle.assembler.specs.declared.errors.AsmErrorKind.TheVariants.{DefinedTwice, Memory}

-- the bytes of a label's name, and its slot
abbrev pub label_of : Bor (List ℕ) × ℕ → List ℕ × ℕ
label_of label = (label.0.now, label.1)

-- the slot of a name
abbrev pub slot_in : List (List ℕ × ℕ) → List ℕ → Option ℕ
slot_in labels name = lookup (bytes_eq name) labels

-- one more name, which was not defined before; the others stay
abbrev pub with_label : List (List ℕ × ℕ) → List ℕ → ℕ → Result (List (List ℕ × ℕ)) AsmErrorKind
with_label labels name slot =
    if is_some (slot_in labels name) then Err DefinedTwice else Ok (labels ++ (name, slot) ∷ [])

-- a function makes what is wanted, as `view` shows it, or refuses as is wanted, or memory runs out
abbrev pub Makes : {A B : Type 0} → (A → B) → Result A AsmErrorKind → Result B AsmErrorKind → Type 0
Makes view (Ok x) wanted = wanted ≡ Ok (view x)
Makes view (Err kind) wanted = (kind ≡ Memory) ⊎ (wanted ≡ Err kind)
