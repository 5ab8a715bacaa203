-- Laws of contents whose values are changed: the keys, their order and their number stay.
use Rattle.std.proofs.Common.{◌≡◌, ℕ, List, [], ◌∷◌, map, length, Some, Bool, true, false, cond, refl, ap, arith}
use Rattle.std.specs.Prelude.{◌&&◌}
use Rattle.std.specs.Option.{option_map}
use Rattle.std.specs.Ordering.{is_lt}
use Rattle.std.specs.FinMap.Entries.{find, is_sorted, below_all}
use Rattle.isa_model.specs.Machine.MapContents.{key_order, is_key}

-- ---- keys that stay, and values that change

module _ {X Y : Type 0} (f : X → Y) where
  abbrev pub changed : List (List ℕ × X) → List (List ℕ × Y)
  changed es = map (λ e. (e.0, f e.1)) es

  pub find-changed : (q : List ℕ) (es : List (List ℕ × X))
      → find key_order q (changed es) ≡ option_map f (find key_order q es)
  find-changed q [] = refl
  find-changed q (e ∷ es) =
      elim (is_key q e.0) as (λ b. cond b (Some (f e.1)) (find key_order q (changed es))
      ≡ option_map f (cond b (Some e.1) (find key_order q es))) [
        | true ↦ refl
        | false ↦ find-changed q es
      ]

  below_all-changed : (k : List ℕ) (es : List (List ℕ × X))
      → below_all key_order k (changed es) ≡ below_all key_order k es
  below_all-changed k [] = refl
  below_all-changed k (e ∷ es) =
      ap (λ (b : Bool). is_lt (key_order k e.0) && b) (below_all-changed k es)

  pub is_sorted-changed : (es : List (List ℕ × X))
      → is_sorted key_order (changed es) ≡ is_sorted key_order es
  is_sorted-changed [] = refl
  is_sorted-changed (e ∷ es) = λ i. below_all-changed e.0 es i && is_sorted-changed es i

  pub length-changed : (es : List (List ℕ × X)) → length (changed es) ≡ length es
  length-changed [] = refl
  length-changed (e ∷ es) = let h = length-changed es in omega arith
