use Rattle.map_indexes.proofs.Common.{◌≡◌, ℕ, zero, suc, List, ◌∷◌, map, Option, None, refl, ap, ◌∙◌, replicate, number_of}
use Rattle.map_indexes.proofs.numbers.OptionalNumbers.new.Goals as goal

none : (n : ℕ) → map number_of (replicate n 0) ≡ replicate n None
none zero = refl
none (suc n) = ap (λ (l : List (Option ℕ)). None ∷ l) (none n)

pub returns : goal.returns
returns c =
    let zeros : c.in_ok-codes.codes.items ≡ replicate c.args.count 0 = ap
    (λ v. v.items) c.in_ok-codes.ensures.same ∙ c.in_ok-zeros.ensures.items_if_clones_equal
    (λ y e. e) in
    ap (map number_of) zeros ∙ none c.args.count
