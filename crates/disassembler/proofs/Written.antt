-- Laws of texts that were written in part.
use Rattle.disassembler.proofs.Common.{◌≡◌, ℕ, suc, ◌<◌, List, ◌++◌, take, drop, length, get_or, Option, sym, ap, ◌∙◌, subst, drop-cons, flat_map, Appends, AppendsBeginning-first, AppendsBeginning-second}
use Rattle.std.proofs.lemmas.Grind.{flat_map-append}
use Rattle.std.proofs.lemmas.List.{take-append-drop}
use Rattle.exact_io.specs.Transfers.{AppendsBeginning}

-- texts, one after the other, in three parts at one of them
texts-split : {X : Type 0} (text : X → List ℕ) (xs : List X) (k : ℕ) (x d : X) → k < length xs
    → get_or xs k d ≡ x
    → flat_map text xs ≡ flat_map text (take k xs) ++ (text x ++ flat_map text (drop (suc k) xs))
texts-split text xs k x d lt e =
    ap (λ l. flat_map text l) (sym (take-append-drop k xs))
    ∙ flat_map-append text (take k xs) (drop k xs)
    ∙ ap (λ l. flat_map text (take k xs) ++ flat_map text l) (drop-cons xs k d lt)
    ∙ ap (λ y. flat_map text (take k xs) ++ (text y ++ flat_map text (drop (suc k) xs))) e

-- after the texts before it, a beginning of one was written
pub text_failed : {X : Type 0} (text : X → List ℕ) (old mid new : Option (List ℕ)) (xs : List X)
    (k : ℕ) (x d : X) → k < length xs → get_or xs k d ≡ x
    → Appends old mid (flat_map text (take k xs)) → AppendsBeginning mid new (text x)
    → AppendsBeginning old new (flat_map text xs)
text_failed text old mid new xs k x d lt e before part =
    let rest = flat_map text (drop (suc k) xs) in
    subst (λ (l : List ℕ). AppendsBeginning old new l) (sym (texts-split text xs k x d lt e))
    (AppendsBeginning-second old mid new (flat_map text (take k xs)) (text x ++ rest) before
    (AppendsBeginning-first mid new (text x) rest part))
