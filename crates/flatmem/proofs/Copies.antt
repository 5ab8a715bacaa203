-- A law of copying byte by byte: one byte more is written.
use Rattle.std.proofs.Common.{◌≡◌, ℕ, ◌+◌, ◌≤◌, ◌<◌, List, [], ◌∷◌, ◌++◌, length, take, drop, get_or, sym, ap, ◌∙◌, append_assoc, arith}
use Rattle.std.proofs.lemmas.List.{take_at, drop_at, drop-drop, length-append, length-take, take_more}
use Rattle.flatmem.specs.Bytes.{with_bytes}

pub copied_more : (t f : List ℕ) (a i : ℕ) → a + length f ≤ length t → i < length f
    → with_bytes (with_bytes t a (take i f)) (a + i) (get_or f i 0 ∷ [])
    ≡ with_bytes t a (take (i + 1) f)
copied_more t f a i h l =
    let y : ℕ = get_or f i 0 in
    let P : List ℕ = take a t in
    let W : List ℕ = take i f in
    let D : List ℕ = drop (a + length W) t in
    let lP : length P ≡ a = let e = length-take a t in omega arith in
    let lW : length W ≡ i = let e = length-take i f in omega arith in
    let lPW : length (P ++ W) ≡ a + i = let e = length-append P W in omega arith in
    let X : List ℕ = P ++ (W ++ D) in
    let ex : X ≡ (P ++ W) ++ D = sym (append_assoc P W D) in
    let t1 : take (a + i) X ≡ P ++ W = ap (take (a + i)) ex ∙ take_at (P ++ W) D (a + i) lPW in
    let d0 : drop (a + i) X ≡ drop (a + i) t = ap (drop (a + i)) ex ∙ drop_at (P ++ W) D (a + i) lPW
    ∙ ap (λ (k : ℕ). drop (a + k) t) lW in
    let d1 : drop (a + i + 1) X ≡ drop (a + i + 1) t = sym (drop-drop 1 (a + i) X) ∙ ap (drop 1) d0
    ∙ drop-drop 1 (a + i) t in
    let m : take (i + 1) f ≡ W ++ (y ∷ []) = take_more f i 0 l in
    let lm : a + length (take (i + 1) f) ≡ a + i + 1 =
    let e = length-take (i + 1) f in omega arith in
    ap (λ (u : List ℕ). u ++ (y ∷ drop (a + i + 1) X)) t1
    ∙ ap (λ (u : List ℕ). (P ++ W) ++ (y ∷ u)) d1
    ∙ append_assoc P W (y ∷ drop (a + i + 1) t)
    ∙ ap (λ (u : List ℕ). P ++ u) (sym (append_assoc W (y ∷ [])
    (drop (a + i + 1) t)))
    ∙ ap (λ (u : List ℕ). P ++ (u ++ drop (a + i + 1) t)) (sym m)
    ∙ ap (λ (k : ℕ). P ++ (take (i + 1) f ++ drop k t)) (sym lm)
