-- The first place of two lists of kinds, or of call frames, that passes a test.
use Rattle.state_cover.proofs.Common.{◌≡◌, ◌∙◌, ℕ, ◌+◌, ◌<◌, suc, List, [], ◌∷◌, ◌++◌, append_assoc, Bool, Option, Some, None, length, get_or, drop, drop-cons, add-one, sym, ap, refl, arith, find, find-append, Kind, AbstractFrame, frame_places, places}
use Rattle.std.specs.Option.{option_or}

-- one frame more
pub find-places : (p : Kind × Kind → Bool) (fs gs : List AbstractFrame) (n : ℕ)
    (f g : AbstractFrame)
    → n < length fs → n < length gs → f ≡ get_or fs n f → g ≡ get_or gs n g
    → find p (places (drop n fs) (drop n gs))
    ≡ option_or (find p (frame_places f g)) (find p (places (drop (n + 1) fs) (drop (n + 1) gs)))
find-places p fs gs n f g in_fs in_gs at_f at_g =
    rw (add-one, drop-cons fs n f, drop-cons gs n g, ← at_f, ← at_g)
    (find-append p (frame_places f g) (places (drop (suc n) fs) (drop (suc n) gs)))

-- one frame more, after the others
places-push : (fs gs : List AbstractFrame) (f g : AbstractFrame) → length fs ≡ length gs
    → places (fs ++ f ∷ []) (gs ++ g ∷ []) ≡ places fs gs ++ (frame_places f g ++ [])
places-push [] [] f g same = refl
places-push [] (y ∷ gs) f g same = absurd (omega arith)
places-push (x ∷ fs) [] f g same = absurd (omega arith)
places-push (x ∷ fs) (y ∷ gs) f g same =
    let rest : length fs ≡ length gs = omega arith in
    ap (λ ps. frame_places x y ++ ps) (places-push fs gs f g rest)
    ∙ sym (append_assoc (frame_places x y) (places fs gs) (frame_places f g ++ []))

option_or-none : (o : Option (Kind × Kind)) → option_or o None ≡ o
option_or-none None = refl
option_or-none (Some place) = refl

pub find-places_push : (p : Kind × Kind → Bool) (fs gs : List AbstractFrame) (f g : AbstractFrame)
    → length fs ≡ length gs → find p (places (fs ++ f ∷ []) (gs ++ g ∷ []))
    ≡ option_or (find p (places fs gs)) (find p (frame_places f g))
find-places_push p fs gs f g same =
    ap (find p) (places-push fs gs f g same)
    ∙ find-append p (places fs gs) (frame_places f g ++ [])
    ∙ ap (option_or (find p (places fs gs)))
    (find-append p (frame_places f g) [] ∙ option_or-none (find p (frame_places f g)))
