-- What a file is by its first bytes.
use Rattle.commands.proofs.Common.{◌≡◌, ◌∙◌, ℕ, ◌≤◌, List, ◌++◌, Option, Some, None, arith, sym, ap, subst, inr, length, length-append, IfSome, take, min, Consumes, IsAtEnd, FileForm}
use Rattle.std.proofs.lemmas.List.{append-nil, take-append-le}
use Rattle.messages.specs.Forms.{file_form_by, front_of, file_form_of, IsFileFormOf}

front_more : (front more : List ℕ) → length front ≡ 4 → front_of (front ++ more) ≡ front_of front
front_more front more e =
    let first : min (length (front ++ more)) 4 ≡ min (length front) 4 =
    omega (arith, e, length-append front more) in
    let fits : min (length front) 4 ≤ length front = omega arith in
    ap (λ n. take n (front ++ more)) first ∙ take-append-le (min (length front) 4) front more fits

file_form_more : (front more : List ℕ) → length front ≡ 4
    → file_form_of (front ++ more) ≡ file_form_of front
unfolding file_form_of
file_form_more front more e = ap file_form_by (front_more front more e)

-- four bytes of a source were read
whole : (old new : Option (List ℕ)) (front : List ℕ) → length front ≡ 4 → Consumes old new front
    → IfSome old (λ bytes. IsFileFormOf bytes (file_form_of front))
whole None new front e h = tt
whole (Some xs) None front e h = absurd h
whole (Some xs) (Some ys) front e h = inr (sym (ap file_form_of h ∙ file_form_more front ys e))

pub file_form_whole : (old new : Option (List ℕ)) (front read : List ℕ) (form : FileForm)
    → form ≡ file_form_of front → front ≡ read → length read ≡ 4 → Consumes old new read
    → IfSome old (λ bytes. IsFileFormOf bytes form)
file_form_whole old new front read form is same e h =
    subst (λ (f : FileForm). IfSome old (λ bytes. IsFileFormOf bytes f))
    (sym (is ∙ ap file_form_of same)) (whole old new read e h)

-- fewer bytes were read, and there are no more
ended : (old new : Option (List ℕ)) (front : List ℕ) → Consumes old new front → IsAtEnd new
    → IfSome old (λ bytes. IsFileFormOf bytes (file_form_of front))
ended None new front h end = tt
ended (Some xs) None front h end = absurd h
ended (Some xs) (Some ys) front h end =
    inr (sym (ap file_form_of (h ∙ (ap (λ (l : List ℕ). front ++ l) end ∙ append-nil front))))
