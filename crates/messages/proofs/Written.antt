-- Texts that were written one after another, until one failed.
use Rattle.messages.proofs.Common.{◌≡◌, ℕ, List, ◌++◌, Option, Result, Ok, Err, subst, OnOk, OnErr, Appends, AppendsBeginning, AppendsBeginning-first, AppendsBeginning-second}
use Rattle.std.proofs.KnownBytes.{Appends-trans}

-- a fact that follows from one on an error, holds on an error
pub on_err_too : {X E : Type 0} (P Q : Type 0) (r : Result X E) → (P → Q) → OnErr r P → OnErr r Q
on_err_too P Q (Ok x) f h = tt
on_err_too P Q (Err e) f h = f h

-- the first of two texts failed
pub first_failed : (old new : Option (List ℕ)) (first rest bytes : List ℕ) → bytes ≡ first
    → AppendsBeginning old new bytes → AppendsBeginning old new (first ++ rest)
first_failed old new first rest bytes e p =
    AppendsBeginning-first old new first rest (subst (AppendsBeginning old new) e p)

-- the second of two texts failed
pub second_failed : (old mid new : Option (List ℕ)) (first rest bytes : List ℕ) → bytes ≡ first
    → Appends old mid bytes → AppendsBeginning mid new rest
    → AppendsBeginning old new (first ++ rest)
second_failed old mid new first rest bytes e p q =
    AppendsBeginning-second old mid new first rest (subst (Appends old mid) e p) q

-- a text that is equal to another, whether it was written or not
pub ok_text : {X E : Type 0} (r : Result X E) (old new : Option (List ℕ)) (bytes text : List ℕ)
    → bytes ≡ text → OnOk r (Appends old new bytes) → OnOk r (Appends old new text)
ok_text r old new bytes text e h = subst (λ (l : List ℕ). OnOk r (Appends old new l)) e h

pub err_text : {X E : Type 0} (r : Result X E) (old new : Option (List ℕ)) (bytes text : List ℕ)
    → bytes ≡ text → OnErr r (AppendsBeginning old new bytes)
    → OnErr r (AppendsBeginning old new text)
err_text r old new bytes text e h = subst (λ (l : List ℕ). OnErr r (AppendsBeginning old new l)) e h

-- the same for a text after one that was written
pub ok_behind : {X E : Type 0} (r : Result X E) (old mid new : Option (List ℕ))
    (first rest bytes : List ℕ) → bytes ≡ first → Appends old mid bytes
    → OnOk r (Appends mid new rest) → OnOk r (Appends old new (first ++ rest))
ok_behind (Ok x) old mid new first rest bytes e p q =
    Appends-trans old mid new first rest (subst (Appends old mid) e p) q
ok_behind (Err x) old mid new first rest bytes e p q = tt

pub err_behind : {X E : Type 0} (r : Result X E) (old mid new : Option (List ℕ))
    (first rest bytes : List ℕ) → bytes ≡ first → Appends old mid bytes
    → OnErr r (AppendsBeginning mid new rest) → OnErr r (AppendsBeginning old new (first ++ rest))
err_behind (Ok x) old mid new first rest bytes e p q = tt
err_behind (Err x) old mid new first rest bytes e p q =
    second_failed old mid new first rest bytes e p q
