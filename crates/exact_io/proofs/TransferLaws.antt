-- Laws of two parts that are written one after the other, also where one of the writes failed.
use Rattle.exact_io.proofs.Common.{◌≡◌, ℕ, ◌+◌, List, ◌++◌, length, take, drop, Option, Result, Ok, Err, OnOk, OnErr, refl, sym, ap, ◌∙◌, subst, length-append, arith, take_at, drop_at, take-append-le, Appends, Appends-trans, take-add}
use Rattle.exact_io.specs.Transfers.{AppendsBeginning}

-- a beginning of the first part is a beginning of both
pub AppendsBeginning-first : (old new : Option (List ℕ)) (front rest : List ℕ)
    → AppendsBeginning old new front → AppendsBeginning old new (front ++ rest)
AppendsBeginning-first old new front rest p =
    let (n, less, appended) = p in (
      n,
      omega (arith, length-append front rest),
      subst (Appends old new) (sym (take-append-le n front rest (omega arith))) appended,
    )

-- a beginning of the second part, after all of the first, is a beginning of both
pub AppendsBeginning-second : (old mid new : Option (List ℕ)) (front rest : List ℕ)
    → Appends old mid front → AppendsBeginning mid new rest
    → AppendsBeginning old new (front ++ rest)
AppendsBeginning-second old mid new front rest p q =
    let (n, less, appended) = q in
    let size = length front in
    let same : take (size + n) (front ++ rest) ≡ front ++ take n rest =
    take-add size n (front ++ rest)
    ∙ ap (λ l. l ++ take n (drop size (front ++ rest))) (take_at front rest size refl)
    ∙ ap (λ l. front ++ take n l) (drop_at front rest size refl) in (
      size + n,
      omega (arith, length-append front rest),
      subst (Appends old new) (sym same)
          (Appends-trans old mid new front (take n rest) p appended),
    )

-- where both parts are written, they are written as one
pub both_written : {X E : Type 0} (r : Result X E) (old mid new : Option (List ℕ))
    (front rest : List ℕ) → Appends old mid front → OnOk r (Appends mid new rest)
    → OnOk r (Appends old new (front ++ rest))
both_written (Ok x) old mid new front rest p q = Appends-trans old mid new front rest p q
both_written (Err e) old mid new front rest p q = tt

-- where the second part fails, a beginning of both was written
pub second_fails : {X E : Type 0} (r : Result X E) (old mid new : Option (List ℕ))
    (front rest : List ℕ) → Appends old mid front → OnErr r (AppendsBeginning mid new rest)
    → OnErr r (AppendsBeginning old new (front ++ rest))
second_fails (Ok x) old mid new front rest p q = tt
second_fails (Err e) old mid new front rest p q = AppendsBeginning-second old mid new front rest p q
