-- Laws of lists of serials with one more or one fewer: they stay below the next one, and different.
use Rattle.isa_model.proofs.Common.{◌≡◌, ◌≢◌, ℕ, zero, suc, ◌<◌, List, [], ◌∷◌, ◌++◌, length, slice_set, slice_index_or, All, AllPairs, sym, ap, ◌∙◌, subst, arith, append_assoc, refl, flat_map, All-cons, All-head, All-tail, All-weaker}
use Rattle.std.proofs.lemmas.List.Kept.{AllPairs-cons}

-- ---- one more

-- `more` is `some` with n put in at an index
pub record HasOneMore (n : ℕ) (some more : List ℕ) : Type 0 where
  pub front : List ℕ
  pub back : List ℕ
  pub some_is : some ≡ front ++ back
  pub more_is : more ≡ front ++ n ∷ back

-- with a list before both
pub HasOneMore-before : (n : ℕ) (xs some more : List ℕ) → HasOneMore n some more
    → HasOneMore n (xs ++ some) (xs ++ more)
HasOneMore-before n xs some more h = record {
  front = xs ++ h.front;
  back = h.back;
  some_is = ap (λ l. xs ++ l) h.some_is ∙ sym (append_assoc xs h.front h.back);
  more_is = ap (λ l. xs ++ l) h.more_is ∙ sym (append_assoc xs h.front (n ∷ h.back));
}

-- with a list after both
pub HasOneMore-after : (n : ℕ) (some more xs : List ℕ) → HasOneMore n some more
    → HasOneMore n (some ++ xs) (more ++ xs)
HasOneMore-after n some more xs h = record {
  front = h.front;
  back = h.back ++ xs;
  some_is = ap (λ l. l ++ xs) h.some_is ∙ append_assoc h.front h.back xs;
  more_is = ap (λ l. l ++ xs) h.more_is ∙ append_assoc h.front (n ∷ h.back) xs;
}

-- ---- what holds of all

All-put_in : {X : Type 0} (P : X → Type 0) (front back : List X) (x : X) → P x
    → All P (front ++ back)
    → All P (front ++ x ∷ back)
All-put_in P [] back x p h = All-cons P x back p h
All-put_in P (y ∷ front) back x p h =
    All-cons P y (front ++ x ∷ back) (All-head P y (front ++ back) h)
    (All-put_in P front back x p (All-tail P y (front ++ back) h))

All-left_out : {X : Type 0} (P : X → Type 0) (front back : List X) (x : X)
    → All P (front ++ x ∷ back)
    → All P (front ++ back)
All-left_out P [] back x h = All-tail P x back h
All-left_out P (y ∷ front) back x h =
    All-cons P y (front ++ back) (All-head P y (front ++ x ∷ back) h)
    (All-left_out P front back x (All-tail P y (front ++ x ∷ back) h))

-- ---- what holds of each two

AllPairs-head : {X : Type 0} (R : X → X → Type 0) (x : X) (xs : List X) → AllPairs R (x ∷ xs)
    → All (R x) xs
AllPairs-head R x xs h j d within = h 0 (suc j) d (omega arith) (omega arith)

AllPairs-tail : {X : Type 0} (R : X → X → Type 0) (x : X) (xs : List X) → AllPairs R (x ∷ xs)
    → AllPairs R xs
AllPairs-tail R x xs h i j d before within = h (suc i) (suc j) d (omega arith) (omega arith)

abbrev AreApart : List ℕ → Type 0
AreApart xs = AllPairs (λ m n. m ≢ n) xs

AreApart-put_in : (front back : List ℕ) (n : ℕ) → All (λ m. m < n) (front ++ back)
    → AreApart (front ++ back)
    → AreApart (front ++ n ∷ back)
AreApart-put_in [] back n below h =
    AllPairs-cons (λ m n. m ≢ n) n back
    (All-weaker (λ m. m < n) (λ m. n ≢ m) (λ m less same. absurd (omega arith)) back below) h
AreApart-put_in (m ∷ front) back n below h =
    let R : ℕ → ℕ → Type 0 = λ m n. m ≢ n in
    let rest : List ℕ = front ++ back in
    let first = All-head (λ m. m < n) m rest below in
    AllPairs-cons R m (front ++ n ∷ back)
    (All-put_in (R m) front back n (λ same. absurd (omega arith)) (AllPairs-head R m rest h))
    (AreApart-put_in front back n (All-tail (λ m. m < n) m rest below) (AllPairs-tail R m rest h))

AreApart-left_out : (front back : List ℕ) (n : ℕ) → AreApart (front ++ n ∷ back)
    → AreApart (front ++ back)
AreApart-left_out [] back n h = AllPairs-tail (λ m n. m ≢ n) n back h
AreApart-left_out (m ∷ front) back n h =
    let R : ℕ → ℕ → Type 0 = λ m n. m ≢ n in
    let more : List ℕ = front ++ n ∷ back in
    AllPairs-cons R m (front ++ back) (All-left_out (R m) front back n (AllPairs-head R m more h))
    (AreApart-left_out front back n (AllPairs-tail R m more h))

-- ---- serials

-- they were given, and no two are the same
abbrev pub AreSerials : ℕ → List ℕ → Type 0
AreSerials next xs = All (λ n. n < next) xs × AllPairs (λ m n. m ≢ n) xs

-- the next serial is given
pub AreSerials-more : (next : ℕ) (some more : List ℕ) → HasOneMore next some more
    → AreSerials next some
    → AreSerials (suc next) more
AreSerials-more next some more one h =
    let front = one.front in
    let back = one.back in
    let given : All (λ n. n < next) (front ++ back) = subst (All (λ n. n < next)) one.some_is h.0 in
    let apart : AreApart (front ++ back) = subst AreApart one.some_is h.1 in
    let risen =
    All-weaker (λ n. n < next) (λ n. n < suc next) (λ n k. omega arith) (front ++ back) given in
    let all = All-put_in (λ n. n < suc next) front back next (omega arith) risen in (
      subst (All (λ n. n < suc next)) (sym one.more_is) all,
      subst AreApart (sym one.more_is) (AreApart-put_in front back next given apart),
    )

-- one is no longer live
pub AreSerials-fewer : (next n : ℕ) (some more : List ℕ) → HasOneMore n some more
    → AreSerials next more
    → AreSerials next some
AreSerials-fewer next n some more one h =
    let front = one.front in
    let back = one.back in
    let given =
    All-left_out (λ n. n < next) front back n (subst (All (λ n. n < next)) one.more_is h.0) in
    let apart = AreApart-left_out front back n (subst AreApart one.more_is h.1) in
    (subst (All (λ n. n < next)) (sym one.some_is) given, subst AreApart (sym one.some_is) apart)

-- ---- lists put together, with one of them replaced

-- the lists that f gives, put together, with one of them replaced: those before and after it stay
pub record PartReplaced {X : Type 0} (f : X → List ℕ) (xs : List X) (i : ℕ) (y d : X) : Type 0 where
  pub before : List ℕ
  pub after : List ℕ
  pub was : flat_map f xs ≡ before ++ (f (slice_index_or xs i d) ++ after)
  pub is : flat_map f (slice_set xs i y) ≡ before ++ (f y ++ after)

pub part_replaced : {X : Type 0} (f : X → List ℕ) (xs : List X) (i : ℕ) (y d : X) → i < length xs
    → PartReplaced f xs i y d
part_replaced f [] i y d h = absurd (omega arith)
part_replaced f (x ∷ xs) zero y d h =
    record { before = []; after = flat_map f xs; was = refl; is = refl }
part_replaced f (x ∷ xs) (suc i) y d h =
    let rest = part_replaced f xs i y d (omega arith) in
    let this : List ℕ = f (slice_index_or xs i d) ++ rest.after in
    record {
      before = f x ++ rest.before;
      after = rest.after;
      was = ap (λ l. f x ++ l) rest.was ∙ sym (append_assoc (f x) rest.before this);
      is = ap (λ l. f x ++ l) rest.is ∙ sym (append_assoc (f x) rest.before (f y ++ rest.after));
    }
