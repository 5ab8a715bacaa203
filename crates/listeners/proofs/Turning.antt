-- The last two states of a path at one slot, move by move.
use Rattle.listeners.proofs.Common.{◌≡◌, ◌≢◌, ◌∙◌, ℕ, zero, suc, ◌+◌, ◌<◌, List, [], ◌∷◌, ◌++◌, Option, Some, None, arith, refl, sym, ap, subst, length, IfSome, Program, State, Precision, IsTurnBefore, IsWalk}
use Rattle.walks.specs.Walks.{StepsTo, HasSteps}
use Rattle.listeners.specs.declared.turns.Turns.{Turns}
use Rattle.listeners.specs.Turns.{IsAtIndex, AreOn, IsFurtherBack}

-- ---- the path grows, and shrinks

-- a state that is put on the path is there behind all others
at_end : (path : List State) (s : State) (count : ℕ) → length path ≡ count
    → IsAtIndex (s ∷ path) s count
at_end path s count e = record { after = []; before = path; split = refl; index_is = e }

at_longer : (path : List State) (c s : State) (index : ℕ) → IsAtIndex path s index
    → IsAtIndex (c ∷ path) s index
at_longer path c s index h =
    record {
      after = c
          ∷ h.after;
      before = h.before;
      split = ap (λ (xs : List State). c ∷ xs) h.split;
      index_is = h.index_is;
    }

some_longer : (path : List State) (c s : State) (index : Option ℕ) → IfSome index (IsAtIndex path s)
    → IfSome index (IsAtIndex (c ∷ path) s)
some_longer path c s None h = tt
some_longer path c s (Some n) h = at_longer path c s n h

pub AreOn_longer : (path : List State) (c : State) (turns : Turns) → AreOn path turns
    → AreOn (c ∷ path) turns
AreOn_longer path c turns h =
    record {
      last = some_longer path c turns.last turns.index h.last;
      earlier = some_longer path c turns.earlier turns.earlier_index h.earlier;
    }

abbrev tail_of : List State → List State
tail_of [] = []
tail_of (s ∷ path) = path

shorter : (path : List State) (c s : State) (index : ℕ) (after before : List State)
    → c ∷ path ≡ after ++ s ∷ before → length before ≡ index → index ≢ length path
    → IsAtIndex path s index
shorter path c s index [] before split e apart =
    absurd (apart (sym e ∙ ap (λ (xs : List State). length (tail_of xs)) (sym split)))
shorter path c s index (a ∷ after) before split e apart =
    record { after = after; before = before; split = ap tail_of split; index_is = e }

at_shorter : (path : List State) (c s : State) (index : ℕ) → IsAtIndex (c ∷ path) s index
    → index ≢ length path → IsAtIndex path s index
at_shorter path c s index h apart = shorter path c s index h.after h.before h.split h.index_is apart

some_shorter : (path : List State) (c s : State) (count : ℕ) (old new : Option ℕ)
    → length path ≡ count → ((n : ℕ) → new ≡ Some n → (old ≡ Some n) × (n ≢ count))
    → IfSome old (IsAtIndex (c ∷ path) s) → IfSome new (IsAtIndex path s)
some_shorter path c s count old None e kept h = tt
some_shorter path c s count old (Some n) e kept h =
    let k = kept n refl in
    at_shorter path c s n (subst (λ (o : Option ℕ). IfSome o (IsAtIndex (c ∷ path) s)) k.0 h)
    (λ same. k.1 (same ∙ e))

-- where two states are on the path, after it left its last one
pub AreOn_shorter : (path : List State) (c : State) (count : ℕ) (old new : Turns)
    → length path ≡ count
    → ((n : ℕ) → new.index ≡ Some n → (old.index ≡ Some n) × (n ≢ count))
    → ((n : ℕ) → new.earlier_index ≡ Some n → (old.earlier_index ≡ Some n) × (n ≢ count))
    → new.last ≡ old.last → new.earlier ≡ old.earlier → AreOn (c ∷ path) old → AreOn path new
AreOn_shorter path c count old new e index earlier_index last earlier h = record {
  last =
      subst (λ (s : State). IfSome new.index (IsAtIndex path s)) (sym last)
      (some_shorter path c old.last count old.index new.index e index h.last);
  earlier =
      subst (λ (s : State). IfSome new.earlier_index (IsAtIndex path s)) (sym earlier)
      (some_shorter path c old.earlier count old.earlier_index new.earlier_index e earlier_index
      h.earlier);
}

-- what came last is the earlier one now
pub earlier_last : (path : List State) (old new : Turns) → new.earlier ≡ old.last
    → new.earlier_index ≡ old.index → AreOn path old
    → IfSome new.earlier_index (IsAtIndex path new.earlier)
earlier_last path old new earlier index h =
    subst (λ (o : Option ℕ). IfSome o (IsAtIndex path new.earlier)) (sym index)
    (subst (λ (s : State). IfSome old.index (IsAtIndex path s)) (sym earlier) h.last)

pub earlier_kept : (path : List State) (old new : Turns) → new.earlier ≡ old.earlier
    → new.earlier_index ≡ old.earlier_index → AreOn path old
    → IfSome new.earlier_index (IsAtIndex path new.earlier)
earlier_kept path old new earlier index h =
    subst (λ (o : Option ℕ). IfSome o (IsAtIndex path new.earlier)) (sym index)
    (subst (λ (s : State). IfSome old.earlier_index (IsAtIndex path s)) (sym earlier) h.earlier)

-- the path came to one more state at the slot
pub AreOn_turned : (path : List State) (c : State) (count : ℕ) (new : Turns) → length path ≡ count
    → new.last ≡ c → new.index ≡ Some count
    → IfSome new.earlier_index (IsAtIndex path new.earlier) → AreOn (c ∷ path) new
AreOn_turned path c count new e last index earlier = record {
  last =
      subst (λ (o : Option ℕ). IfSome o (IsAtIndex (c ∷ path) new.last)) (sym index)
      (subst (λ (s : State). IsAtIndex (c ∷ path) s count) (sym last) (at_end path c count e));
  earlier = some_longer path c new.earlier new.earlier_index earlier;
}

pub further_back : (path : List State) (turns : Turns) (index count : ℕ) (e : State)
    → turns.earlier_index ≡ Some index → turns.earlier ≡ e → index + 1 < count
    → length path ≡ count → AreOn path turns → IsFurtherBack path e
further_back path turns index count e is same below length_is h =
    let at : IsAtIndex path turns.earlier index =
    subst (λ (o : Option ℕ). IfSome o (IsAtIndex path turns.earlier)) is h.earlier in (
      index,
      subst (λ (s : State). IsAtIndex path s index) same at,
      subst (λ n. index + 1 < n)
          (sym length_is) below,
    )

-- ---- the steps from the one to the other

HasSteps-more : (how : Precision) (p : Program) (n : ℕ) (a b s : State) → HasSteps how p n a b
    → StepsTo how p b s
    → HasSteps how p (suc n) a s
unfolding HasSteps
HasSteps-more how p zero a b s h step = (s, subst (λ (x : State). StepsTo how p x s) h step, refl)
HasSteps-more how p (suc n) a b s h step = (h.0, h.1, HasSteps-more how p n h.0 b s h.2 step)

one_step : (how : Precision) (p : Program) (e s : State) → StepsTo how p e s → HasSteps how p 1 e s
unfolding HasSteps
one_step how p e s step = (s, step, refl)

leads_along : (how : Precision) (p : Program) (s e : State) (after before : List State)
    → IsWalk how p (s ∷ after ++ e ∷ before) → HasSteps how p (suc (length after)) e s
leads_along how p s e [] before h = one_step how p e s h.0
leads_along how p s e (a ∷ after) before h =
    HasSteps-more how p (suc (length after)) e a s (leads_along how p a e after before h.1) h.0

abbrev head_or : State → List State → State
head_or s [] = s
head_or s (c ∷ path) = c

turns_by : (how : Precision) (p : Program) (s e : State) (path after before : List State)
    → IsWalk how p (s ∷ path)
    → s ∷ path ≡ after ++ e ∷ before → length before + 1 < length (s ∷ path)
    → (more : ℕ) × HasSteps how p (suc more) e s
turns_by how p s e path [] before walk split below =
    let same : length (s ∷ path) ≡ length (e ∷ before) =
    ap (λ (xs : List State). length xs) split in
    absurd (omega (arith, same, below))
turns_by how p s e path (c ∷ after) before walk split below =
    let first : s ≡ c = ap (head_or s) split in
    let along : IsWalk how p (c ∷ after ++ e ∷ before) = subst (IsWalk how p) split walk in (
      length after,
      subst (λ (x : State). HasSteps how p (suc (length after)) e x) (sym first)
          (leads_along how p c e after before along),
    )

-- a state that is further back on the path leads to its last one
pub turned : (how : Precision) (p : Program) (s e : State) (path : List State)
    → IsWalk how p (s ∷ path)
    → IsFurtherBack (s ∷ path) e → (more : ℕ) × HasSteps how p (suc more) e s
turned how p s e path walk (index, at, below) =
    turns_by how p s e path at.after at.before walk at.split
    (subst (λ n. n + 1 < length (s ∷ path)) (sym at.index_is) below)

-- the same for the state that was found, if there is one
pub turn_before : (how : Precision) (p : Program) (s : State) (path : List State)
    (found : Option State)
    → IsWalk how p (s ∷ path)
    → IfSome found (λ e. (e.slot ≡ s.slot) × IsFurtherBack (s ∷ path) e)
    → IsTurnBefore how p s found
turn_before how p s path None walk h = tt
turn_before how p s path (Some e) walk h = (h.0, turned how p s e path walk h.1)

pub earlier_found : (count slot : ℕ) (path : List State) (s : State) (turns : Turns)
    (found : Option State)
    → IfSome found
    (λ e. (e.slot ≡ slot)
    × ((path : List State) → length path ≡ count → AreOn path turns → IsFurtherBack path e))
    → s.slot ≡ slot → length path ≡ count → AreOn path turns
    → IfSome found (λ e. (e.slot ≡ s.slot) × IsFurtherBack path e)
earlier_found count slot path s turns None h at e on = tt
earlier_found count slot path s turns (Some e) h at same on = (h.0 ∙ sym at, h.1 path same on)
