-- How many instructions were explored, along the path.
use Rattle.explorer.proofs.Common.{◌≡◌, ◌+◌, ◌∷◌, ◌++◌, [], ℕ, Some, None, Option, List, arith, refl, sym, subst, Program, State, Visit, StepsInto, Takes, Nothing, OneMore, BothMore, TakesBoth, Spends, CountsTo, HasSpent}
use Rattle.transfer.specs.declared.Ways.TheVariants as ways

Takes-same : (p : Program) (s : State) (m n : ℕ) → m ≡ n → Takes p s m → Takes p s n
Takes-same p s m n e h = subst (Takes p s) e h

-- ---- what a visit spends

pub Spends-one : (p : Program) (s a b : State) (stored : Option ℕ) → StepsInto p s ways.One a b
    → Spends p (record { pending = None; best = 0; stored = stored }) s a 1
unfolding Spends
Spends-one p s a b stored step = λ x takes. OneMore s a b x (1 + x) step takes (omega arith)

pub Spends-two : (p : Program) (s a b : State) (stored : Option ℕ) → StepsInto p s ways.Two a b
    → Spends p (record { pending = Some b; best = 0; stored = stored }) s a 1
unfolding Spends
Spends-two p s a b stored step =
    λ x takes y other. BothMore s a b x y (1 + x + y) step takes other (omega arith)

-- what is pending need not be explored
drops : (p : Program) (o : Option State) (s : State) (n : ℕ) → TakesBoth p o s n → Takes p s n
drops p None s n h = h
drops p (Some other) s n h = Takes-same p s (n + 0) n (omega arith) (h 0 (Nothing other 0 refl))

pub Spends-ends : (p : Program) (visit : Visit) (s child : State) (own x : ℕ)
    → Spends p visit s child own → Takes p child x → Takes p s (own + x)
unfolding Spends
Spends-ends p visit s child own x spends takes = drops p visit.pending s (own + x) (spends x takes)

pub Spends-next : (p : Program) (visit rest : Visit) (s child other : State) (own x : ℕ)
    → Spends p visit s child own → Takes p child x → visit.pending ≡ Some other
    → rest.pending ≡ None
    → Spends p rest s other (own + x)
unfolding Spends
Spends-next p visit rest s child other own x spends takes some none = λ y more.
    let both : (y : ℕ) → Takes p other y → Takes p s (own + x + y) =
    subst (λ o. TakesBoth p o s (own + x)) some (spends x takes) in
    subst (λ o. TakesBoth p o s (own + x + y)) (sym none) (both y more)

-- ---- along a path

pub CountsTo-push : (p : Program) (path : List Visit) (visit : Visit) (a s child : State)
    (n own : ℕ) → CountsTo p a path s n → Spends p visit s child own
    → CountsTo p a (path ++ visit ∷ []) child (n + own)
unfolding CountsTo
CountsTo-push p [] visit a s child n own h spends = (
  child,
  own,
  0,
  subst (λ x. Spends p visit x child own) h.0 spends,
  (refl, refl),
  omega
      (arith, h.1),
)
CountsTo-push p (first ∷ path) visit a s child n own h spends = (
  h.0,
  h.1,
  h.2 + own,
  h.3,
  CountsTo-push p path visit h.0 s child h.2 own h.4 spends,
  omega
      (arith, h.5),
)

-- the last visit of a path
pub record LastSpent (p : Program) (a : State) (path : List Visit) (visit : Visit) (child : State)
    (n : ℕ) : Type 0 where
  pub state : State
  pub before : ℕ
  pub own : ℕ
  pub counts : CountsTo p a path state before
  pub spends : Spends p visit state child own
  pub total_is : n ≡ before + own

pub CountsTo-pop : (p : Program) (path : List Visit) (visit : Visit) (a child : State) (n : ℕ)
    → CountsTo p a (path ++ visit ∷ []) child n → LastSpent p a path visit child n
unfolding CountsTo
CountsTo-pop p [] visit a child n h =
    record {
      state = a;
      before = 0;
      own = h.1;
      counts = (refl, refl);
      spends = subst
          (λ x. Spends p visit a x h.1) (sym h.4.0) h.3;
      total_is = omega (arith, h.5, h.4.1);
    }
CountsTo-pop p (first ∷ path) visit a child n h =
    let last = CountsTo-pop p path visit h.0 child h.2 h.4 in
    record {
      state = last.state;
      before = h.1
          + last.before;
      own = last.own;
      counts = (h.0, h.1, last.before, h.3, last.counts, refl);
      spends = last.spends;
      total_is = omega (arith, h.5, last.total_is);
    }

pub CountsTo-here : (p : Program) (path : List Visit) (a b : State) (n : ℕ) → path ≡ [] → b ≡ a
    → n ≡ 0 → CountsTo p a path b n
unfolding CountsTo
CountsTo-here p path a b n none same zero = subst (λ x. CountsTo p a x b n) (sym none) (same, zero)

-- ---- the search

-- the last visit ends
pub spent_back : (p : Program) (from : State) (path whole : List Visit) (visit : Visit) (n : ℕ)
    → whole ≡ path ++ visit ∷ [] → HasSpent p from whole n → HasSpent p from path n
spent_back p from path whole visit n e h =
    let last =
    CountsTo-pop p path visit from h.state h.before
    (subst (λ x. CountsTo p from x h.state h.before) e h.counts) in
    record {
      state = last.state;
      before = last.before;
      own = last.own + h.own;
      counts = last.counts;
      takes = Spends-ends p visit last.state h.state last.own h.own last.spends h.takes;
      total_is = omega (arith, h.total_is, last.total_is);
    }

-- the last visit continues with what was pending
pub spent_on : (p : Program) (from : State) (path whole again : List Visit) (visit rest : Visit)
    (other : State) (n : ℕ) → whole ≡ path ++ visit ∷ [] → again ≡ path ++ rest ∷ []
    → visit.pending ≡ Some other → rest.pending ≡ None
    → HasSpent p from whole n → CountsTo p from again other n
spent_on p from path whole again visit rest other n e f some none h =
    let last =
    CountsTo-pop p path visit from h.state h.before
    (subst (λ x. CountsTo p from x h.state h.before) e h.counts) in
    let pushed =
    CountsTo-push p path rest from last.state other last.before (last.own + h.own) last.counts
    (Spends-next p visit rest last.state h.state other last.own h.own last.spends h.takes
    some none) in
    let same : last.before + (last.own + h.own) ≡ n = omega (arith, h.total_is, last.total_is) in
    subst (λ x. CountsTo p from x other n) (sym f)
    (subst (λ k. CountsTo p from (path ++ rest ∷ []) other k) same pushed)

-- a visit begins
pub spent_into : (p : Program) (from : State) (path whole : List Visit) (visit : Visit)
    (s child : State) (n m : ℕ) → whole ≡ path ++ visit ∷ [] → CountsTo p from path s n
    → Spends p visit s child 1 → m ≡ n + 1
    → CountsTo p from whole child m
spent_into p from path whole visit s child n m e counts spends is =
    subst (λ x. CountsTo p from x child m) (sym e)
    (subst (λ k. CountsTo p from (path ++ visit ∷ []) child k) (sym is)
    (CountsTo-push p path visit from s child n 1 counts spends))

-- the current state takes `own`
pub spent_here : (p : Program) (from : State) (path : List Visit) (s : State) (n own m : ℕ)
    → CountsTo p from path s n → Takes p s own → n + own ≡ m → HasSpent p from path m
spent_here p from path s n own m counts takes is =
    record { state = s; before = n; own = own; counts = counts; takes = takes; total_is = is }

-- all that was explored was explored from the start
pub CountsTo-takes : (p : Program) (path : List Visit) (a s : State) (n own : ℕ)
    → CountsTo p a path s n → Takes p s own → Takes p a (n + own)
unfolding CountsTo
CountsTo-takes p [] a s n own h takes =
    Takes-same p a own (n + own) (omega (arith, h.1)) (subst (λ x. Takes p x own) h.0 takes)
CountsTo-takes p (visit ∷ path) a s n own h takes =
    let rest = CountsTo-takes p path h.0 s h.2 own h.4 takes in
    Takes-same p a (h.1 + (h.2 + own)) (n + own) (omega (arith, h.5))
    (Spends-ends p visit a h.0 h.1 (h.2 + own) h.3 rest)
