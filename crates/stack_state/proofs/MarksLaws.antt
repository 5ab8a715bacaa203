-- Laws of the definitions in specs/Marks.
use Rattle.stack_state.proofs.Common.{◌≡◌, ◌≢◌, ℕ, zero, suc, ◌+◌, ◌<◌, ◌≤◌, Bool, true, false, List, [], ◌∷◌, length, slice_set, replicate, Some, inl, inr, sym, ap, ◌∙◌, subst, arith, refl, cases_eq, cases_lt, Kind, Unset, State, frames_of, no_frame, abstract_frame_at, named_by, IsFresh, IsLeastFresh, AreFree, IsFreshAt, IsFreshIn, Marks, is_marked, marked}
use Rattle.std.proofs.lemmas.List.{length-set, get_or_past, get_or-set_same, get_or-set_other}
use Rattle.stack_state.specs.declared.identities.IdentitySort.{IdentitySort}
use Rattle.stack_state.specs.declared.identities.IdentitySort.TheVariants.{Packets, Nulls}
use Rattle.stack_state.proofs.MeaningLaws.{length-frames_of, abstract_frame_at-caller, abstract_frame_at-innermost}

-- nothing is marked yet
pub marked-replicate : (n : ℕ) → marked (replicate n false) ≡ 0
unfolding marked
marked-replicate zero = refl
marked-replicate (suc n) = marked-replicate n

-- one mark more
pub marked-set : (marks : List Bool) (i : ℕ) → marked (slice_set marks i true) ≤ marked marks + 1
unfolding marked
marked-set [] i = omega arith
marked-set (true ∷ marks) zero = omega arith
marked-set (false ∷ marks) zero = omega arith
marked-set (true ∷ marks) (suc i) = let rest = marked-set marks i in omega arith
marked-set (false ∷ marks) (suc i) = marked-set marks i

-- where all are marked, there are that many marks
pub marked-all : (marks : List Bool) → ((i : ℕ) → i < length marks → is_marked marks i ≡ true)
    → marked marks ≡ length marks
unfolding marked
marked-all [] all = refl
marked-all (true ∷ marks) all = ap suc (marked-all marks (λ i inside. all (suc i) (omega arith)))
marked-all (false ∷ marks) all = absurd (cc (all 0 (omega arith)))

-- with fewer marks than there are from 1 up, one of those is not marked
pub marked-room : (marks : List Bool) → marked marks + 1 < length marks
    → ¬ ((i : ℕ) → 0 < i → i < length marks → is_marked marks i ≡ true)
unfolding marked
marked-room [] room all = absurd (omega arith)
marked-room (true ∷ marks) room all =
    let full = marked-all marks (λ i inside. all (suc i) (omega arith) (omega arith)) in
    absurd (omega arith)
marked-room (false ∷ marks) room all =
    let full = marked-all marks (λ i inside. all (suc i) (omega arith) (omega arith)) in
    absurd (omega arith)

-- one after the other, where what is free for both is free for all
pub Marks-then : (P Q R : ℕ → Type 0) (m n : ℕ) (old mid new : List Bool)
    → ((i : ℕ) → P i → Q i → R i) → ((i : ℕ) → R i → P i)
    → ((i : ℕ) → R i → Q i) → Marks P m old mid → Marks Q n mid new → Marks R (m + n) old new
Marks-then P Q R m n old mid new both left right first second =
    let short = first.few in
    let more = second.few in
    let same = second.long in
    record {
      named = λ i is. elim (second.named i is) [
        | inl before ↦ elim (first.named i before) [
          | inl old_one ↦ inl old_one
          | inr not ↦ inr (λ free. not (left i free))
        ]
        | inr not ↦ inr (λ free. not (right i free))
      ];
      free = λ i inside not. let (before, q) = second.free i inside not in
          let (older, p) = first.free i (omega arith) before in
          (older, both i p q);
      few = omega arith;
      long = second.long ∙ first.long;
    }

-- `Unset` names no identity
unset_names : (sort : IdentitySort) (i : ℕ) → named_by sort Unset ≢ Some i
unset_names Packets i = λ e. absurd (cc)
unset_names Nulls i = λ e. absurd (cc)

-- of a kind that names the identity
pub Marks-named : (sort : IdentitySort) (k : Kind) (i : ℕ) (marks : List Bool)
    → named_by sort k ≡ Some i
    → i < length marks → Marks (λ j. named_by sort k ≢ Some j) 1 marks (slice_set marks i true)
Marks-named sort k i marks is inside = record {
  named = λ j m. elim (cases_eq j i) [
    | inl same ↦ inr (λ free. free (is ∙ ap Some (sym same)))
    | inr other ↦ inl (sym (get_or-set_other marks i j true false other) ∙ m)
  ];
  free = λ j within not. elim (cases_eq j i) [
    | inl same ↦ absurd (cc (get_or-set_same marks i true false inside))
    | inr other ↦ (sym (get_or-set_other marks i j true false other) ∙ not, λ e. other (cc (is, e)))
  ];
  few = marked-set marks i;
  long = length-set marks i true;
}

-- an empty frame names no identity
nothing_names : (sort : IdentitySort) (i : ℕ) → IsFreshIn sort no_frame i
nothing_names sort i =
    record { registers = λ k. unset_names sort i; slots = λ k. unset_names sort i }

fresh_at : (sort : IdentitySort) (a : State) (i j : ℕ)
    → AreFree (IsFreshAt sort a.callers.items) (length a.callers.items) i
    → IsFreshIn sort a.innermost i → IsFreshIn sort (abstract_frame_at a j) i
fresh_at sort a i j callers innermost =
    let n : ℕ = length a.callers.items in
    let long = length-frames_of a in
    elim (cases_lt j n) [
      | inl below ↦
          subst (λ f. IsFreshIn sort f i) (sym (abstract_frame_at-caller a j (omega arith)))
          (callers j below)
      | inr not ↦ elim (cases_eq j n) [
        | inl last ↦
            subst (λ f. IsFreshIn sort f i)
            (sym (ap (abstract_frame_at a) last ∙ abstract_frame_at-innermost a)) innermost
        | inr past ↦
            subst (λ f. IsFreshIn sort f i)
            (sym (get_or_past (frames_of a) j no_frame (omega arith))) (nothing_names sort i)
      ]
    ]

-- the identities that no frame names are the fresh ones
pub IsFresh-all : (sort : IdentitySort) (a : State) (i : ℕ)
    → AreFree (IsFreshAt sort a.callers.items) (length a.callers.items) i
    → IsFreshIn sort a.innermost i → IsFresh sort a i
IsFresh-all sort a i callers innermost =
    record {
      registers = λ j. (fresh_at sort a i j callers innermost).registers;
      slots = λ j. (fresh_at sort a i j callers innermost).slots;
    }

pub IsFreshAt-callers : (sort : IdentitySort) (a : State) (i : ℕ) → IsFresh sort a i
    → AreFree (IsFreshAt sort a.callers.items) (length a.callers.items) i
IsFreshAt-callers sort a i h j below =
    let same = abstract_frame_at-caller a j (omega arith) in
    subst (λ f. IsFreshIn sort f i) same (record { registers = h.registers j; slots = h.slots j })

pub IsFreshIn-innermost : (sort : IdentitySort) (a : State) (i : ℕ) → IsFresh sort a i
    → IsFreshIn sort a.innermost i
IsFreshIn-innermost sort a i h =
    let n : ℕ = length a.callers.items in
    subst (λ f. IsFreshIn sort f i) (abstract_frame_at-innermost a)
    (record { registers = h.registers n; slots = h.slots n })

-- the first one from 1 up without a mark, once all frames are marked
pub IsLeastFresh-marks : (sort : IdentitySort) (a : State) (m n i : ℕ) (none mid marks : List Bool)
    → Marks (AreFree (IsFreshAt sort a.callers.items) (length a.callers.items)) m none mid
    → Marks (IsFreshIn sort a.innermost) n mid marks
    → ((j : ℕ) → is_marked none j ≡ false) → 0 < i → i < length marks → is_marked marks i ≡ false
    → ((j : ℕ) → 0 < j → j < i → is_marked marks j ≡ true) → IsLeastFresh sort a i
IsLeastFresh-marks sort a m n i none mid marks callers innermost empty some inside free least =
    let all : Marks (IsFresh sort a) (m + n) none marks =
    Marks-then (AreFree (IsFreshAt sort a.callers.items) (length a.callers.items))
    (IsFreshIn sort a.innermost) (IsFresh sort a) m n none mid marks
    (IsFresh-all sort a) (IsFreshAt-callers sort a)
    (IsFreshIn-innermost sort a) callers innermost in
    record {
      some = some;
      fresh = (all.free i inside free).1;
      least = λ j above below fresh. elim (all.named j (least j above below)) [
        | inl old ↦ absurd (cc (empty j))
        | inr not ↦ not fresh
      ];
    }

-- nothing is marked at first
pub is_marked-replicate : (n i : ℕ) → is_marked (replicate n false) i ≡ false
is_marked-replicate zero i = refl
is_marked-replicate (suc n) zero = refl
is_marked-replicate (suc n) (suc i) = is_marked-replicate n i
