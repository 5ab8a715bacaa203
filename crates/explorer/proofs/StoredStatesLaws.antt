-- What stays true of the stored states.
use Rattle.explorer.proofs.Common.{◌≡◌, ◌≤◌, ◌<◌, ◌∷◌, ◌++◌, [], ℕ, zero, suc, Some, None, Option, List, length, get_or, arith, refl, sym, ap, ◌∙◌, subst, set, slice_get, slice_get_within, slice_get_read, get_or_from_slice_get, All-push, All-set, All-weaker, Program, State, Within, Covers, StoredState, Move, New, Covered, Finished, IsStored, IsCovered, StoredAt, GetsNumber, start, Coarse, Forgets, WalksTo, IsCoveredBy, Forgets-slot, Forgets-covers, stored_too, Arrives, Settles, IsSettled, AllSettled}
use Rattle.explorer.proofs.Walking.{WalksTo-start}

-- ---- numbers

pub Within-covered : (p : Program) (a b : State) (n : ℕ) → Covers p a b → Within p a n
    → Within p b n
unfolding Within Covers
Within-covered p a b n covered h = λ clock fits w means. h clock fits w (covered w means)

IsSettled-more : (p : Program) (m n : ℕ) (e : StoredState) → m ≤ n → IsSettled p m e
    → IsSettled p n e
IsSettled-more p m n e le h = λ above. let fine = h above in (fine.0, omega (arith, fine.1), fine.2)

pub AllSettled-more : (p : Program) (m n : ℕ) (states : List StoredState) → m ≤ n
    → AllSettled p m states → AllSettled p n states
unfolding AllSettled
AllSettled-more p m n states le h =
    All-weaker (IsSettled p m) (IsSettled p n) (λ e fine. IsSettled-more p m n e le fine) states h

AllSettled-push : (p : Program) (m : ℕ) (states : List StoredState) (s : State)
    → AllSettled p m states → AllSettled p m (stored_too states s)
unfolding AllSettled
AllSettled-push p m states s h = All-push (IsSettled p m) states _ h (λ above. absurd (omega arith))

AllSettled-set : (p : Program) (m : ℕ) (states : List StoredState) (k : ℕ) (s : State) (n : ℕ)
    → AllSettled p m states → Settles p s n → n ≤ m
    → (steps : ℕ) × WalksTo Coarse p steps s
    → AllSettled p m (set states k (record { state = s; number = n }))
unfolding AllSettled
AllSettled-set p m states k s n h settled le walk =
    All-set (IsSettled p m) states k _ (λ above. (settled, le, walk)) h

-- runs from a state that a finished one covers end within the number of that one
pub IsCovered-known : (p : Program) (m : ℕ) (states : List StoredState) (k : ℕ) (s : State) (n : ℕ)
    → AllSettled p m states → IsCovered states k s n → Settles p s n × (n ≤ m)
unfolding AllSettled
IsCovered-known p m states k s n fine h =
    let e : StoredState = record { state = h.other; number = n } in
    let same = get_or_from_slice_get states k e e h.stored in
    let here : IsSettled p m e =
    subst (IsSettled p m) same (fine k e (slice_get_within states k e h.stored)) in
    let known = here h.finished in
    let walk = known.2 in (
      record {
        within = Within-covered p h.other s n (h.covers p) known.0.within;
        number = IsCoveredBy s h.other walk.0 n walk.1 h.same_slot (h.covers p) known.0.number;
      },
      known.1,
    )

-- runs from the start end within the number of the state in which paths begin
pub Settles-start : (p : Program) (first : State) (n : ℕ) → Forgets Coarse p start first
    → Settles p first n → Settles p start n
Settles-start p first n begins h = record {
  within = Within-covered p first start n (Forgets-covers p start first begins) h.within;
  number =
      IsCoveredBy start first 0 n (WalksTo-start p first begins) (Forgets-slot p start first begins)
      (Forgets-covers p start first begins) h.number;
}

-- ---- indexes

pub slice_get-push : {X : Type 0} (xs : List X) (y : X) (k : ℕ) (x : X) → slice_get xs k ≡ Some x
    → slice_get (xs ++ y ∷ []) k ≡ Some x
slice_get-push [] y k x e = absurd (cc)
slice_get-push (z ∷ xs) y zero x e = e
slice_get-push (z ∷ xs) y (suc k) x e = slice_get-push xs y k x e

pub slice_get-seam : {X : Type 0} (xs : List X) (y : X)
    → slice_get (xs ++ y ∷ []) (length xs) ≡ Some y
slice_get-seam [] y = refl
slice_get-seam (x ∷ xs) y = slice_get-seam xs y

-- each state is stored where it was
unfoldable pub KeepsStates : List StoredState → List StoredState → Type 0
KeepsStates old new = (k : Option ℕ) (s : State) → StoredAt old k s → StoredAt new k s

pub KeepsStates-at : (old new : List StoredState) (k : Option ℕ) (s : State) → KeepsStates old new
    → StoredAt old k s → StoredAt new k s
unfolding KeepsStates
KeepsStates-at old new k s kept h = kept k s h

pub KeepsStates-same : (old new : List StoredState) → new ≡ old → KeepsStates old new
unfolding KeepsStates
KeepsStates-same old new e = λ k s h. subst (λ x. StoredAt x k s) (sym e) h

KeepsStates-push : (states : List StoredState) (e : StoredState)
    → KeepsStates states (states ++ e ∷ [])
unfolding KeepsStates
KeepsStates-push states e =
    λ k s. elim k as (λ k. StoredAt states k s → StoredAt (states ++ e ∷ []) k s)
    [ None ↦ λ h. tt | (Some i) ↦ λ h. (h.0, slice_get-push states e i _ h.1) ]

-- a write of a number leaves each state where it was
set-number : (states : List StoredState) (i : ℕ) (s : State) (m n : ℕ)
    → slice_get states i ≡ Some (record { state = s; number = m })
    → (k : ℕ) (t : State) → StoredAt states (Some k) t
    → StoredAt (set states i (record { state = s; number = n })) (Some k) t
set-number [] i s m n e k t h = absurd (cc)
set-number (z ∷ states) zero s m n e zero t h =
    let q : ◌≡◌ {A = StoredState} (record { state = s; number = m })
    (record { state = t; number = h.0 }) =
    cc (e, h.1) in
    let r : s ≡ t = ap (λ (x : StoredState). x.state) q in
    (n, ap (λ (x : State). Some (record { state = x; number = n })) r)
set-number (z ∷ states) zero s m n e (suc k) t h = h
set-number (z ∷ states) (suc i) s m n e zero t h = h
set-number (z ∷ states) (suc i) s m n e (suc k) t h = set-number states i s m n e k t h

KeepsStates-set : (states : List StoredState) (i : ℕ) (s : State) (m n : ℕ)
    → slice_get states i ≡ Some (record { state = s; number = m })
    → KeepsStates states (set states i (record { state = s; number = n }))
unfolding KeepsStates
KeepsStates-set states i s m n e =
    λ k t. elim k as (λ k. StoredAt states k t
    → StoredAt (set states i (record { state = s; number = n })) k t)
    [ None ↦ λ h. tt | (Some j) ↦ λ h. set-number states i s m n e j t h ]

-- ---- an arrival

pub Arrives-keeps : (p : Program) (old : List StoredState) (s : State) (made : Move)
    (new : List StoredState) → Arrives p old s made new → KeepsStates old new
Arrives-keeps p old s (Covered k n) new h = KeepsStates-same old new h.2
Arrives-keeps p old s (New None) new h = KeepsStates-same old new h
Arrives-keeps p old s (New (Some k)) new h =
    subst (λ x. KeepsStates old x) (sym h.2) (KeepsStates-push old _)
Arrives-keeps p old s (Finished n) new h = absurd h

pub Arrives-fine : (p : Program) (m : ℕ) (old : List StoredState) (s : State) (made : Move)
    (new : List StoredState) → Arrives p old s made new → AllSettled p m old → AllSettled p m new
Arrives-fine p m old s (Covered k n) new h fine = subst (λ x. AllSettled p m x) (sym h.2) fine
Arrives-fine p m old s (New None) new h fine = subst (λ x. AllSettled p m x) (sym h) fine
Arrives-fine p m old s (New (Some k)) new h fine =
    subst (λ x. AllSettled p m x) (sym h.2) (AllSettled-push p m old s fine)
Arrives-fine p m old s (Finished n) new h fine = absurd h

pub Arrives-stored : (p : Program) (old : List StoredState) (s : State) (k : Option ℕ)
    (new : List StoredState) → Arrives p old s (New k) new → StoredAt new k s
Arrives-stored p old s None new h = tt
Arrives-stored p old s (Some k) new h = (
  0,
  subst (λ x. slice_get x k ≡ Some (record { state = s; number = 0 })) (sym h.2)
      (subst (λ i. slice_get (stored_too old s) i ≡ Some (record { state = s; number = 0 }))
      (sym h.1) (slice_get-seam old _)),
)

-- ---- a number

pub GetsNumber-fine : (p : Program) (m : ℕ) (old : List StoredState) (stored : Option ℕ) (s : State)
    (n : ℕ) (new : List StoredState) → GetsNumber old stored n new
    → StoredAt old stored s → Settles p s n → n ≤ m → (steps : ℕ) × WalksTo Coarse p steps s
    → AllSettled p m old → AllSettled p m new
GetsNumber-fine p m old None s n new h at settled le walk fine =
    subst (λ x. AllSettled p m x) (sym h) fine
GetsNumber-fine p m old (Some k) s n new h at settled le walk fine =
    subst (λ x. AllSettled p m x) (sym (h s at)) (AllSettled-set p m old k s n fine settled le walk)

pub GetsNumber-keeps : (old : List StoredState) (stored : Option ℕ) (s : State) (n : ℕ)
    (new : List StoredState) → GetsNumber old stored n new → StoredAt old stored s
    → KeepsStates old new
GetsNumber-keeps old None s n new h at = KeepsStates-same old new h
GetsNumber-keeps old (Some k) s n new h at =
    subst (λ x. KeepsStates old x) (sym (h s at)) (KeepsStates-set old k s at.0 n at.1)

-- ---- a stored state that is read

pub found_at : (states read : List StoredState) (i : ℕ) (x : StoredState) → read ≡ states
    → i < length read → x ≡ get_or read i x → slice_get states i ≡ Some x
found_at states read i x same inside there =
    subst (λ l. slice_get l i ≡ Some x) same
    (slice_get_read read (length read) i x refl inside there)

pub read_at : (states : List StoredState) (i : ℕ) (x : StoredState) (s : State) (n : ℕ)
    → slice_get states i ≡ Some x → IsStored states i s n → x ≡ record { state = s; number = n }
read_at states i x s n found is = cc (sym found ∙ is)
