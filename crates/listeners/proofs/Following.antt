-- What a listener keeps of a path that it follows, move by move.
use Rattle.listeners.proofs.Common.{◌≡◌, ◌∙◌, ℕ, ◌+◌, ◌-◌, ◌≤◌, List, [], ◌∷◌, ◌++◌, Option, Some, None, arith, refl, sym, ap, subst, length, append_assoc, length-append, slice_get, option_to_list, IsSome, Program, State, Refusal, Precision, Exact, Coarse, StopsAt, StopsIn, IsRefused, precision_of, IsLed, IsTurnBefore, ComesThrough, Explains, ComesTo, IsToStop, IsOutsideSearch, EndsIn, EndsAsPrecise, HasRetraced, HasFollowed, IsWalk, slots_along}
use Rattle.std.proofs.lemmas.List.{same_from_push}
use Rattle.walks.specs.declared.explained.Jump.{Jump}
use Rattle.walks.specs.declared.explained.Explanation.{Explanation}
use Rattle.walks.specs.declared.refusals.Refusal.TheVariants.{Flow, Step, Repeats, TooLong, Memory}
use Rattle.walks.specs.Walks.{StepsTo}
use Rattle.walks.specs.Explained.ComesThrough.{AtStart, AfterOne}
use Rattle.listeners.specs.declared.turns.Turns.{Turns}
use Rattle.listeners.specs.Turns.{AreOn}
use Rattle.explorer.proofs.StoredStatesLaws.{slice_get-push, slice_get-seam}
use Rattle.walks.proofs.LastJumps.{led_start}

-- ---- the last jumps of the path

walk_from : (how : Precision) (p : Program) (rest before : List State) (s : State)
    → IsWalk how p (rest ++ s ∷ before)
    → IsWalk how p (s ∷ before)
walk_from how p [] before s h = h
walk_from how p (c ∷ rest) before s h = walk_from how p rest before s h.1

pub length-slots : (path : List State) → length (slots_along path) ≡ length path
length-slots [] = refl
length-slots (s ∷ path) =
    length-append (slots_along path) (s.slot ∷ []) ∙ omega (arith, length-slots path)

pub slots_some : (slots : List ℕ) (s : State) (before : List State)
    → slots ≡ slots_along (s ∷ before) → 1 ≤ length slots
slots_some slots s before are =
    omega (arith, ap (λ (xs : List ℕ). length xs) are, length-slots (s ∷ before))

slot_here : (before : List State) (s : State)
    → slice_get (slots_along before ++ s.slot ∷ []) (length before) ≡ Some s.slot
slot_here before s =
    subst (λ k. slice_get (slots_along before ++ s.slot ∷ []) k ≡ Some s.slot) (length-slots before)
    (slice_get-seam (slots_along before) s.slot)

slot_in : (rest before : List State) (s : State)
    → slice_get (slots_along (rest ++ s ∷ before)) (length before) ≡ Some s.slot
slot_in [] before s = slot_here before s
slot_in (c ∷ rest) before s =
    slice_get-push (slots_along (rest ++ s ∷ before)) c.slot (length before) s.slot
    (slot_in rest before s)

-- the jumps lead to the `k`th state of the path
pub record LedAt (how : Precision) (p : Program) (path : List State) (k : ℕ)
    (way : List Jump) : Type 0 where
  pub led : (rest before : List State) (s : State) → path ≡ rest ++ s ∷ before
      → length before + 1 ≡ k → IsLed how p s way

led_first : (how : Precision) (p : Program) (path : List State) (way : List Jump)
    → IsWalk how p path → way ≡ []
    → (rest before : List State) (s : State) → path ≡ rest ++ s ∷ before → length before + 1 ≡ 1
    → IsLed how p s way
led_first how p path way walk none rest [] s is count =
    led_start p s way (walk_from how p rest [] s (subst (IsWalk how p) is walk)).0 none
led_first how p path way walk none rest (b ∷ before) s is count = absurd (omega (arith, count))

pub LedAt-first : (how : Precision) (p : Program) (path : List State) (way : List Jump)
    → IsWalk how p path → way ≡ []
    → LedAt how p path 1 way
LedAt-first how p path way walk none = record { led = led_first how p path way walk none }

-- the next state on the path
led_next : (how : Precision) (p : Program) (path : List State) (slots : List ℕ) (k from to : ℕ)
    (way new : List Jump)
    → IsWalk how p path → slots ≡ slots_along path → 1 ≤ k
    → (slice_get slots (k - 1) ≡ Some from) × (slice_get slots k ≡ Some to)
    →
    ((a s : State) → a.slot ≡ from → s.slot ≡ to → StepsTo how p a s → IsLed how p a way
    → IsLed how p s new)
    → LedAt how p path k way
    → (rest before : List State) (s : State) → path ≡ rest ++ s ∷ before → length before + 1 ≡ k + 1
    → IsLed how p s new
led_next how p path slots k from to way new walk are some (at, next) goes h rest [] s is count =
    absurd (omega (arith, some, count))
led_next how p path slots k from to way new walk are some (at, next) goes h rest
    (a ∷ before) s is count =
    let here = slot_in rest (a ∷ before) s in
    let again : path ≡ (rest ++ s ∷ []) ++ a ∷ before =
    is ∙ sym (append_assoc rest (s ∷ []) (a ∷ before)) in
    let there = slot_in (rest ++ s ∷ []) before a in
    let length_a : length before ≡ k - 1 = omega (arith, count) in
    let length_s : length (a ∷ before) ≡ k = omega (arith, count) in
    let from_is : Some from ≡ Some a.slot =
    sym at ∙ (ap (λ (xs : List ℕ). slice_get xs (k - 1)) (are ∙ ap slots_along again)
    ∙ (ap (λ n. slice_get (slots_along ((rest ++ s ∷ []) ++ a ∷ before)) n) (sym length_a)
    ∙ there)) in
    let to_is : Some to ≡ Some s.slot =
    sym next ∙ (ap (λ (xs : List ℕ). slice_get xs k) (are ∙ ap slots_along is)
    ∙ (ap (λ n. slice_get (slots_along (rest ++ s ∷ a ∷ before)) n) (sym length_s)
    ∙ here)) in
    let steps = (walk_from how p rest (a ∷ before) s (subst (IsWalk how p) is walk)).0 in
    goes a s (cc) (cc) steps (h.led (rest ++ s ∷ []) before a again (omega (arith, count)))

pub LedAt-next : (how : Precision) (p : Program) (path : List State) (slots : List ℕ)
    (k from to : ℕ)
    (way new : List Jump) → IsWalk how p path → slots ≡ slots_along path → 1 ≤ k
    → slice_get slots (k - 1) ≡ Some from → slice_get slots k ≡ Some to
    →
    ((a s : State) → a.slot ≡ from → s.slot ≡ to → StepsTo how p a s → IsLed how p a way
    → IsLed how p s new)
    → LedAt how p path k way → LedAt how p path (k + 1) new
LedAt-next how p path slots k from to way new walk are some at next goes h =
    record { led = led_next how p path slots k from to way new walk are some (at, next) goes h }

-- the end of the path
pub LedAt-last : (how : Precision) (p : Program) (path : List State) (slots : List ℕ) (s : State)
    (k : ℕ)
    (way : List Jump) → slots ≡ slots_along (s ∷ path) → k ≡ length slots
    → LedAt how p (s ∷ path) k way
    → IsLed how p s way
LedAt-last how p path slots s k way are count h =
    let same : length slots ≡ length (s ∷ path) =
    ap (λ (xs : List ℕ). length xs) are ∙ length-slots (s ∷ path) in
    h.led [] path s refl (omega (arith, count, same))

-- the slots of a path are those of the walk to its end
pub came_through : (how : Precision) (p : Program) (before : List State) (s : State)
    → IsWalk how p (s ∷ before)
    → ComesThrough how p s (slots_along (s ∷ before))
came_through how p [] s walk = AtStart s _ walk.0 refl
came_through how p (a ∷ before) s walk =
    AfterOne a s _ _ (came_through how p before a walk.1) walk.0 refl

-- ---- what is kept

-- a path came to one more state
pub arrived : (how : Precision) (image p : Program) (slots new_slots : List ℕ) (slot : ℕ)
    (turns new_turns : Turns)
    (path : List State) (last s : State) → new_slots ≡ slots ++ s.slot ∷ []
    → (s.slot ≡ slot → new_turns.last ≡ s) → (AreOn path turns → AreOn (s ∷ path) new_turns)
    → ComesTo how p path s → HasFollowed how image slots slot turns p path last
    → HasFollowed how image new_slots slot new_turns p (s ∷ path) s
arrived how image p slots new_slots slot turns new_turns path last s are found on comes h = record {
  program = h.program;
  walk = (comes, h.walk);
  slots_are = are ∙ ap (λ (xs : List ℕ). xs ++ s.slot ∷ []) h.slots_are;
  found = found;
  turns_are = on h.turns_are;
}

pub count_of : (how : Precision) (image p : Program) (slots : List ℕ) (slot : ℕ) (turns : Turns)
    (path : List State)
    (last : State) → HasFollowed how image slots slot turns p path last → length path ≡ length slots
count_of how image p slots slot turns path last h =
    sym (ap (λ (xs : List ℕ). length xs) h.slots_are ∙ length-slots path)

popped : (slots new_slots : List ℕ) (slot : Option ℕ) (s : State) (path : List State)
    → slots ≡ new_slots ++ option_to_list slot → IsSome slot
    → slots ≡ slots_along (s ∷ path) → new_slots ≡ slots_along path
popped slots new_slots None s path items some are = absurd (cc some)
popped slots new_slots (Some k) s path items some are =
    (same_from_push new_slots (slots_along path) k s.slot (sym items ∙ are)).0

-- a path left its last state
pub went_back : (how : Precision) (image p : Program) (slots new_slots : List ℕ)
    (popped_slot : Option ℕ) (slot : ℕ)
    (turns new_turns : Turns) (s : State) (path : List State) (last : State)
    → slots ≡ new_slots ++ option_to_list popped_slot → (1 ≤ length slots → IsSome popped_slot)
    → new_turns.last ≡ turns.last
    → (length path ≡ length new_slots → AreOn (s ∷ path) turns → AreOn path new_turns)
    → HasFollowed how image slots slot turns p (s ∷ path) last
    → HasFollowed how image new_slots slot new_turns p path last
went_back how image p slots new_slots top slot turns new_turns s path last items some same on h =
    let rest : new_slots ≡ slots_along path =
    popped slots new_slots top s path items
    (some (slots_some slots s path h.slots_are)) h.slots_are in
    record {
      program = h.program;
      walk = h.walk.1;
      slots_are = rest;
      found = λ at. same ∙ h.found at;
      turns_are = on (sym (ap (λ (xs : List ℕ). length xs) rest ∙ length-slots path)) h.turns_are;
    }

-- ---- what is known in the end

stops_in : (p : Program) (tale : List State → State → Type 0) (e : Refusal) (slot : ℕ)
    → (IsOutsideSearch e → ⊥) → EndsIn p tale e slot → IsToStop p tale e slot
stops_in p tale (Flow e) slot found h = absurd (found tt)
stops_in p tale (Step e) slot found h = h
stops_in p tale Repeats slot found h = h
stops_in p tale TooLong slot found h = h
stops_in p tale Memory slot found h = absurd (found tt)

stops_at : (p : Program) (e : Refusal) (slot : ℕ) → (IsOutsideSearch e → ⊥) → IsRefused p e slot
    → StopsAt Exact p e slot
stops_at p (Flow e) slot found h = absurd (found tt)
stops_at p (Step e) slot found h = h.1
stops_at p Repeats slot found h = h.1
stops_at p TooLong slot found h = h.1
stops_at p Memory slot found h = absurd (found tt)

explains : (p : Program) (tale : List State → State → Type 0) (e : Refusal) (slot : ℕ)
    (x : Explanation) → StopsAt Exact p e slot → IsToStop p tale e slot
    → ((before : List State) (s : State) → tale (s ∷ before) s → s.slot ≡ slot
    → (x.state ≡ s) × IsLed (precision_of e) p s x.way.items
    × IsTurnBefore (precision_of e) p s x.earlier
    × ComesThrough (precision_of e) p s x.slots.items)
    → Explains p e slot x
explains p tale e slot x refused h shown =
    let there = shown h.before h.state h.told h.slot_is in
    let same = sym there.0 in
    record {
      refused = refused;
      led = subst (λ (s : State). IsLed (precision_of e) p s x.way.items) same there.1;
      turn = subst (λ (s : State). IsTurnBefore (precision_of e) p s x.earlier) same there.2;
      through = subst (λ (s : State). ComesThrough (precision_of e) p s x.slots.items) same there.3;
      at = ap (λ (s : State). s.slot) there.0 ∙ h.slot_is;
      stops = subst (λ (s : State). StopsIn p s e) same h.stops;
    }

-- the search found the refusal, at the slot
pub explains_by : (p : Program) (tale : Precision → Program → List State → State → Type 0)
    (refusal e : Refusal) (at slot : ℕ) (x : Explanation) → refusal ≡ e → at ≡ slot
    → (IsOutsideSearch e → ⊥) → IsRefused p refusal at
    → EndsAsPrecise p (λ how. tale how p) refusal at
    → ((how : Precision) (r : Program) (before : List State) (s : State)
    → tale how r (s ∷ before) s → s.slot ≡ slot
    → (x.state ≡ s) × IsLed how r s x.way.items × IsTurnBefore how r s x.earlier
    × ComesThrough how r s x.slots.items)
    → Explains p e slot x
explains_by p tale refusal e at slot x is here found refused ends shown =
    let why = subst (λ k. IsRefused p e k) here (subst (λ r. IsRefused p r at) is refused) in
    let tales : Precision → List State → State → Type 0 = λ how. tale how p in
    let stopped =
    subst (λ k. EndsAsPrecise p tales e k) here
    (subst (λ r. EndsAsPrecise p tales r at) is ends) in
    explains p (tales (precision_of e)) e slot x (stops_at p e slot found why)
    (stops_in p (tales (precision_of e)) e slot found stopped) (shown (precision_of e) p)

-- the path of a search that came to its limit was followed once more, to the slot
pub explains_long : (p : Program) (tale : Precision → Program → List State → State → Type 0)
    (e : Refusal) (at slot : ℕ) (x : Explanation) → e ≡ TooLong → at ≡ slot → IsRefused p e slot
    → HasRetraced (tale Coarse p) at
    → ((how : Precision) (r : Program) (before : List State) (s : State)
    → tale how r (s ∷ before) s → s.slot ≡ slot
    → (x.state ≡ s) × IsLed how r s x.way.items × IsTurnBefore how r s x.earlier
    × ComesThrough how r s x.slots.items)
    → Explains p e slot x
explains_long p tale e at slot x long here refused h shown =
    let ends : EndsAsPrecise p (λ how. tale how p) TooLong slot = record {
      state = h.state;
      before = h.before;
      slot_is = h.slot_is ∙ here;
      stops = tt;
      told = h.told;
    } in
    explains_by p tale e e slot slot x refl refl
    (λ (outside : IsOutsideSearch e). subst IsOutsideSearch long outside) refused
    (subst (λ r. EndsAsPrecise p (λ how. tale how p) r slot) (sym long) ends) shown

-- ---- a search that begins anew

-- nothing is kept of the path before
pub anew : (next how : Precision) (image p : Program) (slots new_slots : List ℕ) (slot : ℕ)
    (turns new_turns : Turns) (path : List State) (last : State) → new_slots ≡ []
    → AreOn [] new_turns → HasFollowed how image slots slot turns p path last
    → (first : State) × HasFollowed next image new_slots slot new_turns p [] first
anew next how image p slots new_slots slot turns new_turns path last none on h = (
  new_turns.last,
  record {
    program = h.program;
    walk = tt;
    slots_are = none;
    found = λ _. refl;
    turns_are = on;
  },
)
