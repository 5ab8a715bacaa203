-- Calls of helpers: the state that the call leaves means the machine's next state.
use Rattle.transfer.proofs.Common.{◌≡◌, ℕ, ◌+◌, ℤ, true, ◌||◌, ◌&&◌, List, slice_get, All, Option, Some, None, Result, Ok, Err, IfOk, sym, subst, refl, R1, R2, R3, R4, MapDef, Num, TrapReason, helper_numbered, Program, IsRow, reg, content_of, and_then, IsState, IsClock, map_argument, BytesArgument, bytes_argument, number_argument, bytes_at, lookup_call, update_call, delete_call, ktime_get_ns, helper_call, answered, after_call, row_within, Kind, MapValueOrNull, Assigned, Allows, State, MeansBy, reg_allowed, kind_of, Refusal, CalledMap, is_untested, called_map, points_to_bytes, is_number, key_arguments, update_arguments, KeyIsKnown, ValueIsKnown, AnswersNumber, AnswersValue, without_values, LeavesIf, StepsHelper, CallsHelper}
use Rattle.isa_model.specs.declared.helpers.Helper.{Helper}
use Rattle.isa_model.specs.declared.helpers.Helper.TheVariants.{MapLookupElem, MapUpdateElem, MapDeleteElem, KtimeGetNs}
use Rattle.isa_model.specs.declared.map_defs.MapType.{MapType}
use Rattle.isa_model.specs.declared.map_defs.MapType.TheVariants.{Hash, Array}
use Rattle.isa_model.specs.Machine.States as Machine
use Rattle.isa_model.specs.Machine.MapContents.{update_answer, delete_answer}
use Rattle.isa_model.specs.Machine.MapHelpers.{Helped, map_lookup_elem, map_update_elem, map_delete_elem}
use Rattle.isa_model.proofs.HelperStates.{IsHelped, helper_call_fits, IsState-answered}
use Rattle.isa_model.proofs.MapRowsLaws.{KeyFits-some}
use Rattle.stack_state.proofs.FillLaws.{any_number}
use Rattle.stack_state.specs.HelperAnswers.{with_answer}
use Rattle.stack_state.proofs.HelperEffects.{MeansBy-answered, MeansBy-looked_up, MeansBy-update, MeansBy-asked, MeansBy-delete}
use Rattle.transfer.proofs.StackAccessLaws.{ContinuesIn}
use Rattle.transfer.proofs.ValueLaws.{GoesIntoSome}
use Rattle.transfer.proofs.HelperArgumentLaws.{argument_of, map_called, judged_map, flags_there, last_of, known_points}

-- ---- what the machine does

then_ok : {A B : Type 0} (r : Result A TrapReason) (x : A) (go : A → Result B TrapReason)
    (y : Result B TrapReason) → r ≡ Ok x → go x ≡ y
    → and_then r go ≡ y
then_ok r x go y is next = subst (λ q. and_then q go ≡ y) (sym is) next

-- the map and the key of a call are there
record KeyRead (p : Program) (s : Machine.State) (m : CalledMap) : Type 0 where
  named : slice_get p.maps m.index ≡ Some m.row
  map_is : map_argument p (reg s R1) ≡ Ok (argument_of m)
  key_at : BytesArgument
  key_is : bytes_argument (reg s R2) ≡ Ok key_at
  key : List ℕ
  reads : bytes_at s key_at m.row.key_size ≡ Ok key

key_read : (p : Program) (e : Assigned) (a : State) (s : Machine.State) (m : CalledMap)
    → All IsRow p.maps → MeansBy p e a s
    → called_map p.maps (kind_of a R1) ≡ Ok m → KeyIsKnown p.maps a m → KeyRead p s m
key_read p e a s m rows means is known =
    let (map_is, named) =
    map_called p e (kind_of a R1) (reg s R1) m is (reg_allowed p e a s means R1) in
    let row : IsRow m.row = row_within p.maps m.index m.row named rows in
    let (at, there, bytes) =
    known_points p e a s (kind_of a R2) (reg s R2) m.row.key_size
    (KeyFits-some m.row.kind m.row.key_size row.key) means
    (reg_allowed p e a s means R2) known in
    record {
      named = named;
      map_is = map_is;
      key_at = at;
      key_is = there;
      key = bytes.0;
      reads = bytes.1;
    }

lookup_is : (p : Program) (s : Machine.State) (m : CalledMap) (h : KeyRead p s m)
    → lookup_call p s ≡ Ok (map_lookup_elem s m.index h.key)
lookup_is p s m h =
    then_ok (map_argument p (reg s R1)) (argument_of m) _ _ h.map_is
    (then_ok (bytes_argument (reg s R2)) h.key_at _ _ h.key_is
    (then_ok (bytes_at s h.key_at m.row.key_size) h.key _ _ h.reads refl))

delete_is : (p : Program) (s : Machine.State) (m : CalledMap) (h : KeyRead p s m)
    → delete_call p s ≡ Ok (map_delete_elem m.row s m.index h.key)
delete_is p s m h =
    then_ok (map_argument p (reg s R1)) (argument_of m) _ _ h.map_is
    (then_ok (bytes_argument (reg s R2)) h.key_at _ _ h.key_is
    (then_ok (bytes_at s h.key_at m.row.key_size) h.key _ _ h.reads refl))

update_is : (p : Program) (s : Machine.State) (m : CalledMap) (h : KeyRead p s m)
    (at : BytesArgument) (bytes : List ℕ) (flags : ℕ)
    → bytes_argument (reg s R3) ≡ Ok at → bytes_at s at m.row.value_size ≡ Ok bytes
    → number_argument (reg s R4) ≡ Ok flags
    → update_call p s ≡ Ok (map_update_elem m.row s m.index h.key bytes flags)
update_is p s m h at bytes flags there reads number =
    then_ok (map_argument p (reg s R1)) (argument_of m) _ _ h.map_is
    (then_ok (bytes_argument (reg s R2)) h.key_at _ _ h.key_is
    (then_ok (bytes_argument (reg s R3)) at _ _ there
    (then_ok (number_argument (reg s R4)) flags _ _ number
    (then_ok (bytes_at s h.key_at m.row.key_size) h.key _ _ h.reads
    (then_ok (bytes_at s at m.row.value_size) bytes _ _ reads refl)))))

-- ---- what is left

-- the helper answers, and its answer is in r0
answer_goes : (p : Program) (f : Assigned) (a b : State) (k : Kind)
    (called : Result Helped TrapReason) (helped : Helped) → called ≡ Ok helped
    → IfOk called (IsHelped p) → b ≡ with_answer a k → Allows f k helped.answer
    → MeansBy p f a helped.state → GoesIntoSome p b (after_call called)
answer_goes p f a b k called helped is fits left allowed means =
    let fit : IsHelped p helped = subst (λ r. IfOk r (IsHelped p)) is fits in (
      f,
      subst (λ r. ContinuesIn p f b (after_call r)) (sym is)
          (subst (λ x. MeansBy p f x (answered helped)) (sym left)
          (MeansBy-answered p f a helped k (IsState-answered p helped fit) allowed means)),
    )

number_goes : (p : Program) (f : Assigned) (a b : State) (n : ℕ) (called : Result Helped TrapReason)
    (t : Machine.State)
    → called ≡ Ok (record { answer = Num n; state = t }) → IfOk called (IsHelped p)
    → AnswersNumber a b → MeansBy p f a t → GoesIntoSome p b (after_call called)
number_goes p f a b n called t is fits (k, any, left) means =
    let helped : Helped = record { answer = Num n; state = t } in
    let fit : IsHelped p helped = subst (λ r. IfOk r (IsHelped p)) is fits in
    answer_goes p f a b k called helped is fits left (any_number f k n fit.1 any) means

state_left : (p : Program) (called : Result Helped TrapReason) (helped : Helped)
    → called ≡ Ok helped → IfOk called (IsHelped p) → IsState p helped.state
state_left p called helped is fits =
    let fit : IsHelped p helped = subst (λ r. IfOk r (IsHelped p)) is fits in fit.0

looked_up : (p : Program) (e : Assigned) (a : State) (s : Machine.State) (m : CalledMap) (b : State)
    → All IsRow p.maps → MeansBy p e a s
    → IfOk (lookup_call p s) (IsHelped p) → called_map p.maps (kind_of a R1) ≡ Ok m
    → KeyIsKnown p.maps a m → AnswersValue a m b → GoesIntoSome p b (after_call (lookup_call p s))
looked_up p e a s m b rows means fits is known (i, fresh, left) =
    let h = key_read p e a s m rows means is known in
    let (f, kept, allowed) = MeansBy-looked_up p e a s m.index i h.key fresh.fresh means in
    answer_goes p f a b (MapValueOrNull m.index i) (lookup_call p s)
    (map_lookup_elem s m.index h.key) (lookup_is p s m h) fits left allowed kept

updated : (p : Program) (e : Assigned) (a : State) (s : Machine.State) (m : CalledMap) (b : State)
    → All IsRow p.maps → MeansBy p e a s
    → IfOk (update_call p s) (IsHelped p) → called_map p.maps (kind_of a R1) ≡ Ok m
    → is_number (kind_of a R4) ≡ true → KeyIsKnown p.maps a m
    → ValueIsKnown p.maps a m → AnswersNumber a b → GoesIntoSome p b (after_call (update_call p s))
updated p e a s m b rows means fits is number key_known value_known left =
    let h = key_read p e a s m rows means is key_known in
    let row : IsRow m.row = row_within p.maps m.index m.row h.named rows in
    let (at, there, bytes) =
    known_points p e a s (kind_of a R3) (reg s R3) m.row.value_size row.some_value means
    (reg_allowed p e a s means R3) value_known in
    let (flags, flagged) =
    flags_there e (kind_of a R4) (reg s R4) number (reg_allowed p e a s means R4) in
    let helped : Helped = map_update_elem m.row s m.index h.key bytes.0 flags in
    let done = update_is p s m h at bytes.0 flags there bytes.1 flagged in
    let (f, kept) =
    MeansBy-update p e a s m.index m.row h.key bytes.0 flags h.named
    (state_left p (update_call p s) helped done fits) means in
    number_goes p f a b (update_answer m.row (content_of s m.index) h.key flags)
    (update_call p s) helped.state done fits left kept

-- nothing is deleted from an array
deleted_means : (p : Program) (e : Assigned) (a : State) (s : Machine.State) (m : ℕ) (row : MapDef)
    (kind : MapType) (key : List ℕ) → row.kind ≡ kind
    → IsState p (map_delete_elem row s m key).state → MeansBy p e a s
    → (f : Assigned) × MeansBy p f (without_values kind m a) (map_delete_elem row s m key).state
deleted_means p e a s m row Hash key is state means = MeansBy-delete p e a s m row key state means
deleted_means p e a s m row Array key is state means =
    let same : (map_delete_elem row s m key).state ≡ s = rw is refl in
    (e, subst (MeansBy p e a) (sym same) means)

deleted : (p : Program) (e : Assigned) (a : State) (s : Machine.State) (m : CalledMap) (b : State)
    → All IsRow p.maps → MeansBy p e a s
    → IfOk (delete_call p s) (IsHelped p) → called_map p.maps (kind_of a R1) ≡ Ok m
    → KeyIsKnown p.maps a m → AnswersNumber (without_values m.row.kind m.index a) b
    → GoesIntoSome p b (after_call (delete_call p s))
deleted p e a s m b rows means fits is known left =
    let h = key_read p e a s m rows means is known in
    let helped : Helped = map_delete_elem m.row s m.index h.key in
    let done = delete_is p s m h in
    let (f, kept) =
    deleted_means p e a s m.index m.row m.row.kind h.key refl
    (state_left p (delete_call p s) helped done fits) means in
    number_goes p f (without_values m.row.kind m.index a) b
    (delete_answer m.row (content_of s m.index) h.key)
    (delete_call p s) helped.state done fits left kept

-- ---- every helper

-- what is left where it is not refused
left_by : (b : State) (map : Result CalledMap Refusal) (Known : CalledMap → Type 0)
    (leaves : CalledMap → State → Type 0)
    → LeavesIf map Known leaves b (Ok tt) → (m : CalledMap) × (map ≡ Ok m) × Known m × leaves m b
left_by b (Ok m) Known leaves h = (m, refl, h.0, h.1)
left_by b (Err e) Known leaves h = absurd (cc)

helps_goes : (p : Program) (clock : ℕ → ℕ) (e : Assigned) (a : State) (s : Machine.State)
    (helper : Option Helper) (b : State) → IsClock clock
    → All IsRow p.maps → MeansBy p e a s → IfOk (helper_call p clock s helper) (IsHelped p)
    → StepsHelper p.maps a helper b (Ok tt)
    → GoesIntoSome p b (after_call (helper_call p clock s helper))
helps_goes p clock e a s (Some MapLookupElem) b answers rows means fits h =
    let (m, is, known, left) =
    left_by b (key_arguments p.maps a) (KeyIsKnown p.maps a) (AnswersValue a) h in
    let passed = judged_map (is_untested (kind_of a R1) || is_untested (kind_of a R2))
    (points_to_bytes (kind_of a R2))
    (called_map p.maps (kind_of a R1)) m is in
    looked_up p e a s m b rows means fits passed.0 known left
helps_goes p clock e a s (Some MapUpdateElem) b answers rows means fits h =
    let (m, is, known, left) =
    left_by b (update_arguments p.maps a) (λ m. KeyIsKnown p.maps a m × ValueIsKnown p.maps a m)
    (λ m. AnswersNumber a) h in
    let passed = judged_map
    ((is_untested (kind_of a R1) || is_untested (kind_of a R2))
    || (is_untested (kind_of a R3) || is_untested (kind_of a R4)))
    (points_to_bytes (kind_of a R2) && (points_to_bytes (kind_of a R3) && is_number (kind_of a R4)))
    (called_map p.maps (kind_of a R1)) m is in
    updated p e a s m b rows means fits passed.0
    (last_of (points_to_bytes (kind_of a R2)) (points_to_bytes (kind_of a R3))
    (is_number (kind_of a R4)) passed.1)
    known.0 known.1 left
helps_goes p clock e a s (Some MapDeleteElem) b answers rows means fits h =
    let (m, is, known, left) =
    left_by b (key_arguments p.maps a) (KeyIsKnown p.maps a)
    (λ m. AnswersNumber (without_values m.row.kind m.index a)) h in
    let passed = judged_map (is_untested (kind_of a R1) || is_untested (kind_of a R2))
    (points_to_bytes (kind_of a R2))
    (called_map p.maps (kind_of a R1)) m is in
    deleted p e a s m b rows means fits passed.0 known left
helps_goes p clock e a s (Some KtimeGetNs) b answers rows means fits h =
    let helped : Helped = ktime_get_ns clock s in
    let kept = MeansBy-asked p e a s (s.clock_calls + 1) fits.0 means in
    number_goes p _ a b (clock s.clock_calls) (Ok helped) helped.state refl fits h.1 kept
helps_goes p clock e a s None b answers rows means fits h = absurd (cc)

-- where a call is not refused, the machine does not trap, and the state that is left means its next
-- state
pub helper_call_goes : (p : Program) (clock : ℕ → ℕ) (e : Assigned) (a : State) (s : Machine.State)
    (number : ℤ) (left : State) → IsClock clock
    → All IsRow p.maps → MeansBy p e a s → CallsHelper p.maps a number left (Ok tt)
    → GoesIntoSome p left (after_call (helper_call p clock s (helper_numbered number)))
helper_call_goes p clock e a s number left answers rows means h =
    helps_goes p clock e a s (helper_numbered number) left answers rows means
    (helper_call_fits p clock s (helper_numbered number) answers means.is_state) h
