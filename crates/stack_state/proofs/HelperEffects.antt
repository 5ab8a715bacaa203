-- What helpers do keeps the meaning of an abstract state: keys looked up, put and removed, and an
-- answer in r0.
use Rattle.stack_state.proofs.Common.{◌≡◌, ℕ, zero, suc, ◌+◌, ◌<◌, ◌==◌, Bool, true, false, if◌then◌else◌, nat_eq, List, [], ◌∷◌, ◌++◌, map, drop, length, replicate, slice_get, slice_set, slice_index_or, Contains, Option, Some, None, inl, inr, sym, ap, ◌∙◌, subst, arith, refl, cases_eq, cases_lt, nat_tests, map-append, get_or-drop, get_or_past, get_or-set_same, get_or-set_other, All-contains_itself, Contains-append_left, Contains-append_right, Contains-append_cases, Value, Program, Stored, Content, value_at, call_frame_at, content_of, key_values_of, IsState, value_serials, Kind, MapValueOrNull, Assigned, Allows, AllowsOrNull, HasLiveValue, State, frames_of, abstract_frame_at, kind_at, stack_slots_of, depth, registers_of, MeansBy, IsFreshNull, StackMeans, KeepsOtherMaps, with_maps, forgotten_in, left_kinds, resumed_of}
use Rattle.isa_model.specs.declared.map_defs.MapDef.{MapDef}
use Rattle.isa_model.specs.declared.values.Value.TheVariants as value
use Rattle.isa_model.specs.Machine.States as Machine
use Rattle.isa_model.specs.Machine.MapContents.{at_key, with_key, without_key, update_answer, delete_answer}
use Rattle.isa_model.specs.Machine.MapHelpers.{Helped, serial_given, serial_after, put_bytes, remove_key, pointer_or_zero, map_update_elem, map_delete_elem}
use Rattle.isa_model.specs.Machine.HelperCalls.{answered}
use Rattle.isa_model.proofs.HelperLaws.{content_fits}
use Rattle.isa_model.proofs.SerialLaws.{HasOneMore}
use Rattle.isa_model.proofs.ContentLaws.{is_sorted-key_values_of, at_key-value_serials, value_serials-with_key, HasOneMore-with_key}
use Rattle.reg_state.proofs.KindLaws.{with_map_value}
use Rattle.stack_state.proofs.MeaningLaws.{abstract_frame_at-caller, stack_at-last, MeansBy-fresh_null}
use Rattle.stack_state.proofs.KindEffects.{MeansBy-forgets}
use Rattle.stack_state.specs.HelperAnswers.{with_answer}
use Rattle.stack_state.proofs.ValueEffects.{KeepsLive, MeansBy-given}

-- ---- an answer in r0

answered_allowed : (e : Assigned) (answer : Kind) (ks : List Kind) (v : Value) (regs : List Value)
    (k : ℕ) → Allows e answer v
    → ((i : ℕ) → Allows e (kind_at ks i) (value_at regs i))
    → Allows e (kind_at (left_kinds answer ks) k)
    (value_at (v ∷ (replicate 5 value.Unset ++ drop 6 regs)) k)
answered_allowed e answer ks v regs zero new all = new
answered_allowed e answer ks v regs (suc zero) new all = tt
answered_allowed e answer ks v regs (suc (suc zero)) new all = tt
answered_allowed e answer ks v regs (suc (suc (suc zero))) new all = tt
answered_allowed e answer ks v regs (suc (suc (suc (suc zero)))) new all = tt
answered_allowed e answer ks v regs (suc (suc (suc (suc (suc zero))))) new all = tt
answered_allowed e answer ks v regs (suc (suc (suc (suc (suc (suc zero)))))) new all =
    subst (Allows e (kind_at ks 6)) (sym (get_or-drop 6 regs 0 value.Unset)) (all 6)
answered_allowed e answer ks v regs (suc (suc (suc (suc (suc (suc (suc zero))))))) new all =
    subst (Allows e (kind_at ks 7)) (sym (get_or-drop 6 regs 1 value.Unset)) (all 7)
answered_allowed e answer ks v regs (suc (suc (suc (suc (suc (suc (suc (suc zero)))))))) new all =
    subst (Allows e (kind_at ks 8)) (sym (get_or-drop 6 regs 2 value.Unset)) (all 8)
answered_allowed e answer ks v regs
    (suc (suc (suc (suc (suc (suc (suc (suc (suc zero))))))))) new all =
    subst (Allows e (kind_at ks 9)) (sym (get_or-drop 6 regs 3 value.Unset)) (all 9)
answered_allowed e answer ks v regs
    (suc (suc (suc (suc (suc (suc (suc (suc (suc (suc k)))))))))) new all = tt

-- the exits lead where they did
pub returns-with_answer : (a : State) (k : Kind)
    → map (λ f. f.return_slot) (frames_of (with_answer a k))
    ≡ map (λ f. f.return_slot) (frames_of a)
returns-with_answer a k =
    map-append (λ f. f.return_slot) a.callers.items (resumed_of a.innermost k ∷ [])
    ∙ sym (map-append (λ f. f.return_slot) a.callers.items (a.innermost ∷ []))

abstract_frame_at-with_answer : (a : State) (k : Kind) (j : ℕ) → suc j < depth a
    → abstract_frame_at (with_answer a k) j ≡ abstract_frame_at a j
abstract_frame_at-with_answer a k j below =
    abstract_frame_at-caller (with_answer a k) j below ∙ sym (abstract_frame_at-caller a j below)

stack_slots_of-with_answer : (a : State) (k : Kind) (j : ℕ)
    → stack_slots_of (with_answer a k) j ≡ stack_slots_of a j
stack_slots_of-with_answer a k j =
    ap (λ s. s.slots) (stack_at-last a.callers.items (resumed_of a.innermost k) a.innermost j refl)

-- r0 holds the answer, which its kind allows, and r1 to r5 are unset
pub MeansBy-answered : (p : Program) (e : Assigned) (a : State) (helped : Helped) (k : Kind)
    → IsState p (answered helped) → Allows e k helped.answer → MeansBy p e a helped.state
    → MeansBy p e (with_answer a k) (answered helped)
MeansBy-answered p e a helped k is new m =
    let s : Machine.State = helped.state in
    record {
      is_state = is;
      assigned = record {
        none = m.assigned.none;
        length_is = m.assigned.length_is;
        serials = m.assigned.serials;
        contents = m.assigned.contents;
      };
      slot_is = m.slot_is;
      returns = m.returns ∙ sym (returns-with_answer a k);
      pointer = get_or-drop 6 s.regs 4 value.Unset ∙ m.pointer;
      registers = λ j. answered_allowed e k (registers_of a) helped.answer s.regs j new m.registers;
      kept =
          λ j i below within.
          subst (λ f.
          Allows e (kind_at f.registers (6 + i))
          (value_at (call_frame_at s.frames (suc j)).saved i))
          (sym (abstract_frame_at-with_answer a k j below)) (m.kept j i below within);
      stacks =
          λ j below.
          subst (λ slots. StackMeans e slots (call_frame_at s.frames j).cells)
          (sym (stack_slots_of-with_answer a k j)) (m.stacks j below);
    }

-- ---- keys looked up

same_identity : (i : ℕ) → nat_eq i i ≡ true
same_identity i = grind (arith, nat_tests)

-- a fresh identity is assigned what was found
found_here : (e : Assigned) (i : ℕ) (o : Option ℕ) → (with_map_value e i o).map_value i ≡ o
found_here e i o = ap (λ (b : Bool). if b then o else e.map_value i) (same_identity i)

-- a key's value is live
pub HasLiveValue-at_key : (maps : List Content) (m : ℕ) (key : List ℕ) (stored : Stored)
    → at_key key (slice_index_or maps m []) ≡ Some stored → HasLiveValue maps m stored.serial
HasLiveValue-at_key maps m key stored found =
    let content : Content = slice_index_or maps m [] in
    at_key-value_serials (Contains (value_serials content)) key stored content found
    (All-contains_itself (value_serials content))

-- a look-up answers what a fresh null identity may be assigned
pub MeansBy-looked_up : (p : Program) (e : Assigned) (a : State) (s : Machine.State) (m i : ℕ)
    (key : List ℕ) → IsFreshNull a i → MeansBy p e a s
    → (f : Assigned) × MeansBy p f a s
    × Allows f (MapValueOrNull m i) (pointer_or_zero m (at_key key (content_of s m)))
MeansBy-looked_up p e a s m i key fresh means = by (at_key key (content_of s m)) refl
  where
    by : (o : Option Stored) → at_key key (content_of s m) ≡ o
        → (f : Assigned) × MeansBy p f a s × Allows f (MapValueOrNull m i) (pointer_or_zero m o)
    by None found =
        let f : Assigned = with_map_value e i None in
        let v : Value = pointer_or_zero m None in (
          f,
          MeansBy-fresh_null p e a s i None fresh means,
          subst (λ n. AllowsOrNull f m n v) (sym (found_here e i None)) refl,
        )
    by (Some stored) found =
        let f : Assigned = with_map_value e i (Some stored.serial) in
        let v : Value = pointer_or_zero m (Some stored) in
        let live : HasLiveValue s.maps m stored.serial =
        HasLiveValue-at_key s.maps m key stored found in (
          f,
          MeansBy-fresh_null p e a s i (Some stored.serial) fresh means,
          subst (λ n. AllowsOrNull f m n v) (sym (found_here e i (Some stored.serial))) (
            refl,
            subst (λ maps. HasLiveValue maps m stored.serial)
                (sym means.assigned.contents) live,
          ),
        )

-- ---- keys put

more_live : (n x : ℕ) (some more : List ℕ) → HasOneMore n some more → Contains some x
    → Contains more x
more_live n x some more one h =
    let there : Contains (one.front ++ one.back) x = subst (λ l. Contains l x) one.some_is h in
    subst (λ l. Contains l x) (sym one.more_is)
    (elim (Contains-append_cases one.front one.back x there) [
      | inl before ↦ Contains-append_left one.front (n ∷ one.back) x before
      | inr after ↦
          Contains-append_right one.front (n ∷ one.back) x
          (Contains-append_right (n ∷ []) one.back x after)
    ])

-- where the serials of one content stay, so do the live map values of all
KeepsLive-set : (maps : List Content) (m : ℕ) (content : Content)
    → ((n : ℕ) → Contains (value_serials (slice_index_or maps m [])) n
    → Contains (value_serials content) n)
    → KeepsLive maps (slice_set maps m content)
KeepsLive-set maps m content stays j n live = elim (cases_eq j m) [
  | inr other ↦
      subst (λ c. Contains (value_serials c) n)
      (sym (get_or-set_other maps m j content [] other)) live
  | inl same ↦ elim (cases_lt m (length maps)) [
    | inl inside ↦
        let here : HasLiveValue maps m n = subst (λ i. HasLiveValue maps i n) same live in
        subst (λ i. HasLiveValue (slice_set maps m content) i n) (sym same)
        (subst (λ c. Contains (value_serials c) n) (sym (get_or-set_same maps m content [] inside))
        (stays n here))
    | inr past ↦
        let none : slice_index_or maps j [] ≡ [] = get_or_past maps j [] (omega arith) in
        absurd (nothing n (subst (λ c. Contains (value_serials c) n) none live))
  ]
]
  where
    nothing : (n : ℕ) → Contains (value_serials []) n → ⊥
    nothing n (i, below, h) = absurd (omega arith)

-- a present key keeps its serial, and a new one is given one more
put_stays : (p : Program) (s : Machine.State) (m : ℕ) (row : MapDef) (key bytes : List ℕ)
    (old : Option Stored) → at_key key (content_of s m) ≡ old
    → slice_get p.maps m ≡ Some row → IsState p s → (n : ℕ)
    → Contains (value_serials (content_of s m)) n → Contains
    (value_serials
    (with_key key (record { serial = serial_given s.next_serial old; bytes = bytes })
    (content_of s m))) n
put_stays p s m row key bytes (Some old) found e is n live =
    let new : Stored = record { serial = old.serial; bytes = bytes } in
    let sorted = is_sorted-key_values_of row (content_of s m) (content_fits p s m row e is) in
    subst (λ l. Contains l n)
    (sym (value_serials-with_key key new old (content_of s m) refl found sorted)) live
put_stays p s m row key bytes None found e is n live =
    let new : Stored = record { serial = s.next_serial; bytes = bytes } in
    more_live s.next_serial n (value_serials (content_of s m))
    (value_serials (with_key key new (content_of s m)))
    (HasOneMore-with_key key new (content_of s m) found) live

pub MeansBy-put_bytes : (p : Program) (e : Assigned) (a : State) (s : Machine.State) (m : ℕ)
    (row : MapDef) (key bytes : List ℕ)
    → slice_get p.maps m ≡ Some row → IsState p (put_bytes s m key bytes) → MeansBy p e a s
    → MeansBy p (with_maps e (put_bytes s m key bytes).maps) a (put_bytes s m key bytes)
MeansBy-put_bytes p e a s m row key bytes named is means =
    let old : Option Stored = at_key key (content_of s m) in
    let new : Stored = record { serial = serial_given s.next_serial old; bytes = bytes } in
    MeansBy-given p e a s (slice_set s.maps m (with_key key new (content_of s m)))
    (serial_after s.next_serial old) s.clock_calls
    (KeepsLive-set s.maps m (with_key key new (content_of s m))
    (put_stays p s m row key bytes old refl named means.is_state)) is means

-- an update keeps what is known
pub MeansBy-update : (p : Program) (e : Assigned) (a : State) (s : Machine.State) (m : ℕ)
    (row : MapDef) (key bytes : List ℕ) (flags : ℕ)
    → slice_get p.maps m ≡ Some row → IsState p (map_update_elem row s m key bytes flags).state
    → MeansBy p e a s
    → (f : Assigned) × MeansBy p f a (map_update_elem row s m key bytes flags).state
MeansBy-update p e a s m row key bytes flags named is means =
    by (update_answer row (content_of s m) key flags == 0) is
  where
    by : (b : Bool) → IsState p (if b then put_bytes s m key bytes else s)
        → (f : Assigned) × MeansBy p f a (if b then put_bytes s m key bytes else s)
    by true is = (
      with_maps e (put_bytes s m key bytes).maps,
      MeansBy-put_bytes p e a s m row key bytes named is means,
    )
    by false is = (e, means)

-- the clock was asked
pub MeansBy-asked : (p : Program) (e : Assigned) (a : State) (s : Machine.State) (calls : ℕ)
    → IsState p (record s { clock_calls = calls })
    → MeansBy p e a s → MeansBy p (with_maps e s.maps) a (record s { clock_calls = calls })
MeansBy-asked p e a s calls is means =
    MeansBy-given p e a s s.maps s.next_serial calls (λ j n live. live) is means

-- ---- keys removed

KeepsOtherMaps-set : (maps : List Content) (m : ℕ) (content : Content)
    → KeepsOtherMaps m maps (slice_set maps m content)
KeepsOtherMaps-set maps m content j n other live =
    subst (λ c. Contains (value_serials c) n)
    (sym (get_or-set_other maps m j content [] other)) live

-- a delete keeps what is known of all other maps' values
pub MeansBy-delete : (p : Program) (e : Assigned) (a : State) (s : Machine.State) (m : ℕ)
    (row : MapDef) (key : List ℕ)
    → IsState p (map_delete_elem row s m key).state → MeansBy p e a s
    → (f : Assigned) × MeansBy p f (forgotten_in m a) (map_delete_elem row s m key).state
MeansBy-delete p e a s m row key is means = by (delete_answer row (content_of s m) key == 0) is
  where
    removed : List Content
    removed = slice_set s.maps m (without_key key (content_of s m))

    by : (b : Bool) → IsState p (if b then remove_key s m key else s)
        → (f : Assigned) × MeansBy p f (forgotten_in m a) (if b then remove_key s m key else s)
    by true is = (
      with_maps e removed,
      MeansBy-forgets p e a s m removed
          (KeepsOtherMaps-set s.maps m (without_key key (content_of s m))) is means,
    )
    by false is =
        (with_maps e s.maps, MeansBy-forgets p e a s m s.maps (λ j n other live. live) is means)
