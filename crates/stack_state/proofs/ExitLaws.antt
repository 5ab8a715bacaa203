-- An exit, which pops a call frame, keeps the meaning of an abstract state, if nothing points into
-- the frame.
use Rattle.stack_state.proofs.Common.{◌≡◌, ◌≢◌, ℕ, zero, suc, ◌+◌, ◌-◌, ◌<◌, ◌==◌, List, [], ◌∷◌, ◌++◌, map, take, length, slice_get, slice_index_or, Option, Some, None, Bool, true, false, if◌then◌else◌, sym, ap, ◌∙◌, subst, inl, inr, arith, refl, cases_lt, nat_tests, slice_get_within, length-map, length-take-le, map-append, take-map, take_all, take-append-le, get_or-take, Value, CallFrame, Program, value_at, new_call_frame, call_frame_at, regs_after, leave, callers, innermost, IsState, Kind, Unset, Number, Context, Stack, Packet, PacketEnd, Map, MapValue, MapValueOrNull, Assigned, Allows, AllowsOrNull, AbstractFrame, State, frames_of, no_frame, abstract_frame_at, kind_at, kinds_of, stack_slots_of, depth, registers_of, MeansBy, StackMeans, left_kinds, resumed_of, left, without_last, without_frame}
use Rattle.std.proofs.Math.Seq.{take-suc}
use Rattle.std.proofs.Math.ListN.{get_or-map as get_or-map_default}
use Rattle.isa_model.specs.Machine.States as Machine
use Rattle.stack_state.proofs.MeaningLaws.{length-frames_of, abstract_frame_at-caller, abstract_frame_at-innermost, depth_is_length, FrameKeeps}
use Rattle.stack_state.proofs.StackLaws.{StackMeans-change}

-- ---- what does not point into the last frame

slice_get-take : (xs : List ℕ) (n i m : ℕ) → i < n → slice_get xs i ≡ Some m
    → slice_get (take n xs) i ≡ Some m
slice_get-take [] n i m below is = absurd (cc)
slice_get-take (x ∷ xs) zero i m below is = absurd (omega arith)
slice_get-take (x ∷ xs) (suc n) zero m below is = is
slice_get-take (x ∷ xs) (suc n) (suc i) m below is = slice_get-take xs n i m (omega arith) is

null_left : (e : Assigned) (m : ℕ) (o : Option ℕ) (v : Value) → AllowsOrNull e m o v
    → AllowsOrNull (without_last e) m o v
null_left e m None v h = h
null_left e m (Some n) v h = h

stack_left : (e : Assigned) (n f : ℕ) (v : Value) (b : Bool) (k : Kind) → (f == n) ≡ b
    → length e.frames ≡ suc n → (z : _) → k ≡ Stack f z
    → Allows e (if b then Unset else k) v → Allows (without_last e) (if b then Unset else k) v
stack_left e n f v true k is long z at h = tt
stack_left e n f v false k is long z at h =
    let other : f ≢ n = grind (arith, nat_tests) in
    let points : Allows e (Stack f z) v = subst (λ k. Allows e k v) at h in
    let within = slice_get_within e.frames f points.0 points.1 in
    subst (λ k. Allows (without_last e) k v) (sym at) (
      points.0,
      slice_get-take e.frames (length e.frames - 1) f points.0 (omega arith) points.1,
      points.2,
    )

-- a kind that does not point there still allows what it allowed
pub Allows-without_frame : (e : Assigned) (n : ℕ) (k : Kind) (v : Value) → length e.frames ≡ suc n
    → Allows e (without_frame n k) v → Allows (without_last e) (without_frame n k) v
Allows-without_frame e n Unset v long h = tt
Allows-without_frame e n (Number numbers) v long h = h
Allows-without_frame e n Context v long h = h
Allows-without_frame e n (Stack f z) v long h =
    stack_left e n f v (f == n) (Stack f z) refl long z refl h
Allows-without_frame e n (Packet f i l g p) v long h =
    record { points = h.points; from = h.from; to = h.to; inside = h.inside }
Allows-without_frame e n PacketEnd v long h = h
Allows-without_frame e n (Map m) v long h = h
Allows-without_frame e n (MapValue m l g) v long h =
    record {
      serial = h.serial;
      offset = h.offset;
      points = h.points;
      from = h.from;
      to = h.to;
      live = h.live;
    }
Allows-without_frame e n (MapValueOrNull m i) v long h = null_left e m (e.map_value i) v h

-- ---- registers

left_allowed : (e : Assigned) (ks : List Kind) (answer : Kind) (v : Value) (saved : List Value)
    (serial k : ℕ) → Allows e answer v
    → ((i : ℕ) → i < 4 → Allows e (kind_at ks (6 + i)) (value_at saved i))
    → Allows e (kind_at (left_kinds answer ks) k) (value_at (regs_after v saved serial) k)
left_allowed e ks answer v saved serial zero first all = first
left_allowed e ks answer v saved serial (suc zero) first all = tt
left_allowed e ks answer v saved serial (suc (suc zero)) first all = tt
left_allowed e ks answer v saved serial (suc (suc (suc zero))) first all = tt
left_allowed e ks answer v saved serial (suc (suc (suc (suc zero)))) first all = tt
left_allowed e ks answer v saved serial (suc (suc (suc (suc (suc zero))))) first all = tt
left_allowed e ks answer v saved serial (suc (suc (suc (suc (suc (suc zero)))))) first all =
    all 0 (omega arith)
left_allowed e ks answer v saved serial (suc (suc (suc (suc (suc (suc (suc zero))))))) first all =
    all 1 (omega arith)
left_allowed e ks answer v saved serial
    (suc (suc (suc (suc (suc (suc (suc (suc zero)))))))) first all = all 2 (omega arith)
left_allowed e ks answer v saved serial
    (suc (suc (suc (suc (suc (suc (suc (suc (suc zero))))))))) first all = all 3 (omega arith)
left_allowed e ks answer v saved serial
    (suc (suc (suc (suc (suc (suc (suc (suc (suc (suc k)))))))))) first all = tt

-- ---- the frames after an exit

depth-left : (a : State) → 1 < depth a → depth (left a) + 1 ≡ depth a
depth-left a called =
    let long = length-take-le (length a.callers.items - 1) a.callers.items (omega arith) in
    omega arith

-- the callers of the caller
abstract_frame_at-left_outer : (a : State) (j : ℕ) → 1 < depth a → suc j < depth (left a)
    → abstract_frame_at (left a) j ≡ abstract_frame_at a j
abstract_frame_at-left_outer a j called below =
    let deep = depth-left a called in
    abstract_frame_at-caller (left a) j below
    ∙ get_or-take (length a.callers.items - 1) a.callers.items j no_frame (omega arith)
    ∙ sym (abstract_frame_at-caller a j (omega arith))

-- the caller
abstract_frame_at-left_last : (a : State) → 1 < depth a
    → abstract_frame_at (left a) (length a.callers.items - 1)
    ≡ resumed_of (abstract_frame_at a (length a.callers.items - 1)) (kind_at (registers_of a) 0)
abstract_frame_at-left_last a called =
    let long = length-take-le (length a.callers.items - 1) a.callers.items (omega arith) in
    ap (abstract_frame_at (left a)) (sym long) ∙ abstract_frame_at-innermost (left a)

abbrev return_slot_of : AbstractFrame → ℕ
return_slot_of f = f.return_slot

pub returns-left : (a : State) → 1 < depth a
    → map (λ f. f.return_slot) (frames_of (left a)) ≡ map (λ f. f.return_slot) a.callers.items
returns-left a called =
    let n : ℕ = length a.callers.items - 1 in
    let fs : List AbstractFrame = a.callers.items in
    let one_more : suc n ≡ length fs = omega arith in
    let last : abstract_frame_at a n
    ≡ slice_index_or fs n no_frame = abstract_frame_at-caller a n (omega arith) in
    map-append return_slot_of (take n fs)
    (resumed_of (abstract_frame_at a n) (kind_at (registers_of a) 0) ∷ [])
    ∙ ap (λ f. map return_slot_of (take n fs) ++ f.return_slot ∷ []) last
    ∙ sym (map-append return_slot_of (take n fs) (slice_index_or fs n no_frame ∷ []))
    ∙ ap (map return_slot_of)
    (sym (take-suc fs n no_frame (omega arith)) ∙ take_all (suc n) fs (omega arith))

returns_taken : (a : State)
    → take (length a.callers.items) (map return_slot_of (frames_of a))
    ≡ map return_slot_of a.callers.items
returns_taken a =
    let n : ℕ = length a.callers.items in
    let long = length-map a.callers.items return_slot_of in
    ap (take n) (map-append return_slot_of a.callers.items (a.innermost ∷ []))
    ∙ take-append-le n (map return_slot_of a.callers.items) (a.innermost.return_slot ∷ [])
    (omega arith)
    ∙ take_all n (map return_slot_of a.callers.items) (omega arith)

get_or_any : (xs : List ℕ) (i d c : ℕ) → i < length xs
    → slice_index_or xs i d ≡ slice_index_or xs i c
get_or_any [] i d c inside = absurd (omega arith)
get_or_any (x ∷ xs) zero d c inside = refl
get_or_any (x ∷ xs) (suc i) d c inside = get_or_any xs i d c (omega arith)

returns_last : (a : State) (d : ℕ)
    → slice_index_or (map return_slot_of (frames_of a)) (length a.callers.items) d
    ≡ a.innermost.return_slot
returns_last a d =
    let n : ℕ = length a.callers.items in
    let inside = length-map (frames_of a) return_slot_of in
    let long = length-frames_of a in
    get_or_any (map return_slot_of (frames_of a)) n d no_frame.return_slot (omega arith)
    ∙ get_or-map_default return_slot_of (frames_of a) n no_frame
    ∙ ap return_slot_of (abstract_frame_at-innermost a)

-- the slots of the frames that remain stay
slots_left : (a : State) (j : ℕ) → 1 < depth a → j < depth (left a)
    → stack_slots_of (left a) j ≡ stack_slots_of a j
slots_left a j called below =
    let n : ℕ = length a.callers.items - 1 in
    let deep = depth-left a called in
    elim (cases_lt j n) [
      | inl outer ↦ ap (λ h. h.stack.slots) (abstract_frame_at-left_outer a j called (omega arith))
      | inr top ↦ let here : j ≡ n = omega arith in
          ap (stack_slots_of (left a)) here
          ∙ ap (λ h. h.stack.slots) (abstract_frame_at-left_last a called)
          ∙ ap (stack_slots_of a) (sym here)
    ]

-- ---- the meaning after an exit

-- a frame is popped: nothing that remains points into it, and r6 to r9 are as they were kept
pub MeansBy-leave : (p : Program) (e : Assigned) (a : State) (s : Machine.State) → 1 < depth a
    → IsState p (leave s)
    → ((j : ℕ) → j < depth a
    → FrameKeeps e (without_last e) (abstract_frame_at a j) (abstract_frame_at a j))
    → MeansBy p e a s → MeansBy p (without_last e) (left a) (leave s)
MeansBy-leave p e a s called is each m =
    let n : ℕ = length a.callers.items in
    let f : Assigned = without_last e in
    let fs : List CallFrame = s.frames in
    let count = depth_is_length p e a s m in
    let deep = depth-left a called in
    let serials = length-map fs (λ h. h.serial) in
    let long : length e.frames ≡ length fs = ap length m.assigned.serials ∙ serials in
    let most : length fs - 1 ≡ n = omega arith in
    let last : suc (n - 1) ≡ n = omega arith in
    let top : call_frame_at fs (suc (n - 1))
    ≡ innermost fs = ap (call_frame_at fs) (last ∙ sym most) in
    let none : CallFrame = new_call_frame 0 0 [] in
    let slot : (innermost fs).return_slot ≡ a.innermost.return_slot =
    sym (get_or-map_default (λ h. h.return_slot) fs (length fs - 1) none)
    ∙ ap (λ l. slice_index_or l (length fs - 1) none.return_slot) m.returns
    ∙ ap (λ i. slice_index_or (map return_slot_of (frames_of a)) i none.return_slot) most
    ∙ returns_last a none.return_slot in
    record {
      is_state = is;
      assigned = record {
        none = m.assigned.none;
        length_is = m.assigned.length_is;
        serials =
            ap (λ l. take (length l - 1) l) m.assigned.serials
            ∙ ap (λ i. take (i - 1) (map (λ h. h.serial) fs)) serials
            ∙ take-map (λ h. h.serial) (length fs - 1) fs;
        contents = m.assigned.contents;
      };
      slot_is = slot;
      returns =
          sym (take-map (λ h. h.return_slot) (length fs - 1) fs)
          ∙ ap (take (length fs - 1)) m.returns
          ∙ ap (λ i. take i (map return_slot_of (frames_of a))) most ∙ returns_taken a
          ∙ sym (returns-left a called);
      pointer = refl;
      registers =
          λ k. left_allowed f (kinds_of a (n - 1)) (kind_at (registers_of a) 0) (value_at s.regs 0)
          (innermost fs).saved _ k
          (subst (λ ks. Allows f (kind_at ks 0) (value_at s.regs 0))
          (ap (λ h. h.registers) (abstract_frame_at-innermost a))
          ((each n (omega arith)).registers 0 (value_at s.regs 0)
          (subst (λ ks. Allows e (kind_at ks 0) (value_at s.regs 0))
          (sym (ap (λ h. h.registers) (abstract_frame_at-innermost a))) (m.registers 0))))
          (λ i within.
          (each (n - 1) (omega arith)).registers (6 + i) (value_at (innermost fs).saved i)
          (subst (λ h. Allows e (kind_at (kinds_of a (n - 1)) (6 + i)) (value_at h.saved i)) top
          (m.kept (n - 1) i (omega arith) within)));
      kept = λ j k below within.
          let inner : call_frame_at (callers fs) (suc j) ≡ call_frame_at fs (suc j) =
          get_or-take (length fs - 1) fs (suc j) none (omega arith) in
          subst (λ h. Allows f (kind_at (kinds_of (left a) j) (6 + k)) (value_at h.saved k))
          (sym inner)
          (subst (λ h.
          Allows f (kind_at h.registers (6 + k)) (value_at (call_frame_at fs (suc j)).saved k))
          (sym (abstract_frame_at-left_outer a j called below))
          ((each j (omega arith)).registers (6 + k) (value_at (call_frame_at fs (suc j)).saved k)
          (m.kept j k (omega arith) within)));
      stacks = λ j below.
          let same : call_frame_at (callers fs) j ≡ call_frame_at fs j =
          get_or-take (length fs - 1) fs j none (omega arith) in
          let stays : stack_slots_of (left a) j
          ≡ stack_slots_of a j = slots_left a j called below in
          subst (λ h. StackMeans f (stack_slots_of (left a) j) h.cells) (sym same)
          (subst (λ l. StackMeans f l (call_frame_at fs j).cells) (sym stays)
          (StackMeans-change e f (stack_slots_of a j) (stack_slots_of a j)
          (call_frame_at fs j).cells
          (λ k cs inside. (each j (omega arith)).slots k cs inside)
          (m.stacks j (omega arith))));
    }
