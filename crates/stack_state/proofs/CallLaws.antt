-- A call, which pushes a call frame, keeps the meaning of an abstract state.
use Rattle.stack_state.proofs.Common.{◌≡◌, ℕ, zero, suc, ◌+◌, ◌-◌, ◌<◌, List, [], ◌∷◌, ◌++◌, map, length, slice_get, slice_index_or, Option, Some, None, sym, ap, ◌∙◌, subst, inl, inr, arith, refl, cases_lt, length-append, length-replicate, map-append, get_or_append_left, get_or-append_right, stack_size, Value, Cell, Unwritten, CallFrame, Program, value_at, new_call_frame, call_frame_at, saved_registers, regs_within, enter, innermost, IsState, Kind, Unset, Number, Context, Stack, Packet, PacketEnd, Map, MapValue, MapValueOrNull, Assigned, Allows, AllowsOrNull, StackSlot, Written, Spilled, State, frames_of, no_frame, abstract_frame_at, kind_at, kinds_of, stack_slots_of, depth, registers_of, MeansBy, SlotMeans, StackMeans, kept_kinds, argument_kinds, unset_slots, caller_of, callee_of, entered, with_new_frame}
use Rattle.isa_model.specs.Machine.States as Machine
use Rattle.stack_state.proofs.MeaningLaws.{abstract_frame_at-caller, abstract_frame_at-innermost, depth_is_length}
use Rattle.stack_state.proofs.StackLaws.{StackMeans-change, SlotMeans-spilled, StackMeans-new}

-- ---- one frame more in the assignment

frames-push : (serials : List ℕ) (serial f n : ℕ) → slice_get serials f ≡ Some n
    → slice_get (serials ++ serial ∷ []) f ≡ Some n
frames-push [] serial f n is = absurd (cc)
frames-push (x ∷ serials) serial zero n is = is
frames-push (x ∷ serials) serial (suc f) n is = frames-push serials serial f n is

null_deeper : (e : Assigned) (serial m : ℕ) (o : Option ℕ) (v : Value) → AllowsOrNull e m o v
    → AllowsOrNull (with_new_frame e serial) m o v
null_deeper e serial m None v h = h
null_deeper e serial m (Some n) v h = h

-- a kind then still allows what it allowed
Allows-deeper : (e : Assigned) (serial : ℕ) (k : Kind) (v : Value) → Allows e k v
    → Allows (with_new_frame e serial) k v
Allows-deeper e serial Unset v h = tt
Allows-deeper e serial (Number numbers) v h = h
Allows-deeper e serial Context v h = h
Allows-deeper e serial (Stack f z) v h = (h.0, frames-push e.frames serial f h.0 h.1, h.2)
Allows-deeper e serial (Packet f i l g p) v h =
    record { points = h.points; from = h.from; to = h.to; inside = h.inside }
Allows-deeper e serial PacketEnd v h = h
Allows-deeper e serial (Map m) v h = h
Allows-deeper e serial (MapValue m l g) v h =
    record {
      serial = h.serial;
      offset = h.offset;
      points = h.points;
      from = h.from;
      to = h.to;
      live = h.live;
    }
Allows-deeper e serial (MapValueOrNull m i) v h = null_deeper e serial m (e.map_value i) v h

SlotMeans-deeper : (e : Assigned) (serial : ℕ) (t : StackSlot) (cs : List Cell) → SlotMeans e t cs
    → SlotMeans (with_new_frame e serial) t cs
SlotMeans-deeper e serial (Written marks) cs h = h
SlotMeans-deeper e serial (Spilled k) cs h =
    SlotMeans-spilled e (with_new_frame e serial) k k cs (Allows-deeper e serial k) h

StackMeans-deeper : (e : Assigned) (serial : ℕ) (slots : List StackSlot) (cells : List Cell)
    → StackMeans e slots cells → StackMeans (with_new_frame e serial) slots cells
StackMeans-deeper e serial slots cells m =
    StackMeans-change e (with_new_frame e serial) slots slots cells
    (λ k cs below. SlotMeans-deeper e serial _ cs) m

-- ---- one frame more at the end

last_frame : (fs : List CallFrame) (f : CallFrame) → call_frame_at (fs ++ f ∷ []) (length fs) ≡ f
last_frame fs f =
    let here : length fs - length fs ≡ 0 = omega arith in
    get_or-append_right fs (f ∷ []) (length fs) (length fs) (new_call_frame 0 0 []) refl
    (omega arith)
    ∙ ap (call_frame_at (f ∷ [])) here

innermost-push : (fs : List CallFrame) (f : CallFrame) → innermost (fs ++ f ∷ []) ≡ f
innermost-push fs f =
    let long : length (fs ++ f ∷ []) ≡ length fs + 1 = length-append fs (f ∷ []) in
    let last : length (fs ++ f ∷ []) - 1 ≡ length fs = omega arith in
    ap (call_frame_at (fs ++ f ∷ [])) last ∙ last_frame fs f

-- ---- registers

passed_allowed : (e : Assigned) (ks : List Kind) (regs : List Value) (serial k : ℕ)
    → ((i : ℕ) → Allows e (kind_at ks i) (value_at regs i))
    → Allows e (kind_at (argument_kinds ks) k) (value_at (regs_within regs serial) k)
passed_allowed e ks regs serial zero all = tt
passed_allowed e ks regs serial (suc zero) all = all 1
passed_allowed e ks regs serial (suc (suc zero)) all = all 2
passed_allowed e ks regs serial (suc (suc (suc zero))) all = all 3
passed_allowed e ks regs serial (suc (suc (suc (suc zero)))) all = all 4
passed_allowed e ks regs serial (suc (suc (suc (suc (suc zero))))) all = all 5
passed_allowed e ks regs serial (suc (suc (suc (suc (suc (suc zero)))))) all = tt
passed_allowed e ks regs serial (suc (suc (suc (suc (suc (suc (suc zero))))))) all = tt
passed_allowed e ks regs serial (suc (suc (suc (suc (suc (suc (suc (suc zero)))))))) all = tt
passed_allowed e ks regs serial (suc (suc (suc (suc (suc (suc (suc (suc (suc zero))))))))) all = tt
passed_allowed e ks regs serial (suc (suc (suc (suc (suc (suc (suc (suc (suc (suc k)))))))))) all =
    tt

kept_allowed : (e : Assigned) (ks : List Kind) (regs : List Value) (k : ℕ) → k < 4
    → ((i : ℕ) → Allows e (kind_at ks i) (value_at regs i))
    → Allows e (kind_at (kept_kinds ks) (6 + k)) (value_at (saved_registers regs) k)
kept_allowed e ks regs zero below all = all 6
kept_allowed e ks regs (suc zero) below all = all 7
kept_allowed e ks regs (suc (suc zero)) below all = all 8
kept_allowed e ks regs (suc (suc (suc zero))) below all = all 9
kept_allowed e ks regs (suc (suc (suc (suc k)))) below all = absurd (omega arith)

-- ---- the frames after a call

depth-entered : (a : State) (target : ℕ) → depth (entered a target) ≡ depth a + 1
depth-entered a target =
    ap (λ n. n + 1) (length-append a.callers.items (caller_of a.innermost ∷ []))

-- the callers of the caller
abstract_frame_at-entered_outer : (a : State) (target j : ℕ) → suc j < depth a
    → abstract_frame_at (entered a target) j ≡ abstract_frame_at a j
abstract_frame_at-entered_outer a target j below =
    let deep = depth-entered a target in
    abstract_frame_at-caller (entered a target) j (omega arith)
    ∙ get_or_append_left a.callers.items (caller_of a.innermost ∷ []) no_frame j (omega arith)
    ∙ sym (abstract_frame_at-caller a j below)

-- the caller
abstract_frame_at-entered_caller : (a : State) (target : ℕ)
    → abstract_frame_at (entered a target) (length a.callers.items) ≡ caller_of a.innermost
abstract_frame_at-entered_caller a target =
    let n : ℕ = length a.callers.items in
    let deep = depth-entered a target in
    let here : n - n ≡ 0 = omega arith in
    abstract_frame_at-caller (entered a target) n (omega arith)
    ∙ get_or-append_right a.callers.items (caller_of a.innermost ∷ []) n n no_frame refl
    (omega arith)
    ∙ ap (λ i. slice_index_or (caller_of a.innermost ∷ []) i no_frame) here

-- the function that is called
abstract_frame_at-entered_callee : (a : State) (target : ℕ)
    → abstract_frame_at (entered a target) (depth a) ≡ callee_of a.innermost (a.slot + 1)
abstract_frame_at-entered_callee a target =
    ap (abstract_frame_at (entered a target))
    (sym (length-append a.callers.items (caller_of a.innermost ∷ [])))
    ∙ abstract_frame_at-innermost (entered a target)

pub returns-entered : (a : State) (target : ℕ)
    → map (λ f. f.return_slot) (frames_of (entered a target))
    ≡ map (λ f. f.return_slot) (frames_of a) ++ (a.slot + 1) ∷ []
returns-entered a target =
    map-append (λ f. f.return_slot) (a.callers.items ++ caller_of a.innermost ∷ [])
    (callee_of a.innermost (a.slot + 1) ∷ [])
    ∙ ap (λ l. l ++ (a.slot + 1) ∷ [])
    (map-append (λ f. f.return_slot) a.callers.items (caller_of a.innermost ∷ [])
    ∙ sym (map-append (λ f. f.return_slot) a.callers.items (a.innermost ∷ [])))

-- ---- the meaning after a call

stack_entered : (p : Program) (e : Assigned) (a : State) (s : Machine.State) (target j : ℕ)
    → j < depth (entered a target) → MeansBy p e a s
    → StackMeans (with_new_frame e s.next_serial) (stack_slots_of (entered a target) j)
    (call_frame_at (enter s target).frames j).cells
unfolding new_call_frame unset_slots
stack_entered p e a s target j below m =
    let n : ℕ = length a.callers.items in
    let more : Assigned = with_new_frame e s.next_serial in
    let new : CallFrame = new_call_frame s.next_serial (s.slot + 1) (saved_registers s.regs) in
    let count = depth_is_length p e a s m in
    let deep = depth-entered a target in
    elim (cases_lt j (depth a)) [
      | inl inside ↦
          let old : call_frame_at (s.frames ++ new ∷ []) j ≡ call_frame_at s.frames j =
          get_or_append_left s.frames (new ∷ []) (new_call_frame 0 0 []) j (omega arith) in
          let same : stack_slots_of (entered a target) j
          ≡ stack_slots_of a j = elim (cases_lt j n) [
            | inl outer ↦
                ap (λ f. f.stack.slots) (abstract_frame_at-entered_outer a target j (omega arith))
            | inr last ↦ let here : j ≡ n = omega arith in
                ap (stack_slots_of (entered a target)) here
                ∙ ap (λ f. f.stack.slots) (abstract_frame_at-entered_caller a target)
                ∙ ap (λ f. f.stack.slots) (sym (abstract_frame_at-innermost a))
                ∙ ap (stack_slots_of a) (sym here)
          ] in
          subst (λ f. StackMeans more (stack_slots_of (entered a target) j) f.cells) (sym old)
          (subst (λ slots. StackMeans more slots (call_frame_at s.frames j).cells) (sym same)
          (StackMeans-deeper e s.next_serial (stack_slots_of a j) (call_frame_at s.frames j).cells
          (m.stacks j inside)))
      | inr past ↦
          let here : j ≡ length s.frames = omega arith in
          let callee : j ≡ depth a = omega arith in
          let frame : call_frame_at (s.frames ++ new ∷ []) j ≡ new =
          ap (call_frame_at (s.frames ++ new ∷ [])) here ∙ last_frame s.frames new in
          let unknown : stack_slots_of (entered a target) j ≡ unset_slots =
          ap (stack_slots_of (entered a target)) callee
          ∙ ap (λ f. f.stack.slots) (abstract_frame_at-entered_callee a target) in
          subst (λ f. StackMeans more (stack_slots_of (entered a target) j) f.cells) (sym frame)
          (subst (λ l. StackMeans more l new.cells) (sym unknown)
          (StackMeans-new more new.cells (length-replicate stack_size Unwritten)))
    ]

kept_entered : (p : Program) (e : Assigned) (a : State) (s : Machine.State) (target j k : ℕ)
    → suc j < depth (entered a target) → k < 4 → MeansBy p e a s
    → Allows (with_new_frame e s.next_serial) (kind_at (kinds_of (entered a target) j) (6 + k))
    (value_at (call_frame_at (enter s target).frames (suc j)).saved k)
unfolding new_call_frame
kept_entered p e a s target j k below within m =
    let n : ℕ = length a.callers.items in
    let more : Assigned = with_new_frame e s.next_serial in
    let new : CallFrame = new_call_frame s.next_serial (s.slot + 1) (saved_registers s.regs) in
    let count = depth_is_length p e a s m in
    let deep = depth-entered a target in
    elim (cases_lt j n) [
      | inl outer ↦
          let old : call_frame_at (s.frames ++ new ∷ []) (suc j) ≡ call_frame_at s.frames (suc j) =
          get_or_append_left s.frames (new ∷ []) (new_call_frame 0 0 []) (suc j) (omega arith) in
          subst (λ f. Allows more (kind_at (kinds_of (entered a target) j) (6 + k))
          (value_at f.saved k)) (sym old)
          (subst (λ f.
          Allows more (kind_at f.registers (6 + k))
          (value_at (call_frame_at s.frames (suc j)).saved k))
          (sym (abstract_frame_at-entered_outer a target j (omega arith)))
          (Allows-deeper e s.next_serial (kind_at (kinds_of a j) (6 + k)) _
          (m.kept j k (omega arith) within)))
      | inr last ↦
          let here : j ≡ n = omega arith in
          let top : suc j ≡ length s.frames = omega arith in
          let frame : call_frame_at (s.frames ++ new ∷ []) (suc j) ≡ new =
          ap (call_frame_at (s.frames ++ new ∷ [])) top ∙ last_frame s.frames new in
          subst (λ f. Allows more (kind_at (kinds_of (entered a target) j) (6 + k))
          (value_at f.saved k)) (sym frame)
          (subst (λ f.
          Allows more (kind_at f.registers (6 + k)) (value_at (saved_registers s.regs) k))
          (sym (ap (abstract_frame_at (entered a target)) here
          ∙ abstract_frame_at-entered_caller a target))
          (Allows-deeper e s.next_serial (kind_at (kept_kinds (registers_of a)) (6 + k))
          (value_at (saved_registers s.regs) k)
          (kept_allowed e (registers_of a) s.regs k within m.registers)))
    ]

-- a frame is pushed, and r6 to r9 are kept
pub MeansBy-enter : (p : Program) (e : Assigned) (a : State) (s : Machine.State) (target : ℕ)
    → IsState p (enter s target) → MeansBy p e a s
    → MeansBy p (with_new_frame e s.next_serial) (entered a target) (enter s target)
unfolding new_call_frame
MeansBy-enter p e a s target is m =
    let new : CallFrame = new_call_frame s.next_serial (s.slot + 1) (saved_registers s.regs) in
    record {
      is_state = is;
      assigned = record {
        none = m.assigned.none;
        length_is = m.assigned.length_is;
        serials =
            ap (λ l. l ++ s.next_serial ∷ []) m.assigned.serials
            ∙ sym (map-append (λ f. f.serial) s.frames (new ∷ []));
        contents = m.assigned.contents;
      };
      slot_is = refl;
      returns =
          map-append (λ f. f.return_slot) s.frames (new ∷ [])
          ∙ ap (λ n. map (λ f. f.return_slot) s.frames ++ (n + 1) ∷ []) m.slot_is
          ∙ ap (λ l. l ++ (a.slot + 1) ∷ []) m.returns ∙ sym (returns-entered a target);
      pointer = ap (λ f. Machine.frame_pointer f.serial) (sym (innermost-push s.frames new));
      registers = λ k. Allows-deeper e s.next_serial (kind_at (argument_kinds (registers_of a)) k) _
          (passed_allowed e (registers_of a) s.regs s.next_serial k m.registers);
      kept = λ j k below within. kept_entered p e a s target j k below within m;
      stacks = λ j below. stack_entered p e a s target j below m;
    }
