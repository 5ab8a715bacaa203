-- Effects on slots of any live call frame keep the meaning of an abstract state.
use Rattle.stack_state.proofs.Common.{◌≡◌, ◌≢◌, ℕ, suc, ◌+◌, ◌-◌, ◌*◌, ◌<◌, ◌==◌, ℤ, List, [], ◌∷◌, map, length, slice_set, slice_index_or, All, Some, Result, Ok, true, false, if◌then◌else◌, sym, ap, ◌∙◌, subst, inl, inr, arith, refl, cases_eq, nat_tests, Size, U64, Value, Num, Ptr, Cell, CallFrame, size_bytes, Program, value_at, frame_pointer, new_call_frame, call_frame_at, load, load_number, store, innermost, IsState, IsCell, IsCallFrame, Scalar, Kind, Has, Assigned, Allows, StackSlot, AbstractFrame, State, frames_of, no_frame, abstract_frame_at, kind_at, kinds_of, stack_slots_of, depth, registers_of, MeansBy, StackMeans, StoresBytes, Spills, LoadsNumber, LoadsSlot, with_slots, with_frame, with_frame_slots}
use Rattle.std.proofs.lemmas.List.{length-set, get_or-set_same, get_or-set_other, set-append_left}
use Rattle.std.proofs.Math.Seq.{map-set_same, set-append_seam}
use Rattle.isa_model.specs.declared.values.Region.TheVariants as region
use Rattle.isa_model.specs.declared.values.Value.TheVariants as value
use Rattle.isa_model.specs.declared.ends.TrapReason.{TrapReason}
use Rattle.isa_model.specs.Machine.States as Machine
use Rattle.stack_state.proofs.MeaningLaws.{length-frames_of, abstract_frame_at-innermost, depth_is_length}
use Rattle.stack_state.proofs.FrameLaws.{IsHere, with_cells, loads_here, fills_here, stores_here, spills_here}

-- ---- another frame at an index

pub frames_of-with_frame : (a : State) (j : ℕ) (f : AbstractFrame) → j < depth a
    → frames_of (with_frame a j f) ≡ slice_set (frames_of a) j f
frames_of-with_frame a j f inside =
    let n : ℕ = length a.callers.items in
    elim (j == n) as (λ b. (j == n) ≡ b
    → frames_of
    (if b then record a { innermost = f }
    else record a { callers = record { items = slice_set a.callers.items j f } })
    ≡ slice_set (frames_of a) j f) [
      | true ↦ λ e. let same : n ≡ j = grind (arith, nat_tests) in
          sym (set-append_seam a.callers.items a.innermost [] f)
          ∙ ap (λ k. slice_set (frames_of a) k f) same
      | false ↦ λ e. let other : j ≢ n = grind (arith, nat_tests) in
          sym (set-append_left a.callers.items (a.innermost ∷ []) j f (omega arith))
    ] refl

slot-with_frame : (a : State) (j : ℕ) (f : AbstractFrame) → (with_frame a j f).slot ≡ a.slot
slot-with_frame a j f =
    elim (j == length a.callers.items) as (λ b.
    (if b then record a { innermost = f }
    else record a { callers = record { items = slice_set a.callers.items j f } }).slot
    ≡ a.slot)
    [ true ↦ refl | false ↦ refl ]

pub depth-with_frame : (a : State) (j : ℕ) (f : AbstractFrame) → j < depth a
    → depth (with_frame a j f) ≡ depth a
depth-with_frame a j f inside =
    sym (length-frames_of (with_frame a j f)) ∙ ap length (frames_of-with_frame a j f inside)
    ∙ length-set (frames_of a) j f ∙ length-frames_of a

pub abstract_frame_at-with_frame_same : (a : State) (j : ℕ) (f : AbstractFrame) → j < depth a
    → abstract_frame_at (with_frame a j f) j ≡ f
abstract_frame_at-with_frame_same a j f inside =
    let long = length-frames_of a in
    ap (λ fs. slice_index_or fs j no_frame) (frames_of-with_frame a j f inside)
    ∙ get_or-set_same (frames_of a) j f no_frame (omega arith)

pub abstract_frame_at-with_frame_other : (a : State) (j i : ℕ) (f : AbstractFrame) → j < depth a
    → i ≢ j → abstract_frame_at (with_frame a j f) i ≡ abstract_frame_at a i
abstract_frame_at-with_frame_other a j i f inside other =
    ap (λ fs. slice_index_or fs i no_frame) (frames_of-with_frame a j f inside)
    ∙ get_or-set_other (frames_of a) j i f no_frame other

-- the innermost frame's registers stay
registers-with_frame_slots : (a : State) (j : ℕ) (slots : List StackSlot)
    → registers_of (with_frame_slots a j slots) ≡ registers_of a
registers-with_frame_slots a j slots =
    let n : ℕ = length a.callers.items in
    let f : AbstractFrame = with_slots (abstract_frame_at a j) slots in
    elim (j == n) as (λ b. (j == n) ≡ b
    → (if b then record a { innermost = f }
    else record a
    { callers = record { items = slice_set a.callers.items j f } }).innermost.registers
    ≡ a.innermost.registers) [
      | true ↦ λ e. let same : j ≡ n = grind (arith, nat_tests) in
          ap (λ k. (abstract_frame_at a k).registers) same
          ∙ ap (λ g. g.registers) (abstract_frame_at-innermost a)
      | false ↦ λ e. refl
    ] refl

-- what a frame has beside its slots stays
kept_in_frame : {X : Type 0} (view : AbstractFrame → X) (a : State) (j i : ℕ) (f : AbstractFrame)
    → j < depth a → view f ≡ view (abstract_frame_at a j)
    → view (abstract_frame_at (with_frame a j f) i) ≡ view (abstract_frame_at a i)
kept_in_frame view a j i f inside same =
    elim (cases_eq i j) [
      | inl here ↦
          ap (λ k. view (abstract_frame_at (with_frame a j f) k)) here
          ∙ ap view (abstract_frame_at-with_frame_same a j f inside) ∙ same
          ∙ ap (λ k. view (abstract_frame_at a k)) (sym here)
      | inr other ↦ ap view (abstract_frame_at-with_frame_other a j i f inside other)
    ]

-- what a call frame has beside its cells stays
kept_in_call : {X : Type 0} (view : CallFrame → X) (fs : List CallFrame) (j i : ℕ) (f : CallFrame)
    → j < length fs → view f ≡ view (call_frame_at fs j)
    → view (call_frame_at (slice_set fs j f) i) ≡ view (call_frame_at fs i)
kept_in_call view fs j i f inside same =
    elim (cases_eq i j) [
      | inl here ↦
          ap (λ k. view (call_frame_at (slice_set fs j f) k)) here
          ∙ ap view (get_or-set_same fs j f (new_call_frame 0 0 []) inside) ∙ same
          ∙ ap (λ k. view (call_frame_at fs k)) (sym here)
      | inr other ↦ ap view (get_or-set_other fs j i f (new_call_frame 0 0 []) other)
    ]

-- ---- a write into the jth frame

stack_written : (e : Assigned) (a : State) (s : Machine.State) (j i : ℕ) (slots : List StackSlot)
    (cells : List Cell) → j < depth a → j < length s.frames
    → StackMeans e slots cells → StackMeans e (stack_slots_of a i) (call_frame_at s.frames i).cells
    → StackMeans e (stack_slots_of (with_frame_slots a j slots) i)
    (call_frame_at (with_cells s j cells).frames i).cells
stack_written e a s j i slots cells inside live stack stays =
    let f : AbstractFrame = with_slots (abstract_frame_at a j) slots in
    let g : CallFrame = record (call_frame_at s.frames j) { cells = cells } in
    elim (cases_eq i j) [
      | inl here ↦
          subst (λ k.
          StackMeans e (stack_slots_of (with_frame_slots a j slots) k)
          (call_frame_at (slice_set s.frames j g) k).cells) (sym here)
          (subst (λ h. StackMeans e h.stack.slots (call_frame_at (slice_set s.frames j g) j).cells)
          (sym (abstract_frame_at-with_frame_same a j f inside))
          (subst (λ h. StackMeans e slots h.cells)
          (sym (get_or-set_same s.frames j g (new_call_frame 0 0 []) live)) stack))
      | inr other ↦
          subst (λ h. StackMeans e h.stack.slots (call_frame_at (slice_set s.frames j g) i).cells)
          (sym (abstract_frame_at-with_frame_other a j i f inside other))
          (subst (λ h. StackMeans e (stack_slots_of a i) h.cells)
          (sym (get_or-set_other s.frames j i g (new_call_frame 0 0 []) other)) stays)
    ]

-- the jth frame has other cells, and slots that mean them
pub MeansBy-cells : (p : Program) (e : Assigned) (a : State) (s : Machine.State) (j : ℕ)
    (slots : List StackSlot) (cells : List Cell) → j < depth a
    → IsState p (with_cells s j cells) → StackMeans e slots cells → MeansBy p e a s
    → MeansBy p e (with_frame_slots a j slots) (with_cells s j cells)
MeansBy-cells p e a s j slots cells inside is stack m =
    let f : AbstractFrame = with_slots (abstract_frame_at a j) slots in
    let g : CallFrame = record (call_frame_at s.frames j) { cells = cells } in
    let none : CallFrame = new_call_frame 0 0 [] in
    let count = depth_is_length p e a s m in
    let live : j < length s.frames = omega arith in
    let long : length (slice_set s.frames j g) ≡ length s.frames = length-set s.frames j g in
    let deep = depth-with_frame a j f inside in
    let last : (innermost (slice_set s.frames j g)).serial ≡ (innermost s.frames).serial =
    ap (λ n. (call_frame_at (slice_set s.frames j g) (n - 1)).serial) long
    ∙ kept_in_call (λ h. h.serial) s.frames j (length s.frames - 1) g live refl in
    record {
      is_state = is;
      assigned = record {
        none = m.assigned.none;
        length_is = m.assigned.length_is;
        serials = m.assigned.serials ∙ sym (map-set_same (λ h. h.serial) s.frames j g none refl);
        contents = m.assigned.contents;
      };
      slot_is = m.slot_is ∙ sym (slot-with_frame a j f);
      returns = map-set_same (λ h. h.return_slot) s.frames j g none refl ∙ m.returns
          ∙ sym (ap (λ fs. map (λ h. h.return_slot) fs) (frames_of-with_frame a j f inside)
          ∙ map-set_same (λ h. h.return_slot) (frames_of a) j f no_frame refl);
      pointer = m.pointer ∙ ap frame_pointer (sym last);
      registers =
          λ k. subst (λ ks. Allows e (kind_at ks k) (value_at s.regs k))
          (sym (registers-with_frame_slots a j slots)) (m.registers k);
      kept = λ i k below within.
          subst (λ ks.
          Allows e (kind_at ks (6 + k))
          (value_at (call_frame_at (slice_set s.frames j g) (suc i)).saved k))
          (sym (kept_in_frame (λ h. h.registers) a j i f inside refl))
          (subst (λ vs. Allows e (kind_at (kinds_of a i) (6 + k)) (value_at vs k))
          (sym (kept_in_call (λ h. h.saved) s.frames j (suc i) g live refl))
          (m.kept i k (omega arith) within));
      stacks =
          λ i below.
          stack_written e a s j i slots cells inside live stack (m.stacks i (omega arith));
    }

-- where the machine does not trap, its next state is a member of the state that is left
abbrev pub IfLeft : Program → Assigned → State → Result Machine.State TrapReason → Type 0
IfLeft p e b went = (t : Machine.State) × (went ≡ Ok t) × (IsState p t → MeansBy p e b t)

-- bytes of a number are stored
pub MeansBy-stores : (p : Program) (e : Assigned) (a : State) (s : Machine.State)
    (new : List StackSlot) (size : Size) (serial j at n : ℕ) (z by : ℤ)
    → j < depth a → IsHere s serial j at (size_bytes size) z by
    → StoresBytes (stack_slots_of a j) at size new → MeansBy p e a s
    → IfLeft p e (with_frame_slots a j new)
    (store s size (Ptr (region.CallFrame serial) z) by (Num n))
MeansBy-stores p e a s new size serial j at n z by inside here stores m =
    let (cells, went, stack) =
    stores_here e s (stack_slots_of a j) new size serial j at n z by here
    (m.stacks j inside) stores in
    (with_cells s j cells, went, λ is. MeansBy-cells p e a s j new cells inside is stack m)

-- a value is spilled
pub MeansBy-spills : (p : Program) (e : Assigned) (a : State) (s : Machine.State)
    (new : List StackSlot) (serial j k : ℕ) (z by : ℤ) (kind : Kind) (v : Value)
    → j < depth a → IsHere s serial j (8 * k) 8 z by → v ≢ value.Unset → Allows e kind v
    → Spills (stack_slots_of a j) k kind new → MeansBy p e a s
    → IfLeft p e (with_frame_slots a j new) (store s U64 (Ptr (region.CallFrame serial) z) by v)
MeansBy-spills p e a s new serial j k z by kind v inside here set allowed spills m =
    let (cells, went, stack) =
    spills_here e s (stack_slots_of a j) new serial j k z by kind v here set allowed
    (m.stacks j inside) spills in
    (with_cells s j cells, went, λ is. MeansBy-cells p e a s j new cells inside is stack m)

-- ---- a read of the jth frame

-- the cells of the jth frame are those of a state
pub cells_fit : (p : Program) (e : Assigned) (a : State) (s : Machine.State) (j : ℕ) → j < depth a
    → MeansBy p e a s → All (IsCell (length p.maps) s.next_serial) (call_frame_at s.frames j).cells
cells_fit p e a s j inside m =
    let count = depth_is_length p e a s m in
    let fits : IsCallFrame p s.next_serial (call_frame_at s.frames j) =
    m.is_state.frames j (new_call_frame 0 0 []) (omega arith) in
    fits.cells

-- bytes are loaded: their number is one of those that `load` returns
pub MeansBy-loads : (p : Program) (e : Assigned) (a : State) (s : Machine.State) (size : Size)
    (serial j at : ℕ) (z by : ℤ) (numbers : Scalar)
    → j < depth a → IsHere s serial j at (size_bytes size) z by
    → LoadsNumber (stack_slots_of a j) at size (Some numbers) → MeansBy p e a s
    → (n : ℕ) × (load_number s size (Ptr (region.CallFrame serial) z) by ≡ Ok n) × Has numbers n
MeansBy-loads p e a s size serial j at z by numbers inside here loads m =
    loads_here e s (stack_slots_of a j) size serial j at
    (length p.maps) s.next_serial z by numbers here (cells_fit p e a s j inside m)
    (m.stacks j inside) loads

-- a slot is read back: its value is one that the kind allows
pub MeansBy-fills : (p : Program) (e : Assigned) (a : State) (s : Machine.State) (serial j k : ℕ)
    (z by : ℤ) (kind : Kind)
    → j < depth a → IsHere s serial j (8 * k) 8 z by → LoadsSlot (stack_slots_of a j) k (Some kind)
    → MeansBy p e a s
    → (v : Value) × (load s U64 (Ptr (region.CallFrame serial) z) by ≡ Ok v) × Allows e kind v
MeansBy-fills p e a s serial j k z by kind inside here fills m =
    fills_here e s (stack_slots_of a j) serial j k (length p.maps) s.next_serial z by kind here
    (cells_fit p e a s j inside m) (m.stacks j inside) fills
