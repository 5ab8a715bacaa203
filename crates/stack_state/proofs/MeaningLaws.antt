-- Effects on an abstract state keep its meaning: the machine state after the same effect is a
-- member of the abstract state after it.
use Rattle.stack_state.proofs.Common.{◌≡◌, ◌≢◌, ℕ, zero, suc, ◌+◌, ◌-◌, ◌<◌, ℤ, pos, List, [], ◌∷◌, ◌++◌, map, length, slice_get, slice_set, slice_index_or, Option, Some, sym, ap, ◌∙◌, subst, arith, refl, nat_tests, length-map, length-append, map-append, get_or_append_left, get_or-append_right, get_or-set_other, set-get_or, slice_get-get_or, Value, Cell, CallFrame, Program, value_at, reg, set_reg, frame_pointer, new_call_frame, call_frame_at, innermost, IsState, IsValue, IsSlot, Kind, Stack, Assigned, Allows, StackSlot, Written, Spilled, AbstractFrame, State, frames_of, no_frame, abstract_frame_at, kind_at, kinds_of, stack_slots_of, depth, registers_of, AssignmentFits, MeansBy, IsFreshPacket, IsFreshNull, slot_at, kind_in, frame_slots, SlotMeans, StackMeans}
use Rattle.std.proofs.Math.ListN.{get_or-map as get_or-map_default}
use Rattle.isa_model.specs.declared.registers.Reg.{Reg}
use Rattle.isa_model.specs.declared.registers.Reg.TheVariants.{R0, R1, R2, R3, R4, R5, R6, R7, R8, R9, R10}
use Rattle.isa_model.specs.Code.Registers.{reg_number}
use Rattle.isa_model.specs.Machine.States as Machine
use Rattle.isa_model.proofs.RegisterLaws.{reg_number-below}
use Rattle.isa_model.proofs.StateLaws.{IsState-go_to, IsState-set_reg, reg_fits}
use Rattle.reg_state.proofs.KindLaws.{with_offset, with_map_value, Allows-fresh_offset, Allows-fresh_map_value}
use Rattle.reg_state.specs.KindCover.{packet_identity_of, null_identity_of}
use Rattle.stack_state.specs.Places.{kind_of, with_kind, with_register, go_to}
use Rattle.stack_state.proofs.StackLaws.{StackMeans-change, SlotMeans-spilled}

-- ---- call frames

pub length-frames_of : (a : State) → length (frames_of a) ≡ depth a
length-frames_of a = length-append a.callers.items (a.innermost ∷ [])

-- a caller's frame
pub abstract_frame_at-caller : (a : State) (j : ℕ) → suc j < depth a
    → abstract_frame_at a j ≡ slice_index_or a.callers.items j no_frame
abstract_frame_at-caller a j below =
    get_or_append_left a.callers.items (a.innermost ∷ []) no_frame j (omega arith)

-- the frame after the callers'
pub abstract_frame_at-innermost : (a : State)
    → abstract_frame_at a (length a.callers.items) ≡ a.innermost
abstract_frame_at-innermost a =
    let last : ℕ = length a.callers.items in
    let here : last - last ≡ 0 = omega arith in
    get_or-append_right a.callers.items (a.innermost ∷ []) last last no_frame refl (omega arith)
    ∙ ap (λ n. slice_index_or (a.innermost ∷ []) n no_frame) here

-- as many frames are live as the abstract state has
pub depth_is_length : (p : Program) (e : Assigned) (a : State) (s : Machine.State) → MeansBy p e a s
    → length s.frames ≡ depth a
depth_is_length p e a s m =
    sym (length-map s.frames (λ f. f.return_slot)) ∙ ap length m.returns
    ∙ length-map (frames_of a) (λ f. f.return_slot)
    ∙ length-frames_of a

-- ---- a register read

-- r10 points to the end of the innermost live frame
frame_pointer_allowed : (p : Program) (e : Assigned) (a : State) (s : Machine.State)
    → MeansBy p e a s → Allows e (Stack (length a.callers.items) (pos 0)) (reg s R10)
frame_pointer_allowed p e a s m =
    let same = depth_is_length p e a s m in
    let called = m.is_state.called in
    let serials : List ℕ = map (λ f. f.serial) s.frames in
    let long = length-map s.frames (λ f. f.serial) in
    let last : ℕ = length s.frames - 1 in
    let here : length a.callers.items ≡ last = omega arith in
    let none : CallFrame = new_call_frame 0 0 [] in
    let found : slice_get serials last ≡ Some (slice_index_or serials last none.serial) =
    slice_get-get_or serials last none.serial (omega arith) in
    let serial : slice_index_or serials last none.serial ≡ (innermost s.frames).serial =
    get_or-map_default (λ f. f.serial) s.frames last none in (
      (innermost s.frames).serial,
      ap (λ l. slice_get l (length a.callers.items)) m.assigned.serials
          ∙ ap (slice_get serials) here ∙ found ∙ ap Some serial,
      m.pointer,
    )

-- each register holds what its kind allows
pub reg_allowed : (p : Program) (e : Assigned) (a : State) (s : Machine.State) → MeansBy p e a s
    → (r : Reg) → Allows e (kind_of a r) (reg s r)
reg_allowed p e a s m R0 = m.registers 0
reg_allowed p e a s m R1 = m.registers 1
reg_allowed p e a s m R2 = m.registers 2
reg_allowed p e a s m R3 = m.registers 3
reg_allowed p e a s m R4 = m.registers 4
reg_allowed p e a s m R5 = m.registers 5
reg_allowed p e a s m R6 = m.registers 6
reg_allowed p e a s m R7 = m.registers 7
reg_allowed p e a s m R8 = m.registers 8
reg_allowed p e a s m R9 = m.registers 9
reg_allowed p e a s m R10 = frame_pointer_allowed p e a s m

-- ---- another slot of the code

pub MeansBy-go_to : (p : Program) (e : Assigned) (a : State) (s : Machine.State) (slot : ℕ)
    → IsSlot p slot → MeansBy p e a s → MeansBy p e (go_to a slot) (Machine.go_to s slot)
MeansBy-go_to p e a s slot fits m = record {
  is_state = IsState-go_to p s slot fits m.is_state;
  assigned = record {
    none = m.assigned.none;
    length_is = m.assigned.length_is;
    serials = m.assigned.serials;
    contents = m.assigned.contents;
  };
  slot_is = refl;
  returns = m.returns;
  pointer = m.pointer;
  registers = m.registers;
  kept = m.kept;
  stacks = m.stacks;
}

-- ---- a register set

-- the frames return to where they did
pub returns-with : (a : State) (r : Reg) (k : Kind)
    → map (λ f. f.return_slot) (frames_of (with_register a r k))
    ≡ map (λ f. f.return_slot) (frames_of a)
returns-with a r k =
    map-append (λ f. f.return_slot) a.callers.items (with_kind a.innermost (reg_number r) k ∷ [])
    ∙ sym (map-append (λ f. f.return_slot) a.callers.items (a.innermost ∷ []))

-- a caller's frame stays
pub abstract_frame_at-with : (a : State) (r : Reg) (k : Kind) (j : ℕ) → suc j < depth a
    → abstract_frame_at (with_register a r k) j ≡ abstract_frame_at a j
abstract_frame_at-with a r k j below =
    abstract_frame_at-caller (with_register a r k) j below
    ∙ sym (abstract_frame_at-caller a j below)

-- where the last frame is replaced by one with the same stack, each frame's stack stays
pub stack_at-last : (fs : List AbstractFrame) (f g : AbstractFrame) (j : ℕ) → f.stack ≡ g.stack
    → (slice_index_or (fs ++ f ∷ []) j no_frame).stack
    ≡ (slice_index_or (fs ++ g ∷ []) j no_frame).stack
stack_at-last [] f g zero same = same
stack_at-last [] f g (suc j) same = refl
stack_at-last (x ∷ fs) f g zero same = refl
stack_at-last (x ∷ fs) f g (suc j) same = stack_at-last fs f g j same

-- each frame's stack slots stay
pub stack_slots_of-with : (a : State) (r : Reg) (k : Kind) (j : ℕ)
    → stack_slots_of (with_register a r k) j ≡ stack_slots_of a j
stack_slots_of-with a r k j =
    ap (λ s. s.slots)
    (stack_at-last a.callers.items (with_kind a.innermost (reg_number r) k) a.innermost j refl)

-- a kind and a value are written at the same index
pub Allows-set : (e : Assigned) (ks : List Kind) (vs : List Value) (n : ℕ) (k : Kind) (v : Value)
    → n < length vs → ((j : ℕ) → Allows e (kind_at ks j) (value_at vs j)) → Allows e k v
    → (j : ℕ) → Allows e (kind_at (slice_set ks n k) j) (value_at (slice_set vs n v) j)
Allows-set e [] vs n k v within all new j = tt
Allows-set e (x ∷ ks) [] n k v within all new j = absurd (omega arith)
Allows-set e (x ∷ ks) (y ∷ vs) zero k v within all new zero = new
Allows-set e (x ∷ ks) (y ∷ vs) zero k v within all new (suc j) = all (suc j)
Allows-set e (x ∷ ks) (y ∷ vs) (suc n) k v within all new zero = all 0
Allows-set e (x ∷ ks) (y ∷ vs) (suc n) k v within all new (suc j) =
    Allows-set e ks vs n k v (omega arith) (λ i. all (suc i)) new j

reg_number-R10 : (r : Reg) → reg_number r ≡ 10 → r ≡ R10
reg_number-R10 R10 h = refl
reg_number-R10 r h = absurd (omega arith)

-- a register holds a new value, which its new kind allows
pub MeansBy-set : (p : Program) (e : Assigned) (a : State) (s : Machine.State) (r : Reg) (k : Kind)
    (v : Value) → r ≢ R10
    → Allows e k v → IsValue (length p.maps) s.next_serial v → MeansBy p e a s
    → MeansBy p e (with_register a r k) (set_reg s r v)
MeansBy-set p e a s r k v own new fits m =
    let eleven = m.is_state.registers in
    let within = reg_number-below r in
    record {
      is_state = IsState-set_reg p s r v fits m.is_state;
      assigned = record {
        none = m.assigned.none;
        length_is = m.assigned.length_is;
        serials = m.assigned.serials;
        contents = m.assigned.contents;
      };
      slot_is = m.slot_is;
      returns = m.returns ∙ sym (returns-with a r k);
      pointer =
          get_or-set_other s.regs (reg_number r) 10 v _ (λ same. own (reg_number-R10 r (sym same)))
          ∙ m.pointer;
      registers =
          λ j. Allows-set e (registers_of a) s.regs (reg_number r) k v
          (omega arith) m.registers new j;
      kept =
          λ j i below within.
          subst (λ f.
          Allows e (kind_at f.registers (6 + i))
          (value_at (call_frame_at s.frames (suc j)).saved i))
          (sym (abstract_frame_at-with a r k j below)) (m.kept j i below within);
      stacks =
          λ j below.
          subst (λ slots. StackMeans e slots (call_frame_at s.frames j).cells)
          (sym (stack_slots_of-with a r k j)) (m.stacks j below);
    }

-- ---- the same machine state

-- more is known of a register's value
pub MeansBy-narrow : (p : Program) (e : Assigned) (a : State) (s : Machine.State) (r : Reg)
    (k : Kind) → r ≢ R10
    → Allows e k (reg s r) → MeansBy p e a s → MeansBy p e (with_register a r k) s
MeansBy-narrow p e a s r k own new m =
    let same : set_reg s r (reg s r) ≡ s =
    ap (λ regs. record s { regs = regs }) (set-get_or s.regs (reg_number r) _) in
    subst (λ t. MeansBy p e (with_register a r k) t) same
    (MeansBy-set p e a s r k (reg s r) own new (reg_fits p s r m.is_state) m)

-- what the kinds and the stack slots of frame g allow under assignment e, those of h allow under f
pub record FrameKeeps (e f : Assigned) (g h : AbstractFrame) : Type 0 where
  pub registers : (k : ℕ) (v : Value) → Allows e (kind_at g.registers k) v
      → Allows f (kind_at h.registers k) v
  pub slots : (k : ℕ) (cs : List Cell) → k < frame_slots → SlotMeans e (slot_at g.stack.slots k) cs
      → SlotMeans f (slot_at h.stack.slots k) cs

-- b allows under f, frame by frame, all that a allows under e. So b means what a means, also a
-- machine state t that has the slot, the registers and the frames of s
pub MeansBy-onto : (p : Program) (e f : Assigned) (a b : State) (s t : Machine.State)
    → t.slot ≡ s.slot → t.regs ≡ s.regs
    → t.frames ≡ s.frames → IsState p t → AssignmentFits f t → b.slot ≡ a.slot
    → map (λ g. g.return_slot) (frames_of b) ≡ map (λ g. g.return_slot) (frames_of a)
    → ((j : ℕ) → j < depth a → FrameKeeps e f (abstract_frame_at a j) (abstract_frame_at b j))
    → MeansBy p e a s → MeansBy p f b t
MeansBy-onto p e f a b s t same_slot regs frames is of slot returns each m =
    let same : depth b ≡ depth a =
    sym (length-frames_of b) ∙ sym (length-map (frames_of b) (λ g. g.return_slot))
    ∙ ap length returns
    ∙ length-map (frames_of a) (λ g. g.return_slot) ∙ length-frames_of a in
    let callers : length a.callers.items ≡ length b.callers.items = omega arith in
    let last : FrameKeeps e f a.innermost b.innermost =
    subst (λ g. FrameKeeps e f g b.innermost) (abstract_frame_at-innermost a)
    (subst (λ g. FrameKeeps e f (abstract_frame_at a (length a.callers.items)) g)
    (ap (abstract_frame_at b) callers ∙ abstract_frame_at-innermost b)
    (each (length a.callers.items) (omega arith))) in
    record {
      is_state = is;
      assigned = of;
      slot_is = same_slot ∙ m.slot_is ∙ sym slot;
      returns = ap (λ fs. map (λ g. g.return_slot) fs) frames ∙ m.returns ∙ sym returns;
      pointer =
          ap (λ vs. value_at vs 10) regs ∙ m.pointer
          ∙ ap (λ fs. frame_pointer (innermost fs).serial) (sym frames);
      registers =
          λ k. subst (λ vs. Allows f (kind_at (registers_of b) k) (value_at vs k)) (sym regs)
          (last.registers k (value_at s.regs k) (m.registers k));
      kept =
          λ j k below within.
          subst (λ fs.
          Allows f (kind_at (kinds_of b j) (6 + k)) (value_at (call_frame_at fs (suc j)).saved k))
          (sym frames)
          ((each j (omega arith)).registers (6 + k)
          (value_at (call_frame_at s.frames (suc j)).saved k)
          (m.kept j k (omega arith) within));
      stacks = λ j below. let within : j < depth a = omega arith in
          subst (λ fs. StackMeans f (stack_slots_of b j) (call_frame_at fs j).cells) (sym frames)
          (StackMeans-change e f (stack_slots_of a j) (stack_slots_of b j)
          (call_frame_at s.frames j).cells
          (λ k cs inside. (each j within).slots k cs inside) (m.stacks j within));
    }

-- the same, of one machine state
pub MeansBy-change : (p : Program) (e f : Assigned) (a b : State) (s : Machine.State)
    → AssignmentFits f s → b.slot ≡ a.slot
    → map (λ g. g.return_slot) (frames_of b) ≡ map (λ g. g.return_slot) (frames_of a)
    → ((j : ℕ) → j < depth a → FrameKeeps e f (abstract_frame_at a j) (abstract_frame_at b j))
    → MeansBy p e a s → MeansBy p f b s
MeansBy-change p e f a b s of slot returns each m =
    MeansBy-onto p e f a b s s refl refl refl m.is_state of slot returns each m

-- ---- a fresh identity

-- identity 0 stays none
offset_none : (e : Assigned) (i : ℕ) (z : ℤ) → i ≢ 0 → (with_offset e i z).offset 0 ≡ e.offset 0
offset_none e i z some = grind (arith, nat_tests)

SlotMeans-fresh_offset : (e : Assigned) (i : ℕ) (z : ℤ) (t : StackSlot) (cs : List Cell)
    → packet_identity_of (kind_in t) ≢ Some i
    → SlotMeans e t cs → SlotMeans (with_offset e i z) t cs
SlotMeans-fresh_offset e i z (Written marks) cs fresh h = h
SlotMeans-fresh_offset e i z (Spilled k) cs fresh h =
    SlotMeans-spilled e (with_offset e i z) k k cs (λ v. Allows-fresh_offset k e i z v fresh) h

SlotMeans-fresh_map_value : (e : Assigned) (i : ℕ) (o : Option ℕ) (t : StackSlot) (cs : List Cell)
    → null_identity_of (kind_in t) ≢ Some i → SlotMeans e t cs
    → SlotMeans (with_map_value e i o) t cs
SlotMeans-fresh_map_value e i o (Written marks) cs fresh h = h
SlotMeans-fresh_map_value e i o (Spilled k) cs fresh h =
    SlotMeans-spilled e (with_map_value e i o) k k cs
    (λ v. Allows-fresh_map_value k e i o v fresh) h

-- a packet identity that no kind of the state uses may be assigned any number
pub MeansBy-fresh : (p : Program) (e : Assigned) (a : State) (s : Machine.State) (i : ℕ) (z : ℤ)
    → i ≢ 0 → IsFreshPacket a i → MeansBy p e a s → MeansBy p (with_offset e i z) a s
MeansBy-fresh p e a s i z some fresh m =
    MeansBy-change p e (with_offset e i z) a a s
    (record {
      none = offset_none e i z some ∙ m.assigned.none;
      length_is = m.assigned.length_is;
      serials = m.assigned.serials;
      contents = m.assigned.contents;
    })
    refl refl
    (λ j below. record {
      registers =
          λ k v h. Allows-fresh_offset (kind_at (kinds_of a j) k) e i z v (fresh.registers j k) h;
      slots =
          λ k cs inside h.
          SlotMeans-fresh_offset e i z (slot_at (stack_slots_of a j) k) cs (fresh.slots j k) h;
    }) m

-- and a null identity that none uses may be assigned null or the serial of any map value
pub MeansBy-fresh_null : (p : Program) (e : Assigned) (a : State) (s : Machine.State) (i : ℕ)
    (o : Option ℕ) → IsFreshNull a i
    → MeansBy p e a s → MeansBy p (with_map_value e i o) a s
MeansBy-fresh_null p e a s i o fresh m =
    MeansBy-change p e (with_map_value e i o) a a s
    (record {
      none = m.assigned.none;
      length_is = m.assigned.length_is;
      serials = m.assigned.serials;
      contents = m.assigned.contents;
    })
    refl refl
    (λ j below. record {
      registers =
          λ k v h.
          Allows-fresh_map_value (kind_at (kinds_of a j) k) e i o v (fresh.registers j k) h;
      slots =
          λ k cs inside h.
          SlotMeans-fresh_map_value e i o (slot_at (stack_slots_of a j) k) cs (fresh.slots j k) h;
    }) m
