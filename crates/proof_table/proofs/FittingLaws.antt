-- What fits into a table, and how it is spelled.
use Rattle.proof_table.proofs.Common.{◌≡◌, ℕ, suc, ◌^◌, ◌<◌, ◌≤◌, ◌↔◌, IsTrue, Bool, true, false, List, [], ◌∷◌, ◌++◌, length, map, get_or, All, ap, sym, ◌∙◌, subst, arith, flat_map, length-map, get_or-map, All-map, little_bytes, Program, StackSlot, Written, Spilled, AbstractFrame, frame_slots, Entry, head_allowed, kind_bytes, stack_slot_bytes, frame_bytes, named_bytes, entry_bytes, KindFits, StackSlotFits, FrameFits, EntryFits, stack_slot_said, frame_said, entry_said}
use Rattle.std.specs.Prelude.{refl}
use Rattle.isa_model.specs.Code.Limits.{max_call_frames}
use Rattle.reg_state.specs.declared.kinds.Kind.TheVariants.{Unset, Number, Context, Stack, Packet, PacketEnd, Map, MapValue, MapValueOrNull}
use Rattle.table_entries.specs.Frames.{frame_allowed}

-- ---- the tests

All-mapped : {X Y : Type 0} (P : Y → Type 0) (f : X → Y) (xs : List X) → All P (map f xs)
    → All (λ x. P (f x)) xs
All-mapped P f xs h k d less =
    subst P (get_or-map f xs k d (f d) less) (h k (f d) (omega (arith, length-map xs f)))

pub FrameFits-said : (rows holder : ℕ) (outer : Bool) (f : AbstractFrame) (fits : Bool)
    → f.return_slot ≤ 65535 → length f.registers ≡ 10 → length f.stack.slots ≡ frame_slots
    → frame_allowed holder outer f.return_slot f.registers ≡ true
    → All (KindFits rows holder) f.registers
    → (IsTrue fits ↔ All (λ slot. StackSlotFits rows holder (stack_slot_said slot)) f.stack.slots)
    → (IsTrue fits ↔ FrameFits rows holder outer (frame_said f))
FrameFits-said rows holder outer f fits small ten all_slots allowed registers slots = (
  λ h. record {
    return_slot = omega arith;
    ten = ten;
    registers = registers;
    all_slots = length-map f.stack.slots stack_slot_said ∙ all_slots;
    slots = All-map (StackSlotFits rows holder) stack_slot_said f.stack.slots (slots.0 h);
    allowed = allowed;
  },
  λ h. slots.1 (All-mapped (StackSlotFits rows holder) stack_slot_said f.stack.slots h.slots),
)

-- the call frames of callers fit, each as a table says it
abbrev pub CallersFit : ℕ → List AbstractFrame → Type 0
CallersFit rows callers =
    (k : ℕ) (d : AbstractFrame) → k < length callers
    → FrameFits rows k true (frame_said (get_or callers k d))

CallersFit-mapped : (rows : ℕ) (callers : List AbstractFrame) → CallersFit rows callers
    → (k : ℕ) (d : AbstractFrame) → k < length (map frame_said callers)
    → FrameFits rows k true (get_or (map frame_said callers) k d)
CallersFit-mapped rows callers h k d less =
    let inside : k < length callers = omega (arith, length-map callers frame_said) in
    subst (FrameFits rows k true) (sym (get_or-map frame_said callers k d d inside)) (h k d inside)

CallersFit-said : (rows : ℕ) (callers : List AbstractFrame)
    → ((k : ℕ) (d : AbstractFrame) → k < length (map frame_said callers)
    → FrameFits rows k true (get_or (map frame_said callers) k d))
    → CallersFit rows callers
CallersFit-said rows callers h k d less =
    subst (FrameFits rows k true) (get_or-map frame_said callers k d d less)
    (h k d (omega (arith, length-map callers frame_said)))

-- where the callers do not fit, the entry does not
pub EntryFits-callers : (p : Program) (e : Entry) → EntryFits p (entry_said e)
    → CallersFit (length p.maps) e.state.callers.items
EntryFits-callers p e h = CallersFit-said (length p.maps) e.state.callers.items h.callers

pub EntryFits-said : (p : Program) (e : Entry) (fits : Bool)
    → head_allowed p e.number e.state.slot ≡ true → e.state.slot ≤ 65535
    → length e.state.callers.items < max_call_frames
    → CallersFit (length p.maps) e.state.callers.items → length e.successors ≤ 2
    → All (λ i. i < 2 ^ 32) e.successors
    → (IsTrue fits
    ↔ FrameFits (length p.maps) (length e.state.callers.items) false (frame_said e.state.innermost))
    → (IsTrue fits ↔ EntryFits p (entry_said e))
EntryFits-said p e fits allowed small few callers named indexes innermost =
    let rows = length p.maps in
    let count = length-map e.state.callers.items frame_said in (
      λ h. record {
        allowed = allowed;
        slot = omega arith;
        few = omega (arith, count);
        callers = CallersFit-mapped rows e.state.callers.items callers;
        innermost =
            subst (λ (n : ℕ). FrameFits rows n false (frame_said e.state.innermost)) (sym count)
            (innermost.0 h);
        named = named;
        indexes = indexes;
      },
      λ h. innermost.1
          (subst (λ (n : ℕ). FrameFits rows n false (frame_said e.state.innermost)) count
          h.innermost),
    )

-- ---- the spelling

stack_slot_bytes-said : (s : StackSlot) → stack_slot_bytes (stack_slot_said s) ≡ stack_slot_bytes s
unfolding stack_slot_bytes
stack_slot_bytes-said (Written marks) = refl
stack_slot_bytes-said (Spilled Unset) = refl
stack_slot_bytes-said (Spilled (Number s)) = refl
stack_slot_bytes-said (Spilled Context) = refl
stack_slot_bytes-said (Spilled (Stack frame offset)) = refl
stack_slot_bytes-said (Spilled (Packet fixed identity least greatest proved)) = refl
stack_slot_bytes-said (Spilled PacketEnd) = refl
stack_slot_bytes-said (Spilled (Map index)) = refl
stack_slot_bytes-said (Spilled (MapValue index least greatest)) = refl
stack_slot_bytes-said (Spilled (MapValueOrNull index identity)) = refl

flat_map-same : {X : Type 0} (spell : X → List ℕ) (said : X → X)
    → ((x : X) → spell (said x) ≡ spell x) → (xs : List X)
    → flat_map spell (map said xs) ≡ flat_map spell xs
flat_map-same spell said same [] = refl
flat_map-same spell said same (x ∷ xs) =
    ap (λ (l : List ℕ). l ++ flat_map spell (map said xs)) (same x)
    ∙ ap (λ (l : List ℕ). spell x ++ l) (flat_map-same spell said same xs)

frame_bytes-said : (f : AbstractFrame) → frame_bytes (frame_said f) ≡ frame_bytes f
unfolding frame_bytes
frame_bytes-said f =
    ap (λ (l : List ℕ). little_bytes 2 f.return_slot ++ (flat_map kind_bytes f.registers ++ l))
    (flat_map-same stack_slot_bytes stack_slot_said stack_slot_bytes-said f.stack.slots)

-- an entry is spelled as a table says it
pub entry_bytes-said : (e : Entry) → entry_bytes (entry_said e) ≡ entry_bytes e
unfolding entry_bytes
entry_bytes-said e =
    let around = λ (n : ℕ) (callers innermost : List ℕ). little_bytes 4 e.number
    ++ (little_bytes 2 e.state.slot
    ++ ((suc n ∷ (callers ++ innermost)) ++ named_bytes e.successors)) in
    ap (λ n. around n (flat_map frame_bytes (map frame_said e.state.callers.items))
    (frame_bytes (frame_said e.state.innermost))) (length-map e.state.callers.items frame_said)
    ∙ ap (λ (l : List ℕ). around (length e.state.callers.items) l
    (frame_bytes (frame_said e.state.innermost)))
    (flat_map-same frame_bytes frame_said frame_bytes-said e.state.callers.items)
    ∙ ap (around (length e.state.callers.items) (flat_map frame_bytes e.state.callers.items))
    (frame_bytes-said e.state.innermost)
