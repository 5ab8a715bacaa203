-- What forgetting dead registers and stack slots does to a state: it means more, and all
-- else stays.
use Rattle.walks.proofs.Common.{◌≡◌, ◌≢◌, ◌<◌, ◌+◌, ◌∷◌, [], ℕ, zero, suc, List, length, map, get_or, refl, sym, ap, ◌∙◌, subst, arith, inl, inr, cases_lt, cases_eq, get_or_past, Reg, R10, Value, reg_number, Program, Kind, Unset, StackSlot, Written, slot_at, frame_slots, AbstractFrame, State, frames_of, abstract_frame_at, depth, registers_of, kind_at, no_frame, Means, abstract_frame_at-innermost, length-frames_of, FrameKeeps, MeansBy-change, kind_of, kind_of-registers, IsJoin, IsLive, IsSlotLive, numbered, returns_of, IsKept, IsSlotDeadAt, IsSlotKept, IsCallerSlotKept, slots_in, DeadForgotten, IsForgotten}
use Rattle.std.proofs.lemmas.Nat.Bits.{bit_at-zero}
use Rattle.isa_model.specs.declared.values.Cell.{Cell}
use Rattle.isa_model.specs.Machine.States as Machine
use Rattle.reg_state.specs.Kinds.{Assigned, Allows}
use Rattle.stack_state.specs.StackMeaning.{SlotMeans}

-- ---- what stays

pub DeadForgotten-slot : (p : Program) (a b : State) → DeadForgotten p a b → b.slot ≡ a.slot
DeadForgotten-slot p a b f = ap (λ (x : State). x.slot) f.rest

pub DeadForgotten-callers : (p : Program) (a b : State) → DeadForgotten p a b
    → length b.callers.items ≡ length a.callers.items
DeadForgotten-callers p a b f = f.callers.as_many

pub DeadForgotten-depth : (p : Program) (a b : State) → DeadForgotten p a b → depth b ≡ depth a
DeadForgotten-depth p a b f = ap (λ (n : ℕ). n + 1) (DeadForgotten-callers p a b f)

maps_same : {X : Type 0} (f : X → ℕ) (d : X) (xs ys : List X) → length xs ≡ length ys
    → ((k : ℕ) → k < length xs → f (get_or xs k d) ≡ f (get_or ys k d)) → map f xs ≡ map f ys
maps_same f d [] [] long same = refl
maps_same f d [] (y ∷ ys) long same = absurd (omega arith)
maps_same f d (x ∷ xs) [] long same = absurd (omega arith)
maps_same f d (x ∷ xs) (y ∷ ys) long same =
    ap (λ (n : ℕ). n ∷ map f xs) (same zero (omega arith))
    ∙ ap (λ (l : List ℕ). f y ∷ l)
    (maps_same f d xs ys (omega arith) (λ k below. same (suc k) (omega arith)))

-- each call frame returns to where it returned
frame_returns : (p : Program) (a b : State) (k : ℕ) → DeadForgotten p a b → k < depth a
    → (abstract_frame_at b k).return_slot ≡ (abstract_frame_at a k).return_slot
frame_returns p a b k f below = elim (cases_eq k (length a.callers.items)) [
  | inl last ↦
      let here : abstract_frame_at a k
      ≡ a.innermost = ap (abstract_frame_at a) last ∙ abstract_frame_at-innermost a in
      let there : abstract_frame_at b k ≡ b.innermost =
      ap (abstract_frame_at b) (last ∙ sym (DeadForgotten-callers p a b f))
      ∙ abstract_frame_at-innermost b in
      ap (λ (x : AbstractFrame). x.return_slot) there
      ∙ ap (λ (x : State). x.innermost.return_slot) f.rest
      ∙ ap (λ (x : AbstractFrame). x.return_slot) (sym here)
  | inr apart ↦ ap (λ (x : AbstractFrame). x.return_slot) (f.callers.each k (omega arith)).rest
]

pub DeadForgotten-returns : (p : Program) (a b : State) → DeadForgotten p a b
    → returns_of b ≡ returns_of a
DeadForgotten-returns p a b f =
    maps_same (λ (x : AbstractFrame). x.return_slot) no_frame (frames_of b) (frames_of a)
    (length-frames_of b ∙ DeadForgotten-depth p a b f ∙ sym (length-frames_of a))
    (λ k below. frame_returns p a b k f
    (omega (arith, below, length-frames_of b, DeadForgotten-depth p a b f)))

-- ---- what is known of registers

pub DeadForgotten-each : (p : Program) (a b : State) (r : Reg) → DeadForgotten p a b → r ≢ R10
    → IsKept p a.slot r (kind_of a r) (kind_of b r)
DeadForgotten-each p a b r f own =
    subst (λ k. IsKept p a.slot r k (kind_of b r)) (sym (kind_of-registers a r own))
    (subst (λ k. IsKept p a.slot r (kind_at (registers_of a) (reg_number r)) k)
    (sym (kind_of-registers b r own)) (f.registers.each r own))

-- a register that is live is known as before
pub DeadForgotten-live : (p : Program) (a b : State) (r : Reg) → DeadForgotten p a b → r ≢ R10
    → IsLive p r a.slot → kind_of b r ≡ kind_of a r
DeadForgotten-live p a b r f own live = elim (DeadForgotten-each p a b r f own) [
  | inl same ↦ same.1
  | inr gone ↦ absurd (gone.0.1 live)
]

-- where no paths meet, every register is known as before
pub DeadForgotten-alone : (p : Program) (a b : State) (r : Reg) → DeadForgotten p a b → r ≢ R10
    → (IsJoin p a.slot → ⊥) → kind_of b r ≡ kind_of a r
DeadForgotten-alone p a b r f own alone = elim (DeadForgotten-each p a b r f own) [
  | inl same ↦ same.1
  | inr gone ↦ absurd (alone gone.0.0)
]

-- ---- what is known of stack slots

-- a stack slot that is live is known as before
pub DeadForgotten-stack_slot_live : (p : Program) (a b : State) (j : ℕ) → DeadForgotten p a b
    → j < 64 → IsSlotLive p j a.slot → slot_at (slots_in b) j ≡ slot_at (slots_in a) j
DeadForgotten-stack_slot_live p a b j f below live = elim (f.slots.each j below) [
  | inl same ↦ same.1
  | inr gone ↦ absurd (gone.0.1 live)
]

-- ---- meanings

stack_slot_kept_means : (p : Program) (slot j : ℕ) (e : Assigned) (before after : StackSlot)
    (cs : List Cell)
    → IsSlotKept p slot j before after → SlotMeans e before cs → SlotMeans e after cs
stack_slot_kept_means p slot j e before after cs (inl same) h =
    subst (λ s. SlotMeans e s cs) (sym same.1) h
stack_slot_kept_means p slot j e before after cs (inr gone) h =
    let nothing : SlotMeans e (Written 0) cs = λ i below marked. let none = bit_at-zero i in
    absurd cc in
    subst (λ s. SlotMeans e s cs) (sym gone.1) nothing

caller_stack_slot_means : (p : Program) (slot j : ℕ) (e : Assigned) (before after : StackSlot)
    (cs : List Cell)
    → IsCallerSlotKept p slot j before after → SlotMeans e before cs → SlotMeans e after cs
caller_stack_slot_means p slot j e before after cs (inl same) h =
    subst (λ s. SlotMeans e s cs) (sym same) h
caller_stack_slot_means p slot j e before after cs (inr gone) h =
    let nothing : SlotMeans e (Written 0) cs = λ i below marked. let none = bit_at-zero i in
    absurd cc in
    subst (λ s. SlotMeans e s cs) (sym gone.1) nothing

kept_allows : (p : Program) (slot : ℕ) (r : Reg) (e : Assigned) (before after : Kind) (v : Value)
    → IsKept p slot r before after → Allows e before v → Allows e after v
kept_allows p slot r e before after v (inl same) h = subst (λ k. Allows e k v) (sym same.1) h
kept_allows p slot r e before after v (inr gone) h = subst (λ k. Allows e k v) (sym gone.1) tt

not_last : (r : Reg) (k : ℕ) → reg_number r ≡ k → k < 10 → r ≢ R10
not_last r k is below same =
    let ten : reg_number r ≡ 10 = ap reg_number same in absurd (omega arith)

-- what each register but r10 allows is allowed for each in the list
registers_allow : (old new : List Kind) (e : Assigned) → length new ≡ 10
    → ((r : Reg) (v : Value) → r ≢ R10 → Allows e (kind_at old (reg_number r)) v
    → Allows e (kind_at new (reg_number r)) v)
    → (k : ℕ) (v : Value) → Allows e (kind_at old k) v → Allows e (kind_at new k) v
registers_allow old new e ten each k v h = elim (cases_lt k 10) [
  | inl below ↦
      let (r, named, is) = numbered k (omega arith) in
      subst (λ n. Allows e (kind_at new n) v) is
      (each r v (not_last r k is below) (subst (λ n. Allows e (kind_at old n) v) (sym is) h))
  | inr past ↦
      let none : kind_at new k ≡ Unset = get_or_past new k Unset (omega arith) in
      subst (λ x. Allows e x v) (sym none) tt
]

-- a call frame keeps what it means, if each register but r10 and each stack slot does
pub frame_keeps : (g h : AbstractFrame) (e : Assigned) → length h.registers ≡ 10
    → ((r : Reg) (v : Value) → r ≢ R10 → Allows e (kind_at g.registers (reg_number r)) v
    → Allows e (kind_at h.registers (reg_number r)) v)
    → ((k : ℕ) (cs : List Cell) → k < frame_slots → SlotMeans e (slot_at g.stack.slots k) cs
    → SlotMeans e (slot_at h.stack.slots k) cs)
    → FrameKeeps e e g h
frame_keeps g h e ten registers slots =
    record { registers = registers_allow g.registers h.registers e ten registers; slots = slots }

-- as many call frames as before: each keeps what it means, if the innermost one and the callers do
pub frames_keep : (a b : State) (e : Assigned)
    → length b.callers.items ≡ length a.callers.items
    → FrameKeeps e e a.innermost b.innermost
    → ((j : ℕ) → j < length a.callers.items
    → FrameKeeps e e (abstract_frame_at a j) (abstract_frame_at b j))
    → (j : ℕ) → j < depth a → FrameKeeps e e (abstract_frame_at a j) (abstract_frame_at b j)
frames_keep a b e as_many own callers j below = elim (cases_eq j (length a.callers.items)) [
  | inl last ↦
      let here : abstract_frame_at a j ≡ a.innermost =
      ap (abstract_frame_at a) last ∙ abstract_frame_at-innermost a in
      let there : abstract_frame_at b j ≡ b.innermost =
      ap (abstract_frame_at b) (last ∙ sym as_many) ∙ abstract_frame_at-innermost b in
      subst (λ x. FrameKeeps e e x (abstract_frame_at b j)) (sym here)
      (subst (λ x. FrameKeeps e e a.innermost x) (sym there) own)
  | inr apart ↦ callers j (omega arith)
]

innermost_keeps : (p : Program) (a b : State) (e : Assigned) → DeadForgotten p a b
    → FrameKeeps e e a.innermost b.innermost
innermost_keeps p a b e f =
    frame_keeps a.innermost b.innermost e f.registers.ten
    (λ r v own. kept_allows p a.slot r e (kind_at (registers_of a) (reg_number r))
    (kind_at (registers_of b) (reg_number r)) v (f.registers.each r own))
    (λ k cs within. stack_slot_kept_means p a.slot k e (slot_at (slots_in a) k)
    (slot_at (slots_in b) k) cs (f.slots.each k within))

caller_keeps : (p : Program) (a b : State) (e : Assigned) → DeadForgotten p a b
    → (j : ℕ) → j < length a.callers.items
    → FrameKeeps e e (abstract_frame_at a j) (abstract_frame_at b j)
caller_keeps p a b e f j below =
    let kept = f.callers.each j below in
    record {
      registers =
          λ k v h.
          subst (λ (x : AbstractFrame). Allows e (kind_at x.registers k) v) (sym kept.rest) h;
      slots = λ k cs within h.
          caller_stack_slot_means p (abstract_frame_at a (j + 1)).return_slot k e
          (slot_at (abstract_frame_at a j).stack.slots k)
          (slot_at (abstract_frame_at b j).stack.slots k) cs (kept.slots k within) h;
    }

-- whatever the state means, it means once dead registers and stack slots are forgotten
pub Means-dead : (p : Program) (a b : State) (w : Machine.State) → DeadForgotten p a b → Means p a w
    → Means p b w
unfolding Means
Means-dead p a b w f (e, m) = (
  e,
  MeansBy-change p e e a b w m.assigned (DeadForgotten-slot p a b f) (DeadForgotten-returns p a b f)
      (frames_keep a b e (DeadForgotten-callers p a b f) (innermost_keeps p a b e f)
      (caller_keeps p a b e f)) m,
)

-- nothing is known of dead stack slots
pub DeadForgotten-forgotten : (p : Program) (a b : State) → DeadForgotten p a b → IsForgotten p b
DeadForgotten-forgotten p a b f = (
  f.slots.all,
  λ j below dead. elim (f.slots.each j below) [
    | inl kept ↦
        absurd (kept.0
        (subst (λ (n : ℕ). IsSlotDeadAt p n j) (DeadForgotten-slot p a b f) dead))
    | inr gone ↦ gone.1
  ],
)
