-- What forgetting numbers that do not matter does to a state: it means more, and all else stays.
use Rattle.walks.proofs.Common.{◌≡◌, ◌≢◌, ◌<◌, ◌∷◌, [], ℕ, List, length, get_or, refl, sym, ap, ◌∙◌, subst, arith, inl, inr, map-append, Reg, R10, Value, reg_number, Program, Kind, Number, StackSlot, Written, Spilled, slot_at, kind_in, IsAnyNumber, AbstractFrame, State, abstract_frame_at, depth, registers_of, kind_at, no_frame, Means, kind_of, abstract_frame_at-caller, FrameKeeps, MeansBy-change, kind_of-registers, IsNumberKind, IsJoin, Home, InRegister, InSlot, IsLive, HasInput, IsNumberTested, returns_of, IsNumberKept, IsSpilledNumberKept, slots_in, MayForgetAll, Precision, Exact, Coarse, MayForgetIn, MayBeLost, MayForgetNumber, NumbersForgotten}
use Rattle.isa_model.specs.declared.values.Cell.{Cell}
use Rattle.isa_model.specs.Machine.States as Machine
use Rattle.reg_state.specs.Kinds.{Assigned, Allows}
use Rattle.stack_state.specs.StackMeaning.{SlotMeans, stored_cells}
use Rattle.stack_state.proofs.CellLaws.{marked_number}
use Rattle.control_flow.specs.Endings.{EndsPlainly}
use Rattle.walks.proofs.DeadForgottenLaws.{frame_keeps, frames_keep}

-- ---- what stays

pub NumbersForgotten-slot : {how : Precision} (p : Program) (a b : State)
    → NumbersForgotten how p a b → b.slot ≡ a.slot
NumbersForgotten-slot p a b f = ap (λ (x : State). x.slot) f.rest

pub NumbersForgotten-callers : {how : Precision} (p : Program) (a b : State)
    → NumbersForgotten how p a b
    → b.callers ≡ a.callers
NumbersForgotten-callers p a b f = ap (λ (x : State). x.callers) f.rest

pub NumbersForgotten-depth : {how : Precision} (p : Program) (a b : State)
    → NumbersForgotten how p a b
    → depth b ≡ depth a
NumbersForgotten-depth p a b f = ap depth f.rest

-- each caller stays as it is
pub NumbersForgotten-caller : {how : Precision} (p : Program) (a b : State) (k : ℕ)
    → NumbersForgotten how p a b
    → k < length a.callers.items → abstract_frame_at b k ≡ abstract_frame_at a k
NumbersForgotten-caller p a b k f below =
    abstract_frame_at-caller b k (omega (arith, below, NumbersForgotten-depth p a b f))
    ∙ ap (λ (x : State). get_or x.callers.items k no_frame) f.rest
    ∙ sym (abstract_frame_at-caller a k (omega (arith, below)))

pub NumbersForgotten-returns : {how : Precision} (p : Program) (a b : State)
    → NumbersForgotten how p a b
    → returns_of b ≡ returns_of a
NumbersForgotten-returns p a b f =
    let slot : AbstractFrame → ℕ = λ x. x.return_slot in
    ap returns_of f.rest ∙ map-append slot a.callers.items _
    ∙ sym (map-append slot a.callers.items (a.innermost ∷ []))

-- ---- what is known of registers

pub NumbersForgotten-each : {how : Precision} (p : Program) (a b : State) (r : Reg)
    → NumbersForgotten how p a b
    → r ≢ R10 → IsNumberKept how p a r (kind_of a r) (kind_of b r)
NumbersForgotten-each {how = how} p a b r f own =
    subst (λ k. IsNumberKept how p a r k (kind_of b r)) (sym (kind_of-registers a r own))
    (subst (λ k. IsNumberKept how p a r (kind_at (registers_of a) (reg_number r)) k)
    (sym (kind_of-registers b r own)) (f.registers.each r own))

any_number : (k : Kind) → IsAnyNumber k → IsNumberKind k
any_number (Number numbers) any = tt
any_number k any = absurd any

-- a number stays a number
pub NumbersForgotten-number : {how : Precision} (p : Program) (a b : State) (r : Reg)
    → NumbersForgotten how p a b
    → r ≢ R10 → IsNumberKind (kind_of a r) → IsNumberKind (kind_of b r)
NumbersForgotten-number p a b r f own number = elim (NumbersForgotten-each p a b r f own) [
  | inl same ↦ subst IsNumberKind (sym same) number
  | inr gone ↦ any_number (kind_of b r) gone.2
]

-- and all else is known as before
pub NumbersForgotten-other : {how : Precision} (p : Program) (a b : State) (r : Reg)
    → NumbersForgotten how p a b
    → r ≢ R10 → (IsNumberKind (kind_of a r) → ⊥) → kind_of b r ≡ kind_of a r
NumbersForgotten-other p a b r f own other = elim (NumbersForgotten-each p a b r f own) [
  | inl same ↦ same
  | inr gone ↦ absurd (other gone.1)
]

-- where no paths meet, every register is known as before
pub NumbersForgotten-alone : {how : Precision} (p : Program) (a b : State) (r : Reg)
    → NumbersForgotten how p a b
    → r ≢ R10 → (IsJoin p a.slot → ⊥) → kind_of b r ≡ kind_of a r
NumbersForgotten-alone p a b r f own alone = elim (NumbersForgotten-each p a b r f own) [
  | inl same ↦ same
  | inr gone ↦ absurd (alone gone.0.1)
]

-- only programs with input have numbers that may be forgotten
has_input : (how : Precision) (p : Program) → MayForgetIn how p → HasInput p
has_input Exact p may = may.takes
has_input Coarse p takes = takes

-- so all stay in a program without
pub AreNumbersKept-none : {how : Precision} (p : Program) (a b : State) (r : Reg)
    → NumbersForgotten how p a b
    → (HasInput p → ⊥) → r ≢ R10
    → kind_at (registers_of b) (reg_number r) ≡ kind_at (registers_of a) (reg_number r)
AreNumbersKept-none {how = how} p a b r f none own = elim (f.registers.each r own) [
  | inl same ↦ same
  | inr gone ↦ absurd (none (has_input how p gone.0.0))
]

-- ---- what is known of stack slots

pub AreSpilledNumbersKept-none : {how : Precision} (p : Program) (a b : State) (j : ℕ)
    → NumbersForgotten how p a b
    → (HasInput p → ⊥) → j < 64 → slot_at (slots_in b) j ≡ slot_at (slots_in a) j
AreSpilledNumbersKept-none {how = how} p a b j f none below = elim (f.slots.each j below) [
  | inl same ↦ same
  | inr gone ↦ absurd (none (has_input how p gone.0.0))
]

-- where no value was spilled, the stack slot stays as it is
pub NumbersForgotten-written : {how : Precision} (p : Program) (a b : State) (j marks : ℕ)
    → NumbersForgotten how p a b
    → j < 64 → slot_at (slots_in a) j ≡ Written marks → slot_at (slots_in b) j ≡ Written marks
NumbersForgotten-written p a b j marks f below written = elim (f.slots.each j below) [
  | inl same ↦ same ∙ written
  | inr gone ↦
      let none : IsNumberKind (kind_in (Written marks)) =
      subst (λ (x : StackSlot). IsNumberKind (kind_in x)) written gone.1 in absurd none
]

-- ---- meanings

-- any number allows what a number does
number_allows : (e : Assigned) (before after : Kind) (v : Value) → IsNumberKind before
    → IsAnyNumber after → Allows e before v → Allows e after v
number_allows e (Number old) (Number new) v number any h = (h.0, h.1, any h.0 h.2.0.below)
number_allows e (Number old) after v number any h = absurd any
number_allows e before after v number any h = absurd number

kept_allows : (how : Precision) (p : Program) (s : State) (r : Reg) (e : Assigned)
    (before after : Kind) (v : Value)
    → IsNumberKept how p s r before after → Allows e before v → Allows e after v
kept_allows how p s r e before after v (inl same) h = subst (λ k. Allows e k v) (sym same) h
kept_allows how p s r e before after v (inr gone) h =
    number_allows e before after v gone.1 gone.2 h

-- the cells of a spilled number are number bytes
spilled_means : (e : Assigned) (before : StackSlot) (cs : List Cell)
    → IsNumberKind (kind_in before) → SlotMeans e before cs → SlotMeans e (Written 255) cs
spilled_means e (Spilled (Number numbers)) cs number h =
    marked_number h.1.0 cs (h.2 ∙ ap stored_cells h.1.1)
spilled_means e (Spilled k) cs number h = absurd number
spilled_means e (Written marks) cs number h = absurd number

stack_slot_kept_means : (how : Precision) (p : Program) (s : State) (j : ℕ) (e : Assigned)
    (before after : StackSlot)
    (cs : List Cell)
    → IsSpilledNumberKept how p s j before after → SlotMeans e before cs → SlotMeans e after cs
stack_slot_kept_means how p s j e before after cs (inl same) h =
    subst (λ x. SlotMeans e x cs) (sym same) h
stack_slot_kept_means how p s j e before after cs (inr gone) h =
    subst (λ x. SlotMeans e x cs) (sym gone.2) (spilled_means e before cs gone.1 h)

innermost_keeps : {how : Precision} (p : Program) (a b : State) (e : Assigned)
    → NumbersForgotten how p a b
    → FrameKeeps e e a.innermost b.innermost
innermost_keeps {how = how} p a b e f =
    frame_keeps a.innermost b.innermost e f.registers.ten
    (λ r v own. kept_allows how p a r e (kind_at (registers_of a) (reg_number r))
    (kind_at (registers_of b) (reg_number r)) v (f.registers.each r own))
    (λ k cs within. stack_slot_kept_means how p a k e (slot_at (slots_in a) k)
    (slot_at (slots_in b) k) cs (f.slots.each k within))

caller_keeps : {how : Precision} (p : Program) (a b : State) (e : Assigned)
    → NumbersForgotten how p a b
    → (j : ℕ) → j < length a.callers.items
    → FrameKeeps e e (abstract_frame_at a j) (abstract_frame_at b j)
caller_keeps p a b e f j below =
    subst (λ x. FrameKeeps e e (abstract_frame_at a j) x)
    (sym (NumbersForgotten-caller p a b j f below))
    (record { registers = λ k v h. h; slots = λ k cs within h. h })

-- whatever the state means, it means once numbers are forgotten
pub Means-numbers : {how : Precision} (p : Program) (a b : State) (w : Machine.State)
    → NumbersForgotten how p a b
    → Means p a w → Means p b w
unfolding Means
Means-numbers p a b w f (e, m) = (
  e,
  MeansBy-change p e e a b w m.assigned (NumbersForgotten-slot p a b f)
      (NumbersForgotten-returns p a b f)
      (frames_keep a b e (ap (λ (x : State). length x.callers.items) f.rest)
      (innermost_keeps p a b e f) (caller_keeps p a b e f)) m,
)

-- where nothing is forgotten
pub numbers_stay : {how : Precision} (p : Program) (a : State) → length (registers_of a) ≡ 10
    → length (slots_in a) ≡ 64 → NumbersForgotten how p a a
numbers_stay p a ten all = record {
  rest = refl;
  registers = record { ten = ten; each = λ r own. inl refl };
  slots = record { all = all; each = λ j below. inl refl };
}

-- ---- twice

-- a live register that is a number once numbers are forgotten was one before
MayForgetAll-before : {how : Precision} (p : Program) (a b : State) → NumbersForgotten how p a b
    → MayForgetAll p b
    → MayForgetAll p a
MayForgetAll-before p a b f all =
    let slot = NumbersForgotten-slot p a b f in record {
      may = all.may;
      join = subst (IsJoin p) slot all.join;
      ends = subst (EndsPlainly p) slot all.ends;
      numbers = λ r live.
          let own = all.numbers r (subst (IsLive p r) (sym slot) live) in
          elim (f.registers.each r own.0) [
            | inl same ↦ (own.0, subst IsNumberKind same own.1)
            | inr gone ↦ (own.0, gone.1)
          ];
    }

MayBeLost-before : (how : Precision) (p : Program) (a b : State) (h : Home)
    → NumbersForgotten how p a b → MayBeLost how p b h → MayBeLost how p a h
MayBeLost-before Exact p a b h f (inl free) =
    let slot = NumbersForgotten-slot p a b f in
    inl (λ tested. free (subst (IsNumberTested p h) (sym slot) tested))
MayBeLost-before Exact p a b h f (inr all) = inr (MayForgetAll-before p a b f all)
MayBeLost-before Coarse p a b h f why = tt

MayForgetNumber-before : {how : Precision} (p : Program) (a b : State) (h : Home)
    → NumbersForgotten how p a b
    → MayForgetNumber how p b h → MayForgetNumber how p a h
MayForgetNumber-before {how = how} p a b h f (may, join, why) = (
  may,
  subst (IsJoin p) (NumbersForgotten-slot p a b f) join,
  MayBeLost-before how p a b h f why,
)

number_kept_twice : {how : Precision} (p : Program) (s t : State) (r : Reg) (a b c : Kind)
    → NumbersForgotten how p s t
    → IsNumberKept how p s r a b → IsNumberKept how p t r b c → IsNumberKept how p s r a c
number_kept_twice p s t r a b c f (inl same) (inl again) = inl (again ∙ same)
number_kept_twice p s t r a b c f (inl same) (inr gone) =
    inr (
      MayForgetNumber-before p s t (InRegister r) f gone.0,
      subst IsNumberKind same gone.1,
      gone.2,
    )
number_kept_twice p s t r a b c f (inr gone) (inl again) =
    inr (gone.0, gone.1, subst IsAnyNumber (sym again) gone.2)
number_kept_twice p s t r a b c f (inr gone) (inr more) = inr (gone.0, gone.1, more.2)

spilled_kept_twice : {how : Precision} (p : Program) (s t : State) (j : ℕ) (a b c : StackSlot)
    → NumbersForgotten how p s t → IsSpilledNumberKept how p s j a b
    → IsSpilledNumberKept how p t j b c
    → IsSpilledNumberKept how p s j a c
spilled_kept_twice p s t j a b c f (inl same) (inl again) = inl (again ∙ same)
spilled_kept_twice p s t j a b c f (inl same) (inr gone) =
    inr (
      MayForgetNumber-before p s t (InSlot j) f gone.0,
      subst (λ (x : StackSlot). IsNumberKind (kind_in x)) same gone.1,
      gone.2,
    )
spilled_kept_twice p s t j a b c f (inr gone) (inl again) = inr (gone.0, gone.1, again ∙ gone.2)
spilled_kept_twice p s t j a b c f (inr gone) (inr more) = inr (gone.0, gone.1, more.2)

-- what is forgotten in two steps
pub NumbersForgotten-twice : {how : Precision} (p : Program) (a b c : State)
    → NumbersForgotten how p a b
    → NumbersForgotten how p b c → NumbersForgotten how p a c
NumbersForgotten-twice p a b c f g = record {
  rest =
      g.rest ∙ ap (λ (x : State). record x {
        innermost = record x.innermost {
          registers = registers_of c;
          stack = record { slots = slots_in c };
        };
      }) f.rest;
  registers = record {
    ten = g.registers.ten;
    each = λ r own.
        number_kept_twice p a b r (kind_at (registers_of a) (reg_number r))
        (kind_at (registers_of b) (reg_number r)) (kind_at (registers_of c) (reg_number r)) f
        (f.registers.each r own) (g.registers.each r own);
  };
  slots = record {
    all = g.slots.all;
    each = λ j below.
        spilled_kept_twice p a b j (slot_at (slots_in a) j) (slot_at (slots_in b) j)
        (slot_at (slots_in c) j) f (f.slots.each j below) (g.slots.each j below);
  };
}
