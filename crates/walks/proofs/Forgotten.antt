-- What forgetting does to a state, of what is dead and of numbers that do not matter: it means
-- more, and all else stays.
use Rattle.walks.proofs.Common.{◌≡◌, ◌≢◌, ◌<◌, ◌∷◌, ◌++◌, [], ℕ, List, length, sym, ap, ◌∙◌, subst, arith, inl, inr, ◌⊎◌, ◌+◌, Reg, R10, reg_number, Program, step, Follows, After-weaker, slot_at, AbstractFrame, State, abstract_frame_at, depth, registers_of, kind_at, Means, Covers, kind_of, IsNumberKind, IsJoin, IsLive, HasInput, Ways, LeadsTo, InSome, returns_of, GoesOnTo, IsDeadAt, IsKept, IsSlotDeadAt, IsSlotKept, IsCallerKept, slots_in, DeadForgotten, Precision, NumbersForgotten, Forgets, IsForgotten, AreForgotten}
use Rattle.isa_model.specs.Machine.States as Machine
use Rattle.transfer.specs.declared.Ways.TheVariants as ways
use Rattle.walks.proofs.DeadForgottenLaws.{DeadForgotten-slot, DeadForgotten-callers, DeadForgotten-depth, DeadForgotten-returns, DeadForgotten-each, DeadForgotten-live, DeadForgotten-alone, DeadForgotten-forgotten, Means-dead}
use Rattle.walks.proofs.NumbersForgottenLaws.{NumbersForgotten-slot, NumbersForgotten-callers, NumbersForgotten-depth, NumbersForgotten-caller, NumbersForgotten-returns, NumbersForgotten-number, NumbersForgotten-other, NumbersForgotten-alone, AreNumbersKept-none, AreSpilledNumbersKept-none, NumbersForgotten-written, NumbersForgotten-twice, Means-numbers}

-- ---- what stays

pub Forgets-slot : {how : Precision} (p : Program) (a b : State) → Forgets how p a b
    → b.slot ≡ a.slot
Forgets-slot p a b f =
    NumbersForgotten-slot p f.middle b f.numbers ∙ DeadForgotten-slot p a f.middle f.dead

pub Forgets-callers : {how : Precision} (p : Program) (a b : State) → Forgets how p a b
    → length b.callers.items ≡ length a.callers.items
Forgets-callers p a b f =
    ap (λ (x : State). length x.callers.items) f.numbers.rest
    ∙ DeadForgotten-callers p a f.middle f.dead

pub Forgets-depth : {how : Precision} (p : Program) (a b : State) → Forgets how p a b
    → depth b ≡ depth a
Forgets-depth p a b f =
    NumbersForgotten-depth p f.middle b f.numbers ∙ DeadForgotten-depth p a f.middle f.dead

pub Forgets-returns : {how : Precision} (p : Program) (a b : State) → Forgets how p a b
    → returns_of b ≡ returns_of a
Forgets-returns p a b f =
    NumbersForgotten-returns p f.middle b f.numbers ∙ DeadForgotten-returns p a f.middle f.dead

-- ---- what is known of registers

-- where no paths meet, every register is known as before
pub Forgets-alone : {how : Precision} (p : Program) (a b : State) (r : Reg) → Forgets how p a b
    → r ≢ R10
    → (IsJoin p a.slot → ⊥) → kind_of b r ≡ kind_of a r
Forgets-alone p a b r f own alone =
    let slot = DeadForgotten-slot p a f.middle f.dead in
    NumbersForgotten-alone p f.middle b r f.numbers own (λ join. alone (subst (IsJoin p) slot join))
    ∙ DeadForgotten-alone p a f.middle r f.dead own alone

-- a number stays a number, or its register is dead
pub Forgets-number : {how : Precision} (p : Program) (a b : State) (r : Reg) → Forgets how p a b
    → r ≢ R10
    → IsNumberKind (kind_of a r) → IsDeadAt p a.slot r ⊎ IsNumberKind (kind_of b r)
Forgets-number p a b r f own number = elim (DeadForgotten-each p a f.middle r f.dead own) [
  | inl same ↦
      inr (NumbersForgotten-number p f.middle b r f.numbers own
      (subst IsNumberKind (sym same.1) number))
  | inr gone ↦ inl gone.0
]

-- a register that is live, and no number, is known as before
pub Forgets-pointer : {how : Precision} (p : Program) (a b : State) (r : Reg) → Forgets how p a b
    → r ≢ R10
    → IsLive p r a.slot → (IsNumberKind (kind_of a r) → ⊥) → kind_of b r ≡ kind_of a r
Forgets-pointer p a b r f own live pointer =
    let same = DeadForgotten-live p a f.middle r f.dead own live in
    NumbersForgotten-other p f.middle b r f.numbers own
    (λ number. pointer (subst IsNumberKind same number))
    ∙ same

-- ---- programs whose numbers stay known

callers_forgotten : {how : Precision} (p : Program) (a b : State) (k : ℕ) → (f : Forgets how p a b)
    → k < length a.callers.items
    → IsCallerKept p (abstract_frame_at a (k + 1)).return_slot (abstract_frame_at a k)
    (abstract_frame_at b k)
callers_forgotten p a b k f below =
    let inside : k < length f.middle.callers.items =
    let as_many = f.dead.callers.as_many in omega (arith, below, as_many) in
    subst (λ (x : AbstractFrame).
    IsCallerKept p (abstract_frame_at a (k + 1)).return_slot (abstract_frame_at a k) x)
    (sym (NumbersForgotten-caller p f.middle b k f.numbers inside))
    (f.dead.callers.each k below)

-- only what is dead is forgotten
pub Forgets-dead : {how : Precision} (p : Program) (a b : State) → (HasInput p → ⊥)
    → Forgets how p a b
    → DeadForgotten p a b
Forgets-dead p a b none f =
    let over : State → State = λ x. record x {
      innermost =
          record x.innermost { registers = registers_of b; stack = record { slots = slots_in b } };
    } in
    record {
      rest =
          f.numbers.rest ∙ ap over f.dead.rest
          ∙ ap (λ cs. record (over a) { callers = cs })
          (sym (NumbersForgotten-callers p f.middle b f.numbers));
      callers = record {
        as_many = Forgets-callers p a b f;
        each = λ k below. callers_forgotten p a b k f below;
      };
      registers = record {
        ten = f.numbers.registers.ten;
        each = λ r own.
            subst (IsKept p a.slot r (kind_at (registers_of a) (reg_number r)))
            (sym (AreNumbersKept-none p f.middle b r f.numbers none own))
            (f.dead.registers.each r own);
      };
      slots = record {
        all = f.numbers.slots.all;
        each = λ j below.
            subst (IsSlotKept p a.slot j (slot_at (slots_in a) j))
            (sym (AreSpilledNumbersKept-none p f.middle b j f.numbers none below))
            (f.dead.slots.each j below);
      };
    }

-- ---- further numbers

-- more numbers are forgotten afterwards
pub Forgets-further : {how : Precision} (p : Program) (a b c : State) → Forgets how p a b
    → NumbersForgotten how p b c
    → Forgets how p a c
Forgets-further p a b c f more = record {
  middle = f.middle;
  dead = f.dead;
  numbers = NumbersForgotten-twice p f.middle b c f.numbers more;
}

-- ---- meanings

-- whatever the state means, it means once what is dead and some numbers are forgotten
pub Means-forgets : {how : Precision} (p : Program) (a b : State) (w : Machine.State)
    → Forgets how p a b → Means p a w
    → Means p b w
Means-forgets p a b w f means =
    Means-numbers p f.middle b w f.numbers (Means-dead p a f.middle w f.dead means)

pub Forgets-covers : {how : Precision} (p : Program) (a b : State) → Forgets how p a b
    → Covers p b a
unfolding Covers
Forgets-covers p a b f = λ w means. Means-forgets p a b w f means

-- ---- successors

some_forgotten : (p : Program) (w : Ways) (a b first other : State) (v : Machine.State)
    → AreForgotten p w a b first other → InSome p w a b v → InSome p w first other v
some_forgotten p ways.None a b first other v f h = h
some_forgotten p ways.One a b first other v f h = Means-forgets p a first v f h
some_forgotten p ways.Two a b first other v f (inl h) = inl (Means-forgets p a first v f.0 h)
some_forgotten p ways.Two a b first other v f (inr h) = inr (Means-forgets p b other v f.1 h)

pub LeadsTo-forgets : (p : Program) (s : State) (w : Ways) (a b first other : State)
    → AreForgotten p w a b first other → LeadsTo p s w a b → LeadsTo p s w first other
unfolding LeadsTo
LeadsTo-forgets p s w a b first other f leads = λ clock answers v means.
    After-weaker (InSome p w a b) (InSome p w first other) (step p clock v)
    (λ x h. some_forgotten p w a b first other x f h) (leads clock answers v means)

pub GoesOnTo-forgets : {how : Precision} (p : Program) (s a b : State) → Forgets how p a b
    → GoesOnTo p s a
    → GoesOnTo p s b
GoesOnTo-forgets p s a b f (inl h) = inl (record {
  follows = subst (λ n. Follows p s.slot n) (sym (Forgets-slot p a b f)) h.follows;
  returns = Forgets-returns p a b f ∙ h.returns;
})
GoesOnTo-forgets p s a b f (inr (inl h)) = inr (inl (record {
  by = h.by;
  here = h.here;
  target = Forgets-slot p a b f ∙ h.target;
  returns = Forgets-returns p a b f ∙ h.returns;
}))
GoesOnTo-forgets p s a b f (inr (inr h)) = inr (inr (record {
  here = h.here;
  returns =
      h.returns ∙ ap (λ (rs : List ℕ). rs ++ a.slot ∷ []) (sym (Forgets-returns p a b f))
      ∙ ap (λ (n : ℕ). returns_of b ++ n ∷ []) (sym (Forgets-slot p a b f));
}))

-- ---- stack slots that are dead

-- nothing is known of dead stack slots
pub Forgets-forgotten : {how : Precision} (p : Program) (a b : State) → Forgets how p a b
    → IsForgotten p b
Forgets-forgotten p a b f =
    let slot = NumbersForgotten-slot p f.middle b f.numbers in (
      f.numbers.slots.all,
      λ j below dead.
          NumbersForgotten-written p f.middle b j 0 f.numbers below
          ((DeadForgotten-forgotten p a f.middle f.dead).1 j below
          (subst (λ (n : ℕ). IsSlotDeadAt p n j) slot dead)),
    )
