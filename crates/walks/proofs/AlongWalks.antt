-- A walk stays beside a run, step by step.
use Rattle.walks.proofs.Common.{◌≡◌, ◌+◌, ℕ, zero, suc, arith, refl, sym, ap, ◌∙◌, subst, inl, inr, ◌⊎◌, ◌≢◌, Written, length-replicate, Reg, R1, R10, reg_number, Program, reg, value_at, new_call_frame, step, start_state, start_regs, count_map_values, U64, Place, Insn, Load, CallHelper, IsDeterminedForm, IsDetermined, HasKnownStackSlots, HasKnownStackSlots-start, State, kind_of, start, kind_in, frame_slots, IsJust, Ways, IsAmong, StepsTo, HasSteps, IsLive, IsSlotLive, IsHomeLive, HasInput, TakesInput, Coarse, DeadForgotten, Forgets, AreForgotten, StepsInto}
use Rattle.isa_model.specs.Machine.States as Machine
use Rattle.isa_model.proofs.RunLaws.{progress-zero}
use Rattle.transfer.specs.declared.Ways.TheVariants as ways
use Rattle.walks.proofs.DeadForgottenLaws.{DeadForgotten-slot, DeadForgotten-depth, DeadForgotten-live, DeadForgotten-stack_slot_live}
use Rattle.walks.proofs.Forgotten.{Forgets-dead}
use Rattle.walks.proofs.Beside.{HoldsIf, Mirrored, IsNoPointer, first, Along}
use Rattle.walks.proofs.StillBeside.{NextAlong}
use Rattle.walks.proofs.Along.{step_along}

-- ---- determined programs take no input

takes_none : (i : Insn) → IsDeterminedForm i → TakesInput i → ⊥
takes_none (Load U64 d place) form takes = takes (ap (λ (x : Place). x.base) form.2)
takes_none (Load size d place) form takes = absurd form
takes_none (CallHelper number) form takes = absurd form
takes_none i form takes = absurd takes

-- so none of their numbers is forgotten
numbers_known : (p : Program) (steps : ℕ) → IsDetermined p steps → HasInput p → ⊥
numbers_known p steps d takes =
    let at = takes.1 in takes_none at.0 (d.forms takes.0 at.0 at.1) at.2

-- ---- beside the run

-- stack slots that are live are known as before
known_stack_slots : (p : Program) (a b : State) (t : Machine.State) → DeadForgotten p a b
    → HasKnownStackSlots (HoldsIf (λ h. IsHomeLive p h a.slot) a) t
    → HasKnownStackSlots (HoldsIf (λ h. IsHomeLive p h b.slot) b) t
known_stack_slots p a b t f h = record {
  call_frame = h.call_frame;
  only = h.only;
  pointer = h.pointer;
  wide = h.wide;
  each = λ j below. elim (h.each j below) [
    | inl unwritten ↦ inl unwritten
    | inr number ↦ inr (
      number.0,
      number.1,
      number.2,
      λ live.
          let before : IsSlotLive p j a.slot =
          subst (λ n. IsSlotLive p j n) (DeadForgotten-slot p a b f) live in
          subst (λ x. IsJust (kind_in x) number.0)
          (sym (DeadForgotten-stack_slot_live p a b j f below before)) (number.3 before),
    )
  ];
}

-- what is forgotten is dead, so the state stays beside the run's
pub Along-forgets : (p : Program) (steps : ℕ) (d : IsDetermined p steps) (k : ℕ) (a b : State)
    (t : Machine.State) → Forgets Coarse p a b
    → Along p steps d k a t → Along p steps d k b t
Along-forgets p steps d k a b t forgets along =
    let f = Forgets-dead p a b (numbers_known p steps d) forgets in
    let m = along.mirrors in
    record {
      reached = along.reached;
      mirrors = record {
        slot = m.slot ∙ sym (DeadForgotten-slot p a b f);
        one = DeadForgotten-depth p a b f ∙ m.one;
        room = f.registers.ten;
        wide = m.wide;
        regs = λ r own live.
            let before : IsLive p r a.slot =
            subst (λ n. IsLive p r n) (DeadForgotten-slot p a b f) live in
            subst (Mirrored (reg t r)) (sym (DeadForgotten-live p a b r f own before))
            (m.regs r own before);
        all_slots = f.slots.all;
        stack = known_stack_slots p a b t f m.stack;
      };
      numbers = along.numbers;
    }

pub into_along : (p : Program) (steps : ℕ) (d : IsDetermined p steps) (k : ℕ) (s : State)
    (t : Machine.State) (w : Ways) (a b : State)
    → Along p steps d k s t → StepsInto p s w a b → NextAlong p steps d k w a
into_along p steps d k s t w a b along step =
    of w a b step.next step.aside step.forgets
    (step_along p steps d k s t step.insn w step.next step.aside along step.here
    step.makes) where
      of : (w : Ways) (a b x y : State) → AreForgotten p w x y a b → NextAlong p steps d k w x
          → NextAlong p steps d k w a
      of ways.None a b x y f next = tt
      of ways.One a b x y f next = (next.0, Along-forgets p steps d (suc k) x a next.0 f next.1)
      of ways.Two a b x y f next = absurd next

-- each step of a walk stays beside the run
pub to_along : (p : Program) (steps : ℕ) (d : IsDetermined p steps) (k : ℕ) (s c : State)
    (t : Machine.State)
    → Along p steps d k s t → StepsTo Coarse p s c → (u : Machine.State)
    × Along p steps d (suc k) c u
to_along p steps d k s c t along step =
    of step.taken step.first step.other
    (step_along p steps d k s t step.insn step.taken step.first step.other along step.here
    step.makes) step.among where
      of : (w : Ways) (a b : State) → NextAlong p steps d k w a → IsAmong w a b step.next
          → (u : Machine.State) × Along p steps d (suc k) c u
      of ways.None a b next among = absurd among
      of ways.One a b next among = (
        next.0,
        Along-forgets p steps d (suc k) step.next c next.0 step.forgets
            (subst (λ x. Along p steps d (suc k) x next.0) (sym among) next.1),
      )
      of ways.Two a b next among = absurd next

pub walk_along : (p : Program) (steps : ℕ) (d : IsDetermined p steps) (n k : ℕ) (a b : State)
    (t : Machine.State)
    → Along p steps d k a t → HasSteps Coarse p n a b → (u : Machine.State)
    × Along p steps d (k + n) b u
unfolding HasSteps
walk_along p steps d zero k a b t along h = (
  t,
  subst (λ j. Along p steps d j b t) (omega arith)
      (subst (λ x. Along p steps d k x t) (sym h) along),
)
walk_along p steps d (suc n) k a b t along h =
    let (u, next) = to_along p steps d k a h.0 t along h.1 in
    let (v, there) = walk_along p steps d n (suc k) h.0 b u next h.2 in
    (v, subst (λ j. Along p steps d j b v) (omega arith) there)

start_mirrored : (serial : ℕ) (r : Reg) → r ≢ R10
    → Mirrored (value_at (start_regs serial) (reg_number r)) (kind_of start r)
start_mirrored serial R10 own = absurd (own refl)
start_mirrored serial r own = tt

start_no_pointer : (serial : ℕ) (r : Reg) → r ≢ R10
    → IsNoPointer (value_at (start_regs serial) (reg_number r)) ⊎ (r ≡ R1)
start_no_pointer serial R10 own = absurd (own refl)
start_no_pointer serial R1 own = inr refl
start_no_pointer serial r own = inl tt

pub start_along : (p : Program) (steps : ℕ) (d : IsDetermined p steps)
    → Along p steps d 0 start (first p steps d)
unfolding start start_state new_call_frame
start_along p steps d =
    let serial = count_map_values d.run.contents in
    record {
      reached = progress-zero p d.run.clock (first p steps d);
      mirrors =
          record {
            slot = refl;
            one = refl;
            room = refl;
            wide = refl;
            regs = λ r own live. start_mirrored serial r own;
            all_slots = length-replicate frame_slots (Written 0);
            stack =
                HasKnownStackSlots-start (HoldsIf (λ h. IsHomeLive p h start.slot) start) d.run.head
                d.run.packet d.run.contents;
          };
      numbers = λ r own. elim (start_no_pointer serial r own) [
        | inl free ↦ inl free
        | inr argument ↦
            inr (argument, λ w. let before = w.before in absurd (omega (arith, before)))
      ];
    }
