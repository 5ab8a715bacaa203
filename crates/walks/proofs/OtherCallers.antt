-- What forgetting does to a state whose callers all stay, it does whatever these callers are.
use Rattle.walks.proofs.Common.{◌≡◌, ℕ, refl, sym, ap, ◌∙◌, arith, inl, inr, Reg, Program, Kind, StackSlot, AbstractFrame, State, Home, IsCallerKept, AreCallersKept, DeadForgotten, Precision, Exact, Coarse, MayBeLost, IsNumberKept, IsSpilledNumberKept, NumbersForgotten, Forgets, abstract_frame_at-caller}

-- a state with the callers of another one
abbrev pub with_callers : State → State → State
with_callers a c = record a { callers = c.callers }

-- ---- what is dead

stays : (p : Program) (slot : ℕ) (f g : AbstractFrame) → g ≡ f → IsCallerKept p slot f g
stays p slot f g same = rw same (record { rest = refl; slots = λ j below. inl refl })

callers_stay : (p : Program) (a b c : State) → AreCallersKept p (with_callers a c) (with_callers b c)
callers_stay p a b c = record {
  as_many = refl;
  each = λ k below.
      stays p _ _ _
      (abstract_frame_at-caller (with_callers b c) k (omega (arith, below))
      ∙ sym (abstract_frame_at-caller (with_callers a c) k (omega (arith, below))));
}

dead_beside : (p : Program) (a b c : State) → DeadForgotten p a b
    → DeadForgotten p (with_callers a c) (with_callers b c)
dead_beside p a b c f = record {
  rest = ap (λ (x : State). with_callers x c) f.rest;
  callers = callers_stay p a b c;
  registers = f.registers;
  slots = f.slots;
}

-- ---- numbers

lost_beside : (how : Precision) (p : Program) (s c : State) (h : Home) → MayBeLost how p s h
    → MayBeLost how p (with_callers s c) h
lost_beside Exact p s c h (inl never) = inl never
lost_beside Exact p s c h (inr m) =
    inr (record { may = m.may; join = m.join; ends = m.ends; numbers = m.numbers })
lost_beside Coarse p s c h any = tt

number_beside : (how : Precision) (p : Program) (s c : State) (r : Reg) (before after : Kind)
    → IsNumberKept how p s r before after → IsNumberKept how p (with_callers s c) r before after
number_beside how p s c r before after (inl same) = inl same
number_beside how p s c r before after (inr ((may, join, lost), number, any)) =
    inr ((may, join, lost_beside how p s c _ lost), number, any)

spilled_beside : (how : Precision) (p : Program) (s c : State) (j : ℕ) (before after : StackSlot)
    → IsSpilledNumberKept how p s j before after
    → IsSpilledNumberKept how p (with_callers s c) j before after
spilled_beside how p s c j before after (inl same) = inl same
spilled_beside how p s c j before after (inr ((may, join, lost), number, written)) =
    inr ((may, join, lost_beside how p s c _ lost), number, written)

numbers_beside : (how : Precision) (p : Program) (a b c : State) → NumbersForgotten how p a b
    → NumbersForgotten how p (with_callers a c) (with_callers b c)
numbers_beside how p a b c f = record {
  rest = ap (λ (x : State). with_callers x c) f.rest;
  registers = record {
    ten = f.registers.ten;
    each = λ r own. number_beside how p a c r _ _ (f.registers.each r own);
  };
  slots = record {
    all = f.slots.all;
    each = λ j below. spilled_beside how p a c j _ _ (f.slots.each j below);
  };
}

-- ---- both

pub Forgets-beside : (how : Precision) (p : Program) (a b c : State) → Forgets how p a b
    → Forgets how p (with_callers a c) (with_callers b c)
Forgets-beside how p a b c f = record {
  middle = with_callers f.middle c;
  dead = dead_beside p a f.middle c f.dead;
  numbers = numbers_beside how p f.middle b c f.numbers;
}
