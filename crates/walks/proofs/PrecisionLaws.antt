-- Coarse walks may forget all that exact ones forget.
use Rattle.walks.proofs.Common.{inl, inr, ℕ, zero, suc, Reg, Program, Kind, StackSlot, State, Home, InRegister, InSlot, Refusal, Precision, Exact, Coarse, IsNoFiner, MayForgetIn, MayBeLost, IsNumberKept, IsSpilledNumberKept, NumbersForgotten, Forgets, StepsTo, HasSteps, WalksTo, IsStuck, ComesBack}

-- no walks are finer than exact ones
pub no_finer_than_exact : (how : Precision) → IsNoFiner how Exact
no_finer_than_exact Exact = tt
no_finer_than_exact Coarse = tt

pub IsNoFiner-trans : (a b c : Precision) → IsNoFiner a b → IsNoFiner b c → IsNoFiner a c
IsNoFiner-trans Coarse b c one other = tt
IsNoFiner-trans Exact Exact c one other = other
IsNoFiner-trans Exact Coarse c one other = absurd one

MayForgetIn-as : (to how : Precision) (p : Program) → IsNoFiner to how → MayForgetIn how p
    → MayForgetIn to p
MayForgetIn-as Coarse Exact p fine may = may.takes
MayForgetIn-as Coarse Coarse p fine may = may
MayForgetIn-as Exact Exact p fine may = may
MayForgetIn-as Exact Coarse p fine may = absurd fine

MayBeLost-as : (to how : Precision) (p : Program) (s : State) (h : Home) → IsNoFiner to how
    → MayBeLost how p s h → MayBeLost to p s h
MayBeLost-as Coarse how p s h fine lost = tt
MayBeLost-as Exact Exact p s h fine lost = lost
MayBeLost-as Exact Coarse p s h fine lost = absurd fine

IsNumberKept-as : (to how : Precision) (p : Program) (s : State) (r : Reg) (before after : Kind)
    → IsNoFiner to how → IsNumberKept how p s r before after → IsNumberKept to p s r before after
IsNumberKept-as to how p s r before after fine (inl same) = inl same
IsNumberKept-as to how p s r before after fine (inr gone) =
    inr (
      (
        MayForgetIn-as to how p fine gone.0.0,
        gone.0.1,
        MayBeLost-as to how p s (InRegister r) fine gone.0.2,
      ),
      gone.1,
      gone.2,
    )

IsSpilledNumberKept-as : (to how : Precision) (p : Program) (s : State) (j : ℕ)
    (before after : StackSlot) → IsNoFiner to how → IsSpilledNumberKept how p s j before after
    → IsSpilledNumberKept to p s j before after
IsSpilledNumberKept-as to how p s j before after fine (inl same) = inl same
IsSpilledNumberKept-as to how p s j before after fine (inr gone) =
    inr (
      (
        MayForgetIn-as to how p fine gone.0.0,
        gone.0.1,
        MayBeLost-as to how p s (InSlot j) fine gone.0.2,
      ),
      gone.1,
      gone.2,
    )

pub NumbersForgotten-as : (to how : Precision) (p : Program) (a b : State) → IsNoFiner to how
    → NumbersForgotten how p a b → NumbersForgotten to p a b
NumbersForgotten-as to how p a b fine f = record {
  rest = f.rest;
  registers = record {
    ten = f.registers.ten;
    each = λ r own. IsNumberKept-as to how p a r _ _ fine (f.registers.each r own);
  };
  slots = record {
    all = f.slots.all;
    each = λ j below. IsSpilledNumberKept-as to how p a j _ _ fine (f.slots.each j below);
  };
}

pub Forgets-as : (to how : Precision) (p : Program) (a b : State) → IsNoFiner to how
    → Forgets how p a b → Forgets to p a b
Forgets-as to how p a b fine f = record {
  middle = f.middle;
  dead = f.dead;
  numbers = NumbersForgotten-as to how p f.middle b fine f.numbers;
}

pub StepsTo-as : (to how : Precision) (p : Program) (a b : State) → IsNoFiner to how
    → StepsTo how p a b → StepsTo to p a b
StepsTo-as to how p a b fine step = record {
  insn = step.insn;
  here = step.here;
  taken = step.taken;
  first = step.first;
  other = step.other;
  makes = step.makes;
  next = step.next;
  among = step.among;
  forgets = Forgets-as to how p step.next b fine step.forgets;
}

pub HasSteps-as : (to how : Precision) (p : Program) (n : ℕ) (a b : State) → IsNoFiner to how
    → HasSteps how p n a b → HasSteps to p n a b
unfolding HasSteps
HasSteps-as to how p zero a b fine h = h
HasSteps-as to how p (suc n) a b fine h =
    (h.0, StepsTo-as to how p a h.0 fine h.1, HasSteps-as to how p n h.0 b fine h.2)

pub WalksTo-as : (to how : Precision) (p : Program) (n : ℕ) (s : State) → IsNoFiner to how
    → WalksTo how p n s → WalksTo to p n s
WalksTo-as to how p n s fine walk = record {
  first = walk.first;
  starts = Forgets-as to how p _ walk.first fine walk.starts;
  leads = HasSteps-as to how p n walk.first s fine walk.leads;
}

pub IsStuck-as : (to how : Precision) (p : Program) (e : Refusal) (slot : ℕ) → IsNoFiner to how
    → IsStuck how p e slot → IsStuck to p e slot
IsStuck-as to how p e slot fine h = record {
  state = h.state;
  steps = h.steps;
  walk = WalksTo-as to how p h.steps h.state fine h.walk;
  slot_is = h.slot_is;
  begins = h.begins;
  insn = h.insn;
  here = h.here;
  refused = h.refused;
}

pub ComesBack-as : (to how : Precision) (p : Program) (slot : ℕ) → IsNoFiner to how
    → ComesBack how p slot → ComesBack to p slot
ComesBack-as to how p slot fine h = record {
  join = h.join;
  first = h.first;
  again = h.again;
  before = h.before;
  between = h.between;
  walk = WalksTo-as to how p h.before h.first fine h.walk;
  leads_back = HasSteps-as to how p (suc h.between) h.first h.again fine h.leads_back;
  first_slot = h.first_slot;
  again_slot = h.again_slot;
  covers = h.covers;
  covered = h.covered;
}
