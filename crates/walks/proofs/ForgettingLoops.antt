-- The loops that forget dead registers and dead stack slots: what is forgotten after some of them,
-- and after all; what is forgotten of callers.
use Rattle.walks.proofs.Common.{◌≡◌, ◌≢◌, ◌<◌, ◌≤◌, ◌+◌, ◌↔◌, ℕ, List, length, replicate, set, refl, sym, ap, ◌∙◌, subst, arith, inl, inr, bit_at, cases_eq, length-replicate, get_or-replicate, length-set, get_or-set_same, get_or-set_other, Reg, R10, reg_number, Program, Kind, Unset, StackSlot, Written, AreKnownFrom, slot_at, frame_slots, AbstractFrame, State, abstract_frame_at, kind_at, abstract_frame_at-caller, same_number, SlotMask, HasSlot, IsJoin, IsLive, IsSlotLive, IsKept, AreKept, IsSlotLeft, AreSlotsLeft, AreSlotsKept, IsCallerKept, AreCallersKept, CallersForgotten, DeadForgotten}

-- ---- the loop

-- the registers with numbers below n are as when a path reaches the slot, and the rest as before
pub record KeptBelow (p : Program) (slot n : ℕ) (old new : List Kind) : Type 0 where
  pub ten : length new ≡ 10
  pub below : (r : Reg) → r ≢ R10 → reg_number r < n
      → IsKept p slot r (kind_at old (reg_number r)) (kind_at new (reg_number r))
  pub above : (k : ℕ) → n ≤ k → kind_at new k ≡ kind_at old k

-- the next register is live
pub kept_more_live : (p : Program) (slot n : ℕ) (r : Reg) (old new : List Kind) → reg_number r ≡ n
    → IsLive p r slot → KeptBelow p slot n old new → KeptBelow p slot (n + 1) old new
kept_more_live p slot n r old new is live m = record {
  ten = m.ten;
  below = λ q own low. elim (cases_eq (reg_number q) n) [
    | inl e ↦
        let same : q ≡ r = same_number q r (e ∙ sym is) in
        inl (
          λ dead. dead.1 (subst (λ (x : Reg). IsLive p x slot) (sym same) live),
          m.above (reg_number q) (omega arith),
        )
    | inr apart ↦ m.below q own (omega arith)
  ];
  above = λ k high. m.above k (omega arith);
}

-- the next register is dead
pub kept_more_dead : (p : Program) (slot n : ℕ) (r : Reg) (old new : List Kind) → reg_number r ≡ n
    → n < 10 → IsJoin p slot → (IsLive p r slot → ⊥)
    → KeptBelow p slot n old new → KeptBelow p slot (n + 1) old (set new n Unset)
kept_more_dead p slot n r old new is within join dead m =
    let inside : n < length new = let ten = m.ten in omega arith in record {
      ten = length-set new n Unset ∙ m.ten;
      below = λ q own low. elim (cases_eq (reg_number q) n) [
        | inl e ↦
            let same : q ≡ r = same_number q r (e ∙ sym is) in
            let gone : kind_at (set new n Unset) (reg_number q) ≡ Unset =
            ap (kind_at (set new n Unset)) e ∙ get_or-set_same new n Unset Unset inside in
            inr ((join, λ live. dead (subst (λ (x : Reg). IsLive p x slot) same live)), gone)
        | inr apart ↦
            subst (IsKept p slot q (kind_at old (reg_number q)))
            (sym (get_or-set_other new n (reg_number q) Unset Unset apart))
            (m.below q own (omega arith))
      ];
      above =
          λ k high. get_or-set_other new n k Unset Unset (λ e. absurd (omega arith))
          ∙ m.above k (omega arith);
    }

-- ---- the loop through stack slots

-- the stack slots below n are left as they are or forgotten, and the rest is as before
pub record SlotsLeftBelow (p : Program) (slot n : ℕ) (old new : List StackSlot) : Type 0 where
  pub all : length new ≡ 64
  pub below : (j : ℕ) → j < n → IsSlotLeft p slot j (slot_at old j) (slot_at new j)
  pub above : (k : ℕ) → n ≤ k → slot_at new k ≡ slot_at old k

-- nothing is known of the first ones; whether they are live can be read from the mask
pub slots_left_blank : (p : Program) (slot n : ℕ) (mask : SlotMask) (old : List StackSlot)
    → ((j : ℕ) → HasSlot mask j ↔ IsSlotLive p j slot) → AreKnownFrom n old
    → SlotsLeftBelow p slot n old old
slots_left_blank p slot n mask old is known = record {
  all = known.wide;
  below = λ j low. elim (cases_eq (bit_at mask.bits j) 1) [
    | inl has ↦ inl ((is j).0 has, refl)
    | inr lacks ↦ inr (λ live. lacks ((is j).1 live), known.blank j low)
  ];
  above = λ k high. refl;
}

-- the next stack slot is live
pub slots_left_live : (p : Program) (slot n : ℕ) (old new : List StackSlot) → IsSlotLive p n slot
    → SlotsLeftBelow p slot n old new
    → SlotsLeftBelow p slot (n + 1) old new
slots_left_live p slot n old new live m = record {
  all = m.all;
  below = λ j low. elim (cases_eq j n) [
    | inl e ↦ inl (subst (λ (k : ℕ). IsSlotLive p k slot) (sym e) live, m.above j (omega arith))
    | inr apart ↦ m.below j (omega arith)
  ];
  above = λ k high. m.above k (omega arith);
}

-- the next stack slot is dead
pub slots_left_dead : (p : Program) (slot n : ℕ) (old new : List StackSlot) → n < 64
    → (IsSlotLive p n slot → ⊥)
    → SlotsLeftBelow p slot n old new → SlotsLeftBelow p slot (n + 1) old (set new n (Written 0))
slots_left_dead p slot n old new within dead m =
    let inside : n < length new = let all = m.all in omega arith in record {
      all = length-set new n (Written 0) ∙ m.all;
      below = λ j low. elim (cases_eq j n) [
        | inl e ↦
            let gone : slot_at (set new n (Written 0)) j ≡ Written 0 =
            ap (slot_at (set new n (Written 0))) e
            ∙ get_or-set_same new n (Written 0) (Written 0) inside in
            inr (λ live. dead (subst (λ (k : ℕ). IsSlotLive p k slot) e live), gone)
        | inr apart ↦
            subst (IsSlotLeft p slot j (slot_at old j))
            (sym (get_or-set_other new n j (Written 0) (Written 0) apart))
            (m.below j (omega arith))
      ];
      above =
          λ k high. get_or-set_other new n k (Written 0) (Written 0) (λ e. absurd (omega arith))
          ∙ m.above k (omega arith);
    }

-- all of them are live
pub slots_left_full : (p : Program) (slot : ℕ) (old : List StackSlot) → length old ≡ 64
    → ((j : ℕ) → j < 64 → IsSlotLive p j slot) → AreSlotsLeft p slot old old
slots_left_full p slot old all live =
    record { all = all; each = λ j below. inl (live j below, refl) }

-- and none of them
pub slots_left_empty : (p : Program) (slot : ℕ) (old : List StackSlot)
    → ((j : ℕ) → IsSlotLive p j slot → ⊥)
    → AreSlotsLeft p slot old (replicate frame_slots (Written 0))
slots_left_empty p slot old dead = record {
  all = length-replicate frame_slots (Written 0);
  each = λ j below. inr (dead j, get_or-replicate frame_slots j (Written 0) (Written 0) below);
}

-- at a join the dead stack slots are
pub AreSlotsKept-left : (p : Program) (slot : ℕ) (old new : List StackSlot) → IsJoin p slot
    → AreSlotsLeft p slot old new → AreSlotsKept p slot old new
AreSlotsKept-left p slot old new join left = record {
  all = left.all;
  each = λ j below. elim (left.each j below) [
    | inl same ↦ inl (λ dead. dead.1 same.0, same.1)
    | inr gone ↦ inr ((join, gone.0), gone.1)
  ];
}

-- ---- callers

-- nothing is forgotten of callers
callers_kept_all : (p : Program) (a : State) → AreCallersKept p a a
callers_kept_all p a =
    record {
      as_many = refl;
      each = λ k below. record { rest = refl; slots = λ j inside. inl refl };
    }

pub callers_none : (p : Program) (a : State) → CallersForgotten p a a
callers_none p a = record { rest = refl; callers = callers_kept_all p a }

-- what is forgotten of callers first, and of the innermost frame then
pub DeadForgotten-both : (p : Program) (a m b : State) (ks : List Kind) (slots : List StackSlot)
    → CallersForgotten p a m → b ≡ record m
    { innermost = record m.innermost { registers = ks; stack = record { slots = slots } } }
    → AreKept p m.slot m.innermost.registers ks
    → AreSlotsKept p m.slot m.innermost.stack.slots slots → DeadForgotten p a b
DeadForgotten-both p a m b ks slots callers is registers own =
    let whole : State = record a {
      callers = m.callers;
      innermost = record a.innermost { registers = ks; stack = record { slots = slots } };
    } in
    let same : b ≡ whole =
    is ∙ ap (λ (x : State).
    record x
    { innermost = record x.innermost { registers = ks; stack = record { slots = slots } } })
    callers.rest in
    let forgets : DeadForgotten p a whole = record {
      rest = refl;
      callers = record {
        as_many = callers.callers.as_many;
        each = λ k below.
            let there : abstract_frame_at whole k ≡ abstract_frame_at m k =
            abstract_frame_at-caller whole k (omega (arith, below, callers.callers.as_many))
            ∙ sym (abstract_frame_at-caller m k (omega (arith, below, callers.callers.as_many))) in
            subst (λ (x : AbstractFrame).
            IsCallerKept p (abstract_frame_at a (k + 1)).return_slot
            (abstract_frame_at a k) x) (sym there)
            (callers.callers.each k below);
      };
      registers =
          subst (λ (x : State). AreKept p x.slot x.innermost.registers ks) callers.rest registers;
      slots =
          subst (λ (x : State). AreSlotsKept p x.slot x.innermost.stack.slots slots) callers.rest
          own;
    } in
    subst (DeadForgotten p a) (sym same) forgets
