-- The loops that forget numbers: what is forgotten after some turns, and after all; and what that
-- is at a join.
use Rattle.walks.proofs.Common.{◌≡◌, ◌≢◌, ◌<◌, ◌≤◌, ◌+◌, ◌↔◌, ℕ, List, length, get_or, set, refl, sym, ap, ◌∙◌, subst, arith, inl, inr, bit_at, cases_eq, length-set, get_or-set_same, get_or-set_other, get_or_default, Reg, R10, reg_number, Program, same_number, Kind, Unset, StackSlot, Written, State, AreKnownFrom, slot_at, kind_in, IsAnyNumber, kind_at, registers_of, IsNumberKind, SlotMask, HasRegister, HasSlot, no_registers, IsJoin, InRegister, InSlot, IsSlotLive, MayForgetNumbers, IsNumberTested, slots_in, IsSlotDeadAt, MayForgetAll, Precision, Exact, MayForgetNumber, AreNumbersKept, AreSpilledNumbersKept, DeadForgotten, NumbersForgotten, Forgets, KnowsTestedNumbers, KnowsNoNumber, ForgetsNumber, ForgetsSpilled, ForgetsUnless, ForgetsIf, ForgetsNumbersBeside, ForgetsNumbersIn}
use Rattle.std.proofs.lemmas.Nat.Bits.{bit_at-zero}
use Rattle.control_flow.specs.declared.masks.RegisterMask.{RegisterMask}
use Rattle.walks.proofs.DeadForgottenLaws.{DeadForgotten-forgotten}
use Rattle.walks.proofs.NumbersForgottenLaws.{numbers_stay}

-- ---- the loop through registers

-- the numbers in registers with numbers below n are forgotten or kept, and the rest is as before
pub record BesideBelow (Kept : Reg → Type 0) (n : ℕ) (old new : List Kind) : Type 0 where
  pub ten : length new ≡ 10
  pub below : (r : Reg) → r ≢ R10 → reg_number r < n
      → ForgetsUnless (Kept r) (kind_at old (reg_number r)) (kind_at new (reg_number r))
  pub above : (k : ℕ) → n ≤ k → kind_at new k ≡ kind_at old k

-- the next register is kept
pub beside_kept : (Kept : Reg → Type 0) (n : ℕ) (r : Reg) (old new : List Kind) → reg_number r ≡ n
    → Kept r → BesideBelow Kept n old new → BesideBelow Kept (n + 1) old new
beside_kept Kept n r old new is kept m = record {
  ten = m.ten;
  below = λ q own low. elim (cases_eq (reg_number q) n) [
    | inl e ↦ inl (
      subst Kept (sym (same_number q r (e ∙ sym is))) kept,
      m.above (reg_number q) (omega arith),
    )
    | inr apart ↦ m.below q own (omega arith)
  ];
  above = λ k high. m.above k (omega arith);
}

-- a number in the next register is forgotten; i is the index at which it was read
pub beside_forgotten : (Kept : Reg → Type 0) (n i : ℕ) (r : Reg) (old new : List Kind) (d k : Kind)
    → reg_number r ≡ n → i ≡ n → n < 10 → (Kept r → ⊥) → ForgetsNumber (get_or new i d) k
    → BesideBelow Kept n old new → BesideBelow Kept (n + 1) old (set new i k)
beside_forgotten Kept n i r old new d k is here within free read m =
    let inside : n < length new = let ten = m.ten in omega arith in
    let forgets : ForgetsNumber (kind_at new n) k =
    subst (λ x. ForgetsNumber x k)
    (ap (λ (j : ℕ). get_or new j d) here ∙ get_or_default new n d Unset inside) read in
    subst (λ (j : ℕ). BesideBelow Kept (n + 1) old (set new j k)) (sym here) (record {
      ten = length-set new n k ∙ m.ten;
      below = λ q own low. elim (cases_eq (reg_number q) n) [
        | inl e ↦
            let same : q ≡ r = same_number q r (e ∙ sym is) in
            let there : kind_at (set new n k) (reg_number q) ≡ k =
            ap (kind_at (set new n k)) e ∙ get_or-set_same new n k Unset inside in
            let before : kind_at new n ≡ kind_at old (reg_number q) =
            ap (kind_at new) (sym e) ∙ m.above (reg_number q) (omega arith) in
            inr (
              λ kept. free (subst Kept same kept),
              subst (λ x. ForgetsNumber x (kind_at (set new n k) (reg_number q))) before
                  (subst (λ x. ForgetsNumber (kind_at new n) x) (sym there) forgets),
            )
        | inr apart ↦
            subst (ForgetsUnless (Kept q) (kind_at old (reg_number q)))
            (sym (get_or-set_other new n (reg_number q) k Unset apart))
            (m.below q own (omega arith))
      ];
      above =
          λ j high. get_or-set_other new n j k Unset (λ e. absurd (omega arith))
          ∙ m.above j (omega arith);
    })

-- ---- the loop through stack slots

-- the numbers in stack slots below n are forgotten or kept, and the rest is as before
pub record InBelow (Chosen : ℕ → Type 0) (n : ℕ) (old new : List StackSlot) : Type 0 where
  pub all : length new ≡ 64
  pub below : (j : ℕ) → j < n → ForgetsIf (Chosen j) (slot_at old j) (slot_at new j)
  pub above : (k : ℕ) → n ≤ k → slot_at new k ≡ slot_at old k

-- nothing is known of the first ones
pub in_blank : (mask : SlotMask) (n : ℕ) (old : List StackSlot) → AreKnownFrom n old
    → InBelow (HasSlot mask) n old old
in_blank mask n old known = record {
  all = known.wide;
  below = λ j low.
      let none : ForgetsSpilled (slot_at old j) (slot_at old j) =
      inr (λ number. subst (λ s. IsNumberKind (kind_in s)) (known.blank j low) number, refl) in
      elim (cases_eq (bit_at mask.bits j) 1) [
        | inl has ↦ inl (has, none)
        | inr lacks ↦ inr (lacks, refl)
      ];
  above = λ k high. refl;
}

-- the next one is not chosen, or it is no number
pub in_left : (Chosen : ℕ → Type 0) (n : ℕ) (old new : List StackSlot)
    → ForgetsIf (Chosen n) (slot_at new n) (slot_at new n)
    → InBelow Chosen n old new → InBelow Chosen (n + 1) old new
in_left Chosen n old new left h = record {
  all = h.all;
  below = λ j low. elim (cases_eq j n) [
    | inl e ↦
        let before : slot_at new n ≡ slot_at old n = h.above n (omega arith) in
        subst (λ (k : ℕ). ForgetsIf (Chosen k) (slot_at old k) (slot_at new k)) (sym e)
        (subst (λ s. ForgetsIf (Chosen n) s (slot_at new n)) before left)
    | inr apart ↦ h.below j (omega arith)
  ];
  above = λ k high. h.above k (omega arith);
}

-- a number in the next one is forgotten; i is the index at which it was read
pub in_forgotten : (Chosen : ℕ → Type 0) (n i : ℕ) (old new : List StackSlot) (d s : StackSlot)
    → i ≡ n → n < 64 → Chosen n → ForgetsSpilled (get_or new i d) s
    → InBelow Chosen n old new → InBelow Chosen (n + 1) old (set new i s)
in_forgotten Chosen n i old new d s here within chosen read h =
    let inside : n < length new = let all = h.all in omega arith in
    let forgets : ForgetsSpilled (slot_at new n) s =
    subst (λ x. ForgetsSpilled x s)
    (ap (λ (j : ℕ). get_or new j d) here ∙ get_or_default new n d (Written 0) inside) read in
    subst (λ (k : ℕ). InBelow Chosen (n + 1) old (set new k s)) (sym here) (record {
      all = length-set new n s ∙ h.all;
      below = λ j low. elim (cases_eq j n) [
        | inl e ↦
            let there : slot_at (set new n s) j ≡ s =
            ap (slot_at (set new n s)) e ∙ get_or-set_same new n s (Written 0) inside in
            let before : slot_at new n ≡ slot_at old j =
            ap (slot_at new) (sym e) ∙ h.above j (omega arith) in
            inl (
              subst Chosen (sym e) chosen,
              subst (λ x. ForgetsSpilled x (slot_at (set new n s) j)) before
                  (subst (λ x. ForgetsSpilled (slot_at new n) x) (sym there) forgets),
            )
        | inr apart ↦
            subst (ForgetsIf (Chosen j) (slot_at old j))
            (sym (get_or-set_other new n j s (Written 0) apart))
            (h.below j (omega arith))
      ];
      above =
          λ k high. get_or-set_other new n k s (Written 0) (λ e. absurd (omega arith))
          ∙ h.above k (omega arith);
    })

-- ---- the loop that looks for numbers

-- what is read at index i
pub kind_read : (kinds : List Kind) (n i : ℕ) (d : Kind) → i ≡ n → n < length kinds
    → kind_at kinds n ≡ get_or kinds i d
kind_read kinds n i d here below =
    get_or_default kinds n Unset d below ∙ ap (λ (j : ℕ). get_or kinds j d) (sym here)

-- each of these registers with a number below n is a number
abbrev pub NumbersBelow : RegisterMask → List Kind → ℕ → Type 0
NumbersBelow mask kinds n =
    (r : Reg) → reg_number r < n → HasRegister mask r → IsNumberKind (kind_at kinds (reg_number r))

pub numbers_more : (mask : RegisterMask) (kinds : List Kind) (n : ℕ) (r : Reg) → reg_number r ≡ n
    → (HasRegister mask r → IsNumberKind (kind_at kinds n)) → NumbersBelow mask kinds n
    → NumbersBelow mask kinds (n + 1)
numbers_more mask kinds n r is number below = λ q low among. elim (cases_eq (reg_number q) n) [
  | inl e ↦
      let same : q ≡ r = same_number q r (e ∙ sym is) in
      subst (λ (k : ℕ). IsNumberKind (kind_at kinds k)) (sym e)
      (number (subst (HasRegister mask) same among))
  | inr apart ↦ below q (omega arith) among
]

-- ---- other words for what is kept

pub ForgetsNumbersBeside-same : (Kept Other : Reg → Type 0) (old new : List Kind)
    → ((r : Reg) → Kept r ↔ Other r)
    → ForgetsNumbersBeside Kept old new → ForgetsNumbersBeside Other old new
ForgetsNumbersBeside-same Kept Other old new same h = record {
  ten = h.ten;
  each = λ r own. elim (h.each r own) [
    | inl kept ↦ inl ((same r).0 kept.0, kept.1)
    | inr gone ↦ inr (λ other. gone.0 ((same r).1 other), gone.1)
  ];
}

pub ForgetsNumbersIn-same : (Chosen Other : ℕ → Type 0) (old new : List StackSlot)
    → ((j : ℕ) → Chosen j ↔ Other j)
    → ForgetsNumbersIn Chosen old new → ForgetsNumbersIn Other old new
ForgetsNumbersIn-same Chosen Other old new same h = record {
  all = h.all;
  each = λ j below. elim (h.each j below) [
    | inl gone ↦ inl ((same j).0 gone.0, gone.1)
    | inr kept ↦ inr (λ other. kept.0 ((same j).1 other), kept.1)
  ];
}

-- those that are live, and not tested
pub chosen_of_tested : (p : Program) (slot : ℕ) (live tested chosen : SlotMask)
    → ((j : ℕ) → HasSlot live j ↔ IsSlotLive p j slot)
    → ((j : ℕ) → HasSlot tested j ↔ IsNumberTested p (InSlot j) slot)
    → ((j : ℕ) → HasSlot chosen j ↔ (HasSlot live j × (HasSlot tested j → ⊥)))
    → (j : ℕ) → HasSlot chosen j ↔ (IsSlotLive p j slot × (IsNumberTested p (InSlot j) slot → ⊥))
chosen_of_tested p slot live tested chosen lives tests those j = (
  λ has.
      let both = (those j).0 has in
      ((lives j).0 both.0, λ kept. both.1 ((tests j).1 kept)),
  λ both. (those j).1 ((lives j).1 both.0, λ has. both.1 ((tests j).0 has)),
)

-- ---- what is left

-- what is not kept may be forgotten
pub AreNumbersKept-beside : {how : Precision} (p : Program) (s : State) (Kept : Reg → Type 0)
    (new : List Kind)
    → ((r : Reg) → (Kept r → ⊥) → MayForgetNumber how p s (InRegister r))
    → ForgetsNumbersBeside Kept (registers_of s) new → AreNumbersKept how p s new
AreNumbersKept-beside p s Kept new may h = record {
  ten = h.ten;
  each = λ r own. elim (h.each r own) [
    | inl kept ↦ inl kept.1
    | inr gone ↦ elim gone.1 [
      | inl number ↦ inr (may r gone.0, number.0, number.1)
      | inr other ↦ inl other.1
    ]
  ];
}

pub AreSpilledNumbersKept-in : {how : Precision} (p : Program) (s : State) (Chosen : ℕ → Type 0)
    (new : List StackSlot)
    → ((j : ℕ) → Chosen j → MayForgetNumber how p s (InSlot j))
    → ForgetsNumbersIn Chosen (slots_in s) new → AreSpilledNumbersKept how p s new
AreSpilledNumbersKept-in p s Chosen new may h = record {
  all = h.all;
  each = λ j below. elim (h.each j below) [
    | inl gone ↦ elim gone.1 [
      | inl number ↦ inr (may j gone.0, number.0, number.1)
      | inr other ↦ inl other.1
    ]
    | inr kept ↦ inl kept.1
  ];
}

-- a number that is not kept is any number
pub any_left : (Kept : Reg → Type 0) (old new : List Kind) → ForgetsNumbersBeside Kept old new
    → (r : Reg) → r ≢ R10 → (Kept r → ⊥) → IsNumberKind (kind_at new (reg_number r))
    → IsAnyNumber (kind_at new (reg_number r))
any_left Kept old new h r own free number = elim (h.each r own) [
  | inl kept ↦ absurd (free kept.0)
  | inr gone ↦ elim gone.1 [
    | inl any ↦ any.1
    | inr other ↦ absurd (other.0 (subst IsNumberKind other.1 number))
  ]
]

no_number : (s : StackSlot) (marks : ℕ) → s ≡ Written marks → IsNumberKind (kind_in s) → ⊥
no_number s marks is number = subst (λ (x : StackSlot). IsNumberKind (kind_in x)) is number

-- no number is spilled where one was forgotten, nor where there was none
forgotten_there : (before after : StackSlot) → ForgetsSpilled before after
    → IsNumberKind (kind_in after) → ⊥
forgotten_there before after (inl any) number = no_number after 255 any.1 number
forgotten_there before after (inr other) number =
    other.0 (subst (λ (x : StackSlot). IsNumberKind (kind_in x)) other.1 number)

-- no number is left in a stack slot that is chosen
pub none_left : (Chosen : ℕ → Type 0) (old new : List StackSlot) → ForgetsNumbersIn Chosen old new
    → (j : ℕ) → j < 64 → Chosen j → IsNumberKind (kind_in (slot_at new j)) → ⊥
none_left Chosen old new h j below chosen number = elim (h.each j below) [
  | inl gone ↦ forgotten_there (slot_at old j) (slot_at new j) gone.1 number
  | inr kept ↦ kept.0 chosen
]

-- nor in one that is dead, since that was forgotten before
untested_left : (p : Program) (slot : ℕ) (old new : List StackSlot) → IsJoin p slot
    → ((j : ℕ) → j < 64 → IsSlotDeadAt p slot j → slot_at old j ≡ Written 0)
    → ForgetsNumbersIn (λ j. IsSlotLive p j slot × (IsNumberTested p (InSlot j) slot → ⊥)) old new
    → (j : ℕ) → j < 64 → (IsNumberTested p (InSlot j) slot → ⊥)
    → IsNumberKind (kind_in (slot_at new j)) → ⊥
untested_left p slot old new join dead h j below free number = elim (h.each j below) [
  | inl gone ↦ forgotten_there (slot_at old j) (slot_at new j) gone.1 number
  | inr kept ↦
      no_number (slot_at new j) 0
      (kept.1 ∙ dead j below (join, λ live. kept.0 (live, free))) number
]

-- ---- states

abbrev pub with_frame : State → List Kind → List StackSlot → State
with_frame m ks slots = record m {
  innermost = record m.innermost { registers = ks; stack = record { slots = slots } };
}

-- what is dead is forgotten, and then numbers that no path tests
pub forgets_both : (p : Program) (a m : State) (ks : List Kind) (slots : List StackSlot)
    → MayForgetNumbers p → IsJoin p m.slot → DeadForgotten p a m
    → ForgetsNumbersBeside (λ r. IsNumberTested p (InRegister r) m.slot) (registers_of m) ks
    → ForgetsNumbersIn (λ j. IsSlotLive p j m.slot × (IsNumberTested p (InSlot j) m.slot → ⊥))
    (slots_in m) slots
    → Forgets Exact p a (with_frame m ks slots)
forgets_both p a m ks slots may join dead registers own = record {
  middle = m;
  dead = dead;
  numbers = record {
    rest = refl;
    registers =
        AreNumbersKept-beside p m (λ r. IsNumberTested p (InRegister r) m.slot) ks
        (λ r free. (may, join, inl free)) registers;
    slots =
        AreSpilledNumbersKept-in p m
        (λ j. IsSlotLive p j m.slot × (IsNumberTested p (InSlot j) m.slot → ⊥)) slots
        (λ j chosen. (may, join, inl chosen.1)) own;
  };
}

pub knows_tested : (p : Program) (a m : State) (ks : List Kind) (slots : List StackSlot)
    → DeadForgotten p a m
    → ForgetsNumbersBeside (λ r. IsNumberTested p (InRegister r) m.slot) (registers_of m) ks
    → ForgetsNumbersIn (λ j. IsSlotLive p j m.slot × (IsNumberTested p (InSlot j) m.slot → ⊥))
    (slots_in m) slots
    → KnowsTestedNumbers p (with_frame m ks slots)
knows_tested p a m ks slots dead registers own = λ may join. (
  any_left (λ r. IsNumberTested p (InRegister r) m.slot) (registers_of m) ks registers,
  untested_left p m.slot (slots_in m) slots join (DeadForgotten-forgotten p a m dead).1 own,
)

-- only what is dead is forgotten
pub forgets_dead : {how : Precision} (p : Program) (a b : State) → DeadForgotten p a b
    → Forgets how p a b
forgets_dead p a b dead = record {
  middle = b;
  dead = dead;
  numbers = numbers_stay p b dead.registers.ten dead.slots.all;
}

-- all numbers are forgotten
pub all_forgotten : (p : Program) (m : State) (kept : RegisterMask) (ks : List Kind)
    (slots : List StackSlot) (Chosen : ℕ → Type 0) → MayForgetAll p m
    → ForgetsNumbersBeside (HasRegister kept) (registers_of m) ks
    → ForgetsNumbersIn Chosen (slots_in m) slots
    → NumbersForgotten Exact p m (with_frame m ks slots)
all_forgotten p m kept ks slots Chosen all registers own = record {
  rest = refl;
  registers =
      AreNumbersKept-beside p m (HasRegister kept) ks (λ r free. (all.may, all.join, inr all))
      registers;
  slots =
      AreSpilledNumbersKept-in p m Chosen slots (λ j chosen. (all.may, all.join, inr all)) own;
}

pub knows_none : (m : State) (kept : RegisterMask) (ks : List Kind) (slots : List StackSlot)
    (Chosen : ℕ → Type 0) → kept ≡ no_registers → ((j : ℕ) → j < 64 → Chosen j)
    → ForgetsNumbersBeside (HasRegister kept) (registers_of m) ks
    → ForgetsNumbersIn Chosen (slots_in m) slots → KnowsNoNumber (with_frame m ks slots)
knows_none m kept ks slots Chosen is every registers own = (
  λ r apart.
      any_left (HasRegister kept) (registers_of m) ks registers r apart (λ has.
      let there : HasRegister no_registers r = subst (λ k. HasRegister k r) is has in
      let zero = bit_at-zero (reg_number r) in
      absurd cc),
  λ j below. none_left Chosen (slots_in m) slots own j below (every j below),
)
