-- What a `Flow` says of a slot of the code, by what it knows of all slots.
use Rattle.control_flow.proofs.Common.{◌≡◌, ℕ, Bool, List, Result, sym, ap, ◌∙◌, subst, ◌↔◌, IsTrue, IfOk, IfOk-weaker, Reg, Program, HomeMask, Home, InRegister, InSlot, IsLive, IsSlotLive, IsHomeLive, MayForgetNumbers, IsNumberTested, HasRegister, HasSlot, HasHome, AreWithin, mask_at, AreLiveMasks, IsMarked, MarksEndings, AreTestedMasks, KeepsTested}
use Rattle.control_flow.specs.declared.kept_numbers.KeptNumbers.{KeptNumbers}
use Rattle.control_flow.specs.Endings.{EndsPlainly}

-- the mask of a slot has the homes of which it holds there, if the masks of all slots do
home_has : (Holds : Program → Home → ℕ → Type 0) (p q : Program) (masks items : List HomeMask)
    (m : HomeMask) (slot : ℕ) → p ≡ q → masks ≡ items → m ≡ mask_at masks slot
    → ((h : Home) (k : ℕ) → HasHome (mask_at items k) h ↔ Holds q h k)
    → (h : Home) → HasHome m h ↔ Holds p h slot
home_has Holds p q masks items m slot same list is all h =
    subst (λ (x : Program). HasHome m h ↔ Holds x h slot) (sym same)
    (subst (λ (x : HomeMask). HasHome x h ↔ Holds q h slot)
    (sym (is ∙ ap (λ (l : List HomeMask). mask_at l slot) list)) (all h slot))

-- ---- what is live

pub register_live : (p q : Program) (masks items : List HomeMask) (m : HomeMask) (slot : ℕ) → p ≡ q
    → masks ≡ items → m ≡ mask_at masks slot → AreLiveMasks q items
    → (r : Reg) → HasRegister m.registers r ↔ IsLive p r slot
register_live p q masks items m slot same list is live r =
    home_has IsHomeLive p q masks items m slot same list is live (InRegister r)

pub slot_live : (p q : Program) (masks items : List HomeMask) (m : HomeMask) (slot : ℕ) → p ≡ q
    → masks ≡ items → m ≡ mask_at masks slot → AreLiveMasks q items
    → (j : ℕ) → HasSlot m.slots j ↔ IsSlotLive p j slot
slot_live p q masks items m slot same list is live j =
    home_has IsHomeLive p q masks items m slot same list is live (InSlot j)

-- ---- where numbers matter

pub register_tested : (p q : Program) (masks items : List HomeMask) (m : HomeMask) (slot : ℕ)
    → p ≡ q → masks ≡ items → m ≡ mask_at masks slot
    → (MayForgetNumbers q → AreTestedMasks q items) → MayForgetNumbers p
    → (r : Reg) → HasRegister m.registers r ↔ IsNumberTested p (InRegister r) slot
register_tested p q masks items m slot same list is tested may r =
    home_has IsNumberTested p q masks items m slot same list is
    (tested (subst (λ x. MayForgetNumbers x) same may)) (InRegister r)

pub slot_tested : (p q : Program) (masks items : List HomeMask) (m : HomeMask) (slot : ℕ)
    → p ≡ q → masks ≡ items → m ≡ mask_at masks slot
    → (MayForgetNumbers q → AreTestedMasks q items) → MayForgetNumbers p
    → (j : ℕ) → HasSlot m.slots j ↔ IsNumberTested p (InSlot j) slot
slot_tested p q masks items m slot same list is tested may j =
    home_has IsNumberTested p q masks items m slot same list is
    (tested (subst (λ x. MayForgetNumbers x) same may)) (InSlot j)

-- what is kept is tested, where it is known what is
pub keeps_tested : {E : Type 0} (p q : Program) (tested items : List HomeMask) (forgets : Bool)
    (made : Result KeptNumbers E) → p ≡ q → tested ≡ items → IsTrue forgets ↔ MayForgetNumbers q
    → (MayForgetNumbers q → AreTestedMasks q items)
    → (IsTrue forgets → IfOk made (λ kept. AreWithin kept.masks.items tested))
    → MayForgetNumbers p → IfOk made (KeepsTested p)
keeps_tested p q tested items forgets made same list forget tests within may =
    let known : MayForgetNumbers q = subst (λ (x : Program). MayForgetNumbers x) same may in
    IfOk-weaker made (λ kept. AreWithin kept.masks.items tested) (KeepsTested p)
    (λ kept inside h slot has.
    subst (λ (x : Program). IsNumberTested x h slot) (sym same)
    ((tests known h slot).0
    (subst (λ (l : List HomeMask). HasHome (mask_at l slot) h) list (inside h slot has))))
    (within (forget.1 known))

-- ---- plain code

pub slot_ends : (p q : Program) (marks items : List Bool) (b : Bool) (slot : ℕ) → p ≡ q
    → marks ≡ items → IsTrue b ↔ IsMarked marks slot → (MayForgetNumbers q → MarksEndings q items)
    → MayForgetNumbers p → IsTrue b ↔ EndsPlainly p slot
slot_ends p q marks items b slot same list is ends may =
    let there = ends (subst (λ x. MayForgetNumbers x) same may) slot in (
      λ h. subst (λ x. EndsPlainly x slot) (sym same)
          (there.0 (subst (λ l. IsMarked l slot) list (is.0 h))),
      λ e. is.1 (subst (λ l. IsMarked l slot) (sym list)
          (there.1 (subst (λ x. EndsPlainly x slot) same e))),
    )
