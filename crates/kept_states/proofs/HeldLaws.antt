-- What a state knows of a call frame, place by place.
use Rattle.kept_states.proofs.Common.{◌≡◌, ◌∙◌, ℕ, suc, ◌+◌, ◌<◌, List, ◌∷◌, Bool, true, false, length, get_or, drop, drop-cons, add-one, refl, sym, ap, ◌==◌, bit_at, Kind, StackSlot, Written, AbstractFrame, Part, InRegister, InSlot, with_part, all_written, all_written-append, held_part, held_registers, held_slots}
use Rattle.kept_states.specs.declared.held_places.HeldPlaces.{HeldPlaces}

pub held_any : (f : AbstractFrame) (a h : Bool) (any part : Part) → a ≡ true
    → with_part f any ≡ all_written f (held_part a h any part)
unfolding all_written
held_any f true h any part is = refl
held_any f false h any part is = absurd (cc is)

pub held_kept : (f : AbstractFrame) (a h : Bool) (any part : Part) → a ≡ false → h ≡ true
    → with_part f part ≡ all_written f (held_part a h any part)
unfolding all_written
held_kept f true h any part is held = absurd (cc is)
held_kept f false true any part is held = refl
held_kept f false false any part is held = absurd (cc held)

pub held_none : (f : AbstractFrame) (a h : Bool) (any part : Part) → a ≡ false → h ≡ false
    → f ≡ all_written f (held_part a h any part)
unfolding all_written
held_none f true h any part is held = absurd (cc is)
held_none f false true any part is held = absurd (cc held)
held_none f false false any part is held = refl

abbrev held_register : HeldPlaces → Kind → ℕ → Kind → List Part
held_register h any i k =
    held_part (bit_at h.any_registers i == 1) (bit_at h.registers i == 1) (InRegister i any)
    (InRegister i k)

-- a register, and those after it
pub held_registers-next : (h : HeldPlaces) (any : Kind) (f : AbstractFrame) (ks : List Kind)
    (i : ℕ) (k : Kind) → i < length ks → k ≡ get_or ks i k
    → all_written f (held_registers h any i (drop i ks))
    ≡ all_written (all_written f (held_register h any i k))
    (held_registers h any (i + 1) (drop (i + 1) ks))
unfolding held_registers
held_registers-next h any f ks i k inside at =
    let there : drop i ks ≡ k ∷ drop (suc i) ks =
    drop-cons ks i k inside ∙ ap (λ q. q ∷ drop (suc i) ks) (sym at) in
    ap (λ l. all_written f (held_registers h any i l)) there
    ∙ all_written-append f (held_register h any i k)
    (held_registers h any (i + 1) (drop (suc i) ks))
    ∙ ap (λ n. all_written (all_written f (held_register h any i k))
    (held_registers h any (i + 1) (drop n ks))) (sym (add-one i))

abbrev held_slot : HeldPlaces → ℕ → StackSlot → List Part
held_slot h i t =
    held_part (bit_at h.any_slots i == 1) (bit_at h.slots i == 1) (InSlot i (Written 255))
    (InSlot i t)

-- a stack slot, and those after it
pub held_slots-next : (h : HeldPlaces) (f : AbstractFrame) (ts : List StackSlot)
    (i : ℕ) (t : StackSlot) → i < length ts → t ≡ get_or ts i t
    → all_written f (held_slots h i (drop i ts))
    ≡ all_written (all_written f (held_slot h i t)) (held_slots h (i + 1) (drop (i + 1) ts))
unfolding held_slots
held_slots-next h f ts i t inside at =
    let there : drop i ts ≡ t ∷ drop (suc i) ts =
    drop-cons ts i t inside ∙ ap (λ q. q ∷ drop (suc i) ts) (sym at) in
    ap (λ l. all_written f (held_slots h i l)) there
    ∙ all_written-append f (held_slot h i t) (held_slots h (i + 1) (drop (suc i) ts))
    ∙ ap (λ n. all_written (all_written f (held_slot h i t))
    (held_slots h (i + 1) (drop n ts))) (sym (add-one i))
