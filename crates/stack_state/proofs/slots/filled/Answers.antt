use Rattle.std.proofs.Common.{◌≡◌, ℕ, refl, Some, sym, ap, ◌∙◌, subst}
use Rattle.stack_state.proofs.Common.{Scalar, Number, StackSlot, Written, IsAny, IsFill}
use Rattle.stack_state.proofs.slots.filled.Goals as goal

all_written : (slot : StackSlot) (marks : ℕ) (numbers : Scalar) → slot ≡ Written marks → marks ≡ 255
    → IsAny numbers → IsFill slot (Some (Number numbers))
all_written slot marks numbers is full any =
    subst (λ (s : StackSlot). IsFill s (Some (Number numbers))) (sym (is ∙ ap Written full))
    (refl, any)

pub returns-in-Written-eq255 : goal.returns-in-Written-eq255
returns-in-Written-eq255 c =
    all_written c.args.slot c.in-Written-eq255.field-0 c.any.result c.in-Written-eq255.is
    (sym c.in-Written-eq255.field-0-is ∙ c.in-Written-eq255.field-0-test)
    (λ x h. (c.any.ensures x).1 h)
