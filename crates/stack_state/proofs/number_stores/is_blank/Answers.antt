use Rattle.stack_state.proofs.Common.{◌≡◌, sym, subst, arith, common_steps, StackSlot, Written, IsBlank}
use Rattle.stack_state.proofs.number_stores.is_blank.Goals as goal

pub returns-in-Written : goal.returns-in-Written
returns-in-Written c = λ yes.
    let same : c.args.slot ≡ Written c.in-Written.field-0 = grind (arith, common_steps) in
    subst (λ (s : StackSlot). IsBlank s c.args.size c.args.numbers) (sym same)
    (c.have_all.ensures yes)
