use Rattle.stack_state.proofs.Common.{◌≡◌, sym, subst, rules, Size, U8, U16, U32, ArePart}
use Rattle.stack_state.proofs.slots.part.Goals as goal

pub returns-in-U8 : goal.returns-in-U8
returns-in-U8 c =
    let size : c.args.size ≡ U8 = search rules in
    subst (λ (s : Size). ArePart c.args.numbers c.args.from s c.part.result) (sym size)
    c.part.ensures

pub returns-in-U16 : goal.returns-in-U16
returns-in-U16 c =
    let size : c.args.size ≡ U16 = search rules in
    subst (λ (s : Size). ArePart c.args.numbers c.args.from s c.part-in-U16.result) (sym size)
    c.part-in-U16.ensures

pub returns-in-U32 : goal.returns-in-U32
returns-in-U32 c =
    let size : c.args.size ≡ U32 = search rules in
    subst (λ (s : Size). ArePart c.args.numbers c.args.from s c.part-in-U32.result) (sym size)
    c.part-in-U32.ensures
