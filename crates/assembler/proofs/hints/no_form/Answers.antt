use Rattle.assembler.proofs.Common.{◌∙◌, ℕ, List, Bool, sym, ap, by_beginning, without_form}
use Rattle.assembler.proofs.hints.no_form.Goals as goal

pub returns-then-has_any : goal.returns-then-has_any
returns-then-has_any c =
    let front = c.args.front.now in
    let back = c.args.back.now in
    c.hint_in.ensures
    ∙ ap (λ (l : List ℕ). without_form l front back) c.hint_in-assignment.ensures
    ∙ ap (λ (b : Bool). without_form (by_beginning b front back) front back)
    (sym c.if-has_any.true ∙ c.has_any.ensures)

pub returns : goal.returns
returns c =
    let front = c.args.front.now in
    let back = c.args.back.now in
    c.hint_in-2.ensures
    ∙ ap (λ (l : List ℕ). without_form l front back) c.hint_in-jump.ensures
    ∙ ap (λ (b : Bool). without_form (by_beginning b front back) front back)
    (sym c.if-has_any.false ∙ c.has_any.ensures)
