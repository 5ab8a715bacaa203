use Rattle.explorer.proofs.Common.{◌≡◌, sym, subst, IfOk-weaker, beside, Forgets, Forgets-forgotten, precision_in}
use Rattle.walks.proofs.OtherCallers.{with_callers, Forgets-beside}
use Rattle.explorer.proofs.search.Search.keep_other.Goals as goal

pub keep_beside-requires : goal.keep_beside-requires
keep_beside-requires c = λ j below none.
    let forgotten =
    Forgets-forgotten c.args.flow.now c.args.self.now.scratch c.forget_by.new.state
    c.forget_by.ensures.forgets in
    forgotten.1 j below (c.kept_slots-mask.ensures j below none)

pub of_forgotten-requires : goal.of_forgotten-requires
of_forgotten-requires c = λ j below none.
    let forgotten =
    Forgets-forgotten c.args.flow.now c.args.self.now.scratch c.forget_by.new.state
    c.forget_by.ensures.forgets in
    forgotten.1 j below (c.kept_slots-mask.ensures j below none)

pub returns-in-true-clause-forgets : goal.returns-in-true-clause-forgets
returns-in-true-clause-forgets c =
    let p = c.args.flow.now in
    let how = precision_in c.args.self.now.kept in
    let current = c.args.self.now.current in
    let scratch = c.args.self.now.scratch in
    let other = c.forget_by.new.state in
    let forgets : Forgets how p (with_callers scratch current) (with_callers other current) =
    Forgets-beside how p scratch other current c.forget_by.ensures.forgets in
    IfOk-weaker c.keep_beside.result (λ kept. kept ≡ with_callers other current)
    (Forgets how p (beside c.args.shares current scratch))
    (λ kept is. rw c.in-true.is (subst (Forgets how p (with_callers scratch current)) (sym is) forgets))
    c.keep_beside.ensures.kept
