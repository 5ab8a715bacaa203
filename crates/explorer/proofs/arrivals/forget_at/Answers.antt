use Rattle.explorer.proofs.Common.{rules, Exact, NumbersForgotten-as, no_finer_than_exact, precision_in, Forgets-further, Forgets-forgotten}
use Rattle.explorer.proofs.arrivals.forget_at.Goals as goal

pub take_up-requires : goal.take_up-requires
take_up-requires c = λ new j below none.
    let forgotten =
    Forgets-forgotten c.args.flow.now c.args.state.now c.forget_by.new.state
    c.forget_by.ensures.forgets in
    forgotten.1 j below (c.kept_slots.ensures j below none)

pub returns-then-is_plain-clause-forgets : goal.returns-then-is_plain-clause-forgets
returns-then-is_plain-clause-forgets c =
    Forgets-further c.args.flow.now c.args.state.now c.forget_by.new.state c.forget_all.new.state
    c.forget_by.ensures.forgets
    (NumbersForgotten-as (precision_in c.args.kept.now) Exact c.args.flow.now c.forget_by.new.state
    c.forget_all.new.state (no_finer_than_exact (precision_in c.args.kept.now))
    c.forget_all.ensures.forgets)

pub forget_all-requires : goal.forget_all-requires
forget_all-requires c = c.may_forget_all.ensures.0 (search rules)
