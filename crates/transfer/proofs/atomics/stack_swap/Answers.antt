use Rattle.transfer.proofs.Common.{rules, subst, ◌+ℤ◌, Some, IsLoad, IsFramePlace}
use Rattle.stack_state.specs.declared.stacks.StackState.{StackState}
use Rattle.transfer.proofs.atomics.stack_swap.Goals as goal

pub returns : goal.returns
returns c =
    let place : IsFramePlace c.args.state.now c.args.frame
    (c.args.offset +ℤ c.args.by) c.args.size c.in-Some-stack_place.at = search rules in (
      c.in-Some-stack_place.at,
      place,
      record {
        old = c.in-Some-load.old;
        loaded =
            subst (λ (t : StackState).
            IsLoad t.slots c.in-Some-stack_place.at c.args.size (Some c.in-Some-load.old))
            c.in-Some.ensures.1 c.in-Some-load.ensures.exact;
        after = c.store.new.self;
        stored = record { left = c.store.ensures.left; meant = c.store.ensures.meant };
        kept = c.keep_old.ensures;
      },
    )
