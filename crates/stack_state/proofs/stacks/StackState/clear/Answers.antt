use Rattle.stack_state.proofs.Common.{◌≡◌, ◌++◌, List, length, drop, replicate, ap, arith, ◌∙◌, append-nil, length-append, length-replicate, nil_from_length, StackSlot, Written, frame_slots}
use Rattle.stack_state.proofs.stacks.StackState.clear.Goals as goal

pub returns : goal.returns
returns c =
    let rest = drop frame_slots c.args.self.now.slots in
    let all : List StackSlot = replicate frame_slots (Written 0) in
    let none : length rest ≡ 0 =
    omega (
      arith,
      c.forget_before.ensures.wide,
      ap length c.forget_before.ensures.before,
      length-append all rest,
      length-replicate frame_slots (Written 0),
    ) in
    c.forget_before.ensures.before
    ∙ ap (λ (ys : List StackSlot). all ++ ys) (nil_from_length rest none) ∙ append-nil all
