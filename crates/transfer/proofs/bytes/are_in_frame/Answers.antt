use Rattle.transfer.proofs.Common.{◌≡◌, ◌+◌, arith, subst, sym, ints, AreMarked}
use Rattle.stack_state.specs.declared.stacks.StackState.{StackState}
use Rattle.transfer.proofs.bytes.are_in_frame.Goals as goal

pub returns : goal.returns
returns c =
    let at = c.in-Some-frame_bytes.at in
    let n = c.args.count in
    let found = c.in-Some.ensures in
    let place = c.in-Some-frame_bytes.ensures in (
      λ t. record {
        live = found.0;
        at = at;
        from_start = omega (arith, ints);
        inside = place.1;
        marked = subst (λ (s : StackState). AreMarked s.slots at (at + n)) found.1
            (c.is_bytes.ensures.exact.0 t);
      },
      λ h.
          let same : h.at ≡ at = omega (arith, ints) in
          c.is_bytes.ensures.exact.1
          (subst (λ (s : StackState). AreMarked s.slots at (at + n)) (sym found.1)
          (rw same at h.marked)),
    )
