use Rattle.stack_state.proofs.Common.{◌≡◌, ◌∙◌, ℕ, ◌-◌, take, length, sym, ap, arith, get_or_from_slice_get, State, no_frame, abstract_frame_at, kind_at, registers_of, map_kinds, without_frame, resumed_of, left}
use Rattle.stack_state.proofs.MeaningLaws.{abstract_frame_at-caller}
use Rattle.stack_state.proofs.states.State.leave.Goals as goal

pub returns : goal.returns
returns c =
    let a : State = c.args.self.now in
    let b : State = c.learn.new.self in
    let n : ℕ = length b.callers.items - 1 in
    let forgotten : b ≡ map_kinds (without_frame (length a.callers.items)) a =
    c.learn.ensures ∙ ap (λ k. map_kinds (without_frame k) a) c.len-frame.ensures.value in
    let some = c.in-Some.ensures.len in
    let caller : c.in-Some.caller ≡ abstract_frame_at b n =
    sym (abstract_frame_at-caller b n (omega arith)
    ∙ get_or_from_slice_get b.callers.items n c.in-Some.caller no_frame
    (sym c.pop.ensures.value ∙ c.in-Some.is)) in
    let resumed : State =
    record {
      slot = b.innermost.return_slot;
      callers = record { items = take n b.callers.items };
      innermost = c.resume.new.self;
    } in
    ap (λ l. record resumed { callers = record { items = l } }) c.pop.ensures.rest
    ∙ ap (λ f. record resumed { innermost = f }) (c.resume.ensures
    ∙ ap (resumed_of c.in-Some.caller) c.kind_of-answer.ensures
    ∙ ap (λ f. resumed_of f (kind_at (registers_of b) 0)) caller)
    ∙ ap left forgotten
