use Rattle.stack_state.proofs.Common.{arith, ap, get_or, List, ℕ, ◌/◌, ◌%◌, ◌+◌, Some, subst, sym, ◌∙◌, T, get_or_default, StackSlot, Written, StackSlots, AreMarked, AreNumbers, LoadsNumber}
use Rattle.stack_state.proofs.StackLaws.{loads}
use Rattle.stack_state.proofs.stacks.StackState.load.Goals as goal

pub returns-then-is_bytes-clause-meant : goal.returns-then-is_bytes-clause-meant
returns-then-is_bytes-clause-meant c =
    let slots = c.args.self.now.slots in
    let at : ℕ = c.args.at in
    let viewed = ap (λ (s : StackSlots). s.slots) c.self.view_is in
    let same = get_or_default c.self.inside.slots (at / 8) c.index-self-at.result (Written 0)
    (omega (arith, c.self.invariant.wide))
    ∙ ap (λ (ys : List StackSlot). get_or ys (at / 8) (Written 0)) viewed in
    loads slots at c.args.size (Some c.numbers.result) c.requires.inside c.requires.in_slot (
      subst (λ (n : ℕ). AreMarked slots at (at + n)) c.bytes.ensures.value
          (c.is_bytes.ensures.exact.0 c.if-is_bytes.true),
      subst (λ (s : StackSlot). AreNumbers s (at % 8) c.args.size c.numbers.result) same
          c.numbers.ensures,
    )

pub returns-else-is_bytes-clause-meant : goal.returns-else-is_bytes-clause-meant
unfolding LoadsNumber
returns-else-is_bytes-clause-meant c = tt

pub returns-then-is_bytes-clause-exact : goal.returns-then-is_bytes-clause-exact
returns-then-is_bytes-clause-exact c =
    let slots = c.args.self.now.slots in
    let at : ℕ = c.args.at in
    let viewed = ap (λ (s : StackSlots). s.slots) c.self.view_is in
    let same = get_or_default c.self.inside.slots (at / 8) c.index-self-at.result (Written 0)
    (omega (arith, c.self.invariant.wide))
    ∙ ap (λ (ys : List StackSlot). get_or ys (at / 8) (Written 0)) viewed in (
      subst (λ (n : ℕ). AreMarked slots at (at + n)) c.bytes.ensures.value
          (c.is_bytes.ensures.exact.0 c.if-is_bytes.true),
      subst (λ (s : StackSlot). AreNumbers s (at % 8) c.args.size c.numbers.result) same
          c.numbers.ensures,
    )

pub returns-else-is_bytes-clause-exact : goal.returns-else-is_bytes-clause-exact
returns-else-is_bytes-clause-exact c = λ marked.
    let slots = c.args.self.now.slots in
    let at : ℕ = c.args.at in
    let counted = subst (λ (n : ℕ). AreMarked slots at (at + n)) (sym c.bytes.ensures.value)
    marked in
    absurd (subst T (sym (sym c.if-is_bytes.false ∙ c.is_bytes.ensures.exact.1 counted)) tt)
