use Rattle.std.proofs.Common.{◌≡◌, ℕ, ◌+◌, ◌*◌, ◌<◌, ◌≤◌}
use Rattle.stack_state.specs.declared.slots.StackSlot.TheVariants.{Written}
use Rattle.stack_state.specs.Slots.{slot_at}
use Rattle.state_index.proofs.parts.are_blank.Given as goal

-- nothing is known of the stack slots up to here
abbrev pub invariant-loop-bit : goal.invariant-loop-bit
invariant-loop-bit l =
    (j : ℕ) → 8 * l.byte ≤ j → j < 8 * l.byte + l.bit → slot_at l.slots j ≡ Written 0
