use Rattle.state_index.proofs.Common.{◌≡◌, ℕ, ◌+◌, ◌*◌, ◌++◌, List, drop, slot_parts}
use Rattle.stack_state.specs.declared.slots.StackSlot.{StackSlot}
use Rattle.state_index.specs.declared.parts.Part.{Part}
use Rattle.state_index.proofs.parts.push_slots.Given as goal

-- the parts of the stack slots from the nth on are still missing
abbrev pub ArePushed : ℕ → List StackSlot → List Part → List Part → Type 0
ArePushed n slots before parts = parts ++ slot_parts n (drop n slots) ≡ before ++ slot_parts 0 slots

abbrev pub invariant-loop-byte : goal.invariant-loop-byte
invariant-loop-byte l = ArePushed (8 * l.byte) l.slots l.fn.parts.items l.parts.items

abbrev pub invariant-loop-bit : goal.invariant-loop-bit
invariant-loop-bit l = ArePushed (8 * l.byte + l.bit) l.slots l.fn.parts.items l.parts.items
