use Rattle.std.proofs.Common.{◌≡◌, ℕ, ◌+◌, ◌*◌, ◌++◌, length, arith, rules, sym, ap, ◌∙◌}
use Rattle.std.proofs.lemmas.List.{append-nil}
use Rattle.state_index.proofs.PartLaws.{slot_parts-more, slot_parts-all, slot_parts-from, slot_parts-skip_all, slot_parts-blank}
use Rattle.state_index.proofs.parts.push_slots.Goals as goal
use Rattle.state_index.proofs.parts.push_slots.Goals.{then-not-are_blank+else-loop-bit-test, else-not-are_blank}

pub loop-bit-preserved : goal.loop-bit-preserved
loop-bit-preserved c =
    let b : ℕ = c.loop-byte.byte in
    let k : ℕ = c.loop-bit.bit in
    slot_parts-from c.push_slot.new.parts.items _ c.args.slots.now (8 * b + k + 1) (8 * b + (k + 1))
    (omega arith)
    (slot_parts-more c.loop-bit.parts.items c.push_slot.new.parts.items _ c.args.slots.now
    (8 * b + k) c.index-slots-index.result
    (omega arith) c.in_ok-push_slot.ensures c.loop-bit.invariant)

pub loop-bit-init : goal.loop-bit-init
loop-bit-init c =
    let b : ℕ = c.loop-byte.byte in
    slot_parts-from c.loop-byte.parts.items _ c.args.slots.now (8 * b) (8 * b + 0)
    (omega arith) c.loop-byte.invariant

pub returns-clause-pushed : goal.returns-clause-pushed
returns-clause-pushed c =
    slot_parts-all c.loop-byte.parts.items _ c.args.slots.now (8 * c.loop-byte.byte)
    (omega arith) c.loop-byte.invariant

pub loop-byte-preserved : goal.loop-byte-preserved
loop-byte-preserved c =
    let ts = c.args.slots.now in
    let b : ℕ = c.loop-byte.byte in
    elim c.if-not-are_blank.branch [
      | then-not-are_blank+else-loop-bit-test w ↦
          let k : ℕ = w.loop-bit.bit in
          rw w.parts-is
          (slot_parts-from w.loop-bit.parts.items _ ts (8 * b + k) (8 * (b + 1))
          (omega arith) w.loop-bit.invariant)
      | else-not-are_blank w ↦
          rw w.parts-is
          (slot_parts-from c.loop-byte.parts.items _ ts (8 * b + 8) (8 * (b + 1)) (omega arith)
          (slot_parts-skip_all c.loop-byte.parts.items _ ts (8 * b) 8 (omega arith)
          (c.are_blank.ensures w.if-not-are_blank.false) c.loop-byte.invariant))
    ]

pub returns-then-is_empty-clause-pushed : goal.returns-then-is_empty-clause-pushed
returns-then-is_empty-clause-pushed c =
    let items = c.args.parts.now.items in
    let wide : length c.args.slots.now ≡ 64 = search rules in
    let none = slot_parts-blank c.args.slots.now 0
    (λ j below. c.requires j (omega (arith, below, wide))
    (c.is_empty.ensures.none c.if-is_empty.true j)) in
    sym (append-nil items) ∙ ap (λ l. items ++ l) (sym none)
