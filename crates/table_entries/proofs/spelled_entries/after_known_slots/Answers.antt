use Rattle.std.specs.Borrow.{Bor}
use Rattle.table_entries.proofs.Common.{◌≡◌, ℕ, List, ap, ◌∙◌, subst, frame_slots, stack_slot_in, many, SpellsSlots}
use Rattle.table_entries.proofs.Fronts.{SpellsSlots-before}
use Rattle.table_entries.proofs.spelled_entries.after_known_slots.Goals as goal

pub returns-then-begins_with-clause-after : goal.returns-then-begins_with-clause-after
returns-then-begins_with-clause-after c =
    let one = many (λ k. stack_slot_in c.args.rows c.args.holder) frame_slots 0 in
    ap one (c.begins_with.ensures c.if-begins_with.true)
    ∙ rw c.skip.ensures (c.requires c.in-Some.front c.in-Some.is _)

pub before-requires : goal.before-requires
before-requires c =
    (SpellsSlots-before c.args.rows c.args.holder c.args.bytes.now c.args.slots.now
    c.in_ok-rest.rest.now c.in_ok-rest.ensures).0

pub returns-clause-spelled : goal.returns-clause-spelled
returns-clause-spelled c =
    let spells =
    (SpellsSlots-before c.args.rows c.args.holder c.args.bytes.now c.args.slots.now
    c.in_ok-rest.rest.now c.in_ok-rest.ensures).1 in
    λ b same.
    let is : c.before-2.result ≡ b = cc in
    subst (λ (x : Bor (List ℕ)). SpellsSlots c.args.rows c.args.holder x.now c.args.slots.now) is
    (rw c.before-2.ensures spells)
