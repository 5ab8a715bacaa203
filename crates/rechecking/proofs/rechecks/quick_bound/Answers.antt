use Rattle.rechecking.proofs.Common.{◌≡◌, inl, inr, refl, subst, ◌∙◌, arith, cases_lt, count_of, AllThere-begun, no_entry_past, whole_read}
use Rattle.rechecking.specs.Refusing.{ShowsBound}
use Rattle.rechecking.proofs.GrowingLaws.{HasStart-grows}
use Rattle.rechecking.proofs.RefusalLaws.{shows_of}
use Rattle.rechecking.proofs.rechecks.quick_bound.Goals as goal

pub reach-requires : goal.reach-requires
reach-requires c = λ less. c.in_ok-growing.ensures.begun c.args.image.now

pub test_all-requires-clause-there : goal.test_all-requires-clause-there
test_all-requires-clause-there c =
    AllThere-begun c.args.image.now c.reach.new.self
    (c.reach.ensures.grows.begun (c.in_ok-growing.ensures.begun c.args.image.now))

pub returns-then-is_whole : goal.returns-then-is_whole
returns-then-is_whole c =
    let p = c.args.image.now in
    let g = c.reach.new.self in
    let h = c.test_all.new.growing in
    let begun =
    c.test_all.ensures.grows.begun
    (c.reach.ensures.grows.begun (c.in_ok-growing.ensures.begun p)) in
    let whole = c.is_whole.ensures c.if-is_whole.true in
    let read = whole_read p h begun whole.0 whole.1 in
    let bytes : h.table.bytes ≡ c.args.bytes.now =
    c.test_all.ensures.grows.bytes ∙ c.reach.ensures.grows.bytes
    ∙ c.in_ok-growing.ensures.bytes in
    let start =
    HasStart-grows p g h c.in_ok-number.number c.test_all.ensures.grows
    (rw c.placed.ensures at (c.in_ok-number.ensures.some c.in_ok-number.number refl)) in
    let all = c.in-Ok-true.ensures.fine (rw c.in-Ok-true.field-0-test refl) in
    subst (λ b. ShowsBound p b c.in_ok-number.number) bytes
    (shows_of p h.table.bytes h.table read.0 c.in_ok-number.number read.1 read.2 start
    (λ k e there. elim (cases_lt k (count_of h.table)) [
      | inl inside ↦ let same = whole.0 in all k e (omega arith) there
      | inr past ↦ absurd (no_entry_past p h.table k e past there)
    ]))
