use Rattle.rechecking.proofs.Common.{◌≡◌, ◌<◌, ℕ, Some, inl, inr, refl, subst, arith, Entry, cases_lt, entry_at, count_of, entry_at-whole, no_entry_past, EntryAt, IsClosedEntry, IsFirstRefused}
use Rattle.rechecking.proofs.RefusalLaws.{shows_of, refused_entry}
use Rattle.rechecking.proofs.rechecks.slow_bound.Goals as goal

pub returns-in-Ok-true-clause-shown : goal.returns-in-Ok-true-clause-shown
returns-in-Ok-true-clause-shown c =
    let p = c.args.image.now in
    let found = c.in-Ok.ensures in
    let t = c.in-Ok.table in
    let h = c.test_all.new.growing in
    let made = c.of-growing.ensures in
    let count = c.test_all.ensures.grows.count in
    let same : entry_at p h.table ≡ entry_at p t =
    rw made at (entry_at-whole p c.of-growing.result h c.test_all.ensures.grows
    (rw made (omega arith))) in
    let all =
    subst (λ (u : EntryAt). (k : ℕ) (e : Entry) → k < h.count → u k ≡ Some e
    → IsClosedEntry p u e) same
    (λ k e less there. c.in-Ok-true.ensures.fine
    (rw c.in-Ok-true.field-0-test refl) k e less there) in
    shows_of p c.args.bytes.now t found.0 c.in-Some.number found.1 found.2
    (c.in-Some.ensures.some c.in-Some.number refl)
    (λ k e there. elim (cases_lt k (count_of t)) [
      | inl inside ↦ all k e (rw (count, made) inside) there
      | inr past ↦ absurd (no_entry_past p t k e past there)
    ])

pub returns-clause-refused : goal.returns-clause-refused
returns-clause-refused c =
    let p = c.args.image.now in
    let found = c.in-Ok.ensures in
    let made = c.of-growing.ensures in
    let same : entry_at p c.test_all.new.growing.table ≡ entry_at p c.in-Ok.table =
    rw made at (entry_at-whole p c.of-growing.result c.test_all.new.growing c.test_all.ensures.grows
    (rw made (omega arith))) in
    refused_entry p c.args.bytes.now c.in-Ok.table found.0 c.in-Some.number c.in-Err-test_all.error
    c.requires.flow found.1 found.2
    (c.in-Some.ensures.some c.in-Some.number refl)
    (subst (λ (u : EntryAt). IsFirstRefused p u c.in-Err-test_all.error) same
    c.in-Err-test_all.ensures.refused)
