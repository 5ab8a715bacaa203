use Rattle.rechecking.proofs.Common.{inl, inr, arith, cases_lt, entry_at, count_of, Grows-same, Grows-then, Grows-count, MayGrow-more, AllThere-more}
use Rattle.std.proofs.lemmas.Result.{err_from_is_err_and}
use Rattle.rechecking.proofs.CheckingLaws.{fine_next}
use Rattle.rechecking.proofs.GrowingLaws.{IsKnownEntry-grows, fine_grows}
use Rattle.rechecking.proofs.entries.test_all.Goals as goal

pub loop-index-init : goal.loop-index-init
loop-index-init c = record {
  grows = Grows-same c.args.image.now c.args.growing.now;
  placed = omega arith;
  before = λ j e less there. absurd (omega arith);
  spelled = tt;
  has = tt;
}

pub reach-requires : goal.reach-requires
reach-requires c =
    MayGrow-more c.args.image.now c.args.growing.now c.loop-index.growing
    c.loop-index.invariant.grows c.requires.may

pub returns-then-not-reach-clause-grows : goal.returns-then-not-reach-clause-grows
returns-then-not-reach-clause-grows c =
    Grows-then c.args.image.now c.args.growing.now c.loop-index.growing c.reach.new.self
    c.loop-index.invariant.grows c.reach.ensures.grows

pub returns-then-not-reach-clause-short : goal.returns-then-not-reach-clause-short
returns-then-not-reach-clause-short c = λ same.
    let refused = c.if-not-reach.true in
    let before = c.loop-index-test.true in
    let end = c.count-index-end.ensures in
    let le =
    Grows-count c.args.image.now c.args.growing.now c.loop-index.growing
    c.loop-index.invariant.grows in
    elim (cases_lt c.loop-index.index (count_of c.loop-index.growing.table)) [
      | inl inside ↦ let found = c.reach.ensures.found inside in absurd (cc)
      | inr past ↦ omega arith
    ]

pub test_entry-requires-clause-may : goal.test_entry-requires-clause-may
test_entry-requires-clause-may c =
    MayGrow-more c.args.image.now c.loop-index.growing c.reach.new.self c.reach.ensures.grows
    (MayGrow-more c.args.image.now c.args.growing.now c.loop-index.growing
    c.loop-index.invariant.grows c.requires.may)

pub test_entry-requires-clause-there : goal.test_entry-requires-clause-there
test_entry-requires-clause-there c =
    AllThere-more c.args.image.now c.args.growing.now c.reach.new.self
    (Grows-then c.args.image.now c.args.growing.now c.loop-index.growing c.reach.new.self
    c.loop-index.invariant.grows c.reach.ensures.grows)
    c.requires.may c.requires.there c.loop-index.index (c.reach.ensures.there c.if-not-reach.false)

pub test_entry-requires-clause-known : goal.test_entry-requires-clause-known
test_entry-requires-clause-known c =
    IsKnownEntry-grows c.args.image.now c.loop-index.growing c.reach.new.self c.loop-index.state
    c.loop-index.room c.loop-index.known c.reach.ensures.grows
    c.loop-index.invariant.has

pub loop-index-preserved : goal.loop-index-preserved
loop-index-preserved c =
    let p = c.args.image.now in
    let old = c.loop-index.growing in
    let new = c.test_entry.new.growing in
    let grows =
    Grows-then p old c.reach.new.self new c.reach.ensures.grows c.test_entry.ensures.grows in
    let there = c.reach.ensures.there c.if-not-reach.false in
    let le = Grows-count p c.reach.new.self new c.test_entry.ensures.grows in
    record {
      grows = Grows-then p c.args.growing.now old new c.loop-index.invariant.grows grows;
      placed = omega arith;
      before =
          fine_next p (entry_at p new.table) c.loop-index.index
          (fine_grows p old new c.loop-index.index grows c.loop-index.invariant.placed
          c.loop-index.invariant.before)
          c.in_ok-known.ensures.fine;
      spelled = c.in_ok-known.ensures.spelled;
      has = c.in_ok-known.ensures.known;
    }

pub returns-clause-grows : goal.returns-clause-grows
returns-clause-grows c = c.loop-index.invariant.grows

pub returns-clause-fine : goal.returns-clause-fine
returns-clause-fine c = λ same j e less there.
    let after = c.loop-index-test.false in
    let end = c.count-index-end.ensures in
    let count = c.loop-index.invariant.grows.count in
    c.loop-index.invariant.before j e (omega arith) there

pub returns-in_err-known-clause-grows : goal.returns-in_err-known-clause-grows
returns-in_err-known-clause-grows c =
    let p = c.args.image.now in
    Grows-then p c.args.growing.now c.loop-index.growing c.test_entry.new.growing
    c.loop-index.invariant.grows
    (Grows-then p c.loop-index.growing c.reach.new.self c.test_entry.new.growing
    c.reach.ensures.grows c.test_entry.ensures.grows)

pub returns-in_err-known-clause-refused : goal.returns-in_err-known-clause-refused
returns-in_err-known-clause-refused c =
    let p = c.args.image.now in
    let old = c.loop-index.growing in
    let new = c.test_entry.new.growing in
    let grows =
    Grows-then p old c.reach.new.self new c.reach.ensures.grows c.test_entry.ensures.grows in
    let given = err_from_is_err_and c.from_residual.result c.from_residual.ensures.1 in
    rw (given.1, given.2) (
      c.loop-index.index,
      fine_grows p old new c.loop-index.index grows c.loop-index.invariant.placed
          c.loop-index.invariant.before,
      c.in_err-known.ensures.refused,
    )
