use Rattle.kept_states.proofs.Common.{◌≡◌, ◌∙◌, ℕ, ◌+◌, ◌-◌, [], ◌∷◌, take, drop, sym, ap, arith, drop_all, Part, all_written, changes_of}
use Rattle.kept_states.specs.declared.changes.ChangedFrame.{ChangedFrame}
use Rattle.kept_states.proofs.ChangeLaws.{changes_less, no_changes, undo_one, undo_none, drop_one}
use Rattle.kept_states.proofs.changes.ChangedFrame.undo.Goals as goal

pub loop-change-init : goal.loop-change-init
loop-change-init c =
    let e : c.args.count - 0 ≡ c.args.count = omega arith in (
      ap (λ k. all_written c.args.self.now.frame (take k (changes_of c.args.self.now))) e,
      ap (λ k. drop k (changes_of c.args.self.now)) e,
    )

pub loop-change-preserved : goal.loop-change-preserved
loop-change-preserved c =
    let old = c.loop-change.self in
    let was : Part = c.take-was.result in
    let new : ChangedFrame =
    record {
      frame = c.write.new.frame;
      changes = c.pop.new.self;
      earlier = c.take-was.new.self;
    } in
    let k : ℕ = c.args.count - c.loop-change._change in
    let j : ℕ = c.args.count - (c.loop-change._change + 1) in
    let first : changes_of old ≡ was ∷ changes_of new =
    changes_less old new c.in-Some.change was c.in-Some.ensures.items c.take-was.ensures.part
    c.take-was.ensures.left c.write.ensures in
    let next : k ≡ j + 1 = omega arith in (
      ap (λ f. all_written f (take j (changes_of new))) c.write.ensures
          ∙ sym (undo_one old.frame was (changes_of new) (changes_of old) k j next first)
          ∙ c.loop-change.invariant.0,
      sym (drop_one was (changes_of new) (changes_of old) k j next first)
          ∙ c.loop-change.invariant.1,
    )

pub returns-in_default-clause-frame : goal.returns-in_default-clause-frame
returns-in_default-clause-frame c =
    undo_none c.loop-change.self.frame c.loop-change.self.changes.items
    c.loop-change.self.earlier (c.args.count - c.loop-change._change)
    (omega (arith, c.in_default.ensures.cases.0, c.loop-change.self.changes.ok.0))
    ∙ c.loop-change.invariant.0

pub returns-clause-frame : goal.returns-clause-frame
unfolding all_written
returns-clause-frame c =
    let left : c.args.count - c.loop-change._change ≡ 0 = omega arith in
    sym (ap (λ k. all_written c.loop-change.self.frame
    (take k (changes_of c.loop-change.self))) left)
    ∙ c.loop-change.invariant.0

pub returns-in_default-clause-changes : goal.returns-in_default-clause-changes
returns-in_default-clause-changes c =
    let old = c.loop-change.self in
    let k : ℕ = c.args.count - c.loop-change._change in
    no_changes old.frame c.pop.new.self.items old.earlier
    (omega (arith, c.in_default.ensures.cases.1, c.pop.new.self.ok.0))
    ∙ sym (ap (drop k) (no_changes old.frame old.changes.items old.earlier
    (omega (arith, c.in_default.ensures.cases.0, old.changes.ok.0)))
    ∙ drop_all k [] (omega arith))
    ∙ c.loop-change.invariant.1
