use Rattle.state_cover.proofs.Common.{ℕ, bit_and, subst, refl, arith, IsTrue, ◌↔◌, nat_eq, AreAmong}
use Rattle.state_cover.proofs.Marks.{none-among, among-test}
use Rattle.state_cover.proofs.are_written.Goals as goal

pub returns-then-marks-eq0 : goal.returns-then-marks-eq0
returns-then-marks-eq0 c = (λ yes. none-among c.args.marks _ c.if-marks-eq0.true, λ among. refl)

pub returns : goal.returns
returns c =
    let marks : ℕ = c.args.marks in
    let others : ℕ = c.marks-others.result in
    subst (λ (r : ℕ). IsTrue (nat_eq (bit_and others marks) marks) ↔ AreAmong marks r)
    c.marks-others.ensures
    (among-test marks others (omega arith))
