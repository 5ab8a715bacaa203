use Rattle.proof_table.proofs.Common.{◌≡◌, ℕ, List, subst, sym, refl, arith, Appends, AppendsBeginning, on_err, GainsEntries}
use Rattle.proof_table.proofs.WritingLaws.{GainsEntries-none, GainsEntries-more, BeginsEntries-part, BeginsEntries-some}
use Rattle.proof_table.proofs.tables.write_entries.Goals as goal

pub loop-index-init : goal.loop-index-init
loop-index-init g c = GainsEntries-none c.args.image.now c.args.explored.now _

pub returns-clause-ok : goal.returns-clause-ok
returns-clause-ok g c =
    let all : c.loop-index.index ≡ c.args.count =
    omega (arith, c.loop-index-test.false, c.loop-index.auto.index-end) in
    subst
    (λ (n : ℕ). GainsEntries c.args.image.now c.args.explored.now n
    (g.W.Write.contents c.args.writer.now) (g.W.Write.contents c.loop-index.writer)) all
    c.loop-index.invariant

pub returns-in_default-clause-err : goal.returns-in_default-clause-err
returns-in_default-clause-err g c =
    BeginsEntries-some c.args.image.now c.args.explored.now c.loop-index.index c.args.count _ _
    c.recall.ensures c.loop-index-test.true c.loop-index.invariant

pub returns-in_err-spell_explored-clause-err : goal.returns-in_err-spell_explored-clause-err
returns-in_err-spell_explored-clause-err g c =
    on_err _ c.from_residual.result
    (BeginsEntries-some c.args.image.now c.args.explored.now c.loop-index.index c.args.count _ _
    c.recall.ensures c.loop-index-test.true c.loop-index.invariant)

pub returns-in_err-write_all-clause-err : goal.returns-in_err-write_all-clause-err
returns-in_err-write_all-clause-err g c =
    let part = subst
    (λ (l : List ℕ). AppendsBeginning (g.W.Write.contents c.loop-index.writer)
    (g.W.Write.contents c.write_all.new.writer) l) c.deref.ensures.value
    c.in_err-write_all.ensures.err in
    on_err _ c.from_residual-in_err-write_all.result
    (BeginsEntries-part c.args.image.now c.args.explored.now c.loop-index.index c.args.count _ _ _ _
    c.spell_explored.new.buffer.items c.recall.ensures c.loop-index-test.true
    c.loop-index.invariant
    c.in_ok-spell_explored.ensures.ok part)

pub loop-index-preserved : goal.loop-index-preserved
loop-index-preserved g c =
    let whole = subst
    (λ (l : List ℕ). Appends (g.W.Write.contents c.loop-index.writer)
    (g.W.Write.contents c.write_all.new.writer) l) c.deref.ensures.value
    c.in_ok-write_all.ensures.ok in
    GainsEntries-more c.args.image.now c.args.explored.now c.loop-index.index _ _ _ _
    c.spell_explored.new.buffer.items c.in-Some.insn.now
    (sym c.in-Some.ensures) refl
    c.loop-index.invariant c.in_ok-spell_explored.ensures.ok whole
