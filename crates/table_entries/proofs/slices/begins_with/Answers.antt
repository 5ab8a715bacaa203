use Rattle.std.proofs.Common.{◌*◌, sym, ◌∙◌, arith}
use Rattle.table_entries.proofs.SameBytes.{AreBytes, eight_same, begins-same}
use Rattle.table_entries.proofs.slices.begins_with.Goals as goal

pub loop-word-preserved : goal.loop-word-preserved
loop-word-preserved c = λ k less.
    let xs = c.args.bytes.now in
    let ys = c.args.front.now in
    let bytes : AreBytes xs = λ j. omega (arith, c.type_inv.bytes j) in
    let others : AreBytes ys = λ j. omega (arith, c.type_inv.front j) in
    eight_same (8 * c.loop-word.word) xs ys bytes others c.loop-word.invariant
    (sym c.u64_at.ensures ∙ c.if-u64_at.false ∙ c.u64_at-in-loop-word.ensures) k (omega arith)

pub returns : goal.returns
returns c = λ yes.
    begins-same c.args.bytes.now c.args.front.now (omega arith)
    (λ k less. c.loop-at.invariant k (omega arith))
