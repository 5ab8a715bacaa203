use Rattle.table_entries.proofs.Common.{◌≡◌, Ok, Some, take, take_all, ap, ◌∙◌, arith, kind_in}
use Rattle.table_entries.proofs.Many.{spelled-goes_on, many-done}
use Rattle.table_entries.proofs.spelling.after_registers.Goals as goal

pub loop-index-preserved : goal.loop-index-preserved
loop-index-preserved c =
    spelled-goes_on (λ k. kind_in c.args.rows c.args.holder) c.args.registers.now 10
    c.loop-index.index c.loop-index.rest.now c.index-registers-index.result
    c.in_ok-rest.rest.now _ (omega arith) (omega arith) c.in_ok-rest.ensures c.loop-index.invariant

pub returns : goal.returns
returns c =
    let whole : take c.loop-index.index c.args.registers.now ≡ c.args.registers.now =
    take_all c.loop-index.index c.args.registers.now (omega arith) in
    many-done (λ k. kind_in c.args.rows c.args.holder)
    (Some (take c.loop-index.index c.args.registers.now)) 10 c.loop-index.index
    c.loop-index.rest.now _ (omega arith)
    c.loop-index.invariant
    ∙ ap (λ xs. Ok (Some xs, c.loop-index.rest.now)) whole
