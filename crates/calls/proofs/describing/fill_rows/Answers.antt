use Rattle.std.proofs.Common.{arith}
use Rattle.calls.proofs.RowLaws.{none_written, one_more, all_written}
use Rattle.calls.proofs.describing.fill_rows.Goals as goal

pub loop-i-init : goal.loop-i-init
loop-i-init c = none_written _ _

pub loop-i-preserved : goal.loop-i-preserved
loop-i-preserved c =
    one_more c.args.room.now c.args.rows.now c.loop-i.room c.loop-i.i c.row_in_numbers.result
    (omega arith) (let size = c.loop-i.invariant.size in omega arith)
    c.row_in_numbers.ensures c.loop-i.invariant

pub returns : goal.returns
returns c =
    all_written c.args.room.now c.args.rows.now c.loop-i.room c.loop-i.i (omega arith)
    c.loop-i.invariant
