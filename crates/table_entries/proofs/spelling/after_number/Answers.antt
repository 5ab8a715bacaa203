use Rattle.table_entries.proofs.Common.{arith, length-drop}
use Rattle.table_entries.proofs.Spelled.{scalar-spelled}
use Rattle.table_entries.proofs.spelling.after_number.Goals as goal

pub are_low-requires : goal.are_low-requires
are_low-requires c = rw c.skip-2.ensures (let long = length-drop 48 c.args.bytes.now in omega arith)

pub returns : goal.returns
returns c = (
  c.if-bytes-lt64.false,
  scalar-spelled c.args.bytes.now c.args.numbers.now (c.are_bits.ensures c.if-not-are_bits.false)
      (rw (← c.skip.ensures) (c.are_wide.ensures c.if-not-are_wide.false))
      (rw (← c.skip-2.ensures) (c.are_low.ensures c.if-not-are_low.false)),
  c.skip-3.ensures,
)
