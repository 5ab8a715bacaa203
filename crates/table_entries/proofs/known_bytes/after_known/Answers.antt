use Rattle.std.proofs.Common.{refl, arith, length}
use Rattle.std.proofs.lemmas.Option.{slice_get_read}
use Rattle.table_entries.proofs.known_bytes.after_known.Goals as goal

pub returns-then-begins_with : goal.returns-then-begins_with
returns-then-begins_with c =
    let known = c.args.known.now in
    let frame = c.in-Some.frame.now in
    let found = c.in-Some.ensures.lookup in (
      frame,
      slice_get_read known (length known) c.args.holder frame refl (omega arith) found.1,
      rw c.skip.ensures (c.begins_with.ensures c.if-begins_with.true),
    )
