use Rattle.proof_table.proofs.Common.{◌≡◌, ◌++◌, Some, arith, length, length-append, refl, sym, head_bytes}
use Rattle.proof_table.proofs.WritingLaws.{GainsEntries-none, GainsEntries-more, sizes-entries}
use Rattle.proof_table.proofs.tables.table_size.Goals as goal

pub loop-at-init : goal.loop-at-init
loop-at-init c =
    let head = head_bytes (length c.args.explored.now) in
    (head, GainsEntries-none c.image-image.result.now c.args.explored.now (Some head), refl)

pub loop-at-preserved : goal.loop-at-preserved
loop-at-preserved c =
    let (written, so_far, size) = c.loop-at.invariant in
    let bytes = c.spell_explored.new.buffer.items in (
      written ++ bytes,
      GainsEntries-more c.image-image.result.now c.args.explored.now c.loop-at.at _ _ _ _ bytes
          c.in-Some.insn.now (sym c.in-Some.ensures) refl so_far
          c.in_ok-spell_explored.ensures.ok refl,
      omega (arith, size, length-append written bytes),
    )

pub returns-clause-table : goal.returns-clause-table
returns-clause-table c =
    let (written, all, size) = c.loop-at.invariant in
    let count : c.loop-at.at ≡ length c.args.explored.now =
    omega (
      arith,
      c.requires.some,
      c.len-at-end.ensures,
      c.loop-at-test.false,
      c.loop-at.auto.at-end,
    ) in
    (sizes-entries _ c.image-image.result.now _ _ written _ c.image-image.ensures.program count
    c.requires all size).0

pub returns-clause-length : goal.returns-clause-length
returns-clause-length c =
    let (written, all, size) = c.loop-at.invariant in
    let count : c.loop-at.at ≡ length c.args.explored.now =
    omega (
      arith,
      c.requires.some,
      c.len-at-end.ensures,
      c.loop-at-test.false,
      c.loop-at.auto.at-end,
    ) in
    (sizes-entries _ c.image-image.result.now _ _ written _ c.image-image.ensures.program count
    c.requires all size).1
