use Rattle.disassembler.proofs.Common.{refl, get_or, row_line, on_err}
use Rattle.isa_model.specs.declared.map_defs.MapType.TheVariants.{Hash}
use Rattle.isa_model.specs.declared.map_defs.MapDef.{MapDef}
use Rattle.disassembler.proofs.Written.{text_failed}
use Rattle.disassembler.proofs.text.write_rows.Goals as goal

pub returns-in_err-write_row-clause-err : goal.returns-in_err-write_row-clause-err
returns-in_err-write_row-clause-err g c =
    let none : MapDef = record { kind = Hash; key_size = 0; value_size = 0; entries = 0 } in
    on_err _ c.from_residual.result
    (text_failed row_line _ _ _ c.args.rows.now c.loop-row.row-index
    (get_or c.args.rows.now c.loop-row.row-index none) none c.loop-row-test.true refl
    c.loop-row.invariant c.in_err-write_row.ensures.err)
