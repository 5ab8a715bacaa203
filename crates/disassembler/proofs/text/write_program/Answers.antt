use Rattle.std.proofs.KnownBytes.{Appends-trans}
use Rattle.disassembler.proofs.Common.{rows_text, code_text, instructions, AppendsBeginning-first, AppendsBeginning-second, on_err}
use Rattle.disassembler.proofs.SlotTextLaws.{slot_text-code}
use Rattle.disassembler.proofs.text.write_program.Goals as goal

pub returns-in_err-write_rows-clause-err : goal.returns-in_err-write_rows-clause-err
returns-in_err-write_rows-clause-err g c =
    on_err _ c.from_residual.result
    (AppendsBeginning-first _ _ (rows_text c.args.image.now.maps)
    (code_text (instructions c.args.image.now.insns))
    (rw (← c.maps.ensures) c.in_err-write_rows.ensures.err))

pub returns-in_err-write_code-clause-err : goal.returns-in_err-write_code-clause-err
returns-in_err-write_code-clause-err g c =
    on_err _ c.from_residual-in_err-write_code.result
    (AppendsBeginning-second _ (g.W.Write.contents c.write_rows.new.out) _
    (rows_text c.args.image.now.maps) (code_text (instructions c.args.image.now.insns))
    (rw (← c.maps.ensures) c.in_ok-write_rows.ensures.ok)
    (rw (← slot_text-code c.args.image.now.insns, ← c.code.ensures)
    c.in_err-write_code.ensures.err))

pub returns-clause-ok : goal.returns-clause-ok
returns-clause-ok g c =
    Appends-trans _ (g.W.Write.contents c.write_rows.new.out) _ (rows_text c.args.image.now.maps)
    (code_text (instructions c.args.image.now.insns))
    (rw (← c.maps.ensures) c.in_ok-write_rows.ensures.ok)
    (rw (← slot_text-code c.args.image.now.insns, ← c.code.ensures) c.in_ok-write_code.ensures.ok)
