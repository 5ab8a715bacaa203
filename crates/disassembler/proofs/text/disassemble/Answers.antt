use Rattle.std.proofs.KnownBytes.{Appends-trans}
use Rattle.disassembler.proofs.Common.{version_line, canonical_text, AppendsBeginning-first, AppendsBeginning-second, unversioned_text, on_err}
use Rattle.disassembler.proofs.text.disassemble.Goals as goal

pub returns-in_err-write_version-clause-err : goal.returns-in_err-write_version-clause-err
unfolding canonical_text
returns-in_err-write_version-clause-err g c =
    on_err _ c.from_residual.result
    (AppendsBeginning-first _ _ (version_line c.args.image.now.version)
    (unversioned_text c.args.image.now) c.in_err-write_version.ensures.err)

pub returns-in_err-write_program-clause-err : goal.returns-in_err-write_program-clause-err
unfolding canonical_text
returns-in_err-write_program-clause-err g c =
    on_err _ c.from_residual-in_err-write_program.result
    (AppendsBeginning-second _ (g.W.Write.contents c.write_version.new.out) _
    (version_line c.args.image.now.version) (unversioned_text c.args.image.now)
    c.in_ok-write_version.ensures.ok c.in_err-write_program.ensures.err)

pub returns-clause-ok : goal.returns-clause-ok
unfolding canonical_text
returns-clause-ok g c =
    Appends-trans _ (g.W.Write.contents c.write_version.new.out) _
    (version_line c.args.image.now.version) (unversioned_text c.args.image.now)
    c.in_ok-write_version.ensures.ok c.in_ok-write_program.ensures.ok
