use Rattle.std.proofs.Common.{◌∙◌, ap, ℕ, Some, sym}
use Rattle.survey_commands.proofs.TableLaws.{has_table}
use Rattle.survey_commands.proofs.tables.tested_table.Goals as goal

pub returns-clause-table : goal.returns-clause-table
returns-clause-table g c =
    has_table c.args.verified.program c.into_image.result c.as_slice.result.now
    c.write_explored.new.writer.items c.recheck.result _ c.into_image.ensures.program
    c.as_slice.ensures.value (sym c.is_err-2.ensures.value ∙ c.if-is_err-2.false)
    c.recheck.ensures.closed
    (ap (λ (n : ℕ). Some n) (c.len.ensures ∙ c.write_explored.new.writer.ok.0))
