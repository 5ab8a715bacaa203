use Rattle.std.proofs.Common.{rules}
use Rattle.survey_rows.proofs.columns.Column.named.Goals as goal

pub returns-then-eq : goal.returns-then-eq
returns-then-eq c = search rules
