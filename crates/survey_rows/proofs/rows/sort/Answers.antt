use Rattle.std.proofs.Common.{rules}
use Rattle.survey_rows.proofs.rows.sort.Goals as goal

pub returns-in-Verdict : goal.returns-in-Verdict
returns-in-Verdict c = search rules
