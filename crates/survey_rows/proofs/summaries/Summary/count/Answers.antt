use Rattle.std.proofs.Common.{rules}
use Rattle.survey_rows.proofs.summaries.Summary.count.Goals as goal

pub returns-in-Refused : goal.returns-in-Refused
returns-in-Refused c = search rules
