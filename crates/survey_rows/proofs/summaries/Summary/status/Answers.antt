use Rattle.std.proofs.Common.{rules}
use Rattle.survey_rows.proofs.summaries.Summary.status.Goals as goal

pub returns-then-self-ne0-2-clause-says : goal.returns-then-self-ne0-2-clause-says
returns-then-self-ne0-2-clause-says c = search rules
