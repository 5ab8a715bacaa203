-- The names of the columns of a survey.
use Rattle.std.specs.Prelude.{ℕ, List, codes}
use Rattle.survey_rows.specs.declared.columns.Column.{Column}
use Rattle.survey_rows.specs.declared.columns.Column.TheVariants as column

abbrev pub name_of : Column → List ℕ
name_of column.File = codes "file"
name_of column.Verdict = codes "verdict"
name_of column.Slot = codes "slot"
name_of column.Slots = codes "slots"
name_of column.Maps = codes "maps"
name_of column.Bound = codes "bound"
name_of column.Explored = codes "explored"
name_of column.Stored = codes "stored"
name_of column.Deepest = codes "deepest"
name_of column.StoredBytes = codes "stored_bytes"
name_of column.Milliseconds = codes "milliseconds"
name_of column.TableBytes = codes "table_bytes"
name_of column.ProveMilliseconds = codes "prove_milliseconds"
name_of column.RecheckMilliseconds = codes "recheck_milliseconds"
