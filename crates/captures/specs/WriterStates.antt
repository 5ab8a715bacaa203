-- Why a writer has failed after a step.
use Rattle.std.specs.Prelude.{Option, Some, None, Result, Ok, Err}
use Rattle.std.specs.declared.io.ErrorKind.{ErrorKind}

abbrev pub failure_by : {A : Type 0} → Result A ErrorKind → Option ErrorKind
failure_by (Ok done) = None
failure_by (Err kind) = Some kind
