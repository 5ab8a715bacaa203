use Rattle.std.proofs.Common.{◌≡◌, ◌++◌, drop}
use Rattle.std.specs.String.{string_bytes}
use Rattle.host.specs.CountLines.{reason_lines}
use Rattle.host.proofs.count_lines.reason_lines.Given as goal

abbrev pub invariant-loop-index : goal.invariant-loop-index
invariant-loop-index l =
    string_bytes l.text ++ reason_lines (drop l.index l.reasons) ≡ reason_lines l.reasons
