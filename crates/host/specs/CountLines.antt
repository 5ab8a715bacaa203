-- The lines that say how many packet frames ended in each way, each ended by one line feed.
use Rattle.std.specs.Prelude.{ℕ, ◌==◌, List, [], ◌∷◌, ◌++◌, Option, Some, None, codes, decimal, if◌then◌else◌}
use Rattle.isa_model.specs.declared.ends.TrapReason.{TrapReason}
use Rattle.isa_model.specs.declared.ends.TrapReason.TheVariants.{NoCode, UnsetRead, ReadOnly, BadPointer, OutOfRange, BadAccess, BadCompare, BadHelper, TooManyCallFrames, NoResult, BadAction}
use Rattle.isa_model.specs.declared.streams.Fault.{Fault}
use Rattle.isa_model.specs.declared.streams.Finish.{Finish}
use Rattle.isa_model.specs.declared.streams.Finish.TheVariants as finish
use Rattle.isa_model.specs.Reporting.Reports.{last_line, trap_reason_name}
use Rattle.host.specs.declared.end_counts.ActionCounts.{ActionCounts}
use Rattle.host.specs.declared.end_counts.TrapCounts.{TrapCounts}
use Rattle.host.specs.declared.counts.ReasonCount.{ReasonCount}
use Rattle.host.specs.declared.tallies.Tally.{Tally}
use Rattle.host.specs.Counts.{Totals}
use Rattle.host.specs.EndCounts.{count_of_trap}

-- a line with a count, unless it is 0
abbrev pub count_line : List ℕ → ℕ → List ℕ
count_line name count =
    if count == 0 then [] else name ++ (codes " " ++ (decimal count ++ codes "\n"))

abbrev pub action_lines : ActionCounts → List ℕ
action_lines counts =
    count_line (codes "PASS") counts.pass
    ++ (count_line (codes "TX") counts.tx
    ++ (count_line (codes "REDIRECT") counts.redirect
    ++ (count_line (codes "DROP") counts.drop
    ++ (count_line (codes "ABORTED") counts.aborted
    ++ count_line (codes "INVALID") counts.invalid))))

-- the runs that met a trap for a reason
abbrev pub trap_line : TrapCounts → TrapReason → List ℕ
trap_line counts reason =
    count_line (codes "TRAP " ++ trap_reason_name reason) (count_of_trap counts reason)

abbrev pub access_lines : TrapCounts → List ℕ
access_lines counts =
    trap_line counts NoCode
    ++ (trap_line counts UnsetRead
    ++ (trap_line counts ReadOnly
    ++ (trap_line counts BadPointer
    ++ (trap_line counts OutOfRange ++ trap_line counts BadAccess))))

abbrev pub answer_lines : TrapCounts → List ℕ
answer_lines counts =
    trap_line counts BadCompare
    ++ (trap_line counts BadHelper
    ++ (trap_line counts TooManyCallFrames
    ++ (trap_line counts NoResult ++ trap_line counts BadAction)))

-- the runs that met a trap, by its reason
abbrev pub trap_lines : TrapCounts → List ℕ
trap_lines counts = access_lines counts ++ answer_lines counts

-- the frames that were not forwarded for a reason
abbrev pub reason_line : ReasonCount → List ℕ
reason_line counted =
    codes "reason "
    ++ (decimal counted.reason ++ (codes " " ++ (decimal counted.frames ++ codes "\n")))

abbrev pub reason_lines : List ReasonCount → List ℕ
reason_lines [] = []
reason_lines (counted ∷ more) = reason_line counted ++ reason_lines more

-- how a stream ended, by its fault
abbrev pub finish_by : Option (Fault × ℕ) → Finish
finish_by None = finish.End
finish_by (Some (fault, at)) = finish.Fault fault at

-- the report's last line
abbrev pub end_line : Tally → List ℕ
end_line tally = last_line tally.frames (finish_by tally.fault)

-- the counts that are not 0, and the report's last line
abbrev pub counts_text : Totals → Tally → List ℕ
counts_text totals tally =
    action_lines totals.actions
    ++ (count_line (codes "SKIP") totals.skipped
    ++ (trap_lines totals.traps
    ++ (count_line (codes "LIMIT") totals.limit
    ++ (reason_lines totals.reasons
    ++ (count_line (codes "other reasons") totals.other_reasons ++ end_line tally)))))
