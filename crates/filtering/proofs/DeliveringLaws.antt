-- What outputs got after they were flushed, and what was said at the end.
use Rattle.filtering.proofs.Common.{◌≡◌, ◌∙◌, ℕ, List, [], ◌++◌, Option, Some, None, Result, Ok, Err, String, ap, subst, sym, inl, inr, IfOk, MatchResult, OnErr, OnOk, codes, ErrorKind, Origin, Outputs, KeyValues, FileForm, TaskOutcome, AppendsPart, LacksMemory, Says, RunsWanted}
use Rattle.std.specs.declared.alloc.Global.{Global}
use Rattle.std.specs.declared.io.Error.{Error}
use Rattle.std.specs.Io.KnownBytes.{Appends, Keeps, append_known}
use Rattle.std.specs.IoError.{error_kind}
use Rattle.std.specs.String.{string_bytes}
use Rattle.std.proofs.lemmas.List.{append-nil}
use Rattle.exact_io.specs.Transfers.{AppendsBeginning}
use Rattle.host.specs.declared.tallies.Tally.{Tally}
use Rattle.host.specs.declared.traced.Counted.{Counted}
use Rattle.host.specs.Counts.{Totals}
use Rattle.commands.specs.Streams.{outcome_at}
use Rattle.filtering.specs.declared.ready.Ready.{Ready}
use Rattle.host.specs.CountLines.{counts_text}
use Rattle.filtering.specs.Delivering.{Filters, GetsReport}
use Rattle.filtering.specs.Finishing.{SaysCounts}

-- a buffer with no byte in it has handed on all
keeps-flushed : (a b : Option (List ℕ)) (bs : List ℕ) → bs ≡ [] → Keeps a (append_known b bs)
    → Keeps a b
keeps-flushed None b bs e k = tt
keeps-flushed (Some x) None bs e k = k
keeps-flushed (Some x) (Some y) bs e k = sym (ap (λ (l : List ℕ). y ++ l) e ∙ append-nil y) ∙ k

-- the report was flushed after a run
pub gets-report : (r : Result (Unit {0}) Error) (failure : Option ErrorKind)
    (handed got : Option (List ℕ)) (waits : List ℕ) → Keeps handed (append_known got waits)
    → OnOk r (waits ≡ [])
    → MatchResult r (λ done. failure ≡ None) (λ e. failure ≡ Some (error_kind e))
    → GetsReport failure handed got
gets-report (Ok done) failure handed got waits kept none is =
    record { whole = λ e. keeps-flushed handed got waits none kept; part = (waits, kept) }
gets-report (Err error) failure handed got waits kept none is =
    record { whole = λ e. cc; part = (waits, kept) }

-- a text was written, or a beginning of it
pub part-of : {X E : Type 0} (r : Result X E) (old new : Option (List ℕ)) (bytes : List ℕ)
    → OnOk r (Appends old new bytes) → OnErr r (AppendsBeginning old new bytes)
    → AppendsPart old new bytes
part-of (Ok done) old new bytes all some = inl all
part-of (Err error) old new bytes all some = inr some

-- the counts were said, if there was memory for the text
pub says-counts : {E : Type 0} (made : Result (String Global) E) (totals : Totals) (tally : Tally)
    (form : FileForm) (old new : Option (List ℕ)) (ended result : TaskOutcome)
    → IfOk made (λ text. string_bytes text ≡ counts_text totals tally)
    → ended ≡ outcome_at form tally.fault
    → MatchResult made (λ text. Says old new (string_bytes text) ended result)
    (λ error. LacksMemory old new result)
    → SaysCounts totals tally form old new result
says-counts (Ok text) totals tally form old new ended result is at h =
    inr (subst (λ (l : List ℕ). Says old new l (outcome_at form tally.fault) result) is
    (subst (λ (x : TaskOutcome). Says old new (string_bytes text) x result) at h))
says-counts (Err error) totals tally form old new ended result is at h = inl h

-- a run with a report, and one without
pub runs-reported : {ready : Ready} {contents : List KeyValues} {source : Origin}
    {report : Option (List ℕ)} {name sent : List ℕ} {why cause : Option ErrorKind}
    {before after : Outputs} {result : Result Counted TaskOutcome} → report ≡ Some name
    → Filters ready contents source (record { report = name; sent = sent }) why cause before after
    result
    → RunsWanted ready contents source report sent result
runs-reported {why = why} {cause = cause} {before = before} {after = after} is h =
    rw is (record { why = why; cause = cause; before = before; after = after; filters = h })

pub runs-unreported : {ready : Ready} {contents : List KeyValues} {source : Origin}
    {report : Option (List ℕ)} {sent : List ℕ} {why cause : Option ErrorKind}
    {before after : Outputs} {result : Result Counted TaskOutcome} → report ≡ None
    → Filters ready contents source
    (record { report = codes "standard output"; sent = sent }) why cause before after result
    → RunsWanted ready contents source report sent result
runs-unreported {why = why} {cause = cause} {before = before} {after = after} is h =
    rw is (record { why = why; cause = cause; before = before; after = after; filters = h })

-- a message before the usage was said
pub said-wrong : {X E : Type 0} (r : Result X E) (old new : Option (List ℕ))
    (text bytes usage : List ℕ) → bytes ≡ text → OnOk r (Appends old new (bytes ++ usage))
    → OnErr r (AppendsBeginning old new (bytes ++ usage)) → AppendsPart old new (text ++ usage)
said-wrong r old new text bytes usage e all some =
    subst (λ (l : List ℕ). AppendsPart old new (l ++ usage)) e
    (part-of r old new (bytes ++ usage) all some)
