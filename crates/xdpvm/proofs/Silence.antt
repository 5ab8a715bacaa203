-- A task that wrote nothing to standard output left it unchanged.
use Rattle.xdpvm.proofs.Common.{◌≡◌, ◌∙◌, ℕ, List, Option, Some, None, Result, Ok, Err, Bool, true, false, ap, refl, inl, inr, ◌⊎◌, false≢true, Keeps, PromptWriter, held, Program, HostError, TaskRequest, RunFiles, TableFiles, Trace, Run, Verify, Prove, Recheck, Assemble, Disassemble, Explain, WriteTableError, TaskOutcome, Ending, is_silent, Flushes, Says, EndsUnwritten, StoresTable, GainsSaid, BeginsSaid, ProvesFile, IsStoreFailure, RefusesProgram, RefusesTable, SaysOfTable, Verifies, IsBeginningOf, Serves}
use Rattle.host.specs.declared.tallies.Tally.{Tally}
use Rattle.commands.specs.Commands.{ShowsNone, TracesFile, RunsFile, RunsShown, VerifiesFile, RechecksFile}
use Rattle.host.specs.declared.errors.HostError.TheVariants as failure
use Rattle.host.specs.declared.traced.Traced.{Traced}
use Rattle.host.specs.Tallies.{tallied}
use Rattle.rechecking.specs.declared.errors.TableError.{TableError}
use Rattle.rechecking.specs.declared.errors.TableError.TheVariants as table_error
use Rattle.commands.specs.declared.outcomes.TaskOutcome.TheVariants as outcome
use Rattle.xdpvm.proofs.FilesSilence.{says_loud, stops_silent, bound_silent, loads_silent, opens_silent, on_silent, disassemble_silent, assemble_silent, silent_then, unwritten_silent}

-- ---- verdicts

program_silent : (p : Program) (old new : Option (List ℕ)) (r : TaskOutcome)
    → RefusesProgram p old new r → is_silent r ≡ true → new ≡ old
program_silent p old new r (inl lacks) e = lacks.1
program_silent p old new r (inr (refusal, slot, is, other, says)) e =
    absurd (says_loud old new _ _ r refl says e)

of_table_silent : (p : Program) (error : TableError) (old new : Option (List ℕ)) (r : TaskOutcome)
    → SaysOfTable p error old new r → is_silent r ≡ true → new ≡ old
of_table_silent p (table_error.Flow error slot) old new r (inl lacks) e = lacks.1
of_table_silent p (table_error.Flow error slot) old new r (inr (other, says)) e =
    absurd (says_loud old new _ _ r refl says e)
of_table_silent p (table_error.Bytes refusal) old new r (inl lacks) e = lacks.1
of_table_silent p (table_error.Bytes refusal) old new r (inr (position, other, says)) e =
    absurd (says_loud old new _ _ r refl says e)
of_table_silent p table_error.Start old new r (inl lacks) e = lacks.1
of_table_silent p table_error.Start old new r (inr (position, other, says)) e =
    absurd (says_loud old new _ _ r refl says e)
of_table_silent p (table_error.Step k refusal) old new r (inl lacks) e = lacks.1
of_table_silent p (table_error.Step k refusal) old new r (inr (position, other, says)) e =
    absurd (says_loud old new _ _ r refl says e)
of_table_silent p (table_error.Successor k) old new r (inl lacks) e = lacks.1
of_table_silent p (table_error.Successor k) old new r (inr (position, other, says)) e =
    absurd (says_loud old new _ _ r refl says e)

table_silent : (p : Program) (bytes : List ℕ) (old new : Option (List ℕ)) (r : TaskOutcome)
    → RefusesTable p bytes old new r → is_silent r ≡ true → new ≡ old
table_silent p bytes old new r (inl lacks) e = lacks.1
table_silent p bytes old new r (inr (error, is, says)) e = of_table_silent p error old new r says e

verdict_silent : (p : Program) (old new : Option (List ℕ)) (r : TaskOutcome) → Verifies p old new r
    → is_silent r ≡ true → new ≡ old
verdict_silent p old new r (inl (bound, is, accepts)) e =
    bound_silent (record { program = p; bound = bound }) old new r accepts e
verdict_silent p old new r (inr refuses) e = program_silent p old new r refuses e

-- ---- the commands

is_memory : Result Tally HostError → Bool
is_memory (Ok tally) = false
is_memory (Err failure.Memory) = true
is_memory (Err failure.Report) = false
is_memory (Err failure.Frames) = false

-- if memory ran out for the tally of a trace, it ran out for the trace
traced_memory : (ended : Result Traced HostError) → tallied ended ≡ Err failure.Memory
    → ended ≡ Err failure.Memory
unfolding is_memory
traced_memory (Ok traced) e = absurd (false≢true (ap is_memory e))
traced_memory (Err failure.Memory) e = refl
traced_memory (Err failure.Report) e = absurd (false≢true (ap is_memory e))
traced_memory (Err failure.Frames) e = absurd (false≢true (ap is_memory e))

trace_silent : (files : RunFiles) (limit : ℕ) (old new : Option (List ℕ)) (r : Ending)
    → TracesFile files limit old new r → is_silent r.outcome ≡ true → new ≡ old
trace_silent files limit old new r (inl (loads, none)) e = loads_silent _ old new r.outcome loads e
trace_silent files limit old new r (inr (p, is, inl (opens, none))) e =
    opens_silent files old new r.outcome opens
trace_silent files limit old new r (inr (p, is, inr some)) e =
    some.traces.report_untouched
    (traced_memory some.traces.ended (stops_silent _ _ _ _ _ _ r.outcome some.traces.ends e))

run_silent : (files : RunFiles) (old new : Option (List ℕ)) (r : Ending) → RunsFile files old new r
    → is_silent r.outcome ≡ true → new ≡ old
run_silent files old new r (inl (loads, none)) e = loads_silent _ old new r.outcome loads e
run_silent files old new r (inr (p, is, inl (refuses, known))) e =
    program_silent p old new r.outcome refuses e
run_silent files old new r (inr (p, is, inr (bound, verified, runs))) e =
    on_silent files _ old new r runs e

verify_silent : (path : List ℕ) (old new : Option (List ℕ)) (r : Ending)
    → VerifiesFile path old new r → is_silent r.outcome ≡ true → new ≡ old
verify_silent path old new r (inl (loads, none)) e = loads_silent path old new r.outcome loads e
verify_silent path old new r (inr (p, is, (verdict, known))) e =
    verdict_silent p old new r.outcome verdict e

shows_silent : (files : TableFiles) (old new : Option (List ℕ)) (r : Ending)
    → ShowsNone files old new r → is_silent r.outcome ≡ true → new ≡ old
shows_silent files old new r (inl (loads, none)) e = loads_silent _ old new r.outcome loads e
shows_silent files old new r (inr (p, is, inl (reads, none))) e = reads.1
shows_silent files old new r (inr (p, is, inr (bytes, refuses, known))) e =
    table_silent p bytes old new r.outcome refuses e

shown_silent : (files : RunFiles) (table : List ℕ) (old new : Option (List ℕ)) (r : Ending)
    → RunsShown files table old new r → is_silent r.outcome ≡ true → new ≡ old
shown_silent files table old new r (inl shows) e = shows_silent _ old new r shows e
shown_silent files table old new r (inr (v, is, runs)) e = on_silent files v old new r runs e

recheck_silent : (files : TableFiles) (old new : Option (List ℕ)) (r : Ending)
    → RechecksFile files old new r → is_silent r.outcome ≡ true → new ≡ old
recheck_silent files old new r (inl shows) e = shows_silent files old new r shows e
recheck_silent files old new r (inr (v, is, (accepts, none))) e =
    bound_silent v old new r.outcome accepts e

written_silent : (p : Program) (line name : List ℕ)
    (before after old new told_old told_new : Option (List ℕ)) (r : TaskOutcome)
    → StoresTable p line name before after old new told_old told_new r → is_silent r ≡ true
    → new ≡ old
written_silent p line name before after old new told_old told_new r stores e = by stores.ends
  where
    by : (GainsSaid p before stores.handed told_old told_new × Keeps stores.handed after
        × Says old new line outcome.Done r)
        ⊎ ((GainsSaid p before stores.handed told_old told_new × IsBeginningOf after stores.handed
        × IsStoreFailure name r × (new ≡ old))
        ⊎ (BeginsSaid p before stores.handed told_old told_new × IsBeginningOf after stores.handed
        × ((error : WriteTableError) × EndsUnwritten name error old new r))) → new ≡ old
    by (inl (gains, keeps, says)) = absurd (says_loud old new _ _ r refl says e)
    by (inr (inl (gains, begins, fails, same))) = same
    by (inr (inr (begins, part, (error, ends)))) = unwritten_silent name error old new r ends e

prove_silent : (files : TableFiles) (old new : Option (List ℕ)) (r : Ending)
    → ProvesFile files old new r → is_silent r.outcome ≡ true → new ≡ old
prove_silent files old new r (a, b, inl ((loads, none), same)) e =
    loads_silent _ old new r.outcome loads e
prove_silent files old new r (a, b, inr (p, is, (inl (refuses, same), known))) e =
    program_silent p old new r.outcome refuses e
prove_silent files old new r (a, b, inr (p, is, (inr (bound, of, inl (makes, same)), known))) e =
    makes.1
prove_silent files old new r (a, b, inr (p, is, (inr (bound, of, inr some), known))) e =
    written_silent p _ _ _ _ old new a b r.outcome some.stores e

served_silent : (request : TaskRequest) (old new : Option (List ℕ)) (r : Ending)
    → Serves (Some request) old new r → is_silent r.outcome ≡ true → new ≡ old
served_silent (Trace files limit) old new r h e = trace_silent files limit old new r h e
served_silent (Run files None) old new r h e = run_silent files old new r h e
served_silent (Run files (Some table)) old new r h e = shown_silent files table old new r h e
served_silent (Verify path) old new r h e = verify_silent path old new r h e
served_silent (Prove files) old new r h e = prove_silent files old new r h e
served_silent (Recheck files) old new r h e = recheck_silent files old new r h e
served_silent (Assemble text image) old new r h e = assemble_silent text image old new r h e
served_silent (Disassemble path) old new r h e = disassemble_silent path old new r.outcome h.0 e
served_silent (Explain code) old new r (inl none, plain) e = none.1
served_silent (Explain code) old new r (inr (text, is, says), plain) e =
    absurd (says_loud old new _ _ r.outcome refl says e)

-- ---- after standard output was flushed

-- at the end of the program
pub whole_silent : {W : Type 0} (contents : W → Option (List ℕ)) (request : TaskRequest)
    (old : Option (List ℕ)) (given new : PromptWriter W) (ending r : Ending)
    → Serves (Some request) old (held contents given) ending → Flushes contents given new ending r
    → is_silent r.outcome ≡ true → held contents new ≡ old
whole_silent contents request old given new ending r h on e =
    let silent = silent_then new ending r on.ends e in
    ap (held contents) (on.silent silent).0
    ∙ served_silent request old (held contents given) ending h silent
