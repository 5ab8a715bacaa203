-- What the lines at the end of a message say.
use Rattle.xdpvm.proofs.Common.{◌≡◌, ℕ, List, Option, Some, None, String, Result, Ok, Err, false, subst, sym, inl, inr, ◌⊎◌, IfSome, string_bytes, PromptWriter, held, Program, Bounded, TaskRequest, RunFiles, TableFiles, Trace, Run, Verify, Prove, Recheck, Assemble, Disassemble, Explain, HostError, TaskOutcome, Done, WrongWords, Refused, Faulted, CannotRead, CannotWrite, CannotReplace, NoMemory, Ending, TellsText, Tells, TellsTable, Flushes, IsFlushed, TellsFailure, is_silent, Serves, RunsOn, at_end}
use Rattle.std.specs.declared.alloc.Global.{Global}
use Rattle.commands.specs.declared.texts.KeptText.{KeptText}
use Rattle.commands.specs.Commands.{ShowsNone}
use Rattle.messages.specs.InvalidRuns.{TellsInvalid, TellsInvalidOf, invalid_lines}
use Rattle.messages.specs.Stopped.{TellsStopsOf, stop_lines}
use Rattle.host.specs.declared.invalid.InvalidFrame.{InvalidFrame}
use Rattle.host.specs.declared.noting.Ran.{Ran}
use Rattle.host.specs.declared.stops.Stops.{Stops}
use Rattle.host.specs.declared.traced.Traced.{Traced}
use Rattle.host.specs.Stops.{noted_of}

-- nothing, or what is known of some program, of some table of a program, or of some program text
abbrev pub Knows : TaskOutcome → Option (String Global) → Type 0
Knows o why = (why ≡ None)
    ⊎ (((p : Program) × Tells p o why)
    ⊎ (((p : Program) × (bytes : List ℕ) × TellsTable p bytes o why)
    ⊎ ((source : KeptText) × TellsText source o why)))

-- what is known if no bound was shown
none_knows : (files : TableFiles) (old new : Option (List ℕ)) (r : Ending)
    → ShowsNone files old new r → Knows r.outcome r.why
none_knows files old new r (inl h) = inl h.1
none_knows files old new r (inr (p, is, inl h)) = inl h.1
none_knows files old new r (inr (p, is, inr (bytes, refused, known))) =
    inr (inr (inl (p, bytes, known)))

-- the report was completed
abbrev pub IsCompleted : TaskOutcome → Type 0
IsCompleted Done = Unit {0}
IsCompleted (Faulted fault form) = Unit {0}
IsCompleted o = ⊥

-- where runs stopped, after a trace whose report was completed
abbrev pub KnowsStops : TaskOutcome → Option (String Global) → Type 0
KnowsStops o why = IsCompleted o
    × ((stops : Stops) × IfSome why (λ text. string_bytes text ≡ stop_lines (noted_of stops)))

-- which runs ended with INVALID, after a run whose report was completed
abbrev pub KnowsInvalid : TaskOutcome → Option (String Global) → Type 0
KnowsInvalid o why = IsCompleted o
    × ((first : InvalidFrame) × (count : ℕ)
    × IfSome why (λ text. string_bytes text ≡ invalid_lines first count))

-- what is known after this request
abbrev pub KnowsBy : TaskRequest → TaskOutcome → Option (String Global) → Type 0
KnowsBy (Trace files limit) o why = Knows o why ⊎ KnowsStops o why
KnowsBy (Run files table) o why = Knows o why ⊎ KnowsInvalid o why
KnowsBy (Verify path) o why = Knows o why
KnowsBy (Prove files) o why = Knows o why
KnowsBy (Recheck files) o why = Knows o why
KnowsBy (Assemble text image) o why = Knows o why
KnowsBy (Disassemble path) o why = Knows o why
KnowsBy (Explain code) o why = Knows o why

plain_knows : (request : TaskRequest) (o : TaskOutcome) (why : Option (String Global)) → why ≡ None
    → KnowsBy request o why
plain_knows (Trace files limit) o why h = inl (inl h)
plain_knows (Run files table) o why h = inl (inl h)
plain_knows (Verify path) o why h = inl h
plain_knows (Prove files) o why h = inl h
plain_knows (Recheck files) o why h = inl h
plain_knows (Assemble text image) o why h = inl h
plain_knows (Disassemble path) o why h = inl h
plain_knows (Explain code) o why h = inl h

lines_known : (ended : Result Traced HostError) (o : TaskOutcome) (lines : Option (String Global))
    → IsCompleted o → TellsStopsOf ended lines → Knows o lines ⊎ KnowsStops o lines
lines_known (Ok traced) o lines end tells = inr (end, (traced.stops, tells.1))
lines_known (Err error) o lines end tells = inl (inl tells)

-- lines that are kept only where the report was completed
kept_known : (K : TaskOutcome → Option (String Global) → Type 0) (o : TaskOutcome)
    (lines why : Option (String Global)) → (IsCompleted o → Knows o lines ⊎ K o lines)
    → why ≡ at_end o lines → Knows o why ⊎ K o why
kept_known K Done lines why known is =
    subst (λ (w : Option (String Global)). Knows Done w ⊎ K Done w) (sym is) (known tt)
kept_known K (Faulted fault form) lines why known is =
    subst (λ (w : Option (String Global)). Knows (Faulted fault form) w
    ⊎ K (Faulted fault form) w) (sym is) (known tt)
kept_known K (WrongWords message) lines why known is = inl (inl is)
kept_known K (Refused rejection) lines why known is = inl (inl is)
kept_known K (CannotRead path kind) lines why known is = inl (inl is)
kept_known K (CannotWrite path cause) lines why known is = inl (inl is)
kept_known K (CannotReplace path conflict) lines why known is = inl (inl is)
kept_known K NoMemory lines why known is = inl (inl is)

stops_known : (ended : Result Traced HostError) (o : TaskOutcome)
    (lines why : Option (String Global)) → TellsStopsOf ended lines → why ≡ at_end o lines
    → Knows o why ⊎ KnowsStops o why
stops_known ended o lines why tells is =
    kept_known KnowsStops o lines why (λ end. lines_known ended o lines end tells) is

first_known : (first : Option InvalidFrame) (count : ℕ) (o : TaskOutcome)
    (lines : Option (String Global)) → IsCompleted o → TellsInvalid first count lines
    → Knows o lines ⊎ KnowsInvalid o lines
first_known None count o lines end tells = inl (inl tells)
first_known (Some first) count o lines end tells = inr (end, (first, count, tells))

ran_known : (ended : Result Ran HostError) (o : TaskOutcome) (lines : Option (String Global))
    → IsCompleted o → TellsInvalidOf ended lines → Knows o lines ⊎ KnowsInvalid o lines
ran_known (Ok ran) o lines end tells =
    first_known ran.invalid.first ran.invalid.count o lines end tells
ran_known (Err error) o lines end tells = inl (inl tells)

-- what is known after a program with its bound was run
run_knows : (files : RunFiles) (v : Bounded) (old new : Option (List ℕ)) (r : Ending)
    → RunsOn files v old new r → Knows r.outcome r.why ⊎ KnowsInvalid r.outcome r.why
run_knows files v old new r (inl h) = inl (inl h.1)
run_knows files v old new r (inr some) =
    kept_known KnowsInvalid r.outcome some.runs.lines r.why
    (λ end. ran_known some.runs.ended r.outcome some.runs.lines end some.runs.tells) some.runs.why

served_knows : (request : TaskRequest) (old new : Option (List ℕ)) (r : Ending)
    → Serves (Some request) old new r → KnowsBy request r.outcome r.why
served_knows (Trace files limit) old new r (inl h) = inl (inl h.1)
served_knows (Trace files limit) old new r (inr (p, is, inl h)) = inl (inl h.1)
served_knows (Trace files limit) old new r (inr (p, is, inr some)) =
    stops_known some.traces.ended r.outcome some.traces.lines r.why some.traces.tells
    some.traces.why
served_knows (Run files None) old new r (inl h) = inl (inl h.1)
served_knows (Run files None) old new r (inr (p, is, inl (refused, known))) =
    inl (inr (inl (p, known)))
served_knows (Run files None) old new r (inr (p, is, inr (bound, of, runs))) =
    run_knows files _ old new r runs
served_knows (Run files (Some table)) old new r (inl h) = inl (none_knows _ old new r h)
served_knows (Run files (Some table)) old new r (inr (v, is, runs)) =
    run_knows files v old new r runs
served_knows (Verify path) old new r (inl h) = inl h.1
served_knows (Verify path) old new r (inr (p, is, h)) = inr (inl (p, h.1))
served_knows (Prove files) old new r (a, b, inl h) = inl h.0.1
served_knows (Prove files) old new r (a, b, inr (p, is, h)) = inr (inl (p, h.1))
served_knows (Recheck files) old new r (inl h) = none_knows files old new r h
served_knows (Recheck files) old new r (inr (v, is, h)) = inl h.1
served_knows (Assemble text image) old new r (inl h) = inl h.1
served_knows (Assemble text image) old new r (inr (source, inl (inl h))) = inl h.1
served_knows (Assemble text image) old new r (inr (source, inl (inr (ends, known)))) =
    inr (inr (inr (source, known)))
served_knows (Assemble text image) old new r (inr (source, inr h)) = inl h.1
served_knows (Disassemble path) old new r h = inl h.1
served_knows (Explain code) old new r h = inl h.1

-- if standard output failed at the end, nothing else is known
knows_then : {W : Type 0} (request : TaskRequest) (out : PromptWriter W) (ending r : Ending)
    → KnowsBy request ending.outcome ending.why
    → ((is_silent ending.outcome ≡ false → IsFlushed out) × (r ≡ ending)) ⊎ TellsFailure out r
    → KnowsBy request r.outcome r.why
knows_then request out ending r k (inl kept) =
    subst (λ (e : Ending). KnowsBy request e.outcome e.why) (sym kept.1) k
knows_then request out ending r k (inr failed) = plain_knows request r.outcome r.why failed.plain

pub whole_knows : {W : Type 0} (contents : W → Option (List ℕ)) (request : TaskRequest)
    (old : Option (List ℕ)) (given new : PromptWriter W) (ending r : Ending)
    → Serves (Some request) old (held contents given) ending → Flushes contents given new ending r
    → KnowsBy request r.outcome r.why
whole_knows contents request old given new ending r h on =
    knows_then request new ending r (served_knows request old (held contents given) ending h)
    on.ends
