-- A task that wrote nothing to standard output left it unchanged, and one that wrote something and
-- did not fail has flushed it.
use Rattle.xdpvm.proofs.Common.{◌≡◌, ◌∙◌, ◌≤◌, ℕ, List, Option, Some, None, Result, Ok, Err, true, false, ap, refl, sym, inl, inr, ◌⊎◌, both_ways, PromptWriter, Program, Bounded, HostError, RunFiles, WriteTableError, TaskOutcome, Ending, is_silent, status_of, Flushes, IsFlushed, TellsFailure, Says, Accepts, RefusesImage, RefusesText, StoresImage, EndsUnwritten, EndsTask, EndsBy, FailsBy, outcome_at, LoadsNone, OpensNone, RunsOn, DisassemblesFile, AssemblesFile}
use Rattle.std.specs.declared.io.ErrorKind.{ErrorKind}
use Rattle.host.specs.declared.tallies.Tally.{Tally}
use Rattle.messages.specs.declared.forms.FileForm.{FileForm}
use Rattle.commands.specs.declared.texts.KeptText.{KeptText}
use Rattle.isa_model.specs.declared.streams.Fault.{Fault}
use Rattle.host.specs.declared.errors.HostError.TheVariants as failure
use Rattle.host.specs.declared.noting.Ran.{Ran}
use Rattle.host.specs.InvalidRuns.{tally_ran}
use Rattle.table_entries.specs.declared.errors.WriteTableError.TheVariants as write_error
use Rattle.xdpvm.proofs.StatusesLaws.{write_loud, write_loud_by, write_failed, loud_by_status}

-- a text was said, or a beginning of it
pub says_loud : (old new : Option (List ℕ)) (text : List ℕ) (o r : TaskOutcome)
    → is_silent o ≡ false → Says old new text o r → is_silent r ≡ true → ⊥
says_loud old new text o r loud (inl said) e =
    both_ways (is_silent r) (ap is_silent said.1 ∙ loud) e
says_loud old new text o r loud (inr failed) e = write_loud _ r failed.1 e

-- ---- results on a stream

at_loud : (form : FileForm) (fault : Option (Fault × ℕ)) → is_silent (outcome_at form fault) ≡ false
at_loud form None = refl
at_loud form (Some (fault, at)) = refl

-- a result on a stream after which nothing was written to standard output is that memory ran out
ends_silent : (name : List ℕ) (cause : Option ErrorKind) (form : FileForm)
    (ended : Result Tally HostError) (r : TaskOutcome) → EndsBy name cause form ended r
    → is_silent r ≡ true → ended ≡ Err failure.Memory
ends_silent name cause form (Ok tally) r h e =
    absurd (both_ways (is_silent r) (ap is_silent h ∙ at_loud form tally.fault) e)
ends_silent name cause form (Err failure.Memory) r h e = refl
ends_silent name cause form (Err failure.Report) r h e = absurd (write_loud _ r h e)
ends_silent name cause form (Err failure.Frames) r h e = absurd (write_loud_by name cause r h e)

fails_silent : (name : List ℕ) (cause : Option ErrorKind) (form : FileForm)
    (ended : Result Tally HostError) (r : TaskOutcome) → FailsBy name cause form ended r
    → is_silent r ≡ true → ended ≡ Err failure.Memory
fails_silent name cause form (Ok tally) r h e = absurd (write_loud_by name cause r h e)
fails_silent name cause form (Err error) r h e = ends_silent name cause form (Err error) r h e

-- if nothing was written to standard output, memory ran out
pub stops_silent : (name : List ℕ) (cause : Option ErrorKind) (form : FileForm)
    (ended : Result Tally HostError) (handed got : Option (List ℕ)) (r : TaskOutcome)
    → EndsTask name cause form ended handed got r → is_silent r ≡ true
    → ended ≡ Err failure.Memory
stops_silent name cause form ended handed got r (inl whole) e =
    ends_silent name cause form ended r whole.1 e
stops_silent name cause form ended handed got r (inr part) e =
    fails_silent name cause form ended r part.1 e

-- ---- verdicts and images

image_silent : (bytes : List ℕ) (old new : Option (List ℕ)) (r : TaskOutcome)
    → RefusesImage bytes old new r → is_silent r ≡ true → new ≡ old
image_silent bytes old new r (inl lacks) e = lacks.1
image_silent bytes old new r (inr (error, is, says)) e =
    absurd (says_loud old new _ _ r refl says e)

text_silent : (source : KeptText) (old new : Option (List ℕ)) (r : TaskOutcome)
    → RefusesText source old new r → is_silent r ≡ true → new ≡ old
text_silent source old new r (inl lacks) e = lacks.1
text_silent source old new r (inr (error, is, other, says)) e =
    absurd (says_loud old new _ _ r refl says e)

-- a bound was said, or nothing
pub bound_silent : (v : Bounded) (old new : Option (List ℕ)) (r : TaskOutcome) → Accepts v old new r
    → is_silent r ≡ true → new ≡ old
bound_silent v old new r (inl lacks) e = lacks.1
bound_silent v old new r (inr says) e = absurd (says_loud old new _ _ r refl says e)

stores_silent : (p : Program) (line name : List ℕ) (before after old new : Option (List ℕ))
    (r : TaskOutcome) → StoresImage p line name before after old new r → is_silent r ≡ true
    → new ≡ old
stores_silent p line name before after old new r (inl (written, says)) e =
    absurd (says_loud old new _ _ r refl says e)
stores_silent p line name before after old new r (inr (written, fails, same)) e = same

-- a table that was not written
pub unwritten_silent : (name : List ℕ) (error : WriteTableError) (old new : Option (List ℕ))
    (r : TaskOutcome) → EndsUnwritten name error old new r → is_silent r ≡ true → new ≡ old
unwritten_silent name write_error.Memory old new r lacks e = lacks.1
unwritten_silent name write_error.Explored old new r (inl lacks) e = lacks.1
unwritten_silent name write_error.Explored old new r (inr says) e =
    absurd (says_loud old new _ _ r refl says e)
unwritten_silent name (write_error.Writer kind) old new r (fails, same) e = same

-- ---- files

-- an image that could not be loaded
pub loads_silent : (path : List ℕ) (old new : Option (List ℕ)) (r : TaskOutcome)
    → LoadsNone path old new r → is_silent r ≡ true → new ≡ old
loads_silent path old new r (inl reads) e = reads.1
loads_silent path old new r (inr (bytes, refuses)) e = image_silent bytes old new r refuses e

-- streams that could not be opened
pub opens_silent : (files : RunFiles) (old new : Option (List ℕ)) (r : TaskOutcome)
    → OpensNone files old new r → new ≡ old
opens_silent files old new r (inl reads) = reads.1
opens_silent files old new r (inr makes) = makes.1

-- if memory ran out for the tally of a run, it ran out for the run
ran_memory : (ended : Result Ran HostError) → tally_ran ended ≡ Err failure.Memory
    → ended ≡ Err failure.Memory
ran_memory (Ok ran) e = absurd cc
ran_memory (Err error) e = cc

-- a program with its bound that was run, or the streams could not be opened
pub on_silent : (files : RunFiles) (v : Bounded) (old new : Option (List ℕ)) (r : Ending)
    → RunsOn files v old new r → is_silent r.outcome ≡ true → new ≡ old
on_silent files v old new r (inl (opens, none)) e = opens_silent files old new r.outcome opens
on_silent files v old new r (inr some) e =
    some.runs.report_untouched
    (ran_memory some.runs.ended (stops_silent _ _ _ _ _ _ r.outcome some.runs.ends e))

-- an image whose text was written
pub disassemble_silent : (path : List ℕ) (old new : Option (List ℕ)) (r : TaskOutcome)
    → DisassemblesFile path old new r → is_silent r ≡ true → new ≡ old
disassemble_silent path old new r (inl loads) e = loads_silent path old new r loads e
disassemble_silent path old new r (inr (p, is, says)) e =
    absurd (says_loud old new _ _ r refl says e)

-- a text whose image was made
pub assemble_silent : (text image : List ℕ) (old new : Option (List ℕ)) (r : Ending)
    → AssemblesFile text image old new r → is_silent r.outcome ≡ true → new ≡ old
assemble_silent text image old new r (inl (reads, none)) e = reads.1
assemble_silent text image old new r (inr (source, inl (inl (reads, none)))) e = reads.1
assemble_silent text image old new r (inr (source, inl (inr (refuses, known)))) e =
    text_silent source old new r.outcome refuses e
assemble_silent text image old new r (inr (source, inr ((p, is, inl makes), none))) e = makes.1
assemble_silent text image old new r (inr (source, inr ((p, is, inr some), none))) e =
    stores_silent p _ image _ _ old new r.outcome some.stores e

-- ---- after standard output was flushed

-- what is silent after the flush was so before
pub silent_then : {W : Type 0} (out : PromptWriter W) (ending r : Ending)
    → ((is_silent ending.outcome ≡ false → IsFlushed out) × (r ≡ ending)) ⊎ TellsFailure out r
    → is_silent r.outcome ≡ true → is_silent ending.outcome ≡ true
silent_then out ending r (inl kept) e = ap (λ (x : Ending). is_silent x.outcome) (sym kept.1) ∙ e
silent_then out ending r (inr failed) e = absurd (write_loud_by _ _ r.outcome failed.told e)

-- if something was written to standard output, and it did not fail, then it was flushed
loud_then : {W : Type 0} (out : PromptWriter W) (ending r : Ending)
    → ((is_silent ending.outcome ≡ false → IsFlushed out) × (r ≡ ending)) ⊎ TellsFailure out r
    → status_of r.outcome ≤ 3 → (status_of r.outcome ≡ 1 → ⊥) → IsFlushed out
loud_then out ending r (inl kept) most apart =
    kept.0
    (ap (λ (x : Ending). is_silent x.outcome) (sym kept.1) ∙ loud_by_status r.outcome most apart)
loud_then out ending r (inr failed) most apart =
    absurd (write_failed _ _ r.outcome failed.told most)

-- at status 0, 2 and 3 all output was written through the buffer
pub whole_handed_on : {W : Type 0} (contents : W → Option (List ℕ)) (given new : PromptWriter W)
    (ending r : Ending) → Flushes contents given new ending r
    → status_of r.outcome ≤ 3 → (status_of r.outcome ≡ 1 → ⊥) → IsFlushed new
whole_handed_on contents given new ending r on most apart =
    loud_then new ending r on.ends most apart
