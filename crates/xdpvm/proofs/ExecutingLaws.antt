-- What a status says of what standard error got.
use Rattle.xdpvm.proofs.Common.{◌≡◌, ℕ, List, ◌++◌, subst, Option, Some, None, String, true, ap, refl, sym, inl, inr, ◌⊎◌, arith, IfSome, string_bytes, false≢true, TaskOutcome, Done, WrongWords, Refused, Faulted, CannotRead, CannotWrite, CannotReplace, NoMemory, WordsError, Wrong, NotUnicode, Memory, status_of, is_unsaid, message_of, IsWordsEnd, AppendsPart, outcome_text, with_code, TaskRequest, RunFiles, Trace, Run, Verify, Prove, Recheck, Assemble, Disassemble, Explain, asked, IsTold, TellsDone, TellsFault}
use Rattle.std.specs.declared.alloc.Global.{Global}
use Rattle.messages.specs.declared.forms.FileForm.{FileForm}
use Rattle.messages.specs.InvalidRuns.{invalid_lines}
use Rattle.messages.specs.Stopped.{stop_lines}
use Rattle.std.proofs.lemmas.Option.{none-some}
use Rattle.messages.specs.declared.rejections.Rejection.TheVariants as rejection
use Rattle.xdpvm.proofs.StatusesLaws.{silent_words, silent_memory, status_fits, unsaid_done}
use Rattle.isa_model.specs.declared.streams.Fault.{Fault}
use Rattle.host.specs.Stops.{noted_of}
use Rattle.messages.specs.Faults.{fault_lines}
use Rattle.xdpvm.proofs.Knowing.{IsCompleted, Knows, KnowsBy, KnowsInvalid, KnowsStops}

pub told_refused : (o : TaskOutcome) (why : Option (String Global)) (old new : Option (List ℕ))
    → Knows o why → status_of o ≡ 2 → AppendsPart old new (with_code o (outcome_text o why)) → IsTold old new
told_refused Done why old new k e h = absurd (omega arith)
told_refused (WrongWords message) why old new k e h = absurd (omega arith)
told_refused (Refused rejected) None old new k e h = inl (rejected, h)
told_refused (Refused rejected) (Some text) old new (inl none) e h =
    absurd (none-some text (sym none))
told_refused (Refused (rejection.Image error form)) (Some text) old new (inr (inl (p, none))) e h =
    absurd (none-some text (sym none))
told_refused (Refused (rejection.Image error form)) (Some text) old new
    (inr (inr (inl (p, bytes, none)))) e h = absurd (none-some text (sym none))
told_refused (Refused (rejection.Image error form)) (Some text) old new
    (inr (inr (inr (source, none)))) e h = absurd (none-some text (sym none))
told_refused (Refused rejection.Explored) (Some text) old new (inr (inl (p, none))) e h =
    absurd (none-some text (sym none))
told_refused (Refused rejection.Explored) (Some text) old new
    (inr (inr (inl (p, bytes, none)))) e h = absurd (none-some text (sym none))
told_refused (Refused rejection.Explored) (Some text) old new (inr (inr (inr (source, none)))) e h =
    absurd (none-some text (sym none))
told_refused (Refused (rejection.Maps error)) (Some text) old new (inr (inl (p, none))) e h =
    absurd (none-some text (sym none))
told_refused (Refused (rejection.Maps error)) (Some text) old new
    (inr (inr (inl (p, bytes, none)))) e h = absurd (none-some text (sym none))
told_refused (Refused (rejection.Maps error)) (Some text) old new
    (inr (inr (inr (source, none)))) e h = absurd (none-some text (sym none))
told_refused (Refused (rejection.Text error)) (Some text) old new (inr (inl (p, none))) e h =
    absurd (none-some text (sym none))
told_refused (Refused (rejection.Text error)) (Some text) old new
    (inr (inr (inl (p, bytes, none)))) e h = absurd (none-some text (sym none))
told_refused (Refused (rejection.Text error)) (Some text) old new
    (inr (inr (inr (source, is)))) e h =
    inr (inr (inr (record {
      source = source;
      error = error;
      why = string_bytes text;
      known = is;
      said = h;
    })))
told_refused (Refused (rejection.Program refusal slot insn)) (Some text) old new
    (inr (inl (p, is))) e h =
    inr (inl (record {
      program = p;
      refusal = refusal;
      slot = slot;
      insn = insn;
      why = string_bytes text;
      known = is;
      said = h;
    }))
told_refused (Refused (rejection.Program refusal slot insn)) (Some text) old new
    (inr (inr (inl (p, bytes, none)))) e h = absurd (none-some text (sym none))
told_refused (Refused (rejection.Program refusal slot insn)) (Some text) old new
    (inr (inr (inr (source, none)))) e h = absurd (none-some text (sym none))
told_refused (Refused (rejection.Table error position)) (Some text) old new
    (inr (inl (p, none))) e h =
    absurd (none-some text (sym none))
told_refused (Refused (rejection.Table error None)) (Some text) old new
    (inr (inr (inl (p, bytes, none)))) e h = absurd (none-some text (sym none))
told_refused (Refused (rejection.Table error None)) (Some text) old new
    (inr (inr (inr (source, none)))) e h = absurd (none-some text (sym none))
told_refused (Refused (rejection.Table error (Some (slot, insn)))) (Some text) old new
    (inr (inr (inl (p, bytes, is)))) e h =
    inr (inr (inl (record {
      program = p;
      bytes = bytes;
      error = error;
      slot = slot;
      insn = insn;
      why = string_bytes text;
      known = is;
      said = h;
    })))
told_refused (Refused (rejection.Table error (Some (slot, insn)))) (Some text) old new
    (inr (inr (inr (source, none)))) e h = absurd (none-some text (sym none))
told_refused (Faulted fault form) why old new k e h = absurd (omega arith)
told_refused (CannotRead path kind) why old new k e h = absurd (omega arith)
told_refused (CannotWrite path cause) why old new k e h = absurd (omega arith)
told_refused (CannotReplace path conflict) why old new k e h = absurd (omega arith)
told_refused NoMemory why old new k e h = absurd (omega arith)

-- arguments that ask for nothing are not refused
pub words_plain : (error : WordsError) (o : TaskOutcome) (text : List ℕ) → IsWordsEnd error o
    → with_code o text ≡ text
words_plain Memory o text h = ap (λ (e : TaskOutcome). with_code e text) h
words_plain (Wrong said) (WrongWords message) text h = refl
words_plain (Wrong said) Done text h = refl
words_plain (Wrong said) (Refused rejected) text h = absurd h
words_plain (Wrong said) (Faulted fault form) text h = refl
words_plain (Wrong said) (CannotRead path kind) text h = refl
words_plain (Wrong said) (CannotWrite path cause) text h = refl
words_plain (Wrong said) (CannotReplace path conflict) text h = refl
words_plain (Wrong said) NoMemory text h = refl
words_plain NotUnicode (WrongWords message) text h = refl
words_plain NotUnicode Done text h = refl
words_plain NotUnicode (Refused rejected) text h = absurd h
words_plain NotUnicode (Faulted fault form) text h = refl
words_plain NotUnicode (CannotRead path kind) text h = refl
words_plain NotUnicode (CannotWrite path cause) text h = refl
words_plain NotUnicode (CannotReplace path conflict) text h = refl
words_plain NotUnicode NoMemory text h = refl

-- a task without a message on standard error has no lines for its end
pub unsaid_knows : (o : TaskOutcome) (why : Option (String Global)) → Knows o why
    → is_unsaid o ≡ true → why ≡ None
unsaid_knows o why (inl none) e = none
unsaid_knows Done why (inr (inl (p, none))) e = none
unsaid_knows Done why (inr (inr (inl (p, bytes, none)))) e = none
unsaid_knows Done why (inr (inr (inr (source, none)))) e = none
unsaid_knows (WrongWords message) why (inr (inl (p, none))) e = none
unsaid_knows (WrongWords message) why (inr (inr (inl (p, bytes, none)))) e = none
unsaid_knows (WrongWords message) why (inr (inr (inr (source, none)))) e = none
unsaid_knows (Refused rejected) why (inr k) e = absurd (false≢true e)
unsaid_knows (Faulted fault form) why (inr (inl (p, none))) e = none
unsaid_knows (Faulted fault form) why (inr (inr (inl (p, bytes, none)))) e = none
unsaid_knows (Faulted fault form) why (inr (inr (inr (source, none)))) e = none
unsaid_knows (CannotRead path kind) why (inr (inl (p, none))) e = none
unsaid_knows (CannotRead path kind) why (inr (inr (inl (p, bytes, none)))) e = none
unsaid_knows (CannotRead path kind) why (inr (inr (inr (source, none)))) e = none
unsaid_knows (CannotWrite path cause) why (inr (inl (p, none))) e = none
unsaid_knows (CannotWrite path cause) why (inr (inr (inl (p, bytes, none)))) e = none
unsaid_knows (CannotWrite path cause) why (inr (inr (inr (source, none)))) e = none
unsaid_knows (CannotReplace path conflict) why (inr (inl (p, none))) e = none
unsaid_knows (CannotReplace path conflict) why (inr (inr (inl (p, bytes, none)))) e = none
unsaid_knows (CannotReplace path conflict) why (inr (inr (inr (source, none)))) e = none
unsaid_knows NoMemory why (inr (inl (p, none))) e = none
unsaid_knows NoMemory why (inr (inr (inl (p, bytes, none)))) e = none
unsaid_knows NoMemory why (inr (inr (inr (source, none)))) e = none

pub told_faulted : (o : TaskOutcome) (why : Option (String Global)) (old new : Option (List ℕ))
    → Knows o why → status_of o ≡ 3 → AppendsPart old new (with_code o (outcome_text o why)) → TellsFault old new
told_faulted Done why old new k e h = absurd (omega arith)
told_faulted (WrongWords message) why old new k e h = absurd (omega arith)
told_faulted (Refused rejected) why old new k e h = absurd (omega arith)
told_faulted (Faulted fault form) None old new k e h = (fault, form, inl h)
told_faulted (Faulted fault form) (Some text) old new (inl none) e h =
    absurd (none-some text (sym none))
told_faulted (Faulted fault form) (Some text) old new (inr (inl (p, none))) e h =
    absurd (none-some text (sym none))
told_faulted (Faulted fault form) (Some text) old new (inr (inr (inl (p, bytes, none)))) e h =
    absurd (none-some text (sym none))
told_faulted (Faulted fault form) (Some text) old new (inr (inr (inr (source, none)))) e h =
    absurd (none-some text (sym none))
told_faulted (CannotRead path kind) why old new k e h = absurd (omega arith)
told_faulted (CannotWrite path cause) why old new k e h = absurd (omega arith)
told_faulted (CannotReplace path conflict) why old new k e h = absurd (omega arith)
told_faulted NoMemory why old new k e h = absurd (omega arith)

pub faulted_plain : (o : TaskOutcome) (old new : Option (List ℕ)) → status_of o ≡ 3
    → AppendsPart old new (message_of o) → TellsFault old new
faulted_plain Done old new e h = absurd (omega arith)
faulted_plain (WrongWords message) old new e h = absurd (omega arith)
faulted_plain (Refused rejected) old new e h = absurd (omega arith)
faulted_plain (Faulted fault form) old new e h = (fault, form, inl h)
faulted_plain (CannotRead path kind) old new e h = absurd (omega arith)
faulted_plain (CannotWrite path cause) old new e h = absurd (omega arith)
faulted_plain (CannotReplace path conflict) old new e h = absurd (omega arith)
faulted_plain NoMemory old new e h = absurd (omega arith)

-- ---- by the request

-- a task whose report was completed is not refused
unrefused : (o : TaskOutcome) → IsCompleted o → status_of o ≡ 2 → ⊥
unrefused Done end e = omega arith
unrefused (Faulted fault form) end e = omega arith
unrefused (WrongWords message) end e = end
unrefused (Refused rejected) end e = end
unrefused (CannotRead path kind) end e = end
unrefused (CannotWrite path cause) end e = end
unrefused (CannotReplace path conflict) end e = end
unrefused NoMemory end e = end

pub refused_by : (request : TaskRequest) (o : TaskOutcome) (why : Option (String Global))
    (old new : Option (List ℕ)) → KnowsBy request o why → status_of o ≡ 2
    → AppendsPart old new (with_code o (outcome_text o why)) → IsTold old new
refused_by (Trace files limit) o why old new (inl k) e h = told_refused o why old new k e h
refused_by (Trace files limit) o why old new (inr k) e h = absurd (unrefused o k.0 e)
refused_by (Run files table) o why old new (inl k) e h = told_refused o why old new k e h
refused_by (Run files table) o why old new (inr k) e h = absurd (unrefused o k.0 e)
refused_by (Verify path) o why old new k e h = told_refused o why old new k e h
refused_by (Prove files) o why old new k e h = told_refused o why old new k e h
refused_by (Recheck files) o why old new k e h = told_refused o why old new k e h
refused_by (Assemble text image) o why old new k e h = told_refused o why old new k e h
refused_by (Disassemble path) o why old new k e h = told_refused o why old new k e h
refused_by (Explain code) o why old new k e h = told_refused o why old new k e h

-- why a frame stream ended early, and these lines, or not
abbrev SaysFault : List ℕ → Option (List ℕ) → Option (List ℕ) → Type 0
SaysFault lines old new =
    (fault : Fault) × (form : FileForm)
    × (AppendsPart old new (fault_lines fault form)
    ⊎ AppendsPart old new (fault_lines fault form ++ lines))

says_fault : (o : TaskOutcome) (why : Option (String Global)) (lines : List ℕ)
    (old new : Option (List ℕ)) → IsCompleted o → IfSome why (λ text. string_bytes text ≡ lines)
    → status_of o ≡ 3 → AppendsPart old new (with_code o (outcome_text o why))
    → SaysFault lines old new
says_fault (Faulted fault form) None lines old new end is e h = (fault, form, inl h)
says_fault (Faulted fault form) (Some text) lines old new end is e h = (
  fault,
  form,
  inr (subst (λ (l : List ℕ). AppendsPart old new (fault_lines fault form ++ l)) is h),
)
says_fault Done why lines old new end is e h = absurd (omega arith)
says_fault (WrongWords message) why lines old new end is e h = absurd end
says_fault (Refused rejected) why lines old new end is e h = absurd end
says_fault (CannotRead path kind) why lines old new end is e h = absurd end
says_fault (CannotWrite path cause) why lines old new end is e h = absurd end
says_fault (CannotReplace path conflict) why lines old new end is e h = absurd end
says_fault NoMemory why lines old new end is e h = absurd end

stopped_faulted : (o : TaskOutcome) (why : Option (String Global)) (old new : Option (List ℕ))
    → KnowsStops o why → status_of o ≡ 3 → AppendsPart old new (with_code o (outcome_text o why))
    → TellsFault old new
stopped_faulted o why old new (end, (stops, is)) e h =
    by (says_fault o why (stop_lines (noted_of stops)) old new end is e h)
  where
    by : SaysFault (stop_lines (noted_of stops)) old new → TellsFault old new
    by (fault, form, inl said) = (fault, form, inl said)
    by (fault, form, inr said) = (fault, form, inr (inl (noted_of stops, said)))

invalid_faulted : (o : TaskOutcome) (why : Option (String Global)) (old new : Option (List ℕ))
    → KnowsInvalid o why → status_of o ≡ 3
    → AppendsPart old new (with_code o (outcome_text o why)) → TellsFault old new
invalid_faulted o why old new (end, (first, count, is)) e h =
    by (says_fault o why (invalid_lines first count) old new end is e h)
  where
    by : SaysFault (invalid_lines first count) old new → TellsFault old new
    by (fault, form, inl said) = (fault, form, inl said)
    by (fault, form, inr said) = (fault, form, inr (inr (first, count, said)))

pub faulted_by : (request : TaskRequest) (o : TaskOutcome) (why : Option (String Global))
    (old new : Option (List ℕ)) → KnowsBy request o why → status_of o ≡ 3
    → AppendsPart old new (with_code o (outcome_text o why)) → TellsFault old new
faulted_by (Trace files limit) o why old new (inl k) e h = told_faulted o why old new k e h
faulted_by (Trace files limit) o why old new (inr k) e h = stopped_faulted o why old new k e h
faulted_by (Run files table) o why old new (inl k) e h = told_faulted o why old new k e h
faulted_by (Run files table) o why old new (inr k) e h = invalid_faulted o why old new k e h
faulted_by (Verify path) o why old new k e h = told_faulted o why old new k e h
faulted_by (Prove files) o why old new k e h = told_faulted o why old new k e h
faulted_by (Recheck files) o why old new k e h = told_faulted o why old new k e h
faulted_by (Assemble text image) o why old new k e h = told_faulted o why old new k e h
faulted_by (Disassemble path) o why old new k e h = told_faulted o why old new k e h
faulted_by (Explain code) o why old new k e h = told_faulted o why old new k e h

-- a task that did everything, without a message on standard error
quiet : (words : List (List ℕ)) (o : TaskOutcome) (why : Option (String Global))
    (old new : Option (List ℕ)) → Knows o why → status_of o ≡ 0
    → (is_unsaid o ≡ true → why ≡ None → new ≡ old) → TellsDone words old new
quiet words o why old new k e unsaid =
    let none = unsaid_done o e in inl (unsaid none (unsaid_knows o why k none))

-- nothing, or these lines
says_done : (o : TaskOutcome) (why : Option (String Global)) (lines : List ℕ)
    (old new : Option (List ℕ)) → IsCompleted o → IfSome why (λ text. string_bytes text ≡ lines)
    → status_of o ≡ 0 → (is_unsaid o ≡ true → why ≡ None → new ≡ old)
    → AppendsPart old new (with_code o (outcome_text o why))
    → (new ≡ old) ⊎ AppendsPart old new lines
says_done Done None lines old new end is e unsaid h = inl (unsaid refl refl)
says_done Done (Some text) lines old new end is e unsaid h =
    inr (subst (AppendsPart old new) is h)
says_done (Faulted fault form) why lines old new end is e unsaid h = absurd (omega arith)
says_done (WrongWords message) why lines old new end is e unsaid h = absurd end
says_done (Refused rejected) why lines old new end is e unsaid h = absurd end
says_done (CannotRead path kind) why lines old new end is e unsaid h = absurd end
says_done (CannotWrite path cause) why lines old new end is e unsaid h = absurd end
says_done (CannotReplace path conflict) why lines old new end is e unsaid h = absurd end
says_done NoMemory why lines old new end is e unsaid h = absurd end

stopped_done : (words : List (List ℕ)) (files : RunFiles) (limit : ℕ) (o : TaskOutcome)
    (why : Option (String Global)) (old new : Option (List ℕ))
    → asked words ≡ Some (Trace files limit) → KnowsStops o why → status_of o ≡ 0
    → (is_unsaid o ≡ true → why ≡ None → new ≡ old) → AppendsPart old new (with_code o (outcome_text o why))
    → TellsDone words old new
stopped_done words files limit o why old new is (end, (stops, lines)) e unsaid h =
    by (says_done o why (stop_lines (noted_of stops)) old new end lines e unsaid h)
  where
    by : (new ≡ old) ⊎ AppendsPart old new (stop_lines (noted_of stops)) → TellsDone words old new
    by (inl same) = inl same
    by (inr said) = inr (inl (record {
      files = files;
      limit = limit;
      is_asked = is;
      noted = noted_of stops;
      said = said;
    }))

invalid_done : (words : List (List ℕ)) (files : RunFiles) (table : Option (List ℕ))
    (o : TaskOutcome) (why : Option (String Global)) (old new : Option (List ℕ))
    → asked words ≡ Some (Run files table) → KnowsInvalid o why → status_of o ≡ 0
    → (is_unsaid o ≡ true → why ≡ None → new ≡ old) → AppendsPart old new (with_code o (outcome_text o why))
    → TellsDone words old new
invalid_done words files table o why old new is (end, (first, count, lines)) e unsaid h =
    by (says_done o why (invalid_lines first count) old new end lines e unsaid h)
  where
    by : (new ≡ old) ⊎ AppendsPart old new (invalid_lines first count) → TellsDone words old new
    by (inl same) = inl same
    by (inr said) = inr (inr (record {
      files = files;
      table = table;
      is_asked = is;
      first = first;
      count = count;
      said = said;
    }))

pub done_by : (words : List (List ℕ)) (request : TaskRequest) (o : TaskOutcome)
    (why : Option (String Global)) (old new : Option (List ℕ)) → asked words ≡ Some request
    → KnowsBy request o why → status_of o ≡ 0
    → (is_unsaid o ≡ true → why ≡ None → new ≡ old) → AppendsPart old new (with_code o (outcome_text o why))
    → TellsDone words old new
done_by words (Trace files limit) o why old new is (inl k) e unsaid h =
    quiet words o why old new k e unsaid
done_by words (Trace files limit) o why old new is (inr k) e unsaid h =
    stopped_done words files limit o why old new is k e unsaid h
done_by words (Run files table) o why old new is (inl k) e unsaid h =
    quiet words o why old new k e unsaid
done_by words (Run files table) o why old new is (inr k) e unsaid h =
    invalid_done words files table o why old new is k e unsaid h
done_by words (Verify path) o why old new is k e unsaid h = quiet words o why old new k e unsaid
done_by words (Prove files) o why old new is k e unsaid h = quiet words o why old new k e unsaid
done_by words (Recheck files) o why old new is k e unsaid h = quiet words o why old new k e unsaid
done_by words (Assemble text image) o why old new is k e unsaid h =
    quiet words o why old new k e unsaid
done_by words (Disassemble path) o why old new is k e unsaid h =
    quiet words o why old new k e unsaid
done_by words (Explain code) o why old new is k e unsaid h = quiet words o why old new k e unsaid

-- arguments that ask for nothing
pub done_plain : (words : List (List ℕ)) (o : TaskOutcome) (old new : Option (List ℕ))
    → status_of o ≡ 0 → (is_unsaid o ≡ true → new ≡ old) → TellsDone words old new
done_plain words o old new e unsaid = inl (unsaid (unsaid_done o e))

-- what each status says
pub ruleset statuses =
    (silent_words, silent_memory, status_fits, unsaid_done, faulted_plain)
