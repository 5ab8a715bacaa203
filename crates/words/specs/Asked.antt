-- What the arguments on the command line ask for.
use Rattle.std.specs.Prelude.{◌≡◌, ℕ, Bool, ◌&&◌, List, [], ◌∷◌, Option, Some, None, Result, Ok, Err, codes, length, nat_le, nat_lt, if◌then◌else◌, option_map, option_and_then}
use Rattle.std.specs.List.{list_all}
use Rattle.std.specs.Char.{is_ascii_digit}
use Rattle.std.specs.Str.{bytes_eq}
use Rattle.std.specs.Str.Parse.{digits_value}
use Rattle.clap.specs.Kinds.{Kinds}
use Rattle.clap.specs.Walk.{Row, first_of}
use Rattle.clap.specs.Simple.{subcommand_of}
use Rattle.clap.specs.Faults.{fault_of}
use Rattle.words.specs.declared.tasks.Task.{Task}
use Rattle.words.specs.declared.tasks.WordsError.{WordsError}
use Rattle.words.specs.declared.tasks.WordsError.TheVariants.{Wrong, NotUnicode, Memory}
use Rattle.words.specs.Requests.{TaskRequest, RunFiles, TableFiles, Trace, Run, Verify, Prove, Recheck, Assemble, Disassemble, Explain, request_of}
use Rattle.isa_model.specs.Code.Limits.{max_steps}
use Rattle.words.specs.CommandLine.{program}

-- ---- what the arguments of a command ask for

-- the files of `run` or `trace`
abbrev pub files_in : List Row → Option RunFiles
files_in rows =
    option_and_then
    (λ image. option_and_then
    (λ frames. option_map (λ out. record { image = image; frames = frames; out = out })
    (first_of (codes "out") rows)) (first_of (codes "frames") rows)) (first_of (codes "image") rows)

-- the image and the proof table of `prove` or `recheck`
abbrev pub table_files_in : List Row → Option TableFiles
table_files_in rows =
    option_and_then
    (λ image. option_map (λ table. record { image = image; table = table })
    (first_of (codes "table") rows))
    (first_of (codes "image") rows)

abbrev pub is_limit : List ℕ → Bool
is_limit text = nat_lt 0 (length text) && (list_all is_ascii_digit text
    && (nat_le 1 (digits_value 10 text) && nat_le (digits_value 10 text) max_steps))

-- a limit: decimal digits of a number from 1 to 1,000,000
abbrev pub limit_of : List ℕ → Option ℕ
limit_of text = if is_limit text then Some (digits_value 10 text) else None

-- the limit that is given, or the greatest
abbrev pub limit_or_most : Option (List ℕ) → Option ℕ
limit_or_most None = Some max_steps
limit_or_most (Some text) = limit_of text

abbrev pub limit_in : List Row → Option ℕ
limit_in rows = limit_or_most (first_of (codes "limit") rows)

-- `run`, with a proof table if one is given
abbrev pub run_of : List Row → Option TaskRequest
run_of rows = option_map (λ files. Run files (first_of (codes "table") rows)) (files_in rows)

abbrev pub trace_of : List Row → Option TaskRequest
trace_of rows = option_and_then (λ files. option_map (Trace files) (limit_in rows)) (files_in rows)

abbrev pub assembly_of : List Row → Option TaskRequest
assembly_of rows =
    option_and_then (λ text. option_map (Assemble text) (first_of (codes "image") rows))
    (first_of (codes "text") rows)

-- what the command of this name asks for with these arguments
abbrev pub request_by : List ℕ → List Row → Option TaskRequest
request_by name rows =
    if bytes_eq name (codes "run") then run_of rows
    else if bytes_eq name (codes "verify") then option_map Verify (first_of (codes "image") rows)
    else if bytes_eq name (codes "trace") then trace_of rows
    else if bytes_eq name (codes "asm") then assembly_of rows
    else if bytes_eq name (codes "dis") then option_map Disassemble (first_of (codes "image") rows)
    else if bytes_eq name (codes "prove") then option_map Prove (table_files_in rows)
    else if bytes_eq name (codes "recheck") then option_map Recheck (table_files_in rows)
    else if bytes_eq name (codes "explain") then option_map Explain (first_of (codes "code") rows)
    else None

-- ---- what the arguments ask for

-- what the command that clap found asks for with its arguments
abbrev pub request_met : Option (List ℕ × List Row) → Option TaskRequest
request_met = option_and_then (λ met. request_by met.0 met.1)

-- arguments that clap does not accept ask for nothing
abbrev pub unless_wrong : {A : Type 0} → Kinds → Option A → Option A
unless_wrong [] request = request
unless_wrong (wrong ∷ more) request = None

-- what the arguments ask for: what their command does; the first word is the program's name
unfoldable pub asked : List (List ℕ) → Option TaskRequest
asked words = unless_wrong (fault_of program words) (request_met (subcommand_of program words))

-- ---- the result of reading them

-- the error says that the arguments are wrong
abbrev pub IsWrong : WordsError → Type 0
IsWrong (Wrong text) = Unit {0}
IsWrong NotUnicode = Unit {0}
IsWrong Memory = ⊥

-- the result is the task of this request, or says that there is none; or memory ran out
abbrev pub TellsOf : Option TaskRequest → Result Task WordsError → Type 0
TellsOf request (Ok task) = request ≡ Some (request_of task)
TellsOf request (Err (Wrong text)) = request ≡ None
TellsOf request (Err NotUnicode) = request ≡ None
TellsOf request (Err Memory) = Unit {0}

-- the result of reading arguments: what they ask for, or that it is nothing; or memory ran out
abbrev pub AsksFor : List (List ℕ) → Result Task WordsError → Type 0
AsksFor words result = TellsOf (asked words) result
