-- What the arguments of xdpvm_filter ask for.
use Rattle.std.specs.Prelude.{◌≡◌, ◌⊎◌, ℕ, ◌^◌, Bool, true, false, ◌&&◌, List, Option, Some, None, Result, Ok, Err, codes, length, nat_lt, bytes_eq, option_map, option_and_then, if◌then◌else◌}
use Rattle.std.specs.List.{list_all}
use Rattle.std.specs.Char.{is_ascii_digit}
use Rattle.std.specs.Str.Parse.{digits_value}
use Rattle.std.specs.Borrow.{Bor}
use Rattle.std.specs.Option.{option_map_or}
use Rattle.clap.specs.Walk.{Row, first_of}
use Rattle.clap.specs.Simple.{matches_of}
use Rattle.clap.specs.Kinds.{IsAmong}
use Rattle.clap.specs.Faults.{fault_of}
use Rattle.clap.specs.declared.error.kind.ErrorKind.TheVariants.{DisplayHelp, DisplayVersion}
use Rattle.words.specs.declared.filter_commands.FilterCommand.{FilterCommand}
use Rattle.words.specs.declared.filter_commands.FilterCommand.TheVariants as command
use Rattle.words.specs.declared.filter_tasks.ConvertTask.{ConvertTask}
use Rattle.words.specs.declared.filter_tasks.FramesKind.{FramesKind}
use Rattle.words.specs.declared.filter_tasks.FramesKind.TheVariants.{Pcap, Pcapng, Stream, Text}
use Rattle.words.specs.declared.filter_tasks.OperatorTask.{OperatorTask}
use Rattle.words.specs.declared.filter_tasks.Judging.{Judging}
use Rattle.words.specs.declared.filter_tasks.FilterWordsError.{FilterWordsError}
use Rattle.words.specs.declared.filter_tasks.FilterWordsError.TheVariants as error
use Rattle.words.specs.FilterRequests.{ConvertRequest, JudgingRequest, OperatorRequest, Verified, Shown, Checked, Filter, Convert, convert_request_of, judging_of, operator_request_of}
use Rattle.words.specs.FilterCommands.{command_of, words_by}
use Rattle.words.specs.FilterLine.{app_by}
use Rattle.words.specs.Asked.{files_in, limit_or_most, unless_wrong}

-- ---- what the arguments ask for

-- whether an option is given that takes no value
abbrev pub is_given : List ℕ → List Row → Bool
is_given name rows = option_map_or (λ text. bytes_eq text (codes "true")) (first_of name rows) false

-- what is done before the run, by whether accesses are tested, the proof table, and the limit: a
-- table or a verdict takes no limit, and checked runs take no table
abbrev pub judging_by : Bool → Option (List ℕ) → Option (List ℕ) → Option JudgingRequest
judging_by true None limit = option_map Checked (limit_or_most limit)
judging_by true (Some table) limit = None
judging_by false table (Some limit) = None
judging_by false (Some table) None = Some (Shown table)
judging_by false None None = Some Verified

abbrev pub judging_in : List Row → Option JudgingRequest
judging_in rows =
    judging_by (is_given (codes "checked") rows) (first_of (codes "table") rows)
    (first_of (codes "limit") rows)

-- a run
abbrev pub filter_request_in : List Row → Option OperatorRequest
filter_request_in rows =
    option_and_then (λ files. option_map (λ judging. Filter (record {
      files = files;
      judging = judging;
      maps = first_of (codes "maps") rows;
      maps_out = first_of (codes "maps-out") rows;
      report = first_of (codes "report") rows;
    })) (judging_in rows)) (files_in rows)

-- what frames become by this name
abbrev pub kind_named : List ℕ → Option FramesKind
kind_named name =
    if bytes_eq name (codes "pcap") then Some Pcap
    else if bytes_eq name (codes "pcapng") then Some Pcapng
    else if bytes_eq name (codes "frames") then Some Stream
    else if bytes_eq name (codes "text") then Some Text
    else None

-- what frames become, if that is said: a name of something, or nothing
abbrev pub kind_said : Option (List ℕ) → Option (Option FramesKind)
kind_said None = Some None
kind_said (Some name) = option_map Some (kind_named name)

abbrev pub kind_in : List Row → Option (Option FramesKind)
kind_in rows = kind_said (first_of (codes "to") rows)

-- decimal digits of a number of 32 bits
abbrev pub is_number : List ℕ → Bool
is_number text =
    nat_lt 0 (length text)
    && (list_all is_ascii_digit text && nat_lt (digits_value 10 text) (2 ^ 32))

abbrev pub number_of : List ℕ → Option ℕ
number_of text = if is_number text then Some (digits_value 10 text) else None

-- a number, if one is given: what spells one, or nothing
abbrev pub number_said : Option (List ℕ) → Option (Option ℕ)
number_said None = Some None
number_said (Some text) = option_map Some (number_of text)

abbrev pub number_in : List ℕ → List Row → Option (Option ℕ)
number_in name rows = number_said (first_of name rows)

-- frames of this file that are written again to this output
abbrev pub converted_in : (frames out : List ℕ) → List Row → Option ConvertRequest
converted_in frames out rows =
    option_and_then
    (λ kind. option_and_then
    (λ interface. option_map (λ queue. record {
      frames = frames;
      out = out;
      kind = kind;
      has_reasons = is_given (codes "reasons") rows;
      interface = interface;
      queue = queue;
    }) (number_in (codes "queue") rows)) (number_in (codes "interface") rows)) (kind_in rows)

abbrev pub convert_request_in : List Row → Option OperatorRequest
convert_request_in rows =
    option_and_then
    (λ frames. option_and_then (λ out. option_map Convert (converted_in frames out rows))
    (first_of (codes "out") rows)) (first_of (codes "in") rows)

-- frames that are written to standard output as a text
abbrev pub show_request_in : List Row → Option OperatorRequest
show_request_in rows =
    option_map
    (λ frames. Convert (record {
      frames = frames;
      out = codes "-";
      kind = Some Text;
      has_reasons = false;
      interface = None;
      queue = None;
    }))
    (first_of (codes "in") rows)

-- what a command asks for with these arguments
abbrev pub asked_by : FilterCommand → List Row → Option OperatorRequest
asked_by command.Filter rows = filter_request_in rows
asked_by command.Convert rows = convert_request_in rows
asked_by command.Show rows = show_request_in rows

-- what the command line of a command asks for
abbrev pub asked_on : FilterCommand → List (List ℕ) → Option OperatorRequest
asked_on command line =
    unless_wrong (fault_of (app_by command) line)
    (asked_by command (matches_of (app_by command) line))

-- what the arguments ask for; the first word is the program's name
unfoldable pub filter_asked : List (List ℕ) → Option OperatorRequest
filter_asked words = asked_on (command_of words) (words_by (command_of words) words)

-- the help or the version may be asked for on the command line of a command
abbrev pub AsksForTextOn : FilterCommand → List (List ℕ) → Type 0
AsksForTextOn command line =
    IsAmong DisplayHelp (fault_of (app_by command) line)
    ⊎ IsAmong DisplayVersion (fault_of (app_by command) line)

abbrev pub AsksForText : List (List ℕ) → Type 0
AsksForText words = AsksForTextOn (command_of words) (words_by (command_of words) words)

-- ---- the result of reading them

-- the options go together as the result says, or they do not, and it is the message why
abbrev pub TellsJudging : Option JudgingRequest → Result Judging (Bor (List ℕ)) → Type 0
TellsJudging request (Ok judging) = request ≡ Some (judging_of judging)
TellsJudging request (Err message) = request ≡ None

-- what frames become is what the result says, or it is nothing, and it is the message why
abbrev pub TellsKind : Option (Option FramesKind) → Result (Option FramesKind) (Bor (List ℕ))
    → Type 0
TellsKind said (Ok kind) = said ≡ Some kind
TellsKind said (Err message) = said ≡ None

-- the number that is given is that of the result, or it is none, and it is the message why
abbrev pub TellsNumber : Option (Option ℕ) → Result (Option ℕ) (Bor (List ℕ)) → Type 0
TellsNumber said (Ok number) = said ≡ Some number
TellsNumber said (Err message) = said ≡ None

-- the frames are written again as the result says, or they are not, and it is the message why
abbrev pub TellsConverted : Option ConvertRequest → Result ConvertTask (Bor (List ℕ)) → Type 0
TellsConverted request (Ok task) = request ≡ Some (convert_request_of task)
TellsConverted request (Err message) = request ≡ None

-- the result is the task of this request, or says that there is none; or memory ran out
abbrev pub FilterTellsOf : Option OperatorRequest → Result OperatorTask FilterWordsError → Type 0
FilterTellsOf request (Ok task) = request ≡ Some (operator_request_of task)
FilterTellsOf request (Err (error.Shown text)) = request ≡ None
FilterTellsOf request (Err (error.Wrong text)) = request ≡ None
FilterTellsOf request (Err error.Memory) = Unit {0}

-- the error has the help or the version
abbrev pub HasText : FilterWordsError → Type 0
HasText (error.Shown text) = Unit {0}
HasText (error.Wrong text) = ⊥
HasText error.Memory = ⊥

-- the error says that the arguments are wrong, or that memory ran out
abbrev pub IsUnshown : FilterWordsError → Type 0
IsUnshown (error.Shown text) = ⊥
IsUnshown (error.Wrong text) = Unit {0}
IsUnshown error.Memory = Unit {0}

-- only a command line that may ask for the help or the version gets it
abbrev pub ShowsTextOn : FilterCommand → List (List ℕ) → Result OperatorTask FilterWordsError
    → Type 0
ShowsTextOn command line (Ok task) = Unit {0}
ShowsTextOn command line (Err (error.Shown text)) = AsksForTextOn command line
ShowsTextOn command line (Err (error.Wrong text)) = Unit {0}
ShowsTextOn command line (Err error.Memory) = Unit {0}

-- the result of reading arguments: what they ask for, or that it is nothing; or memory ran out
abbrev pub FilterAsksFor : List (List ℕ) → Result OperatorTask FilterWordsError → Type 0
FilterAsksFor words result =
    FilterTellsOf (filter_asked words) result
    × ShowsTextOn (command_of words) (words_by (command_of words) words) result
