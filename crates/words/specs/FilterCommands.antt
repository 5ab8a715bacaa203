-- Which command the arguments of xdpvm_filter name, and its command line.
use Rattle.std.specs.Prelude.{ℕ, List, bytes_eq, codes, drop, slice_get, if◌then◌else◌}
use Rattle.std.specs.Option.{option_map_or}
use Rattle.words.specs.declared.filter_commands.FilterCommand.{FilterCommand}
use Rattle.words.specs.declared.filter_commands.FilterCommand.TheVariants.{Filter, Convert, Show}

-- the command of this name, if there is one, or else the one without a name
abbrev pub command_named : List ℕ → FilterCommand
command_named name =
    if bytes_eq name (codes "convert") then Convert
    else if bytes_eq name (codes "show") then Show
    else Filter

-- the command that the first argument names; the first word is the program's name
abbrev pub command_of : List (List ℕ) → FilterCommand
command_of words = option_map_or command_named (slice_get words 1) Filter

-- the command line of a command: its name stands in the place of the program's name
abbrev pub words_by : FilterCommand → List (List ℕ) → List (List ℕ)
words_by Filter words = words
words_by command words = drop 1 words
