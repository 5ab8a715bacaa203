-- The command line of xdpvm_filter, in clap's terms.
use Rattle.std.specs.Prelude.{ℕ, true, List, [], ◌∷◌, Some, codes}
use Rattle.clap.specs.Walk.{Rule}
use Rattle.clap.specs.Simple.{App, new_rule, on_top, with_rule}
use Rattle.clap.specs.declared.builder.action.ArgAction.TheVariants.{SetTrue}
use Rattle.words.specs.CommandLine.{command, optional}
use Rattle.words.specs.declared.filter_commands.FilterCommand.{FilterCommand}
use Rattle.words.specs.declared.filter_commands.FilterCommand.TheVariants.{Filter, Convert, Show}

-- an option that takes no value
abbrev pub flag : List ℕ → Rule
flag name = record (new_rule name) { long = Some name; action = Some SetTrue }

-- xdpvm_filter, which has a version and requires an image, frames and an output
abbrev pub filter_start : App
filter_start =
    on_top (λ s. record s { has_version = true })
    (command (codes "xdpvm_filter") (codes "image" ∷ codes "frames" ∷ codes "out" ∷ []))

abbrev pub with_option : List ℕ → App → App
with_option name app = with_rule app (optional name)

unfoldable pub filter_program : App
filter_program =
    with_option (codes "report")
    (with_option (codes "limit")
    (with_rule
    (with_option (codes "table")
    (with_option (codes "maps-out") (with_option (codes "maps") filter_start)))
    (flag (codes "checked"))))

-- xdpvm_filter convert, which requires frames and an output
unfoldable pub convert_program : App
convert_program =
    with_rule
    (with_option (codes "queue")
    (with_option (codes "interface")
    (with_option (codes "to") (command (codes "convert") (codes "in" ∷ codes "out" ∷ [])))))
    (flag (codes "reasons"))

-- xdpvm_filter show, which requires frames
unfoldable pub show_program : App
show_program = command (codes "show") (codes "in" ∷ [])

-- the command line of a command
abbrev pub app_by : FilterCommand → App
app_by Filter = filter_program
app_by Convert = convert_program
app_by Show = show_program
