-- The command line of the program, in clap's terms.
use Rattle.std.specs.Prelude.{ℕ, true, List, [], ◌∷◌, Some, codes, fold}
use Rattle.clap.specs.Walk.{Rule}
use Rattle.clap.specs.Simple.{App, new_app, new_rule, on_top, with_rule, with_subcommand}
use Rattle.clap.specs.declared.builder.action.ArgAction.TheVariants.{Set}

-- an argument that is required, and takes one value
abbrev pub wanted : List ℕ → Rule
wanted name = record (new_rule name) { required = true; action = Some Set }

-- an option that takes one value, with one name in the help, and may be left out
abbrev pub optional : List ℕ → Rule
optional name = record (new_rule name) { long = Some name; action = Some Set; value_names = 1 }

-- a command with one more required argument
abbrev pub with_wanted : App → List ℕ → App
with_wanted command name = with_rule command (wanted name)

-- the command of this name that requires these arguments
abbrev pub command : List ℕ → List (List ℕ) → App
command name arguments = fold with_wanted (new_app name) arguments

-- the command of this name that runs a program on a frame stream, and takes this option
abbrev pub running : List ℕ → List ℕ → App
running name option =
    with_rule (command name (codes "image" ∷ codes "frames" ∷ codes "out" ∷ [])) (optional option)

unfoldable pub asm : App
asm = command (codes "asm") (codes "text" ∷ codes "image" ∷ [])

unfoldable pub dis : App
dis = command (codes "dis") (codes "image" ∷ [])

unfoldable pub verify : App
verify = command (codes "verify") (codes "image" ∷ [])

unfoldable pub run : App
run = running (codes "run") (codes "table")

unfoldable pub trace : App
trace = running (codes "trace") (codes "limit")

unfoldable pub prove : App
prove = command (codes "prove") (codes "image" ∷ codes "table" ∷ [])

unfoldable pub recheck : App
recheck = command (codes "recheck") (codes "image" ∷ codes "table" ∷ [])

unfoldable pub explain : App
explain = command (codes "explain") (codes "code" ∷ [])

-- the command line with one more command
abbrev pub with_command : App → App → App
with_command program command = with_subcommand program command.top

-- xdpvm, which has a version
abbrev pub versioned_program : App
versioned_program = on_top (λ s. record s { has_version = true }) (new_app (codes "xdpvm"))

-- xdpvm, which has a version and needs one of its commands
abbrev pub empty_program : App
empty_program = on_top (λ s. record s { subcommand_required = true }) versioned_program

unfoldable pub program : App
program =
    fold with_command empty_program
    (asm ∷ dis ∷ verify ∷ run ∷ trace ∷ prove ∷ recheck ∷ explain ∷ [])
