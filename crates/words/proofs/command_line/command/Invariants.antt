use Rattle.words.proofs.Common.{◌≡◌, map, take, app_of, new_app, with_wanted}
use Rattle.std.specs.List.{fold}
use Rattle.words.proofs.command_line.command.Given as goal

abbrev pub invariant-loop-argument : goal.invariant-loop-argument
invariant-loop-argument l = app_of l.command
    ≡ fold with_wanted (new_app l.name)
    (map (λ argument. argument.name.now) (take l.argument-index l.arguments))
