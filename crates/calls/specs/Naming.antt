-- The version, and actions as numbers.
use Rattle.std.specs.Prelude.{ℕ, List, codes}
use Rattle.isa_model.specs.declared.frames.Action.{Action}
use Rattle.isa_model.specs.declared.frames.Action.TheVariants as action

abbrev pub version : List ℕ
version = codes "0.1.0"

abbrev pub action_number : Action → ℕ
action_number action.Aborted = 0
action_number action.Drop = 1
action_number action.Pass = 2
action_number action.Tx = 3
action_number action.Redirect = 4
action_number action.Invalid = 5
