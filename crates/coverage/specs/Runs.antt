-- The runs of a stream's packet frames, the maps' contents carried along.
use Rattle.std.specs.Prelude.{ℕ, ◌==◌, if◌then◌else◌, List, [], ◌∷◌, ◌++◌, map}
use Rattle.isa_model.specs.declared.ends.End.{End}
use Rattle.isa_model.specs.declared.ends.End.TheVariants.{Exit, Trap, Limit}
use Rattle.isa_model.specs.declared.frames.Action.{Action}
use Rattle.isa_model.specs.declared.frames.Action.TheVariants as action
use Rattle.isa_model.specs.Code.Instructions.{Program}
use Rattle.isa_model.specs.Machine.States.{State, KeyValues}
use Rattle.isa_model.specs.Reporting.Frames.{action_of}
use Rattle.isa_model.specs.Reporting.Streams.{PacketFrame}
use Rattle.isa_model.specs.Reporting.Reports.{checked_rule, turn_on, contents_left}
use Rattle.checked_vm.specs.Watching.{begun_on}

-- the states in which the steps of a frame's run begin; a frame with a reason is not run
abbrev pub states_of : Program → ℕ → List KeyValues → PacketFrame → List State
states_of p limit contents f =
    if f.reason == 0 then begun_on p limit (λ k. f.head.time) f.head f.body contents else []

-- those of the frames of a stream, run after run
abbrev pub states_in : Program → ℕ → List KeyValues → List PacketFrame → List State
states_in p limit contents [] = []
states_in p limit contents (f ∷ frames) =
    states_of p limit contents f
    ++ states_in p limit (contents_left contents (turn_on (checked_rule p limit) contents f)) frames

-- how a frame's run ended, if it was run
abbrev pub ends_of : Program → ℕ → List KeyValues → PacketFrame → List End
ends_of p limit contents f =
    if f.reason == 0 then (checked_rule p limit f.head f.body contents).ends ∷ [] else []

-- how the runs of the frames of a stream ended
abbrev pub ends_in : Program → ℕ → List KeyValues → List PacketFrame → List End
ends_in p limit contents [] = []
ends_in p limit contents (f ∷ frames) =
    ends_of p limit contents f
    ++ ends_in p limit (contents_left contents (turn_on (checked_rule p limit) contents f)) frames

-- how many steps a run took that ended so, as the report says it
abbrev pub steps_by : ℕ → End → ℕ
steps_by limit (Exit answer steps) = steps
steps_by limit (Trap reason steps) = steps
steps_by limit Limit = limit

-- how many steps the runs took
abbrev pub steps_in : Program → ℕ → List KeyValues → List PacketFrame → List ℕ
steps_in p limit contents frames = map (steps_by limit) (ends_in p limit contents frames)

-- the word of the report for an end, by its index: the actions in their order, TRAP and LIMIT
abbrev pub action_index : Action → ℕ
action_index action.Aborted = 0
action_index action.Drop = 1
action_index action.Pass = 2
action_index action.Tx = 3
action_index action.Redirect = 4
action_index action.Invalid = 5

abbrev pub end_index : End → ℕ
end_index (Exit answer steps) = action_index (action_of answer)
end_index (Trap reason steps) = 6
end_index Limit = 7
