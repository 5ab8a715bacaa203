-- Packet frames: the actions that answers name. Linux, include/uapi/linux/bpf.h, enum xdp_action.
use Rattle.std.specs.Prelude.{ℕ, ◌%◌, ◌^◌, ◌==◌, if◌then◌else◌}
use Rattle.isa_model.specs.declared.frames.Action.{Action}
use Rattle.isa_model.specs.declared.frames.Action.TheVariants as action

-- the action that an answer names, by its low 32 bits
abbrev pub action_of : ℕ → Action
action_of n = action_coded (n % 2 ^ 32)
  where
    action_coded : ℕ → Action
    action_coded code =
        if code == 0 then action.Aborted
        else if code == 1 then action.Drop
        else if code == 2 then action.Pass
        else if code == 3 then action.Tx
        else if code == 4 then action.Redirect
        else action.Invalid
