-- Programs whose every run exits within a number of steps, and the outcomes of their runs.
use Rattle.std.specs.Prelude.{◌≡◌, ℕ, ◌≤◌, ◌==◌, List, [], ◌∷◌, Bool, true, false}
use Rattle.isa_model.specs.declared.frames.FrameHead.{FrameHead}
use Rattle.isa_model.specs.Code.Instructions.{Program}
use Rattle.isa_model.specs.Machine.States.{KeyValues}
use Rattle.isa_model.specs.Reporting.Streams.{PacketFrame}
use Rattle.isa_model.specs.Running.Runs.{start_state, Outcome, HasOutcome}
use Rattle.isa_model.specs.Running.Ends.{Ends}
use Rattle.isa_model.specs.Machine.MachineStates.{IsClock, IsGiven}

-- every run of the program from a start exits within n steps, whatever packet, head and map
-- contents it is given, and with every clock
unfoldable pub StartsEnd : Program → ℕ → Type 0
StartsEnd p n = (clock : ℕ → ℕ) (head : FrameHead) (packet : List ℕ) (contents : List KeyValues)
    → IsClock clock → IsGiven p head packet contents
    → Ends p clock (start_state head packet contents) n

-- a packet frame without a reason has a run that exits within n steps and leaves the contents;
-- every other one leaves them as they were
abbrev pub ExitsOn : Program → ℕ → List KeyValues → PacketFrame → Bool → List KeyValues → Type 0
ExitsOn p n contents f true next =
    (o : Outcome) × HasOutcome p f.head f.body contents (λ k. f.head.time) o × (o.steps ≤ n)
    × (next ≡ o.contents)
ExitsOn p n contents f false next = next ≡ contents

-- every run on frames that come one after the other exits within n steps, the maps' contents
-- carried along
abbrev pub AllExit : Program → ℕ → List KeyValues → List PacketFrame → Type 0
AllExit p n contents [] = Unit {0}
AllExit p n contents (f ∷ frames) =
    (next : List KeyValues) × ExitsOn p n contents f (f.reason == 0) next × AllExit p n next frames
