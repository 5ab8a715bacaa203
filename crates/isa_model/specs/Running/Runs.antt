-- Whole runs: steps, ends, outcomes, and how a run ends within a limit.
use Rattle.std.specs.Prelude.{◌≡◌, ℕ, zero, suc, ◌+◌, pos, List, [], ◌∷◌, map, length}
use Rattle.isa_model.specs.declared.values.Region.TheVariants as region
use Rattle.isa_model.specs.declared.values.Value.{Value}
use Rattle.isa_model.specs.declared.values.Value.TheVariants.{Unset, Ptr}
use Rattle.isa_model.specs.declared.frames.FrameHead.{FrameHead}
use Rattle.isa_model.specs.declared.ends.End.{End}
use Rattle.isa_model.specs.declared.ends.End.TheVariants.{Exit, Trap, Limit}
use Rattle.isa_model.specs.Code.Instructions.{Program}
use Rattle.isa_model.specs.Machine.States.{Content, KeyValues, key_values_of, State, frame_pointer, new_call_frame}
use Rattle.isa_model.specs.Machine.Steps.{StepResult, Next, Finished, Trapped, step}

-- ---- the start

-- the map values of a map get serials from n on, in the order of the list
abbrev pub numbered : ℕ → KeyValues → Content
numbered n [] = []
numbered n (e ∷ es) = (e.0, record { serial = n; bytes = e.1 }) ∷ numbered (suc n) es

-- and so do those of all maps, map after map
abbrev pub numbered_maps : ℕ → List KeyValues → List Content
numbered_maps n [] = []
numbered_maps n (m ∷ ms) = numbered n m ∷ numbered_maps (n + length m) ms

abbrev pub count_map_values : List KeyValues → ℕ
count_map_values [] = 0
count_map_values (m ∷ ms) = length m + count_map_values ms

-- r1 points to the context and r10 to the end of the first call frame
abbrev pub start_regs : ℕ → List Value
start_regs serial =
    Unset ∷ Ptr region.Context (pos 0) ∷ Unset ∷ Unset ∷ Unset ∷ Unset ∷ Unset ∷ Unset ∷ Unset
    ∷ Unset
    ∷ frame_pointer serial ∷ []

-- the map values have the serials 0, 1, .. and the first call frame the next one
unfoldable pub start_state : FrameHead → List ℕ → List KeyValues → State
start_state head packet contents =
    record {
      slot = 0;
      regs = start_regs (count_map_values contents);
      frames =
          new_call_frame (count_map_values contents) 0 (Unset ∷ Unset ∷ Unset ∷ Unset ∷ []) ∷ [];
      packet = packet;
      interface = head.interface;
      queue = head.queue;
      maps = numbered_maps 0 contents;
      clock_calls = 0;
      next_serial = suc (count_map_values contents);
    }

-- ---- one step after another

-- a run so far: it goes on from a state, or it has ended in one
pub data Progress : Type 0 where
  GoesOn : State → Progress
  Ended : End → State → Progress

-- what one step does to a run of n steps
abbrev pub after_step : ℕ → State → StepResult → Progress
after_step n s (Next t) = GoesOn t
after_step n s (Finished a) = Ended (Exit a (n + 1)) s
after_step n s (Trapped e) = Ended (Trap e n) s

abbrev pub advanced : Program → (ℕ → ℕ) → ℕ → Progress → Progress
advanced p clock n (GoesOn s) = after_step n s (step p clock s)
advanced p clock n (Ended e s) = Ended e s

-- the state after n steps, or the end of the run before
unfoldable pub progress : Program → (ℕ → ℕ) → ℕ → State → Progress
progress p clock zero s = GoesOn s
progress p clock (suc n) s = advanced p clock n (progress p clock n s)

-- n steps take the run from s to t, and none of them ends it
abbrev pub Reaches : Program → (ℕ → ℕ) → State → ℕ → State → Type 0
Reaches p clock s n t = progress p clock n s ≡ GoesOn t

-- the run from s has n steps: the first n - 1 go on, and the nth exits with this number
abbrev pub Runs : Program → (ℕ → ℕ) → State → ℕ → ℕ → Type 0
Runs p clock s zero a = ⊥
Runs p clock s (suc n) a = (t : State) × Reaches p clock s n t × (step p clock t ≡ Finished a)

-- ---- outcomes

-- the outcome of a run that exits: r0, the packet and the map contents at its end, its steps,
-- and how often it asked the clock
pub record Outcome : Type 0 where
  pub number : ℕ
  pub packet : List ℕ
  pub contents : List KeyValues
  pub steps : ℕ
  pub clock_calls : ℕ

-- a run from the start state has this outcome
pub record HasOutcome (p : Program) (head : FrameHead) (packet : List ℕ) (contents : List KeyValues)
    (clock : ℕ → ℕ) (o : Outcome) : Type 0 where
  pub before : ℕ
  pub last : State
  pub reached : Reaches p clock (start_state head packet contents) before last
  pub exits : step p clock last ≡ Finished o.number
  pub steps_are : o.steps ≡ suc before
  pub packet_is : o.packet ≡ last.packet
  pub contents_are : o.contents ≡ map key_values_of last.maps
  pub clock_calls_are : o.clock_calls ≡ last.clock_calls

-- ---- turns

-- how a run within a limit ended, and what it leaves
pub record Turn : Type 0 where
  pub ends : End
  pub packet : List ℕ
  pub contents : List KeyValues
  pub clock_calls : ℕ

abbrev pub left : End → State → Turn
left e s =
    record {
      ends = e;
      packet = s.packet;
      contents = map key_values_of s.maps;
      clock_calls = s.clock_calls;
    }

abbrev pub turn_of : Progress → Turn
turn_of (GoesOn s) = left Limit s
turn_of (Ended e s) = left e s

-- the turn of a run on a packet frame, stopped at the limit
unfoldable pub turn : Program → ℕ → (ℕ → ℕ) → FrameHead → List ℕ → List KeyValues → Turn
turn p limit clock head packet contents =
    turn_of (progress p clock limit (start_state head packet contents))
