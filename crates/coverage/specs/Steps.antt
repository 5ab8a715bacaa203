-- What is seen of each step of a frame's run.
use Rattle.std.specs.Prelude.{◌≡◌, ◌≢◌, ℕ, ◌≤◌, ℤ, false, ◌+ℤ◌, List, [], ◌∷◌, ◌++◌, map, length, slice_get, Option, Some, None, Result, Ok, Err}
use Rattle.std.specs.Option.{option_flatten}
use Rattle.isa_model.specs.declared.instructions.Insn.{Insn}
use Rattle.isa_model.specs.declared.instructions.Insn.TheVariants.{Load, LoadSx, StoreConstant, Store, Atomic, Exchange, CompareExchange}
use Rattle.isa_model.specs.declared.instructions.Place.{Place}
use Rattle.isa_model.specs.declared.values.Cell.{Cell}
use Rattle.isa_model.specs.declared.values.Value.{Value}
use Rattle.isa_model.specs.declared.values.Value.TheVariants.{Ptr}
use Rattle.isa_model.specs.declared.ends.TrapReason.{TrapReason}
use Rattle.isa_model.specs.declared.versions.Version.{Version}
use Rattle.isa_model.specs.Code.Instructions.{Program}
use Rattle.isa_model.specs.Code.Sizes.{size_bytes, unsigned_size, width_size}
use Rattle.isa_model.specs.Machine.States.{State, KeyValues, reg}
use Rattle.isa_model.specs.Machine.Memory.{index_at, read}
use Rattle.isa_model.specs.Reporting.Streams.{PacketFrame, Stream, AreOpen}
use Rattle.isa_model.specs.Reporting.Reports.{checked_rule, contents_after}
use Rattle.checked_vm.specs.Stops.{stop_of}
use Rattle.frames.specs.Sources.{Origin}
use Rattle.frames.specs.Inputs.{AreReadFrom, IsBegunBy}
use Rattle.coverage.specs.declared.recording.StepTaken.{StepTaken}
use Rattle.coverage.specs.declared.recording.Recorder.{Recorder}
use Rattle.coverage.specs.declared.frame_steps.FrameSteps.{FrameSteps}
use Rattle.coverage.specs.declared.frame_steps.FrameFound.{FrameFound}
use Rattle.coverage.specs.declared.frame_steps.FrameFound.TheVariants as answers
use Rattle.coverage.specs.Runs.{states_of}

-- the place of an instruction's operand in memory, and how many bytes it has
abbrev pub operand_of : Insn → Option (Place × ℕ)
operand_of (Load size d place) = Some (place, size_bytes size)
operand_of (LoadSx size d place) = Some (place, size_bytes (unsigned_size size))
operand_of (StoreConstant size place k) = Some (place, size_bytes size)
operand_of (Store size place r) = Some (place, size_bytes size)
operand_of (Atomic w op fetched place r) = Some (place, size_bytes (width_size w))
operand_of (Exchange w place r) = Some (place, size_bytes (width_size w))
operand_of (CompareExchange w place r) = Some (place, size_bytes (width_size w))
operand_of insn = None

-- the cells that were read, if they are there
abbrev pub cells_read : Result (List Cell) TrapReason → List Cell
cells_read (Ok cells) = cells
cells_read (Err e) = []

-- n cells at a pointer and an offset; none where not all are there
abbrev pub cells_by : State → Value → ℤ → ℕ → List Cell
cells_by s (Ptr r z) by n = cells_read (read s r (index_at r (z +ℤ by)) n)
cells_by s value by n = []

abbrev pub cells_at : State → Option (Place × ℕ) → List Cell
cells_at s (Some (place, n)) = cells_by s (reg s place.base) place.offset n
cells_at s None = []

abbrev pub operand_in : Option Insn → Option (Place × ℕ)
operand_in (Some insn) = operand_of insn
operand_in None = None

-- a state as a step shows it: its slot, the instruction there, the registers, and the cells of the
-- instruction's operand in memory, before the step
pub record StepView : Type 0 where
  pub slot : ℕ
  pub insn : Option Insn
  pub registers : List Value
  pub cells : List Cell

abbrev pub insn_at : List (Option Insn) → State → Option Insn
insn_at insns s = option_flatten (slice_get insns s.slot)

abbrev pub view_in : List (Option Insn) → State → StepView
view_in insns s =
    record {
      slot = s.slot;
      insn = insn_at insns s;
      registers = s.regs;
      cells = cells_at s (operand_in (insn_at insns s));
    }

abbrev pub view_of : StepTaken → StepView
view_of step =
    record {
      slot = step.slot;
      insn = step.insn;
      registers = step.registers;
      cells = step.cells.items;
    }

-- these states were recorded, one after another and none left out, while there was memory
abbrev pub HasRecorded : Recorder → List (Option Insn) → List State → Type 0
HasRecorded recorder insns states =
    recorder.is_full ≡ false → map view_of recorder.steps.items ≡ map (view_in insns) states

-- The lines are the states of the frame's run, in their order, none left out, and the end is that
-- of the run.
pub record ShowsRun (p : Program) (limit : ℕ) (contents : List KeyValues) (f : PacketFrame)
    (steps : FrameSteps) : Type 0 where
  pub states : map view_of steps.steps.items
      ≡ map (view_in p.insns) (states_of p limit contents f)
  pub stop : steps.stop ≡ stop_of p limit (λ k. f.head.time) f.head f.body contents
  pub len : steps.len ≡ length f.body

-- what was found where the frame of that number may be: its run, or its reason
abbrev pub ShowsFrame : Program → ℕ → List KeyValues → PacketFrame → Version → FrameFound → Type 0
ShowsFrame p limit contents f stream (answers.Ran steps) =
    (f.reason ≡ 0) × ShowsRun p limit contents f steps × (steps.stream ≡ stream)
ShowsFrame p limit contents f stream (answers.Skipped len reason) =
    (f.reason ≢ 0) × (reason ≡ f.reason) × (len ≡ length f.body)
ShowsFrame p limit contents f stream (answers.Missing count finish) = ⊥

-- the source begins with the frames before the one of this number, and with it; those before it
-- were run, each on what the one before left
pub record FindsFrame (p : Program) (limit : ℕ) (start : List KeyValues) (source : Origin)
    (number : ℕ) (answer : FrameFound) : Type 0 where
  pub version : Version
  pub frames : List PacketFrame
  pub frame : PacketFrame
  pub are_open : AreOpen version (frames ++ frame ∷ [])
  pub begun : IsBegunBy source version (frames ++ frame ∷ [])
  pub numbered : length frames ≡ number
  pub shows : ShowsFrame p limit (contents_after (checked_rule p limit) start frames) frame version
      answer

-- the stream of the source has no frame of this number: it has so many frames, and ended so
pub record HasNoFrame (source : Origin) (number : ℕ) (answer : FrameFound) : Type 0 where
  pub found : Stream
  pub are_open : AreOpen found.version found.frames
  pub read : AreReadFrom source found
  pub few : length found.frames ≤ number
  pub answer_is : answer ≡ answers.Missing (length found.frames) found.finish
