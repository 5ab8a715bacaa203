-- How often each instruction was run, and how often each conditional jump went each way.
use Rattle.std.specs.Prelude.{◌≡◌, ℕ, ◌+◌, ◌%◌, ◌^◌, ◌==◌, ◌&&◌, Bool, true, false, not, count_by, List, length, slice_get, Option, Some, None}
use Rattle.std.specs.Option.{option_flatten}
use Rattle.std.specs.Result.{result_ok}
use Rattle.isa_model.specs.declared.ends.End.{End}
use Rattle.isa_model.specs.declared.instructions.Insn.{Insn}
use Rattle.isa_model.specs.declared.instructions.Insn.TheVariants.{JumpIf}
use Rattle.isa_model.specs.Code.Instructions.{Program}
use Rattle.isa_model.specs.Machine.States.{State, KeyValues}
use Rattle.isa_model.specs.Machine.Steps.{test_of}
use Rattle.isa_model.specs.Reporting.Streams.{PacketFrame}
use Rattle.coverage.specs.declared.slot_hits.SlotHits.{SlotHits}
use Rattle.coverage.specs.declared.stream_hits.StreamHits.{StreamHits}
use Rattle.coverage.specs.Counted.{CountsExactly, CountsModulo}
use Rattle.coverage.specs.Runs.{states_in, ends_in, steps_by, end_index}

-- whether the test of a conditional jump holds in a state: of no other instruction is there a test,
-- and of operands that cannot be compared no answer
abbrev pub way_by : State → Option Insn → Option Bool
way_by s (Some (JumpIf cond by)) = result_ok (test_of s cond)
way_by s insn = None

abbrev pub way_of : List (Option Insn) → State → Option Bool
way_of insns s = way_by s (option_flatten (slice_get insns s.slot))

abbrev pub is_jump : Option Bool → Bool
is_jump (Some true) = true
is_jump way = false

abbrev pub is_fall : Option Bool → Bool
is_fall (Some false) = true
is_fall way = false

-- a step begins at the slot
abbrev pub is_at : ℕ → State → Bool
is_at slot s = s.slot == slot

-- a conditional jump at the slot is taken
abbrev pub jumps_at : List (Option Insn) → ℕ → State → Bool
jumps_at insns slot s = is_jump (way_of insns s) && is_at slot s

-- a conditional jump at the slot is not taken
abbrev pub falls_at : List (Option Insn) → ℕ → State → Bool
falls_at insns slot s = is_fall (way_of insns s) && is_at slot s

-- these states were counted, in numbers of 64 bits, of a program with this code
pub record HasCounted (hits : SlotHits) (insns : List (Option Insn)) (states : List State)
    : Type 0 where
  pub runs_len : length hits.runs.items ≡ length insns
  pub jumped_len : length hits.jumped.items ≡ length insns
  pub fell_len : length hits.fell.items ≡ length insns
  pub runs : CountsModulo is_at states hits.runs.items
  pub jumped : CountsModulo (jumps_at insns) states hits.jumped.items
  pub fell : CountsModulo (falls_at insns) states hits.fell.items

-- the run took so many steps
abbrev pub takes : ℕ → ℕ → End → Bool
takes limit n e = steps_by limit e == n

-- the run ended by the word of that index
abbrev pub ends_by : ℕ → End → Bool
ends_by index e = end_index e == index

-- a frame with a reason
abbrev pub has_reason : PacketFrame → Bool
has_reason f = not (f.reason == 0)

-- the runs of these frames were counted, in numbers of 64 bits
pub record HasCountedFrames (p : Program) (limit : ℕ) (contents : List KeyValues)
    (frames : List PacketFrame) (hits : StreamHits) : Type 0 where
  pub slots : HasCounted hits.slots p.insns (states_in p limit contents frames)
  pub taken_len : length hits.taken.items ≡ limit + 1
  pub taken : CountsModulo (takes limit) (ends_in p limit contents frames) hits.taken.items
  pub ended_len : length hits.ended.items ≡ 8
  pub ended : CountsModulo ends_by (ends_in p limit contents frames) hits.ended.items
  pub ran : hits.ran ≡ length (ends_in p limit contents frames) % 2 ^ 64
  pub skipped : hits.skipped ≡ count_by has_reason frames % 2 ^ 64

-- Each count is the number of steps that begin at that slot in the runs of these frames, and of a
-- conditional jump the number of those that go that way. It is counted how many runs took each
-- number of steps, how many ended by each word of the report, how many there are, and how many
-- frames have a reason.
pub record CountsFrames (p : Program) (limit : ℕ) (contents : List KeyValues)
    (frames : List PacketFrame) (hits : StreamHits) : Type 0 where
  pub runs_len : length hits.slots.runs.items ≡ length p.insns
  pub jumped_len : length hits.slots.jumped.items ≡ length p.insns
  pub fell_len : length hits.slots.fell.items ≡ length p.insns
  pub taken_len : length hits.taken.items ≡ limit + 1
  pub ended_len : length hits.ended.items ≡ 8
  pub runs : CountsExactly is_at (states_in p limit contents frames) hits.slots.runs.items
  pub jumped : CountsExactly (jumps_at p.insns) (states_in p limit contents frames)
      hits.slots.jumped.items
  pub fell : CountsExactly (falls_at p.insns) (states_in p limit contents frames)
      hits.slots.fell.items
  pub taken : CountsExactly (takes limit) (ends_in p limit contents frames) hits.taken.items
  pub ended : CountsExactly ends_by (ends_in p limit contents frames) hits.ended.items
  pub ran : hits.ran ≡ length (ends_in p limit contents frames)
  pub skipped : hits.skipped ≡ count_by has_reason frames
