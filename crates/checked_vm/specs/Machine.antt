-- The state that the checked machine's fields mean, and the results of its instructions.
use Rattle.std.specs.Prelude.{◌≡◌, ℕ, ◌+◌, ◌≤◌, List, length, slice_index_or, Option, Some, None, Result, Ok, Err, MatchResult, vec_len, vec_capacity}
use Rattle.isa_model.specs.declared.instructions.Insn.{Insn}
use Rattle.isa_model.specs.declared.map_defs.MapDef.{MapDef}
use Rattle.isa_model.specs.declared.ends.TrapReason.{TrapReason}
use Rattle.isa_model.specs.Code.Instructions.{Program}
use Rattle.isa_model.specs.Code.MapRows.{NamesRows}
use Rattle.isa_model.specs.Machine.States.{State, go_to}
use Rattle.isa_model.specs.Machine.MapHelpers.{Helped}
use Rattle.isa_model.specs.Machine.HelperCalls.{answered}
use Rattle.isa_model.specs.Machine.Steps.{StepResult, Next, Trapped, act}
use Rattle.isa_model.specs.Code.Limits.{max_call_frames}
use Rattle.checked_vm.specs.declared.core_state.Core.{Core}

-- the state of a run: the machine's fields and the packet
abbrev pub state_of : Core → List ℕ → State
state_of core packet =
    record {
      slot = core.slot;
      regs = core.regs;
      frames = core.frames.items;
      packet = packet;
      interface = core.interface;
      queue = core.queue;
      maps = core.maps.contents;
      clock_calls = core.clock_calls;
      next_serial = core.maps.next_serial;
    }

-- registers, memory and the slot may differ; the number of call frames, the room for them, the rows
-- of the maps and the counts of serials and of clock calls are the same
pub record KeepsFrames (old new : Core) : Type 0 where
  pub frames : vec_len new.frames ≡ vec_len old.frames
  pub room : vec_capacity new.frames ≡ vec_capacity old.frames
  pub rows : new.maps.rows ≡ old.maps.rows
  pub clock_calls : new.clock_calls ≡ old.clock_calls
  pub next_serial : new.maps.next_serial ≡ old.maps.next_serial

-- the maps that the instructions name have rows
abbrev pub NamesAllRows : List MapDef → List (Option Insn) → Type 0
NamesAllRows rows insns =
    (slot : ℕ) (i : Insn) → slice_index_or insns slot None ≡ Some i → NamesRows rows i

-- in the middle of a run: 1 to 8 call frames, and room for eight
pub record IsRunning (core : Core) : Type 0 where
  pub some : 1 ≤ vec_len core.frames
  pub few : vec_len core.frames ≤ max_call_frames
  pub room : vec_capacity core.frames ≡ max_call_frames

-- after a step the machine is still running; it has used one serial at most, and has not asked the
-- clock
pub record StaysRunning (old new : Core) : Type 0 where
  pub running : IsRunning new
  pub rows : new.maps.rows ≡ old.maps.rows
  pub next_serial : new.maps.next_serial ≤ old.maps.next_serial + 1
  pub clock_calls : new.clock_calls ≡ old.clock_calls

-- the result of an instruction whose registers are set: the next state, or a trap that changed
-- nothing
abbrev pub Performs : {A : Type 0} → Insn → Result A TrapReason → Core → List ℕ → Core → List ℕ
    → Type 0
Performs i result old before new after =
    MatchResult result
    (λ _. (p : Program) (clock : ℕ → ℕ)
    → act p clock (state_of old before) i ≡ Next (state_of new after))
    (λ e. ((p : Program) (clock : ℕ → ℕ) → act p clock (state_of old before) i ≡ Trapped e)
    × (new ≡ old) × (after ≡ before))

-- the same of an instruction that does not touch the packet, whatever the packet is
abbrev pub PerformsApart : {A : Type 0} → Insn → Result A TrapReason → Core → Core → Type 0
PerformsApart i result old new =
    MatchResult result
    (λ _. (packet : List ℕ) (p : Program) (clock : ℕ → ℕ)
    → act p clock (state_of old packet) i ≡ Next (state_of new packet))
    (λ e. ((packet : List ℕ) (p : Program) (clock : ℕ → ℕ)
    → act p clock (state_of old packet) i ≡ Trapped e) × (new ≡ old))

-- the same in a program of this number of slots
abbrev pub PerformsIn : {A : Type 0} → ℕ → Insn → Result A TrapReason → Core → List ℕ → Core
    → List ℕ → Type 0
PerformsIn slots i result old before new after =
    MatchResult result
    (λ _. (p : Program) (clock : ℕ → ℕ) → length p.insns ≡ slots
    → act p clock (state_of old before) i ≡ Next (state_of new after))
    (λ e. ((p : Program) (clock : ℕ → ℕ) → length p.insns ≡ slots
    → act p clock (state_of old before) i ≡ Trapped e) × (new ≡ old) × (after ≡ before))

-- the step of a helper's call: to the next slot with the helper's answer, or its trap
abbrev pub helped_on : State → Result Helped TrapReason → StepResult
helped_on s (Ok helped) = Next (go_to (answered helped) (s.slot + 1))
helped_on s (Err e) = Trapped e

-- the result of a helper's call in a program with the machine's rows: the state after the call, or
-- a trap that changed nothing
abbrev pub Helps : {A : Type 0} → (Program → State → Result Helped TrapReason) → Result A TrapReason
    → Core → List ℕ → Core → Type 0
Helps call result old packet new =
    MatchResult result
    (λ _. (p : Program) → p.maps ≡ old.maps.rows
    → helped_on (state_of old packet) (call p (state_of old packet))
    ≡ Next (state_of new packet))
    (λ e. ((p : Program) → p.maps ≡ old.maps.rows
    → helped_on (state_of old packet) (call p (state_of old packet)) ≡ Trapped e) × (new ≡ old))
