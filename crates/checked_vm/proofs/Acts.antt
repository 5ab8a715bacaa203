-- The effect of an instruction is that of its form's function.
use Rattle.checked_vm.proofs.Common.{◌≡◌, ◌<◌, ℕ, false, List, length, Some, None, Result, Ok, Err, refl, ap, ◌∙◌, inl, inr, arith, unwrap_or, slice_index_or, ℤ, option_flatten, cases_lt, get_or_past, max_call_frames, TrapReason, Program, fetch, reads, writes, is_frame_pointer, State, reg, Next, Trapped, target, calls, exits, is_unset, act, step, performed, performed_at, Core, KeepsFrames, IsRunning, StaysRunning, Performs, PerformsApart, PerformsIn}
use Rattle.std.specs.List.{list_any}
use Rattle.std.proofs.lemmas.Bool.Decides.{nat_tests}
use Rattle.std.proofs.lemmas.Option.{slice_get_past, slice_get-get_or}
use Rattle.isa_model.specs.declared.instructions.Insn.{Insn}
use Rattle.isa_model.specs.declared.ends.TrapReason.TheVariants.{NoCode}
use Rattle.isa_model.specs.declared.versions.Version.{Version}
use Rattle.isa_model.specs.Machine.Calls.{enter, leave}

pub performs_in : {A : Type 0} (slots : ℕ) (i j : Insn) (r : Result A TrapReason) (old : Core)
    (before : List ℕ) (new : Core) (after : List ℕ) → j ≡ i → Performs i r old before new after
    → PerformsIn slots j r old before new after
performs_in slots i j (Ok done) old before new after e h = λ p clock count. rw e (h p clock)
performs_in slots i j (Err reason) old before new after e h =
    (λ p clock count. rw e (h.0 p clock), h.1, h.2)

pub performs_apart : {A : Type 0} (slots : ℕ) (i j : Insn) (r : Result A TrapReason)
    (old new : Core) (packet : List ℕ) → j ≡ i → PerformsApart i r old new
    → PerformsIn slots j r old packet new packet
performs_apart slots i j (Ok done) old new packet e h = λ p clock count. rw e (h packet p clock)
performs_apart slots i j (Err reason) old new packet e h =
    (λ p clock count. rw e (h.0 packet p clock), h.1, refl)

-- a call enters its function where there are fewer call frames than the limit
pub calls_enter : (s : State) (p : Program) (by : ℤ) (slots to : ℕ) → length p.insns ≡ slots
    → to ≡ unwrap_or (target s.slot by) slots → (length s.frames ≡ max_call_frames → ⊥)
    → calls s p by ≡ Next (enter s to)
calls_enter s p by slots to count leads few = rw (leads, count) (grind (arith, nat_tests))

-- an exit of an inner call frame leaves it
pub exits_leave : (version : Version) (s : State) → (length s.frames ≡ 1 → ⊥)
    → exits version s ≡ Next (leave s)
exits_leave version s inner = grind (arith, nat_tests)

-- what keeps the call frames leaves the machine running
pub stays_running : (old new : Core) → KeepsFrames old new → IsRunning old → StaysRunning old new
stays_running old new kept running = record {
  running = record { some = omega arith; few = omega arith; room = omega arith };
  rows = kept.rows;
  next_serial = omega arith;
  clock_calls = kept.clock_calls;
}

-- an instruction that reads only set registers, and does not write r10, acts
pub performed_acts : (p : Program) (clock : ℕ → ℕ) (s : State) (i j : Insn) → i ≡ j
    → list_any (λ r. is_unset (reg s r)) (reads i) ≡ false → is_frame_pointer (writes i) ≡ false
    → performed p clock s i ≡ act p clock s j
performed_acts p clock s i j same set free = rw (set, free) (ap (act p clock s) same)

-- a program goes on only from a slot with an instruction
pub next_within : (p : Program) (clock : ℕ → ℕ) (s t : State) → step p clock s ≡ Next t
    → s.slot < length p.insns
unfolding step
next_within p clock s t next = elim (cases_lt s.slot (length p.insns)) [
  | inl within ↦ within
  | inr past ↦
      let none : performed_at p clock s (fetch p s.slot) ≡ Trapped NoCode =
      ap (λ o. performed_at p clock s (option_flatten o)) (slice_get_past p.insns s.slot past) in
      absurd cc
]

-- the instruction that is found at a slot begins there
pub fetch_at : (p : Program) (slot : ℕ) (i : Insn) → slice_index_or p.insns slot None ≡ Some i
    → fetch p slot ≡ Some i
fetch_at p slot i found = elim (cases_lt slot (length p.insns)) [
  | inl within ↦ ap option_flatten (slice_get-get_or p.insns slot None within) ∙ found
  | inr past ↦ let none = get_or_past p.insns slot None past in absurd cc
]
