-- The results of the checked machine's steps.
use Rattle.std.specs.Prelude.{◌≡◌, ℕ, ◌+◌}
use Rattle.isa_model.specs.Machine.States.{State, go_to}
use Rattle.isa_model.specs.Machine.Steps.{StepResult, Next, Finished, Trapped}
use Rattle.isa_model.specs.Machine.HelperCalls.{ktime_get_ns, answered}
use Rattle.checked_vm.specs.declared.steps.Stepped.{Stepped}
use Rattle.checked_vm.specs.declared.steps.Stepped.TheVariants as stepped

-- the state after a call of ktime_get_ns
abbrev pub after_time : (ℕ → ℕ) → State → State
after_time clock s = go_to (answered (ktime_get_ns clock s)) (s.slot + 1)

-- the result of one step, from the state before it to the state after it: an end and a trap leave
-- the state as it was, and so does a call of ktime_get_ns until it is answered
abbrev pub IsStep : (ℕ → ℕ) → StepResult → Stepped → State → State → Type 0
IsStep clock wanted stepped.Went old new = wanted ≡ Next new
IsStep clock wanted (stepped.Finished n) old new = (wanted ≡ Finished n) × (new ≡ old)
IsStep clock wanted stepped.AsksTime old new = (wanted ≡ Next (after_time clock old)) × (new ≡ old)
IsStep clock wanted (stepped.Trapped reason) old new = (wanted ≡ Trapped reason) × (new ≡ old)

-- the next answers of a clock are those of c after this many calls of it
abbrev pub ClockAnswers : (ℕ → ℕ) → ℕ → (ℕ → ℕ) → Type 0
ClockAnswers c clock_calls clock = (k : ℕ) → clock k ≡ c (clock_calls + k)
