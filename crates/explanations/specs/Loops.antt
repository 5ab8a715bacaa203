-- The loop that a path takes last, by the slots of its states, the first one first.
use Rattle.std.specs.Prelude.{ℕ, zero, suc, ◌+◌, ◌-◌, ◌==◌, nat_le, nat_lt, List, [], ◌++◌, length, count_by, slice_index, Option, Some, None, Bool, true, false, ◌&&◌, codes, decimal, if◌then◌else◌}
use Rattle.isa_model.specs.declared.instructions.Insn.{Insn}
use Rattle.isa_model.specs.declared.instructions.Insn.TheVariants.{Jump, JumpLong, JumpIf}
use Rattle.isa_model.specs.Code.Instructions.{Program, fetch}
use Rattle.walks.specs.declared.refusals.Refusal.{Refusal}
use Rattle.walks.specs.declared.refusals.Refusal.TheVariants.{TooLong}
use Rattle.walks.specs.declared.explained.Jump.{Jump as TheJump}

abbrev pub is_jump : Option Insn → Bool
is_jump (Some (Jump by)) = true
is_jump (Some (JumpLong by)) = true
is_jump (Some (JumpIf cond by)) = true
is_jump i = false

-- the jump from a slot to another that a step makes, if it goes back in the code
abbrev pub back_jump : Program → (from to : ℕ) → Option TheJump
back_jump p from to =
    if is_jump (fetch p from) && nat_le to from
    then Some (record { from = from; to = to }) else None

abbrev pub or_earlier : (earlier later : Option TheJump) → Option TheJump
or_earlier earlier None = earlier
or_earlier earlier (Some jump) = Some jump

-- the last jump back among this count of steps of a path with these slots
abbrev pub last_back : Program → List ℕ → ℕ → Option TheJump
last_back p slots zero = None
last_back p slots (suc n) =
    or_earlier (last_back p slots n) (back_jump p (slice_index slots n) (slice_index slots (n + 1)))

-- how often a path comes to a slot
abbrev pub times : ℕ → List ℕ → ℕ
times slot slots = count_by (λ k. k == slot) slots

abbrev pub again_line : TheJump → ℕ → List ℕ
again_line jump turns =
    codes "slots " ++ (decimal jump.to ++ (codes " to " ++ (decimal jump.from
    ++ (codes " are taken again and again, " ++ (decimal turns
    ++ codes " times on this path: limit what ends that (r2 &= 15)\n")))))

abbrev pub no_loop_line : List ℕ
no_loop_line = codes
    "this path ends in no loop, there are too many paths: let them meet with the same knowledge\n"

-- the loop from its first slot, to which its jump goes back, to that jump, and how often the path
-- comes to its first slot
abbrev pub taken_line : Option TheJump → List ℕ → List ℕ
taken_line None slots = no_loop_line
taken_line (Some jump) slots =
    if nat_lt (times jump.to slots) 2 then no_loop_line
    else again_line jump (times jump.to slots)

abbrev pub loop_line : Program → List ℕ → Refusal → List ℕ
loop_line p slots TooLong = taken_line (last_back p slots (length slots - 1)) slots
loop_line p slots refusal = []
