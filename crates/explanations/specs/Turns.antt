-- In what the state of a turn of a loop differs from that of the turn before, as text.
use Rattle.std.specs.Prelude.{ℕ, zero, suc, ◌-◌, List, [], ◌++◌, length, Option, Some, bytes_eq, nat_lt, codes, decimal, if◌then◌else◌}
use Rattle.std.specs.Fmt.{signed_decimal}
use Rattle.stack_state.specs.declared.states.State.{State}
use Rattle.walks.specs.declared.refusals.Refusal.{Refusal}
use Rattle.walks.specs.declared.refusals.Refusal.TheVariants.{TooLong}
use Rattle.explanations.specs.Slots.{offset_of}
use Rattle.explanations.specs.Mismatches.{register_words, stack_words}

-- what the message says of a register or a stack slot before and now, where that differs
abbrev pub turn_line : (place before now : List ℕ) → List ℕ
turn_line place before now =
    if bytes_eq before now then []
    else place ++ (codes " from turn to turn: "
    ++ (before ++ (codes ", then " ++ (now ++ codes "\n"))))

-- ---- the innermost call frame of the earlier state e and of the state a

abbrev pub register_turn : State → State → ℕ → List ℕ
register_turn e a register =
    turn_line (codes "r" ++ decimal register)
    (register_words e (length e.callers.items) register)
    (register_words a (length a.callers.items) register)

abbrev pub stack_turn : State → State → ℕ → List ℕ
stack_turn e a slot =
    turn_line (codes "stack " ++ signed_decimal (offset_of slot 0))
    (stack_words e (length e.callers.items) slot) (stack_words a (length a.callers.items) slot)

-- one of the ten registers, or of the stack slots, which are counted on behind them
abbrev pub place_turn : State → State → ℕ → List ℕ
place_turn e a place =
    if nat_lt place 10 then register_turn e a place else stack_turn e a (place - 10)

-- the last of these 74, this count of them
abbrev pub place_turns : State → State → ℕ → List ℕ
place_turns e a zero = []
place_turns e a (suc n) = place_turn e a (73 - n) ++ place_turns e a n

-- ---- a loop that is not explored to its end

abbrev pub turn_lines : Refusal → Option State → State → List ℕ
turn_lines TooLong (Some e) a = place_turns e a 74
turn_lines refusal earlier a = []
