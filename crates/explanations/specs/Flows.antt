-- What is said of a program whose control flow is refused, besides the sentence and the slot.
use Rattle.std.specs.Prelude.{ℕ, zero, suc, ◌+◌, ◌-◌, ◌==◌, nat_le, max, ℤ, pos, ◌+ℤ◌, Bool, true, false, List, [], ◌++◌, length, Option, Some, None, codes, decimal, if◌then◌else◌}
use Rattle.std.specs.Fmt.{signed_decimal}
use Rattle.std.specs.Option.{option_map, option_and_then}
use Rattle.isa_model.specs.declared.instructions.Insn.{Insn}
use Rattle.isa_model.specs.declared.instructions.Insn.TheVariants.{CallLocal}
use Rattle.isa_model.specs.Code.Instructions.{Program, fetch, slots_filled}
use Rattle.isa_model.specs.Machine.Steps.{destination}
use Rattle.isa_model.specs.Machine.Successors.{jump_distance}
use Rattle.control_flow.specs.declared.errors.FlowError.{FlowError}
use Rattle.control_flow.specs.declared.errors.FlowError.TheVariants.{TargetOutside, SecondHalf, OtherFunction, FallsOff, Unreachable, Memory}
use Rattle.control_flow.specs.Graph.{call_distance}

-- ---- where jumps and calls lead

-- over which distance an instruction jumps or calls
abbrev pub distance_of : Insn → Option ℤ
distance_of (CallLocal by) = Some by
distance_of i = jump_distance i

-- where the instruction at a slot jumps or calls; or only where it calls
abbrev pub distance_by : (only_calls : Bool) → Insn → Option ℤ
distance_by only_calls i = if only_calls then call_distance i else distance_of i

unfoldable pub target_at : Program → (only_calls : Bool) → ℕ → Option ℕ
target_at p only_calls slot =
    option_map (destination p slot) (option_and_then (distance_by only_calls) (fetch p slot))

-- the slot, if it leads to the one that is looked for
abbrev pub found_at : (slot to : ℕ) → Option ℕ → Option ℕ
found_at slot to None = None
found_at slot to (Some k) = if k == to then Some slot else None

abbrev pub or_later : (earlier later : Option ℕ) → Option ℕ
or_later None later = later
or_later (Some slot) later = Some slot

-- the first slot below a count that jumps or calls to a slot; or only that calls it
abbrev pub first_leading : Program → (only_calls : Bool) → (to count : ℕ) → Option ℕ
first_leading p only_calls to zero = None
first_leading p only_calls to (suc n) =
    or_later (first_leading p only_calls to n) (found_at n to (target_at p only_calls n))

-- the later of two slots at which functions begin; that of the call, if there is one, counts only
-- up to the given slot
abbrev pub later_of : (slot : ℕ) → Option ℕ → ℕ → ℕ
later_of slot None found = found
later_of slot (Some k) found = if nat_le k slot then max k found else found

-- where the function of a slot begins, by the calls at slots below a count: at 0, or where a call
-- leads
abbrev pub function_at : Program → (slot count : ℕ) → ℕ
function_at p slot zero = 0
function_at p slot (suc n) = later_of slot (target_at p true n) (function_at p slot n)

-- ---- lines

-- the target is outside
abbrev pub outside_words : (to : ℤ) → (last : ℕ) → List ℕ
outside_words to last =
    codes "it leads to slot " ++ (signed_decimal to
    ++ (codes ", and the code has slots 0 to " ++ (decimal last
    ++ codes ": count from the slot after it, or use a name\n")))

abbrev pub outside_line : (slot slots : ℕ) → Option ℤ → List ℕ
outside_line slot slots None = []
outside_line slot slots (Some by) = outside_words ((pos slot +ℤ pos 1) +ℤ by) (slots - 1)

-- the target is the second half of a wide load
abbrev pub second_half_words : (to first : ℕ) → List ℕ
second_half_words to first =
    codes "it leads to slot " ++ (decimal to ++ (codes ", the second half of what begins at slot "
    ++ (decimal first ++ codes ": count that twice, or use a name\n")))

abbrev pub second_half_line : Option ℕ → List ℕ
second_half_line None = []
second_half_line (Some to) = second_half_words to (to - 1)

abbrev pub called_words : Option ℕ → List ℕ
called_words None = []
called_words (Some from) = codes " (called at slot " ++ (decimal from ++ codes ")")

-- the function that begins at a slot
abbrev pub function_words : Program → ℕ → List ℕ
function_words p f =
    codes "from slot " ++ (decimal f
    ++ (codes " on" ++ called_words (first_leading p true f (length p.insns))))

-- the target is in another function
abbrev pub other_words : ℕ → (there here : List ℕ) → List ℕ
other_words to there here =
    codes "it leads to slot " ++ (decimal to ++ (codes ", in the function " ++ (there
    ++ (codes ", and is in that " ++ (here ++ codes ": jump within one, or call\n")))))

abbrev pub other_line : Program → ℕ → Option ℕ → List ℕ
other_line p slot None = []
other_line p slot (Some to) =
    other_words to (function_words p (function_at p to (length p.insns)))
    (function_words p (function_at p slot (length p.insns)))

-- what is after the end of a function: the end of the code, or another function
abbrev pub next_line : ℕ → Option ℕ → List ℕ
next_line next None = []
next_line next (Some from) =
    codes "after it, at slot " ++ (decimal next ++ (codes ", the function begins that slot "
    ++ (decimal from ++ codes " calls: end this one by exit or a jump\n")))

abbrev pub end_line : Program → ℕ → List ℕ
end_line p next =
    if nat_le (length p.insns) next
    then codes "the code ends after it: end the function by exit or a jump\n"
    else next_line next (first_leading p true next (length p.insns))

-- whether an instruction, which is not reached itself, leads to a slot
abbrev pub unreached_line : Option ℕ → List ℕ
unreached_line None =
    codes "neither what is before it nor a jump or call leads here: remove it, or jump to it\n"
unreached_line (Some from) =
    codes "slot " ++ (decimal from
    ++ codes " leads here, and is not reached either: remove both, or jump here\n")

-- ---- cases

-- what is said of the instruction at the slot
abbrev pub flow_line : Program → FlowError → ℕ → Insn → List ℕ
flow_line p TargetOutside slot i = outside_line slot (length p.insns) (distance_of i)
flow_line p SecondHalf slot i = second_half_line (target_at p false slot)
flow_line p OtherFunction slot i = other_line p slot (target_at p false slot)
flow_line p FallsOff slot i = end_line p (slot + slots_filled i)
flow_line p Unreachable slot i = unreached_line (first_leading p false slot (length p.insns))
flow_line p Memory slot i = []
