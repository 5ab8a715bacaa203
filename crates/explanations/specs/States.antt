-- What is said of the state in which a program is refused.
use Rattle.std.specs.Prelude.{ℕ, List, ◌++◌, codes, Option, Some, None}
use Rattle.isa_model.specs.declared.instructions.Insn.{Insn}
use Rattle.isa_model.specs.Code.Instructions.{Program}
use Rattle.walks.specs.declared.refusals.Refusal.{Refusal}
use Rattle.walks.specs.declared.explained.Explanation.{Explanation}
use Rattle.explanations.specs.Unset.{unset_lines}
use Rattle.walks.specs.declared.explained.SearchLimit.{SearchLimit}
use Rattle.walks.specs.declared.explained.SearchLimit.TheVariants.{Comparisons, StoredWords}
use Rattle.explanations.specs.Cases.{case_line}
use Rattle.explanations.specs.Loops.{loop_line}
use Rattle.explanations.specs.Turns.{turn_lines}
use Rattle.explanations.specs.Lines.{register_lines, answer_line, stack_lines, way_line}

-- which limit the search had reached, of comparisons or of what stored states take
abbrev pub limit_line : Option SearchLimit → List ℕ
limit_line (Some Comparisons) =
    codes "states were no longer looked up: that had taken 250000000 comparisons\n"
limit_line (Some StoredWords) =
    codes "states were no longer stored: those before had taken 15000000 words of 8 bytes\n"
limit_line None = codes ""

-- the registers, what left them unset, what is needed, a loop with what differs from turn to turn,
-- an answer's low half and the stack slots that concern the instruction, in the state in which it
-- is refused, the last jumps, and the limit that the search had reached
abbrev pub lines_of : Program → Insn → Refusal → Explanation → List ℕ
lines_of p i e x =
    register_lines x.state i ++ (unset_lines p x.slots.items x.state i e
    ++ (case_line p.maps x.state i e
    ++ (loop_line p x.slots.items e ++ (turn_lines e x.earlier x.state
    ++ (answer_line x.state e ++ (stack_lines p.maps x.state i
    ++ (way_line x.way.items ++ limit_line x.limit)))))))
