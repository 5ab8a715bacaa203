-- The code of each refusal, and the sentence that says what is wrong.
use Rattle.std.specs.Prelude.{ℕ, List, codes}
use Rattle.control_flow.specs.Messages as flow
use Rattle.transfer.specs.Messages as step
use Rattle.walks.specs.declared.refusals.Refusal.{Refusal}
use Rattle.walks.specs.declared.refusals.Refusal.TheVariants.{Flow, Step, Repeats, TooLong, Memory}

abbrev pub code_of : Refusal → List ℕ
code_of (Flow error) = flow.code_of error
code_of (Step refusal) = step.code_of refusal
code_of Repeats = codes "V18"
code_of TooLong = codes "V19"
code_of Memory = codes "V0"

abbrev pub sentence_of : Refusal → List ℕ
sentence_of (Flow error) = flow.sentence_of error
sentence_of (Step refusal) = step.sentence_of refusal
sentence_of Repeats = codes "a path comes back to a state that it was in: the loop has no end"
sentence_of TooLong = codes "more than 1000000 instructions would have to be explored"
sentence_of Memory = codes "out of memory"
