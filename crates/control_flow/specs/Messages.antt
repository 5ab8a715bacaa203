-- The code of each refusal, and the sentence that says what is wrong.
use Rattle.std.specs.Prelude.{ℕ, List, codes}
use Rattle.control_flow.specs.declared.errors.FlowError.{FlowError}
use Rattle.control_flow.specs.declared.errors.FlowError.TheVariants.{TargetOutside, SecondHalf, OtherFunction, FallsOff, Unreachable, Memory}

abbrev pub code_of : FlowError → List ℕ
code_of TargetOutside = codes "G1"
code_of SecondHalf = codes "G2"
code_of OtherFunction = codes "G5"
code_of FallsOff = codes "G3"
code_of Unreachable = codes "G4"
code_of Memory = codes "G6"

abbrev pub sentence_of : FlowError → List ℕ
sentence_of TargetOutside = codes "the jump or call leads outside the code"
sentence_of SecondHalf = codes "the jump or call leads into the second half of a wide load"
sentence_of OtherFunction = codes "the jump leads into another function"
sentence_of FallsOff = codes "the last instruction of the function falls through"
sentence_of Unreachable = codes "no path leads from slot 0 to the instruction"
sentence_of Memory = codes "out of memory"
