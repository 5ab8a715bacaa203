-- The code of each refusal, and the sentence that says what is wrong.
use Rattle.std.specs.Prelude.{ℕ, List, codes}
use Rattle.assembler.specs.declared.errors.AsmErrorKind.{AsmErrorKind}
use Rattle.assembler.specs.declared.errors.AsmErrorKind.TheVariants.{UnknownByte, NoForm, OutOfRange, DefinedTwice, NotDefined, TooFar, MapLine, NoMap, NotOneValue, PastValue, LateVersion, Memory, SlotCount}

abbrev pub code_of : AsmErrorKind → List ℕ
code_of UnknownByte = codes "A1"
code_of NoForm = codes "A2"
code_of OutOfRange = codes "A3"
code_of DefinedTwice = codes "A4"
code_of NotDefined = codes "A5"
code_of TooFar = codes "A6"
code_of MapLine = codes "A7"
code_of NoMap = codes "A7"
code_of NotOneValue = codes "A10"
code_of PastValue = codes "A10"
code_of LateVersion = codes "A11"
code_of Memory = codes "A8"
code_of SlotCount = codes "A9"

abbrev pub sentence_of : AsmErrorKind → List ℕ
sentence_of UnknownByte = codes "the byte begins no token"
sentence_of NoForm = codes "no form fits the statement"
sentence_of OutOfRange = codes "the number is out of range"
sentence_of DefinedTwice = codes "the name is defined already"
sentence_of NotDefined = codes "the name is not defined"
sentence_of TooFar = codes "the name is too far away for the jump"
sentence_of MapLine =
    codes "the map line comes after an instruction, is the 17th or is out of the limits"
sentence_of NoMap = codes "no map line has this index"
sentence_of NotOneValue = codes "the map is not an array of one entry"
sentence_of PastValue = codes "the offset is not below the size of the map's values"
sentence_of LateVersion = codes "the version line is not the first statement"
sentence_of Memory = codes "out of memory"
sentence_of SlotCount = codes "the text has no instruction, or more than 4096 slots"
