-- The code of each refusal, the sentence that says what is wrong, and the hint.
use Rattle.std.specs.Prelude.{ℕ, List, codes}
use Rattle.insn_codec.specs.declared.errors.CodecError.{CodecError}
use Rattle.insn_codec.specs.declared.errors.CodecError.TheVariants.{Short, UnknownOpcode, UnknownRegister, UnusedField, UnknownSelector, SecondSlot}

abbrev pub code_of : CodecError → List ℕ
code_of Short = codes "C1"
code_of UnknownOpcode = codes "C2"
code_of UnknownRegister = codes "C3"
code_of UnusedField = codes "C4"
code_of UnknownSelector = codes "C5"
code_of SecondSlot = codes "C6"

abbrev pub sentence_of : CodecError → List ℕ
sentence_of Short = codes "fewer than 8 bytes are left for the instruction"
sentence_of UnknownOpcode = codes "the opcode is unknown"
sentence_of UnknownRegister = codes "a register number is over 10"
sentence_of UnusedField = codes "a field that the instruction does not use is not 0"
sentence_of UnknownSelector = codes "the selector is unknown"
sentence_of SecondSlot =
    codes "the second slot of the wide load is missing, or a field that it does not use is not 0"

abbrev pub hint_of : CodecError → List ℕ
hint_of Short = codes "the file was cut: make it again"
hint_of UnknownOpcode =
    codes "no instruction begins with this byte; legacy packet loads become loads by a pointer"
hint_of UnknownRegister = codes "registers are 0 to 10; the second byte has two, 4 bits each"
hint_of UnusedField =
    codes "set each field to 0 that the form does not use, as src_reg beside a constant"
hint_of UnknownSelector =
    codes "no form has this offset, imm or src_reg; a call has src_reg 0 or 1"
hint_of SecondSlot =
    codes "a wide load has a second slot: 4 bytes 0, then the upper half, 0 for a map, or the offset"
