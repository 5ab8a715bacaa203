-- The code of each refusal, the sentence that says what is wrong, and the hint.
use Rattle.std.specs.Prelude.{ℕ, List, [], codes}
use Rattle.insn_codec.specs.Messages as codec
use Rattle.image.specs.declared.errors.ImageError.{ImageError}
use Rattle.image.specs.declared.errors.ImageError.TheVariants.{Code, Magic, Short, Long, TooManyMaps, MapRow, SlotCount, MapRoom, UnknownMap, ValuePointer, Memory}

abbrev pub code_of : ImageError → List ℕ
code_of (Code slot error) = codes "I8"
code_of Magic = codes "I1"
code_of Short = codes "I2"
code_of Long = codes "I3"
code_of TooManyMaps = codes "I4"
code_of (MapRow index) = codes "I5"
code_of SlotCount = codes "I6"
code_of MapRoom = codes "I7"
code_of Memory = codes "I9"
code_of (UnknownMap slot) = codes "I10"
code_of (ValuePointer slot) = codes "I11"

abbrev pub sentence_of : ImageError → List ℕ
sentence_of (Code slot error) = codec.sentence_of error
sentence_of Magic = codes "the bytes do not begin with XBP1 or XBP2"
sentence_of Short = codes "the image is shorter than its head, or than its counts say"
sentence_of Long = codes "the image is longer than its counts say"
sentence_of TooManyMaps = codes "the image has more than 16 map rows"
sentence_of (MapRow index) =
    codes "a map row has an unknown type, or a size that is out of its limits"
sentence_of SlotCount = codes "the image has no slots, or more than 4096"
sentence_of MapRoom = codes "the maps together have more than 16777216 bytes of keys and values"
sentence_of Memory = codes "out of memory"
sentence_of (UnknownMap slot) = codes "the instruction names a map that has no row"
sentence_of (ValuePointer slot) =
    codes "the map is no array of one entry, or the offset is not within its value"

-- another magic and running out of memory have no hint
abbrev pub hint_of : ImageError → List ℕ
hint_of (Code slot error) = codec.hint_of error
hint_of Magic = []
hint_of Short = codes "the file was cut: make it again"
hint_of Long = codes "remove what follows the last slot, or make it again"
hint_of TooManyMaps =
    codes "join maps with the same sizes of keys and values, or remove unused ones"
hint_of (MapRow index) =
    codes "type 1 hash, 2 array; keys to 64 bytes, arrays 4; values to 4096, entries to 65536"
hint_of SlotCount =
    codes "the least program is r0 = 2 and exit; a longer one needs fewer instructions"
hint_of MapRoom = codes "take fewer entries, or smaller values"
hint_of Memory = []
hint_of (UnknownMap slot) = codes "maps are counted from 0: add the row, or correct the index"
hint_of (ValuePointer slot) = codes "look the value up by helper 1, or correct the offset"
