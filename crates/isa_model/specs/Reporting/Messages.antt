-- The code of each fault of a frame stream, and the sentence that says what is wrong.
use Rattle.std.specs.Prelude.{ℕ, List, codes}
use Rattle.isa_model.specs.declared.streams.Fault.{Fault}
use Rattle.isa_model.specs.declared.streams.Fault.TheVariants.{BadMagic, TruncatedHead, TooLong, TruncatedBody, ReadFailed, TooManyRecords}

abbrev pub code_of : Fault → List ℕ
code_of BadMagic = codes "F1"
code_of TruncatedHead = codes "F2"
code_of TooLong = codes "F3"
code_of TruncatedBody = codes "F4"
code_of ReadFailed = codes "F5"
code_of TooManyRecords = codes "F6"

abbrev pub sentence_of : Fault → List ℕ
sentence_of BadMagic = codes "the stream does not begin with XPF1 or XPF2"
sentence_of TruncatedHead = codes "the stream ends within the head of a record"
sentence_of TooLong = codes "the frame is longer than 4096 bytes, or than 9216 in XPF2"
sentence_of TruncatedBody = codes "the stream ends within the bytes of a frame"
sentence_of ReadFailed = codes "the stream cannot be read"
sentence_of TooManyRecords = codes "the stream has more than 4294967295 records"
