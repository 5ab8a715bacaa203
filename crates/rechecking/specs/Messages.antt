-- The code of each refusal of a table, and the sentence that says what is wrong.
use Rattle.std.specs.Prelude.{ℕ, List, codes}
use Rattle.control_flow.specs.Messages as flow
use Rattle.table_entries.specs.declared.refusals.TableRefusal.{TableRefusal}
use Rattle.table_entries.specs.declared.refusals.TableRefusal.TheVariants as refusal
use Rattle.rechecking.specs.declared.errors.TableError.{TableError}
use Rattle.rechecking.specs.declared.errors.TableError.TheVariants.{Flow, Bytes, Start, Step, Successor}

abbrev pub bytes_code : TableRefusal → List ℕ
bytes_code refusal.Magic = codes "P1"
bytes_code refusal.Short = codes "P2"
bytes_code refusal.Long = codes "P3"
bytes_code refusal.Count = codes "P4"
bytes_code (refusal.Entry k) = codes "P5"
bytes_code refusal.Memory = codes "P9"

abbrev pub code_of : TableError → List ℕ
code_of (Flow error slot) = flow.code_of error
code_of (Bytes error) = bytes_code error
code_of Start = codes "P6"
code_of (Step k why) = codes "P7"
code_of (Successor k) = codes "P8"

abbrev pub bytes_sentence : TableRefusal → List ℕ
bytes_sentence refusal.Magic = codes "the bytes do not begin with XPT1"
bytes_sentence refusal.Short = codes "the table is shorter than its head, or than its entries"
bytes_sentence refusal.Long = codes "the table is longer than its entries"
bytes_sentence refusal.Count = codes "the table has no entries, or more than 1000000"
bytes_sentence (refusal.Entry k) = codes "a field of the entry has a value that is not allowed"
bytes_sentence refusal.Memory = codes "out of memory"

abbrev pub sentence_of : TableError → List ℕ
sentence_of (Flow error slot) = flow.sentence_of error
sentence_of (Bytes error) = bytes_sentence error
sentence_of Start = codes "the first entry does not cover the start of a run"
sentence_of (Step k why) = codes "the step of the entry is refused"
sentence_of (Successor k) =
    codes "the named entries do not cover its successors, or their numbers are not smaller"
