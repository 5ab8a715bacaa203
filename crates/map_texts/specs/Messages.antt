-- The code of each error, the sentence that says what is wrong, and the hint.
use Rattle.std.specs.Prelude.{ℕ, List, [], codes}
use Rattle.map_texts.specs.declared.errors.MapTextErrorKind.{MapTextErrorKind}
use Rattle.map_texts.specs.declared.errors.MapTextErrorKind.TheVariants.{NoForm, NoMap, KeySize, ValueSize, NoRoom, LongLine, ReadFailed}

abbrev pub code_of : MapTextErrorKind → List ℕ
code_of NoForm = codes "M1"
code_of NoMap = codes "M2"
code_of KeySize = codes "M3"
code_of ValueSize = codes "M4"
code_of NoRoom = codes "M5"
code_of LongLine = codes "M6"
code_of ReadFailed = codes "M7"

abbrev pub sentence_of : MapTextErrorKind → List ℕ
sentence_of NoForm = codes "the line does not have the form map <index> <key> <value>"
sentence_of NoMap = codes "no map has this index"
sentence_of KeySize = codes "the key has another size than the map's keys"
sentence_of ValueSize = codes "the value has another size than the map's values"
sentence_of NoRoom = codes "the hash map is full, or the index is past the array's end"
sentence_of LongLine = codes "the line is longer than any line of this image's maps"
sentence_of ReadFailed = codes "the text cannot be read"

-- a text that cannot be read has no hint
abbrev pub hint_of : MapTextErrorKind → List ℕ
hint_of NoForm =
    codes "one space between fields, two hexadecimal digits for each byte; # begins a comment"
hint_of NoMap = codes "maps are counted from 0, in the order of the image"
hint_of KeySize = codes "write all bytes of the key, zeros too"
hint_of ValueSize = codes "write all bytes of the value, zeros too"
hint_of NoRoom = codes "take fewer keys, or give the map more entries"
hint_of LongLine = codes "look for a line feed that is missing"
hint_of ReadFailed = []
