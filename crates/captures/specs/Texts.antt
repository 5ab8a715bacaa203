-- The text of a packet frame: a line with its head, and a line for each 16 of its bytes, with their
-- offset, in hexadecimal, and as characters. docs/FORMATS.md.
use Rattle.std.specs.Prelude.{ℕ, zero, suc, ◌+◌, ◌*◌, ◌-◌, ◌/◌, ◌%◌, ◌==◌, List, [], ◌∷◌, ◌++◌, length, take, drop, replicate, nat_lt, codes, decimal, if◌then◌else◌}
use Rattle.std.specs.List.{flat_map}
use Rattle.isa_model.specs.Reporting.Streams.{PacketFrame}

-- ---- the head

-- a reason, if there is one
abbrev pub reason_text : ℕ → List ℕ
reason_text reason = if reason == 0 then [] else codes " reason " ++ decimal reason

-- the first line of a frame
unfoldable pub head_line : PacketFrame → List ℕ
head_line f =
    codes "frame "
    ++ (decimal f.head.time
    ++ (codes " interface "
    ++ (decimal f.head.interface
    ++ (codes " queue "
    ++ (decimal f.head.queue ++ (reason_text f.reason ++ codes "\n"))))))

-- ---- bytes

-- a hexadecimal digit
abbrev pub hex_digit : ℕ → ℕ
hex_digit n = if nat_lt n 10 then 48 + n else 87 + n

abbrev pub byte_digits : ℕ → List ℕ
byte_digits byte = hex_digit (byte / 16) ∷ hex_digit (byte % 16) ∷ []

-- the digits of a byte, and a space after them
abbrev pub byte_column : ℕ → List ℕ
byte_column byte = hex_digit (byte / 16) ∷ hex_digit (byte % 16) ∷ 32 ∷ []

-- a byte as a character of ASCII, if it is one that is printed, or else a full stop
abbrev pub shown_byte : ℕ → ℕ
shown_byte byte = if nat_lt byte 32 then 46 else if nat_lt byte 127 then byte else 46

-- what stands where bytes are missing in the last line, so that the characters of all lines are
-- below one another
abbrev pub blank_columns : ℕ → List ℕ
blank_columns count = replicate (48 - 3 * count) 32

-- the line of up to 16 bytes at an offset
unfoldable pub row_line : ℕ → List ℕ → List ℕ
row_line offset row =
    codes "  "
    ++ (byte_digits (offset / 256)
    ++ (byte_digits (offset % 256)
    ++ (codes ": "
    ++ (flat_map byte_column row
    ++ (blank_columns (length row)
    ++ (codes "|" ++ (flat_map (λ byte. shown_byte byte ∷ []) row ++ codes "|\n")))))))

-- the line of this number
abbrev pub row_at : List ℕ → ℕ → List ℕ
row_at body k = row_line (16 * k) (take 16 (drop (16 * k) body))

-- the first lines
unfoldable pub rows_text : List ℕ → ℕ → List ℕ
rows_text body zero = []
rows_text body (suc k) = rows_text body k ++ row_at body k

-- how many lines there are
abbrev pub row_count : List ℕ → ℕ
row_count body = (length body + 15) / 16

-- the text of a frame
abbrev pub frame_text : PacketFrame → List ℕ
frame_text f = head_line f ++ rows_text f.body (row_count f.body)
