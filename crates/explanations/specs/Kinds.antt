-- What is known of the value of a register or a stack slot, as text.
use Rattle.std.specs.Prelude.{ℕ, zero, suc, ◌-◌, ◌==◌, ℤ, int_lt, List, [], ◌++◌, codes, decimal, if◌then◌else◌}
use Rattle.std.specs.Fmt.{signed_decimal}
use Rattle.reg_state.specs.declared.kinds.Kind.{Kind}
use Rattle.reg_state.specs.declared.kinds.Kind.TheVariants.{Unset, Number, Context, Stack, Packet, PacketEnd, Map, MapValue, MapValueOrNull}
use Rattle.explanations.specs.Numbers.{number_words}

-- how many calls up from the innermost call frame a call frame is
abbrev pub calls_up : ℕ → List ℕ
calls_up zero = []
calls_up (suc zero) = codes ", 1 call up"
calls_up n = codes ", " ++ (decimal n ++ codes " calls up")

-- the variable part of a pointer into the packet, where it has one: its identity and its limits
abbrev pub part_words : ℕ → ℤ → ℤ → List ℕ
part_words identity least greatest =
    if identity == 0 then []
    else codes " after part "
    ++ (decimal identity
    ++ (codes " of " ++ (signed_decimal least ++ (codes " to " ++ signed_decimal greatest))))

-- words for the point from which the proved bytes are counted
abbrev pub proved_words : ℕ → List ℕ
proved_words identity =
    if identity == 0 then codes "bytes proved" else codes "bytes after the part proved"

-- a pointer into the packet: its fixed part, its variable part, and the bytes that are proved
abbrev pub packet_words : ℤ → List ℕ → ℕ → List ℕ → List ℕ
packet_words fixed part proved behind =
    codes "packet pointer at "
    ++ (signed_decimal fixed
    ++ (part ++ (codes ", " ++ (decimal proved ++ (codes " " ++ behind)))))

-- a pointer into a value of a map, at an offset
abbrev pub map_value_words : ℕ → ℤ → ℤ → List ℕ
map_value_words m least greatest =
    if int_lt least greatest then
    codes "value of map "
    ++ (decimal m
    ++ (codes " at " ++ (signed_decimal least ++ (codes " to " ++ signed_decimal greatest))))
    else codes "value of map " ++ (decimal m ++ (codes " at " ++ signed_decimal least))

-- what is known of a value, where the innermost call frame has this index; offsets on the stack
-- count from its end
abbrev pub kind_words : ℕ → Kind → List ℕ
kind_words innermost Unset = codes "unset"
kind_words innermost (Number numbers) = number_words numbers
kind_words innermost Context = codes "context"
kind_words innermost (Stack frame offset) =
    codes "frame pointer at " ++ (signed_decimal offset ++ calls_up (innermost - frame))
kind_words innermost (Packet fixed identity least greatest proved) =
    packet_words fixed (part_words identity least greatest) proved (proved_words identity)
kind_words innermost PacketEnd = codes "packet end"
kind_words innermost (Map m) = codes "map " ++ decimal m
kind_words innermost (MapValue m least greatest) = map_value_words m least greatest
kind_words innermost (MapValueOrNull m identity) =
    codes "value of map " ++ (decimal m ++ codes ", null not tested")
