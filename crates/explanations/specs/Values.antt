-- What registers held where a run stopped, as text.
use Rattle.std.specs.Prelude.{ℕ, ◌==◌, List, ◌++◌, codes, decimal, if◌then◌else◌}
use Rattle.std.specs.Fmt.{signed_decimal}
use Rattle.std.specs.Int.{w64, cast_signed}
use Rattle.std.specs.List.{flat_map}
use Rattle.isa_model.specs.declared.registers.Reg.{Reg}
use Rattle.isa_model.specs.declared.registers.Reg.TheVariants.{R10}
use Rattle.isa_model.specs.declared.values.Region.{Region}
use Rattle.isa_model.specs.declared.values.Region.TheVariants.{Context, Packet, PacketEnd, Map, CallFrame, MapValue}
use Rattle.isa_model.specs.declared.values.Value.{Value}
use Rattle.isa_model.specs.declared.values.Value.TheVariants.{Unset, Num, Ptr}
use Rattle.isa_model.specs.declared.instructions.Insn.{Insn}
use Rattle.isa_model.specs.Code.Registers.{reg_number}
use Rattle.isa_model.specs.Machine.States.{value_at}
use Rattle.explanations.specs.Lines.{concerned}

-- a frame pointer, where r10 holds this: of the function that runs, or of another call
abbrev pub owner_of : ℕ → Value → List ℕ
owner_of serial (Ptr (CallFrame running) offset) =
    if serial == running then codes "" else codes " of another call"
owner_of serial value = codes " of another call"

-- a pointer, where r10 holds this; offsets into a call frame count from its end
abbrev pub region_words : Value → Region → List ℕ → List ℕ
region_words own Context offset = codes "context pointer at " ++ offset
region_words own Packet offset = codes "packet pointer at " ++ offset
region_words own PacketEnd offset = codes "packet end at " ++ offset
region_words own (Map m) offset = codes "map " ++ decimal m
region_words own (CallFrame serial) offset =
    codes "frame pointer at " ++ (offset ++ owner_of serial own)
region_words own (MapValue m serial) offset =
    codes "value of map " ++ (decimal m ++ (codes " at " ++ offset))

abbrev pub value_words : Value → Value → List ℕ
value_words own Unset = codes "unset"
value_words own (Num n) = codes "number " ++ signed_decimal (cast_signed w64 n)
value_words own (Ptr region offset) = region_words own region (signed_decimal offset)

abbrev pub value_line : List Value → Reg → List ℕ
value_line regs r =
    codes "r" ++ (decimal (reg_number r)
    ++ (codes ": "
    ++ (value_words (value_at regs (reg_number R10)) (value_at regs (reg_number r))
    ++ codes "\n")))

-- the registers that concern an instruction, a line each
unfoldable pub value_lines : List Value → Insn → List ℕ
value_lines regs i = flat_map (value_line regs) (concerned i)
