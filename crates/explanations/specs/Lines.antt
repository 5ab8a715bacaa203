-- The registers and stack slots of a state that concern an instruction, a line each.
use Rattle.std.specs.Prelude.{ℕ, ◌+◌, ◌-◌, ◌/◌, ◌%◌, min, ◌+ℤ◌, ℤ, List, [], ◌∷◌, ◌++◌, length, slice_get, Option, Some, None, Bool, ◌==◌, ◌&&◌, nat_lt, codes, decimal, if◌then◌else◌}
use Rattle.std.specs.List.{flat_map}
use Rattle.std.specs.Option.{option_map_or}
use Rattle.isa_model.specs.declared.registers.Reg.{Reg}
use Rattle.isa_model.specs.declared.registers.Reg.TheVariants.{R0, R1, R2, R3}
use Rattle.isa_model.specs.declared.instructions.Place.{Place}
use Rattle.isa_model.specs.declared.instructions.Insn.{Insn}
use Rattle.isa_model.specs.declared.instructions.Insn.TheVariants.{Load, LoadSx, Atomic, Exchange, CompareExchange, CallHelper, Exit}
use Rattle.isa_model.specs.declared.map_defs.MapDef.{MapDef}
use Rattle.isa_model.specs.Code.Registers.{reg_number}
use Rattle.isa_model.specs.Code.Instructions.{reads}
use Rattle.isa_model.specs.declared.helpers.Helper.{Helper}
use Rattle.isa_model.specs.declared.helpers.Helper.TheVariants.{MapLookupElem, MapUpdateElem, MapDeleteElem}
use Rattle.isa_model.specs.Code.Helpers.{helper_numbered}
use Rattle.reg_state.specs.declared.kinds.Kind.{Kind}
use Rattle.reg_state.specs.declared.kinds.Kind.TheVariants.{Number, Stack, Map}
use Rattle.stack_state.specs.declared.states.State.{State}
use Rattle.stack_state.specs.Meaning.{stack_slots_of}
use Rattle.stack_state.specs.Places.{kind_of}
use Rattle.stack_state.specs.Slots.{frame_slots}
use Rattle.transfer.specs.declared.refusals.Refusal.TheVariants.{NoAction}
use Rattle.walks.specs.declared.refusals.Refusal.{Refusal}
use Rattle.walks.specs.declared.refusals.Refusal.TheVariants.{Step}
use Rattle.walks.specs.declared.explained.Jump.{Jump}
use Rattle.explanations.specs.Numbers.{half_words}
use Rattle.explanations.specs.Kinds.{kind_words}
use Rattle.explanations.specs.Slots.{byte_at, slot_line, first_open}

-- ---- registers

-- those that it reads; an exit returns r0
abbrev pub concerned : Insn → List Reg
concerned Exit = R0 ∷ []
concerned i = reads i

abbrev pub register_line : State → Reg → List ℕ
register_line a r =
    codes "r" ++ (decimal (reg_number r)
    ++ (codes ": " ++ (kind_words (length a.callers.items) (kind_of a r) ++ codes "\n")))

abbrev pub register_lines : State → Insn → List ℕ
register_lines a i = flat_map (register_line a) (concerned i)

-- ---- answers

-- the low half of a number that has to name an action, and what helps
abbrev pub low_half_line : Kind → List ℕ
low_half_line (Number numbers) =
    codes "low half of r0: "
    ++ (half_words numbers ++ codes "; actions are 0 to 4: mask it (r0 &= 3) or test it\n")
low_half_line k = []

-- the line of r0, where an exit is not shown to answer with an action
abbrev pub answer_line : State → Refusal → List ℕ
answer_line a (Step NoAction) = low_half_line (kind_of a R0)
answer_line a e = []

-- ---- stack slots

-- the stack slot that is read through a frame pointer
abbrev pub read_line : State → Kind → ℤ → List ℕ
read_line a (Stack frame offset) by =
    option_map_or (λ at. slot_line a frame (at / 8)) (byte_at (offset +ℤ by)) []
read_line a k by = []

abbrev pub read_slot_line : State → Place → List ℕ
read_slot_line a place = read_line a (kind_of a place.base) place.offset

-- of a helper's bytes, the first stack slot that is not all written
abbrev pub bytes_line : State → Kind → ℕ → List ℕ
bytes_line a (Stack frame offset) count =
    option_map_or (λ at. option_map_or (slot_line a frame) (first_open (stack_slots_of a frame)
    (at / 8) (min ((at % 8 + count + 7) / 8) (frame_slots - at / 8))) []) (byte_at offset) []
bytes_line a k count = []

abbrev pub called_row : List MapDef → Kind → Option MapDef
called_row rows (Map m) = slice_get rows m
called_row rows k = None

-- the bytes of its key and of its value, by the row of its map
abbrev pub row_lines : State → Option Helper → MapDef → List ℕ
row_lines a (Some MapLookupElem) row = bytes_line a (kind_of a R2) row.key_size
row_lines a (Some MapUpdateElem) row =
    bytes_line a (kind_of a R2) row.key_size ++ bytes_line a (kind_of a R3) row.value_size
row_lines a (Some MapDeleteElem) row = bytes_line a (kind_of a R2) row.key_size
row_lines a helper row = []

abbrev pub helper_lines : List MapDef → State → Option Helper → List ℕ
helper_lines rows a helper =
    option_map_or (row_lines a helper) (called_row rows (kind_of a R1)) []

abbrev pub stack_lines : List MapDef → State → Insn → List ℕ
stack_lines rows a (Load size d place) = read_slot_line a place
stack_lines rows a (LoadSx size d place) = read_slot_line a place
stack_lines rows a (Atomic w op fetched place r) = read_slot_line a place
stack_lines rows a (Exchange w place r) = read_slot_line a place
stack_lines rows a (CompareExchange w place r) = read_slot_line a place
stack_lines rows a (CallHelper number) = helper_lines rows a (helper_numbered number)
stack_lines rows a i = []

-- ---- the last jumps

abbrev pub is_same : Jump → Jump → Bool
is_same j k = (j.from == k.from) && (j.to == k.to)

abbrev pub jump_words : Jump → List ℕ
jump_words j = decimal j.from ++ (codes " -> " ++ decimal j.to)

-- a jump, with how often it follows itself, where it does
abbrev pub taken_words : Jump → ℕ → List ℕ
taken_words j times =
    if nat_lt 1 times then jump_words j ++ (codes ", " ++ (decimal times ++ codes " times"))
    else jump_words j

-- a jump that was taken so often, and the jumps after it
abbrev pub way_words : Jump → ℕ → List Jump → List ℕ
way_words j times [] = taken_words j times
way_words j times (k ∷ js) =
    if is_same j k then way_words j (times + 1) js
    else taken_words j times ++ (codes ", " ++ way_words k 1 js)

-- the jumps in their order, if there is one
abbrev pub way_line : List Jump → List ℕ
way_line [] = []
way_line (j ∷ js) = codes "way: " ++ (way_words j 1 js ++ codes "\n")
