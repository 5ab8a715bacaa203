-- The results and refusals of arithmetic in a state: a relation over the result for each form.
use Rattle.std.specs.Prelude.{◌≡◌, ℕ, ◌^◌, ◌<◌, ◌↔◌, ℤ, ◌+ℤ◌, ◌-ℤ◌, Bool, true, false, nat_le, unsigned_abs, if◌then◌else◌, Option, Some, None, Result, Ok, Err}
use Rattle.isa_model.specs.declared.sizes.Width.{Width}
use Rattle.isa_model.specs.declared.sizes.Width.TheVariants.{Low32, Full64}
use Rattle.isa_model.specs.declared.instructions.AluOp.{AluOp}
use Rattle.isa_model.specs.declared.instructions.AluOp.TheVariants.{Mov, Add, Sub}
use Rattle.isa_model.specs.Code.Numbers.{signed}
use Rattle.isa_model.specs.Code.Limits.{offset_limit}
use Rattle.reg_state.specs.declared.scalars.Scalar.{Scalar}
use Rattle.reg_state.specs.declared.kinds.Kind.{Kind}
use Rattle.reg_state.specs.declared.kinds.Kind.TheVariants.{Number, Stack, Packet, MapValue, MapValueOrNull}
use Rattle.reg_state.specs.Scalars.{Has, IsNumber}
use Rattle.reg_state.specs.Arithmetic.{IsAlu}
use Rattle.transfer.specs.declared.packets.PacketPointer.{PacketPointer}
use Rattle.transfer.specs.declared.refusals.Refusal.{Refusal}
use Rattle.transfer.specs.declared.refusals.Refusal.TheVariants.{PointerOperand, PointerOffset, NullNotTested}
use Rattle.stack_state.specs.declared.states.State.{State}
use Rattle.transfer.specs.Packets.{PacketMoves}
use Rattle.transfer.specs.Values.{nearest, farthest, ValueMoves}

-- ---- numbers

-- any number of 32 bits
abbrev pub IsNumber32 : Kind → Type 0
IsNumber32 (Number c) = (x : ℕ) → (Has c x ↔ (x < 2 ^ 32))
IsNumber32 k = ⊥

-- of a number, a number in this relation to it; a pointer is refused
abbrev pub OfNumber : (Scalar → Scalar → Type 0) → Kind → Result Kind Refusal → Type 0
OfNumber says (Number a) (Ok (Number c)) = says a c
OfNumber says (Number a) result = ⊥
OfNumber says k result = result ≡ Err PointerOperand

-- the low 32 bits, as MOV at 32 bits copies them
abbrev pub IsLowNumber : Scalar → Scalar → Type 0
IsLowNumber a c = IsAlu Mov Low32 a a c

-- ---- pointers

-- the number counts as a signed one
abbrev pub moved_offset : Bool → ℤ → ℕ → ℤ
moved_offset true z n = z -ℤ signed Full64 n
moved_offset false z n = z +ℤ signed Full64 n

-- a pointer to a call frame, within the limit of offsets
abbrev pub frame_pointer : ℕ → ℤ → Result Kind Refusal
frame_pointer frame z =
    if nat_le (unsigned_abs z) offset_limit then Ok (Stack frame z) else Err PointerOffset

-- the only number of a set, if it has only one
abbrev pub LeavesNumber : Scalar → Option ℕ → Type 0
LeavesNumber by (Some n) = IsNumber by n
LeavesNumber by None = (n : ℕ) → ¬ IsNumber by n

-- the pointer moves if the number is known
abbrev pub moved_frame : Bool → ℕ → ℤ → Option ℕ → Result Kind Refusal
moved_frame back frame offset (Some n) = frame_pointer frame (moved_offset back offset n)
moved_frame back frame offset None = Err PointerOffset

abbrev pub packet_pointer : ℤ → ℕ → ℤ → ℤ → ℕ → PacketPointer
packet_pointer fixed identity least greatest proved =
    record {
      fixed = fixed;
      identity = identity;
      least = least;
      greatest = greatest;
      proved = proved;
    }

abbrev pub MovesPointer : State → Bool → Kind → Scalar → Result Kind Refusal → Type 0
MovesPointer a back (Stack frame offset) by result =
    (o : Option ℕ) × LeavesNumber by o × (result ≡ moved_frame back frame offset o)
MovesPointer a back (Packet fixed identity least greatest proved) by result =
    PacketMoves a back (packet_pointer fixed identity least greatest proved) by result
MovesPointer a back (MapValue m least greatest) by result =
    (o : Option ℕ) × LeavesNumber by o
    × ValueMoves back m least greatest (nearest by o) (farthest by o) result
MovesPointer a back (MapValueOrNull index identity) by result = result ≡ Err NullNotTested
MovesPointer a back pointer by result = result ≡ Err PointerOperand

-- pointer + number and pointer - number at 64 bits only
abbrev pub PointerAndNumber : State → AluOp → Width → Kind → Scalar → Result Kind Refusal → Type 0
PointerAndNumber a Add Full64 pointer by result = MovesPointer a false pointer by result
PointerAndNumber a Sub Full64 pointer by result = MovesPointer a true pointer by result
PointerAndNumber a op w pointer by result = result ≡ Err PointerOperand

-- number + pointer
abbrev pub NumberAndPointer : State → AluOp → Width → Scalar → Kind → Result Kind Refusal → Type 0
NumberAndPointer a Add Full64 by pointer result = MovesPointer a false pointer by result
NumberAndPointer a op w by pointer result = result ≡ Err PointerOperand

-- ---- arithmetic

abbrev pub NumberAnd : State → AluOp → Width → Scalar → Kind → Result Kind Refusal → Type 0
NumberAnd a op w x (Number y) result = OfNumber (λ x z. IsAlu op w x y z) (Number x) result
NumberAnd a op w x y result = NumberAndPointer a op w x y result

abbrev pub PointerAnd : State → AluOp → Width → Kind → Kind → Result Kind Refusal → Type 0
PointerAnd a op w x (Number y) result = PointerAndNumber a op w x y result
PointerAnd a op w x y result = result ≡ Err PointerOperand

-- every operation but MOV
abbrev pub Combined : State → AluOp → Width → Kind → Kind → Result Kind Refusal → Type 0
Combined a op w (Number x) y result = NumberAnd a op w x y result
Combined a op w x y result = PointerAnd a op w x y result

-- MOV: at 64 bits the same kind, at 32 bits a number's low half
abbrev pub Copied : Width → Kind → Result Kind Refusal → Type 0
Copied Full64 y result = result ≡ Ok y
Copied Low32 y result = OfNumber IsLowNumber y result

abbrev pub Arithmetic : State → AluOp → Width → Kind → Kind → Result Kind Refusal → Type 0
Arithmetic a Mov w x y result = Copied w y result
Arithmetic a op w x y result = Combined a op w x y result
