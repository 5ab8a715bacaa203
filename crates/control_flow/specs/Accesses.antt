-- The registers that instructions read and write.
use Rattle.std.specs.Prelude.{List, [], ◌∷◌}
use Rattle.std.specs.Option.{option_to_list}
use Rattle.isa_model.specs.declared.registers.Reg.{Reg}
use Rattle.isa_model.specs.declared.registers.Reg.TheVariants.{R0, R1, R2, R3, R4, R5}
use Rattle.isa_model.specs.declared.instructions.Insn.{Insn}
use Rattle.isa_model.specs.declared.instructions.Insn.TheVariants.{CallHelper, CallLocal}
use Rattle.isa_model.specs.Code.Instructions.{writes}
use Rattle.isa_model.specs.MustAccept.Paths.{needs}

-- the registers that an instruction reads: an exit reads r0, and a local call reads its arguments
-- r1 to r5
abbrev pub read_registers : Insn → List Reg
read_registers (CallLocal by) = R1 ∷ R2 ∷ R3 ∷ R4 ∷ R5 ∷ []
read_registers i = needs i

-- the registers that have another value after an instruction; a call writes r0 and leaves r1 to r5
-- unset
abbrev pub written_registers : Insn → List Reg
written_registers (CallLocal by) = R0 ∷ R1 ∷ R2 ∷ R3 ∷ R4 ∷ R5 ∷ []
written_registers (CallHelper number) = R0 ∷ R1 ∷ R2 ∷ R3 ∷ R4 ∷ R5 ∷ []
written_registers i = option_to_list (writes i)
