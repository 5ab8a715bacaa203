-- Slots from which no instruction is refused if each register that is read there is a number.
use Rattle.std.specs.Prelude.{◌≡◌, ◌≢◌, ℕ, ◌<◌, Some}
use Rattle.isa_model.specs.declared.versions.Version.TheVariants.{One}
use Rattle.isa_model.specs.declared.registers.Reg.TheVariants.{R10}
use Rattle.isa_model.specs.declared.instructions.Insn.{Insn}
use Rattle.isa_model.specs.Code.Instructions.{Program, fetch, writes}
use Rattle.isa_model.specs.MustAccept.Paths.{IsPlainForm}
use Rattle.control_flow.specs.Liveness.{GoesTo}

-- only arithmetic, wide number loads, forward jumps and exits follow, in a program of version 1,
-- where an exit may answer with any number
pub data EndsPlainly (p : Program) : ℕ → Type 0 where
  Ends : (slot : ℕ) (i : Insn) → p.version ≡ One → fetch p slot ≡ Some i → IsPlainForm i
      → writes i ≢ Some R10
      → ((next : ℕ) → GoesTo p slot next → slot < next)
      → ((next : ℕ) → GoesTo p slot next → EndsPlainly p next)
      → EndsPlainly p slot
