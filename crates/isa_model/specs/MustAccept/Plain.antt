-- Plain programs: arithmetic without memory, and forward jumps.
use Rattle.std.specs.Prelude.{◌≡◌, ◌≢◌, ℕ, Some, []}
use Rattle.isa_model.specs.declared.registers.Reg.TheVariants.{R10}
use Rattle.isa_model.specs.declared.instructions.Insn.{Insn}
use Rattle.isa_model.specs.Code.Instructions.{Program, fetch, writes}
use Rattle.isa_model.specs.MustAccept.Paths.{IsPlainForm, IsWhole, IsForward, AreWritten}

-- only arithmetic, wide number loads, forward jumps and exits; each register that is needed was
-- written, on each path
pub record IsPlain (p : Program) : Type 0 where
  pub forms : (slot : ℕ) (i : Insn) → fetch p slot ≡ Some i → IsPlainForm i
  pub whole : IsWhole p
  pub forward : IsForward p
  pub own : (slot : ℕ) (i : Insn) → fetch p slot ≡ Some i → writes i ≢ Some R10
  pub written : AreWritten p []
