-- Laws of registers and their numbers.
use Rattle.std.proofs.Common.{◌≡◌, ◌<◌, Some, refl, sym, ap, ◌∙◌, arith}
use Rattle.isa_model.proofs.Common.{same_Some, Reg, R0, R10}
use Rattle.isa_model.specs.Code.Registers.{reg_number, reg_numbered}

pub reg_number-below : (r : Reg) → reg_number r < 11
reg_number-below R10 = omega arith
reg_number-below r = omega arith

-- the number of a register leads back to the register
pub reg_numbered-reg_number : (r : Reg) → reg_numbered (reg_number r) ≡ Some r
reg_numbered-reg_number R0 = refl
reg_numbered-reg_number r = refl

-- different registers have different numbers
pub same_number : (q r : Reg) → reg_number q ≡ reg_number r → q ≡ r
same_number q r e = same_Some q r
    (sym (reg_numbered-reg_number q) ∙ ap reg_numbered e ∙ reg_numbered-reg_number r)
