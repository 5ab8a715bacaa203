-- Registers and their numbers. RFC 9669, sections 2 and 3.1.
use Rattle.std.specs.Prelude.{ℕ, ◌==◌, if◌then◌else◌, Option, Some, None}
use Rattle.isa_model.specs.declared.registers.Reg.{Reg}
use Rattle.isa_model.specs.declared.registers.Reg.TheVariants.{R0, R1, R2, R3, R4, R5, R6, R7, R8, R9, R10}

abbrev pub reg_number : Reg → ℕ
reg_number R0 = 0
reg_number R1 = 1
reg_number R2 = 2
reg_number R3 = 3
reg_number R4 = 4
reg_number R5 = 5
reg_number R6 = 6
reg_number R7 = 7
reg_number R8 = 8
reg_number R9 = 9
reg_number R10 = 10

-- the register of a number, if there is one
abbrev pub reg_numbered : ℕ → Option Reg
reg_numbered n =
    if n == 0 then Some R0
    else if n == 1 then Some R1
    else if n == 2 then Some R2
    else if n == 3 then Some R3
    else if n == 4 then Some R4
    else if n == 5 then Some R5
    else if n == 6 then Some R6
    else if n == 7 then Some R7
    else if n == 8 then Some R8
    else if n == 9 then Some R9
    else if n == 10 then Some R10
    else None
