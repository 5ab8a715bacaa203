-- Registers and their numbers.
use Rattle.control_flow.proofs.Common.{◌≡◌, ℕ, zero, suc, ◌<◌, Some, refl, ap, ◌∙◌, arith, same_Some, Reg, R0, R1, R2, R3, R4, R5, R6, R7, R8, R9, R10, reg_number, reg_numbered}

-- each number below 11 is a register's
pub numbered : (n : ℕ) → n < 11 → (r : Reg) × (reg_numbered n ≡ Some r) × (reg_number r ≡ n)
numbered zero h = (R0, refl, refl)
numbered (suc zero) h = (R1, refl, refl)
numbered (suc (suc zero)) h = (R2, refl, refl)
numbered (suc (suc (suc zero))) h = (R3, refl, refl)
numbered (suc (suc (suc (suc zero)))) h = (R4, refl, refl)
numbered (suc (suc (suc (suc (suc zero))))) h = (R5, refl, refl)
numbered (suc (suc (suc (suc (suc (suc zero)))))) h = (R6, refl, refl)
numbered (suc (suc (suc (suc (suc (suc (suc zero))))))) h = (R7, refl, refl)
numbered (suc (suc (suc (suc (suc (suc (suc (suc zero)))))))) h = (R8, refl, refl)
numbered (suc (suc (suc (suc (suc (suc (suc (suc (suc zero))))))))) h = (R9, refl, refl)
numbered (suc (suc (suc (suc (suc (suc (suc (suc (suc (suc zero)))))))))) h = (R10, refl, refl)
numbered (suc (suc (suc (suc (suc (suc (suc (suc (suc (suc (suc n))))))))))) h =
    absurd (omega arith)

-- the register of a number has it
pub number_of : (n : ℕ) (r : Reg) → n < 11 → Some r ≡ reg_numbered n → reg_number r ≡ n
number_of n r h e =
    let found = numbered n h in
    let same : r ≡ found.0 = same_Some r found.0 (e ∙ found.1) in
    ap reg_number same ∙ found.2
