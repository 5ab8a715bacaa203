-- Which stack slots instructions read and write, and which take the call frame's address.
use Rattle.control_flow.proofs.Common.{◌≡◌, ℕ, ◌<◌, ◌≤◌, length, refl, arith, ◌↔◌, ℤ, Reg, R10, Place, Insn, Load, LoadSx, Store, StoreConstant, Program, IsOneOf, read_registers, ReadsSlot, WritesSlot, TakesFrameAddress, TakesFrameAddressAt, FrameAddressIsTaken}
use Rattle.isa_model.specs.declared.sizes.Size.{Size}
use Rattle.isa_model.specs.declared.sizes.Size.TheVariants.{U64}
use Rattle.isa_model.specs.declared.sizes.SignedSize.{SignedSize}
use Rattle.control_flow.proofs.FlowLaws.{BeginsInsn-inside, fetch-BeginsInsn}

pub reads_below : (i : Insn) (j : ℕ) → ReadsSlot i j → j < 64
reads_below (Load size d place) j (n, is, low, high) = let inside = is.0 in omega arith
reads_below (LoadSx size d place) j (n, is, low, high) = let inside = is.0 in omega arith
reads_below i j h = absurd h

pub writes_below : (i : Insn) (j : ℕ) → WritesSlot i j → j < 64
writes_below (Store U64 place r) j h = h.0
writes_below (Store size place r) j h = absurd h
writes_below (StoreConstant U64 place k) j h = h.0
writes_below (StoreConstant size place k) j h = absurd h
writes_below i j h = absurd h

-- all but loads and stores take the call frame's address if they read r10
pub others_take_address : (i : Insn) → ((s : Size) (d : Reg) (q : Place) → i ≡ Load s d q → ⊥)
    → ((s : SignedSize) (d : Reg) (q : Place) → i ≡ LoadSx s d q → ⊥)
    → ((s : Size) (q : Place) (k : ℤ) → i ≡ StoreConstant s q k → ⊥)
    → ((s : Size) (q : Place) (r : Reg) → i ≡ Store s q r → ⊥)
    → (A B : Type 0) → A ↔ B → B ↔ IsOneOf (read_registers i) R10 → A ↔ TakesFrameAddress i
others_take_address (Load s d q) load signed constant store A B x y = absurd (load s d q refl)
others_take_address (LoadSx s d q) load signed constant store A B x y = absurd (signed s d q refl)
others_take_address (StoreConstant s q k) load signed constant store A B x y =
    absurd (constant s q k refl)
others_take_address (Store s q r) load signed constant store A B x y = absurd (store s q r refl)
others_take_address i load signed constant store A B x y = (λ a. y.0 (x.0 a), λ h. x.1 (y.1 h))

-- where no slot of the code takes the frame's address, none does
pub none_takes : (p : Program) (n : ℕ) → length p.insns ≤ n
    → ((k : ℕ) → k < n → ¬ TakesFrameAddressAt p k) → ¬ FrameAddressIsTaken p
none_takes p n all none (k, (i, here, takes)) =
    let inside = BeginsInsn-inside p k (fetch-BeginsInsn p k i here) in
    none k (omega arith) (i, here, takes)
