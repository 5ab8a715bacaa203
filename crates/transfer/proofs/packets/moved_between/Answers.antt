use Rattle.transfer.proofs.Common.{◌≡◌, ℕ, ℤ, Some, None, Bool, inl, inr, rules, ap, subst, sym, ◌∙◌, w32, w64, pos, ◌-ℤ◌, FitsSigned, to_z-of_z, Kind, State, lowest, highest, least_part, greatest_part, AreOffsets, AreOffsetParts, OffsetsHaveRoom, StaysProved, IsFreshPointer, IsMovedBetween}
use Rattle.transfer.specs.declared.packets.PacketPointer.{PacketPointer}
use Rattle.transfer.proofs.packets.moved_between.Goals as goal

-- the fixed part stays
variable : (a : State) (back : Bool) (p : PacketPointer) (near far from to least greatest : ℤ)
    (proved : ℕ) (k : Kind)
    → (from ≡ lowest back p near far) × (to ≡ highest back p near far)
    × AreOffsets (lowest back p near far) (highest back p near far)
    → AreOffsetParts (from -ℤ p.fixed) (to -ℤ p.fixed) (Some (least, greatest))
    → StaysProved p.proved (greatest -ℤ p.greatest) proved
    → IsFreshPointer a p.fixed least greatest proved k → IsMovedBetween a back p near far k
variable a back p near far from to least greatest proved k offsets parts stays fresh =
    let first : from -ℤ p.fixed ≡ least_part back p near far = ap (λ z. z -ℤ p.fixed) offsets.0 in
    let last : to -ℤ p.fixed ≡ greatest_part back p near far = ap (λ z. z -ℤ p.fixed) offsets.1 in
    let low : least ≡ least_part back p near far = parts.0 ∙ first in
    let high : greatest ≡ greatest_part back p near far = parts.1 ∙ last in
    record {
      within = offsets.2;
      pointer = inl (record {
        room =
            subst (λ z. OffsetsHaveRoom z (greatest_part back p near far)) first
            (subst (OffsetsHaveRoom (from -ℤ p.fixed)) last parts.2);
        proved = proved;
        stays = subst (λ z. StaysProved p.proved (z -ℤ p.greatest) proved) high stays;
        pointer =
            subst (λ z. IsFreshPointer a p.fixed z (greatest_part back p near far) proved k) low
            (subst (λ z. IsFreshPointer a p.fixed least z proved k) high fresh);
      });
    }

-- there is no room for that
whole : (a : State) (back : Bool) (p : PacketPointer) (near far from to : ℤ) (k : Kind)
    → (from ≡ lowest back p near far) × (to ≡ highest back p near far)
    × AreOffsets (lowest back p near far) (highest back p near far)
    → AreOffsetParts (from -ℤ p.fixed) (to -ℤ p.fixed) None → IsFreshPointer a (pos 0) from to 0 k
    → IsMovedBetween a back p near far k
whole a back p near far from to k offsets none fresh =
    let first : from -ℤ p.fixed ≡ least_part back p near far = ap (λ z. z -ℤ p.fixed) offsets.0 in
    let last : to -ℤ p.fixed ≡ greatest_part back p near far = ap (λ z. z -ℤ p.fixed) offsets.1 in
    record {
      within = offsets.2;
      pointer = inr (
        λ room. none
            (subst (λ z. OffsetsHaveRoom z (to -ℤ p.fixed)) (sym first)
            (subst (OffsetsHaveRoom (least_part back p near far)) (sym last) room)),
        subst (λ z. IsFreshPointer a (pos 0) z (highest back p near far) 0 k) offsets.0
            (subst (λ z. IsFreshPointer a (pos 0) from z 0 k) offsets.1 fresh),
      );
    }

pub returns-in-Some : goal.returns-in-Some
returns-in-Some c =
    let p = c.args.pointer in
    let near : FitsSigned w64 c.args.near = c.ranges.near in
    let far : FitsSigned w64 c.args.far = c.ranges.far in
    let fixed : FitsSigned w32 p.fixed = search rules in
    let old : FitsSigned w32 p.greatest = search rules in
    let from : FitsSigned w32 c.in-Ok.from = search rules in
    let to : FitsSigned w32 c.in-Ok.to = search rules in
    let least : FitsSigned w32 c.in-Some.least = search rules in
    let greatest : FitsSigned w32 c.in-Some.greatest = search rules in
    variable c.args.state.now c.args.back p c.args.near c.args.far c.in-Ok.from c.in-Ok.to
    c.in-Some.least c.in-Some.greatest c.still_proved-proved.result
    c.fresh_pointer.result (simp to_z-of_z at c.in-Ok.ensures) (simp to_z-of_z at c.in-Some.ensures)
    (simp to_z-of_z at c.still_proved-proved.ensures)
    (simp to_z-of_z at c.fresh_pointer.ensures)

pub returns-in-None : goal.returns-in-None
returns-in-None c =
    let p = c.args.pointer in
    let near : FitsSigned w64 c.args.near = c.ranges.near in
    let far : FitsSigned w64 c.args.far = c.ranges.far in
    let fixed : FitsSigned w32 p.fixed = search rules in
    let from : FitsSigned w32 c.in-Ok.from = search rules in
    let to : FitsSigned w32 c.in-Ok.to = search rules in
    whole c.args.state.now c.args.back p c.args.near c.args.far c.in-Ok.from c.in-Ok.to
    c.fresh_pointer-in-None.result
    (simp to_z-of_z at c.in-Ok.ensures) (simp to_z-of_z at c.in-None.ensures)
    (simp to_z-of_z at c.fresh_pointer-in-None.ensures)
