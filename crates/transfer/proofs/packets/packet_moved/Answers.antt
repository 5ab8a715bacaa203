use Rattle.std.proofs.Common.{rules, inl, inr, refl, subst, w64, FitsSigned}
use Rattle.transfer.proofs.Common.{to_z-of_z, MovesBy}
use Rattle.transfer.proofs.packets.packet_moved.Goals as goal

pub returns-in-Some : goal.returns-in-Some
returns-in-Some c =
    let f : FitsSigned w64 c.cast_signed.result = search rules in
    let moves = simp to_z-of_z at c.moved.ensures in
    inl (record {
      number = c.in-Some.number;
      alone = (c.in-Some.ensures.value c.in-Some.number).0 refl;
      moves =
          subst (λ z. MovesBy c.args.state.now c.args.back c.args.pointer z c.moved.result)
          c.cast_signed.ensures moves;
    })

pub returns-in-None : goal.returns-in-None
returns-in-None c =
    let least : FitsSigned w64 c.args.by.range.wide.signed_least = search rules in
    let greatest : FitsSigned w64 c.args.by.range.wide.signed_greatest = search rules in
    let moves = simp to_z-of_z at c.moved_between.ensures in
    inr (record { several = λ n is. absurd (cc ((c.in-None.ensures.value n).1 is)); moves = moves })
