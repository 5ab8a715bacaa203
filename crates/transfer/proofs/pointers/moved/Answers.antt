use Rattle.std.proofs.Common.{◌≡◌, ℕ, ◌↔◌, Option, Some, None, rules, refl, subst}
use Rattle.transfer.proofs.Common.{to_z-of_z, SFits, Scalar, IsNumber, LeavesNumber, nearest, farthest, ValueMoves}
use Rattle.std.proofs.lemmas.Option.{none-some}
use mir.Syntax.{w32, w64}
use Rattle.transfer.proofs.pointers.moved.Goals as goal

leaves : (by : Scalar) (o : Option ℕ) → ((n : ℕ) → ((o ≡ Some n) ↔ IsNumber by n))
    → LeavesNumber by o
leaves by (Some n) says = (says n).0 refl
leaves by None says = λ n is. none-some n ((says n).1 is)

pub returns-in-Stack : goal.returns-in-Stack
returns-in-Stack c =
    let fits : SFits w32 c.in-Stack.offset = search rules in
    let made = simp to_z-of_z at c.moved_frame.ensures in
    rw c.in-Stack.is
    (c.number.result, leaves c.args.by c.number.result c.number.ensures.value, made)

pub returns-in-Packet : goal.returns-in-Packet
returns-in-Packet c =
    let fixed : SFits w32 c.in-Packet.fixed = search rules in
    let least : SFits w32 c.in-Packet.least = search rules in
    let greatest : SFits w32 c.in-Packet.greatest = search rules in
    let made = simp to_z-of_z at c.packet_moved.ensures in
    rw c.in-Packet.is made

pub returns-in-MapValue : goal.returns-in-MapValue
returns-in-MapValue c =
    let o : Option ℕ = c.number-number.result in
    let least : SFits w32 c.in-MapValue.least = search rules in
    let greatest : SFits w32 c.in-MapValue.greatest = search rules in
    let near : SFits w64 c.nearest-near.result = search rules in
    let far : SFits w64 c.farthest-far.result = search rules in
    let made = simp to_z-of_z at c.value_moved.ensures in
    let moves : ValueMoves c.args.back c.in-MapValue.index c.in-MapValue.least
    c.in-MapValue.greatest (nearest c.args.by o) (farthest c.args.by o) c.value_moved.result =
    subst (λ z. ValueMoves c.args.back c.in-MapValue.index c.in-MapValue.least
    c.in-MapValue.greatest z (farthest c.args.by o) c.value_moved.result)
    c.nearest-near.ensures
    (subst (λ z.
    ValueMoves c.args.back c.in-MapValue.index c.in-MapValue.least c.in-MapValue.greatest
    c.nearest-near.result z c.value_moved.result) c.farthest-far.ensures made) in
    rw c.in-MapValue.is (o, leaves c.args.by o c.number-number.ensures.value, moves)
