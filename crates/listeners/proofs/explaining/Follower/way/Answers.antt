use Rattle.listeners.proofs.Common.{◌≡◌, ◌∙◌, ◌-◌, ◌<◌, ◌≤◌, ◌∷◌, Some, length, arith, sym, ap, subst, slice_get, IsLed, HasFollowed}
use Rattle.std.proofs.lemmas.Option.{slice_get-get_or}
use Rattle.listeners.proofs.Following.{slots_some, LedAt-first, LedAt-next, LedAt-last}
use Rattle.listeners.proofs.explaining.Follower.way.Goals as goal

pub loop-index-init : goal.loop-index-init
loop-index-init c =
    λ how path last h. LedAt-first how c.args.self.now.image.now path c.new-way.result.items h.walk
    c.new-way.ensures

pub loop-index-preserved : goal.loop-index-preserved
loop-index-preserved c = λ how path last h.
    let slots = c.args.self.now.slots.items in
    let k = c.loop-index.index in
    let some : 1 ≤ k = c.loop-index.auto.index in
    let inside : k < length slots =
    omega (arith, c.len-index-end.ensures, c.args.self.now.slots.ok.0, c.loop-index-test.true) in
    let before : k - 1 < length slots = omega (arith, some, inside) in
    let from : slice_get slots (k - 1) ≡ Some c.index.result.now =
    slice_get-get_or slots (k - 1) c.index.result.now before ∙ ap Some (sym c.index.ensures) in
    let to : slice_get slots k ≡ Some c.index-in-loop-index.result.now =
    slice_get-get_or slots k c.index-in-loop-index.result.now inside
    ∙ ap Some (sym c.index-in-loop-index.ensures) in
    LedAt-next how c.args.self.now.image.now path slots k c.index.result.now
    c.index-in-loop-index.result.now c.loop-index.way.items c.go_on.new.way.items h.walk
    h.slots_are some from to
    (c.in_ok-go_on.ensures how) (c.loop-index.invariant how path last h)

pub returns : goal.returns
returns c = λ how p before s h.
    let image = c.args.self.now.image.now in
    let slots = c.args.self.now.slots.items in
    let k = c.loop-index.index in
    let way = c.loop-index.way.items in
    let turns = c.args.self.now.turns in
    let own =
    subst (λ q. HasFollowed how image slots c.args.self.now.slot turns q (s ∷ before) s)
    (sym h.program) h in
    let some : 1 ≤ length slots = slots_some slots s before h.slots_are in
    let count : k ≡ length slots =
    omega (
      arith,
      some,
      c.len-index-end.ensures,
      c.args.self.now.slots.ok.0,
      c.loop-index-test.false,
      c.loop-index.auto.index-end,
    ) in
    subst (λ q. IsLed how q s way) h.program
    (LedAt-last how image before slots s k way h.slots_are count
    (c.loop-index.invariant how (s ∷ before) s own))
