use Rattle.maps.proofs.Common.{◌≡◌, ℕ, ◌+◌, ◌-◌, ◌/◌, ◌∙◌, List, length, true, false, sym, ap, subst, arith, T, is_some, insert, is_lt, key_order}
use Rattle.maps.proofs.InsertLaws.{IsBelow, key_at, listed_at, keys_differ, below_else_above, below_up_to, above_from, values-inserted}
use Rattle.maps.proofs.inserting.count_below.Goals as goal

pub key-requires : goal.key-requires
key-requires c =
    let keys = c.args.index.now.keys.by_place in
    let i = c.loop-low.invariant in
    let order = i.order in
    let inside = i.inside in
    let less = c.loop-low-test.true in
    ap is_some (listed_at keys c.args.key.now c.args.list.now c.requires
    (c.loop-low.low + (c.loop-low.high - c.loop-low.low) / 2) (omega arith))

pub loop-low-preserved-then-is_lt : goal.loop-low-preserved-then-is_lt
loop-low-preserved-then-is_lt c =
    let keys = c.args.index.now.keys.by_place in
    let key = c.args.key.now in
    let list = c.args.list.now in
    let i = c.loop-low.invariant in
    let order = i.order in
    let inside = i.inside in
    let less = c.loop-low-test.true in
    let m : ℕ = c.loop-low.low + (c.loop-low.high - c.loop-low.low) / 2 in
    let n = ap length c.requires in
    let listed = listed_at keys key list c.requires m (omega arith) in
    let told = c.key.ensures.key in
    let same : c.key.result.now ≡ key_at keys key m = cc in
    let compared = c.cmp.ensures in
    let tested = c.is_lt.ensures in
    let yes = c.if-is_lt.true in
    let lower : is_lt (key_order c.key.result.now key) ≡ true = cc in
    let here : IsBelow (key_at keys key m) key =
    subst (λ (k : List ℕ). IsBelow k key) same (subst T (sym lower) tt) in
    record {
      order = omega arith;
      inside = inside;
      below = λ j l. below_up_to keys key m (omega arith) here j (omega arith);
      after = i.after;
    }

pub loop-low-preserved : goal.loop-low-preserved
loop-low-preserved c =
    let keys = c.args.index.now.keys.by_place in
    let key = c.args.key.now in
    let list = c.args.list.now in
    let i = c.loop-low.invariant in
    let order = i.order in
    let inside = i.inside in
    let less = c.loop-low-test.true in
    let m : ℕ = c.loop-low.low + (c.loop-low.high - c.loop-low.low) / 2 in
    let n = ap length c.requires in
    let listed = listed_at keys key list c.requires m (omega arith) in
    let told = c.key.ensures.key in
    let same : c.key.result.now ≡ key_at keys key m = cc in
    let compared = c.cmp.ensures in
    let tested = c.is_lt.ensures in
    let no = c.if-is_lt.false in
    let higher : is_lt (key_order c.key.result.now key) ≡ false = cc in
    let test : is_lt (key_order (key_at keys key m) key) ≡ false =
    subst (λ (k : List ℕ). is_lt (key_order k key) ≡ false) same higher in
    let here : IsBelow key (key_at keys key m) =
    below_else_above (key_at keys key m) key test (keys_differ keys key m (omega arith)) in
    record {
      order = omega arith;
      inside = omega arith;
      below = i.below;
      after = λ j l k. above_from keys key m here j l (omega arith);
    }

pub returns-clause-inserted : goal.returns-clause-inserted
returns-clause-inserted c place there =
    let keys = c.args.index.now.keys.by_place in
    let key = c.args.key.now in
    let i = c.loop-low.invariant in
    let order = i.order in
    let inside = i.inside in
    let done = c.loop-low-test.false in
    let n = ap length c.requires in
    ap (λ (xs : List ℕ). insert xs c.loop-low.low place) c.requires
    ∙ values-inserted keys key c.loop-low.low place (omega arith) i.below
    (λ j l k. i.after j (omega arith) (omega arith)) there
