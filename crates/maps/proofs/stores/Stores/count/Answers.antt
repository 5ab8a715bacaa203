use Rattle.maps.proofs.Common.{◌≡◌, ◌<◌, ◌≤◌, List, length, All, ap, subst, ◌∙◌, arith, slice_index_or, take_all, All-more, AreBytes}
use Rattle.maps.proofs.AllMaps.{EitherStore}
use Rattle.maps.proofs.stores.Stores.count.Goals as goal

abbrev HasBytes : EitherStore → Type 0
HasBytes s = AreBytes s.values.items

pub loop-store-preserved : goal.loop-store-preserved
loop-store-preserved c =
    let xs : List EitherStore = c.args.self.now.all.items in
    let i = c.loop-store.store-index in
    let x : EitherStore = c.store-item.result in
    let value = c.deref-store-items.ensures.value in
    let inside : i < length xs = let t = c.loop-store-test.true in
    let e = ap (λ (ys : List EitherStore). length ys) value in omega arith in
    let same : x ≡ slice_index_or xs i x =
    c.store-item.is ∙ ap (λ (ys : List EitherStore). slice_index_or ys i x) value in
    let bytes : HasBytes x = subst AreBytes c.block.ensures c.are_bytes.ensures in
    All-more HasBytes xs i x inside c.loop-store.invariant (subst HasBytes same bytes)

pub returns-clause-bytes : goal.returns-clause-bytes
returns-clause-bytes c =
    let xs : List EitherStore = c.args.self.now.all.items in
    let i = c.loop-store.store-index in
    let value = c.deref-store-items.ensures.value in
    let past : length xs ≤ i = let t = c.loop-store-test.false in
    let e = ap (λ (ys : List EitherStore). length ys) value in omega arith in
    subst (λ (ys : List EitherStore). All HasBytes ys) (take_all i xs past) c.loop-store.invariant
