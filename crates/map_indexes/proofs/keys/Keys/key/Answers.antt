use Rattle.map_indexes.proofs.Common.{◌≡◌, ℕ, ◌+◌, ◌*◌, ◌-◌, ◌≤◌, List, length, take, drop, ap, sym, ◌∙◌, arith, true, Bool, Some, is_some, length-take, length-drop, block_row, row_end, KeysByPlace, key_in, keys_by_place}
use Rattle.map_indexes.proofs.KeyLaws.{key_in-used, used_inside}
use Rattle.map_indexes.proofs.keys.Keys.key.Goals as goal

-- the row of a place with a key ends in the block
row_fits : (size : ℕ) (block : List ℕ) (used : List Bool) (t : KeysByPlace) (place : ℕ)
    → record { size = size; by_place = keys_by_place size block 0 used } ≡ t
    → is_some (key_in t.by_place place) ≡ true → length block ≡ length used * size
    → place * size + size ≤ length block
row_fits size block used t place is some whole =
    let here = ap (λ (t : KeysByPlace). is_some (key_in t.by_place place)) is ∙ some in
    let h = row_end place (length used) size (used_inside size block 0 used place here) in
    omega arith

part : (a n : ℕ) (xs ys : List ℕ) → ys ≡ xs → take (a + n - a) (drop a ys) ≡ take n (drop a xs)
part a n xs ys e = let h : a + n - a ≡ n = omega arith in λ i. take (h i) (drop a (e i))

pub overflow_mul-start : goal.overflow_mul-start
overflow_mul-start c =
    let k = c.self.inside in
    let h =
    row_fits k.size k.block.items k.used.items c.args.self.now c.args.place c.self.view_is
    c.requires c.self.invariant.0 in
    let f = k.block.ok.0 in
    let g = k.block.small in
    omega arith

pub overflow_add-result : goal.overflow_add-result
overflow_add-result c =
    let k = c.self.inside in
    let h =
    row_fits k.size k.block.items k.used.items c.args.self.now c.args.place c.self.view_is
    c.requires c.self.invariant.0 in
    let f = k.block.ok.0 in
    let g = k.block.small in
    omega arith

pub slice_bounds-result-end : goal.slice_bounds-result-end
slice_bounds-result-end c =
    let k = c.self.inside in
    let h =
    row_fits k.size k.block.items k.used.items c.args.self.now c.args.place c.self.view_is
    c.requires c.self.invariant.0 in
    let e = ap length c.deref.ensures.value in
    omega arith

pub returns-clause-size : goal.returns-clause-size
returns-clause-size c =
    let k = c.self.inside in
    let start = c.args.place * k.size in
    let h =
    row_fits k.size k.block.items k.used.items c.args.self.now c.args.place c.self.view_is
    c.requires c.self.invariant.0 in
    let e = ap length c.deref.ensures.value in
    let f = ap (λ (t : KeysByPlace). t.size) c.self.view_is in
    let t = length-take (start + k.size - start) (drop start c.deref.result.now) in
    let d = length-drop start c.deref.result.now in
    omega arith

pub returns-clause-key : goal.returns-clause-key
returns-clause-key c =
    let k = c.self.inside in
    let here =
    ap (λ (t : KeysByPlace). is_some (key_in t.by_place c.args.place)) c.self.view_is
    ∙ c.requires in
    sym (ap (λ (t : KeysByPlace). key_in t.by_place c.args.place) c.self.view_is)
    ∙ key_in-used k.size k.block.items 0 k.used.items c.args.place here
    ∙ ap Some (let z : 0 + c.args.place
    ≡ c.args.place = omega arith in ap (block_row k.size k.block.items) z
    ∙ sym (part (c.args.place * k.size) k.size k.block.items c.deref.result.now
    c.deref.ensures.value))
