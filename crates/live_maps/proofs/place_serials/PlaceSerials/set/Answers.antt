use Rattle.live_maps.proofs.Common.{◌≡◌, ◌+◌, ◌/◌, ◌≤◌, ◌^◌, ◌++◌, ◌∷◌, [], ℕ, List, length, sym, subst, arith, slice_set, vec_capacity, length-set, Since, AreNoted}
use Rattle.live_maps.specs.declared.place_serials.PlaceSerials.TheInside.{Inside}
use Rattle.live_maps.proofs.ReorderLaws.{covers-push, covers-full}
use Rattle.live_maps.proofs.place_serials.PlaceSerials.set.Goals as goal
use Rattle.live_maps.proofs.place_serials.PlaceSerials.set.Goals.{then-len-capacity, else-len-capacity}

-- what holds once something became of a place
abbrev Holds : Inside → ℕ → Since → Type 0
Holds i p s =
    (AreNoted i.noted.items (vec_capacity i.noted) (slice_set i.since.items p s))
    × (i.first ≤ 2 ^ 32)
    × (vec_capacity i.since ≡ length (slice_set i.since.items p s))
    × (vec_capacity i.noted ≡ length (slice_set i.since.items p s))
    × (vec_capacity i.given ≡ length (slice_set i.since.items p s)
    + length (slice_set i.since.items p s) / 4 + 1)

pub invariant_of-self : goal.invariant_of-self
invariant_of-self c =
    let i = c.self.inside in
    let p = c.args.place in
    let s = c.args.since in
    let inv = c.self.invariant in
    let first = inv.1 in
    let since_room = inv.2 in
    let noted_room = inv.3 in
    let given_room = inv.4 in
    let long = length-set i.since.items p s in
    let count = c.len.ensures in
    let room = c.capacity.ensures in
    let vector = i.noted.ok.0 in
    elim c.if-len-capacity.branch [
      | then-len-capacity w ↦
          let less = w.if-len-capacity.true in
          let pushed = w.push_reserved.ensures in
          let same = pushed.capacity in
          subst (λ (j : Inside). Holds j p s) (sym w.self-inside-is) (
            subst (λ (xs : List ℕ). AreNoted xs (vec_capacity w.push_reserved.new.self)
                (slice_set i.since.items p s)) (sym pushed.items)
                (subst (λ (n : ℕ). AreNoted (i.noted.items ++ p ∷ []) n
                (slice_set i.since.items p s)) (sym pushed.capacity)
                (covers-push i.noted.items (vec_capacity i.noted) i.since.items p s (omega arith)
                inv.0)),
            first,
            omega arith,
            omega arith,
            omega arith,
          )
      | else-len-capacity w ↦
          let most = w.if-len-capacity.false in
          subst (λ (j : Inside). Holds j p s) (sym w.self-inside-is) (
            covers-full i.noted.items (vec_capacity i.noted) (slice_set i.since.items p s)
                (omega arith),
            first,
            omega arith,
            omega arith,
            omega arith,
          )
    ]
