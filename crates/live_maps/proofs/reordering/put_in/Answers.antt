use Rattle.live_maps.proofs.Common.{◌≡◌, ◌+◌, ◌∙◌, ℕ, List, None, Some, length, sym, ap, subst, arith, slice_get, vec_capacity, filter, values, map_at, Since, AllSame, AreGone, HaveCome, after, is_same_at, looked, Ranked}
use Rattle.live_maps.proofs.OrderLaws.{out-values}
use Rattle.live_maps.proofs.ReorderLaws.{AreGone-set, HaveCome-set, IsLeft, all_same, has_come, left-next, left-none, left-set, still_same}
use Rattle.live_maps.proofs.reordering.put_in.Goals as goal
use Rattle.live_maps.proofs.reordering.put_in.Goals.{After-loop-i, in-Same, in-Gone, in_default}

pub put_place-requires-clause-place : goal.put_place-requires-clause-place
put_place-requires-clause-place c =
    let s = has_come c.since_at.result c.in_default.not-Same c.in_default.not-Gone in
    c.loop-i.invariant.come c.look_at-place.result s.0
    (ap (λ (t : Since). after t None) (sym c.since_at.ensures) ∙ s.1)

pub loop-i-preserved : goal.loop-i-preserved
loop-i-preserved c =
    let P = (map_at c.args.maps.now c.args.map).places in
    let p = c.look_at-place.result in
    let i = c.loop-i.i in
    let inv = c.loop-i.invariant in
    let since = c.loop-i.since in
    let L = looked c.args.noted.now.items (vec_capacity c.args.noted.now)
    (length c.args.since.now) in
    let at : slice_get L i ≡ Some p =
    ap (λ (n : ℕ). slice_get (looked c.args.noted.now.items (vec_capacity c.args.noted.now) n) i)
    (sym c.loop-i.auto.since) ∙ c.look_at-place.ensures in
    elim c.match-since_at.branch [
      | in-Same w ↦ record {
        order =
            ap (λ (r : Ranked). r.places) w.ranks-is ∙ inv.order
            ∙ ap (λ (s : List Since). filter (is_same_at s) (values P)) (sym w.since-is);
        gone = subst (λ (s : List Since). AreGone s P) (sym w.since-is) inv.gone;
        come = subst (λ (s : List Since). HaveCome s P) (sym w.since-is) inv.come;
        left = subst (λ (s : List Since). IsLeft L (i + 1) s) (sym w.since-is)
            (left-next L i p since at inv.left (sym c.since_at.ensures ∙ w.in-Same.is));
        room = ap (λ (r : Ranked). r.room) w.ranks-is ∙ inv.room;
      }
      | in-Gone w ↦ record {
        order =
            ap (λ (r : Ranked). r.places) w.ranks-is ∙ inv.order
            ∙ still_same since p (values P)
            (out-values P p (inv.gone p (sym c.since_at.ensures ∙ w.in-Gone.is)))
            ∙ ap (λ (s : List Since). filter (is_same_at s) (values P)) (sym w.since-is);
        gone = subst (λ (s : List Since). AreGone s P) (sym w.since-is)
            (AreGone-set since p P inv.gone);
        come = subst (λ (s : List Since). HaveCome s P) (sym w.since-is)
            (HaveCome-set since p P inv.come);
        left = subst (λ (s : List Since). IsLeft L (i + 1) s) (sym w.since-is)
            (left-set L i p since at inv.left);
        room = ap (λ (r : Ranked). r.room) w.ranks-is ∙ inv.room;
      }
      | in_default w ↦
          let put = w.put_place.ensures in
          let is = w.since-is ∙ put.since in
          record {
            order =
                ap (λ (r : Ranked). r.places) w.ranks-is ∙ put.order
                ∙ ap (λ (s : List Since). filter (is_same_at s) (values P)) (sym w.since-is);
            gone = subst (λ (s : List Since). AreGone s P) (sym is) (AreGone-set since p P inv.gone);
            come = subst (λ (s : List Since). HaveCome s P) (sym is)
                (HaveCome-set since p P inv.come);
            left = subst (λ (s : List Since). IsLeft L (i + 1) s) (sym is)
                (left-set L i p since at inv.left);
            room = ap (λ (r : Ranked). r.room) w.ranks-is ∙ put.room ∙ inv.room;
          }
    ]

-- nothing is left
nothing : (c : After-loop-i) → AllSame c.loop-i.since
nothing c =
    let past = c.loop-i-test.false in
    let count = c.look_count-i-end.ensures in
    left-none (looked c.args.noted.now.items (vec_capacity c.args.noted.now)
    (length c.args.since.now)) c.loop-i.i c.loop-i.since (omega arith) c.loop-i.invariant.left

pub returns-clause-places : goal.returns-clause-places
returns-clause-places c =
    c.loop-i.invariant.order ∙ all_same c.loop-i.since _ (nothing (goal.at.returns-clause-places
    c).After-loop-i)

pub returns-clause-same : goal.returns-clause-same
returns-clause-same c = nothing (goal.at.returns-clause-same c).After-loop-i
