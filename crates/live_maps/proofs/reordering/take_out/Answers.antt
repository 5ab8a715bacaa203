use Rattle.live_maps.proofs.Common.{◌≡◌, ◌+◌, ◌∙◌, ℕ, List, true, false, length, sym, ap, subst, arith, vec_capacity, filter, AreFresh, is_same, is_same_at, looked, since_in, AreDistinct, Ranked}
use Rattle.live_maps.proofs.PlaceLists.{distinct-filter, filter-without, out_still}
use Rattle.live_maps.proofs.ReorderLaws.{AreOut, not_same, out-all, out-next, out-taken}
use Rattle.live_maps.proofs.reordering.take_out.Goals as goal
use Rattle.live_maps.proofs.reordering.take_out.Goals.{in-Same, in-New, in_default}

pub take_place-requires : goal.take_place-requires
take_place-requires c = c.loop-i.invariant.distinct

pub loop-i-preserved : goal.loop-i-preserved
loop-i-preserved c =
    let since = c.args.since.now in
    let p = c.look_at-place.result in
    let inv = c.loop-i.invariant in
    let old = c.loop-i.ranks.places in
    let L = looked c.args.noted.now.items (vec_capacity c.args.noted.now) (length since) in
    elim c.match-since_at.branch [
      | in-Same w ↦ record {
        same = ap (λ (r : Ranked). filter (is_same_at since) r.places) w.ranks-is ∙ inv.same;
        distinct = subst (λ (r : Ranked). AreDistinct r.places) (sym w.ranks-is) inv.distinct;
        fresh = subst (λ (r : Ranked). AreFresh since r.places) (sym w.ranks-is) inv.fresh;
        out =
            subst (λ (r : Ranked). AreOut L (c.loop-i.i + 1) since r.places) (sym w.ranks-is)
            (out-next L c.loop-i.i p since old c.look_at-place.ensures
            (λ e. let z : true ≡ false = ap is_same (sym w.in-Same.is ∙ c.since_at.ensures) ∙ e in
            absurd cc) inv.out);
        room = ap (λ (r : Ranked). r.room) w.ranks-is ∙ inv.room;
      }
      | in-New w ↦ record {
        same = ap (λ (r : Ranked). filter (is_same_at since) r.places) w.ranks-is ∙ inv.same;
        distinct = subst (λ (r : Ranked). AreDistinct r.places) (sym w.ranks-is) inv.distinct;
        fresh = subst (λ (r : Ranked). AreFresh since r.places) (sym w.ranks-is) inv.fresh;
        out =
            subst (λ (r : Ranked). AreOut L (c.loop-i.i + 1) since r.places) (sym w.ranks-is)
            (out-next L c.loop-i.i p since old c.look_at-place.ensures
            (λ e. inv.fresh p _ (sym c.since_at.ensures ∙ w.in-New.is)) inv.out);
        room = ap (λ (r : Ranked). r.room) w.ranks-is ∙ inv.room;
      }
      | in_default w ↦
          let none : is_same (since_in since p) ≡ false =
          not_same (since_in since p) (λ e. w.in_default.not-Same (c.since_at.ensures ∙ e)) in
          let now = w.take_place.ensures.places in
          let is = ap (λ (r : Ranked). r.places) w.ranks-is ∙ now in
          record {
            same =
                ap (filter (is_same_at since)) is ∙ filter-without (is_same_at since) p old none
                ∙ inv.same;
            distinct = subst (λ (xs : List ℕ). AreDistinct xs) (sym is)
                (distinct-filter _ old inv.distinct);
            fresh = subst (λ (xs : List ℕ). AreFresh since xs) (sym is)
                (λ q n e. out_still p q old (inv.fresh q n e));
            out =
                subst (λ (xs : List ℕ). AreOut L (c.loop-i.i + 1) since xs) (sym is)
                (out-taken L c.loop-i.i p since old c.look_at-place.ensures inv.out);
            room = ap (λ (r : Ranked). r.room) w.ranks-is ∙ w.take_place.ensures.room ∙ inv.room;
          }
    ]

pub returns-clause-places : goal.returns-clause-places
returns-clause-places c =
    let inv = c.loop-i.invariant in
    let past = c.loop-i-test.false in
    let count = c.look_count-i-end.ensures in
    out-all c.args.noted.now.items (vec_capacity c.args.noted.now) c.args.since.now
    c.loop-i.ranks.places c.args.ranks.now.places c.loop-i.i c.requires.covers (omega arith) inv.out
    inv.same
