use Rattle.maps.proofs.Common.{Some, None, ap, refl, ◌∙◌, option_copied, ordered_in}
use Rattle.maps.proofs.AllMaps.{state, pair_inside, pair_value, pair_key}
use Rattle.maps.proofs.ordered.Ordered.key_value.Goals as goal

pub value-requires : goal.value-requires
value-requires c =
    let s = c.args.self.now.store.now in
    pair_inside s c.args.k
    (ordered_in (state s)) refl c.index.result.now c.index.ensures c.in_ok-place.place
    c.in_ok-place.ensures.place

pub returns-in_err-place-clause-value : goal.returns-in_err-place-clause-value
returns-in_err-place-clause-value c =
    let s = c.args.self.now.store.now in
    ap option_copied c.from_residual.ensures
    ∙ pair_value s c.args.k
    (ordered_in (state s)) refl c.index.result.now c.index.ensures None c.in_err-place.ensures.place

pub returns-in_err-place-clause-key : goal.returns-in_err-place-clause-key
returns-in_err-place-clause-key c =
    let s = c.args.self.now.store.now in
    c.placed_key.ensures.key
    ∙ pair_key s c.args.k
    (ordered_in (state s)) refl c.index.result.now c.index.ensures c.args.key.now

pub returns-clause-value : goal.returns-clause-value
returns-clause-value c =
    let s = c.args.self.now.store.now in
    ap Some c.value.ensures
    ∙ pair_value s c.args.k (ordered_in (state s)) refl c.index.result.now c.index.ensures
    (Some c.in_ok-place.place) c.in_ok-place.ensures.place

pub returns-clause-key : goal.returns-clause-key
returns-clause-key c =
    let s = c.args.self.now.store.now in
    c.placed_key.ensures.key
    ∙ pair_key s c.args.k
    (ordered_in (state s)) refl c.index.result.now c.index.ensures c.args.key.now
