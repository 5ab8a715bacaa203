use Rattle.maps.proofs.Common.{ℕ, List, length, refl, ap, sym, ◌∙◌, vec_capacity, refill, MapState, with_values}
use Rattle.maps.proofs.AllMaps.{block-set, map_at-state, HaveRoom-set, inside}
use Rattle.maps.proofs.all.Maps.block_mut.Goals as goal

pub returns : goal.returns
returns c =
    let stores = c.self.inside.stores.all.items in
    let x = c.index_mut-store.result.now in
    let here =
    map_at-state c.args.self.now stores c.self.view_is c.args.map c.requires x
    c.index_mut-store.ensures.value in
    let after = λ (w : List ℕ).
    block-set c.args.self.now stores c.self.view_is c.args.map c.requires x
    (with_values x w) c.index_mut-store.ensures.value refl refl
    (λ b. refill (length b) b w) (ap (λ (n : ℕ). refill n x.values.items w) x.values.ok.0) in (
      (refl, after),
      record {
        lends = tt;
        value = c.block_mut.ensures.value
            ∙ sym (ap (λ (m : MapState). m.block) here);
      },
    )

pub invariant_of-self-lent : goal.invariant_of-self-lent
invariant_of-self-lent c w =
    let i = c.self.inside.stores in
    let x = c.index_mut-store.result.now in
    let low = inside c.args.self.now i.all.items c.self.view_is c.args.map c.requires in
    record {
      room = HaveRoom-set (vec_capacity i.list) (vec_capacity i.all) i.all.items c.args.map x
          (with_values x w) low c.index_mut-store.ensures.value refl c.self.invariant.room;
      kept = tt;
    }
