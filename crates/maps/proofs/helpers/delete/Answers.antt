use Rattle.maps.proofs.Common.{◌≡◌, refl, sym, ap, ◌∙◌, arith, Hash, MapDef, enoent, remove_absent}
use Rattle.maps.proofs.UpdateLaws.{delete_present, delete_absent, content-deletes}
use Rattle.maps.proofs.helpers.delete.Goals as goal

hash_some : (g : _) (c : goal.In-Some g) → (g.S.MapStore.row_of c.args.store.now).kind ≡ Hash
hash_some g c = ap (λ (r : MapDef). r.kind) (sym c.row.ensures) ∙ c.in-Hash.is

hash_none : (g : _) (c : goal.In-None g) → (g.S.MapStore.row_of c.args.store.now).kind ≡ Hash
hash_none g c = ap (λ (r : MapDef). r.kind) (sym c.row.ensures) ∙ c.in-Hash.is

pub returns-in-Some-clause-answer : goal.returns-in-Some-clause-answer
returns-in-Some-clause-answer g c =
    let s = c.args.store.now in
    let kind = hash_some g c in
    sym (delete_present (g.S.MapStore.row_of s) (g.S.MapStore.places s)
    (g.S.MapStore.block s) c.args.key.now kind c.in-Some.field-0
    (sym (c.remove.ensures.hash kind).0 ∙ c.in-Some.is))

pub returns-in-Some-clause-content : goal.returns-in-Some-clause-content
returns-in-Some-clause-content g c =
    let s = c.args.store.now in
    let t = c.remove.new.self in
    content-deletes (g.S.MapStore.row_of s) (g.S.MapStore.places s)
    (g.S.MapStore.block s) c.args.key.now (g.S.MapStore.places t) (g.S.MapStore.block t) 0
    (returns-in-Some-clause-answer g c)
    (record {
      removes = λ e. (c.remove.ensures.hash (hash_some g c)).1;
      stays = λ d. absurd
          (d refl);
      block = c.remove.ensures.block;
    })

pub returns-in-None-clause-answer : goal.returns-in-None-clause-answer
returns-in-None-clause-answer g c =
    let s = c.args.store.now in
    let kind = hash_none g c in
    sym (delete_absent (g.S.MapStore.row_of s) (g.S.MapStore.places s)
    (g.S.MapStore.block s) c.args.key.now kind
    (sym (c.remove.ensures.hash kind).0 ∙ c.in-None.is))

pub returns-in-None-clause-deletes : goal.returns-in-None-clause-deletes
returns-in-None-clause-deletes g c =
    let P = g.S.MapStore.places c.args.store.now in
    let h = c.remove.ensures.hash (hash_none g c) in
    record {
      removes = λ e. absurd (omega arith);
      stays = λ d. h.1 ∙ remove_absent P c.args.key.now (sym h.0 ∙ c.in-None.is);
      block = c.remove.ensures.block;
    }

pub returns-in-None-clause-content : goal.returns-in-None-clause-content
returns-in-None-clause-content g c =
    let s = c.args.store.now in
    let t = c.remove.new.self in
    content-deletes (g.S.MapStore.row_of s) (g.S.MapStore.places s)
    (g.S.MapStore.block s) c.args.key.now (g.S.MapStore.places t) (g.S.MapStore.block t) enoent
    (returns-in-None-clause-answer g c) (returns-in-None-clause-deletes g c)
