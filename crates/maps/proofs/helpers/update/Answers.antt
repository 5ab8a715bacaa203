use Rattle.maps.proofs.Common.{◌≡◌, ◌<◌, ℕ, List, None, Some, refl, sym, subst, ◌∙◌, get, MapDef}
use Rattle.maps.specs.Changes.{WritesPair}
use Rattle.maps.proofs.UpdateLaws.{room_left, writes_present, writes_absent, content-writes, content-updates}
use Rattle.maps.proofs.helpers.update.Goals as goal

-- the new key's value is written, and its place is below the row's limit
added : (g : _) (c : goal.After-put g)
    → (w : WritesPair (g.S.MapStore.row_of c.args.store.now).value_size c.args.key.now
    c.args.value.now
    (g.S.MapStore.places c.args.store.now) (g.S.MapStore.block c.args.store.now)
    (g.S.MapStore.places c.put.new.self) (g.S.MapStore.block c.put.new.self))
    × (w.place < (g.S.MapStore.row_of c.args.store.now).entries)
added g c =
    let s = c.args.store.now in
    let row = g.S.MapStore.row_of s in
    let P = g.S.MapStore.places s in
    let B : List ℕ = g.S.MapStore.block s in
    let key : List ℕ = c.args.key.now in
    let t = c.put.new.self in
    let none : get P key ≡ None = sym c.test_update-found.ensures.found ∙ c.in-None.is in
    let less = room_left row P B key c.args.flags c.test_update-found.result.answer none
    c.test_update-found.ensures.answer c.if-answer-ne0.false in
    let takes = c.put.ensures.added none less in
    let w = writes_absent row P B key (g.S.MapStore.places t) (g.S.MapStore.block t)
    c.args.value.now c.put.result none takes.0 takes.1 c.put.ensures.written in (
      w,
      subst (λ (r : MapDef). w.place < r.entries) c.put.ensures.row
          (g.met.S.MapStore.in_range t key w.place w.there),
    )

pub returns-in-None-clause-updates : goal.returns-in-None-clause-updates
returns-in-None-clause-updates g c =
    record { writes = λ e. (added g c).0; stays = λ d. absurd (d c.if-answer-ne0.false) }

pub returns-then-answer-ne0-clause-content : goal.returns-then-answer-ne0-clause-content
returns-then-answer-ne0-clause-content g c =
    let s = c.args.store.now in
    let P = g.S.MapStore.places s in
    let B : List ℕ = g.S.MapStore.block s in
    content-updates (g.S.MapStore.row_of s) P B c.args.key.now P B c.args.value.now c.args.flags
    c.test_update-found.result.answer c.test_update-found.ensures.answer
    (record { writes = λ e. absurd (c.if-answer-ne0.true e); stays = λ d. (refl, refl) })
    (λ e. absurd (c.if-answer-ne0.true e))

pub returns-in-Some-clause-content : goal.returns-in-Some-clause-content
returns-in-Some-clause-content g c =
    let s = c.args.store.now in
    let row = g.S.MapStore.row_of s in
    let P = g.S.MapStore.places s in
    let B : List ℕ = g.S.MapStore.block s in
    let key : List ℕ = c.args.key.now in
    let value : List ℕ = c.args.value.now in
    let t = c.write.new.self in
    let P' = g.S.MapStore.places t in
    let B' : List ℕ = g.S.MapStore.block t in
    let here : get P key ≡ Some c.in-Some.place =
    sym c.test_update-found.ensures.found ∙ c.in-Some.is in
    let w = writes_present row P B key P' B' value c.in-Some.place here c.write.ensures.places
    c.write.ensures.block in
    content-updates row P B key P' B' value c.args.flags c.test_update-found.result.answer
    c.test_update-found.ensures.answer
    (record { writes = λ e. w; stays = λ d. absurd (d c.if-answer-ne0.false) })
    (λ e. content-writes row P B key P' B' value c.requires.value_size (g.met.S.MapStore.whole s)
    (g.met.S.MapStore.apart s) w
    (subst (λ (r : MapDef). w.place < r.entries) c.write.ensures.row
    (g.met.S.MapStore.in_range t key w.place w.there)))

pub returns-in-None-clause-content : goal.returns-in-None-clause-content
returns-in-None-clause-content g c =
    let s = c.args.store.now in
    let row = g.S.MapStore.row_of s in
    let P = g.S.MapStore.places s in
    let B : List ℕ = g.S.MapStore.block s in
    let key : List ℕ = c.args.key.now in
    let value : List ℕ = c.args.value.now in
    let t = c.put.new.self in
    let P' = g.S.MapStore.places t in
    let B' : List ℕ = g.S.MapStore.block t in
    let w = added g c in
    content-updates row P B key P' B' value c.args.flags c.test_update-found.result.answer
    c.test_update-found.ensures.answer
    (record { writes = λ e. w.0; stays = λ d. absurd (d c.if-answer-ne0.false) })
    (λ e. content-writes row P B key P' B' value c.requires.value_size (g.met.S.MapStore.whole s)
    (g.met.S.MapStore.apart s) w.0 w.1)
