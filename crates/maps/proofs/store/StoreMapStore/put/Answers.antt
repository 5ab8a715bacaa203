use Rattle.std.proofs.Common.{sym, ap, ◌∙◌, arith}
use Rattle.maps.proofs.ContentLaws.{get-taken}
use Rattle.maps.proofs.store.StoreMapStore.put.Goals as goal
use Rattle.maps.proofs.store.StoreMapStore.put.Goals.{in-Some, in-None+in_ok-place-in-None}

pub write-requires-clause-place : goal.write-requires-clause-place
write-requires-clause-place g c =
    let s = c.args.self.now in
    let key = c.args.key.now in
    elim c.match-find.branch [
      | in-Some w ↦
          let here =
          g.met.I.Index.in_range s.index key w.in-Some.place
          (sym c.find.ensures ∙ w.in-Some.is) in
          let same = w.place-is in
          let room = s.room in
          let rows = ap (λ x. x.row.entries) w.self-is in
          omega arith
      | in-None+in_ok-place-in-None w ↦
          let p = w.in_ok-place-in-None.place in
          let e = w.in_ok-place-in-None.ensures in
          let t = w.add.new.self in
          let here =
          g.met.I.Index.in_range t key p
          (get-taken (g.I.Index.places s.index) (g.I.Index.places t) key p e.added) in
          let same = w.place-is in
          let room = s.room in
          let kept = e.room in
          let rows = ap (λ x. x.row.entries) w.self-is in
          omega arith
    ]
