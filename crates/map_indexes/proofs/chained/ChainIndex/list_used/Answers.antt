use Rattle.map_indexes.proofs.Common.{ℕ, ◌++◌, ◌∷◌, [], List, length, sym, ap, ◌∙◌, arith, length-append}
use Rattle.map_indexes.proofs.KeyOrderLaws.{used_places-key, used_places-none}
use Rattle.map_indexes.proofs.chained.ChainIndex.list_used.Goals as goal
use Rattle.map_indexes.proofs.chained.ChainIndex.list_used.Goals.{then-is_used, else-is_used}

pub loop-i-preserved : goal.loop-i-preserved
loop-i-preserved c =
    let keys = c.args.self.now.keys.by_place in
    let i = c.loop-i.i in
    let items = c.loop-i.list.items in
    let inv = c.loop-i.invariant in
    let inside = c.loop-i-test.true in
    elim c.if-is_used.branch [
      | then-is_used w ↦
          let e = w.push_reserved.ensures in record {
            places =
                ap (λ l. l.items) w.list-is ∙ e.items
                ∙ ap (λ (ps : List ℕ). ps ++ i ∷ []) inv.places
                ∙ sym (used_places-key keys i (omega arith)
                (sym c.is_used.ensures ∙ w.if-is_used.true));
            few =
                let a = ap (λ l. length l.items) w.list-is in
                let b = ap length e.items in
                let d = length-append items (i ∷ []) in
                let f = inv.few in
                omega arith;
            capacity =
                let a = ap (λ l. l.cap) w.list-is in
                let b = e.capacity in let f = inv.capacity in omega arith;
          }
      | else-is_used w ↦ record {
        places =
            ap (λ l. l.items) w.list-is ∙ inv.places
            ∙ sym (used_places-none keys i (omega arith)
            (sym c.is_used.ensures ∙ w.if-is_used.false));
        few = let a = ap (λ l. length l.items) w.list-is in let f = inv.few in omega arith;
        capacity = let a = ap (λ l. l.cap) w.list-is in let f = inv.capacity in omega arith;
      }
    ]
