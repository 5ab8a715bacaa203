use Rattle.maps.proofs.Common.{◌∙◌, ap, map, arith, content, said}
use Rattle.maps.proofs.CommandLaws.{replies_next, left_next}
use Rattle.maps.proofs.commands.replies.Goals as goal

pub loop-i-preserved : goal.loop-i-preserved
loop-i-preserved g c =
    let s = c.args.store.now in
    let t = c.loop-i.store in
    let u = c.apply.new.store in
    let row = g.S.MapStore.row_of s in
    let before = content row.value_size (g.S.MapStore.places s) (g.S.MapStore.block s) in
    let inv = c.loop-i.invariant in
    let low = c.loop-i-test.true in
    let e = c.push_reserved.ensures in (
      ap (map said) e.items
          ∙ replies_next (g.S.MapStore.row_of t) row inv.2 (g.S.MapStore.places t)
          (g.S.MapStore.block t) before c.args.commands.now c.loop-i.i (omega arith) inv.1 _
          c.loop-i.replies.items c.in_ok-reply.reply inv.0 c.in_ok-reply.ensures.reply,
      left_next (g.S.MapStore.row_of t) row inv.2 (g.S.MapStore.places t)
          (g.S.MapStore.block t) before c.args.commands.now c.loop-i.i (omega arith) inv.1 _
          (g.S.MapStore.places u) (g.S.MapStore.block u) c.in_ok-reply.ensures.content,
      c.apply.ensures.row ∙ inv.2,
      (let n = c.loop-i.replies.ok.0 in let m = c.push_reserved.new.self.ok.0 in
          let l = e.len in let k = inv.3 in omega arith),
      (let l = inv.4 in let k = e.capacity in omega arith),
    )
