use Rattle.maps.proofs.Common.{◌≡◌, ◌≤◌, length, take, map, vec_capacity, content, said, replies_of, content_left}
use Rattle.maps.proofs.commands.replies.Given as goal

abbrev pub invariant-loop-i : goal.invariant-loop-i
invariant-loop-i g l =
    let row = g.S.MapStore.row_of l.initial.store in
    let before =
    content row.value_size (g.S.MapStore.places l.initial.store)
    (g.S.MapStore.block l.initial.store) in
    (map said l.replies.items ≡ replies_of row before (take l.i l.commands))
    × (content row.value_size (g.S.MapStore.places l.store) (g.S.MapStore.block l.store)
    ≡ content_left row before (take l.i l.commands))
    × (g.S.MapStore.row_of l.store ≡ row) × (length l.replies.items ≡ l.i)
    × (length l.commands ≤ vec_capacity l.replies)
