use Rattle.image.proofs.Common.{◌≡◌, ◌≤◌, ◌*◌, take, sum_by, room_of}
use Rattle.image.proofs.rows.room_refusal.Given as goal

abbrev pub invariant-loop-row : goal.invariant-loop-row
invariant-loop-row l = record {
  sum : l.room
      ≡ sum_by room_of (take l.row-index l.rows);
  small : l.room ≤ 272629760 * l.row-index;
}
