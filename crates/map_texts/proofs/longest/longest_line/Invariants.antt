use Rattle.map_texts.proofs.Common.{◌≡◌, ◌≤◌, drop, max, rows_of, longest_from, most_line_size}
use Rattle.map_texts.proofs.longest.longest_line.Given as goal

abbrev pub invariant-loop-i : goal.invariant-loop-i
invariant-loop-i l =
    (longest_from 0 (rows_of l.maps) ≡ max l.longest (longest_from l.i (drop l.i (rows_of l.maps))))
    × (l.longest ≤ most_line_size)
