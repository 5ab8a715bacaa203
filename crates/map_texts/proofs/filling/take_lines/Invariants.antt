use Rattle.map_texts.proofs.Common.{◌≡◌, rows_of, contents_of, AreTakenTo}
use Rattle.map_texts.proofs.filling.take_lines.Given as goal

abbrev pub invariant-loop-at : goal.invariant-loop-at
invariant-loop-at l =
    (rows_of l.maps ≡ rows_of l.fn.maps)
    × AreTakenTo (rows_of l.fn.maps) l.fn.number (contents_of l.fn.maps) (contents_of l.maps)
    l.bytes l.at l.taken
