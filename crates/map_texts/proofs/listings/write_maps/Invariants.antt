use Rattle.map_texts.proofs.Common.{◌≡◌, take, Appends}
use Rattle.map_texts.proofs.Listing.{text_from}
use Rattle.map_texts.proofs.listings.write_maps.Given as goal

abbrev pub invariant-loop-i : goal.invariant-loop-i
invariant-loop-i g l =
    Appends (g.W.Write.contents l.fn.writer) (g.W.Write.contents l.writer)
    (text_from 0 (take l.i l.fn.maps))
    × (l.maps ≡ l.fn.maps)
