use Rattle.map_texts.proofs.Common.{take, Appends, lines_of}
use Rattle.maps.specs.Listing.{listed_key_values}
use Rattle.map_texts.proofs.listings.write_key_values.Given as goal

abbrev pub invariant-loop-k : goal.invariant-loop-k
invariant-loop-k g l =
    Appends (g.W.Write.contents l.fn.writer) (g.W.Write.contents l.writer)
    (lines_of l.index (take l.k (listed_key_values l.key_values)))
