use Rattle.map_texts.proofs.Common.{◌≡◌, ◌+◌, ◌<◌, max, drop, length, sym, ap, ◌∙◌, arith, MapDef, rows_of, longest_from, line_size}
use Rattle.map_texts.proofs.LineLaws.{rows_from}
use Rattle.map_texts.proofs.longest.longest_line.Goals as goal

pub loop-i-preserved : goal.loop-i-preserved
loop-i-preserved c =
    let ms = c.args.maps.now in
    let i = c.loop-i.i in
    let inside : i < length ms = omega arith in
    let more : longest_from i (drop i (rows_of ms))
    ≡ max (line_size i c.row.result) (longest_from (i + 1) (drop (i + 1) (rows_of ms))) =
    ap (longest_from i) (rows_from ms i inside)
    ∙ ap (λ (r : MapDef). max (line_size i r) (longest_from (i + 1) (drop (i + 1) (rows_of ms))))
    (sym c.row.ensures) in
    let before = c.loop-i.invariant.0 in
    let size = c.line_size.ensures.size in
    let most = c.line_size.ensures.most in
    let bound = c.loop-i.invariant.1 in
    let next = c.greater-longest.ensures in
    (omega arith, omega arith)
