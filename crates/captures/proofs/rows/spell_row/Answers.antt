use Rattle.captures.proofs.Common.{◌≡◌, ◌∙◌, ◌*◌, ◌-◌, ◌/◌, ◌%◌, [], ◌∷◌, length, take, codes, arith, replicate, flat_map, take-replicate, blank_columns, byte_column, byte_digits, row_line, shown_byte}
use Rattle.captures.proofs.PieceLaws.{same-piece}
use Rattle.captures.proofs.TextsLaws.{nine-pieces, then-piece}
use Rattle.captures.proofs.rows.spell_row.Goals as goal

pub returns-clause-front : goal.returns-clause-front
unfolding row_line
returns-clause-front c =
    let offset = c.args.offset in
    let row = c.args.row.now in
    let blanks : take (48 - 3 * length row) (replicate 48 32) ≡ blank_columns (length row) =
    take-replicate (48 - 3 * length row) 48 32 (omega arith) in
    let two = then-piece _ _ _ _ c.put-at.ensures.front
    (same-piece _ _ _ _ c.put-at-2.ensures.front c.byte_digits.ensures) in
    let three = then-piece _ _ _ _ two
    (same-piece _ _ _ _ c.put-at-3.ensures.front c.byte_digits-2.ensures) in
    let four = then-piece _ _ _ _ three c.put-at-4.ensures.front in
    let five = then-piece _ _ _ _ four c.put_columns-at.ensures.front in
    let six = then-piece _ _ _ _ five (same-piece _ _ _ _ c.put-at-5.ensures.front blanks) in
    let seven = then-piece _ _ _ _ six c.put-at-6.ensures.front in
    let eight = then-piece _ _ _ _ seven c.put_shown-at.ensures.front in
    then-piece _ _ _ _ eight c.put.ensures.front
    ∙ nine-pieces (codes "  ") (byte_digits (offset / 256)) (byte_digits (offset % 256))
    (codes ": ") (flat_map byte_column row) (blank_columns (length row)) (codes "|")
    (flat_map (λ byte. shown_byte byte ∷ []) row) (codes "|\n")
