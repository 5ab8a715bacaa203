use Rattle.map_texts.proofs.Common.{◌≡◌, ◌-◌, ℕ, List, length, take, drop, le_of_eq, ap, sym, ◌∙◌, take_all, length-drop, MapDef, rows_of, contents_of, after_line}
use Rattle.map_texts.proofs.Finishing.{last_line, line_refused}
use Rattle.map_texts.proofs.filling.fill_maps_by.Goals as goal

pub returns-in-Ok-clause-filled : goal.returns-in-Ok-clause-filled
returns-in-Ok-clause-filled c =
    let rows = rows_of c.args.maps.now in
    let held = contents_of c.take_lines.new.maps in
    let number = c.in-Ok.taken.number in
    let text = c.args.text.now in
    let start = c.in-Ok.taken.start in
    let line = take (length text - start) (drop start text) in
    let whole : line ≡ drop start text =
    take_all (length text - start) (drop start text) (le_of_eq (length-drop start text)) in
    let taken = c.in-Ok.ensures.taken in
    c.take_line.ensures.filled
    ∙ ap (λ (r : List MapDef). after_line r number held line) c.in-Ok.ensures.rows
    ∙ ap (after_line rows number held) whole
    ∙ last_line rows (contents_of c.args.maps.now) text number held (drop start text)
    taken.unended taken.goes_on

pub returns-in-Err-clause-filled : goal.returns-in-Err-clause-filled
returns-in-Err-clause-filled c =
    sym (line_refused (rows_of c.args.maps.now) (contents_of c.args.maps.now) c.args.text.now
    (contents_of c.take_lines.new.maps) c.in-Err.error c.in-Err.ensures.taken)
