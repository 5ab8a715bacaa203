use Rattle.map_texts.proofs.Common.{◌<◌, length, Some, ap, ◌∙◌, arith, MapDef, contents_of, MapTextError, FilledMaps}
use Rattle.map_texts.proofs.PutLaws.{put_done, put_refused, rows_stay}
use Rattle.map_texts.proofs.lines.put_value.Goals as goal

pub returns-then-update-ne0-clause-filled : goal.returns-then-update-ne0-clause-filled
returns-then-update-ne0-clause-filled c =
    let ms = c.args.maps.now in
    let new = c.update.new.self in
    let inside : c.args.index < length ms = omega arith in
    ap (λ (e : MapTextError).
    let f : FilledMaps = record { contents = contents_of new; error = Some e } in f)
    c.at-then-update-ne0.ensures
    ∙ put_refused ms c.args.place.number c.args.place.key_column c.args.place.value_column
    c.args.index c.args.key.now c.args.value.now inside
    (c.if-key-row.false ∙ ap (λ (r : MapDef). r.key_size) c.row-row.ensures)
    (c.if-value-row.false ∙ ap (λ (r : MapDef). r.value_size) c.row-row.ensures)
    new c.update.result c.update.ensures.updated c.update.ensures.others c.if-update-ne0.true

pub returns-then-update-ne0-clause-rows : goal.returns-then-update-ne0-clause-rows
returns-then-update-ne0-clause-rows c =
    let ms = c.args.maps.now in
    let inside : c.args.index < length ms = omega arith in
    rows_stay ms c.args.place.number c.args.place.key_column c.args.place.value_column
    c.args.index c.args.key.now c.args.value.now inside
    (c.if-key-row.false ∙ ap (λ (r : MapDef). r.key_size) c.row-row.ensures)
    (c.if-value-row.false ∙ ap (λ (r : MapDef). r.value_size) c.row-row.ensures)
    c.update.new.self c.update.result c.update.ensures.updated c.update.ensures.others

pub returns-clause-filled : goal.returns-clause-filled
returns-clause-filled c =
    let ms = c.args.maps.now in
    let inside : c.args.index < length ms = omega arith in
    put_done ms c.args.place.number c.args.place.key_column c.args.place.value_column
    c.args.index c.args.key.now c.args.value.now inside
    (c.if-key-row.false ∙ ap (λ (r : MapDef). r.key_size) c.row-row.ensures)
    (c.if-value-row.false ∙ ap (λ (r : MapDef). r.value_size) c.row-row.ensures)
    c.update.new.self c.update.result c.update.ensures.updated c.update.ensures.others
    c.if-update-ne0.false

pub returns-clause-rows : goal.returns-clause-rows
returns-clause-rows c =
    let ms = c.args.maps.now in
    let inside : c.args.index < length ms = omega arith in
    rows_stay ms c.args.place.number c.args.place.key_column c.args.place.value_column
    c.args.index c.args.key.now c.args.value.now inside
    (c.if-key-row.false ∙ ap (λ (r : MapDef). r.key_size) c.row-row.ensures)
    (c.if-value-row.false ∙ ap (λ (r : MapDef). r.value_size) c.row-row.ensures)
    c.update.new.self c.update.result c.update.ensures.updated c.update.ensures.others
