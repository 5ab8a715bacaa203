use Rattle.map_texts.proofs.Common.{arith, ◌≡◌, ◌+◌, List, true, false, slice_index, length, slice_range, refl, sym, ap, ◌∙◌, subst, MapDef, MapState, rows_of, contents_of, after_line, is_line_feed, AreTakenTo}
use Rattle.map_texts.specs.declared.filling.Taken.{Taken}
use Rattle.map_texts.proofs.Taking.{stopped, taken, none_yet, none_left, unended-more, unended-to}
use Rattle.map_texts.proofs.filling.take_lines.Goals as goal
use Rattle.map_texts.proofs.filling.take_lines.Goals.{then-bytes-at-eq10+in-Ok, else-bytes-at-eq10}

pub loop-at-init : goal.loop-at-init
loop-at-init c = (refl, none_yet _ _ _ _)

pub returns-in-Err-clause-taken : goal.returns-in-Err-clause-taken
returns-in-Err-clause-taken c =
    let state = c.loop-at.invariant.1 in
    let line = slice_range c.args.bytes.now c.loop-at.taken.start c.loop-at.at in
    let feed : is_line_feed (slice_index c.args.bytes.now c.loop-at.at) ≡ true = grind arith in
    stopped c.args.bytes.now c.loop-at.taken.start c.loop-at.at state.inside c.loop-at-test.true
    (rows_of c.args.maps.now) c.args.number (contents_of c.args.maps.now) c.loop-at.taken.number
    (contents_of c.loop-at.maps) feed state.unended state.goes_on
    (contents_of c.take_line.new.maps) c.in-Err.error
    (c.in-Err.ensures.filled
    ∙ ap (λ (r : List MapDef). after_line r c.loop-at.taken.number
    (contents_of c.loop-at.maps) line) c.loop-at.invariant.0)

pub loop-at-preserved : goal.loop-at-preserved
loop-at-preserved c =
    let bytes = c.args.bytes.now in
    let rows = rows_of c.args.maps.now in
    let first = c.args.number in
    let old = contents_of c.args.maps.now in
    let at = c.loop-at.at in
    let start = c.loop-at.taken.start in
    let state = c.loop-at.invariant.1 in
    let line = slice_range bytes start at in
    elim c.if-bytes-at-eq10.branch [
      | then-bytes-at-eq10+in-Ok w ↦
          let feed : is_line_feed (slice_index bytes at) ≡ true = grind arith in
          let new = w.take_line.new.maps in
          let next : Taken = record { start = at + 1; number = c.loop-at.taken.number + 1 } in
          let step : AreTakenTo rows first old (contents_of new) bytes (at + 1) next =
          record {
            inside = omega arith;
            few = let h = state.few in let k = state.inside in omega arith;
            unended = unended-to bytes (at + 1);
            goes_on =
                taken bytes start at state.inside c.loop-at-test.true rows first old
                c.loop-at.taken.number (contents_of c.loop-at.maps) feed state.unended
                state.goes_on (contents_of new)
                (w.in-Ok.ensures.filled
                ∙ ap (λ (r : List MapDef). after_line r c.loop-at.taken.number
                (contents_of c.loop-at.maps) line) c.loop-at.invariant.0);
          } in (
            ap rows_of w.maps-is ∙ w.take_line.ensures.rows ∙ c.loop-at.invariant.0,
            subst (λ (m : List MapState). AreTakenTo rows first old (contents_of m) bytes (at + 1)
                c.if-bytes-at-eq10.taken) (sym w.maps-is)
                (subst (λ (t : Taken). AreTakenTo rows first old (contents_of new) bytes (at + 1) t)
                (sym w.taken-is) step),
          )
      | else-bytes-at-eq10 w ↦
          let apart : is_line_feed (slice_index bytes at) ≡ false =
          let h = w.if-bytes-at-eq10.false in grind arith in
          let step : AreTakenTo rows first old (contents_of c.loop-at.maps) bytes (at + 1)
          c.loop-at.taken =
          record {
            inside = let k = state.inside in omega arith;
            few = state.few;
            unended =
                unended-more bytes start at state.inside c.loop-at-test.true apart state.unended;
            goes_on = state.goes_on;
          } in (
            ap rows_of w.maps-is ∙ c.loop-at.invariant.0,
            subst (λ (m : List MapState). AreTakenTo rows first old (contents_of m) bytes (at + 1)
                c.if-bytes-at-eq10.taken) (sym w.maps-is)
                (subst (λ (t : Taken). AreTakenTo rows first old (contents_of c.loop-at.maps) bytes
                (at + 1) t) (sym w.taken-is) step),
          )
    ]

pub returns-clause-taken : goal.returns-clause-taken
returns-clause-taken c =
    let bytes = c.args.bytes.now in
    let state = c.loop-at.invariant.1 in
    let all : c.loop-at.at ≡ length bytes = omega arith in
    record {
      inside = let h = state.inside in omega arith;
      few = state.few;
      unended = none_left bytes c.loop-at.taken.start c.loop-at.at all state.inside state.unended;
      goes_on = state.goes_on;
    }
