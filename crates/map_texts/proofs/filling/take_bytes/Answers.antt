use Rattle.map_texts.proofs.Common.{arith, ◌≡◌, ◌-◌, ◌≤◌, ℕ, List, Some, take, drop, length-take, sym, ap, ◌∙◌, subst, length-take-le, rows_of, contents_of, MapTextError, FilledMaps, left_of, HasNoFeed, IsPending}
use Rattle.map_texts.proofs.Taking.{some_kept, none_kept, tail_of, take_short}
use Rattle.map_texts.proofs.filling.take_bytes.Goals as goal

pub returns-in-Some-clause-taken : goal.returns-in-Some-clause-taken
returns-in-Some-clause-taken c =
    let rows = rows_of c.args.maps.now in
    let held = contents_of c.take_lines.new.maps in
    let buffer = c.args.buffer.now in
    let bytes = take c.args.end buffer in
    let start = c.in-Ok.taken.start in
    let number = c.in-Ok.taken.number in
    let len = c.in-Some.len in
    let rest = c.args.end - start in
    let tail = take rest (drop start buffer) in
    let state = c.in-Ok.ensures.taken in
    let few = state.few in
    let inside = state.inside in
    let size = length-take c.args.end buffer in
    let ordered : start ≤ c.args.end = omega arith in
    let same : drop start bytes ≡ tail = tail_of start c.args.end buffer ordered in
    let none : HasNoFeed tail = subst HasNoFeed same state.unended in
    let kept =
    some_kept rows number held tail none c.args.longest c.requires.longest c.requires.most len
    c.in-Some.ensures in
    let within = kept.inside in
    let tail_size = length-take rest (drop start buffer) in
    let short : len ≤ rest = omega arith in
    let front : take len c.move_front.new.buffer ≡ take len tail =
    c.move_front.ensures ∙ sym (take_short len rest (drop start buffer) short) in
    let kept_size = length-take-le len tail within in
    let room = kept.pending.room in
    record {
      is_pending = subst (IsPending rows) (sym front) kept.pending;
      len = omega arith;
      few = omega arith;
      goes_on = λ ending more.
          state.goes_on ending more
          ∙ ap (λ (l : List ℕ). left_of rows number held l ending more) same
          ∙ kept.goes_on ending more
          ∙ ap (λ (l : List ℕ). left_of rows number held l ending more) (sym front);
    }

pub returns-in-None-clause-taken : goal.returns-in-None-clause-taken
returns-in-None-clause-taken c =
    let rows = rows_of c.args.maps.now in
    let held = contents_of c.take_lines.new.maps in
    let buffer = c.args.buffer.now in
    let bytes = take c.args.end buffer in
    let start = c.in-Ok.taken.start in
    let number = c.in-Ok.taken.number in
    let rest = c.args.end - start in
    let tail = take rest (drop start buffer) in
    let state = c.in-Ok.ensures.taken in
    let inside = state.inside in
    let size = length-take c.args.end buffer in
    let ordered : start ≤ c.args.end = omega arith in
    let same : drop start bytes ≡ tail = tail_of start c.args.end buffer ordered in
    let none : HasNoFeed tail = subst HasNoFeed same state.unended in
    λ ending more.
    state.goes_on ending more
    ∙ ap (λ (l : List ℕ). left_of rows number held l ending more) same
    ∙ none_kept rows number held tail none c.args.longest c.requires.longest c.requires.most
    c.in-None.ensures ending more
    ∙ ap (λ (e : MapTextError).
    let f : FilledMaps = record { contents = held; error = Some e } in f)
    (sym c.at.ensures)
