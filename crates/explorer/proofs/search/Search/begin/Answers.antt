use Rattle.explorer.proofs.Common.{◌+◌, List, arith, refl, length, ap, sym, subst, ◌∙◌, IfErr-weaker, Visit, ComesBackAt, BeginFails, start, Exact, Forgets, precision_in, Forgets-forgotten}
use Rattle.explorer.proofs.Counting.{CountsTo-here}
use Rattle.explorer.proofs.Paths.{Path-here}
use Rattle.explorer.proofs.Unfinished.{OnPath-start}
use Rattle.explorer.proofs.Starts.{empty_fine, starts_ready}
use Rattle.explorer.proofs.Telling.{begin_fails}
use Rattle.explorer.proofs.search.Search.begin.Goals as goal

pub come-requires-clause-comes : goal.come-requires-clause-comes
come-requires-clause-comes c =
    let p = c.args.flow.now in
    let search = c.args.self.now in
    let states = search.states.states.items in
    let path = search.path.items in
    let s = c.forget.new.self in
    let new = c.requires.new in
    let exact = subst (λ x. Forgets Exact p x s) new.current c.forget.ensures in
    let begins = subst (λ k. Forgets (precision_in k) p start s) (sym new.kept) exact in
    record {
      at =
          record {
            fine = empty_fine p search.finished states new.states;
            first = s;
            begins = begins;
            path = Path-here (precision_in search.kept) p search.finished states path s s new.path
                refl;
          };
      on_path = OnPath-start states path new.states new.path;
      counts =
          CountsTo-here p path s s (search.finished + length path) new.path refl
          (omega (arith, new.finished, ap (λ (x : List Visit). length x) new.path));
      ready = starts_ready p p s refl c.requires.whole begins;
    }

pub come-requires-clause-forgotten : goal.come-requires-clause-forgotten
come-requires-clause-forgotten c = λ none.
    Forgets-forgotten c.args.flow.now c.args.self.now.current c.forget.new.self
    c.forget.ensures

pub returns-clause-stops : goal.returns-clause-stops
returns-clause-stops c = c.come.ensures.stops

pub returns-clause-fails : goal.returns-clause-fails
returns-clause-fails c =
    let p = c.args.flow.now in
    let s = c.forget.new.self in
    let now = c.come.new.self.current in
    let begins = subst (λ x. Forgets Exact p x s) c.requires.new.current c.forget.ensures in
    IfErr-weaker c.come.result (λ r. ComesBackAt s r.0 r.1) (λ r. BeginFails Exact p now r.0 r.1)
    (λ r at. begin_fails Exact p s now r.0 r.1 c.come.ensures.current begins at)
    c.come.ensures.fails

pub returns-clause-kept : goal.returns-clause-kept
returns-clause-kept c = c.come.ensures.kept ∙ c.requires.new.kept
