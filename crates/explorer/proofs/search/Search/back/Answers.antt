use Rattle.explorer.proofs.Common.{ℕ, Option, None, ◌≡◌, ◌∙◌, ◌++◌, ◌∷◌, [], ◌+◌, List, Some, refl, arith, sym, ap, length, subst, Visit, State, TakesLastPending, Settles, HasSpent, Path, precision_in, start, Coarse, Forgets-as}
use Rattle.explorer.proofs.StoredStatesLaws.{Settles-start}
use Rattle.explorer.proofs.Paths.{LastVisit, Path-pop, Path-none}
use Rattle.explorer.proofs.Unfinished.{OnPath-pop}
use Rattle.explorer.proofs.Counting.{spent_back}
use Rattle.explorer.proofs.SearchMoves.{goes_back, comes_aside}
use Rattle.explorer.proofs.search.Search.back.Goals as goal
use Rattle.explorer.proofs.search.Search.back.Goals.{In-Some-pop}

-- nothing is pending at the last visit
none_taken : (o : Option State) (n : ℕ) (old new : List Visit)
    → ((s : State) → o ≡ Some s → ⊥) → TakesLastPending n old o new
    → TakesLastPending n old None new
none_taken None n old new none on = on
none_taken (Some s) n old new none on = absurd (none s refl)

-- nothing is pending there: the last visit is taken
taken : (c : In-Some-pop)
    → c.args.self.now.path.items ≡ c.pop.new.self.items ++ c.in-Some-pop.visit ∷ []
taken c = sym (none_taken _ _ _ _ c.in_default-taken.not-Some c.in-Ok.ensures).0 ∙
    c.in-Some-pop.ensures.items

last_of : (c : In-Some-pop)
    → LastVisit (precision_in c.args.self.now.kept) c.args.flow.now c.args.self.now.finished
    c.args.self.now.states.states.items
    c.requires.at.at.first c.pop.new.self.items c.in-Some-pop.visit c.requires.at.state
last_of c =
    let p = c.args.flow.now in
    let search = c.args.self.now in
    let at = c.requires.at in
    Path-pop p search.finished search.states.states.items c.pop.new.self.items
    c.in-Some-pop.visit at.at.first at.state
    (subst (λ (x : List Visit). Path (precision_in search.kept) p search.finished
    search.states.states.items at.at.first x
    at.state) (taken c) at.at.path)

pub come-requires-clause-comes : goal.come-requires-clause-comes
come-requires-clause-comes c =
    let on = subst
    (λ o. TakesLastPending c.args.ended c.args.self.now.path.items o
    c.take_last_pending.new.self.items) c.in-Some.is c.in-Ok.ensures in
    comes_aside c.args.flow.now c.args.self.now on.path on.visit _ c.take_last_pending.new.self
    c.args.ended c.restore.new.self c.requires.at on.was
    (on.pending ∙ ap Some (sym c.restore.ensures)) refl on.now

pub returns-in_default-pop-clause-moves : goal.returns-in_default-pop-clause-moves
returns-in_default-pop-clause-moves c =
    let p = c.args.flow.now in
    let search = c.args.self.now in
    let at = c.requires.at in
    let none : length search.path.items ≡ 0 =
    ap length (sym (none_taken _ _ _ _ c.in_default-taken.not-Some c.in-Ok.ensures).0) ∙
    c.in_default-pop.ensures.cases.0 in
    let same =
    Path-none (precision_in search.kept) p search.finished search.states.states.items
    search.path.items at.at.first
    at.state none at.at.path in
    let settled = subst (λ x. Settles p x c.args.ended) same at.settled in (
      Settles-start p at.at.first c.args.ended
          (Forgets-as Coarse (precision_in search.kept) p start at.at.first tt at.at.begins)
          settled,
      at.some,
      at.most,
    )

pub overflow_add-number : goal.overflow_add-number
overflow_add-number c =
    let last = last_of (goal.at.overflow_add-number c).In-Some-pop in
    omega (arith, last.waiting.best, c.requires.at.most, c.requires.room, c.max-number.ensures)

pub finish-requires : goal.finish-requires
finish-requires c =
    let last = last_of (goal.at.finish-requires c).In-Some-pop in
    (last.state, last.waiting.stored)

pub returns-clause-moves : goal.returns-clause-moves
returns-clause-moves c =
    let p = c.args.flow.now in
    let search = c.args.self.now in
    let states = search.states.states.items in
    let path = c.pop.new.self.items in
    let visit = c.in-Some-pop.visit in
    let at = c.requires.at in
    let here = (goal.at.returns-clause-moves c).In-Some-pop in
    let items = taken here in
    let last = last_of here in
    let on_path = OnPath-pop states path search.path.items visit items at.on_path in
    let back = goes_back p search.finished states c.finish.new.self.states.items at.at.first path
    visit at.state c.args.ended c.max-number.result
    at.at.begins at.at.fine last on_path at.settled at.most
    ((none_taken _ _ _ _ c.in_default-taken.not-Some c.in-Ok.ensures).1 path visit items)
    c.max-number.ensures c.finish.ensures in
    let same : search.finished + length search.path.items ≡ search.finished + 1 + length path =
    omega (
      arith,
      c.in-Some-pop.ensures.cases,
      ap length (none_taken _ _ _ _ c.in_default-taken.not-Some
          c.in-Ok.ensures).0,
    ) in
    record {
      state = back.state;
      at =
          record {
            fine = back.fine;
            first = at.at.first;
            begins = at.at.begins;
            path = back.before;
          };
      on_path = back.on_path;
      settled = back.settled;
      spent =
          subst (λ n. HasSpent p at.at.first path n) same
          (spent_back p at.at.first path search.path.items visit
          (search.finished + length search.path.items) items at.spent);
      some = omega arith;
      most = back.most;
    }
