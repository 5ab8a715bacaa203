use Rattle.explorer.proofs.Common.{◌≡◌, ◌∙◌, ◌+◌, length, arith, refl, sym, subst, IsImage, StopsAt, TooLong, IsNext, IsTooLong, precision_in, BeginFails, FollowsNext, Takes, ItsOwn, start, Exact, Coarse, IsNoFiner, Forgets-as, WalksTo-as, IsNoFiner-trans}
use Rattle.explorer.proofs.Stopping.{halted}
use Rattle.explorer.proofs.Counting.{CountsTo-takes}
use Rattle.explorer.proofs.Walking.{Path-walks}
use Rattle.explorer.proofs.Telling.{told_begin, refused_begin, BeginsPath-as, BeginFails-as}
use Rattle.explorer.proofs.Lengthening.{IsNext-as}
use Rattle.explorer.specs.declared.moves.NextMove.TheVariants.{Explore}
use Rattle.explorer.proofs.search.Search.explore_all.Goals as goal

pub returns-in-Explore-next_move-clause-stops : goal.returns-in-Explore-next_move-clause-stops
returns-in-Explore-next_move-clause-stops g c =
    let p = c.args.flow.now in
    let search = c.loop-explored.self in
    let how = precision_in search.kept in
    let goes = rw c.in-Explore-next_move.is at c.loop-explored.invariant.goes in (
      record {
        state = search.current;
        steps = length search.path.items;
        walk =
            WalksTo-as Coarse how p (length search.path.items) search.current tt
            (Path-walks p search.finished search.states.states.items search.path.items goes.at.first
            search.current goes.at.begins goes.at.path);
        slot_is = c.slot.ensures;
        begins = rw c.slot.ensures goes.ready.insn_begins;
      },
      (
        goes.at.first,
        Forgets-as Coarse how p start goes.at.first tt goes.at.begins,
        subst (λ n. Takes p goes.at.first n) (omega (arith, c.loop-explored.invariant.explored))
            (CountsTo-takes p search.path.items goes.at.first search.current
            (search.finished + length search.path.items) 1 goes.counts
            (ItsOwn search.current 1 goes.ready.insn_begins refl)),
      ),
    )

pub settle-requires-clause-untold : goal.settle-requires-clause-untold
settle-requires-clause-untold g c = λ how fine.
    let p = c.args.flow.now in
    let search = c.begin.new.self in
    let exact = subst (λ k. IsNoFiner how (precision_in k)) c.begin.ensures.kept fine in
    let (last, told) = c.requires.untold how in
    told_begin how p (g.L.Listener.follows c.args.listener.now how p) search.path.items
    search.current last c.in-Ok.made
    (BeginsPath-as how Exact p c.in-Ok.made search.path.items search.current exact
    c.in-Ok.ensures.begins) told

pub returns-in-Err-clause-ends : goal.returns-in-Err-clause-ends
returns-in-Err-clause-ends g c = λ how fine.
    let p = c.args.flow.now in
    let search = c.begin.new.self in
    let refused = c.in-Err.refused in
    let exact = subst (λ k. IsNoFiner how (precision_in k)) c.begin.ensures.kept fine in
    let (last, told) = c.requires.untold how in
    c.halt.ensures.ends how p
    (refused_begin how p (g.L.Listener.follows c.args.listener.now how p) search.current last
    refused.0 refused.1
    (BeginFails-as how Exact p search.current refused.0 refused.1 exact c.in-Err.ensures.fails)
    told)

-- ---- the calls

pub begin-requires : goal.begin-requires
begin-requires g c =
    record { whole = subst IsImage (sym c.requires.image) c.requires.whole; new = c.requires.new }

pub settle-requires-clause-moves : goal.settle-requires-clause-moves
settle-requires-clause-moves g c = c.in-Ok.ensures.moves

pub settle-requires-clause-room : goal.settle-requires-clause-room
settle-requires-clause-room g c = omega (arith, c.begin.ensures.explored)

pub advance-requires : goal.advance-requires
advance-requires g c =
    let p = c.args.flow.now in
    let search = c.loop-explored.self in
    let kept = c.lengthen.new.kept in
    let coarser = c.lengthen.ensures.coarser in
    record {
      image = c.requires.image;
      good = c.requires.good;
      at =
          IsNext-as p search kept (Explore c.in-Explore.stored) coarser
          (subst (IsNext p search) c.in-Explore.is c.loop-explored.invariant.goes);
      room = omega (arith, c.loop-explored.invariant.explored, c.loop-explored-test.true);
      told = λ how fine.
          subst (FollowsNext how p (g.L.Listener.follows c.loop-explored.listener how p)
          search.path.items search.current) c.in-Explore.is
          (c.loop-explored.invariant.told how
          (IsNoFiner-trans how (precision_in kept) (precision_in search.kept) fine coarser));
    }

-- ---- the loop

pub loop-explored-init : goal.loop-explored-init
loop-explored-init g c = record {
  goes = c.in_ok-next_move.ensures.goes;
  told = λ how fine.
      c.in_ok-next_move.ensures.told how
      (subst (λ k. IsNoFiner how (precision_in k)) c.settle.ensures.kept fine);
  exact = λ is. c.settle.ensures.kept ∙ c.begin.ensures.kept;
  explored = omega (arith, c.begin.ensures.explored, c.in_ok-next_move.ensures.explored);
}

pub loop-explored-preserved : goal.loop-explored-preserved
loop-explored-preserved g c = record {
  goes = c.in_ok-next_move-in-Explore.ensures.goes;
  told = λ how fine.
      c.in_ok-next_move-in-Explore.ensures.told how
      (subst (λ k. IsNoFiner how (precision_in k)) c.advance.ensures.kept fine);
  exact = λ is.
      c.advance.ensures.kept ∙ c.lengthen.ensures.exact is ∙ c.loop-explored.invariant.exact is;
  explored = omega (
    arith,
    c.loop-explored.invariant.explored,
    c.in_ok-next_move-in-Explore.ensures.explored,
  );
}

-- ---- where the path does not begin

pub returns-in-Err-clause-stops : goal.returns-in-Err-clause-stops
returns-in-Err-clause-stops g c =
    halted c.halt.result c.in-Err.refused.0 c.in-Err.refused.1
    (StopsAt (precision_in c.begin.new.self.kept) c.args.flow.now)
    c.halt.ensures.same c.in-Err.ensures.stops

pub returns-in-Err-clause-too_long : goal.returns-in-Err-clause-too_long
returns-in-Err-clause-too_long g c =
    let refused = c.in-Err.refused in
    let search = c.begin.new.self in
    halted c.halt.result refused.0 refused.1
    (λ e slot. e ≡ TooLong → IsTooLong search slot) c.halt.ensures.same
    (λ is. absurd (subst (λ e. BeginFails Exact c.args.flow.now search.current e refused.1) is
    c.in-Err.ensures.fails))

-- ---- where the start has its number

pub returns-in-Done-clause-settles : goal.returns-in-Done-clause-settles
returns-in-Done-clause-settles g c =
    subst (IsNext c.args.flow.now c.loop-explored.self) c.in-Done.is
    c.loop-explored.invariant.goes
