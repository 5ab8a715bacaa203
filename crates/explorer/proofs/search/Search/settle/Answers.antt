use Rattle.explorer.proofs.Common.{◌≢◌, ◌∙◌, arith, subst, StopsAt, TooLong, AfterMoveOrEnd, precision_in, IfReturns, ReturnFails, HeardPath, HearsMove}
use Rattle.explorer.proofs.Stopping.{halted}
use Rattle.explorer.proofs.Telling.{returns_less, has_ended, follows_end, told_back, refused_back}
use Rattle.explorer.proofs.search.Search.settle.Goals as goal
use Rattle.explorer.proofs.search.Search.settle.Goals.{in-Covered, in-Covered-2}

pub returns-in-New-clause-told : goal.returns-in-New-clause-told
returns-in-New-clause-told g c = λ how fine.
    let p = c.args.flow.now in
    let path = c.moves.self.path.items in
    let told : HearsMove how p
    (g.L.Listener.follows c.tell.new.listener how p) path c.moves.self.current c.moves.made =
    c.in_default.ensures how p path (c.moves.invariant.untold how fine) in
    subst
    (HearsMove how p (g.L.Listener.follows c.tell.new.listener how p) path c.moves.self.current)
    c.in-New.is told

pub back-requires-clause-at : goal.back-requires-clause-at
back-requires-clause-at g c = elim c.match-made.branch [
  | in-Covered w ↦
      has_ended c.args.flow.now c.moves.self c.moves.made w.in-Covered.number c.match-made.ended
      w.in-Covered.is w.ended-is c.moves.invariant.moves
  | in-Covered-2 w ↦
      has_ended c.args.flow.now c.moves.self c.moves.made w.in-Covered.number c.match-made.ended
      w.in-Covered.is w.ended-is c.moves.invariant.moves
]

pub moves-smaller : goal.moves-smaller
moves-smaller g c =
    let old = c.moves.self.path.items in
    let new = c.back.new.self.path.items in
    let now = c.back.new.self.current in
    let returns : IfReturns old c.in-Ok-Some.field-0 new now = c.in-Ok-Some.ensures.returns in
    returns_less old new now c.in-Ok-Some.next
    (subst (λ o. IfReturns old o new now) c.in-Ok-Some.field-0-is returns)

pub moves-preserved : goal.moves-preserved
moves-preserved g c =
    let p = c.args.flow.now in
    let old = c.moves.self.path.items in
    let new = c.back.new.self.path.items in
    let now = c.back.new.self.current in
    let next = c.in-Ok-Some.next in
    let moves : AfterMoveOrEnd p c.back.new.self c.match-made.ended c.in-Ok-Some.field-0 =
    c.in-Ok-Some.ensures.moves in
    let returns : IfReturns old c.in-Ok-Some.field-0 new now = c.in-Ok-Some.ensures.returns in
    record {
      moves =
          subst (λ o. AfterMoveOrEnd p c.back.new.self c.match-made.ended o) c.in-Ok-Some.field-0-is
          moves;
      untold =
          λ how fine.
          let tale = g.L.Listener.follows c.tell.new.listener how p in
          let told : HearsMove how p tale old c.moves.self.current c.moves.made =
          c.in_default.ensures how p old (c.moves.invariant.untold how fine) in
          let follows : HeardPath how p tale old = elim c.match-made.branch [
            | in-Covered w ↦
                follows_end how p tale old c.moves.self.current c.moves.made
                w.in-Covered.number w.in-Covered.is told
            | in-Covered-2 w ↦
                follows_end how p tale old c.moves.self.current c.moves.made
                w.in-Covered.number w.in-Covered.is told
          ] in
          told_back how p tale old new now next follows
          (subst (λ o. IfReturns old o new now) c.in-Ok-Some.field-0-is returns);
      kept = c.back.ensures.kept ∙ c.moves.invariant.kept;
      explored = omega (arith, c.in-Ok-Some.ensures.explored, c.moves.invariant.explored);
    }

pub returns-in-Err-back-clause-ends : goal.returns-in-Err-back-clause-ends
returns-in-Err-back-clause-ends g c = λ how fine.
    let p = c.args.flow.now in
    let tale = g.L.Listener.follows c.tell.new.listener how p in
    let old = c.moves.self.path.items in
    let told : HearsMove how p tale old c.moves.self.current c.moves.made =
    c.in_default.ensures how p old (c.moves.invariant.untold how fine) in
    let follows : HeardPath how p tale old = elim c.match-made.branch [
      | in-Covered w ↦
          follows_end how p tale old c.moves.self.current c.moves.made w.in-Covered.number
          w.in-Covered.is told
      | in-Covered-2 w ↦
          follows_end how p tale old c.moves.self.current c.moves.made w.in-Covered.number
          w.in-Covered.is told
    ] in
    c.halt.ensures.ends how p
    (refused_back how p tale old c.back.new.self.current c.in-Err-back.refused.0
    c.in-Err-back.refused.1 follows c.in-Err-back.ensures.fails)

pub returns-in-Err-back-clause-stops : goal.returns-in-Err-back-clause-stops
returns-in-Err-back-clause-stops g c =
    let refused = c.in-Err-back.refused in
    halted c.halt.result refused.0 refused.1
    (StopsAt (precision_in c.back.new.self.kept) c.args.flow.now)
    c.halt.ensures.same c.in-Err-back.ensures.stops

pub returns-in-Err-back-clause-not_long : goal.returns-in-Err-back-clause-not_long
returns-in-Err-back-clause-not_long g c =
    let refused = c.in-Err-back.refused in
    halted c.halt.result refused.0 refused.1 (λ e slot. e ≢ TooLong) c.halt.ensures.same
    (λ is. subst (λ e. ReturnFails c.moves.self.path.items c.back.new.self.current e refused.1)
    is c.in-Err-back.ensures.fails)
