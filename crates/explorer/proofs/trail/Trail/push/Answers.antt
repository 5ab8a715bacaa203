use Rattle.explorer.proofs.Common.{◌≡◌, ◌∙◌, ◌-◌, ◌++◌, ◌∷◌, [], take, ap, sym, length, length-append, arith, Visit, KeptVisit, Visits, waiting_count}
use Rattle.std.proofs.Math.Seq.{take-append_seam}
use Rattle.std.specs.Vec.{vec_len}
use Rattle.explorer.proofs.Trails.{visits_of-more, waiting_count-more}
use Rattle.explorer.proofs.trail.Trail.push.Goals as goal

pub returns-clause-items : goal.returns-clause-items
returns-clause-items c =
    let visit : Visit = c.args.visit in
    visits_of-more c.self.inside.visits.items c.push.new.self.items
    (record {
      best = visit.best;
      stored = c.in_ok-stored.stored;
      waits = c.is_some-waits.result;
      course = c.args.course;
    })
    c.self.inside.pending.items c.put_pending.new.pending.items visit.pending c.self.invariant
    c.in_ok-push.ensures.items c.in-Ok.ensures.items c.is_some-waits.ensures
    ∙ ap (λ (v : Visits). v.items
    ++ record { pending = visit.pending; best = visit.best; stored = c.in_ok-stored.stored } ∷ [])
    c.self.view_is
    ∙ ap (λ s. c.args.self.now.items
    ++ record { pending = visit.pending; best = visit.best; stored = s } ∷ [])
    c.in_ok-stored.ensures

pub returns-clause-len : goal.returns-clause-len
returns-clause-len c =
    ap length (returns-clause-items c) ∙ length-append c.args.self.now.items (c.args.visit ∷ [])

pub invariant_of-self-in-Ok : goal.invariant_of-self-in-Ok
invariant_of-self-in-Ok c =
    waiting_count-more c.self.inside.visits.items c.push.new.self.items
    (record {
      best = c.args.visit.best;
      stored = c.in_ok-stored.stored;
      waits = c.is_some-waits.result;
      course = c.args.course;
    })
    c.self.inside.pending.items c.put_pending.new.pending.items c.args.visit.pending
    c.self.invariant c.in_ok-push.ensures.items c.in-Ok.ensures.items
    c.is_some-waits.ensures

-- a visit for whose pending state there is no room
pub invariant_of-self-in_default : goal.invariant_of-self-in_default
invariant_of-self-in_default c =
    let visits = c.self.inside.visits.items in
    let kept : KeptVisit = record {
      best = c.args.visit.best;
      stored = c.in_ok-stored.stored;
      waits = c.is_some-waits.result;
      course = c.args.course;
    } in
    let count : vec_len c.push.new.self - 1 ≡ length visits =
    omega (arith, c.in_ok-push.ensures.len, c.self.inside.visits.ok.0) in
    let same : c.pop-visit.new.self.items ≡ visits =
    c.pop-visit.ensures.rest ∙ ap (λ k. take k c.push.new.self.items) count
    ∙ ap (take (length visits)) c.in_ok-push.ensures.items
    ∙ take-append_seam visits (kept ∷ []) in
    ap waiting_count same ∙ c.self.invariant ∙ sym c.in_default.ensures.err
