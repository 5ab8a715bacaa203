use Rattle.explorer.proofs.Common.{◌≡◌, ◌∙◌, ◌++◌, ◌∷◌, [], None, false, refl, ap, sym, arith, length, length-append, append-nil, Visits, visits_of}
use Rattle.explorer.proofs.Trails.{visits_of-more, waiting_count-less, last_idle, length-visits_of}
use Rattle.explorer.proofs.trail.Trail.pop.Goals as goal
use Rattle.explorer.proofs.trail.Trail.pop.Goals.{After-as_usize}

-- no state is pending at the last visit
idle : (c : After-as_usize) → c.in-Some.kept.waits ≡ false
idle c =
    let seen = ap (λ (v : Visits). v.items) c.self.view_is in
    last_idle c.pop.new.self.items c.self.inside.visits.items c.in-Some.kept
    c.self.inside.pending.items c.in-Some.ensures.items c.self.invariant
    (λ path visit is. c.requires path visit (sym seen ∙ is)) c.in-Some.kept.waits refl

pub invariant_of-self-2 : goal.invariant_of-self-2
invariant_of-self-2 c =
    let states = c.self.inside.pending.items in
    waiting_count-less c.pop.new.self.items c.self.inside.visits.items c.in-Some.kept states
    states None c.self.invariant c.in-Some.ensures.items (sym (append-nil states)) (idle c)

pub returns-clause-items : goal.returns-clause-items
returns-clause-items c =
    let kept = c.in-Some.kept in
    let states = c.self.inside.pending.items in
    ap (λ (v : Visits). v.items) (sym c.self.view_is)
    ∙ visits_of-more c.pop.new.self.items c.self.inside.visits.items kept states states None
    (invariant_of-self-2 c) c.in-Some.ensures.items (sym (append-nil states)) (idle c)
    ∙ ap (λ s. visits_of c.pop.new.self.items states
    ++ record { pending = None; best = kept.best; stored = s } ∷ []) (sym c.as_usize.ensures)

pub returns-clause-cases : goal.returns-clause-cases
returns-clause-cases c =
    sym (ap length (returns-clause-items c)
    ∙ length-append (visits_of c.pop.new.self.items c.self.inside.pending.items)
    (record { pending = None; best = c.in-Some.kept.best; stored = c.as_usize.result } ∷ []))

pub returns-in_default-clause-cases : goal.returns-in_default-clause-cases
returns-in_default-clause-cases c =
    let before = length-visits_of c.self.inside.visits.items c.self.inside.pending.items in
    let after = length-visits_of c.pop.new.self.items c.self.inside.pending.items in
    let whole = ap (λ (v : Visits). length v.items) c.self.view_is in (
      omega (arith, before, whole, c.in_default.ensures.cases.0, c.self.inside.visits.ok.0),
      omega
          (arith, after, c.in_default.ensures.cases.1, c.pop.new.self.ok.0),
    )
