use Rattle.explorer.proofs.Common.{◌≡◌, ◌∙◌, ℕ, ◌+◌, List, ◌++◌, ◌∷◌, [], Bool, true, false, Option, Some, None, ap, sym, refl, length, length-append, arith, max, not, set, take, is_some, append-nil, State, Visit, KeptVisit, Visits, visits_of, waiting_count, TakesLastPending}
use Rattle.explorer.proofs.Trails.{visits_of-more, waiting_count-more, waiting_count-less, waiting_count-taken, is_taken, length-visits_of, last_set, last_read, last_visit}
use Rattle.explorer.proofs.trail.Trail.take_last_pending.Goals as goal
use Rattle.explorer.proofs.trail.Trail.take_last_pending.Goals.{After-pop}

is_false : (b : Bool) → not b ≡ true → b ≡ false
is_false true h = absurd (cc h)
is_false false h = refl

is_true : (b : Bool) → not b ≡ false → b ≡ true
is_true true h = refl
is_true false h = absurd (cc h)

pub returns-in_default : goal.returns-in_default
returns-in_default c = (
  refl,
  λ path visit is.
      let count = length-visits_of c.self.inside.visits.items c.self.inside.pending.items in
      let whole = ap (λ (v : Visits). length v.items) c.self.view_is in
      let longer = ap length is ∙ length-append path (visit ∷ []) in
      absurd (omega (arith, count, whole, longer, c.in_default.ensures, c.len.ensures)),
)

pub returns-then-not-kept : goal.returns-then-not-kept
returns-then-not-kept c = (
  refl,
  λ path visit is.
      let whole = c.self.inside.visits.items in
      let states = c.self.inside.pending.items in
      let i = c.in-Some.last in
      let kept = c.index-kept.result.now in
      let front = take i whole in
      let split : whole ≡ front ++ kept ∷ [] =
      last_read whole i kept (omega (arith, c.in-Some.ensures, c.len.ensures))
      ∙ ap (λ k. front ++ k ∷ []) (sym c.index-kept.ensures) in
      let alone : states ≡ states ++ [] = sym (append-nil states) in
      let waits : kept.waits ≡ false = is_false kept.waits c.if-not-kept.true in
      let fits = waiting_count-less front whole kept states states None c.self.invariant split alone
      waits in
      let seen = ap (λ (v : Visits). v.items) c.self.view_is in
      ap (λ (v : Visit). v.pending)
      (last_visit path (visits_of front states) visit
      (record { pending = None; best = kept.best; stored = kept.stored })
      (sym is ∙ sym seen ∙ visits_of-more front whole kept states states None fits split alone
      waits)),
)

abbrev now : After-pop → KeptVisit
now c = record {
  best = c.max.result;
  stored = c.index-kept.result.now.stored;
  waits = false;
  course = c.aside.result;
}

-- the last visit as it was kept and as it is now
record Turned (c : After-pop) : Type 0 where
  split : c.self.inside.visits.items
      ≡ take c.in-Some.last c.self.inside.visits.items ++ c.index-kept.result.now ∷ []
  turned : set c.self.inside.visits.items c.in-Some.last (now c)
      ≡ take c.in-Some.last c.self.inside.visits.items ++ now c ∷ []
  waits : c.index-kept.result.now.waits ≡ true
  count : length c.self.inside.pending.items
      ≡ waiting_count (set c.self.inside.visits.items c.in-Some.last (now c)) + 1

turned_of : (c : After-pop) → Turned c
turned_of c =
    let whole = c.self.inside.visits.items in
    let i = c.in-Some.last in
    let kept = c.index-kept.result.now in
    let last : i + 1 ≡ length whole = omega (arith, c.in-Some.ensures, c.len.ensures) in
    let split : whole ≡ take i whole ++ kept ∷ [] =
    last_read whole i kept last ∙ ap (λ k. take i whole ++ k ∷ []) (sym c.index-kept.ensures) in
    let waits : kept.waits ≡ true = is_true kept.waits c.if-not-kept.false in
    let turned = last_set whole i (now c) last in
    record {
      split = split;
      turned = turned;
      waits = waits;
      count =
          sym c.self.invariant
          ∙ waiting_count-taken (take i whole) whole (set whole i (now c)) kept (now c) split
          turned waits refl;
    }

pub invariant_of-self : goal.invariant_of-self
invariant_of-self c =
    let t = turned_of (goal.at.invariant_of-self c).After-pop in
    omega (arith, t.count, c.in_default-pop.ensures.err)

pub invariant_of-self-2 : goal.invariant_of-self-2
invariant_of-self-2 c =
    let here = (goal.at.invariant_of-self-2 c).After-pop in
    let t = turned_of here in
    let taken =
    is_taken c.in-Ok.state c.self.inside.pending.items (omega (arith, t.count))
    c.in-Ok.ensures.none in
    waiting_count-more (take c.in-Some.last c.self.inside.visits.items) _ (now here)
    c.pop.new.self.items c.pop.new.self.items None
    (waiting_count-less (take c.in-Some.last c.self.inside.visits.items)
    c.self.inside.visits.items c.index-kept.result.now c.pop.new.self.items
    c.self.inside.pending.items c.in-Ok.state c.self.invariant t.split c.in-Ok.ensures.items
    (t.waits ∙ taken))
    t.turned (sym (append-nil c.pop.new.self.items)) refl

takes : (n best : ℕ) (old new path : List Visit) (stored : Option ℕ) (o : Option State)
    → true ≡ is_some o
    → old ≡ path ++ record { pending = o; best = best; stored = stored } ∷ []
    → new ≡ path ++ record { pending = None; best = max best n; stored = stored } ∷ []
    → TakesLastPending n old o new
takes n best old new path stored None some was now = absurd (cc some)
takes n best old new path stored (Some s) some was now = record {
  path = path;
  visit = record { pending = Some s; best = best; stored = stored };
  was = was;
  pending = refl;
  now = now;
}

pub returns : goal.returns
returns c =
    let here = (goal.at.returns c).After-pop in
    let whole = c.self.inside.visits.items in
    let front = take c.in-Some.last whole in
    let kept = c.index-kept.result.now in
    let states = c.pop.new.self.items in
    let t = turned_of here in
    let taken =
    is_taken c.in-Ok.state c.self.inside.pending.items (omega (arith, t.count))
    c.in-Ok.ensures.none in
    let waits = t.waits ∙ taken in
    let fits =
    waiting_count-less front whole kept states c.self.inside.pending.items c.in-Ok.state
    c.self.invariant t.split c.in-Ok.ensures.items waits in
    takes c.args.number kept.best c.args.self.now.items _ (visits_of front states) kept.stored
    c.in-Ok.state taken
    (ap (λ (v : Visits). v.items) (sym c.self.view_is)
    ∙ visits_of-more front whole kept states c.self.inside.pending.items c.in-Ok.state
    fits t.split c.in-Ok.ensures.items waits)
    (visits_of-more front _ (now here) states states None fits t.turned (sym (append-nil states))
    refl
    ∙ ap (λ b. visits_of front states ++ record {
      pending = None;
      best = b;
      stored = kept.stored;
    } ∷ []) c.max.ensures)
