use Rattle.explorer.proofs.Common.{◌≡◌, ℕ, Result, subst, sym, Ok, Err, IfOk, IfErr, Program, IsImage, Within, start, HasNumber, IsNew, IfRefused, EndsAsPrecise}
use Rattle.isa_model.specs.Running.Outcomes.{StartsEnd}
use Rattle.explorer.proofs.Starts.{starts_end}
use Rattle.explorer.proofs.Stopping.{search_refused, search_stopped, outside_ends}
use Rattle.explorer.proofs.listened.search_with.Goals as goal

ends : {E : Type 0} (r : Result ℕ E) (p q : Program) → p ≡ q → IsImage q
    → IfOk r (λ n. Within p start n) → IfOk r (StartsEnd q)
ends (Ok n) p q same image within = starts_end p q n same image within
ends (Err e) p q same image within = tt

pub find_bound-requires : goal.find_bound-requires
find_bound-requires g c = record {
  image = c.in-Ok.ensures.image;
  whole = c.in-Ok.ensures.whole;
  good = rw c.in-Ok.ensures.image c.in-Ok.ensures.good;
  new = subst IsNew (sym c.deref_mut.ensures.value) c.in-Ok.ensures.new;
  untold = rw c.in-Ok.ensures.image c.requires.untold;
}

pub returns-in-Ok-clause-ends : goal.returns-in-Ok-clause-ends
returns-in-Ok-clause-ends g c =
    ends c.find_bound.result.result c.in-Ok.flow c.args.image.now c.in-Ok.ensures.image
    c.in-Ok.ensures.whole c.find_bound.ensures.within

pub returns-in-Ok-clause-number : goal.returns-in-Ok-clause-number
returns-in-Ok-clause-number g c =
    subst (λ (p : Program). IfOk c.find_bound.result.result (λ n. HasNumber p start n))
    c.in-Ok.ensures.image c.find_bound.ensures.number

pub returns-in-Ok-clause-refused : goal.returns-in-Ok-clause-refused
returns-in-Ok-clause-refused g c =
    search_refused c.find_bound.result.result c.in-Ok.flow c.args.image.now c.in-Ok.ensures.image
    c.in-Ok.ensures.good c.find_bound.ensures.stops

pub returns-in-Ok-clause-stopped : goal.returns-in-Ok-clause-stopped
returns-in-Ok-clause-stopped g c =
    search_stopped c.find_bound.result.result c.args.image.now c.in-Ok.ensures.good

pub returns-in-Ok-clause-follows : goal.returns-in-Ok-clause-follows
returns-in-Ok-clause-follows g c =
    subst (λ (p : Program). IfErr c.find_bound.result.result (λ h. IfRefused h
    (EndsAsPrecise p (λ how. g.L.Listener.follows c.find_bound.new.listener how p))))
    c.in-Ok.ensures.image c.find_bound.ensures.follows

pub returns-in-Err : goal.returns-in-Err
returns-in-Err g c = rw c.early.ensures record {
  ends = tt;
  number = tt;
  some = tt;
  most = tt;
  refused = c.in-Err.ensures.refused;
  stopped = tt;
  follows =
      outside_ends c.args.image.now
      (λ how. g.L.Listener.follows c.args.listener.now how c.args.image.now) c.in-Err.refusal
      c.in-Err.slot c.in-Err.ensures.early;
}
