-- Where a search stops, the program is refused.
use Rattle.explorer.proofs.Common.{◌≡◌, ◌∷◌, ℕ, List, Option, Result, Some, None, refl, sym, subst, Ok, Err, IfErr, Program, IsFlow, Precision, Exact, Coarse, IsNoFiner, StopsAt, IsRefused, Refusal, Flow, Step, Repeats, TooLong, Memory, State, IfRefused, IfStopped, IsForNumbers, IsSearchedAgain, IsOutsideSearch, EndsIn, EndsAsPrecise, InEach, precision_in}
use Rattle.isa_model.specs.Machine.MachineStates.{IsProgram}
use Rattle.control_flow.specs.declared.kept_numbers.KeptNumbers.{KeptNumbers}
use Rattle.walks.specs.Accepting.{AcceptsAll}
use Rattle.walks.proofs.AcceptingLaws.{AcceptsAll-refused}
use Rattle.explorer.specs.declared.moves.Halt.{Halt}
use Rattle.explorer.specs.declared.moves.Halt.TheVariants.{Refused, Stopped}

-- where a search over good control flow stops, the program is refused
pub stops_refused : (p q : Program) (e : Refusal) (slot : ℕ) → p ≡ q → IsFlow q
    → StopsAt Exact p e slot
    → IsRefused q e slot
stops_refused p q (Flow e) slot same good stops = absurd stops
stops_refused p q (Step e) slot same good stops =
    (good, subst (λ x. StopsAt Exact x (Step e) slot) same stops)
stops_refused p q Repeats slot same good stops =
    (good, subst (λ x. StopsAt Exact x Repeats slot) same stops)
stops_refused p q TooLong slot same good stops =
    (good, subst (λ x. StopsAt Exact x TooLong slot) same stops)
stops_refused p q Memory slot same good stops = (good, stops)

pub halt_refused : {S : Type 0} (h : Halt S) (p q : Program) → p ≡ q → IsFlow q
    → IfRefused h (StopsAt Exact p) → IfRefused h (IsRefused q)
halt_refused (Refused e slot) p q same good stops = stops_refused p q e slot same good stops
halt_refused (Stopped stop) p q same good stops = tt

pub search_refused : {S : Type 0} (r : Result ℕ (Halt S)) (p q : Program) → p ≡ q → IsFlow q
    → IfErr r (λ h. IfRefused h (StopsAt Exact p)) → IfErr r (λ h. IfRefused h (IsRefused q))
search_refused (Ok n) p q same good stops = tt
search_refused (Err h) p q same good stops = halt_refused h p q same good stops

-- no program that must be accepted has its refusal
pub halted_accepts : {S : Type 0} (p : Program) (h : Halt S) → IsProgram p
    → IfRefused h (IsRefused p) → IfRefused h (λ e _. AcceptsAll p e)
halted_accepts p (Refused e slot) program refused = AcceptsAll-refused p e slot program refused
halted_accepts p (Stopped stop) program refused = tt

-- a listener stops a search, and so control flow is good
halt_stopped : {S : Type 0} (h : Halt S) (p : Program) → IsFlow p → IfStopped h (IsFlow p)
halt_stopped (Refused e slot) p good = tt
halt_stopped (Stopped stop) p good = good

pub search_stopped : {S : Type 0} (r : Result ℕ (Halt S)) (p : Program) → IsFlow p
    → IfErr r (λ h. IfStopped h (IsFlow p))
search_stopped (Ok n) p good = tt
search_stopped (Err h) p good = halt_stopped h p good

-- nothing is said of the path where no search found the refusal
pub outside_ends : (p : Program) (tales : Precision → List State → State → Type 0) (e : Refusal)
    (slot : ℕ) → IsOutsideSearch e → EndsAsPrecise p tales e slot
outside_ends p tales (Flow e) slot outside = tt
outside_ends p tales Memory slot outside = tt
outside_ends p tales (Step e) slot outside = absurd outside
outside_ends p tales Repeats slot outside = absurd outside
outside_ends p tales TooLong slot outside = absurd outside

-- a fact of the refusal that a search stops with
pub halted : {S : Type 0} (h : Halt S) (e : Refusal) (slot : ℕ) (P : Refusal → ℕ → Type 0)
    → IfRefused h (λ f at. (f ≡ e) × (at ≡ slot)) → P e slot → IfRefused h P
halted (Refused f at) e slot P same h =
    subst (λ x. P x at) (sym same.0) (subst (P e) (sym same.1) h)
halted (Stopped stop) e slot P same h = tt

-- ---- searches that are not made again

ends_as_precise : (p : Program) (kept : Option KeptNumbers)
    (tales : Precision → List State → State → Type 0) (e : Refusal) (slot : ℕ)
    → (IsForNumbers e → kept ≡ None) → InEach kept (λ how. EndsIn p (tales how) e slot)
    → EndsAsPrecise p tales e slot
ends_as_precise p kept tales (Flow e) slot none h = tt
ends_as_precise p kept tales (Step e) slot none h =
    h Exact (subst (λ k. IsNoFiner Exact (precision_in k)) (sym (none tt)) tt)
ends_as_precise p kept tales Repeats slot none h =
    h Exact (subst (λ k. IsNoFiner Exact (precision_in k)) (sym (none tt)) tt)
ends_as_precise p kept tales TooLong slot none h = h Coarse tt
ends_as_precise p kept tales Memory slot none h = tt

-- no refusal is open where all numbers are kept that a path tests
none_open : (S : Type 0) (e : Refusal) (slot : ℕ) (kept : Option KeptNumbers)
    → (IsSearchedAgain {S = S} (Err (Refused e slot)) kept → ⊥) → IsForNumbers e → kept ≡ None
none_open S e slot None closed for = refl
none_open S e slot (Some k) closed for = absurd (closed for)

pub closed_ends : {S : Type 0} (r : Result ℕ (Halt S)) (kept : Option KeptNumbers) (p : Program)
    (tales : Precision → List State → State → Type 0) → (IsSearchedAgain r kept → ⊥)
    → InEach kept (λ how. IfErr r (λ h. IfRefused h (EndsIn p (tales how))))
    → IfErr r (λ h. IfRefused h (EndsAsPrecise p tales))
closed_ends (Ok n) kept p tales closed ends = tt
closed_ends (Err (Stopped stop)) kept p tales closed ends = tt
closed_ends {S = S} (Err (Refused e slot)) kept p tales closed ends =
    ends_as_precise p kept tales e slot (none_open S e slot kept closed) ends

-- none is where all numbers are kept
none_again : {S : Type 0} (r : Result ℕ (Halt S)) → IsSearchedAgain r None → ⊥
none_again (Ok n) again = absurd again
none_again (Err (Stopped stop)) again = absurd again
none_again (Err (Refused e slot)) again = absurd again

pub not_open : {S : Type 0} (r : Result ℕ (Halt S)) (kept : Option KeptNumbers) → kept ≡ None
    → IsSearchedAgain r kept → ⊥
not_open r kept none again = none_again r (subst (λ k. IsSearchedAgain r k) none again)

-- ---- searches that are

refusal_told : (p : Program) (tale : List State → State → Type 0) (e : Refusal) (slot : ℕ)
    → IsForNumbers e → EndsIn p tale e slot → (path : List State) × (last : State) × tale path last
refusal_told p tale (Step e) slot for h = (h.state ∷ h.before, h.state, h.told)
refusal_told p tale Repeats slot for h = (h.state ∷ h.before, h.state, h.told)
refusal_told p tale e slot for h = absurd for

-- the listener knows some path
pub open_told : {S : Type 0} (r : Result ℕ (Halt S)) (kept : Option KeptNumbers) (p : Program)
    (tales : Precision → List State → State → Type 0) → IsSearchedAgain r kept
    → InEach kept (λ how. IfErr r (λ h. IfRefused h (EndsIn p (tales how))))
    → (path : List State) × (last : State) × tales Coarse path last
open_told (Err (Refused e slot)) (Some k) p tales again ends =
    refusal_told p (tales Coarse) e slot again (ends Coarse tt)
open_told r kept p tales again ends = absurd again
