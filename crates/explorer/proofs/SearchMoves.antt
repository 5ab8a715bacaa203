-- What stays true of a search, move by move.
use Rattle.explorer.proofs.Common.{◌≡◌, ◌≤◌, ◌+◌, ◌∷◌, ◌++◌, [], ℕ, Some, None, Option, List, length, length-append, max, arith, refl, sym, ap, ◌∙◌, subst, inl, inr, All-push, All-pop, Insn, Program, fetch, start, State, IsFlow, StepsToWays, StoredState, Visit, Search, Visits, Move, New, Covered, Finished, StoredAt, GetsNumber, precision_in, Settles, Spends, CountsTo, Arrives, AllSettled, IsAtInsns, IfReady, IfStepsTo, Waiting, Path, OnPath, HasEnded, Explores, Comes, AfterMove, Precision, Coarse, Forgets, Forgets-as, WalksTo-as, LeadsTo-forgets, GoesOnTo-forgets, StepsInto, LeadsNowhere, Nothing}
use Rattle.std.specs.List.{All}
use Rattle.isa_model.specs.declared.instructions.Insn.TheVariants.{CallLocal}
use Rattle.control_flow.proofs.FlowLaws.{IsFlow-Follows, IsFlow-fall, IsFlow-call}
use Rattle.control_flow.specs.Graph.{BeginsInsn}
use Rattle.transfer.specs.declared.Ways.{Ways}
use Rattle.transfer.specs.declared.Ways.TheVariants as ways
use Rattle.transfer.specs.Leading.{LeadsTo, EachWay}
use Rattle.transfer.specs.Following.{returns_of, GoesOnTo}
use Rattle.explorer.specs.declared.stored_states.StoredStates.{StoredStates}
use Rattle.explorer.proofs.Walking.{steps_by, into_by, Path-walks, some_insn}
use Rattle.explorer.proofs.Counting.{Spends-one, Spends-two, spent_here, spent_into, spent_on}
use Rattle.explorer.proofs.StoredStatesLaws.{AllSettled-more, IsCovered-known, Arrives-keeps, Arrives-fine, Arrives-stored, GetsNumber-fine, GetsNumber-keeps}
use Rattle.explorer.proofs.Unfinished.{OnPath-same, OnPath-push, OnPath-pop, OnPath-arrives, OnPath-finish}
use Rattle.explorer.proofs.Paths.{LastVisit, Path-more, Path-push, Path-pop, StepsAwaited-ends, StepsAwaited-next, LeadsTo-ends, StepsAwaited-one, StepsAwaited-two, NumberFollows-ends, NumberFollows-next, NumberFollows-one, NumberFollows-two}

-- ---- an arrival

pub comes_to : (p : Program) (old : Search) (states : StoredStates) (scratch : State) (made : Move)
    → Comes p old → Arrives p old.states.states.items old.current made states.states.items
    → AfterMove p (record old { states = states; scratch = scratch }) made
comes_to p old states scratch (New stored) h arrives =
    let before = old.states.states.items in
    let after = states.states.items in
    let path = old.path.items in
    let kept = Arrives-keeps p before old.current (New stored) after arrives in
    record {
      at = record {
        fine = Arrives-fine p old.finished before old.current (New stored) after arrives h.at.fine;
        first = h.at.first;
        begins = h.at.begins;
        path =
            Path-more (precision_in old.kept) p old.finished old.finished before after
            (omega arith) kept path h.at.first old.current h.at.path;
      };
      on_path = OnPath-arrives p before after path old.current stored arrives h.on_path;
      stored_at = Arrives-stored p before old.current stored after arrives;
      counts = h.counts;
      ready = h.ready;
    }
comes_to p old states scratch (Covered k n) h arrives =
    let before = old.states.states.items in
    let after = states.states.items in
    let path = old.path.items in
    let total = old.finished + length path in
    let kept = Arrives-keeps p before old.current (Covered k n) after arrives in
    let known = IsCovered-known p old.finished before k old.current n h.at.fine arrives.1 in
    record {
      state = old.current;
      at = record {
        fine = Arrives-fine p old.finished before old.current (Covered k n) after arrives h.at.fine;
        first = h.at.first;
        begins = h.at.begins;
        path =
            Path-more (precision_in old.kept) p old.finished old.finished before after
            (omega arith) kept path h.at.first old.current h.at.path;
      };
      on_path = OnPath-same before after path None arrives.2 h.on_path;
      settled = known.0;
      spent =
          spent_here p h.at.first path old.current total 0 total h.counts
          (Nothing old.current 0 refl) (omega arith);
      some = arrives.1.finished;
      most = known.1;
    }
comes_to p old states scratch (Finished n) h arrives = absurd arrives

-- ---- a visit that ends

-- the number is written, and the search is at the state before
pub record IsBack (how : Precision) (p : Program) (m : ℕ) (states : List StoredState) (a : State)
    (path : List Visit)
    (number : ℕ) : Type 0 where
  pub state : State
  pub fine : AllSettled p m states
  pub before : Path how p m states a path state
  pub on_path : OnPath states path None
  pub settled : Settles p state number
  pub most : number ≤ m

pub goes_back : {how : Precision} (p : Program) (m : ℕ) (old new : List StoredState) (a : State)
    (path : List Visit)
    (visit : Visit) (child : State) (n best : ℕ)
    → Forgets how p start a → AllSettled p m old → LastVisit how p m old a path visit child
    → OnPath old path visit.stored → Settles p child n → n ≤ m → visit.pending ≡ None
    → best ≡ max visit.best n
    → GetsNumber old visit.stored (best + 1) new → IsBack how p (m + 1) new a path (best + 1)
goes_back {how = how} p m old new a path visit child n best begins fine last on settled le nothing
    is gets =
    let s = last.state in
    let waiting = last.waiting in
    let own : Settles p s (best + 1) = record {
      within = StepsAwaited-ends p visit s child n best waiting.waits nothing settled.within is;
      number = NumberFollows-ends p visit s child n best waiting.awaits nothing settled.number is;
    } in
    let most : best ≤ m = omega (arith, waiting.best, le, is) in
    let kept = GetsNumber-keeps old visit.stored s (best + 1) new gets waiting.stored in
    record {
      state = s;
      fine =
          GetsNumber-fine p (m + 1) old visit.stored s (best + 1) new gets waiting.stored own
          (omega (arith, most)) (
            length path,
            WalksTo-as Coarse how p (length path) s tt
                (Path-walks p m old path a s begins last.before),
          )
          (AllSettled-more p m (m + 1) old (omega arith) fine);
      before = Path-more how p m (m + 1) old new (omega arith) kept path a s last.before;
      on_path =
          OnPath-finish old new path visit.stored s (best + 1) gets waiting.stored
          (omega arith) on;
      settled = own;
      most = omega (arith, most);
    }

-- ---- a visit that continues

-- the path to the pending state, once the child has its number
path_aside : {how : Precision} (p : Program) (m : ℕ) (states : List StoredState) (a : State)
    (path : List Visit)
    (visit : Visit) (child : State) (n : ℕ) (current : State)
    → LastVisit how p m states a path visit child → Settles p child n → n ≤ m
    → visit.pending ≡ Some current
    → Path how p m states a
    (path ++ record { pending = None; best = max visit.best n; stored = visit.stored } ∷ []) current
path_aside {how = how} p m states a path visit child n current last settled le is =
    let s = last.state in
    let rest : Visit = record { pending = None; best = max visit.best n; stored = visit.stored } in
    let waiting : Waiting how p m states rest s current =
    record {
      waits = StepsAwaited-next p visit s child current n last.waiting.waits is settled.within;
      awaits = NumberFollows-next p visit s child current n last.waiting.awaits is settled.number;
      steps = subst (IfStepsTo how p s) is last.waiting.steps_aside;
      steps_aside = tt;
      best = omega (arith, last.waiting.best, le);
      stored = last.waiting.stored;
      ready = tt;
    } in
    Path-push p m states path rest a s current last.before waiting

-- the last visit of the path continues with what was pending
pub comes_aside : (p : Program) (old : Search) (path : List Visit) (visit rest : Visit)
    (whole : Visits) (n : ℕ) (current : State) → HasEnded p old n
    → old.path.items ≡ path ++ visit ∷ [] → visit.pending ≡ Some current
    → rest ≡ record { pending = None; best = max visit.best n; stored = visit.stored }
    → whole.items ≡ path ++ rest ∷ []
    → Comes p (record old { path = whole; current = current })
comes_aside p old path visit rest whole n current h was is rest_is pushed =
    let how = precision_in old.kept in
    let states = old.states.states.items in
    let a = h.at.first in
    let visit' : Visit =
    record { pending = None; best = max visit.best n; stored = visit.stored } in
    let last =
    Path-pop p old.finished states path visit a h.state
    (subst (λ (x : List Visit). Path how p old.finished states a x h.state) was h.at.path) in
    let again : whole.items ≡ path ++ visit' ∷ [] =
    pushed ∙ ap (λ (v : Visit). path ++ v ∷ []) rest_is in
    let same : length old.path.items ≡ length whole.items =
    ap (λ (xs : List Visit). length xs) was
    ∙ (length-append path (visit ∷ [])
    ∙ (sym (length-append path (visit' ∷ []))
    ∙ ap (λ (xs : List Visit). length xs) (sym again))) in
    let aside =
    path_aside p old.finished states a path visit h.state n current last h.settled h.most is in
    record {
      at =
          record {
            fine = h.at.fine;
            first = a;
            begins = h.at.begins;
            path = subst
                (λ (x : List Visit). Path how p old.finished states a x current) (sym again) aside;
          };
      on_path =
          OnPath-push states path whole.items visit' again
          (OnPath-pop states path old.path.items visit was h.on_path);
      counts = subst (λ k. CountsTo p a whole.items current (old.finished + k)) same
          (spent_on p a path old.path.items whole.items visit visit' current
          (old.finished + length old.path.items) was again is refl h.spent);
      ready = subst (IfReady p) is last.waiting.ready;
    }

-- ---- a visit that begins

-- where control flow is good, an instruction begins at the slot of each successor, and at each slot
-- to which an exit returns
IsAtInsns-next : (p : Program) (s next : State) → IsFlow p → IsAtInsns p s → GoesOnTo p s next
    → IsAtInsns p next
IsAtInsns-next p s next flow ready (inl h) = record {
  insn_begins = IsFlow-Follows p s.slot next.slot flow h.follows;
  returns = subst (All (BeginsInsn p)) (sym h.returns) ready.returns;
}
IsAtInsns-next p s next flow ready (inr (inl h)) = record {
  insn_begins =
      subst (BeginsInsn p) (sym h.target)
      (IsFlow-call p s.slot (CallLocal h.by) h.by flow h.here refl);
  returns = subst (All (BeginsInsn p)) (sym h.returns)
      (All-push (BeginsInsn p) (returns_of s) (s.slot + 1) ready.returns
      (IsFlow-fall p s.slot (CallLocal h.by) flow h.here refl));
}
IsAtInsns-next p s next flow ready (inr (inr h)) =
    let all : All (BeginsInsn p) (returns_of next ++ next.slot ∷ []) =
    subst (All (BeginsInsn p)) h.returns ready.returns in
    let (returns, begins) =
    All-pop (BeginsInsn p) (returns_of next ++ next.slot ∷ []) (returns_of next)
    (Some next.slot) refl all in
    record { insn_begins = begins; returns = returns }

pub fetched : (p : Program) (s : State) → IsAtInsns p s → (i : Insn) × (fetch p s.slot ≡ Some i)
fetched p s ready = some_insn (fetch p s.slot) ready.insn_begins

-- the instruction's state waits for the state after it
pub record Entered (how : Precision) (p : Program) (m : ℕ) (states : List StoredState)
    (visit : Visit)
    (s next : State) : Type 0 where
  pub waiting : Waiting how p m states visit s next
  pub ready : IsAtInsns p next
  pub spends : Spends p visit s next 1

pub one_way : {how : Precision} (p q : Program) (m : ℕ) (states : List StoredState)
    (stored : Option ℕ)
    (s a b first : State) (w : Ways) (pending : Option State) → p ≡ q → IsFlow p → IsAtInsns p s
    → StoredAt states stored s
    → LeadsTo q s w a b → ((i : Insn) → fetch q s.slot ≡ Some i → StepsToWays q s i w a b)
    → EachWay w a b (GoesOnTo q s) → Forgets how p a first → w ≡ ways.One → pending ≡ None
    → Entered how p m states (record { pending = pending; best = 0; stored = stored }) s first
one_way {how = how} p q m all stored s a b first w pending same flow ready at leads makes goes
    forgets is none =
    let coarse = Forgets-as Coarse how p a first tt forgets in
    let (i, here) = fetched p s ready in
    let leads' =
    LeadsTo-forgets p s ways.One a b first b coarse
    (subst (λ x. LeadsTo x s ways.One a b) (sym same)
    (subst (λ x. LeadsTo q s x a b) is leads)) in
    let follows' : GoesOnTo p s a =
    subst (λ x. GoesOnTo x s a) (sym same)
    (subst (λ x. EachWay x a b (GoesOnTo q s)) is goes) in
    let into = into_by p q s a b first b w ways.One same makes i here is coarse in
    subst (λ x. Entered how p m all (record { pending = x; best = 0; stored = stored }) s first)
    (sym none) (record {
      waiting =
          record {
            waits = StepsAwaited-one p s first b stored leads';
            awaits = NumberFollows-one p s first b stored into;
            steps = steps_by p q s a b a first w ways.One same makes i here is refl forgets;
            steps_aside = tt;
            best = omega arith;
            stored = at;
            ready = tt;
          };
      ready = IsAtInsns-next p s first flow ready (GoesOnTo-forgets p s a first forgets follows');
      spends = Spends-one p s first b stored into;
    })

pub two_ways : {how : Precision} (p q : Program) (m : ℕ) (states : List StoredState)
    (stored : Option ℕ)
    (s a b first other : State) (w : Ways) (pending : Option State) → p ≡ q → IsFlow p
    → IsAtInsns p s → StoredAt states stored s
    → LeadsTo q s w a b → ((i : Insn) → fetch q s.slot ≡ Some i → StepsToWays q s i w a b)
    → EachWay w a b (GoesOnTo q s) → Forgets how p a first → Forgets how p b other → w ≡ ways.Two
    → pending ≡ Some other
    → Entered how p m states (record { pending = pending; best = 0; stored = stored }) s first
two_ways {how = how} p q m all stored s a b first other w left eq good on at leads by goes less
    aside is some =
    let coarse : Forgets Coarse p a first × Forgets Coarse p b other =
    (Forgets-as Coarse how p a first tt less, Forgets-as Coarse how p b other tt aside) in
    let (i, here) = fetched p s on in
    let leads' =
    LeadsTo-forgets p s ways.Two a b first other coarse
    (subst (λ x. LeadsTo x s ways.Two a b) (sym eq)
    (subst (λ x. LeadsTo q s x a b) is leads)) in
    let follows' : GoesOnTo p s a × GoesOnTo p s b =
    subst (λ x. GoesOnTo x s a × GoesOnTo x s b) (sym eq)
    (subst (λ x. EachWay x a b (GoesOnTo q s)) is goes) in
    let into = into_by p q s a b first other w ways.Two eq by i here is coarse in
    subst (λ x. Entered how p m all (record { pending = x; best = 0; stored = stored }) s first)
    (sym some) (record {
      waiting = record {
        waits = StepsAwaited-two p s first other stored leads';
        awaits = NumberFollows-two p s first other stored into;
        steps = steps_by p q s a b a first w ways.Two eq by i here is (inl refl) less;
        steps_aside = steps_by p q s a b b other w ways.Two eq by i here is (inr refl) aside;
        best = omega arith;
        stored = at;
        ready = IsAtInsns-next p s other good on (GoesOnTo-forgets p s b other aside follows'.1);
      };
      ready = IsAtInsns-next p s first good on (GoesOnTo-forgets p s a first less follows'.0);
      spends = Spends-two p s first other stored into;
    })

-- the path goes on from the state to the first of those that are left to explore
pub comes_into : (p : Program) (old x : Search) (stored : Option ℕ) (pending : Option State)
    (next : State) → x.states.states.items ≡ old.states.states.items → x.finished ≡ old.finished
    → x.path.items ≡ old.path.items ++ record { pending = pending; best = 0; stored = stored } ∷ []
    → x.current ≡ next → x.kept ≡ old.kept → Explores p old stored
    → Entered (precision_in old.kept) p old.finished old.states.states.items
    (record { pending = pending; best = 0; stored = stored }) old.current next
    → Comes p x
comes_into p old x stored pending next items finished pushed current kept at entered =
    let visit : Visit = record { pending = pending; best = 0; stored = stored } in
    let states = old.states.states.items in
    let path = old.path.items in
    let root = at.at.first in
    let more : length x.path.items ≡ length path + 1 =
    ap (λ (xs : List Visit). length xs) pushed ∙ length-append path (visit ∷ []) in
    record {
      at = record {
        fine = rw (items, finished) at.at.fine;
        first = root;
        begins = rw kept at.at.begins;
        path =
            rw (items, finished, current, kept)
            (subst (λ (y : List Visit). Path (precision_in old.kept) p old.finished states root y
            next) (sym pushed)
            (Path-push p old.finished states path visit root old.current next at.at.path
            entered.waiting));
      };
      on_path = rw items (OnPath-push states path x.path.items visit pushed at.on_path);
      counts =
          rw (finished, current)
          (spent_into p root path x.path.items visit old.current next (old.finished + length path)
          (old.finished + length x.path.items) pushed at.counts entered.spends
          (omega (arith, more)));
      ready = rw current entered.ready;
    }

-- the step has no successor, and the state gets the number 1
pub step_ends : {how : Precision} (p q : Program) (m : ℕ) (old new : List StoredState) (a : State)
    (path : List Visit)
    (stored : Option ℕ) (s x y : State) (w : Ways) → Forgets how p start a → p ≡ q
    → AllSettled p m old
    → Path how p m old a path s → StoredAt old stored s
    → OnPath old path stored → LeadsTo q s w x y → StepsInto p s ways.None x y → w ≡ ways.None
    → GetsNumber old stored 1 new → IsBack how p (m + 1) new a path 1
step_ends {how = how} p q m old new a path stored s x y w begins same fine before at on leads into
    is numbered =
    let settled : Settles p s 1 = record {
      within =
          LeadsTo-ends p s x y
          (subst (λ z. LeadsTo z s ways.None x y) (sym same)
          (subst (λ z. LeadsTo q s z x y) is leads));
      number = LeadsNowhere s x y 1 into refl;
    } in
    record {
      state = s;
      fine = GetsNumber-fine p (m + 1) old stored s 1 new numbered at settled (omega arith) (
        length path,
        WalksTo-as Coarse how p (length path) s tt (Path-walks p m old path a s begins before),
      )
          (AllSettled-more p m (m + 1) old (omega arith) fine);
      before =
          Path-more how p m (m + 1) old new (omega arith)
          (GetsNumber-keeps old stored s 1 new numbered at) path a s before;
      on_path = OnPath-finish old new path stored s 1 numbered at (omega arith) on;
      settled = settled;
      most = omega arith;
    }
