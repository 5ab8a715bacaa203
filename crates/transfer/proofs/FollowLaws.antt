-- Each successor of an instruction is at a slot that it leads to, with the call frames that it
-- leaves.
use Rattle.transfer.proofs.Common.{◌≡◌, ℕ, zero, suc, ◌+◌, ℤ, [], ◌∷◌, ◌++◌, length, Bool, true, false, Some, Result, Ok, inl, inr, sym, ap, ◌∙◌, subst, arith, refl, R0, Cond, Insn, StoreConstant, Store, Atomic, Exchange, CompareExchange, Jump, JumpLong, JumpIf, CallHelper, CallLocal, Exit, width_size, Program, fetch, slots_filled, writes, is_frame_pointer, destination, State, returns-with, kind_of, with_register, go_to, Refusal, UnsetRegister, ReadOnlyRegister, Ways, EachWay, reads_unset, CallsHelper, SetsRegister, GoesOn, Sides, Branches, StepsCall, ExitsFrom, StepsForm, Steps}
use Rattle.isa_model.specs.Machine.Successors.{falls_through, jump_distance}
use Rattle.stack_state.proofs.CallLaws.{returns-entered}
use Rattle.stack_state.proofs.EndLaws.{returns-ended}
use Rattle.transfer.specs.declared.Ways.TheVariants as ways
use Rattle.transfer.specs.Following.{returns_of, GoesOnTo}
use Rattle.transfer.proofs.ReturnLaws.{returns-stores, returns-swaps, returns-compares, returns-refines, returns-calls_helper}
use Rattle.transfer.proofs.AnswerLaws.{answered_number}
use Rattle.transfer.proofs.ExactLaws.{tested_rest}

each_one : (w : Ways) (b c : State) (P : State → Type 0) → w ≡ ways.One → P b → EachWay w b c P
each_one w b c P one h = subst (λ x. EachWay x b c P) (sym one) h

each_side : (stays goes : Bool) (stay go : State) (w : Ways) (b c : State) (P : State → Type 0)
    → Sides stays goes stay go w b c → P stay → P go → EachWay w b c P
each_side true true stay go w b c P h x y =
    subst (λ v. EachWay v b c P) (sym h.0) (subst P (sym h.1) x, subst P (sym h.2) y)
each_side true false stay go w b c P h x y = each_one w b c P h.0 (subst P (sym h.1) x)
each_side false true stay go w b c P h x y = each_one w b c P h.0 (subst P (sym h.1) y)
each_side false false stay go w b c P h x y = subst (λ v. EachWay v b c P) (sym h) tt

-- ---- within the function

-- all that an instruction leaves at the next one
one_after : (p : Program) (a : State) (i : Insn) (w : Ways) (b c left : State)
    → fetch p a.slot ≡ Some i → falls_through i ≡ true → w ≡ ways.One
    → b ≡ go_to left (a.slot + slots_filled i) → returns_of left ≡ returns_of a
    → EachWay w b c (GoesOnTo p a)
one_after p a i w b c left here falls one next returns =
    each_one w b c (GoesOnTo p a) one (inl (record {
      follows = (i, here, inl (falls, ap (λ s. s.slot) next));
      returns = ap returns_of next ∙ returns;
    }))

sets_follows : (p : Program) (a : State) (i : Insn) (w : Ways) (b c : State)
    → fetch p a.slot ≡ Some i → falls_through i ≡ true
    → w ≡ ways.One → SetsRegister p.maps a i b → EachWay w b c (GoesOnTo p a)
sets_follows p a i w b c here falls one h =
    one_after p a i w b c (with_register a h.register h.kind) here falls one h.next
    (returns-with a h.register h.kind)

goes_follows : (p : Program) (a : State) (i : Insn) (leaves : State → Result (Unit {0}) Refusal
    → Type 0) (w : Ways) (b c : State)
    → fetch p a.slot ≡ Some i → falls_through i ≡ true → slots_filled i ≡ 1
    → ((left : State) → leaves left (Ok tt) → returns_of left ≡ returns_of a)
    → GoesOn a leaves (Ok w) b → EachWay w b c (GoesOnTo p a)
goes_follows p a i leaves w b c here falls one returns h =
    one_after p a i w b c h.1.left here falls h.0
    (h.1.next ∙ ap (λ k. go_to h.1.left (a.slot + k)) (sym one)) (returns h.1.left h.1.leaving)

-- a jump that is taken
jumps_follow : (p : Program) (a : State) (i : Insn) (by : ℤ) (b left : State)
    → fetch p a.slot ≡ Some i → jump_distance i ≡ Some by
    → b ≡ go_to left (destination p a.slot by) → returns_of left ≡ returns_of a → GoesOnTo p a b
jumps_follow p a i by b left here distance next returns = inl (record {
  follows = (i, here, inr (by, distance, ap (λ s. s.slot) next));
  returns = ap returns_of next ∙ returns;
})

branches_follow : (p : Program) (a : State) (cond : Cond) (by : ℤ) (w : Ways) (b c : State)
    → fetch p a.slot ≡ Some (JumpIf cond by)
    → Branches p a cond by w b c → EachWay w b c (GoesOnTo p a)
branches_follow p a cond by w b c here h =
    let stays = returns-refines cond false a h.stays h.stay h.left_there in
    let goes = returns-refines cond true a h.goes h.go h.taken_there in
    each_side h.stays h.goes (go_to h.stay (a.slot + 1))
    (go_to h.go (destination p a.slot by)) w b c (GoesOnTo p a) h.sides
    (inl (record { follows = (JumpIf cond by, here, inl (refl, refl)); returns = stays }))
    (jumps_follow p a (JumpIf cond by) by
    (go_to h.go (destination p a.slot by)) h.go here refl refl goes)

-- ---- calls and exits

calls_follow : (p : Program) (a : State) (by : ℤ) (w : Ways) (b c : State)
    → fetch p a.slot ≡ Some (CallLocal by) → StepsCall p a by (Ok w) b
    → EachWay w b c (GoesOnTo p a)
calls_follow p a by w b c here h =
    each_one w b c (GoesOnTo p a) h.1 (inr (inl (record {
      by = by;
      here = here;
      target = ap (λ s. s.slot) h.2;
      returns = ap returns_of h.2 ∙ returns-entered a (destination p a.slot by);
    })))

exits_follow : (p : Program) (a : State) (w : Ways) (b c : State) (n : ℕ)
    → length a.callers.items ≡ n → fetch p a.slot ≡ Some Exit
    → ExitsFrom p.version n a (Ok w) b → EachWay w b c (GoesOnTo p a)
exits_follow p a w b c zero callers here h =
    subst (λ v. EachWay v b c (GoesOnTo p a))
    (sym (answered_number p.version (kind_of a R0) w h).3) tt
exits_follow p a w b c (suc n) callers here h =
    each_one w b c (GoesOnTo p a) h.1 (inr (inr (record {
      here = here;
      returns = returns-ended a (omega arith) ∙ ap (λ s. returns_of s ++ s.slot ∷ []) (sym h.2);
    })))

-- ---- every form

performs_follows : (p : Program) (a : State) (i : Insn) (w : Ways) (b c : State)
    → fetch p a.slot ≡ Some i → StepsForm p a i (Ok w) b c → EachWay w b c (GoesOnTo p a)
performs_follows p a (Jump by) w b c here h =
    each_one w b c (GoesOnTo p a) (cc h.0) (jumps_follow p a (Jump by) by b a here refl h.1 refl)
performs_follows p a (JumpLong by) w b c here h =
    each_one w b c (GoesOnTo p a) (cc h.0)
    (jumps_follow p a (JumpLong by) by b a here refl h.1 refl)
performs_follows p a (JumpIf cond by) w b c here h = branches_follow p a cond by w b c here h
performs_follows p a (CallLocal by) w b c here h = calls_follow p a by w b c here h
performs_follows p a Exit w b c here h = exits_follow p a w b c (length a.callers.items) refl here h
performs_follows p a (StoreConstant size place k) w b c here h =
    goes_follows p a (StoreConstant size place k) _ w b c here refl refl
    (λ left. returns-stores p.maps a left size (kind_of a place.base) place.offset h.0) h.2
performs_follows p a (Store size place r) w b c here h =
    goes_follows p a (Store size place r) _ w b c here refl refl
    (λ left. returns-stores p.maps a left size (kind_of a place.base) place.offset (kind_of a r)) h
performs_follows p a (Atomic v op fetched place r) w b c here h =
    goes_follows p a (Atomic v op fetched place r) _ w b c here refl refl
    (λ left. returns-swaps p.maps a left (kind_of a r) (kind_of a place.base) place.offset
    (width_size v) (writes (Atomic v op fetched place r))) h
performs_follows p a (Exchange v place r) w b c here h =
    goes_follows p a (Exchange v place r) _ w b c here refl refl
    (λ left. returns-swaps p.maps a left (kind_of a r) (kind_of a place.base) place.offset
    (width_size v) (Some r)) h
performs_follows p a (CompareExchange v place r) w b c here h =
    goes_follows p a (CompareExchange v place r) _ w b c here refl refl
    (λ left. returns-compares p.maps a left (kind_of a R0) (kind_of a r)
    (kind_of a place.base) place.offset (width_size v)) h
performs_follows p a (CallHelper number) w b c here h =
    goes_follows p a (CallHelper number) (CallsHelper p.maps a number) w b c here refl refl
    (λ left. returns-calls_helper p.maps a left number) h
performs_follows p a i w b c here h = sets_follows p a i w b c here refl h.0 h.1

-- each successor is at a slot that the instruction leads to, with the frames that it leaves
pub Steps-follows : (p : Program) (a : State) (i : Insn) (w : Ways) (b c : State)
    → fetch p a.slot ≡ Some i → Steps p a i (Ok w) b c → EachWay w b c (GoesOnTo p a)
Steps-follows p a i w b c here h =
    let (known, own, performs) =
    tested_rest (reads_unset a i) (is_frame_pointer (writes i)) UnsetRegister ReadOnlyRegister w
    (StepsForm p a i (Ok w) b c) h in
    performs_follows p a i w b c here performs
