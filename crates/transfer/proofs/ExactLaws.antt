-- The successors of an abstract state mean the machine's next state.
use Rattle.transfer.proofs.Common.{◌≡◌, ◌≢◌, ℕ, zero, suc, ◌+◌, ◌==◌, ℤ, Bool, true, false, if◌then◌else◌, length, All, Some, None, Result, Ok, Err, inl, inr, sym, ap, ◌∙◌, subst, arith, refl, list_any, nat_tests, Width, Full64, Size, Reg, R0, Cond, Insn, StoreConstant, Store, Atomic, Exchange, CompareExchange, Jump, JumpLong, JumpIf, CallHelper, CallLocal, Exit, Value, TrapReason, alu, low, unsigned, atomic_alu, Program, fetch, slots_filled, reads, writes, is_frame_pointer, helper_numbered, IsRow, NamesRows, reg, max_call_frames, and_then, store, Next, Trapped, base_of, destination, goes_on, jumps, branches, test_of, calls, atomic_number, swaps_in, fetched_into, is_answer, finishes, exits, act, performed_at, step, helper_call, after_call, IsClock, IsProgram, IsState, IsValue, unsigned_fits, reg_fits, Kind, Assigned, Allows, State, MeansBy, Means, kind_of, go_to, reg_allowed, depth_is_length, MeansBy-go_to, KeepsMembers, Refusal, UnsetRegister, ReadOnlyRegister, Ways, InSome, LeadsTo, reads_unset, CallsHelper, GoesOn, StoresAt, SwapsAtPlace, ComparesAtPlace, Sides, Branches, StepsJump, StepsCall, ExitsFrom, StepsForm, Tested, Steps}
use Rattle.isa_model.specs.declared.instructions.AtomicOp.{AtomicOp}
use Rattle.isa_model.specs.declared.instructions.Place.{Place}
use Rattle.isa_model.specs.declared.values.Value.TheVariants as value
use Rattle.isa_model.specs.declared.ends.TrapReason.TheVariants.{TooManyCallFrames}
use Rattle.isa_model.specs.declared.versions.Version.{Version}
use Rattle.isa_model.specs.Code.Spelling.{InsnFits}
use Rattle.isa_model.specs.Machine.States as Machine
use Rattle.isa_model.specs.Machine.Calls.{enter, leave}
use Rattle.isa_model.specs.Running.Ends.{After}
use Rattle.isa_model.proofs.StepLaws.{IfNext, act_keeps}
use Rattle.stack_state.specs.Calls.{entered, with_new_frame, without_last, ended}
use Rattle.stack_state.proofs.CallLaws.{MeansBy-enter}
use Rattle.stack_state.proofs.EndLaws.{MeansBy-ended}
use Rattle.branch_refine.proofs.ComparingLaws.{test-defined}
use Rattle.transfer.specs.declared.Ways.TheVariants as ways
use Rattle.transfer.proofs.RegisterLaws.{unset_in, none_unset, performed_acts}
use Rattle.transfer.proofs.AnswerLaws.{shows_action-answers, answered_number}
use Rattle.transfer.proofs.StackAccessLaws.{ContinuesIn}
use Rattle.transfer.proofs.ValueLaws.{GoesIntoSome}
use Rattle.transfer.proofs.AccessLaws.{store_goes}
use Rattle.transfer.proofs.AtomicLaws.{keep_old, swap_goes, compare_and_swap_goes}
use Rattle.transfer.proofs.HelperCallLaws.{helper_call_goes}
use Rattle.transfer.proofs.SetsRegisterLaws.{just_allowed, one_means, sets_in}

-- ---- stores

-- the machine does not trap, and the state that is left means its next state
left_goes : (p : Program) (e f : Assigned) (a : State) (s : Machine.State) (i : Insn)
    (went : Result Machine.State TrapReason) (w : Ways) (b c left : State)
    → slots_filled i ≡ 1 → IfNext (goes_on s i went) (IsState p) → MeansBy p e a s
    → ContinuesIn p f left went → w ≡ ways.One → b ≡ go_to left (a.slot + 1)
    → After (InSome p w b c) (goes_on s i went)
left_goes p e f a s i (Ok t) w b c left one is m goes way next =
    let n : ℕ = s.slot + slots_filled i in
    let gone = MeansBy-go_to p f left t n is.slot goes in
    let same : n ≡ a.slot + 1 = ap (λ k. s.slot + k) one ∙ ap (λ k. k + 1) m.slot_is in
    one_means p f w b c (go_to left (a.slot + 1)) (Machine.go_to t n) way next
    (subst (λ k. MeansBy p f (go_to left k) (Machine.go_to t n)) same gone)
left_goes p e f a s i (Err reason) w b c left one is m goes way next = absurd goes

goes_in : (p : Program) (e : Assigned) (a : State) (s : Machine.State) (i : Insn)
    (leaves : State → Result (Unit {0}) Refusal → Type 0)
    (went : Result Machine.State TrapReason) (w : Ways) (b c : State) → slots_filled i ≡ 1
    → MeansBy p e a s → ((left : State) → leaves left (Ok tt) → GoesIntoSome p left went)
    → IfNext (goes_on s i went) (IsState p) → GoesOn a leaves (Ok w) b
    → After (InSome p w b c) (goes_on s i went)
goes_in p e a s i leaves went w b c one m goes is h =
    let (f, left) = goes h.1.left h.1.leaving in
    left_goes p e f a s i went w b c h.1.left one is m left h.0 h.1.next

stores_in : (p : Program) (e : Assigned) (a : State) (s : Machine.State) (i : Insn) (size : Size)
    (place : Place) (source : Kind) (u : Value) (w : Ways) (b c : State)
    → slots_filled i ≡ 1 → MeansBy p e a s → Allows e source u
    → IsValue (length p.maps) s.next_serial u
    → IfNext (goes_on s i (store s size (base_of s place) place.offset u)) (IsState p)
    → GoesOn a (StoresAt p.maps a size place source) (Ok w) b
    → After (InSome p w b c) (goes_on s i (store s size (base_of s place) place.offset u))
stores_in p e a s i size place source u w b c one m allowed fits is h =
    goes_in p e a s i (StoresAt p.maps a size place source)
    (store s size (base_of s place) place.offset u) w b c one m
    (λ left stores.
    store_goes p e a s size (kind_of a place.base) source place.offset
    (base_of s place) u left m stores
    (reg_allowed p e a s m place.base) allowed fits) is h

-- FETCH keeps the old number
fetches : (w : Width) (op : AtomicOp) (fetched : Bool) (place : Place) (r : Reg)
    → fetched_into fetched r ≡ keep_old (writes (Atomic w op fetched place r))
fetches w op true place r = refl
fetches w op false place r = refl

-- ---- jumps

jumps_in : (p : Program) (e : Assigned) (a : State) (s : Machine.State) (by : ℤ) (w : Ways)
    (b c : State)
    → IfNext (jumps s p by) (IsState p) → MeansBy p e a s → StepsJump p a by (Ok w) b
    → After (InSome p w b c) (jumps s p by)
jumps_in p e a s by w b c is m h =
    let n : ℕ = destination p s.slot by in
    one_means p e w b c (go_to a (destination p a.slot by)) (Machine.go_to s n) (cc h.0) h.1
    (subst (λ m. MeansBy p e (go_to a (destination p m by)) (Machine.go_to s n)) m.slot_is
    (MeansBy-go_to p e a s n is.slot m))

-- the state on the side that the test takes is one of the successors
stay_means : (p : Program) (e : Assigned) (stays goes : Bool) (stay go : State) (w : Ways)
    (b c : State) (t : Machine.State)
    → Sides stays goes stay go w b c → stays ≡ true → MeansBy p e stay t → InSome p w b c t
unfolding Means
stay_means p e true true stay go w b c t h some m =
    subst (λ x. InSome p x b c t) (sym h.0) (inl (e, subst (λ y. MeansBy p e y t) (sym h.1) m))
stay_means p e true false stay go w b c t h some m = one_means p e w b c stay t h.0 h.1 m
stay_means p e false goes stay go w b c t h some m = absurd (cc)

go_means : (p : Program) (e : Assigned) (stays goes : Bool) (stay go : State) (w : Ways)
    (b c : State) (t : Machine.State)
    → Sides stays goes stay go w b c → goes ≡ true → MeansBy p e go t → InSome p w b c t
unfolding Means
go_means p e true true stay go w b c t h some m =
    subst (λ x. InSome p x b c t) (sym h.0) (inr (e, subst (λ y. MeansBy p e y t) (sym h.2) m))
go_means p e false true stay go w b c t h some m = one_means p e w b c go t h.0 h.1 m
go_means p e stays false stay go w b c t h some m = absurd (cc)

branches_in : (p : Program) (e : Assigned) (a : State) (s : Machine.State) (cond : Cond) (by : ℤ)
    (w : Ways) (b c : State) (t : Bool)
    → test_of s cond ≡ Ok t → IfNext (branches s p by (Ok t)) (IsState p) → MeansBy p e a s
    → Branches p a cond by w b c → After (InSome p w b c) (branches s p by (Ok t))
unfolding KeepsMembers
branches_in p e a s cond by w b c true says is m h =
    let (some, kept) = h.taken_there.kept p e s m says in
    let n : ℕ = destination p s.slot by in
    go_means p e h.stays h.goes (go_to h.stay (a.slot + 1))
    (go_to h.go (destination p a.slot by)) w b c (Machine.go_to s n) h.sides some
    (subst (λ m. MeansBy p e (go_to h.go (destination p m by)) (Machine.go_to s n)) m.slot_is
    (MeansBy-go_to p e h.go s n is.slot kept))
branches_in p e a s cond by w b c false says is m h =
    let (some, kept) = h.left_there.kept p e s m says in
    let n : ℕ = s.slot + 1 in
    stay_means p e h.stays h.goes (go_to h.stay (a.slot + 1))
    (go_to h.go (destination p a.slot by)) w b c (Machine.go_to s n) h.sides some
    (subst (λ m. MeansBy p e (go_to h.stay (m + 1)) (Machine.go_to s n)) m.slot_is
    (MeansBy-go_to p e h.stay s n is.slot kept))

-- ---- calls and exits

calls_in : (p : Program) (e : Assigned) (a : State) (s : Machine.State) (by : ℤ) (w : Ways)
    (b c : State)
    → IfNext (calls s p by) (IsState p) → MeansBy p e a s → StepsCall p a by (Ok w) b
    → After (InSome p w b c) (calls s p by)
calls_in p e a s by w b c is m h =
    let room = h.0 in
    let count = depth_is_length p e a s m in
    let less : length s.frames ≢ max_call_frames = (λ full. absurd (omega arith)) in
    let free : (length s.frames == max_call_frames) ≡ false = grind (arith, nat_tests) in
    let f : Assigned = with_new_frame e s.next_serial in
    let t : Machine.State = enter s (destination p s.slot by) in
    let t_is : IsState p t =
    subst (λ x. IfNext (if x then Trapped TooManyCallFrames else Next t) (IsState p)) free is in
    rw free (one_means p f w b c (entered a (destination p a.slot by)) t h.1 h.2
    (subst (λ n. MeansBy p f (entered a (destination p n by)) t) m.slot_is
    (MeansBy-enter p e a s (destination p s.slot by) t_is m)))

-- a number that names an action ends the run
finishes_after : (P : Machine.State → Type 0) (version : Version) (v : Value) (n : ℕ)
    → v ≡ value.Num n → is_answer version n ≡ true → After P (finishes version v)
finishes_after P version v n is action =
    subst (λ v. After P (finishes version v)) (sym is) (rw action tt)

exits_in : (p : Program) (e : Assigned) (a : State) (s : Machine.State) (w : Ways) (b c : State)
    (n : ℕ) → length a.callers.items ≡ n
    → IfNext (exits p.version s) (IsState p) → MeansBy p e a s → ExitsFrom p.version n a (Ok w) b
    → After (InSome p w b c) (exits p.version s)
exits_in p e a s w b c zero callers is m h =
    let (numbers, known, shown, none) = answered_number p.version (kind_of a R0) w h in
    let (x, at, has) = subst (λ k. Allows e k (reg s R0)) known (reg_allowed p e a s m R0) in
    let count = depth_is_length p e a s m in
    let one : length s.frames ≡ 1 = omega arith in
    let first : (length s.frames == 1) ≡ true = grind (arith, nat_tests) in
    rw first (finishes_after (InSome p w b c) p.version (reg s R0) x at
    (shows_action-answers p.version numbers x has shown))
exits_in p e a s w b c (suc n) callers is m h =
    let count = depth_is_length p e a s m in
    let more : length s.frames ≢ 1 = (λ one. absurd (omega arith)) in
    let inner : (length s.frames == 1) ≡ false = grind (arith, nat_tests) in
    let t : Machine.State = leave s in
    let t_is : IsState p t =
    subst (λ x. IfNext (if x then finishes p.version (reg s R0) else Next t) (IsState p)) inner
    is in
    rw inner (one_means p (without_last e) w b c (ended a) t h.1 h.2
    (MeansBy-ended p e a s (omega arith) t_is m))

-- ---- instructions

performs_in : (p : Program) (clock : ℕ → ℕ) → IsClock clock → All IsRow p.maps
    → (e : Assigned) (a : State) (s : Machine.State) (i : Insn) (w : Ways) (b c : State)
    → is_frame_pointer (writes i) ≡ false → InsnFits i → NamesRows p.maps i → MeansBy p e a s
    → list_any (unset_in s) (reads i) ≡ false
    → IfNext (act p clock s i) (IsState p) → StepsForm p a i (Ok w) b c
    → After (InSome p w b c) (act p clock s i)
unfolding act
performs_in p clock answers rows e a s
    (StoreConstant size place k) w b c own fits names m set is h =
    let (source, just, stores) = h in
    stores_in p e a s (StoreConstant size place k) size place source
    (value.Num (unsigned Full64 k)) w b c refl m
    (just_allowed e source (unsigned Full64 k) just) (unsigned_fits Full64 k fits.1) is stores
performs_in p clock answers rows e a s (Store size place r) w b c own fits names m set is h =
    stores_in p e a s (Store size place r) size place (kind_of a r) (reg s r) w b c refl m
    (reg_allowed p e a s m r) (reg_fits p s r m.is_state) is h
performs_in p clock answers rows e a s
    (Atomic v op fetched place r) w b c own fits names m set is h =
    goes_in p e a s (Atomic v op fetched place r)
    (SwapsAtPlace p.maps a v place r (writes (Atomic v op fetched place r)))
    (and_then (atomic_number (reg s r))
    (λ y. swaps_in s v place (λ x. alu (atomic_alu op) v x y) (fetched_into fetched r))) w b c
    refl m
    (λ left swaps.
    swap_goes p e a s (kind_of a r) (kind_of a place.base) (reg s r) v place
    (writes (Atomic v op fetched place r)) left
    (λ y x. alu (atomic_alu op) v x y) (fetched_into fetched r) m own (reg_allowed p e a s m r)
    (reg_allowed p e a s m place.base)
    (fetches v op fetched place r) swaps) is h
performs_in p clock answers rows e a s (Exchange v place r) w b c own fits names m set is h =
    goes_in p e a s (Exchange v place r) (SwapsAtPlace p.maps a v place r (Some r))
    (and_then (atomic_number (reg s r)) (λ y. swaps_in s v place (λ x. y) (fetched_into true r))) w
    b c refl m
    (λ left swaps.
    swap_goes p e a s (kind_of a r) (kind_of a place.base) (reg s r) v place (Some r) left
    (λ y x. y) (fetched_into true r) m own (reg_allowed p e a s m r)
    (reg_allowed p e a s m place.base) refl swaps) is h
performs_in p clock answers rows e a s (CompareExchange v place r) w b c own fits names m set is h =
    goes_in p e a s (CompareExchange v place r) (ComparesAtPlace p.maps a v place r)
    (and_then (atomic_number (reg s r)) (λ y. and_then (atomic_number (reg s R0)) (λ x.
    swaps_in s v place (λ old. if old == low v x then y else old) (fetched_into true R0)))) w b c
    refl m
    (λ left compares.
    compare_and_swap_goes p e a s (kind_of a r) (kind_of a place.base) (reg s r) v place left
    (λ y x old. if old == low v x then y else old) (fetched_into true R0) m
    (reg_allowed p e a s m r) (reg_allowed p e a s m place.base)
    refl compares) is h
performs_in p clock answers rows e a s (Jump by) w b c own fits names m set is h =
    jumps_in p e a s by w b c is m h
performs_in p clock answers rows e a s (JumpLong by) w b c own fits names m set is h =
    jumps_in p e a s by w b c is m h
performs_in p clock answers rows e a s (JumpIf cond by) w b c own fits names m set is h =
    let (t, says) = test-defined p e a s cond h.compared m in
    subst (λ r. After (InSome p w b c) (branches s p by r)) (sym says)
    (branches_in p e a s cond by w b c t says
    (subst (λ r. IfNext (branches s p by r) (IsState p)) says is) m h)
performs_in p clock answers rows e a s (CallLocal by) w b c own fits names m set is h =
    calls_in p e a s by w b c is m h
performs_in p clock answers rows e a s Exit w b c own fits names m set is h =
    exits_in p e a s w b c (length a.callers.items) refl is m h
performs_in p clock answers rows e a s (CallHelper number) w b c own fits names m set is h =
    goes_in p e a s (CallHelper number) (CallsHelper p.maps a number)
    (after_call (helper_call p clock s (helper_numbered number))) w b c refl m
    (λ left calls. helper_call_goes p clock e a s number left answers rows m calls) is h
performs_in p clock answers rows e a s i w b c own fits names m set is h =
    sets_in p clock e a s i w b c fits names is m set h.0 h.1

-- a step that is made passed the tests
pub tested_rest : (x y : Bool) (u v : Refusal) (w : Ways) (Rest : Type 0)
    → Tested (if x then Some u else if y then Some v else None) (Ok w) Rest
    → (x ≡ false) × (y ≡ false) × Rest
tested_rest true y u v w Rest h = absurd (cc)
tested_rest false true u v w Rest h = absurd (cc)
tested_rest false false u v w Rest h = (refl, refl, h)

-- no member traps, and each that does not exit becomes a member of a successor
pub Steps-leads : (p : Program) (a : State) (i : Insn) (w : Ways) (b c : State) → IsProgram p
    → fetch p a.slot ≡ Some i → Steps p a i (Ok w) b c → LeadsTo p a w b c
unfolding LeadsTo Means step
Steps-leads p a i w b c program here h = λ clock answers s means.
    let (e, m) = means in
    let (known, own, performs) =
    tested_rest (reads_unset a i) (is_frame_pointer (writes i)) UnsetRegister ReadOnlyRegister w
    (StepsForm p a i (Ok w) b c) h in
    let set = none_unset p e a s m (reads i) known in
    let at : fetch p s.slot ≡ Some i = ap (fetch p) m.slot_is ∙ here in
    let fits = program.fits s.slot i at in
    let inside = program.inside s.slot i at in
    let keeps = act_keeps p clock s i fits inside program.rows
    (program.named s.slot i at) answers m.is_state in
    let acts : performed_at p clock s (fetch p s.slot) ≡ act p clock s i =
    ap (performed_at p clock s) at ∙ performed_acts p clock s i set own in
    subst (After (InSome p w b c)) (sym acts)
    (performs_in p clock answers program.rows e a s i w b c own fits
    (program.named s.slot i at) m set keeps performs)
