-- Programs whose jumps lead forward: numbers and explored instructions are few, and no path comes
-- back.
use Rattle.walks.proofs.Common.{◌≡◌, ◌≤◌, ◌+◌, ◌*◌, ◌^◌, ◌-◌, ◌<◌, ◌∷◌, [], ℕ, zero, suc, Some, None, Option, Ok, List, length, arith, refl, sym, ap, ◌∙◌, subst, inl, inr, count_by, ℤ, slice_get, cond, option_flatten, length-map, length-append, Cond, Insn, StoreConstant, Store, Atomic, Exchange, CompareExchange, Jump, JumpLong, JumpIf, CallLocal, Exit, Program, fetch, Follows, State, BeginsInsn-inside, fetch-BeginsInsn, Ways, EachWay, frames_of, depth, length-frames_of, start, StepsForm, StepsToWays, returns_of, GoesOnTo, StartTakes, StepsTo, HasSteps, WalksTo, ComesBack, IsAmong, StepsInto, HasNumber, LeadsNowhere, LeadsToOne, LeadsToTwo, IsCoveredBy, Takes, Nothing, ItsOwn, OneMore, BothMore, Coarse, is_conditional, IsForward, slots_filled-some}
use Rattle.std.proofs.Math.Nat.{pow-le-pow_right, two-pow-succ, add-mul, mul-add}
use Rattle.std.proofs.lemmas.Nat.{pow_pos, mul-le}
use Rattle.std.proofs.lemmas.List.Sums.{sum_by-cons}
use Rattle.transfer.specs.declared.Ways.TheVariants as ways
use Rattle.transfer.proofs.FollowLaws.{Steps-follows}
use Rattle.walks.proofs.Accepted.{HasNoCalls}
use Rattle.walks.proofs.Forgotten.{Forgets-depth, GoesOnTo-forgets}
use Rattle.walks.proofs.Exits.{exits_not_two}
use Rattle.walks.proofs.OnNumbers.{StepsToWays-performs}

-- ---- without calls there is one call frame

-- a step within the only frame
pub record StaysAlone (p : Program) (a b : State) : Type 0 where
  pub follows : Follows p a.slot b.slot
  pub one : depth b ≡ 1

length-returns : (a : State) → length (returns_of a) ≡ depth a
length-returns a = length-map (frames_of a) (λ f. f.return_slot) ∙ length-frames_of a

pub GoesOnTo-alone : (p : Program) (a b : State) → HasNoCalls p → depth a ≡ 1 → GoesOnTo p a b
    → StaysAlone p a b
GoesOnTo-alone p a b free one (inl h) = record {
  follows = h.follows;
  one = sym (length-returns b) ∙ ap length h.returns ∙ length-returns a ∙ one;
}
GoesOnTo-alone p a b free one (inr (inl h)) =
    let none = free a.slot (CallLocal h.by) h.here in absurd (cc)
GoesOnTo-alone p a b free one (inr (inr h)) =
    let before = sym (length-returns a) ∙ ap length h.returns
    ∙ length-append (returns_of b) (b.slot ∷ []) in
    let after = length-returns b in
    absurd (omega (arith, one, before, after))

-- each state that the instruction makes
StepsToWays-goes : (p : Program) (s t : State) (i : Insn) (w : Ways) (a b : State)
    → fetch p s.slot ≡ Some i → StepsToWays p s i w a b → IsAmong w a b t → GoesOnTo p s t
StepsToWays-goes p s t i w a b here makes among =
    of w a b (Steps-follows p s i w a b here makes) among where
      of : (w : Ways) (a b : State) → EachWay w a b (GoesOnTo p s) → IsAmong w a b t
          → GoesOnTo p s t
      of ways.None a b goes is = absurd is
      of ways.One a b goes is = subst (GoesOnTo p s) (sym is) goes
      of ways.Two a b goes (inl is) = subst (GoesOnTo p s) (sym is) goes.0
      of ways.Two a b goes (inr is) = subst (GoesOnTo p s) (sym is) goes.1

pub StepsToWays-follows : (p : Program) (s t : State) (i : Insn) (w : Ways) (a b : State)
    → HasNoCalls p → depth s ≡ 1 → fetch p s.slot ≡ Some i
    → StepsToWays p s i w a b → IsAmong w a b t → Follows p s.slot t.slot
StepsToWays-follows p s t i w a b free one here makes among =
    (GoesOnTo-alone p s t free one (StepsToWays-goes p s t i w a b here makes among)).follows

-- and each after what does not matter is forgotten
pub StepsTo-goes : (p : Program) (a c : State) → StepsTo Coarse p a c → GoesOnTo p a c
StepsTo-goes p a c step =
    GoesOnTo-forgets p a step.next c step.forgets
    (StepsToWays-goes p a step.next step.insn step.taken step.first step.other step.here
    step.makes step.among)

pub StepsTo-alone : (p : Program) (a c : State) → HasNoCalls p → depth a ≡ 1 → StepsTo Coarse p a c
    → StaysAlone p a c
StepsTo-alone p a c free one step = GoesOnTo-alone p a c free one (StepsTo-goes p a c step)

pub one_frame-start : depth start ≡ 1
unfolding start
one_frame-start = refl

pub HasSteps-alone : (p : Program) (n : ℕ) (a b : State) → HasNoCalls p → depth a ≡ 1
    → HasSteps Coarse p n a b → depth b ≡ 1
unfolding HasSteps
HasSteps-alone p zero a b free one h = ap depth h ∙ one
HasSteps-alone p (suc n) a b free one h =
    HasSteps-alone p n h.0 b free (StepsTo-alone p a h.0 free one h.1).one h.2

pub WalksTo-alone : (p : Program) (n : ℕ) (s : State) → HasNoCalls p → WalksTo Coarse p n s
    → depth s ≡ 1
WalksTo-alone p n s free walk =
    HasSteps-alone p n walk.first s free
    (Forgets-depth p start walk.first walk.starts ∙ one_frame-start) walk.leads

-- ---- steps lead forward

pub follows_up : (p : Program) (slot next : ℕ) → IsForward p → Follows p slot next → slot < next
follows_up p slot next forward (i, here, inl (falls, at)) =
    let some = slots_filled-some i in omega (arith, at)
follows_up p slot next forward (i, here, inr (by, jump, at)) =
    let up = forward.forward slot i by here jump in omega (arith, at)

inside : (p : Program) (s : State) (i : Insn) → fetch p s.slot ≡ Some i → s.slot < length p.insns
inside p s i here = BeginsInsn-inside p s.slot (fetch-BeginsInsn p s.slot i here)

-- a step within the only frame, to a later slot
record StepsUp (a b : State) : Type 0 where
  up : a.slot < b.slot
  one : depth b ≡ 1

steps_up : (p : Program) (a b : State) → HasNoCalls p → IsForward p → depth a ≡ 1 → GoesOnTo p a b
    → StepsUp a b
steps_up p a b free forward one h =
    let alone = GoesOnTo-alone p a b free one h in
    record { up = follows_up p a.slot b.slot forward alone.follows; one = alone.one }

one_up : (p : Program) (s a b : State) → HasNoCalls p → IsForward p → depth s ≡ 1
    → StepsInto p s ways.One a b → StepsUp s a
one_up p s a b free forward one step =
    steps_up p s a free forward one
    (GoesOnTo-forgets p s step.next a step.forgets
    (Steps-follows p s step.insn ways.One step.next step.aside step.here step.makes))

two_up : (p : Program) (s a b : State) → HasNoCalls p → IsForward p → depth s ≡ 1
    → StepsInto p s ways.Two a b → StepsUp s a × StepsUp s b
two_up p s a b free forward one step =
    let both = Steps-follows p s step.insn ways.Two step.next step.aside step.here step.makes in (
      steps_up p s a free forward one (GoesOnTo-forgets p s step.next a step.forgets.0 both.0),
      steps_up p s b free forward one (GoesOnTo-forgets p s step.aside b step.forgets.1 both.1),
    )

-- ---- numbers

-- a state's number is at most the count of slots from its own on
pub HasNumber-forward : (p : Program) (s : State) (n : ℕ) → HasNoCalls p → IsForward p → depth s ≡ 1
    → HasNumber p s n → n + s.slot ≤ length p.insns
HasNumber-forward p s n free forward one (LeadsNowhere _ a b _ step is) =
    let below = inside p s step.insn step.here in omega (arith, is)
HasNumber-forward p s n free forward one (LeadsToOne _ a b m _ step child is) =
    let up = one_up p s a b free forward one step in
    let rest = HasNumber-forward p a m free forward up.one child in
    omega (arith, is, up.up, rest)
HasNumber-forward p s n free forward one (LeadsToTwo _ a b j k _ step left right is) =
    let up = two_up p s a b free forward one step in
    let first = HasNumber-forward p a j free forward up.0.one left in
    let other = HasNumber-forward p b k free forward up.1.one right in
    omega (arith, is, up.0.up, up.1.up, first, other)
HasNumber-forward p s n free forward one (IsCoveredBy _ e steps _ walk same covers number) =
    let there = HasNumber-forward p e n free forward (WalksTo-alone p steps e free walk) number in
    omega (arith, same, there)

-- ---- explored instructions

-- conditional jumps from a slot on
abbrev conditionals_from : List (Option Insn) → ℕ → ℕ
conditionals_from [] k = 0
conditionals_from (o ∷ os) zero = count_by is_conditional (o ∷ os)
conditionals_from (o ∷ os) (suc k) = conditionals_from os k

abbrev weight : Program → ℕ → ℕ
weight p slot = (length p.insns - slot) * 2 ^ conditionals_from p.insns slot

count_own : (o : Option Insn) (os : List (Option Insn))
    → count_by is_conditional os ≤ count_by is_conditional (o ∷ os)
count_own o os = omega (arith, sum_by-cons (λ x. cond (is_conditional x) 1 0) o os)

conditionals_most : (os : List (Option Insn)) (k : ℕ)
    → conditionals_from os k ≤ count_by is_conditional os
conditionals_most [] k = omega arith
conditionals_most (o ∷ os) zero = omega arith
conditionals_most (o ∷ os) (suc k) =
    let rest = conditionals_most os k in let own = count_own o os in omega arith

conditionals_fewer : (os : List (Option Insn)) (j k : ℕ) → j ≤ k
    → conditionals_from os k ≤ conditionals_from os j
conditionals_fewer [] j k le = omega arith
conditionals_fewer (o ∷ os) zero k le = conditionals_most (o ∷ os) k
conditionals_fewer (o ∷ os) (suc j) zero le = absurd (omega arith)
conditionals_fewer (o ∷ os) (suc j) (suc k) le = conditionals_fewer os j k (omega (arith, le))

-- a conditional jump counts before what follows it
conditionals_less : (os : List (Option Insn)) (j k : ℕ) (c : Cond) (by : ℤ)
    → slice_get os j ≡ Some (Some (JumpIf c by)) → j < k
    → conditionals_from os k + 1 ≤ conditionals_from os j
conditionals_less [] j k c by here up = absurd (cc)
conditionals_less (o ∷ os) zero zero c by here up = absurd (omega (arith, up))
conditionals_less (o ∷ os) zero (suc k) c by here up =
    let same : o ≡ Some (JumpIf c by) = cc in
    let rest = conditionals_most os k in
    let counted = sum_by-cons (λ x. cond (is_conditional x) 1 0) (Some (JumpIf c by)) os in
    rw same (omega (arith, rest, counted))
conditionals_less (o ∷ os) (suc j) zero c by here up = absurd (omega (arith, up))
conditionals_less (o ∷ os) (suc j) (suc k) c by here up =
    conditionals_less os j k c by here (omega (arith, up))

-- only a conditional jump has two successors
two_ways_jump : (p : Program) (s a b : State) (i : Insn) → StepsToWays p s i ways.Two a b
    → (c : Cond) × (by : ℤ) × (i ≡ JumpIf c by)
two_ways_jump p s a b i h = of i (StepsToWays-performs p s i ways.Two a b h) where
  of : (i : Insn) → StepsForm p s i (Ok ways.Two) a b → (c : Cond) × (by : ℤ) × (i ≡ JumpIf c by)
  of (JumpIf c by) h = (c, by, refl)
  of (Jump by) h = absurd (cc (h.0))
  of (JumpLong by) h = absurd (cc (h.0))
  of (CallLocal by) h = absurd (cc (h.1))
  of Exit h = absurd (exits_not_two p.version (length s.callers.items) s a h)
  of (StoreConstant size place k) h = absurd (cc (h.2.0))
  of (Store size place r) h = absurd (cc (h.0))
  of (Atomic w op fetched place r) h = absurd (cc (h.0))
  of (Exchange w place r) h = absurd (cc (h.0))
  of (CompareExchange w place r) h = absurd (cc (h.0))
  of i h = absurd (cc (h.0))

flattened : (o : Option (Option Insn)) (i : Insn) → option_flatten o ≡ Some i → o ≡ Some (Some i)
flattened None i h = absurd (cc)
flattened (Some o) i h = ap Some h

two_less : (p : Program) (s a b : State) (k : ℕ) → StepsInto p s ways.Two a b → s.slot < k
    → conditionals_from p.insns k + 1 ≤ conditionals_from p.insns s.slot
two_less p s a b k step up =
    let (c, by, is) = two_ways_jump p s step.next step.aside step.insn step.makes in
    conditionals_less p.insns s.slot k c by
    (flattened (slice_get p.insns s.slot) (JumpIf c by) (step.here ∙ ap Some is)) up

less_once : (a b x y : ℕ) → a + 1 ≤ b → x ≤ y → 1 ≤ x → a * x + 1 ≤ b * y
less_once a b x y le more some =
    let own = mul-le (a + 1) x b y le more in
    let split : (a + 1) * x ≡ a * x + 1 * x = add-mul a 1 x in
    omega (arith, own, split)

less_twice : (a c b x y z : ℕ) → a + 1 ≤ b → c + 1 ≤ b → x + x ≤ z → y + y ≤ z → 1 ≤ x
    → a * x + c * y + 1 ≤ b * z
less_twice a c b x y z one two twice_x twice_y some =
    let first = mul-le (a + 1) (x + x) b z one twice_x in
    let other = mul-le (c + 1) (y + y) b z two twice_y in
    let split : (a + 1) * (x + x) ≡ a * (x + x) + 1 * (x + x) = add-mul a 1 (x + x) in
    let split_too : (c + 1) * (y + y) ≡ c * (y + y) + 1 * (y + y) = add-mul c 1 (y + y) in
    let twice : a * (x + x) ≡ a * x + a * x = mul-add a x x in
    let twice_too : c * (y + y) ≡ c * y + c * y = mul-add c y y in
    omega (arith, first, other, split, split_too, twice, twice_too)

double_below : (c d : ℕ) → c + 1 ≤ d → 2 ^ c + 2 ^ c ≤ 2 ^ d
double_below c d le =
    let next : 2 ^ suc c ≡ 2 ^ c + 2 ^ c = two-pow-succ c in
    let more = pow-le-pow_right {n = 2} (omega arith) {i = suc c} {j = d} (omega (arith, le)) in
    omega (arith, next, more)

weight_some : (p : Program) (slot : ℕ) → slot < length p.insns → 1 ≤ weight p slot
weight_some p slot below =
    let some = pow_pos (conditionals_from p.insns slot) in
    let own = mul-le 1 1 (length p.insns - slot) (2 ^ conditionals_from p.insns slot) (omega arith)
    (omega arith) in
    omega (arith, own)

weight_once : (p : Program) (j k : ℕ) → j < k → j < length p.insns → weight p k + 1 ≤ weight p j
weight_once p j k up below =
    let fewer = conditionals_fewer p.insns j k (omega arith) in
    less_once (length p.insns - k) (length p.insns - j) (2 ^ conditionals_from p.insns k)
    (2 ^ conditionals_from p.insns j)
    (omega arith)
    (pow-le-pow_right {n = 2}
    (omega arith) {i = conditionals_from p.insns k} {j = conditionals_from p.insns j} fewer)
    (pow_pos (conditionals_from p.insns k))

weight_twice : (p : Program) (i j k : ℕ) → i < j → i < k → i < length p.insns
    → conditionals_from p.insns j + 1 ≤ conditionals_from p.insns i
    → conditionals_from p.insns k + 1 ≤ conditionals_from p.insns i
    → weight p j + weight p k + 1 ≤ weight p i
weight_twice p i j k up up_too below less less_too =
    less_twice (length p.insns - j) (length p.insns - k) (length p.insns - i)
    (2 ^ conditionals_from p.insns j) (2 ^ conditionals_from p.insns k)
    (2 ^ conditionals_from p.insns i)
    (omega arith) (omega arith) (double_below _ _ less) (double_below _ _ less_too)
    (pow_pos (conditionals_from p.insns j))

pub Takes-forward : (p : Program) (s : State) (n : ℕ) → HasNoCalls p → IsForward p → depth s ≡ 1
    → Takes p s n → n ≤ weight p s.slot
Takes-forward p s n free forward one (Nothing _ _ is) = omega (arith, is)
Takes-forward p s n free forward one (ItsOwn _ _ begins is) =
    let some = weight_some p s.slot (BeginsInsn-inside p s.slot begins) in omega (arith, some, is)
Takes-forward p s n free forward one (OneMore _ a b m _ step rest is) =
    let up = one_up p s a b free forward one step in
    let less = weight_once p s.slot a.slot up.up (inside p s step.insn step.here) in
    let few = Takes-forward p a m free forward up.one rest in
    omega (arith, less, few, is)
Takes-forward p s n free forward one (BothMore _ a b j k _ step left right is) =
    let (first, other) = two_up p s a b free forward one step in
    let less = weight_twice p s.slot a.slot b.slot first.up other.up
    (inside p s step.insn step.here) (two_less p s a b a.slot step first.up)
    (two_less p s a b b.slot step other.up) in
    let few = Takes-forward p a j free forward first.one left in
    let few_too = Takes-forward p b k free forward other.one right in
    omega (arith, less, few, few_too, is)

-- fewer than may be explored
Takes-few : (p : Program) (s : State) → HasNoCalls p → IsForward p → depth s ≡ 1 → Takes p s 1000001
    → ⊥
Takes-few p s free forward one h =
    let few = Takes-forward p s 1000001 free forward one h in
    let most = pow-le-pow_right {n = 2}
    (omega arith) {i = conditionals_from p.insns s.slot} {j = count_by is_conditional p.insns}
    (conditionals_most p.insns s.slot) in
    let product = mul-le (length p.insns - s.slot) (2 ^ conditionals_from p.insns s.slot)
    (length p.insns) (2 ^ count_by is_conditional p.insns) (omega arith) most in
    let limit = forward.few in
    absurd (omega (arith, few, product, limit))

pub StartTakes-few : (p : Program) → HasNoCalls p → IsForward p → StartTakes p 1000001 → ⊥
StartTakes-few p free forward (first, begins, takes) =
    Takes-few p first free forward (Forgets-depth p start first begins ∙ one_frame-start) takes

-- ---- no path comes back

pub HasSteps-up : (p : Program) (n : ℕ) (a b : State) → HasNoCalls p → IsForward p → depth a ≡ 1
    → HasSteps Coarse p n a b → a.slot + n ≤ b.slot
unfolding HasSteps
HasSteps-up p zero a b free forward one h =
    let same = ap (λ (x : State). x.slot) h in omega (arith, same)
HasSteps-up p (suc n) a b free forward one h =
    let step = steps_up p a h.0 free forward one (StepsTo-goes p a h.0 h.1) in
    let rest = HasSteps-up p n h.0 b free forward step.one h.2 in
    omega (arith, step.up, rest)

pub ComesBack-forward : (p : Program) (slot : ℕ) → HasNoCalls p → IsForward p
    → ComesBack Coarse p slot → ⊥
ComesBack-forward p slot free forward h =
    let one = WalksTo-alone p h.before h.first free h.walk in
    let up = HasSteps-up p (suc h.between) h.first h.again free forward one h.leads_back in
    absurd (omega (arith, up, h.first_slot, h.again_slot))
