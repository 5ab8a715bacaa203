-- Laws for worked examples: what holds of a whole program, by tests of each of its instructions
-- that are computed.
use Rattle.std.specs.Prelude.{◌≡◌, ◌≢◌, ℕ, zero, suc, ◌+◌, ◌<◌, ◌⊎◌, ℤ, Bool, true, false, not, ◌||◌, ◌&&◌, ◌==◌, nat_lt, is_some, IsSome, Option, Some, None, List, [], ◌∷◌, ◌++◌, slice_get, slice_index_or, refl}
use Rattle.std.specs.Option.{option_flatten}
use Rattle.std.specs.List.{list_any}
use Rattle.std.proofs.Common.{inl, inr, sym, ap, ◌∙◌, subst, arith}
use Rattle.std.proofs.lemmas.Bool.{and_parts, or_parts}
use Rattle.std.proofs.lemmas.Bool.Decides.{nat_tests}
use Rattle.isa_model.specs.declared.registers.Reg.{Reg}
use Rattle.isa_model.specs.declared.registers.Reg.TheVariants.{R0, R1, R2, R3, R4, R5, R6, R7, R8, R9, R10}
use Rattle.isa_model.specs.declared.instructions.Insn.{Insn}
use Rattle.isa_model.specs.Code.Registers.{reg_number, reg_numbered}
use Rattle.isa_model.specs.Code.Instructions.{Program, fetch, slots_filled, writes, is_frame_pointer}
use Rattle.isa_model.specs.Machine.Steps.{destination}
use Rattle.isa_model.specs.Machine.Successors.{falls_through, jump_distance, FallsTo, JumpsTo}
use Rattle.isa_model.specs.MustAccept.Paths.{Each, IsOneOf, needs, written_too, PathTo, IsWhole, AreWritten}

-- ---- instruction by instruction

-- of each instruction and its slot, the first slot being n
abbrev pub EachFrom : (ℕ → Insn → Type 0) → ℕ → List (Option Insn) → Type 0
EachFrom P n [] = Unit {0}
EachFrom P n (None ∷ os) = EachFrom P (suc n) os
EachFrom P n (Some i ∷ os) = P n i × EachFrom P (suc n) os

abbrev pub EachInsn : Program → (ℕ → Insn → Type 0) → Type 0
EachInsn p P = EachFrom P 0 p.insns

from_each : (P : ℕ → Insn → Type 0) (n : ℕ) (os : List (Option Insn)) → EachFrom P n os
    → (slot : ℕ) (i : Insn) → option_flatten (slice_get os slot) ≡ Some i → P (n + slot) i
from_each P n [] h slot i here = absurd (cc)
from_each P n (None ∷ os) h zero i here = absurd (cc)
from_each P n (None ∷ os) h (suc slot) i here = let at : suc n + slot
    ≡ n + suc slot = omega arith in subst (λ f. P f i) at (from_each P (suc n) os h slot i here)
from_each P n (Some j ∷ os) h zero i here =
    let same : j ≡ i = cc in
    let at : n ≡ n + 0 = omega arith in
    subst (λ f. P f i) at (subst (P n) same h.0)
from_each P n (Some j ∷ os) h (suc slot) i here = let at : suc n + slot
    ≡ n + suc slot = omega arith in subst (λ f. P f i) at (from_each P (suc n) os h.1 slot i here)

pub of_each : (p : Program) (P : ℕ → Insn → Type 0) → EachInsn p P → (slot : ℕ) (i : Insn)
    → fetch p slot ≡ Some i → P slot i
of_each p P h slot i here = let at : 0 + slot
    ≡ slot = omega arith in subst (λ f. P f i) at (from_each P 0 p.insns h slot i here)

-- the same by a test
abbrev pub all_from : (ℕ → Insn → Bool) → ℕ → List (Option Insn) → Bool
all_from test n [] = true
all_from test n (None ∷ os) = all_from test (suc n) os
all_from test n (Some i ∷ os) = test n i && all_from test (suc n) os

abbrev pub all_insns : Program → (ℕ → Insn → Bool) → Bool
all_insns p test = all_from test 0 p.insns

each_from_all : (test : ℕ → Insn → Bool) (n : ℕ) (os : List (Option Insn))
    → all_from test n os ≡ true → EachFrom (λ slot i. test slot i ≡ true) n os
each_from_all test n [] h = tt
each_from_all test n (None ∷ os) h = each_from_all test (suc n) os h
each_from_all test n (Some i ∷ os) h =
    let (here, rest) = and_parts (test n i) (all_from test (suc n) os) h in
    (here, each_from_all test (suc n) os rest)

pub of_all : (p : Program) (test : ℕ → Insn → Bool) → all_insns p test ≡ true
    → (slot : ℕ) (i : Insn) → fetch p slot ≡ Some i → test slot i ≡ true
of_all p test h = of_each p (λ slot i. test slot i ≡ true) (each_from_all test 0 p.insns h)

-- of the instructions whose slots pass
abbrev pub Where : Bool → Type 0 → Type 0
Where false A = Unit {0}
Where true A = A

pub of_where : (A : Type 0) (b : Bool) → Where b A → b ≡ true → A
of_where A true h is = h
of_where A false h is = absurd (cc)

-- ---- control flow

-- of the next slot, where an instruction falls through, and of the target, where it jumps
abbrev pub fall_passes : (ℕ → Bool) → Bool → ℕ → Bool
fall_passes test false next = true
fall_passes test true next = test next

abbrev pub jump_passes : (ℕ → Bool) → Program → ℕ → Option ℤ → Bool
jump_passes test p slot None = true
jump_passes test p slot (Some by) = test (destination p slot by)

abbrev pub next_passes : (ℕ → Bool) → Program → ℕ → Insn → Bool
next_passes test p slot i = fall_passes test (falls_through i) (slot + slots_filled i)
    && jump_passes test p slot (jump_distance i)

on_fall : (test : ℕ → Bool) (b : Bool) (next : ℕ) → fall_passes test b next ≡ true
    → b ≡ true → test next ≡ true
on_fall test true next h is = h
on_fall test false next h is = absurd (cc)

on_jump : (test : ℕ → Bool) (p : Program) (slot : ℕ) (distance : Option ℤ) (by : ℤ)
    → jump_passes test p slot distance ≡ true → distance ≡ Some by
    → test (destination p slot by) ≡ true
on_jump test p slot None by h is = absurd (cc)
on_jump test p slot (Some z) by h is =
    let same : z ≡ by = cc in subst (λ d. test (destination p slot d) ≡ true) same h

on_next : (test : ℕ → Bool) (p : Program) (slot : ℕ) (i : Insn) (next : ℕ)
    → next_passes test p slot i ≡ true → FallsTo slot i next ⊎ JumpsTo p slot i next
    → test next ≡ true
on_next test p slot i next h (inl falls) =
    let (fall, jump) = and_parts (fall_passes test (falls_through i) (slot + slots_filled i))
    (jump_passes test p slot (jump_distance i)) h in
    ap test falls.1 ∙ on_fall test (falls_through i) (slot + slots_filled i) fall falls.0
on_next test p slot i next h (inr jumping) =
    let (fall, jump) = and_parts (fall_passes test (falls_through i) (slot + slots_filled i))
    (jump_passes test p slot (jump_distance i)) h in
    ap test jumping.2 ∙ on_jump test p slot (jump_distance i) jumping.0 jump jumping.1

-- jumps lead ahead
abbrev pub goes_ahead : Program → Bool
goes_ahead p =
    all_insns p (λ slot i. jump_passes (λ next. nat_lt slot next) p slot (jump_distance i))

pub ahead : (p : Program) → goes_ahead p ≡ true → (slot : ℕ) (i : Insn) (by : ℤ)
    → fetch p slot ≡ Some i → jump_distance i ≡ Some by → slot < destination p slot by
ahead p h slot i by here jump =
    let passes = on_jump (λ next. nat_lt slot next) p slot (jump_distance i) by
    (of_all p (λ f x. jump_passes (λ next. nat_lt f next) p f (jump_distance x)) h slot i here)
    jump in
    grind (arith, nat_tests, passes)

-- ---- every instruction is reached

abbrev pub falls_to : ℕ → Insn → ℕ → Bool
falls_to from i slot = falls_through i && (slot == from + slots_filled i)

abbrev pub jumps_to : Program → ℕ → Option ℤ → ℕ → Bool
jumps_to p from None slot = false
jumps_to p from (Some by) slot = slot == destination p from by

abbrev pub follows : Program → ℕ → Option Insn → ℕ → Bool
follows p from None slot = false
follows p from (Some i) slot = falls_to from i slot || jumps_to p from (jump_distance i) slot

-- the first slot, or one that follows the earlier one of a list that has one for each slot
abbrev pub is_entered : Program → List ℕ → ℕ → Bool
is_entered p froms slot = (slot == 0)
    || (nat_lt (slice_index_or froms slot 0) slot
    && follows p (slice_index_or froms slot 0) (fetch p (slice_index_or froms slot 0)) slot)

either : (a b : Bool) → (a || b) ≡ true → (a ≡ true) ⊎ (b ≡ true)
either true b h = inl refl
either false b h = inr h

equal : (a b : ℕ) → (a == b) ≡ true → a ≡ b
equal a b h = grind (arith, nat_tests, h)

jumps_by : (p : Program) (from : ℕ) (distance : Option ℤ) (slot : ℕ)
    → jumps_to p from distance slot ≡ true
    → (by : ℤ) × (distance ≡ Some by) × (slot ≡ destination p from by)
jumps_by p from None slot h = absurd (cc)
jumps_by p from (Some by) slot h = (by, refl, equal slot (destination p from by) h)

follows_by : (p : Program) (from : ℕ) (o : Option Insn) (slot : ℕ) → follows p from o slot ≡ true
    → (i : Insn) × (o ≡ Some i) × (FallsTo from i slot ⊎ JumpsTo p from i slot)
follows_by p from None slot h = absurd (cc)
follows_by p from (Some i) slot h =
    elim (either (falls_to from i slot) (jumps_to p from (jump_distance i) slot) h) [
      | inl falls ↦
          let (through, at) = and_parts (falls_through i) (slot == from + slots_filled i) falls in
          (i, refl, inl (through, equal slot (from + slots_filled i) at))
      | inr jump ↦ (i, refl, inr (jumps_by p from (jump_distance i) slot jump))
    ]

some_insn : (o : Option Insn) → IsSome o → (i : Insn) × (o ≡ Some i)
some_insn (Some i) h = (i, refl)
some_insn None h = absurd (cc)

path : (p : Program) (froms : List ℕ) → all_insns p (λ slot i. is_entered p froms slot) ≡ true
    → (fuel slot : ℕ) → slot < fuel → IsSome (fetch p slot)
    → (n : ℕ) × (written : List Reg) × PathTo p n slot written
unfolding PathTo
path p froms entered zero slot below found = absurd (omega arith)
path p froms entered (suc fuel) slot below found =
    let (i, here) = some_insn (fetch p slot) found in
    let from = slice_index_or froms slot 0 in
    elim (either (slot == 0) (nat_lt from slot && follows p from (fetch p from) slot)
    (of_all p (λ f x. is_entered p froms f) entered slot i here)) [
      | inl first ↦ (0, [], (equal slot 0 first, refl))
      | inr followed ↦
          let (earlier, on) = and_parts (nat_lt from slot)
          (follows p from (fetch p from) slot) followed in
          let lower : from < slot = grind (arith, nat_tests, earlier) in
          let (j, there, leads) = follows_by p from (fetch p from) slot on in
          let to = path p froms entered fuel from (omega (arith, below, lower))
          (subst (λ (o : Option Insn). IsSome o) (sym there) refl) in
          (suc to.0, written_too (writes j) to.1, (from, to.1, j, to.2, there, leads, refl))
    ]

abbrev pub stays_inside : Program → Bool
stays_inside p = all_insns p (next_passes (λ slot. is_some (fetch p slot)) p)

pub IsWhole-tested : (p : Program) (froms : List ℕ) → stays_inside p ≡ true
    → all_insns p (λ slot i. is_entered p froms slot) ≡ true → IsWhole p
IsWhole-tested p froms inside entered = record {
  jumps =
      λ slot i by here jump. on_next begins p slot i (destination p slot by)
      (of_all p (next_passes begins p) inside slot i here) (inr (by, jump, refl));
  falls =
      λ slot i here falls. on_next begins p slot i (slot + slots_filled i)
      (of_all p (next_passes begins p) inside slot i here) (inl (falls, refl));
  reached = λ slot here. path p froms entered (suc slot) slot (omega arith) here;
} where
  begins : ℕ → Bool
  begins slot = is_some (fetch p slot)

-- ---- registers

same_reg : (q r : Reg) → (reg_number q == reg_number r) ≡ true → q ≡ r
same_reg q r h =
    let numbers = ap reg_numbered (equal (reg_number q) (reg_number r) h) in
    let same : Some q ≡ Some r = sym (numbered q) ∙ numbers ∙ numbered r in
    cc
  where
    numbered : (x : Reg) → reg_numbered (reg_number x) ≡ Some x
    numbered R0 = refl
    numbered R1 = refl
    numbered R2 = refl
    numbered R3 = refl
    numbered R4 = refl
    numbered R5 = refl
    numbered R6 = refl
    numbered R7 = refl
    numbered R8 = refl
    numbered R9 = refl
    numbered R10 = refl

-- a list of registers names one, and each of a list
abbrev pub names : List Reg → Reg → Bool
names rs r = list_any (λ q. reg_number q == reg_number r) rs

abbrev pub names_each : List Reg → List Reg → Bool
names_each rs [] = true
names_each rs (q ∷ qs) = names rs q && names_each rs qs

is_one_of : (rs : List Reg) (r : Reg) → names rs r ≡ true → IsOneOf rs r
is_one_of [] r h = absurd (cc)
is_one_of (q ∷ rs) r h =
    elim (either (reg_number q == reg_number r) (names rs r) h)
    [ inl here ↦ inl (sym (same_reg q r here)) | inr rest ↦ inr (is_one_of rs r rest) ]

are_of : (rs qs : List Reg) → names_each rs qs ≡ true → Each (IsOneOf rs) qs
are_of rs [] h = tt
are_of rs (q ∷ qs) h =
    let (here, rest) = and_parts (names rs q) (names_each rs qs) h in
    (is_one_of rs q here, are_of rs qs rest)

among : (P : Reg → Type 0) (rs : List Reg) (r : Reg) → Each P rs → IsOneOf rs r → P r
among P [] r h one = absurd one
among P (q ∷ rs) r h (inl same) = subst P (sym same) h.0
among P (q ∷ rs) r h (inr rest) = among P rs r h.1 rest

each_more : (P Q : Reg → Type 0) (rs : List Reg) → ((r : Reg) → P r → Q r) → Each P rs → Each Q rs
each_more P Q [] f h = tt
each_more P Q (r ∷ rs) f h = (f r h.0, each_more P Q rs f h.1)

behind : (given xs ys : List Reg) (r : Reg) → Each (IsOneOf ys) xs → IsOneOf (given ++ xs) r
    → IsOneOf (given ++ ys) r
behind [] xs ys r h one = among (IsOneOf ys) xs r h one
behind (q ∷ given) xs ys r h (inl same) = inl same
behind (q ∷ given) xs ys r h (inr rest) = inr (behind given xs ys r h rest)

written_behind : (o : Option Reg) (xs ys : List Reg) (r : Reg) → Each (IsOneOf ys) xs
    → IsOneOf (written_too o xs) r → IsOneOf (written_too o ys) r
written_behind None xs ys r h one = behind [] xs ys r h one
written_behind (Some q) xs ys r h one = behind (q ∷ []) xs ys r h one

-- what is written on each path to a slot, of a list that has it for each slot
abbrev pub sure_at : List (List Reg) → ℕ → List Reg
sure_at sure slot = slice_index_or sure slot []

abbrev pub stays_sure : Program → List (List Reg) → ℕ → Insn → Bool
stays_sure p sure slot i =
    next_passes (λ next. names_each (written_too (writes i) (sure_at sure slot))
    (sure_at sure next)) p slot i

known_at : (p : Program) (sure : List (List Reg)) → sure_at sure 0 ≡ []
    → all_insns p (stays_sure p sure) ≡ true → (n slot : ℕ) (written : List Reg)
    → PathTo p n slot written
    → Each (IsOneOf written) (sure_at sure slot)
unfolding PathTo
known_at p sure none stays zero slot written h =
    subst (λ f. Each (IsOneOf written) (sure_at sure f)) (sym h.0)
    (subst (λ (rs : List Reg). Each (IsOneOf written) rs) (sym none) tt)
known_at p sure none stays (suc n) slot written (from, before, i, path, here, on, is) =
    let after = written_too (writes i) (sure_at sure from) in
    let kept = on_next (λ next. names_each after (sure_at sure next)) p from i slot
    (of_all p (stays_sure p sure) stays from i here) on in
    subst (λ (rs : List Reg). Each (IsOneOf rs) (sure_at sure slot)) (sym is)
    (each_more (IsOneOf after) (IsOneOf (written_too (writes i) before)) (sure_at sure slot)
    (λ r. written_behind (writes i) (sure_at sure from) before r
    (known_at p sure none stays n from before path)) (are_of after (sure_at sure slot) kept))

abbrev pub has_needed : List Reg → List (List Reg) → ℕ → Insn → Bool
has_needed given sure slot i = names_each (given ++ sure_at sure slot) (needs i)

pub AreWritten-tested : (p : Program) (given : List Reg) (sure : List (List Reg))
    → sure_at sure 0 ≡ [] → all_insns p (stays_sure p sure) ≡ true
    → all_insns p (has_needed given sure) ≡ true → AreWritten p given
AreWritten-tested p given sure none stays needed = λ n slot before i path here.
    each_more (IsOneOf (given ++ sure_at sure slot)) (IsOneOf (given ++ before)) (needs i)
    (λ r. behind given (sure_at sure slot) before r (known_at p sure none stays n slot before path))
    (are_of (given ++ sure_at sure slot) (needs i)
    (of_all p (has_needed given sure) needed slot i here))

-- ---- registers that are not named

unequal : (q r : Reg) → (reg_number q == reg_number r) ≡ false → q ≢ r
unequal q r h e =
    let same : (reg_number r == reg_number r) ≡ true = grind (arith, nat_tests) in
    let other : (reg_number r == reg_number r)
    ≡ false = subst (λ (x : Reg). (reg_number x == reg_number r) ≡ false) e h in
    absurd (cc)

pub is_not_one_of : (r : Reg) (rs : List Reg) → names rs r ≡ false → IsOneOf rs r → ⊥
is_not_one_of r [] none one = absurd one
is_not_one_of r (q ∷ rs) none (inl same) =
    unequal q r (or_parts (reg_number q == reg_number r) (names rs r) none).0 (sym same)
is_not_one_of r (q ∷ rs) none (inr rest) =
    is_not_one_of r rs (or_parts (reg_number q == reg_number r) (names rs r) none).1 rest

are_others : (r : Reg) (rs : List Reg) → names rs r ≡ false → Each (λ q. q ≢ r) rs
are_others r [] none = tt
are_others r (q ∷ rs) none =
    let (here, rest) = or_parts (reg_number q == reg_number r) (names rs r) none in
    (unequal q r here, are_others r rs rest)

is_no : (b : Bool) → not b ≡ true → b ≡ false
is_no true h = absurd (cc)
is_no false h = refl

pub never_named : (p : Program) (r : Reg) (named : Insn → List Reg)
    → all_insns p (λ slot i. not (names (named i) r)) ≡ true → (slot : ℕ) (i : Insn)
    → fetch p slot ≡ Some i → Each (λ q. q ≢ r) (named i)
never_named p r named h slot i here =
    are_others r (named i)
    (is_no (names (named i) r) (of_all p (λ f x. not (names (named x) r)) h slot i here))

pub never_written : (p : Program) → all_insns p (λ slot i. not (is_frame_pointer (writes i))) ≡ true
    → (slot : ℕ) (i : Insn) → fetch p slot ≡ Some i → writes i ≢ Some R10
never_written p h slot i here is =
    let other = is_no (is_frame_pointer (writes i))
    (of_all p (λ f x. not (is_frame_pointer (writes x))) h slot i here) in
    let own : is_frame_pointer (Some R10)
    ≡ false = subst (λ (x : Option Reg). is_frame_pointer x ≡ false) is other in
    absurd (cc)
