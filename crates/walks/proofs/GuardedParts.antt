-- The parts of a guarded program, and which instruction is at each.
use Rattle.walks.proofs.Common.{◌≡◌, ◌≤◌, ◌+◌, ◌<◌, ℕ, zero, suc, Some, None, arith, refl, sym, ap, ◌∙◌, subst, inl, inr, ℤ, cases_order, Insn, CallHelper, CallLocal, Program, fetch, IsBodyForm, IsGuarded, jump_distance, IsJoin, BeginsInsn-inside, fetch-BeginsInsn}
use Rattle.walks.proofs.Accepted.{HasNoCalls, Jumped, jump_to-by}
use Rattle.walks.proofs.Living.{CallsNothing, none_called}

-- ---- slots

-- where a slot of a guarded program is
pub data GuardedPart (tail slot : ℕ) : Type 0 where
  AtPacket : slot ≡ 0 → GuardedPart tail slot
  AtEnd : slot ≡ 1 → GuardedPart tail slot
  AtCopy : slot ≡ 2 → GuardedPart tail slot
  AtAhead : slot ≡ 3 → GuardedPart tail slot
  AtTest : slot ≡ 4 → GuardedPart tail slot
  InBody : 5 ≤ slot → slot < tail → GuardedPart tail slot
  AtAnswer : slot ≡ tail → GuardedPart tail slot
  AtExit : slot ≡ tail + 1 → GuardedPart tail slot

part_behind : (tail slot : ℕ) → 5 ≤ slot → slot < tail + 2 → GuardedPart tail slot
part_behind tail slot behind below =
    elim (cases_order slot tail) [
      | inl same ↦ AtAnswer same
      | inr (inl before) ↦ InBody behind before
      | inr (inr after) ↦ AtExit (omega (arith, after, below))
    ]

part_of : (tail slot : ℕ) → slot < tail + 2 → GuardedPart tail slot
part_of tail zero below = AtPacket refl
part_of tail (suc zero) below = AtEnd refl
part_of tail (suc (suc zero)) below = AtCopy refl
part_of tail (suc (suc (suc zero))) below = AtAhead refl
part_of tail (suc (suc (suc (suc zero)))) below = AtTest refl
part_of tail (suc (suc (suc (suc (suc slot))))) below =
    part_behind tail (suc (suc (suc (suc (suc slot))))) (omega arith) below

pub part_at : (p : Program) (len slot : ℕ) (i : Insn) → (g : IsGuarded p len)
    → fetch p slot ≡ Some i → GuardedPart g.tail slot
part_at p len slot i g here =
    let inside = BeginsInsn-inside p slot (fetch-BeginsInsn p slot i here) in
    let ends = g.ends in
    part_of g.tail slot (omega (arith, inside, ends))

-- a slot has one instruction
pub one_insn : (p : Program) (slot at : ℕ) (i j : Insn) → slot ≡ at → fetch p at ≡ Some j
    → fetch p slot ≡ Some i → j ≡ i
one_insn p slot at i j same there here = cc (sym there ∙ ap (fetch p) (sym same) ∙ here)

body_calls : (len : ℕ) (i : Insn) → IsBodyForm len i → CallsNothing i
body_calls len (CallHelper number) body = absurd body
body_calls len (CallLocal by) body = absurd body
body_calls len i body = tt

calls_at : (i j : Insn) → j ≡ i → CallsNothing j → CallsNothing i
calls_at i j one none = subst CallsNothing one none

pub IsGuarded-calls : (p : Program) (len slot : ℕ) (i : Insn) → IsGuarded p len
    → fetch p slot ≡ Some i → CallsNothing i
IsGuarded-calls p len slot i g here = of (part_at p len slot i g here) where
  of : GuardedPart g.tail slot → CallsNothing i
  of (AtPacket at) = calls_at i _ (one_insn p slot 0 i _ at g.packet here) tt
  of (AtEnd at) = calls_at i _ (one_insn p slot 1 i _ at g.packet_end here) tt
  of (AtCopy at) = calls_at i _ (one_insn p slot 2 i _ at g.copy here) tt
  of (AtAhead at) = calls_at i _ (one_insn p slot 3 i _ at g.ahead here) tt
  of (AtTest at) = calls_at i _ (one_insn p slot 4 i _ at g.test here) tt
  of (InBody behind before) = body_calls len i (g.body slot i behind before here)
  of (AtAnswer at) = calls_at i _ (one_insn p slot g.tail i _ at g.answers here) tt
  of (AtExit at) = calls_at i _ (one_insn p slot (g.tail + 1) i _ at g.exits here) tt

pub IsGuarded-no_calls : (p : Program) (len : ℕ) → IsGuarded p len → HasNoCalls p
IsGuarded-no_calls p len g = λ slot i here. none_called i (IsGuarded-calls p len slot i g here)

-- no jump leads to the first five slots, since the first four hold none and jumps lead forward
jumps_not : (i j : Insn) (by : ℤ) → j ≡ i → jump_distance j ≡ None → jump_distance i ≡ Some by → ⊥
jumps_not i j by one none jumps =
    let nowhere : jump_distance i ≡ None = subst (λ (x : Insn). jump_distance x ≡ None) one none in
    absurd (cc)

pub first_no_join : (p : Program) (len slot : ℕ) → IsGuarded p len → slot < 5 → IsJoin p slot → ⊥
first_no_join p len slot g early (from, jumps) = of (part_at p len from j.insn g j.here) where
  j : Jumped p from slot
  j = jump_to-by p from slot jumps

  low : from < 4
  low = let up = g.forward.forward from j.insn j.by j.here j.distance in
      let at = j.at in omega (arith, up, at, early)

  of : GuardedPart g.tail from → ⊥
  of (AtPacket at) =
      jumps_not j.insn _ j.by (one_insn p from 0 j.insn _ at g.packet j.here) refl j.distance
  of (AtEnd at) =
      jumps_not j.insn _ j.by (one_insn p from 1 j.insn _ at g.packet_end j.here) refl j.distance
  of (AtCopy at) =
      jumps_not j.insn _ j.by (one_insn p from 2 j.insn _ at g.copy j.here) refl j.distance
  of (AtAhead at) =
      jumps_not j.insn _ j.by (one_insn p from 3 j.insn _ at g.ahead j.here) refl j.distance
  of (AtTest at) = let h = low in omega (arith, at, h)
  of (InBody behind before) = let h = low in omega (arith, behind, h)
  of (AtAnswer at) = let h = low in let far = g.behind in omega (arith, at, h, far)
  of (AtExit at) = let h = low in let far = g.behind in omega (arith, at, h, far)
