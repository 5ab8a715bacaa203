-- Worked examples of determined programs: loops whose counter is on the stack.
use Rattle.std.specs.Prelude.{◌≡◌, ℕ, zero, suc, pos, negsuc, false, Some, [], ◌∷◌, refl}
use Rattle.std.proofs.Common.{sym, ap, subst, arith}
use Rattle.isa_model.specs.declared.versions.Version.TheVariants.{One}
use Rattle.isa_model.specs.declared.registers.Reg.TheVariants.{R0, R1, R6, R7, R10}
use Rattle.isa_model.specs.declared.sizes.Size.TheVariants.{U64}
use Rattle.isa_model.specs.declared.instructions.Comparison.TheVariants.{NotEqual, Less}
use Rattle.isa_model.specs.declared.instructions.Insn.{Insn}
use Rattle.isa_model.specs.declared.instructions.Insn.TheVariants as insn
use Rattle.isa_model.specs.Code.Numbers.{alu, holds, sign_extended, reordered}
use Rattle.isa_model.specs.Code.Instructions.{Program, fetch, reads}
use Rattle.isa_model.specs.Machine.States.{State, new_call_frame}
use Rattle.isa_model.specs.Machine.MachineStates.{IsGiven}
use Rattle.isa_model.specs.Machine.Steps.{act, step}
use Rattle.isa_model.specs.Running.Runs.{start_state, Progress, GoesOn, Ended, progress, Reaches}
use Rattle.isa_model.specs.MustAccept.Paths.{IsOneOf}
use Rattle.isa_model.specs.MustAccept.Determined.{IsStackSlotPlace, IsDeterminedForm, operands, WritesIn, HasRun, IsDetermined}
use Rattle.isa_model.specs.Worked.Examples.{set, copy, add, subtract, below, if_constant, head_by}
use Rattle.isa_model.specs.Worked.WorkedLaws.{of_each, IsWhole-tested, names, is_not_one_of, never_named, never_written}

-- the lowest and the highest stack slot of the call frame
lowest : IsStackSlotPlace (below R10 512)
lowest = (0, omega arith, refl)

highest : IsStackSlotPlace (below R10 8)
highest = (63, omega arith, refl)

abbrev start : State
start = start_state (head_by 0) [] []

-- ---- counting by threes to 300

-- r6 = 0; *(u64 *)(r10 - 512) = r6; r7 = *(u64 *)(r10 - 512); r7 += 3; *(u64 *)(r10 - 512) = r7;
-- if r7 != 300 goto -4;
-- r0 = r7; r0 -= 298; exit
abbrev pub by_threes : Program
by_threes = record {
  insns = Some (set R6 (pos 0)) ∷ Some (insn.Store U64 (below R10 512) R6)
      ∷ Some (insn.Load U64 R7 (below R10 512)) ∷ Some (add R7 (pos 3))
      ∷ Some (insn.Store U64 (below R10 512) R7)
      ∷ Some (if_constant NotEqual R7 (pos 300) (negsuc 3))
      ∷ Some (copy R0 R7) ∷ Some (subtract R0 (pos 298)) ∷ Some insn.Exit ∷ [];
  maps = [];
  version = One;
}

threes_given : IsGiven by_threes (head_by 0) [] []
threes_given =
    record {
      short = omega arith;
      bytes = λ k d h. absurd (omega (arith, h));
      interface = omega arith;
      queue = omega arith;
      maps = tt;
    }

without_r1 : (slot : ℕ) (i : Insn) → fetch by_threes slot ≡ Some i → names (reads i) R1 ≡ false
without_r1 =
    of_each by_threes (λ slot i. names (reads i) R1 ≡ false)
    (refl, (refl, (refl, (refl, (refl, (refl, (refl, (refl, (refl, tt)))))))))

-- two steps, a hundred turns of the loop with four steps each, and three steps
threes_run : HasRun by_threes 405
unfolding progress start_state new_call_frame step act alu holds sign_extended reordered
threes_run = record {
  clock = λ k. 0;
  clock_is = λ k. omega arith;
  head = head_by 0;
  packet = [];
  contents = [];
  given = threes_given;
  number = 2;
  runs = (_, refl, refl);
  argument =
      λ n t i reached here among. absurd
      (is_not_one_of R1 (reads i) (without_r1 t.slot i here) among);
}

pub by_threes_is_determined : IsDetermined by_threes 405
by_threes_is_determined = record {
  forms =
      of_each by_threes (λ slot i. IsDeterminedForm i)
      (tt, (lowest, (lowest, (tt, (lowest, (tt, (tt, (tt, (tt, tt)))))))));
  whole = IsWhole-tested by_threes (0 ∷ 0 ∷ 1 ∷ 2 ∷ 3 ∷ 4 ∷ 5 ∷ 6 ∷ 7 ∷ []) refl refl;
  unnamed = never_named by_threes R10 operands refl;
  own = never_written by_threes refl;
  run = threes_run;
  most = omega arith;
}

-- ---- counting by ones to 4, in r1

-- *(u64 *)(r10 - 8) = 0; r1 = *(u64 *)(r10 - 8); r1 += 1; *(u64 *)(r10 - 8) = r1;
-- if r1 < 4 goto -4; r0 = 2; exit
abbrev pub by_ones : Program
by_ones = record {
  insns = Some (insn.StoreConstant U64 (below R10 8) (pos 0))
      ∷ Some (insn.Load U64 R1 (below R10 8)) ∷ Some (add R1 (pos 1))
      ∷ Some (insn.Store U64 (below R10 8) R1) ∷ Some (if_constant Less R1 (pos 4) (negsuc 3))
      ∷ Some (set R0 (pos 2)) ∷ Some insn.Exit ∷ [];
  maps = [];
  version = One;
}

ones_given : IsGiven by_ones (head_by 0) [] []
ones_given =
    record {
      short = omega arith;
      bytes = λ k d h. absurd (omega (arith, h));
      interface = omega arith;
      queue = omega arith;
      maps = tt;
    }

abbrev slot_after : Progress → ℕ
slot_after (GoesOn s) = s.slot
slot_after (Ended e s) = s.slot

-- the first two instructions do not read r1, and the second one writes it
reads_r1_late : (n : ℕ) (t : State) (i : Insn) → Reaches by_ones (λ k. 0) start n t
    → fetch by_ones t.slot ≡ Some i → IsOneOf (reads i) R1 → WritesIn by_ones (λ k. 0) start n R1
unfolding progress start_state new_call_frame step act alu holds sign_extended reordered
reads_r1_late zero t i reached here among =
    let at : t.slot ≡ 0 = sym (ap slot_after reached) in
    let first : fetch by_ones 0 ≡ Some i = subst (λ slot. fetch by_ones slot ≡ Some i) at here in
    let is : insn.StoreConstant U64 (below R10 8) (pos 0) ≡ i = cc first in
    absurd (is_not_one_of R1 (reads i) (ap (λ (x : Insn). names (reads x) R1) (sym is)) among)
reads_r1_late (suc zero) t i reached here among =
    let at : t.slot ≡ 1 = sym (ap slot_after reached) in
    let second : fetch by_ones 1 ≡ Some i = subst (λ slot. fetch by_ones slot ≡ Some i) at here in
    let is : insn.Load U64 R1 (below R10 8) ≡ i = cc second in
    absurd (is_not_one_of R1 (reads i) (ap (λ (x : Insn). names (reads x) R1) (sym is)) among)
reads_r1_late (suc (suc n)) t i reached here among =
    record {
      step = 1;
      before = omega arith;
      state = _;
      reached = refl;
      insn = _;
      here = refl;
      writes_it = refl;
    }

-- one step, four turns of the loop with four steps each, and two steps
ones_run : HasRun by_ones 19
unfolding progress start_state new_call_frame step act alu holds sign_extended reordered
ones_run = record {
  clock = λ k. 0;
  clock_is = λ k. omega arith;
  head = head_by 0;
  packet = [];
  contents = [];
  given = ones_given;
  number = 2;
  runs = (_, refl, refl);
  argument = reads_r1_late;
}

pub by_ones_is_determined : IsDetermined by_ones 19
by_ones_is_determined = record {
  forms =
      of_each by_ones (λ slot i. IsDeterminedForm i)
      (highest, (highest, (tt, (highest, (tt, (tt, (tt, tt)))))));
  whole = IsWhole-tested by_ones (0 ∷ 0 ∷ 1 ∷ 2 ∷ 3 ∷ 4 ∷ 5 ∷ []) refl refl;
  unnamed = never_named by_ones R10 operands refl;
  own = never_written by_ones refl;
  run = ones_run;
  most = omega arith;
}
