-- Worked examples: programs that must be accepted. r0 = 2; exit is plain and determined.
use Rattle.std.specs.Prelude.{◌≡◌, ◌≢◌, ℕ, zero, suc, ◌⊎◌, ℤ, pos, true, IsSome, Some, None, List, [], ◌∷◌, refl}
use Rattle.std.proofs.Common.{inl, inr, sym, ap, ◌∙◌, subst, arith}
use Rattle.isa_model.specs.declared.registers.Reg.{Reg}
use Rattle.isa_model.specs.declared.registers.Reg.TheVariants.{R0, R1, R10}
use Rattle.isa_model.specs.declared.sizes.Width.TheVariants.{Full64}
use Rattle.isa_model.specs.declared.instructions.AluOp.TheVariants.{Mov}
use Rattle.isa_model.specs.declared.instructions.Operand.TheVariants.{Constant}
use Rattle.isa_model.specs.declared.instructions.Insn.{Insn}
use Rattle.isa_model.specs.declared.instructions.Insn.TheVariants.{Alu, Exit}
use Rattle.isa_model.specs.Code.Instructions.{Program, fetch, slots_filled, reads, writes}
use Rattle.isa_model.specs.Machine.States.{new_call_frame}
use Rattle.isa_model.specs.Machine.Steps.{act, step}
use Rattle.isa_model.specs.Machine.Successors.{falls_through, jump_distance}
use Rattle.isa_model.specs.Running.Runs.{start_state, progress}
use Rattle.isa_model.specs.MustAccept.Paths.{IsPlainForm, Each, IsOneOf, needs, written_too, PathTo, IsWhole}
use Rattle.isa_model.specs.MustAccept.Plain.{IsPlain}
use Rattle.isa_model.specs.MustAccept.Determined.{IsDeterminedForm, operands, HasRun, IsDetermined}
use Rattle.isa_model.specs.declared.versions.Version.TheVariants.{One}

abbrev pub two : Insn
two = Alu Full64 Mov R0 (Constant (pos 2))

abbrev pub passes : Program
passes = record { insns = Some two ∷ Some Exit ∷ []; maps = []; version = One }

-- its instructions
insn_at : (slot : ℕ) (i : Insn) → fetch passes slot ≡ Some i
    → ((slot ≡ 0) × (i ≡ two)) ⊎ ((slot ≡ 1) × (i ≡ Exit))
insn_at zero i here = inl (refl, cc)
insn_at (suc zero) i here = inr (refl, cc)
insn_at (suc (suc slot)) i here = absurd (cc)

no_jump : (slot : ℕ) (i : Insn) (by : ℤ) → fetch passes slot ≡ Some i → jump_distance i ≡ Some by
    → ⊥
no_jump slot i by here jump =
    elim (insn_at slot i here) [
      | inl at ↦
          let none : None ≡ Some by = subst (λ x. jump_distance x ≡ Some by) at.1 jump in
          absurd (cc)
      | inr at ↦
          let none : None ≡ Some by = subst (λ x. jump_distance x ≡ Some by) at.1 jump in
          absurd (cc)
    ]

falls_on : (slot : ℕ) (i : Insn) → fetch passes slot ≡ Some i → falls_through i ≡ true
    → (slot ≡ 0) × (i ≡ two)
falls_on slot i here falls =
    elim (insn_at slot i here) [
      | inl at ↦ at
      | inr at ↦ let no = subst (λ x. falls_through x ≡ true) at.1 falls in absurd (cc)
    ]

-- r0 is written on each path to the exit
at_slot : (n slot : ℕ) (written : List Reg) → PathTo passes n slot written
    → (slot ≡ 0) ⊎ ((slot ≡ 1) × IsOneOf written R0)
unfolding PathTo
at_slot zero slot written h = inl h.0
at_slot (suc n) slot written (from, before, i, path, here, inl (falls, at), is) =
    let (first, same) = falls_on from i here falls in
    let filled = ap slots_filled same in
    inr (
      omega (arith, at, first, filled),
      subst (λ (rs : List Reg). IsOneOf rs R0)
          (sym (is ∙ ap (λ x. written_too (writes x) before) same)) (inl refl),
    )
at_slot (suc n) slot written (from, before, i, path, here, inr (by, jump, at), is) =
    absurd (no_jump from i by here jump)

whole : IsWhole passes
unfolding PathTo
whole = record {
  jumps = λ slot i by here jump. absurd (no_jump slot i by here jump);
  falls = λ slot i here falls.
      let (first, same) = falls_on slot i here falls in
      rw (first, same) refl;
  reached = λ slot begins. reach slot begins;
} where
  reach : (slot : ℕ) → IsSome (fetch passes slot)
      → (n : ℕ) × (written : List Reg) × PathTo passes n slot written
  reach zero begins = (0, [], (refl, refl))
  reach (suc zero) begins = (1, R0 ∷ [], (0, [], two, (refl, refl), refl, inl (refl, refl), refl))
  reach (suc (suc slot)) begins = absurd (cc)

-- what holds of both instructions holds of each
each : (P : Insn → Type 0) → P two → P Exit → (slot : ℕ) (i : Insn) → fetch passes slot ≡ Some i
    → P i
each P x y slot i here =
    elim (insn_at slot i here) [ inl at ↦ subst P (sym at.1) x | inr at ↦ subst P (sym at.1) y ]

own : (slot : ℕ) (i : Insn) → fetch passes slot ≡ Some i → writes i ≢ Some R10
own slot i here =
    each (λ x. writes x ≢ Some R10) (λ e. absurd (cc e)) (λ e. absurd (cc e)) slot i here

pub passes_is_plain : IsPlain passes
passes_is_plain = record {
  forms = each IsPlainForm tt tt;
  whole = whole;
  forward =
      record {
        forward = λ slot i by here jump. absurd (no_jump slot i by here jump);
        few = omega arith;
      };
  own = own;
  written = λ n slot before i path here. elim (insn_at slot i here) [
    | inl at ↦ subst (λ x. Each (IsOneOf before) (needs x)) (sym at.1) tt
    | inr at ↦
        subst (λ x. Each (IsOneOf before) (needs x)) (sym at.1)
        (elim (at_slot n slot before path)
        [ inl first ↦ absurd (omega (arith, first, at.0)) | inr last ↦ (last.1, tt) ])
  ];
}

run : HasRun passes 2
unfolding progress start_state new_call_frame step act
run = record {
  clock = λ k. 0;
  clock_is = λ k. omega arith;
  head = record { time = 0; interface = 0; queue = 0 };
  packet = [];
  contents = [];
  given =
      record {
        short = omega arith;
        bytes = λ k d h. absurd (omega (arith, h));
        interface = omega arith;
        queue = omega arith;
        maps = tt;
      };
  number = 2;
  runs = (_, refl, refl);
  argument = λ n t i reached here among. elim (insn_at t.slot i here) [
    | inl at ↦ absurd (subst (λ x. IsOneOf (reads x) R1) at.1 among)
    | inr at ↦ absurd (subst (λ x. IsOneOf (reads x) R1) at.1 among)
  ];
}

pub passes_is_determined : IsDetermined passes 2
passes_is_determined = record {
  forms = each IsDeterminedForm tt tt;
  whole = whole;
  unnamed = each (λ x. Each (λ r. r ≢ R10) (operands x)) tt tt;
  own = own;
  run = run;
  most = omega arith;
}
