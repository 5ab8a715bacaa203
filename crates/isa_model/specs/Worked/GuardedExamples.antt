-- Worked examples: a guarded program, which loads the packet's first byte.
use Rattle.std.specs.Prelude.{◌≡◌, ℕ, zero, suc, ◌+◌, ◌<◌, ◌≤◌, ◌⊎◌, ℤ, pos, true, IsSome, Some, None, List, [], ◌∷◌, refl}
use Rattle.std.proofs.Common.{inl, inr, sym, ap, ◌∙◌, subst, arith}
use Rattle.isa_model.specs.declared.registers.Reg.{Reg}
use Rattle.isa_model.specs.declared.registers.Reg.TheVariants.{R0, R1, R2, R3, R4}
use Rattle.isa_model.specs.declared.sizes.Width.TheVariants.{Full64}
use Rattle.isa_model.specs.declared.sizes.Size.TheVariants.{U8, U32}
use Rattle.isa_model.specs.declared.instructions.AluOp.TheVariants.{Mov, Add}
use Rattle.isa_model.specs.declared.instructions.Comparison.TheVariants.{Greater}
use Rattle.isa_model.specs.declared.instructions.Operand.TheVariants.{Constant, Register}
use Rattle.isa_model.specs.declared.instructions.Insn.{Insn}
use Rattle.isa_model.specs.declared.instructions.Insn.TheVariants.{Alu, Load, JumpIf, Exit}
use Rattle.isa_model.specs.Code.Instructions.{Program, fetch, slots_filled, writes}
use Rattle.isa_model.specs.Machine.Steps.{destination}
use Rattle.isa_model.specs.Machine.Successors.{falls_through, jump_distance, FallsTo, JumpsTo}
use Rattle.isa_model.specs.MustAccept.Paths.{Each, IsOneOf, needs, written_too, PathTo, IsWhole}
use Rattle.isa_model.specs.MustAccept.Guarded.{IsBodyForm, IsGuarded}
use Rattle.isa_model.specs.declared.versions.Version.TheVariants.{One}

-- ---- the program

abbrev pub packet_loaded : Insn
packet_loaded = Load U32 R2 (record { base = R1; offset = pos 0 })

abbrev pub end_loaded : Insn
end_loaded = Load U32 R3 (record { base = R1; offset = pos 4 })

abbrev pub copied : Insn
copied = Alu Full64 Mov R4 (Register R2)

abbrev pub moved_on : Insn
moved_on = Alu Full64 Add R4 (Constant (pos 1))

abbrev pub byte_loaded : Insn
byte_loaded = Load U8 R0 (record { base = R2; offset = pos 0 })

abbrev pub answer_set : Insn
answer_set = Alu Full64 Mov R0 (Constant (pos 2))

-- if the packet is empty, the test jumps to the last two instructions
abbrev pub to_answer : Insn
to_answer =
    JumpIf (record { width = Full64; comparison = Greater; register = R4; operand = Register R3 })
    (pos 2)

abbrev pub first_byte : Program
first_byte = record {
  insns = Some packet_loaded ∷ Some end_loaded
      ∷ Some copied ∷ Some moved_on ∷ Some to_answer
      ∷ Some byte_loaded ∷ Some Exit ∷ Some answer_set ∷ Some Exit ∷ [];
  maps = [];
  version = One;
}

-- what holds of each of its instructions at its slot
record Holds (P : ℕ → Insn → Type 0) : Type 0 where
  packet : P 0 packet_loaded
  packet_end : P 1 end_loaded
  copy : P 2 copied
  ahead : P 3 moved_on
  test : P 4 to_answer
  load : P 5 byte_loaded
  exit : P 6 Exit
  answer : P 7 answer_set
  last : P 8 Exit

each : (P : ℕ → Insn → Type 0) → Holds P → (slot : ℕ) (i : Insn) → fetch first_byte slot ≡ Some i
    → P slot i
each P h zero i here = let same : packet_loaded ≡ i = cc in subst (P 0) same h.packet
each P h (suc zero) i here = let same : end_loaded ≡ i = cc in subst (P 1) same h.packet_end
each P h (suc (suc zero)) i here = let same : copied ≡ i = cc in subst (P 2) same h.copy
each P h (suc (suc (suc zero))) i here = let same : moved_on ≡ i = cc in subst (P 3) same h.ahead
each P h (suc (suc (suc (suc zero)))) i here =
    let same : to_answer ≡ i = cc in subst (P 4) same h.test
each P h (suc (suc (suc (suc (suc zero))))) i here =
    let same : byte_loaded ≡ i = cc in subst (P 5) same h.load
each P h (suc (suc (suc (suc (suc (suc zero)))))) i here =
    let same : Exit ≡ i = cc in subst (P 6) same h.exit
each P h (suc (suc (suc (suc (suc (suc (suc zero))))))) i here =
    let same : answer_set ≡ i = cc in subst (P 7) same h.answer
each P h (suc (suc (suc (suc (suc (suc (suc (suc zero)))))))) i here =
    let same : Exit ≡ i = cc in subst (P 8) same h.last
each P h (suc (suc (suc (suc (suc (suc (suc (suc (suc slot))))))))) i here = absurd (cc)

-- ---- control flow

only_jump : (P : ℕ → ℤ → Type 0) → P 4 (pos 2) → (slot : ℕ) (i : Insn) (by : ℤ)
    → fetch first_byte slot ≡ Some i → jump_distance i ≡ Some by → P slot by
only_jump P there slot i by here jump =
    each (λ f x. jump_distance x ≡ Some by → P f by) (record {
      packet = λ e. absurd (cc e);
      packet_end = λ e. absurd (cc e);
      copy = λ e. absurd (cc e);
      ahead = λ e. absurd (cc e);
      test = λ e. let same : pos 2 ≡ by = cc e in subst (P 4) same there;
      load = λ e. absurd (cc e);
      exit = λ e. absurd (cc e);
      answer = λ e. absurd (cc e);
      last = λ e. absurd (cc e);
    }) slot i here jump

falls_in : (slot : ℕ) (i : Insn) → fetch first_byte slot ≡ Some i → falls_through i ≡ true
    → IsSome (fetch first_byte (slot + slots_filled i))
falls_in =
    each (λ f x. falls_through x ≡ true → IsSome (fetch first_byte (f + slots_filled x))) (record {
      packet = λ e. refl;
      packet_end = λ e. refl;
      copy = λ e. refl;
      ahead = λ e. refl;
      test = λ e. refl;
      load = λ e. refl;
      exit = λ e. absurd (cc e);
      answer = λ e. refl;
      last = λ e. absurd (cc e);
    })

to_test : PathTo first_byte 4 4 (R4 ∷ R4 ∷ R3 ∷ R2 ∷ [])
unfolding PathTo
to_test =
    let to_end : PathTo first_byte 1 1
    (R2 ∷ []) = (0, [], _, (refl, refl), refl, inl (refl, refl), refl) in
    let to_copy : PathTo first_byte 2 2
    (R3 ∷ R2 ∷ []) = (1, _, _, to_end, refl, inl (refl, refl), refl) in
    let to_ahead : PathTo first_byte 3 3
    (R4 ∷ R3 ∷ R2 ∷ []) = (2, _, _, to_copy, refl, inl (refl, refl), refl) in
    (3, _, _, to_ahead, refl, inl (refl, refl), refl)

reach : (slot : ℕ) → IsSome (fetch first_byte slot)
    → (n : ℕ) × (written : List Reg) × PathTo first_byte n slot written
unfolding PathTo to_test
reach zero begins = (0, [], (refl, refl))
reach (suc zero) begins = (1, R2 ∷ [], (0, [], _, (refl, refl), refl, inl (refl, refl), refl))
reach (suc (suc zero)) begins = (2, R3 ∷ R2 ∷ [], to_test.3.3)
reach (suc (suc (suc zero))) begins = (3, R4 ∷ R3 ∷ R2 ∷ [], to_test.3)
reach (suc (suc (suc (suc zero)))) begins = (4, R4 ∷ R4 ∷ R3 ∷ R2 ∷ [], to_test)
reach (suc (suc (suc (suc (suc zero))))) begins =
    (5, R4 ∷ R4 ∷ R3 ∷ R2 ∷ [], (4, _, to_answer, to_test, refl, inl (refl, refl), refl))
reach (suc (suc (suc (suc (suc (suc zero)))))) begins = (
  6,
  R0 ∷ R4 ∷ R4 ∷ R3 ∷ R2
      ∷ [],
  (
    5,
    _,
    _,
    (4, _, to_answer, to_test, refl, inl (refl, refl), refl),
    refl,
    inl
        (refl, refl),
    refl,
  ),
)
reach (suc (suc (suc (suc (suc (suc (suc zero))))))) begins =
    (5, R4 ∷ R4 ∷ R3 ∷ R2 ∷ [], (4, _, to_answer, to_test, refl, inr (pos 2, refl, refl), refl))
reach (suc (suc (suc (suc (suc (suc (suc (suc zero)))))))) begins = (
  6,
  R0 ∷ R4 ∷ R4 ∷ R3 ∷ R2
      ∷ [],
  (
    7,
    _,
    _,
    (4, _, to_answer, to_test, refl, inr (pos 2, refl, refl), refl),
    refl,
    inl
        (refl, refl),
    refl,
  ),
)
reach (suc (suc (suc (suc (suc (suc (suc (suc (suc slot))))))))) begins = absurd (cc)

whole : IsWhole first_byte
whole = record {
  jumps =
      λ slot i by here jump. only_jump
      (λ f z. IsSome (fetch first_byte (destination first_byte f z))) refl slot i by here jump;
  falls = falls_in;
  reached = reach;
}

-- ---- registers

-- what was written on each path to a slot
abbrev sure : ℕ → List Reg
sure (suc zero) = R2 ∷ []
sure (suc (suc zero)) = R2 ∷ R3 ∷ []
sure (suc (suc (suc zero))) = R2 ∷ R3 ∷ R4 ∷ []
sure (suc (suc (suc (suc zero)))) = R2 ∷ R3 ∷ R4 ∷ []
sure (suc (suc (suc (suc (suc zero))))) = R2 ∷ []
sure (suc (suc (suc (suc (suc (suc zero)))))) = R0 ∷ []
sure (suc (suc (suc (suc (suc (suc (suc (suc zero)))))))) = R0 ∷ []
sure slot = []

abbrev AreSure : List Reg → ℕ → Type 0
AreSure written slot = Each (IsOneOf written) (sure slot)

leads_to : (written : List Reg) (slot next f : ℕ) (i : Insn) → jump_distance i ≡ None
    → f + slots_filled i ≡ next → AreSure written next → FallsTo f i slot
    ⊎ JumpsTo first_byte f i slot
    → AreSure written slot
leads_to written slot next f i straight at known (inl falls) =
    subst (AreSure written) (sym (falls.1 ∙ at)) known
leads_to written slot next f i straight at known (inr jump) =
    let distance = jump.1 in absurd (cc (distance, straight))

leads_nowhere : (written : List Reg) (slot f : ℕ)
    → FallsTo f Exit slot ⊎ JumpsTo first_byte f Exit slot
    → AreSure written slot
leads_nowhere written slot f (inl falls) = absurd (cc (falls.0))
leads_nowhere written slot f (inr jump) = absurd (cc (jump.1))

tests : (written : List Reg) (slot : ℕ) → IsOneOf written R2
    → FallsTo 4 to_answer slot ⊎ JumpsTo first_byte 4 to_answer slot → AreSure written slot
tests written slot known (inl falls) = subst (AreSure written) (sym falls.1) (known, tt)
tests written slot known (inr jump) =
    let same : pos 2 ≡ jump.0 = cc (jump.1) in
    let there : slot ≡ 7 = jump.2 ∙ ap (destination first_byte 4) (sym same) in
    subst (AreSure written) (sym there) tt

keeps : (before : List Reg) (slot : ℕ) → (f : ℕ) (i : Insn) → fetch first_byte f ≡ Some i
    → AreSure before f → FallsTo f i slot ⊎ JumpsTo first_byte f i slot
    → AreSure (written_too (writes i) before) slot
keeps before slot =
    each (λ f x. AreSure before f → FallsTo f x slot ⊎ JumpsTo first_byte f x slot
    → AreSure (written_too (writes x) before) slot) (record {
      packet = λ h on. leads_to (R2 ∷ before) slot 1 0 packet_loaded refl refl (inl refl, tt) on;
      packet_end =
          λ h on. leads_to (R3 ∷ before) slot 2 1 end_loaded refl refl (inr h.0, (inl refl, tt)) on;
      copy =
          λ h on. leads_to (R4 ∷ before) slot 3 2 copied refl refl
          (inr h.0, (inr h.1.0, (inl refl, tt))) on;
      ahead =
          λ h on. leads_to (R4 ∷ before) slot 4 3 moved_on refl refl
          (inr h.0, (inr h.1.0, (inl refl, tt))) on;
      test = λ h on. tests before slot h.0 on;
      load = λ h on. leads_to (R0 ∷ before) slot 6 5 byte_loaded refl refl (inl refl, tt) on;
      exit = λ h on. leads_nowhere before slot 6 on;
      answer = λ h on. leads_to (R0 ∷ before) slot 8 7 answer_set refl refl (inl refl, tt) on;
      last = λ h on. leads_nowhere before slot 8 on;
    })

known_at : (n slot : ℕ) (written : List Reg) → PathTo first_byte n slot written
    → AreSure written slot
unfolding PathTo
known_at zero slot written h = subst (AreSure written) (sym h.0) tt
known_at (suc n) slot written (from, before, i, path, here, on, is) =
    subst (λ (rs : List Reg). AreSure rs slot) (sym is)
    (keeps before slot from i here (known_at n from before path) on)

needed : (before : List Reg) → (slot : ℕ) (i : Insn) → fetch first_byte slot ≡ Some i
    → AreSure before slot → Each (IsOneOf (R1 ∷ before)) (needs i)
needed before = each (λ f x. AreSure before f → Each (IsOneOf (R1 ∷ before)) (needs x)) (record {
  packet = λ h. (inl refl, tt);
  packet_end = λ h. (inl refl, tt);
  copy = λ h. (inr h.0, tt);
  ahead = λ h. (inr h.1.1.0, tt);
  test = λ h. (inr h.1.1.0, (inr h.1.0, tt));
  load = λ h. (inr h.0, tt);
  exit = λ h. (inr h.0, tt);
  answer = λ h. tt;
  last = λ h. (inr h.0, tt);
})

in_body : (slot : ℕ) (i : Insn) → fetch first_byte slot ≡ Some i → 5 ≤ slot → slot < 7
    → IsBodyForm 1 i
in_body = each (λ f x. 5 ≤ f → f < 7 → IsBodyForm 1 x) (record {
  packet = λ a b. absurd (omega (arith, a));
  packet_end = λ a b. absurd (omega (arith, a));
  copy = λ a b. absurd (omega (arith, a));
  ahead = λ a b. absurd (omega (arith, a));
  test = λ a b. absurd (omega (arith, a));
  load = λ a b. (tt, refl, (0, refl, omega arith));
  exit = λ a b. tt;
  answer = λ a b. absurd (omega (arith, b));
  last = λ a b. absurd (omega (arith, b));
})

pub first_byte_is_guarded : IsGuarded first_byte 1
first_byte_is_guarded = record {
  some = omega arith;
  most = omega arith;
  packet = refl;
  packet_end = refl;
  copy = refl;
  ahead = refl;
  by = pos 2;
  test = refl;
  tail = 7;
  behind = omega arith;
  to_tail = refl;
  answer = pos 2;
  answers = refl;
  exits = refl;
  ends = refl;
  body = λ slot i behind before here. in_body slot i here behind before;
  whole = whole;
  forward = record {
    forward =
        λ slot i by here jump. only_jump (λ f z. f < destination first_byte f z)
        (omega arith) slot i by here jump;
    few = omega arith;
  };
  written = λ n slot before i path here. needed before slot i here (known_at n slot before path);
}
