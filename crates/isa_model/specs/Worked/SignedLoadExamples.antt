-- Worked examples: a guarded program with loads that extend the sign, and a jump between them.
use Rattle.std.specs.Prelude.{◌≡◌, ℕ, ◌<◌, ◌≤◌, ◌&&◌, nat_lt, nat_le, pos, true, Some, [], ◌∷◌, refl}
use Rattle.std.proofs.Common.{arith}
use Rattle.std.proofs.lemmas.Bool.Decides.{nat_tests}
use Rattle.isa_model.specs.declared.versions.Version.TheVariants.{One}
use Rattle.isa_model.specs.declared.registers.Reg.TheVariants.{R0, R1, R2, R3, R4, R5}
use Rattle.isa_model.specs.declared.sizes.Size.TheVariants.{U32}
use Rattle.isa_model.specs.declared.sizes.SignedSize.TheVariants.{S8, S16, S32}
use Rattle.isa_model.specs.declared.instructions.Comparison.TheVariants.{Greater, SignedGreater}
use Rattle.isa_model.specs.declared.instructions.Insn.{Insn}
use Rattle.isa_model.specs.declared.instructions.Insn.TheVariants as insn
use Rattle.isa_model.specs.Code.Instructions.{Program, fetch, slots}
use Rattle.isa_model.specs.MustAccept.Guarded.{IsBodyForm, IsGuarded}
use Rattle.isa_model.specs.Worked.Examples.{set, copy, add, above, if_register}
use Rattle.isa_model.specs.Worked.WorkedLaws.{Where, of_where, of_each, ahead, IsWhole-tested, AreWritten-tested}

-- the last four bytes of 14, the last one, and the first two
abbrev pub four_bytes_loaded : Insn
four_bytes_loaded = insn.LoadSx S32 R5 (above R2 10)

abbrev pub byte_loaded : Insn
byte_loaded = insn.LoadSx S8 R0 (above R2 13)

abbrev pub two_bytes_loaded : Insn
two_bytes_loaded = insn.LoadSx S16 R0 (above R2 0)

four_bytes_in_body : IsBodyForm 14 four_bytes_loaded
four_bytes_in_body = (tt, refl, (10, refl, omega arith))

byte_in_body : IsBodyForm 14 byte_loaded
byte_in_body = (tt, refl, (13, refl, omega arith))

two_bytes_in_body : IsBodyForm 14 two_bytes_loaded
two_bytes_in_body = (tt, refl, (0, refl, omega arith))

-- r2 = *(u32 *)(r1 + 0); r3 = *(u32 *)(r1 + 4); r4 = r2; r4 += 14; if r4 > r3 goto +5;
-- r5 = *(s32 *)(r2 + 10); r0 = *(s8 *)(r2 + 13); if r0 s> r5 goto +1; r0 = *(s16 *)(r2 + 0); exit;
-- r0 = 1; exit
abbrev pub signed_loads : Program
signed_loads = record {
  insns =
      slots (insn.Load U32 R2 (above R1 0) ∷ insn.Load U32 R3 (above R1 4) ∷ copy R4 R2
      ∷ add R4 (pos 14) ∷ if_register Greater R4 R3 (pos 5)
      ∷ four_bytes_loaded ∷ byte_loaded ∷ if_register SignedGreater R0 R5 (pos 1) ∷ two_bytes_loaded
      ∷ insn.Exit
      ∷ set R0 (pos 1) ∷ insn.Exit ∷ []);
  maps = [];
  version = One;
}

-- the body of the program: the instructions of the slots from 5 to 9
in_body : (slot : ℕ) (i : Insn) → fetch signed_loads slot ≡ Some i
    → Where (nat_le 5 slot && nat_lt slot 10) (IsBodyForm 14 i)
in_body = of_each signed_loads
    (λ slot i. Where (nat_le 5 slot && nat_lt slot 10) (IsBodyForm 14 i)) (
      tt,
      (
        tt,
        (
          tt,
          (
            tt,
            (
              tt,
              (
                four_bytes_in_body,
                (byte_in_body, ((tt, tt), (two_bytes_in_body, (tt, (tt, (tt, tt)))))),
              ),
            ),
          ),
        ),
      ),
    )

between : (slot : ℕ) → 5 ≤ slot → slot < 10 → (nat_le 5 slot && nat_lt slot 10) ≡ true
between slot behind before = grind (arith, nat_tests, behind, before)

pub signed_loads_is_guarded : IsGuarded signed_loads 14
signed_loads_is_guarded = record {
  some = omega arith;
  most = omega arith;
  packet = refl;
  packet_end = refl;
  copy = refl;
  ahead = refl;
  by = pos 5;
  test = refl;
  tail = 10;
  behind = omega arith;
  to_tail = refl;
  answer = pos 1;
  answers = refl;
  exits = refl;
  ends = refl;
  body =
      λ slot i behind before here. of_where (IsBodyForm 14 i) (nat_le 5 slot && nat_lt slot 10)
      (in_body slot i here) (between slot behind before);
  whole =
      IsWhole-tested signed_loads (0 ∷ 0 ∷ 1 ∷ 2 ∷ 3 ∷ 4 ∷ 5 ∷ 6 ∷ 7 ∷ 8 ∷ 4 ∷ 10 ∷ []) refl refl;
  forward = record { forward = ahead signed_loads refl; few = omega arith };
  written = AreWritten-tested signed_loads (R1 ∷ [])
      ([] ∷ (R2 ∷ []) ∷ (R2 ∷ R3 ∷ []) ∷ (R2 ∷ R3 ∷ R4 ∷ []) ∷ (R2 ∷ R3 ∷ R4 ∷ []) ∷ (R2 ∷ [])
      ∷ (R2 ∷ R5 ∷ []) ∷ (R2 ∷ R0 ∷ R5 ∷ []) ∷ (R2 ∷ []) ∷ (R0 ∷ []) ∷ [] ∷ (R0 ∷ []) ∷ [])
      refl refl refl;
}
