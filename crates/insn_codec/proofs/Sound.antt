-- Decoding is sound: an instruction is spelled by the bytes that it was decoded from.
use Rattle.insn_codec.proofs.Common.{◌≡◌, ℕ, ◌+◌, ◌*◌, ◌/◌, ◌%◌, ◌^◌, ◌<◌, ◌≤◌, cond, true, false, List, [], ◌∷◌, ◌++◌, length, take, drop, Option, Some, None, Result, Ok, Err, refl, sym, ap, ◌∙◌, subst, arith, inl, inr, take-add, ◌==◌, nat_lt, not, w16, w32, cast_signed, cast_unsigned, eqb-true, ltb-false, not-false, FitsSigned, little_from-lt, little_number, little_bytes, Reg, R0, R1, R5, R6, Width, Constant, Register, Insn, LoadNumber, LoadMap, LoadMapValue, Alu, MovSx, ByteSwap, Atomic, Exchange, CompareExchange, Slot, reg_number, reg_numbered, InsnFits, alu_class, atomic_opcode, first_slot, next_imm, second_bytes, slot, CodecError, AluCode, Form, uses, zero_unused, form_of, with_next, op_selected, extension_selected, span_selected, meaning, slot_meaning, with_form, with_dst, with_src, with_fields, atomic, called_by, moved, swapped, wide_by, next_imm_read, constant_in, place_in}
use Rattle.std.proofs.lemmas.List.{length-drop}
use Rattle.std.proofs.lemmas.Int.{of_z-to_z}
use Rattle.std.proofs.Math.Facts.{sfits_to_z}
use Rattle.isa_model.specs.declared.instructions.AluOp.TheVariants as ops
use Rattle.isa_model.specs.declared.sizes.ByteOrder.{ByteOrder}
use Rattle.isa_model.specs.declared.instructions.AtomicOp.TheVariants as atomics
use Rattle.isa_model.specs.Code.EachByte.{EachByte}
use Rattle.isa_model.proofs.LittleEndianLaws.{EachByte-drop, little_bytes-little_from}
use Rattle.insn_codec.specs.declared.forms.Form.TheVariants as form
use Rattle.insn_codec.proofs.Selectors.{chosen, ok_is, selected_ok, r0_is, zeroes, op_is, extension_is, span_is, done, fields, Zeroes}
use Rattle.insn_codec.proofs.Opcodes.{opcode_of, opcode-form_of, number-reg_numbered}

-- ---- forms

abbrev pub Continues : Option ℕ → List ℕ → Type 0
Continues None rest = Unit {0}
Continues (Some n) rest = take 8 rest ≡ second_bytes (Some n)

-- this slot and the bytes after it spell the instruction, and its numbers are within their types
pub record SpelledBy (s : Slot) (rest : List ℕ) (i : Insn) : Type 0 where
  pub first : first_slot i ≡ s
  pub second : Continues (next_imm i) rest
  pub fits : InsnFits i

-- the fields' numbers are within their widths
record Within (o k : ℕ) (rest : List ℕ) : Type 0 where
  offset : cast_unsigned w16 (cast_signed w16 o) ≡ o
  imm : cast_unsigned w32 (cast_signed w32 k) ≡ k
  small : k < 2 ^ 32
  bytes : EachByte rest
  signed_offset : FitsSigned w16 (cast_signed w16 o)
  constant : FitsSigned w32 (cast_signed w32 k)

within : (o k : ℕ) (rest : List ℕ) → o < 2 ^ 16 → k < 2 ^ 32 → EachByte rest → Within o k rest
within o k rest ho hk hb = record {
  offset = of_z-to_z w16 o ho;
  imm = of_z-to_z w32 k hk;
  small = hk;
  bytes = hb;
  signed_offset = sfits_to_z (record { fits = ho });
  constant = sfits_to_z (record { fits = hk });
}

abbrev By : ℕ → Reg → Reg → ℕ → ℕ → List ℕ → Insn → Type 0
By c d r o k rest i = SpelledBy (slot c (reg_number d) (reg_number r) o k) rest i

pub slot_is : {c c' a a' b b' o o' k k' : ℕ} → c ≡ c' → a ≡ a' → b ≡ b' → o ≡ o' → k ≡ k'
    → slot c a b o k ≡ slot c' a' b' o' k'
slot_is h0 h1 h2 h3 h4 = rw (h0, h1, h2, h3, h4) refl

-- an instruction whose first slot has these fields is spelled by them and what follows
one : (c : ℕ) (d r : Reg) (o k : ℕ) (rest : List ℕ) (x i : Insn)
    → first_slot x ≡ slot c (reg_number d) (reg_number r) o k
    → Continues (next_imm x) rest → InsnFits x → x ≡ i → By c d r o k rest i
one c d r o k rest x i first second fits e =
    subst (By c d r o k rest) e (record { first = first; second = second; fits = fits })

alu_constant : (w : Width) (c : AluCode) (d r : Reg) (o k : ℕ) (rest : List ℕ) (i : Insn)
    → Within o k rest
    → Zeroes (uses (form.AluConstant w c)) d r o k
    → meaning (form.AluConstant w c) (fields d r o k) rest ≡ Ok i
    → By (opcode_of (form.AluConstant w c)) d r o k rest i
alu_constant w c d r o k rest i h z e =
    let s = selected_ok (λ op. Alu w op d (Constant (constant_in (fields d r o k))))
    (op_selected c o) i e in
    let q = op_is c o s.0 s.1 z.offset in
    one _ d r o k rest _ i
    (slot_is (ap (λ n. n + 0x00 + alu_class w) q.0) refl
    (sym (r0_is r z.src)) q.1 h.imm)
    tt h.constant s.2

alu_register : (w : Width) (c : AluCode) (d r : Reg) (o k : ℕ) (rest : List ℕ) (i : Insn)
    → Within o k rest
    → Zeroes (uses (form.AluRegister w c)) d r o k
    → meaning (form.AluRegister w c) (fields d r o k) rest ≡ Ok i
    → By (opcode_of (form.AluRegister w c)) d r o k rest i
alu_register w c d r o k rest i h z e =
    let s = selected_ok (λ op. Alu w op d (Register r)) (op_selected c o) i e in
    let q = op_is c o s.0 s.1 z.offset in
    one _ d r o k rest _ i
    (slot_is (ap (λ n. n + 0x08 + alu_class w) q.0) refl refl q.1
    (sym (eqb-true k 0 z.imm)))
    tt tt s.2

mov_register : (w : Width) (d r : Reg) (o k : ℕ) (rest : List ℕ) (i : Insn)
    → Zeroes (uses (form.MovRegister w)) d r o k → moved w (fields d r o k) ≡ Ok i
    → By (opcode_of (form.MovRegister w)) d r o k rest i
mov_register w d r o k rest i z e =
    elim (chosen (o == 0) (done (Alu w ops.Mov d (Register r))) _ _ e) [
      | inl p ↦
          one _ d r o k rest _ i
          (slot_is refl refl refl (sym (eqb-true o 0 p.0))
          (sym (eqb-true k 0 z.imm)))
          tt tt (ok_is _ _ p.1)
      | inr p ↦
          let s = selected_ok (λ x. MovSx x d r) (extension_selected w o) i p.1 in
          let q = extension_is w o s.0 s.1 in
          one _ d r o k rest _ i
          (slot_is (ap (λ n. 0xb8 + n) q.0) refl refl q.1
          (sym (eqb-true k 0 z.imm)))
          tt tt s.2
    ]

byte_swap : (order : ByteOrder) (d r : Reg) (o k : ℕ) (rest : List ℕ) (i : Insn)
    → Zeroes (uses (form.ByteSwap order)) d r o k → swapped order (fields d r o k) ≡ Ok i
    → By (opcode_of (form.ByteSwap order)) d r o k rest i
byte_swap order d r o k rest i z e =
    let s = selected_ok (λ span. ByteSwap order span d) (span_selected k) i e in
    one _ d r o k rest _ i
    (slot_is refl refl (sym (r0_is r z.src)) (sym (eqb-true o 0 z.offset))
    (span_is k s.0 s.1))
    tt tt s.2

call : (d r : Reg) (o k : ℕ) (rest : List ℕ) (i : Insn) → Within o k rest
    → Zeroes (uses form.Call) d r o k
    → called_by r (fields d r o k) ≡ Ok i → By 0x85 d r o k rest i
call d R0 o k rest i h z e =
    one _ d R0 o k rest _ i
    (slot_is refl (sym (r0_is d z.dst)) refl
    (sym (eqb-true o 0 z.offset)) h.imm)
    tt h.constant (ok_is _ _ e)
call d R1 o k rest i h z e =
    one _ d R1 o k rest _ i
    (slot_is refl (sym (r0_is d z.dst)) refl
    (sym (eqb-true o 0 z.offset)) h.imm)
    tt h.constant (ok_is _ _ e)
call d r o k rest i h z e = absurd cc

atomic_at : (w : Width) (d r : Reg) (o k : ℕ) (rest : List ℕ) (i : Insn) → Within o k rest
    → atomic w (fields d r o k) ≡ Ok i → By (atomic_opcode w) d r o k rest i
atomic_at w d r o k rest i h e =
    let at = place_in (fields d r o k) d in
    let fit = h.signed_offset in
    case 0xe1 (Exchange w at r) _ (same 0xe1) refl fit e (λ e.
    case 0xf1 (CompareExchange w at r) _ (same 0xf1) refl fit e (λ e.
    case 0x00 (Atomic w atomics.Add false at r) _ (same 0x00) refl fit e (λ e.
    case 0x01 (Atomic w atomics.Add true at r) _ (same 0x01) refl fit e (λ e.
    case 0x40 (Atomic w atomics.Or false at r) _ (same 0x40) refl fit e (λ e.
    case 0x41 (Atomic w atomics.Or true at r) _ (same 0x41) refl fit e (λ e.
    case 0x50 (Atomic w atomics.And false at r) _ (same 0x50) refl fit e (λ e.
    case 0x51 (Atomic w atomics.And true at r) _ (same 0x51) refl fit e (λ e.
    case 0xa0 (Atomic w atomics.Xor false at r) _ (same 0xa0) refl fit e (λ e.
    case 0xa1 (Atomic w atomics.Xor true at r) _ (same 0xa1) refl fit e (λ e.
    absurd cc))))))))))
  where
    same : (n : ℕ)
        → slot (atomic_opcode w) (reg_number d) (reg_number r)
        (cast_unsigned w16 (cast_signed w16 o)) n
        ≡ slot (atomic_opcode w) (reg_number d) (reg_number r) o n
    same n = rw h.offset refl

    -- one number in imm, or a later one
    case : (n : ℕ) (x : Insn) (later : Result Insn CodecError)
        → first_slot x ≡ slot (atomic_opcode w) (reg_number d) (reg_number r) o n
        → next_imm x ≡ None → InsnFits x → cond (k == n) (done x) later ≡ Ok i
        → (later ≡ Ok i → By (atomic_opcode w) d r o k rest i)
        → By (atomic_opcode w) d r o k rest i
    case n x later first none fits e other =
        elim (chosen (k == n) (done x) later _ e) [
          | inl p ↦
              let is = sym (eqb-true k n p.0) in
              one _ d r o k rest x i
              (first ∙ ap (λ j. slot (atomic_opcode w) (reg_number d) (reg_number r) o j) is)
              (rw none tt) fits (ok_is _ _ p.1)
          | inr p ↦ other p.1
        ]

-- the eight bytes of a second slot whose reserved bits are zero
second : (rest : List ℕ) → EachByte rest → 8 ≤ length rest → little_number 4 rest ≡ 0
    → take 8 rest ≡ second_bytes (Some (little_number 4 (drop 4 rest)))
second rest small long zeros =
    let front : little_bytes 4 (little_number 4 rest) ≡ take 4 rest =
    little_bytes-little_from 4 0 rest small (omega arith) in
    let back : little_bytes 4 (little_number 4 (drop 4 rest)) ≡ take 4 (drop 4 rest) =
    little_bytes-little_from 4 0 (drop 4 rest) (EachByte-drop 4 rest small)
    (omega (arith, length-drop 4 rest)) in
    let zero : take 4 rest ≡ 0 ∷ 0 ∷ 0 ∷ 0 ∷ [] = sym front ∙ ap (little_bytes 4) zeros in
    take-add 4 4 rest ∙ ap (λ l. l ++ take 4 (drop 4 rest)) zero
    ∙ ap (λ l. 0 ∷ 0 ∷ 0 ∷ 0 ∷ l) (sym back)

-- a second slot that was read: its bytes, and that next_imm has 32 bits
record Second (rest : List ℕ) (next : ℕ) : Type 0 where
  bytes : take 8 rest ≡ second_bytes (Some next)
  small : next < 2 ^ 32

abbrev next_is : ℕ → Result ℕ CodecError
next_is n = Ok n

same_next : (m n : ℕ) → next_is m ≡ next_is n → m ≡ n
same_next m n e = cc

second_read : (rest : List ℕ) (next : ℕ) → EachByte rest → next_imm_read rest ≡ Ok next
    → Second rest next
second_read rest next small e =
    elim (chosen (nat_lt (length rest) 8) _ _ _ e) [
      | inl p ↦ absurd cc
      | inr p ↦ elim (chosen (not (little_number 4 rest == 0)) _ _ _ p.1) [
        | inl q ↦ absurd cc
        | inr q ↦ subst (Second rest) (same_next _ _ q.1) (record {
          bytes = second rest small (ltb-false _ _ p.0) (eqb-true _ 0 (not-false _ q.0));
          small = little_from-lt 0 4 (drop 4 rest) (EachByte-drop 4 rest small);
        })
      ]
    ]

next_ok : (r : Result ℕ CodecError) (f : ℕ → Result Insn CodecError) (i : Insn)
    → with_next r f ≡ Ok i → (n : ℕ) × (r ≡ Ok n) × (f n ≡ Ok i)
next_ok (Ok n) f i e = (n, refl, e)
next_ok (Err d) f i e = absurd cc

wide_is : (d r : Reg) (o k : ℕ) (rest : List ℕ) (i : Insn) → Within o k rest → o ≡ 0
    → wide_by r (fields d r o k) (next_imm_read rest) ≡ Ok i → By 0x18 d r o k rest i
wide_is d R0 o k rest i h ho e =
    let a = next_ok (next_imm_read rest) _ i e in
    let s = second_read rest a.0 h.bytes a.1 in
    let low : (k + a.0 * 2 ^ 32) % 2 ^ 32 ≡ k = omega (arith, h.small) in
    let top : (k + a.0 * 2 ^ 32) / 2 ^ 32 ≡ a.0 = omega (arith, h.small) in
    let fits : k + a.0 * 2 ^ 32 < 2 ^ 64 = omega (arith, h.small, s.small) in
    one _ d R0 o k rest (LoadNumber d (k + a.0 * 2 ^ 32)) i
    (slot_is refl refl refl (sym ho) low)
    (rw top s.bytes) fits (ok_is _ _ a.2)
wide_is d R5 o k rest i h ho e =
    let a = next_ok (next_imm_read rest) _ i e in
    let s = second_read rest a.0 h.bytes a.1 in
    elim (chosen (a.0 == 0) (done (LoadMap d k)) _ _ a.2) [
      | inl p ↦
          one _ d R5 o k rest (LoadMap d k) i
          (slot_is refl refl refl (sym ho) refl)
          (s.bytes ∙ ap (λ (n : ℕ). second_bytes (Some n)) (eqb-true a.0 0 p.0)) h.small
          (ok_is _ _ p.1)
      | inr p ↦ absurd cc
    ]
wide_is d R6 o k rest i h ho e =
    let a = next_ok (next_imm_read rest) _ i e in
    let s = second_read rest a.0 h.bytes a.1 in
    one _ d R6 o k rest (LoadMapValue d k a.0) i
    (slot_is refl refl refl (sym ho) refl)
    s.bytes (h.small, s.small) (ok_is _ _ a.2)
wide_is d r o k rest i h ho e = absurd cc

-- the instruction that a form makes of its fields is spelled by them
meaning-spelled : (f : Form) (d r : Reg) (o k : ℕ) (rest : List ℕ) (i : Insn) → Within o k rest
    → Zeroes (uses f) d r o k
    → meaning f (fields d r o k) rest ≡ Ok i → By (opcode_of f) d r o k rest i
meaning-spelled (form.AluConstant w c) d r o k rest i h z e = alu_constant w c d r o k rest i h z e
meaning-spelled (form.AluRegister w c) d r o k rest i h z e = alu_register w c d r o k rest i h z e
meaning-spelled (form.MovRegister w) d r o k rest i h z e = mov_register w d r o k rest i z e
meaning-spelled (form.ByteSwap order) d r o k rest i h z e = byte_swap order d r o k rest i z e
meaning-spelled (form.Atomic w) d r o k rest i h z e = atomic_at w d r o k rest i h e
meaning-spelled form.WideLoad d r o k rest i h z e =
    wide_is d r o k rest i h (eqb-true o 0 z.offset) e
meaning-spelled form.Call d r o k rest i h z e = call d r o k rest i h z e
meaning-spelled (form.Negate w) d r o k rest i h z e =
    one _ d r o k rest _ i
    (slot_is refl refl (sym (r0_is r z.src)) (sym (eqb-true o 0 z.offset))
    (sym (eqb-true k 0 z.imm)))
    tt tt (ok_is _ _ e)
meaning-spelled (form.Load size) d r o k rest i h z e =
    one _ d r o k rest _ i
    (slot_is refl refl refl h.offset (sym (eqb-true k 0 z.imm)))
    tt h.signed_offset (ok_is _ _ e)
meaning-spelled (form.LoadSx size) d r o k rest i h z e =
    one _ d r o k rest _ i
    (slot_is refl refl refl h.offset (sym (eqb-true k 0 z.imm)))
    tt h.signed_offset (ok_is _ _ e)
meaning-spelled (form.StoreConstant size) d r o k rest i h z e =
    one _ d r o k rest _ i
    (slot_is refl refl (sym (r0_is r z.src)) h.offset h.imm)
    tt (h.signed_offset, h.constant) (ok_is _ _ e)
meaning-spelled (form.Store size) d r o k rest i h z e =
    one _ d r o k rest _ i
    (slot_is refl refl refl h.offset (sym (eqb-true k 0 z.imm)))
    tt h.signed_offset (ok_is _ _ e)
meaning-spelled form.Jump d r o k rest i h z e =
    one _ d r o k rest _ i
    (slot_is refl (sym (r0_is d z.dst)) (sym (r0_is r z.src)) h.offset
    (sym (eqb-true k 0 z.imm)))
    tt h.signed_offset (ok_is _ _ e)
meaning-spelled form.JumpLong d r o k rest i h z e =
    one _ d r o k rest _ i
    (slot_is refl (sym (r0_is d z.dst)) (sym (r0_is r z.src))
    (sym (eqb-true o 0 z.offset)) h.imm)
    tt h.constant (ok_is _ _ e)
meaning-spelled (form.JumpIfConstant w c) d r o k rest i h z e =
    one _ d r o k rest _ i
    (slot_is refl refl (sym (r0_is r z.src)) h.offset h.imm)
    tt (h.constant, h.signed_offset) (ok_is _ _ e)
meaning-spelled (form.JumpIfRegister w c) d r o k rest i h z e =
    one _ d r o k rest _ i
    (slot_is refl refl refl h.offset (sym (eqb-true k 0 z.imm)))
    tt (tt, h.signed_offset) (ok_is _ _ e)
meaning-spelled form.Exit d r o k rest i h z e =
    one _ d r o k rest _ i
    (slot_is refl (sym (r0_is d z.dst)) (sym (r0_is r z.src))
    (sym (eqb-true o 0 z.offset)) (sym (eqb-true k 0 z.imm)))
    tt tt (ok_is _ _ e)

-- a slot whose fields fit
pub record HasFittingFields (s : Slot) : Type 0 where
  pub opcode : s.opcode < 256
  pub dst : s.dst < 16
  pub src : s.src < 16
  pub offset : s.offset < 2 ^ 16
  pub imm : s.imm < 2 ^ 32

form_some : (f : Option Form) (s : Slot) (rest : List ℕ) (i : Insn) → with_form f s rest ≡ Ok i
    → (x : Form) × (f ≡ Some x) × (with_dst x s (reg_numbered s.dst) rest ≡ Ok i)
form_some None s rest i e = absurd cc
form_some (Some x) s rest i e = (x, refl, e)

dst_some : (f : Form) (s : Slot) (d : Option Reg) (rest : List ℕ) (i : Insn)
    → with_dst f s d rest ≡ Ok i
    → (x : Reg) × (d ≡ Some x) × (with_src f s x (reg_numbered s.src) rest ≡ Ok i)
dst_some f s None rest i e = absurd cc
dst_some f s (Some x) rest i e = (x, refl, e)

src_some : (f : Form) (s : Slot) (d : Reg) (r : Option Reg) (rest : List ℕ) (i : Insn)
    → with_src f s d r rest ≡ Ok i
    → (x : Reg) × (r ≡ Some x) × (with_fields f (fields d x s.offset s.imm) rest ≡ Ok i)
src_some f s d None rest i e = absurd cc
src_some f s d (Some x) rest i e = (x, refl, e)

pub slot_meaning-spelled : (s : Slot) (rest : List ℕ) (i : Insn) → HasFittingFields s
    → EachByte rest → slot_meaning s rest ≡ Ok i → SpelledBy s rest i
unfolding slot_meaning
slot_meaning-spelled s rest i fits small e =
    let a = form_some (form_of s.opcode) s rest i e in
    let b = dst_some a.0 s (reg_numbered s.dst) rest i a.2 in
    let c = src_some a.0 s b.0 (reg_numbered s.src) rest i b.2 in
    elim (chosen (zero_unused (uses a.0) (fields b.0 c.0 s.offset s.imm)) _ _ _ c.2) [
      | inr p ↦ absurd cc
      | inl p ↦
          let m = meaning-spelled a.0 b.0 c.0 s.offset s.imm rest i
          (within _ _ _ fits.offset fits.imm small)
          (zeroes (uses a.0) b.0 c.0 s.offset s.imm p.0) p.1 in
          record {
            first = m.first ∙ slot_is
                (opcode-form_of s.opcode a.0 fits.opcode a.1)
                (number-reg_numbered s.dst b.0 fits.dst b.1)
                (number-reg_numbered s.src c.0 fits.src c.1) refl refl;
            second = m.second;
            fits = m.fits;
          }
    ]
