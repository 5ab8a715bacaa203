-- Decoding as a whole: what is decoded is spelled by the front of the bytes; a spelling is decoded
-- to its instruction.
use Rattle.insn_codec.proofs.Common.{◌≡◌, ℕ, ◌+◌, ◌*◌, ◌/◌, ◌%◌, ◌^◌, ◌<◌, ◌≤◌, Bool, true, false, cond, ℤ, pos, negsuc, List, [], ◌∷◌, ◌++◌, length, take, drop, Result, Ok, Err, refl, sym, ap, ◌∙◌, arith, inl, inr, take-add, append-nil, drop-drop, take_all, nat_lt, slice_index, IfOk, w16, w32, cast_unsigned, FitsSigned, ltb-false, le-ltb, little_number, little_bytes, little_number-reads_back, little_from-lt, Reg, R0, Insn, Alu, Neg, MovSx, ByteSwap, LoadNumber, LoadMap, LoadMapValue, Load, LoadSx, StoreConstant, Store, Atomic, Exchange, CompareExchange, Jump, JumpLong, JumpIf, CallHelper, CallLocal, Exit, Constant, Register, AluOp, Extension, Low8, SwapWidth, B16, Slot, reg_number, span_bits, first_slot, next_imm, second_bytes, slot_bytes, spelling_of, alu_offset, extension_offset, atomic_code, fetch_bit, InsnFits, OperandFits, operand_imm, CodecError, slot_at, slot_meaning, decoded, sized}
use Rattle.std.proofs.lemmas.List.{length-drop, length-take}
use Rattle.isa_model.specs.declared.instructions.Operand.{Operand}
use Rattle.isa_model.specs.declared.instructions.AluOp.TheVariants.{SignedDiv}
use Rattle.isa_model.specs.declared.instructions.AtomicOp.{AtomicOp}
use Rattle.isa_model.specs.declared.instructions.AtomicOp.TheVariants as atomics
use Rattle.isa_model.specs.Code.Instructions.{slots_filled}
use Rattle.isa_model.specs.Code.EachByte.{EachByte}
use Rattle.isa_model.proofs.LittleEndianLaws.{EachByte-drop, EachByte-take, little_bytes-little_from}
use Rattle.insn_codec.specs.declared.errors.CodecError.TheVariants.{Short}
use Rattle.insn_codec.proofs.Selectors.{chosen}
use Rattle.insn_codec.proofs.Sound.{slot_is, Continues, HasFittingFields, SpelledBy, slot_meaning-spelled}
use Rattle.insn_codec.proofs.Again.{slot_meaning-first_slot}

two_heads : (xs : List ℕ) → 2 ≤ length xs → take 2 xs ≡ slice_index xs 0 ∷ slice_index xs 1 ∷ []
two_heads [] h = absurd (omega arith)
two_heads (x ∷ []) h = absurd (omega arith)
two_heads (x ∷ y ∷ xs) h = refl

-- the fields of 8 bytes spell them
bytes-slot_at : (xs : List ℕ) → EachByte xs → 8 ≤ length xs → slot_bytes (slot_at xs) ≡ take 8 xs
bytes-slot_at xs small long =
    let byte : slice_index xs 1 % 16 + 16 * (slice_index xs 1 / 16) ≡ slice_index xs 1 =
    omega arith in
    let two : little_bytes 2 (little_number 2 (drop 2 xs)) ≡ take 2 (drop 2 xs) =
    little_bytes-little_from 2 0 (drop 2 xs) (EachByte-drop 2 xs small)
    (omega (arith, length-drop 2 xs)) in
    let four : little_bytes 4 (little_number 4 (drop 4 xs)) ≡ take 4 (drop 4 xs) =
    little_bytes-little_from 4 0 (drop 4 xs) (EachByte-drop 4 xs small)
    (omega (arith, length-drop 4 xs)) in
    let six : take 6 (drop 2 xs) ≡ take 2 (drop 2 xs) ++ take 4 (drop 4 xs) =
    take-add 2 4 (drop 2 xs) ∙ ap (λ l. take 2 (drop 2 xs) ++ take 4 l) (drop-drop 2 2 xs) in
    let heads : take 2 xs ≡ slice_index xs 0 ∷ slice_index xs 1 ∷ [] = two_heads xs (omega arith) in
    ap (λ n. slice_index xs 0 ∷ n
    ∷ (little_bytes 2 (little_number 2 (drop 2 xs))
    ++ little_bytes 4 (little_number 4 (drop 4 xs)))) byte
    ∙ ap (λ l. slice_index xs 0 ∷ slice_index xs 1
    ∷ (l ++ little_bytes 4 (little_number 4 (drop 4 xs)))) two
    ∙ ap (λ l. slice_index xs 0 ∷ slice_index xs 1 ∷ (take 2 (drop 2 xs) ++ l)) four
    ∙ ap (λ l. slice_index xs 0 ∷ slice_index xs 1 ∷ l) (sym six)
    ∙ sym (take-add 2 6 xs ∙ ap (λ l. l ++ take 6 (drop 2 xs)) heads)

slot_at-fits : (xs : List ℕ) → EachByte xs → HasFittingFields (slot_at xs)
slot_at-fits xs small = record {
  opcode = small 0;
  dst = omega arith;
  src = omega (arith, small 1);
  offset = little_from-lt 0 2 (drop 2 xs) (EachByte-drop 2 xs small);
  imm = little_from-lt 0 4 (drop 4 xs) (EachByte-drop 4 xs small);
}

ends : (i : Insn) (bytes : List ℕ) → Continues (next_imm i) (drop 8 bytes)
    → take (8 * slots_filled i) bytes ≡ take 8 bytes ++ second_bytes (next_imm i)
ends (LoadNumber d n) bytes h = take-add 8 8 bytes ∙ ap (λ l. take 8 bytes ++ l) h
ends (LoadMap d m) bytes h = take-add 8 8 bytes ∙ ap (λ l. take 8 bytes ++ l) h
ends (LoadMapValue d m o) bytes h = take-add 8 8 bytes ∙ ap (λ l. take 8 bytes ++ l) h
ends i bytes h = sym (append-nil (take 8 bytes))

-- what is decoded is spelled by a slot and what follows it
decoded_by : (bytes : List ℕ) (i : Insn) → EachByte bytes → decoded bytes ≡ Ok i
    → (8 ≤ length bytes) × SpelledBy (slot_at (take 8 bytes)) (drop 8 bytes) i
unfolding decoded
decoded_by bytes i small e =
    elim (chosen (nat_lt (length bytes) 8) _ _ _ e) [
      | inl p ↦ absurd cc
      | inr p ↦ (
        ltb-false _ _ p.0,
        slot_meaning-spelled (slot_at (take 8 bytes)) (drop 8 bytes) i
            (slot_at-fits (take 8 bytes) (EachByte-take 8 bytes small))
            (EachByte-drop 8 bytes small) p.1,
      )
    ]

-- what is decoded has numbers of their types
pub decoded-fits : (bytes : List ℕ) (i : Insn) → EachByte bytes → decoded bytes ≡ Ok i → InsnFits i
decoded-fits bytes i small e = (decoded_by bytes i small e).1.fits

-- what is decoded is spelled by a front of the bytes
pub decoded-spelled : (bytes : List ℕ) (i : Insn) → EachByte bytes → decoded bytes ≡ Ok i
    → take (8 * slots_filled i) bytes ≡ spelling_of i
decoded-spelled bytes i small e =
    let m = decoded_by bytes i small e in
    let front = take 8 bytes in
    let front_long : length front ≡ 8 = omega (arith, m.0, length-take 8 bytes) in
    ends i bytes m.1.second
    ∙ ap (λ l. l ++ second_bytes (next_imm i))
    (sym (ap slot_bytes m.1.first ∙ bytes-slot_at front (EachByte-take 8 bytes small) (omega arith)
    ∙ take_all 8 front (omega arith)))

-- ---- and back

below16 : (r : Reg) → reg_number r < 16
below16 R0 = omega arith
below16 r = omega arith

unsigned16 : (z : ℤ) → FitsSigned w16 z → cast_unsigned w16 z < 2 ^ 16
unsigned16 (pos n) h = omega (arith, h.sfits)
unsigned16 (negsuc n) h = omega arith

unsigned32 : (z : ℤ) → FitsSigned w32 z → cast_unsigned w32 z < 2 ^ 32
unsigned32 (pos n) h = omega (arith, h.sfits)
unsigned32 (negsuc n) h = omega arith

record FieldsFit (s : Slot) : Type 0 where
  dst : s.dst < 16
  offset : s.offset < 2 ^ 16
  imm : s.imm < 2 ^ 32

fit : (s : Slot) → s.dst < 16 → s.offset < 2 ^ 16 → s.imm < 2 ^ 32 → FieldsFit s
fit s h0 h1 h2 = record { dst = h0; offset = h1; imm = h2 }

alu_offset-lt : (op : AluOp) → alu_offset op < 2 ^ 16
alu_offset-lt SignedDiv = omega arith
alu_offset-lt op = omega arith

extension-lt : (x : Extension) → extension_offset x < 2 ^ 16
extension-lt Low8 = omega arith
extension-lt x = omega arith

span-lt : (x : SwapWidth) → span_bits x < 2 ^ 32
span-lt B16 = omega arith
span-lt x = omega arith

atomic-lt : (op : AtomicOp) (fetch : Bool) → atomic_code op + fetch_bit fetch < 2 ^ 32
atomic-lt atomics.Add true = omega arith
atomic-lt atomics.Or true = omega arith
atomic-lt atomics.And true = omega arith
atomic-lt atomics.Xor true = omega arith
atomic-lt op fetch = omega arith

operand_imm-lt : (x : Operand) → OperandFits x → operand_imm x < 2 ^ 32
operand_imm-lt (Constant k) h = unsigned32 k h
operand_imm-lt (Register r) h = omega arith

first_slot-fits : (i : Insn) → InsnFits i → FieldsFit (first_slot i)
first_slot-fits (Alu w op d x) h = fit _ (below16 d) (alu_offset-lt op) (operand_imm-lt x h)
first_slot-fits (Neg w d) h = fit _ (below16 d) (omega arith) (omega arith)
first_slot-fits (MovSx x d r) h = fit _ (below16 d) (extension-lt x) (omega arith)
first_slot-fits (ByteSwap order x d) h = fit _ (below16 d) (omega arith) (span-lt x)
first_slot-fits (LoadNumber d n) h = fit _ (below16 d) (omega arith) (omega arith)
first_slot-fits (LoadMap d m) h = fit _ (below16 d) (omega arith) h
first_slot-fits (LoadMapValue d m o) h = fit _ (below16 d) (omega arith) h.0
first_slot-fits (Load size d p) h = fit _ (below16 d) (unsigned16 p.offset h) (omega arith)
first_slot-fits (LoadSx size d p) h = fit _ (below16 d) (unsigned16 p.offset h) (omega arith)
first_slot-fits (StoreConstant size p k) h =
    fit _ (below16 p.base) (unsigned16 p.offset h.0) (unsigned32 k h.1)
first_slot-fits (Store size p s) h = fit _ (below16 p.base) (unsigned16 p.offset h) (omega arith)
first_slot-fits (Atomic w op fetch p s) h =
    fit _ (below16 p.base) (unsigned16 p.offset h) (atomic-lt op fetch)
first_slot-fits (Exchange w p s) h = fit _ (below16 p.base) (unsigned16 p.offset h) (omega arith)
first_slot-fits (CompareExchange w p s) h =
    fit _ (below16 p.base) (unsigned16 p.offset h) (omega arith)
first_slot-fits (Jump by) h = fit _ (omega arith) (unsigned16 by h) (omega arith)
first_slot-fits (JumpLong by) h = fit _ (omega arith) (omega arith) (unsigned32 by h)
first_slot-fits (JumpIf c by) h =
    fit _ (below16 c.register) (unsigned16 by h.1) (operand_imm-lt c.operand h.0)
first_slot-fits (CallHelper n) h = fit _ (omega arith) (omega arith) (unsigned32 n h)
first_slot-fits (CallLocal by) h = fit _ (omega arith) (omega arith) (unsigned32 by h)
first_slot-fits Exit h = fit _ (omega arith) (omega arith) (omega arith)

slot_at-slot_bytes : (s : Slot) → FieldsFit s → slot_at (slot_bytes s) ≡ s
slot_at-slot_bytes s h =
    let d : (s.dst + 16 * s.src) % 16 ≡ s.dst = omega (arith, h.dst) in
    let r : (s.dst + 16 * s.src) / 16 ≡ s.src = omega (arith, h.dst) in
    slot_is refl d r
    (little_number-reads_back 2 s.offset (little_bytes 4 s.imm) h.offset)
    (little_number-reads_back 4 s.imm [] h.imm)

abbrev bad : Result Insn CodecError
bad = Err Short

-- a spelling is decoded to its instruction, whatever follows
pub decoded-spelling_of : (i : Insn) (rest : List ℕ) → InsnFits i
    → decoded (spelling_of i ++ rest) ≡ Ok i
unfolding decoded
decoded-spelling_of i rest h =
    let long : nat_lt (length (spelling_of i ++ rest)) 8 ≡ false = le-ltb _ _ (omega arith) in
    let same : slot_at (slot_bytes (first_slot i)) ≡ first_slot i =
    slot_at-slot_bytes (first_slot i) (first_slot-fits i h) in
    ap (λ (b : Bool). cond b bad
    (slot_meaning (slot_at (slot_bytes (first_slot i))) (second_bytes (next_imm i) ++ rest)))
    long
    ∙ ap (λ (s : Slot). slot_meaning s (second_bytes (next_imm i) ++ rest)) same
    ∙ slot_meaning-first_slot i rest h

pub sized-found : (bytes : List ℕ) (r : Result Insn CodecError) → EachByte bytes → decoded bytes ≡ r
    → IfOk (sized r) (λ f. take f.1 bytes ≡ spelling_of f.0)
sized-found bytes (Ok i) small e = decoded-spelled bytes i small e
sized-found bytes (Err d) small e = tt

pub sized-fits : (bytes : List ℕ) (r : Result Insn CodecError) → EachByte bytes → decoded bytes ≡ r
    → IfOk (sized r) (λ f. InsnFits f.0)
sized-fits bytes (Ok i) small e = decoded-fits bytes i small e
sized-fits bytes (Err d) small e = tt
