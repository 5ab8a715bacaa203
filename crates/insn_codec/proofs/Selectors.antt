-- What a selector names, and that the fields which a form does not use are zero.
use Rattle.insn_codec.proofs.Common.{◌≡◌, ℕ, Bool, true, false, cond, Option, Some, None, Result, Ok, refl, sym, subst, inl, inr, ◌==◌, ◌||◌, ◌⊎◌, and_parts, eqb-true, Reg, R0, Width, AluOp, SwapWidth, B16, B32, B64, Extension, Low8, Low16, Full8, Full16, Full32, Insn, reg_number, span_bits, alu_code, alu_offset, alu_class, extension_class, extension_offset, CodecError, AluCode, has_selector, zero_unused, is_r0, op_selected, extension_selected, span_selected, selected}
use Rattle.std.specs.Option.{option_map}
use Rattle.isa_model.specs.declared.sizes.Width.TheVariants.{Low32, Full64}
use Rattle.isa_model.specs.declared.instructions.AluOp.TheVariants as ops
use Rattle.insn_codec.specs.declared.forms.AluCode.TheVariants as codes
use Rattle.insn_codec.specs.declared.forms.Uses.{Uses}
use Rattle.insn_codec.specs.declared.fields.Fields.{Fields}
use Rattle.insn_codec.proofs.Opcodes.{code_bits}

-- ---- tools

-- the two cases of a test
pub chosen : {A : Type 0} (b : Bool) (x y z : A) → cond b x y ≡ z
    → ((b ≡ true) × (x ≡ z)) ⊎ ((b ≡ false) × (y ≡ z))
chosen true x y z e = inl (refl, e)
chosen false x y z e = inr (refl, e)

abbrev pub done : Insn → Result Insn CodecError
done i = Ok i

pub ok_is : (i j : Insn) → done i ≡ done j → i ≡ j
ok_is i j e = cc

some_is : {A : Type 0} (x y : A) → Some x ≡ Some y → x ≡ y
some_is x y e = cc

pub selected_ok : {A : Type 0} (g : A → Insn) (o : Option A) (i : Insn)
    → selected (option_map g o) ≡ Ok i → (x : A) × (o ≡ Some x) × (g x ≡ i)
selected_ok g (Some x) i e = (x, refl, ok_is _ _ e)
selected_ok g None i e = absurd cc

pub r0_is : (r : Reg) → is_r0 r ≡ true → reg_number r ≡ 0
r0_is R0 e = refl
r0_is r e = absurd cc

abbrev pub fields : Reg → Reg → ℕ → ℕ → Fields
fields d r o k = record { dst = d; src = r; offset = o; imm = k }

-- the unused fields are zero
pub record Zeroes (u : Uses) (d r : Reg) (o k : ℕ) : Type 0 where
  pub dst : (u.dst || is_r0 d) ≡ true
  pub src : (u.src || is_r0 r) ≡ true
  pub offset : (u.offset || o == 0) ≡ true
  pub imm : (u.imm || k == 0) ≡ true

pub zeroes : (u : Uses) (d r : Reg) (o k : ℕ) → zero_unused u (fields d r o k) ≡ true
    → Zeroes u d r o k
zeroes u d r o k e =
    let p = and_parts _ _ e in
    let q = and_parts _ _ p.0 in
    let s = and_parts _ _ q.0 in
    record { dst = s.0; src = s.1; offset = q.1; imm = p.1 }

-- ---- selectors

abbrev OpIs : AluCode → ℕ → AluOp → Type 0
OpIs c o op = (alu_code op ≡ code_bits c) × (alu_offset op ≡ o)

pub op_is : (c : AluCode) (o : ℕ) (op : AluOp) → op_selected c o ≡ Some op
    → (has_selector c || o == 0) ≡ true → OpIs c o op
op_is codes.Div o op e z =
    elim (chosen (o == 0) (Some ops.Div) _ _ e) [
      | inl p ↦ subst (OpIs codes.Div o) (some_is _ _ p.1) (refl, sym (eqb-true o 0 p.0))
      | inr p ↦ elim (chosen (o == 1) (Some ops.SignedDiv) _ _ p.1) [
        | inl q ↦ subst (OpIs codes.Div o) (some_is _ _ q.1) (refl, sym (eqb-true o 1 q.0))
        | inr q ↦ absurd cc
      ]
    ]
op_is codes.Mod o op e z =
    elim (chosen (o == 0) (Some ops.Mod) _ _ e) [
      | inl p ↦ subst (OpIs codes.Mod o) (some_is _ _ p.1) (refl, sym (eqb-true o 0 p.0))
      | inr p ↦ elim (chosen (o == 1) (Some ops.SignedMod) _ _ p.1) [
        | inl q ↦ subst (OpIs codes.Mod o) (some_is _ _ q.1) (refl, sym (eqb-true o 1 q.0))
        | inr q ↦ absurd cc
      ]
    ]
op_is codes.Add o op e z = subst (OpIs codes.Add o) (some_is _ _ e) (refl, sym (eqb-true o 0 z))
op_is codes.Sub o op e z = subst (OpIs codes.Sub o) (some_is _ _ e) (refl, sym (eqb-true o 0 z))
op_is codes.Mul o op e z = subst (OpIs codes.Mul o) (some_is _ _ e) (refl, sym (eqb-true o 0 z))
op_is codes.Or o op e z = subst (OpIs codes.Or o) (some_is _ _ e) (refl, sym (eqb-true o 0 z))
op_is codes.And o op e z = subst (OpIs codes.And o) (some_is _ _ e) (refl, sym (eqb-true o 0 z))
op_is codes.Lsh o op e z = subst (OpIs codes.Lsh o) (some_is _ _ e) (refl, sym (eqb-true o 0 z))
op_is codes.Rsh o op e z = subst (OpIs codes.Rsh o) (some_is _ _ e) (refl, sym (eqb-true o 0 z))
op_is codes.Xor o op e z = subst (OpIs codes.Xor o) (some_is _ _ e) (refl, sym (eqb-true o 0 z))
op_is codes.Mov o op e z = subst (OpIs codes.Mov o) (some_is _ _ e) (refl, sym (eqb-true o 0 z))
op_is codes.Arsh o op e z = subst (OpIs codes.Arsh o) (some_is _ _ e) (refl, sym (eqb-true o 0 z))

abbrev ExtensionIs : Width → ℕ → Extension → Type 0
ExtensionIs w o x = (extension_class x ≡ alu_class w) × (extension_offset x ≡ o)

pub extension_is : (w : Width) (o : ℕ) (x : Extension) → extension_selected w o ≡ Some x
    → ExtensionIs w o x
extension_is Low32 o x e =
    elim (chosen (o == 8) (Some Low8) _ _ e) [
      | inl p ↦ subst (ExtensionIs Low32 o) (some_is _ _ p.1) (refl, sym (eqb-true o 8 p.0))
      | inr p ↦ elim (chosen (o == 16) (Some Low16) _ _ p.1) [
        | inl q ↦ subst (ExtensionIs Low32 o) (some_is _ _ q.1) (refl, sym (eqb-true o 16 q.0))
        | inr q ↦ absurd cc
      ]
    ]
extension_is Full64 o x e =
    elim (chosen (o == 8) (Some Full8) _ _ e) [
      | inl p ↦ subst (ExtensionIs Full64 o) (some_is _ _ p.1) (refl, sym (eqb-true o 8 p.0))
      | inr p ↦ elim (chosen (o == 16) (Some Full16) _ _ p.1) [
        | inl q ↦ subst (ExtensionIs Full64 o) (some_is _ _ q.1) (refl, sym (eqb-true o 16 q.0))
        | inr q ↦ elim (chosen (o == 32) (Some Full32) _ _ q.1) [
          | inl s ↦ subst (ExtensionIs Full64 o) (some_is _ _ s.1) (refl, sym (eqb-true o 32 s.0))
          | inr s ↦ absurd cc
        ]
      ]
    ]

pub span_is : (k : ℕ) (x : SwapWidth) → span_selected k ≡ Some x → span_bits x ≡ k
span_is k x e =
    elim (chosen (k == 16) (Some B16) _ _ e) [
      | inl p ↦
          subst (λ (s : SwapWidth). span_bits s ≡ k) (some_is _ _ p.1) (sym (eqb-true k 16 p.0))
      | inr p ↦ elim (chosen (k == 32) (Some B32) _ _ p.1) [
        | inl q ↦
            subst (λ (s : SwapWidth). span_bits s ≡ k) (some_is _ _ q.1) (sym (eqb-true k 32 q.0))
        | inr q ↦ elim (chosen (k == 64) (Some B64) _ _ q.1) [
          | inl s ↦
              subst (λ (y : SwapWidth). span_bits y ≡ k) (some_is _ _ s.1) (sym (eqb-true k 64 s.0))
          | inr s ↦ absurd cc
        ]
      ]
    ]
