-- Lines of canonical text are read as their instructions.
use Rattle.assembler.proofs.Common.{◌≡◌, ℕ, ◌<◌, ◌^◌, List, [], ◌∷◌, ◌++◌, length, refl, ap, ◌∙◌, arith, append_assoc, lit<, ne_eqb, codes, Option, Some, Bool, true, false, ◌==◌, slice_get, ℤ, pos, negsuc, if◌then◌else◌, w16, w32, FitsSigned, digits, signed_decimal, Reg, Width, Full64, Extension, SwapWidth, ByteOrder, AluOp, Operand, Insn, Alu, Neg, MovSx, ByteSwap, LoadNumber, Jump, JumpLong, JumpIf, CallHelper, CallLocal, Exit, OperandFits, reg_text, extension_text, extension_width, span_text, order_text, op_text, comparison_text, operand_text, distance_text, line_of, Token, Named, Number, Signed, map_line, begins_map_line, begins_version_line, version_line, extends, assigns, compares}
use Rattle.isa_model.specs.declared.instructions.Cond.{Cond}
use Rattle.assembler.specs.declared.tokens.Word.TheVariants as word
use Rattle.assembler.specs.declared.tokens.Sign.TheVariants as sign
use Rattle.assembler.proofs.PlainTexts.{◌>>=◌, keep, plain_statement, not-map-line, not-version-line, Parts, with_insn, takes, added, added_row, added_version, read_rest}
use Rattle.assembler.proofs.Digits.{hexadecimal-read}
use Rattle.assembler.proofs.TokenReads.{draft, reg-read, extension-read, swap-read, op-read, comparison-read, negative-read, signed_tokens, constant_tokens, operand_tokens, distance-read, near-read, constant-read, operand-read}
use Rattle.assembler.proofs.FormReads.{alu-form, neg-form, extension-form, swap-form, wide-form, jump-form, long-form, call-form, helper-form, exit-form, condition-form}

-- ---- the end of a line

line_ended : (ts : List Token) (i : Insn) (ps : Parts) (rest : List ℕ) → (length ts == 0) ≡ false
    → plain_statement ts ≡ Some i → takes ps i ≡ true
    → read_rest (10 ∷ rest) 0 (draft ts ps) ≡ read_rest rest 0 (draft [] (with_insn ps i))
line_ended ts i ps rest some h room =
    ap (λ (b : Bool).
    (if b then Some (draft ts ps)
    else if begins_version_line (slice_get ts 0) then added_version ps (version_line ts)
    else if begins_map_line (slice_get ts 0) then added_row ps (map_line ts)
    else added ps (plain_statement ts)) >>= λ t. read_rest rest 0 t) some
    ∙ ap (λ (b : Bool).
    (if b then added_version ps (version_line ts)
    else if begins_map_line (slice_get ts 0) then added_row ps (map_line ts)
    else added ps (plain_statement ts)) >>= λ t. read_rest rest 0 t) (not-version-line ts i h)
    ∙ ap (λ (b : Bool).
    (if b then added_row ps (map_line ts) else added ps (plain_statement ts))
    >>= λ t. read_rest rest 0 t) (not-map-line ts i h)
    ∙ ap (λ (o : Option Insn). added ps o >>= λ t. read_rest rest 0 t) h
    ∙ ap (λ (b : Bool). keep b (draft [] (with_insn ps i)) >>= λ t. read_rest rest 0 t) room

-- a line's end, after the tokens of an instruction
pub end-read : (t : Token) (ts : List Token) (i : Insn) (ps : Parts) (rest : List ℕ)
    → plain_statement (t ∷ ts) ≡ Some i → takes ps i ≡ true
    → read_rest (10 ∷ rest) 0 (draft (t ∷ ts) ps) ≡ read_rest rest 0 (draft [] (with_insn ps i))
end-read t ts i ps rest h room =
    line_ended (t ∷ ts) i ps rest (ne_eqb (length (t ∷ ts)) 0 (λ e. omega (arith, e))) h room

-- the line of the instruction is read as that instruction
abbrev pub ReadsLine : Insn → Parts → List ℕ → Type 0
ReadsLine i ps rest = takes ps i ≡ true
    → read_rest (line_of i ++ rest) 0 (draft [] ps) ≡ read_rest rest 0 (draft [] (with_insn ps i))

abbrev pub reg : Width → Reg → Token
reg w r = Named (word.Register w r)

abbrev pub Bytes : Type 0
Bytes = List ℕ

-- ---- lists put together, with the brackets moved to the right

append3 : (a b c rest : Bytes) → (a ++ b ++ c) ++ rest ≡ a ++ (b ++ (c ++ rest))
append3 a b c rest = simp append_assoc

pub append4 : (a b c d rest : Bytes) → (a ++ b ++ c ++ d) ++ rest ≡ a ++ (b ++ (c ++ (d ++ rest)))
append4 a b c d rest = simp append_assoc

pub append6 : (a b c d e f rest : Bytes)
    → (a ++ b ++ c ++ d ++ e ++ f) ++ rest ≡ a ++ (b ++ (c ++ (d ++ (e ++ (f ++ rest)))))
append6 a b c d e f rest = simp append_assoc

append7 : (a b c d e f g rest : Bytes)
    → (a ++ b ++ c ++ d ++ e ++ f ++ g) ++ rest
    ≡ a ++ (b ++ (c ++ (d ++ (e ++ (f ++ (g ++ rest))))))
append7 a b c d e f g rest = simp append_assoc

pub append9 : (a b c d e f g h i rest : Bytes)
    → (a ++ b ++ c ++ d ++ e ++ f ++ g ++ h ++ i) ++ rest
    ≡ a ++ (b ++ (c ++ (d ++ (e ++ (f ++ (g ++ (h ++ (i ++ rest))))))))
append9 a b c d e f g h i rest = simp append_assoc

-- ---- arithmetic

pub alu-line : (o : AluOp) (w : Width) (d : Reg) (x : Operand) (ps : Parts) (rest : Bytes)
    → OperandFits x → ReadsLine (Alu w o d x) ps rest
unfolding line_of
alu-line o w d x ps rest h room =
    let tail : Bytes = operand_text w x ++ 10 ∷ rest in
    ap (λ bs. read_rest bs 0 (draft [] ps))
    (append6 (reg_text w d) (codes " ") (op_text o) (codes " ") (operand_text w x)
    (codes "\n") rest)
    ∙ reg-read w d 32 (op_text o ++ 32 ∷ tail) [] ps refl
    ∙ op-read o tail (reg w d ∷ []) ps
    ∙ operand-read w x 10 rest (reg w d ∷ Signed (assigns o) ∷ []) ps h (lit< tt) refl
    ∙ end-read (reg w d) (Signed (assigns o) ∷ operand_tokens w x) (Alu w o d x) ps rest
    (alu-form o w d x h) room

pub neg-line : (w : Width) (d : Reg) (ps : Parts) (rest : Bytes) → ReadsLine (Neg w d) ps rest
unfolding line_of
neg-line w d ps rest room =
    ap (λ bs. read_rest bs 0 (draft [] ps))
    (append4 (reg_text w d) (codes " = -") (reg_text w d) (codes "\n") rest)
    ∙ reg-read w d 32 (61 ∷ 32 ∷ 45 ∷ (reg_text w d ++ 10 ∷ rest)) [] ps refl
    ∙ negative-read w d (10 ∷ rest) (reg w d ∷ Signed sign.Assign ∷ []) ps
    ∙ reg-read w d 10 rest (reg w d ∷ Signed sign.Assign ∷ Signed sign.Minus ∷ []) ps refl
    ∙ end-read (reg w d) (Signed sign.Assign ∷ Signed sign.Minus ∷ reg w d ∷ []) (Neg w d) ps rest
    (neg-form w d) room

pub extension-line : (e : Extension) (d s : Reg) (ps : Parts) (rest : Bytes)
    → ReadsLine (MovSx e d s) ps rest
unfolding line_of
extension-line e d s ps rest room =
    let w : Width = extension_width e in
    let size : Token = Named (word.SignExtended (extends e).1) in
    let tail : Bytes = reg_text w s ++ 10 ∷ rest in
    ap (λ bs. read_rest bs 0 (draft [] ps))
    (append6 (reg_text w d) (codes " = (") (extension_text e) (codes ")") (reg_text w s)
    (codes "\n") rest)
    ∙ reg-read w d 32 (61 ∷ 32 ∷ 40 ∷ (extension_text e ++ 41 ∷ tail)) [] ps refl
    ∙ extension-read e tail (reg w d ∷ Signed sign.Assign ∷ Signed sign.Open ∷ []) ps
    ∙ reg-read w s 10 rest
    (reg w d ∷ Signed sign.Assign ∷ Signed sign.Open ∷ size ∷ Signed sign.Close ∷ []) ps refl
    ∙ end-read (reg w d)
    (Signed sign.Assign ∷ Signed sign.Open ∷ size ∷ Signed sign.Close ∷ reg w s ∷ [])
    (MovSx e d s) ps rest (extension-form e d s) room

pub swap-line : (order : ByteOrder) (bits : SwapWidth) (d : Reg) (ps : Parts) (rest : Bytes)
    → ReadsLine (ByteSwap order bits d) ps rest
unfolding line_of
swap-line order bits d ps rest room =
    let tail : Bytes = reg_text Full64 d ++ 10 ∷ rest in
    ap (λ bs. read_rest bs 0 (draft [] ps))
    (append7 (reg_text Full64 d) (codes " = ") (order_text order) (span_text bits) (codes " ")
    (reg_text Full64 d) (codes "\n") rest)
    ∙ reg-read Full64 d 32 (61 ∷ 32 ∷ (order_text order ++ (span_text bits ++ 32 ∷ tail)))
    [] ps refl
    ∙ swap-read order bits tail (reg Full64 d ∷ Signed sign.Assign ∷ []) ps
    ∙ reg-read Full64 d 10 rest
    (reg Full64 d ∷ Signed sign.Assign ∷ Named (word.Swapped order bits) ∷ []) ps refl
    ∙ end-read (reg Full64 d)
    (Signed sign.Assign ∷ Named (word.Swapped order bits) ∷ reg Full64 d ∷ [])
    (ByteSwap order bits d) ps rest (swap-form order bits d) room

pub wide-line : (d : Reg) (n : ℕ) (ps : Parts) (rest : Bytes) → n < 2 ^ 64
    → ReadsLine (LoadNumber d n) ps rest
unfolding line_of
wide-line d n ps rest h room =
    let tail : Bytes = 108 ∷ 108 ∷ 10 ∷ rest in
    ap (λ bs. read_rest bs 0 (draft [] ps))
    (append4 (reg_text Full64 d) (codes " = 0x") (digits 16 false n) (codes " ll\n") rest)
    ∙ reg-read Full64 d 32 (61 ∷ 32 ∷ 48 ∷ 120 ∷ (digits 16 false n ++ 32 ∷ tail)) [] ps refl
    ∙ hexadecimal-read n 32 tail (draft (reg Full64 d ∷ Signed sign.Assign ∷ []) ps) h (lit< tt)
    ∙ end-read (reg Full64 d) (Signed sign.Assign ∷ Number n ∷ Named word.Wide ∷ [])
    (LoadNumber d n) ps rest (wide-form d n h) room

-- ---- jumps

pub jump-line : (by : ℤ) (ps : Parts) (rest : Bytes) → FitsSigned w16 by
    → ReadsLine (Jump by) ps rest
unfolding line_of
jump-line by ps rest h room =
    ap (λ bs. read_rest bs 0 (draft [] ps))
    (append3 (codes "goto ") (distance_text by) (codes "\n") rest)
    ∙ near-read by 10 rest (Named word.Goto ∷ []) ps h (lit< tt)
    ∙ end-read (Named word.Goto) (signed_tokens by) (Jump by) ps rest (jump-form by h) room

pub long-line : (by : ℤ) (ps : Parts) (rest : Bytes) → FitsSigned w32 by
    → ReadsLine (JumpLong by) ps rest
unfolding line_of
long-line by ps rest h room =
    ap (λ bs. read_rest bs 0 (draft [] ps))
    (append3 (codes "gotol ") (distance_text by) (codes "\n") rest)
    ∙ distance-read by 10 rest (Named word.GotoLong ∷ []) ps h (lit< tt)
    ∙ end-read (Named word.GotoLong) (signed_tokens by) (JumpLong by) ps rest (long-form by h) room

-- a sign ends the word pc
pc-read : (by : ℤ) (ps : Parts) (rest : Bytes)
    → read_rest (codes "call pc" ++ (distance_text by ++ rest)) 0 (draft [] ps)
    ≡ read_rest (distance_text by ++ rest) 0 (draft (Named word.Call ∷ Named word.Pc ∷ []) ps)
pc-read (pos n) ps rest = refl
pc-read (negsuc n) ps rest = refl

pub call-line : (by : ℤ) (ps : Parts) (rest : Bytes) → FitsSigned w32 by
    → ReadsLine (CallLocal by) ps rest
unfolding line_of
call-line by ps rest h room =
    ap (λ bs. read_rest bs 0 (draft [] ps))
    (append3 (codes "call pc") (distance_text by) (codes "\n") rest)
    ∙ pc-read by ps (10 ∷ rest)
    ∙ distance-read by 10 rest (Named word.Call ∷ Named word.Pc ∷ []) ps h (lit< tt)
    ∙ end-read (Named word.Call) (Named word.Pc ∷ signed_tokens by) (CallLocal by) ps rest
    (call-form by h) room

pub condition-line : (c : Cond) (by : ℤ) (ps : Parts) (rest : Bytes) → OperandFits c.operand
    → FitsSigned w16 by → ReadsLine (JumpIf c by) ps rest
unfolding line_of
condition-line c by ps rest h g room =
    let w : Width = c.width in
    let first : List Token =
    Named word.If ∷ reg w c.register ∷ Signed (compares c.comparison) ∷ [] in
    let goto : List Token = Named word.Goto ∷ [] in
    let from_distance : Bytes = distance_text by ++ 10 ∷ rest in
    let from_operand : Bytes =
    operand_text w c.operand ++ 32 ∷ 103 ∷ 111 ∷ 116 ∷ 111 ∷ 32 ∷ from_distance in
    ap (λ bs. read_rest bs 0 (draft [] ps))
    (append9 (codes "if ") (reg_text w c.register) (codes " ") (comparison_text c.comparison)
    (codes " ") (operand_text w c.operand) (codes " goto ") (distance_text by)
    (codes "\n") rest)
    ∙ reg-read w c.register 32 (comparison_text c.comparison ++ 32 ∷ from_operand)
    (Named word.If ∷ []) ps refl
    ∙ comparison-read c.comparison from_operand (Named word.If ∷ reg w c.register ∷ []) ps
    ∙ operand-read w c.operand 32 (103 ∷ 111 ∷ 116 ∷ 111 ∷ 32 ∷ from_distance) first ps h
    (lit< tt) refl
    ∙ near-read by 10 rest ((first ++ operand_tokens w c.operand) ++ goto) ps g (lit< tt)
    ∙ ap (λ us. read_rest (10 ∷ rest) 0 (draft (first ++ us) ps))
    (append_assoc (operand_tokens w c.operand) goto (signed_tokens by))
    ∙ end-read (Named word.If)
    (reg w c.register ∷ Signed (compares c.comparison)
    ∷ (operand_tokens w c.operand ++ Named word.Goto ∷ signed_tokens by)) (JumpIf c by) ps rest
    (condition-form w c.comparison c.register c.operand by h g) room

pub helper-line : (k : ℤ) (ps : Parts) (rest : Bytes) → FitsSigned w32 k
    → ReadsLine (CallHelper k) ps rest
unfolding line_of
helper-line k ps rest h room =
    ap (λ bs. read_rest bs 0 (draft [] ps))
    (append3 (codes "call ") (signed_decimal k) (codes "\n") rest)
    ∙ constant-read k 10 rest (Named word.Call ∷ []) ps h (lit< tt)
    ∙ end-read (Named word.Call) (constant_tokens k) (CallHelper k) ps rest (helper-form k h) room

pub exit-line : (ps : Parts) (rest : Bytes) → ReadsLine Exit ps rest
unfolding line_of
exit-line ps rest room = end-read (Named word.Exit) [] Exit ps rest exit-form room
