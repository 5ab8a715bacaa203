-- Statements that begin with a register: the instruction that is read is the one that they spell.
use Rattle.assembler.proofs.Common.{◌≡◌, ℕ, ◌^◌, List, [], ◌∷◌, refl, sym, ap, ◌∙◌, subst, inl, inr, ◌⊎◌, arith, Bool, Option, Some, None, Result, Ok, Err, true, false, if◌then◌else◌, Reg, R0, Width, Low32, Full64, Size, SignedSize, SwapWidth, ByteOrder, AluOp, AtomicOp, Place, Insn, Alu, Neg, MovSx, ByteSwap, LoadNumber, LoadMap, LoadMapValue, Load, LoadSx, Atomic, Exchange, CompareExchange, Word, Sign, Token, Named, Number, Signed, Reading, Wrong, Form, ◌>>=◌, token_at, sign_at, op_of, extension_of, number_at, word_at, expect_at, memory_at, argument_at, again_at, register_at, operand_at, index_at, by_index_at, field_at, as_signed_size, same_register, wide_within, arithmetic, wide_at, wide, negated, extended, load_of, loaded, swapped, exchanged_place, fetched, exchanged, compared, map_loaded, map_value_loaded, moved_word, moved, assigned_by, assigned, assigns, extends, reg, IsSigned, place, memory, Spells}
use Rattle.isa_model.specs.declared.instructions.AluOp.TheVariants as op
use Rattle.assembler.specs.declared.tokens.Word.TheVariants as word
use Rattle.assembler.specs.declared.tokens.Sign.TheVariants as sign
use Rattle.assembler.proofs.SpellsTokens.{bind, At, HasTokensAt, whole, token, sign_at_token, number_at_token, word_at_token, expected, registers, register, again, operand}
use Rattle.assembler.proofs.SpellsParts.{memory_at_tokens, argument_at_tokens, field_at_token, index_at_tokens, by_index_at_tokens, op_in, extension_in, signed_size_in, wide_at_token, wide_number, wide_negative, ends_at}

-- the tokens spell the instruction that was read
abbrev pub SaysSpelled : List Token → Reading → Type 0
SaysSpelled ts r = Spells ts r.insn r.name

-- the same of an instruction without a name
pub says : (ts : List Token) (i : Insn) (r : Reading)
    → (let q : Reading = record { insn = i; name = None } in q) ≡ r → Spells ts i None
    → SaysSpelled ts r
says ts i r same h = subst (λ (q : Reading). SaysSpelled ts q) same h

-- ---- arithmetic

arithmetic_says : (ts : List Token) (o : AluOp) (w : Width) (d : Reg) (r : Reading)
    → At ts 0 (reg w d) → At ts 1 (Signed (assigns o)) → arithmetic o w d ts ≡ Ok r
    → SaysSpelled ts r
unfolding Spells
arithmetic_says ts o w d r first second h =
    let (x, front, last) = bind (operand_at w ts 2) _ r h in
    let (xs, is, tokens_at, past) = operand w ts 2 x front in
    let (len, same) = ends_at ts (Alu w o d x.0) x.1 r last in
    let all = whole ts (reg w d ∷ Signed (assigns o) ∷ xs) (first, (second, tokens_at))
    (omega (arith, len, past)) in
    says ts (Alu w o d x.0) r same (refl, (xs, is, all))

wide_says : (ts : List Token) (w : Width) (d : Reg) (r : Reading) → At ts 0 (reg w d)
    → At ts 1 (Signed sign.Assign) → At ts 3 (Named word.Wide) → wide w d ts false 2 ≡ Ok r
    → SaysSpelled ts r
unfolding Spells
wide_says ts Low32 d r first second fourth h = absurd (cc)
wide_says ts Full64 d r first second fourth h =
    let (k, front, last) = bind (number_at ts 2 >>= wide_within 2 false) _ r h in
    let (n, number, fits) = bind (number_at ts 2) (wide_within 2 false) k front in
    let (range, same_number) = wide_number 2 n k fits in
    let (len, same) = ends_at ts (LoadNumber d k) 4 r last in
    let all = whole ts (reg Full64 d ∷ Signed sign.Assign ∷ Number n ∷ Named word.Wide ∷ [])
    (first, (second, (number_at_token ts 2 n number, (fourth, tt)))) len in
    says ts (LoadNumber d k) r same (refl, (Number n ∷ [], inl (n, refl, range, same_number), all))

negative_wide_says : (ts : List Token) (w : Width) (d : Reg) (r : Reading) → At ts 0 (reg w d)
    → At ts 1 (Signed sign.Assign) → At ts 2 (Signed sign.Minus) → At ts 4 (Named word.Wide)
    → wide w d ts true 3 ≡ Ok r → SaysSpelled ts r
unfolding Spells
negative_wide_says ts Low32 d r first second third fifth h = absurd (cc)
negative_wide_says ts Full64 d r first second third fifth h =
    let (k, front, last) = bind (number_at ts 3 >>= wide_within 2 true) _ r h in
    let (n, number, fits) = bind (number_at ts 3) (wide_within 2 true) k front in
    let (range, same_number) = wide_negative 2 n k fits in
    let (len, same) = ends_at ts (LoadNumber d k) 5 r last in
    let all = whole ts
    (reg Full64 d ∷ Signed sign.Assign ∷ Signed sign.Minus ∷ Number n ∷ Named word.Wide ∷ [])
    (first, (second, (third, (number_at_token ts 3 n number, (fifth, tt))))) len in
    says ts (LoadNumber d k) r same
    (refl, (Signed sign.Minus ∷ Number n ∷ [], inr (n, refl, range, same_number), all))

number_says : (ts : List Token) (w : Width) (d : Reg) (r : Reading) → At ts 0 (reg w d)
    → At ts 1 (Signed sign.Assign) → (b : Bool) → wide_at ts 3 ≡ b
    → (if b then wide w d ts false 2 else arithmetic op.Mov w d ts) ≡ Ok r → SaysSpelled ts r
number_says ts w d r first second true is h =
    wide_says ts w d r first second (wide_at_token ts 3 is) h
number_says ts w d r first second false is h = arithmetic_says ts op.Mov w d r first second h

negative_says : (ts : List Token) (w : Width) (d : Reg) (r : Reading) → At ts 0 (reg w d)
    → At ts 1 (Signed sign.Assign) → At ts 2 (Signed sign.Minus) → (b : Bool) → wide_at ts 4 ≡ b
    → (if b then wide w d ts true 3 else arithmetic op.Mov w d ts) ≡ Ok r → SaysSpelled ts r
negative_says ts w d r first second third true is h =
    negative_wide_says ts w d r first second third (wide_at_token ts 4 is) h
negative_says ts w d r first second third false is h =
    arithmetic_says ts op.Mov w d r first second h

negated_says : (ts : List Token) (w : Width) (d : Reg) (t : Token) (r : Reading) → At ts 0 (reg w d)
    → At ts 1 (Signed sign.Assign) → At ts 2 (Signed sign.Minus) → negated w d ts t ≡ Ok r
    → SaysSpelled ts r
unfolding Spells
negated_says ts w d (Named x) r first second third h =
    let (u, front, last) = bind (again_at w d ts 3) _ r h in
    let (len, same) = ends_at ts (Neg w d) 4 r last in
    let all = whole ts (reg w d ∷ Signed sign.Assign ∷ Signed sign.Minus ∷ reg w d ∷ [])
    (first, (second, (third, (again ts w d 3 u front, tt)))) len in
    says ts (Neg w d) r same (refl, all)
negated_says ts w d (Number n) r first second third h =
    negative_says ts w d r first second third (wide_at ts 4) refl h
negated_says ts w d (Signed s) r first second third h =
    negative_says ts w d r first second third (wide_at ts 4) refl h

extended_says : (ts : List Token) (w : Width) (d : Reg) (r : Reading) → At ts 0 (reg w d)
    → At ts 1 (Signed sign.Assign) → At ts 2 (Signed sign.Open) → extended w d ts ≡ Ok r
    → SaysSpelled ts r
unfolding Spells
extended_says ts w d r first second third h =
    let (e, front, h1) = bind (word_at ts 3 >>= as_signed_size >>= extension_of w) _ r h in
    let (size, sized, extends_it) =
    bind (word_at ts 3 >>= as_signed_size) (extension_of w) e front in
    let (x, found, is_signed) = bind (word_at ts 3) as_signed_size size sized in
    let (u, closes, h2) = bind (expect_at ts 4 sign.Close) _ r h1 in
    let (s, source, last) = bind (register_at w ts 5) _ r h2 in
    let (len, same) = ends_at ts (MovSx e d s) 6 r last in
    let (width, part) = extension_in w size e extends_it in
    let fourth : At ts 3 (Named (word.SignExtended size)) =
    word_at_token ts 3 x found
    ∙ ap (λ (y : Word). let o : Option Token = Some (Named y) in o)
    (signed_size_in x size is_signed) in
    let fifth = expected ts 4 sign.Close u closes in
    let sixth = register ts w 5 s source in
    let all = whole ts
    (reg w d ∷ Signed sign.Assign ∷ Signed sign.Open ∷ Named (word.SignExtended size)
    ∷ Signed sign.Close ∷ reg w s ∷ [])
    (first, (second, (third, (fourth, (fifth, (sixth, tt)))))) len in
    says ts (MovSx e d s) r same (
      refl,
      subst (λ (n : SignedSize). ts
          ≡ reg (extends e).0 d ∷ Signed sign.Assign ∷ Signed sign.Open
          ∷ Named (word.SignExtended n) ∷ Signed sign.Close ∷ reg (extends e).0 s ∷ []) part
          (subst (λ (v : Width). ts
          ≡ reg v d ∷ Signed sign.Assign ∷ Signed sign.Open ∷ Named (word.SignExtended size)
          ∷ Signed sign.Close ∷ reg v s ∷ []) width all),
    )

swapped_says : (ts : List Token) (order : ByteOrder) (bits : SwapWidth) (d : Reg) (r : Reading)
    → At ts 0 (reg Full64 d) → At ts 1 (Signed sign.Assign)
    → At ts 2 (Named (word.Swapped order bits))
    → swapped order bits d ts ≡ Ok r → SaysSpelled ts r
unfolding Spells
swapped_says ts order bits d r first second third h =
    let (u, front, last) = bind (again_at Full64 d ts 3) _ r h in
    let (len, same) = ends_at ts (ByteSwap order bits d) 4 r last in
    let all = whole ts
    (reg Full64 d ∷ Signed sign.Assign ∷ Named (word.Swapped order bits) ∷ reg Full64 d ∷ [])
    (first, (second, (third, (again ts Full64 d 3 u front, tt)))) len in
    says ts (ByteSwap order bits d) r same (refl, all)

-- ---- loads

load_cases : (d : Reg) (p : Place) (x : Word) (i : Insn) → load_of d p x ≡ Ok i
    → ((size : Size) × (x ≡ word.Unsigned size) × (i ≡ Load size d p))
    ⊎ ((size : SignedSize) × (x ≡ word.SignExtended size) × (i ≡ LoadSx size d p))
load_cases d p (word.Unsigned size) i h =
    let same : Load size d p ≡ i = cc in inl (size, refl, sym same)
load_cases d p (word.SignExtended size) i h =
    let same : LoadSx size d p ≡ i = cc in inr (size, refl, sym same)
load_cases d p x i h = absurd (cc)

loaded_says : (ts : List Token) (w : Width) (d : Reg) (r : Reading) → At ts 0 (reg w d)
    → At ts 1 (Signed sign.Assign) → loaded w d ts ≡ Ok r → SaysSpelled ts r
unfolding Spells
loaded_says ts Low32 d r first second h = absurd (cc)
loaded_says ts Full64 d r first second h =
    let (m, front, h1) = bind (memory_at ts 2) _ r h in
    let (i, found, last) = bind (load_of d m.1 m.0) _ r h1 in
    let (len, same) = ends_at ts i 12 r last in
    let (s, n, is, t0, t1, t2, t3, t4, t5, t6, t7, t8, t9) = memory_at_tokens ts 2 m front in
    let all = whole ts (reg Full64 d ∷ Signed sign.Assign ∷ memory m.0 m.1.base s n [])
    (first, (second, (t0, (t1, (t2, (t3, (t4, (t5, (t6, (t7, (t8, (t9, tt)))))))))))) len in
    elim (load_cases d m.1 m.0 i found) [
      | inl (size, sized, insn) ↦
          let spelled =
          subst (λ (x : Word). ts ≡ reg Full64 d ∷ Signed sign.Assign ∷ memory x m.1.base s n [])
          sized all in
          says ts i r same
          (subst (λ (j : Insn). Spells ts j None) (sym insn) (refl, (s, n, is, spelled)))
      | inr (size, sized, insn) ↦
          let spelled =
          subst (λ (x : Word). ts ≡ reg Full64 d ∷ Signed sign.Assign ∷ memory x m.1.base s n [])
          sized all in
          says ts i r same
          (subst (λ (j : Insn). Spells ts j None) (sym insn) (refl, (s, n, is, spelled)))
    ]

-- ---- atomic instructions with a result

exchanged_place_tokens : (ts : List Token) (d : Reg) (p : Place) → exchanged_place d ts ≡ Ok p
    → (s : Sign) × (n : ℕ) × IsSigned (2 ^ 15) s n p.offset
    × HasTokensAt ts 3
    (Signed sign.Open
    ∷ place p.base s n (Signed sign.Comma ∷ reg Full64 d ∷ Signed sign.Close ∷ []))
exchanged_place_tokens ts d p h =
    let (q, front, h1) = bind (argument_at ts 3) _ p h in
    let (u1, register_again, h2) = bind (again_at Full64 d ts 8) _ p h1 in
    let (u2, closes, pair) = bind (expect_at ts 9 sign.Close) _ p h2 in
    let same : q ≡ p = cc (pair) in
    let (s, n, is, t0, t1, t2, t3, t4) = argument_at_tokens ts 3 q front in
    let t5 = again ts Full64 d 8 u1 register_again in
    let t6 = expected ts 9 sign.Close u2 closes in (
      s,
      n,
      subst (λ (z : Place). IsSigned (2 ^ 15) s n z.offset) same is,
      subst (λ (z : Place). HasTokensAt ts 3
          (Signed sign.Open
          ∷ place z.base s n (Signed sign.Comma ∷ reg Full64 d ∷ Signed sign.Close ∷ []))) same
          (t0, (t1, (t2, (t3, (t4, (t5, (t6, tt))))))),
    )

fetched_says : (ts : List Token) (o : AtomicOp) (w : Width) (d : Reg) (r : Reading)
    → At ts 0 (reg Full64 d) → At ts 1 (Signed sign.Assign) → At ts 2 (Named (word.Fetch o w))
    → fetched o w d ts ≡ Ok r → SaysSpelled ts r
unfolding Spells
fetched_says ts o w d r first second third h =
    let (p, front, last) = bind (exchanged_place d ts) _ r h in
    let (len, same) = ends_at ts (Atomic w o true p d) 10 r last in
    let (s, n, is, tokens_at) = exchanged_place_tokens ts d p front in
    let all = whole ts
    (reg Full64 d ∷ Signed sign.Assign ∷ Named (word.Fetch o w) ∷ Signed sign.Open
    ∷ place p.base s n (Signed sign.Comma ∷ reg Full64 d ∷ Signed sign.Close ∷ []))
    (first, (second, (third, tokens_at))) len in
    says ts (Atomic w o true p d) r same (refl, (s, n, is, all))

exchanged_says : (ts : List Token) (w : Width) (d : Reg) (r : Reading) → At ts 0 (reg Full64 d)
    → At ts 1 (Signed sign.Assign) → At ts 2 (Named (word.Exchange w)) → exchanged w d ts ≡ Ok r
    → SaysSpelled ts r
unfolding Spells
exchanged_says ts w d r first second third h =
    let (p, front, last) = bind (exchanged_place d ts) _ r h in
    let (len, same) = ends_at ts (Exchange w p d) 10 r last in
    let (s, n, is, tokens_at) = exchanged_place_tokens ts d p front in
    let all = whole ts
    (reg Full64 d ∷ Signed sign.Assign ∷ Named (word.Exchange w) ∷ Signed sign.Open
    ∷ place p.base s n (Signed sign.Comma ∷ reg Full64 d ∷ Signed sign.Close ∷ []))
    (first, (second, (third, tokens_at))) len in
    says ts (Exchange w p d) r same (refl, (s, n, is, all))

compared_of : (ts : List Token) (w : Width) (r : Reading) → At ts 0 (reg Full64 R0)
    → At ts 1 (Signed sign.Assign) → At ts 2 (Named (word.CompareExchange w))
    → compared w R0 ts ≡ Ok r → SaysSpelled ts r
unfolding Spells
compared_of ts w r first second third h =
    let (p, front, h1) = bind (argument_at ts 3) _ r h in
    let (u1, accumulator, h2) = bind (again_at Full64 R0 ts 8) _ r h1 in
    let (u2, comma, h3) = bind (expect_at ts 9 sign.Comma) _ r h2 in
    let (q, source, h4) = bind (register_at Full64 ts 10) _ r h3 in
    let (u4, closes, last) = bind (expect_at ts 11 sign.Close) _ r h4 in
    let (len, same) = ends_at ts (CompareExchange w p q) 12 r last in
    let (s, n, is, t0, t1, t2, t3, t4) = argument_at_tokens ts 3 p front in
    let t5 = again ts Full64 R0 8 u1 accumulator in
    let t6 = expected ts 9 sign.Comma u2 comma in
    let t7 = register ts Full64 10 q source in
    let t8 = expected ts 11 sign.Close u4 closes in
    let all =
    whole ts (reg Full64 R0 ∷ Signed sign.Assign ∷ Named (word.CompareExchange w) ∷ Signed sign.Open
    ∷ place p.base s n (Signed sign.Comma
    ∷ reg Full64 R0 ∷ Signed sign.Comma ∷ reg Full64 q ∷ Signed sign.Close ∷ []))
    (first, (second, (third, (t0, (t1, (t2, (t3, (t4, (t5, (t6, (t7, (t8, tt)))))))))))) len in
    says ts (CompareExchange w p q) r same (refl, (s, n, is, all))

compared_says : (ts : List Token) (w : Width) (d : Reg) (r : Reading) (b : Bool)
    → same_register d R0 ≡ b → At ts 0 (reg Full64 d) → At ts 1 (Signed sign.Assign)
    → At ts 2 (Named (word.CompareExchange w)) → compared w d ts ≡ Ok r → SaysSpelled ts r
compared_says ts w d r true is first second third h =
    let zero = registers d R0 is in
    compared_of ts w r (subst (λ (q : Reg). At ts 0 (reg Full64 q)) zero first) second third
    (subst (λ (q : Reg). compared w q ts ≡ Ok r) zero h)
compared_says ts w d r false is first second third h = absurd (refused h)
  where
    refused : compared w d ts ≡ Ok r → ⊥
    refused k =
        let no : (let x : Result Reading Wrong = Err Form in x) ≡ Ok r = rw is at k in
        absurd (cc (no))

-- ---- maps

map_loaded_says : (ts : List Token) (d : Reg) (r : Reading) → At ts 0 (reg Full64 d)
    → At ts 1 (Signed sign.Assign) → At ts 2 (Named word.MapByIndex) → map_loaded d ts ≡ Ok r
    → SaysSpelled ts r
unfolding Spells
map_loaded_says ts d r first second third h =
    let (m, front, last) = bind (index_at ts 3) _ r h in
    let (len, same) = ends_at ts (LoadMap d m) 6 r last in
    let (n, index, t0, t1, t2) = index_at_tokens ts 3 m front in
    let all = whole ts
    (reg Full64 d ∷ Signed sign.Assign ∷ Named word.MapByIndex ∷ Signed sign.Open ∷ Number n
    ∷ Signed sign.Close ∷ []) (first, (second, (third, (t0, (t1, (t2, tt)))))) len in
    says ts (LoadMap d m) r same (refl, (n, index, all))

map_value_says : (ts : List Token) (d : Reg) (r : Reading) → At ts 0 (reg Full64 d)
    → At ts 1 (Signed sign.Assign) → At ts 2 (Named word.MapValue) → map_value_loaded d ts ≡ Ok r
    → SaysSpelled ts r
unfolding Spells
map_value_says ts d r first second third h =
    let (u0, opens, h1) = bind (expect_at ts 3 sign.Open) _ r h in
    let (m, front, h2) = bind (by_index_at ts 4) _ r h1 in
    let (u2, closes, h3) = bind (expect_at ts 8 sign.Close) _ r h2 in
    let (u3, plus, h4) = bind (expect_at ts 9 sign.Plus) _ r h3 in
    let (offset, behind, last) = bind (field_at 4294967295 ts 10) _ r h4 in
    let (len, same) = ends_at ts (LoadMapValue d m offset) 11 r last in
    let (n, index, t0, t1, t2, t3) = by_index_at_tokens ts 4 m front in
    let (k, number, offset_is) = field_at_token ts 10 offset behind in
    let fourth = expected ts 3 sign.Open u0 opens in
    let t4 = expected ts 8 sign.Close u2 closes in
    let t5 = expected ts 9 sign.Plus u3 plus in
    let all = whole ts
    (reg Full64 d ∷ Signed sign.Assign ∷ Named word.MapValue ∷ Signed sign.Open
    ∷ Named word.MapByIndex ∷ Signed sign.Open ∷ Number n ∷ Signed sign.Close
    ∷ Signed sign.Close ∷ Signed sign.Plus ∷ Number k ∷ [])
    (first, (second, (third, (fourth, (t0, (t1, (t2, (t3, (t4, (t5, (number, tt))))))))))) len in
    says ts (LoadMapValue d m offset) r same (refl, (n, k, index, offset_is, all))

-- ---- what begins with a register

moved_word_says : (ts : List Token) (w : Width) (d : Reg) (x : Word) (r : Reading)
    → At ts 0 (reg w d) → At ts 1 (Signed sign.Assign) → At ts 2 (Named x)
    → moved_word w d ts x ≡ Ok r → SaysSpelled ts r
moved_word_says ts Full64 d (word.Swapped order bits) r first second third h =
    swapped_says ts order bits d r first second third h
moved_word_says ts Full64 d (word.Fetch o v) r first second third h =
    fetched_says ts o v d r first second third h
moved_word_says ts Full64 d (word.Exchange v) r first second third h =
    exchanged_says ts v d r first second third h
moved_word_says ts Full64 d (word.CompareExchange v) r first second third h =
    compared_says ts v d r (same_register d R0) refl first second third h
moved_word_says ts Full64 d word.MapByIndex r first second third h =
    map_loaded_says ts d r first second third h
moved_word_says ts Full64 d word.MapValue r first second third h =
    map_value_says ts d r first second third h
moved_word_says ts w d x r first second third h = arithmetic_says ts op.Mov w d r first second h

moved_says : (ts : List Token) (w : Width) (d : Reg) (t : Token) (r : Reading) → At ts 0 (reg w d)
    → At ts 1 (Signed sign.Assign) → At ts 2 t → moved w d ts t ≡ Ok r → SaysSpelled ts r
moved_says ts w d (Number n) r first second third h =
    number_says ts w d r first second (wide_at ts 3) refl h
moved_says ts w d (Named x) r first second third h = moved_word_says ts w d x r first second third h
moved_says ts w d (Signed sign.Minus) r first second third h =
    let (t, found, rest) = bind (token_at ts 3) (negated w d ts) r h in
    negated_says ts w d t r first second third rest
moved_says ts w d (Signed sign.Open) r first second third h =
    extended_says ts w d r first second third h
moved_says ts w d (Signed sign.Star) r first second third h = loaded_says ts w d r first second h
moved_says ts w d (Signed s) r first second third h = absurd (cc)

assigned_by_says : (ts : List Token) (o : AluOp) (w : Width) (d : Reg) (r : Reading)
    → At ts 0 (reg w d) → At ts 1 (Signed (assigns o)) → assigned_by o w d ts ≡ Ok r
    → SaysSpelled ts r
assigned_by_says ts op.Mov w d r first second h =
    let (t, found, rest) = bind (token_at ts 2) (moved w d ts) r h in
    moved_says ts w d t r first second (token ts 2 t found) rest
assigned_by_says ts o w d r first second h = arithmetic_says ts o w d r first second h

pub assigned_says : (ts : List Token) (w : Width) (d : Reg) (r : Reading) → At ts 0 (reg w d)
    → assigned w d ts ≡ Ok r → SaysSpelled ts r
assigned_says ts w d r first h =
    let (o, front, rest) = bind (sign_at ts 1 >>= op_of) _ r h in
    let (s, found, is) = bind (sign_at ts 1) op_of o front in
    let second : At ts 1 (Signed (assigns o)) =
    sign_at_token ts 1 s found
    ∙ ap (λ (x : Sign). let t : Option Token = Some (Signed x) in t) (op_in s o is) in
    assigned_by_says ts o w d r first second rest
