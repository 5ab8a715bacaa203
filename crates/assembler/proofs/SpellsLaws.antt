-- The statements that are read as instructions are those that spell one.
use Rattle.assembler.proofs.Common.{◌≡◌, ℕ, suc, ◌+◌, ◌^◌, length, List, [], ◌∷◌, ◌++◌, refl, ap, ◌∙◌, subst, inl, inr, arith, ◌≢◌, Bool, Option, Some, Ok, Err, true, false, ◌==◌, if◌then◌else◌, ℤ, pos, Reg, Width, Full64, Size, Place, Insn, StoreConstant, Store, Atomic, Jump, JumpLong, JumpIf, CallHelper, CallLocal, Exit, width_size, Word, Sign, Token, Named, Number, Signed, Reading, Form, ◌>>=◌, keep, token_at, sign_at, atomic_op_of, comparison_of, width_of, word_at, expect_at, memory_at, register_at, operand_at, signed_at, target_at, as_register, as_size, constant_at, plain, stored_token, stored, locked, jump, long_jump, is_goto, goto_at, condition, tested, called_word, called, by_word, by_token, reading_of, changes, compares, reg, IsSigned, memory, IsTarget, Spells}
use Rattle.std.proofs.Math.ListN.{length-append}
use Rattle.assembler.specs.declared.tokens.Word.TheVariants as word
use Rattle.assembler.specs.declared.tokens.Sign.TheVariants as sign
use Rattle.assembler.proofs.SpellsTokens.{bind, kept, equal, At, HasTokensAt, whole, HasTokensAt-more, token, sign_at_token, word_at_token, expected, register_in, register, signed, constant, operand}
use Rattle.assembler.proofs.SpellsParts.{memory_at_tokens, target, atomic_in, comparison_in, width_in, size_in, ends_at}
use Rattle.assembler.proofs.SpellsReads.{Spells-reading_of}
use Rattle.assembler.proofs.SpellsRegisters.{SaysSpelled, says, assigned_says}

-- ---- stores

stored_constant_says : (ts : List Token) (size : Size) (p : Place) (s : Sign) (n : ℕ) (r : Reading)
    → IsSigned (2 ^ 15) s n p.offset
    → HasTokensAt ts 0 (memory (word.Unsigned size) p.base s n (Signed sign.Assign ∷ []))
    → (constant_at ts 11 >>= λ (k : ℤ × ℕ). plain (StoreConstant size p k.0) ts k.1) ≡ Ok r
    → SaysSpelled ts r
unfolding Spells
stored_constant_says ts size p s n r is tokens_at h =
    let (k, front, last) = bind (constant_at ts 11) _ r h in
    let (len, same) = ends_at ts (StoreConstant size p k.0) k.1 r last in
    let (xs, number, behind, past) = constant ts 11 k front in
    let all = whole ts (memory (word.Unsigned size) p.base s n (Signed sign.Assign ∷ xs))
    (HasTokensAt-more ts 0 11
    (memory (word.Unsigned size) p.base s n (Signed sign.Assign ∷ [])) xs refl tokens_at behind)
    (omega (arith, len, past)) in
    says ts (StoreConstant size p k.0) r same (refl, (xs, number, (s, n, is, all)))

stored_token_says : (ts : List Token) (size : Size) (p : Place) (s : Sign) (n : ℕ) (t : Token)
    (r : Reading) → IsSigned (2 ^ 15) s n p.offset
    → HasTokensAt ts 0 (memory (word.Unsigned size) p.base s n (Signed sign.Assign ∷ []))
    → At ts 11 t → stored_token size p ts t ≡ Ok r → SaysSpelled ts r
unfolding Spells
stored_token_says ts size p s n (Named x) r is tokens_at here h =
    let (q, found, last) = bind (as_register Full64 x) _ r h in
    let (len, same) = ends_at ts (Store size p q) 12 r last in
    let source : At ts 11 (reg Full64 q) =
    here ∙ ap (λ (y : Word). let o : Option Token = Some (Named y) in o)
    (register_in Full64 x q found) in
    let all =
    whole ts (memory (word.Unsigned size) p.base s n (Signed sign.Assign ∷ reg Full64 q ∷ []))
    (HasTokensAt-more ts 0 11 (memory (word.Unsigned size) p.base s n (Signed sign.Assign ∷ []))
    (reg Full64 q ∷ []) refl tokens_at (source, tt)) len in
    says ts (Store size p q) r same (refl, (s, n, is, all))
stored_token_says ts size p s n (Number k) r is tokens_at here h =
    stored_constant_says ts size p s n r is tokens_at h
stored_token_says ts size p s n (Signed k) r is tokens_at here h =
    stored_constant_says ts size p s n r is tokens_at h

stored_says : (ts : List Token) (r : Reading) → stored ts ≡ Ok r → SaysSpelled ts r
stored_says ts r h =
    let (m, front, h1) = bind (memory_at ts 0) _ r h in
    let (size, sized, h2) = bind (as_size m.0) _ r h1 in
    let (u, assign, h3) = bind (expect_at ts 10 sign.Assign) _ r h2 in
    let (t, found, last) = bind (token_at ts 11) (stored_token size m.1 ts) r h3 in
    let (s, n, is, t0, t1, t2, t3, t4, t5, t6, t7, t8, t9) = memory_at_tokens ts 0 m front in
    let assigned = expected ts 10 sign.Assign u assign in
    let tokens_at : HasTokensAt ts 0 (memory m.0 m.1.base s n (Signed sign.Assign ∷ [])) =
    (t0, (t1, (t2, (t3, (t4, (t5, (t6, (t7, (t8, (t9, (assigned, tt))))))))))) in
    stored_token_says ts size m.1 s n t r is
    (subst (λ (x : Word). HasTokensAt ts 0 (memory x m.1.base s n (Signed sign.Assign ∷ [])))
    (size_in m.0 size sized) tokens_at) (token ts 11 t found) last

locked_says : (ts : List Token) (r : Reading) → At ts 0 (Named word.Lock) → locked ts ≡ Ok r
    → SaysSpelled ts r
unfolding Spells
locked_says ts r first h =
    let (m, front, h1) = bind (memory_at ts 1) _ r h in
    let (w, sized, h2) = bind (as_size m.0 >>= width_of) _ r h1 in
    let (size, unsigned, of_width) = bind (as_size m.0) width_of w sized in
    let (o, changed, h3) = bind (sign_at ts 11 >>= atomic_op_of) _ r h2 in
    let (c, found, of_op) = bind (sign_at ts 11) atomic_op_of o changed in
    let (q, source, last) = bind (register_at Full64 ts 12) _ r h3 in
    let (len, same) = ends_at ts (Atomic w o false m.1 q) 13 r last in
    let (s, n, is, t0, t1, t2, t3, t4, t5, t6, t7, t8, t9) = memory_at_tokens ts 1 m front in
    let change : At ts 11 (Signed (changes o)) =
    sign_at_token ts 11 c found
    ∙ ap (λ (x : Sign). let t : Option Token = Some (Signed x) in t) (atomic_in c o of_op) in
    let source_at = register ts Full64 12 q source in
    let all =
    whole ts (Named word.Lock ∷ memory m.0 m.1.base s n (Signed (changes o) ∷ reg Full64 q ∷ []))
    (first, (t0, (t1, (t2, (t3, (t4, (t5, (t6, (t7, (t8, (t9, (change, (source_at, tt)))))))))))))
    len in
    let word_is : m.0 ≡ word.Unsigned (width_size w) =
    size_in m.0 size unsigned ∙ ap word.Unsigned (width_in size w of_width) in
    let spelled =
    subst (λ (x : Word).
    ts ≡ Named word.Lock ∷ memory x m.1.base s n (Signed (changes o) ∷ reg Full64 q ∷ []))
    word_is all in
    says ts (Atomic w o false m.1 q) r same (refl, (s, n, is, spelled))

-- ---- jumps and calls

jump_says : (ts : List Token) (r : Reading) → At ts 0 (Named word.Goto) → jump ts ≡ Ok r
    → SaysSpelled ts r
unfolding Spells
jump_says ts r first h =
    let (t, front, last) = bind (target_at (2 ^ 15) ts 1) _ r h in
    let (xs, is, tokens_at, len) = target (2 ^ 15) ts 1 t front in
    let same : (let q : Reading = record { insn = Jump t.0; name = t.1 } in q) ≡ r = cc (last) in
    let all = whole ts (Named word.Goto ∷ xs) (first, tokens_at) (omega (arith, len)) in
    subst (λ (q : Reading). SaysSpelled ts q) same (xs, is, all)

long_jump_says : (ts : List Token) (r : Reading) → At ts 0 (Named word.GotoLong)
    → long_jump ts ≡ Ok r → SaysSpelled ts r
unfolding Spells
long_jump_says ts r first h =
    let (t, front, last) = bind (target_at (2 ^ 31) ts 1) _ r h in
    let (xs, is, tokens_at, len) = target (2 ^ 31) ts 1 t front in
    let same : (let q : Reading = record { insn = JumpLong t.0; name = t.1 } in q) ≡ r =
    cc (last) in
    let all = whole ts (Named word.GotoLong ∷ xs) (first, tokens_at) (omega (arith, len)) in
    subst (λ (q : Reading). SaysSpelled ts q) same (xs, is, all)

goto_word : (x : Word) → is_goto x ≡ true → x ≡ word.Goto
goto_word word.Goto h = refl
goto_word x h = absurd (cc)

goto_of : (ts : List Token) (i : ℕ) (x : Word) (t : ℤ × Option ℕ) (b : Bool) → At ts i (Named x)
    → is_goto x ≡ b → (if b then target_at (2 ^ 15) ts (i + 1) else Err Form) ≡ Ok t
    → (ys : List Token) × At ts i (Named word.Goto) × IsTarget (2 ^ 15) ys t.0 (i + 1) t.1
    × HasTokensAt ts (i + 1) ys × (length ts ≡ i + 1 + length ys)
goto_of ts i x t false here is h = absurd (cc)
goto_of ts i x t true here is h =
    let (ys, target_is, tokens_at, len) = target (2 ^ 15) ts (i + 1) t h in (
      ys,
      here ∙ ap (λ (y : Word). let o : Option Token = Some (Named y) in o) (goto_word x is),
      target_is,
      tokens_at,
      len,
    )

condition_says : (ts : List Token) (w : Width) (d : Reg) (r : Reading) → At ts 0 (Named word.If)
    → At ts 1 (reg w d) → condition w d ts ≡ Ok r → SaysSpelled ts r
unfolding Spells
condition_says ts w d r first second h =
    let (c, front, h1) = bind (sign_at ts 2 >>= comparison_of) _ r h in
    let (s, found, of_comparison) = bind (sign_at ts 2) comparison_of c front in
    let (x, right, h2) = bind (operand_at w ts 3) _ r h1 in
    let (t, goes, last) = bind (goto_at ts x.1) _ r h2 in
    let (y, there, aims) = bind (word_at ts x.1) _ t goes in
    let (xs, is, tokens_at, past) = operand w ts 3 x right in
    let (ys, at_goto, target_is, behind, len) =
    goto_of ts x.1 y t (is_goto y) (word_at_token ts x.1 y there) refl aims in
    let third : At ts 2 (Signed (compares c)) =
    sign_at_token ts 2 s found
    ∙ ap (λ (z : Sign). let o : Option Token = Some (Signed z) in o)
    (comparison_in s c of_comparison) in
    let next : x.1 + 1 ≡ suc x.1 = omega arith in
    let rest = HasTokensAt-more ts 3 x.1 xs (Named word.Goto ∷ ys) past tokens_at
    (at_goto, subst (λ i. HasTokensAt ts i ys) next behind) in
    let lengths = length-append xs (Named word.Goto ∷ ys) in
    let all = whole ts
    (Named word.If ∷ reg w d ∷ Signed (compares c) ∷ (xs ++ Named word.Goto ∷ ys))
    (first, (second, (third, rest))) (omega (arith, len, past, lengths)) in
    let same : (let q : Reading = record {
      insn = JumpIf
          (record { width = w; comparison = c; register = d; operand = x.0 }) t.0;
      name = t.1;
    } in q)
    ≡ r = cc (last) in
    let index : x.1 + 1 ≡ 4 + length xs = omega (arith, past) in
    subst (λ (q : Reading). SaysSpelled ts q) same
    (xs, ys, is, subst (λ i. IsTarget (2 ^ 15) ys t.0 i t.1) index target_is, all)

tested_says : (ts : List Token) (x : Word) (r : Reading) → At ts 0 (Named word.If)
    → At ts 1 (Named x) → tested ts x ≡ Ok r → SaysSpelled ts r
tested_says ts (word.Register w d) r first second h = condition_says ts w d r first second h
tested_says ts x r first second h = absurd (cc)

named_call_says : (ts : List Token) (x : Word) (r : Reading) → x ≢ word.Pc
    → At ts 0 (Named word.Call) → At ts 1 (Named x)
    → keep (length ts == 2)
    (let q : Reading = record { insn = CallLocal (pos 0); name = Some 1 } in q) ≡ Ok r
    → SaysSpelled ts r
unfolding Spells
named_call_says ts x r other first second h =
    let (b, same) = kept (length ts == 2)
    (let q : Reading = record { insn = CallLocal (pos 0); name = Some 1 } in q) r h in
    let all =
    whole ts (Named word.Call ∷ Named x ∷ []) (first, (second, tt)) (equal (length ts) 2 b) in
    subst (λ (q : Reading). SaysSpelled ts q) same (inr (x, other, refl, refl, all))

called_word_says : (ts : List Token) (x : Word) (r : Reading) → At ts 0 (Named word.Call)
    → At ts 1 (Named x) → called_word ts x ≡ Ok r → SaysSpelled ts r
unfolding Spells
called_word_says ts word.Pc r first second h =
    let (by, front, last) = bind (signed_at (2 ^ 31) ts 2) _ r h in
    let (len, same) = ends_at ts (CallLocal by) 4 r last in
    let (s, n, signs, number, is) = signed (2 ^ 31) ts 2 by front in
    let all = whole ts (Named word.Call ∷ Named word.Pc ∷ Signed s ∷ Number n ∷ [])
    (first, (second, (signs, (number, tt)))) len in
    says ts (CallLocal by) r same (inl (refl, (s, n, is, all)))
called_word_says ts x r first second h = named_call_says ts x r (λ e. absurd (cc e)) first second h

helper_says : (ts : List Token) (r : Reading) → At ts 0 (Named word.Call)
    → (constant_at ts 1 >>= λ (k : ℤ × ℕ). plain (CallHelper k.0) ts k.1) ≡ Ok r → SaysSpelled ts r
unfolding Spells
helper_says ts r first h =
    let (k, front, last) = bind (constant_at ts 1) _ r h in
    let (len, same) = ends_at ts (CallHelper k.0) k.1 r last in
    let (xs, number, behind, past) = constant ts 1 k front in
    let all = whole ts (Named word.Call ∷ xs) (first, behind) (omega (arith, len, past)) in
    says ts (CallHelper k.0) r same (refl, (xs, number, all))

called_says : (ts : List Token) (t : Token) (r : Reading) → At ts 0 (Named word.Call) → At ts 1 t
    → called ts t ≡ Ok r → SaysSpelled ts r
called_says ts (Named x) r first second h = called_word_says ts x r first second h
called_says ts (Number n) r first second h = helper_says ts r first h
called_says ts (Signed s) r first second h = helper_says ts r first h

exit_says : (ts : List Token) (r : Reading) → At ts 0 (Named word.Exit) → plain Exit ts 1 ≡ Ok r
    → SaysSpelled ts r
unfolding Spells
exit_says ts r first h =
    let (len, same) = ends_at ts Exit 1 r h in
    says ts Exit r same (refl, whole ts (Named word.Exit ∷ []) (first, tt) len)

-- ---- all forms

by_word_says : (ts : List Token) (x : Word) (r : Reading) → At ts 0 (Named x) → by_word ts x ≡ Ok r
    → SaysSpelled ts r
by_word_says ts (word.Register w d) r first h = assigned_says ts w d r first h
by_word_says ts word.If r first h =
    let (x, found, rest) = bind (word_at ts 1) (tested ts) r h in
    tested_says ts x r first (word_at_token ts 1 x found) rest
by_word_says ts word.Goto r first h = jump_says ts r first h
by_word_says ts word.GotoLong r first h = long_jump_says ts r first h
by_word_says ts word.Call r first h =
    let (t, found, rest) = bind (token_at ts 1) (called ts) r h in
    called_says ts t r first (token ts 1 t found) rest
by_word_says ts word.Exit r first h = exit_says ts r first h
by_word_says ts word.Lock r first h = locked_says ts r first h
by_word_says ts x r first h = absurd (cc)

by_token_says : (ts : List Token) (t : Token) (r : Reading) → At ts 0 t → by_token ts t ≡ Ok r
    → SaysSpelled ts r
by_token_says ts (Named x) r first h = by_word_says ts x r first h
by_token_says ts (Signed sign.Star) r first h = stored_says ts r h
by_token_says ts (Signed s) r first h = absurd (cc)
by_token_says ts (Number n) r first h = absurd (cc)

-- the instruction that a statement is read as is the one that it spells
pub reading_of-Spells : (ts : List Token) (r : Reading) → reading_of ts ≡ Ok r
    → Spells ts r.insn r.name
unfolding reading_of
reading_of-Spells ts r h =
    let (t, found, rest) = bind (token_at ts 0) (by_token ts) r h in
    by_token_says ts t r (token ts 0 t found) rest

-- a statement spells one instruction at most
pub Spells-same : (ts : List Token) (i j : Insn) (m n : Option ℕ) → Spells ts i m → Spells ts j n
    → (i ≡ j) × (m ≡ n)
Spells-same ts i j m n h k =
    let one = Spells-reading_of ts i m h in
    let two = Spells-reading_of ts j n k in
    let same : (let q : Reading = record { insn = i; name = m } in q)
    ≡ (let q : Reading = record { insn = j; name = n } in q) = cc (one, two) in
    (ap (λ (q : Reading). q.insn) same, ap (λ (q : Reading). q.name) same)
