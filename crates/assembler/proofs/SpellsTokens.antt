-- Which tokens were read where a token, a register, a number or an operand was found.
use Rattle.assembler.proofs.Common.{◌≡◌, ℕ, suc, ◌+◌, ◌<◌, ◌≤◌, ◌^◌, length, List, [], ◌∷◌, ◌++◌, refl, sym, ap, ◌∙◌, subst, inl, inr, ◌⊎◌, arith, Bool, Option, Some, None, Result, Ok, Err, ok_or, true, false, ◌==◌, if◌then◌else◌, slice_get, nat_lt, nat_le, ℤ, pos, neg_ℤ, Reg, R0, R1, R2, R3, R4, R5, R6, R7, R8, R9, R10, Width, Low32, Full64, Operand, Constant, Register, Place, Word, Sign, Token, Named, Number, Signed, Wrong, Form, Range, ◌>>=◌, keep, token_at, as_sign, as_number, as_word, sign_at, number_at, word_at, is_sign, expect_at, is_minus, signed_within, signed_at, number_index, constant_at, same_width, same_register, as_register, register_at, again_at, operand_token, operand_at, place_at, reg, IsSigned, SpellsConstant, IsOperand}
use Rattle.std.proofs.lemmas.Bool.Decides.{nat_tests}
use Rattle.isa_model.specs.Code.Registers.{reg_number, reg_numbered}
use Rattle.assembler.specs.declared.tokens.Word.TheVariants as word
use Rattle.assembler.specs.declared.tokens.Sign.TheVariants as sign

-- ---- results, one after the other

pub bind : {A B E : Type 0} (r : Result A E) (f : A → Result B E) (y : B) → (r >>= f) ≡ Ok y
    → (x : A) × (r ≡ Ok x) × (f x ≡ Ok y)
bind (Ok x) f y h = (x, refl, h)
bind (Err e) f y h = absurd (cc)

pub kept : {A : Type 0} (b : Bool) (x y : A) → keep b x ≡ Ok y → (b ≡ true) × (x ≡ y)
kept true x y h = let same : x ≡ y = cc in (refl, same)
kept false x y h = absurd (cc)

abbrev pub ok_if : {A : Type 0} → Bool → A → Wrong → Result A Wrong
ok_if b x e = if b then Ok x else Err e

pub passed : {A : Type 0} (b : Bool) (x : A) (e : Wrong) (y : A) → ok_if b x e ≡ Ok y
    → (b ≡ true) × (x ≡ y)
passed true x e y h = let same : x ≡ y = cc in (refl, same)
passed false x e y h = absurd (cc)

pub equal : (a b : ℕ) → (a == b) ≡ true → a ≡ b
equal a b h = grind (arith, nat_tests, h)

pub below : (a b : ℕ) → nat_lt a b ≡ true → a < b
below a b h = grind (arith, nat_tests, h)

pub within : (a b : ℕ) → nat_le a b ≡ true → a ≤ b
within a b h = grind (arith, nat_tests, h)

-- ---- the token at an index

abbrev pub At : List Token → ℕ → Token → Type 0
At ts i t = slice_get ts i ≡ Some t

-- those tokens, from an index on
abbrev pub HasTokensAt : List Token → ℕ → List Token → Type 0
HasTokensAt ts i [] = Unit {0}
HasTokensAt ts i (x ∷ xs) = At ts i x × HasTokensAt ts (suc i) xs

shifted : (t : Token) (ts : List Token) (i : ℕ) (xs : List Token) → HasTokensAt (t ∷ ts) (suc i) xs
    → HasTokensAt ts i xs
shifted t ts i [] h = tt
shifted t ts i (x ∷ xs) h = (h.0, shifted t ts (suc i) xs h.1)

-- they are all
pub whole : (ts xs : List Token) → HasTokensAt ts 0 xs → length ts ≡ length xs → ts ≡ xs
whole [] [] h e = refl
whole [] (x ∷ xs) h e = absurd (omega (arith, e))
whole (t ∷ ts) [] h e = absurd (omega (arith, e))
whole (t ∷ ts) (x ∷ xs) h e =
    let same : t ≡ x = cc (h.0) in
    let rest = whole ts xs (shifted t ts 0 xs h.1) (omega (arith, e)) in
    ap (λ (y : Token). y ∷ ts) same ∙ ap (λ (ys : List Token). x ∷ ys) rest

pub HasTokensAt-more : (ts : List Token) (i j : ℕ) (xs ys : List Token) → j ≡ i + length xs
    → HasTokensAt ts i xs → HasTokensAt ts j ys → HasTokensAt ts i (xs ++ ys)
HasTokensAt-more ts i j [] ys e h k =
    let here : j ≡ i = omega (arith, e) in subst (λ n. HasTokensAt ts n ys) here k
HasTokensAt-more ts i j (x ∷ xs) ys e h k =
    (h.0, HasTokensAt-more ts (suc i) j xs ys (omega (arith, e)) h.1 k)

-- ---- single tokens

some_token : (o : Option Token) (t : Token) → ok_or o Form ≡ Ok t → o ≡ Some t
some_token (Some x) t h =
    let same : x ≡ t = cc in ap (λ (y : Token). let r : Option Token = Some y in r) same
some_token None t h = absurd (cc)

pub token : (ts : List Token) (i : ℕ) (t : Token) → token_at ts i ≡ Ok t → At ts i t
token ts i t h = some_token (slice_get ts i) t h

sign_in : (t : Token) (s : Sign) → as_sign t ≡ Ok s → t ≡ Signed s
sign_in (Signed x) s h = let same : x ≡ s = cc in ap Signed same
sign_in (Named x) s h = absurd (cc)
sign_in (Number n) s h = absurd (cc)

number_in : (t : Token) (n : ℕ) → as_number t ≡ Ok n → t ≡ Number n
number_in (Number x) n h = let same : x ≡ n = cc in ap Number same
number_in (Named x) n h = absurd (cc)
number_in (Signed x) n h = absurd (cc)

word_in : (t : Token) (x : Word) → as_word t ≡ Ok x → t ≡ Named x
word_in (Named y) x h = let same : y ≡ x = cc in ap Named same
word_in (Number n) x h = absurd (cc)
word_in (Signed s) x h = absurd (cc)

abbrev some : Token → Option Token
some t = Some t

pub sign_at_token : (ts : List Token) (i : ℕ) (s : Sign) → sign_at ts i ≡ Ok s
    → At ts i (Signed s)
sign_at_token ts i s h =
    let (t, found, is) = bind (token_at ts i) as_sign s h in
    token ts i t found ∙ ap some (sign_in t s is)

pub number_at_token : (ts : List Token) (i n : ℕ) → number_at ts i ≡ Ok n → At ts i (Number n)
number_at_token ts i n h =
    let (t, found, is) = bind (token_at ts i) as_number n h in
    token ts i t found ∙ ap some (number_in t n is)

pub word_at_token : (ts : List Token) (i : ℕ) (x : Word) → word_at ts i ≡ Ok x → At ts i (Named x)
word_at_token ts i x h =
    let (t, found, is) = bind (token_at ts i) as_word x h in
    token ts i t found ∙ ap some (word_in t x is)

same_sign : (t s : Sign) → is_sign t s ≡ true → t ≡ s
same_sign sign.Open sign.Open h = refl
same_sign sign.Close sign.Close h = refl
same_sign sign.Star sign.Star h = refl
same_sign sign.Comma sign.Comma h = refl
same_sign sign.Assign sign.Assign h = refl
same_sign sign.Plus sign.Plus h = refl
same_sign t s h = absurd (cc)

pub expected : (ts : List Token) (i : ℕ) (s : Sign) (u : Unit {0}) → expect_at ts i s ≡ Ok u
    → At ts i (Signed s)
expected ts i s u h =
    let (t, found, is) = bind (sign_at ts i) (λ t. keep (is_sign t s) tt) u h in
    sign_at_token ts i t found
    ∙ ap (λ (x : Sign). some (Signed x)) (same_sign t s (kept (is_sign t s) tt u is).0)

-- ---- registers

widths : (v w : Width) → same_width v w ≡ true → v ≡ w
widths Low32 Low32 h = refl
widths Full64 Full64 h = refl
widths Low32 Full64 h = absurd (cc)
widths Full64 Low32 h = absurd (cc)

numbered : (x : Reg) → reg_numbered (reg_number x) ≡ Some x
numbered R0 = refl
numbered R1 = refl
numbered R2 = refl
numbered R3 = refl
numbered R4 = refl
numbered R5 = refl
numbered R6 = refl
numbered R7 = refl
numbered R8 = refl
numbered R9 = refl
numbered R10 = refl

pub registers : (q r : Reg) → same_register q r ≡ true → q ≡ r
registers q r h =
    let same : Some q ≡ Some r =
    sym (numbered q) ∙ ap reg_numbered (equal (reg_number q) (reg_number r) h) ∙ numbered r in
    cc

pub register_in : (w : Width) (x : Word) (r : Reg) → as_register w x ≡ Ok r → x ≡ word.Register w r
register_in w (word.Register v q) r h =
    let (b, same) = kept (same_width v w) q r h in
    let width = widths v w b in
    ap (λ (z : Width). word.Register z q) width ∙ ap (word.Register w) same
register_in w x r h = absurd (cc)

pub register : (ts : List Token) (w : Width) (i : ℕ) (r : Reg) → register_at w ts i ≡ Ok r
    → At ts i (reg w r)
register ts w i r h =
    let (x, found, is) = bind (word_at ts i) (as_register w) r h in
    word_at_token ts i x found ∙ ap (λ (y : Word). some (Named y)) (register_in w x r is)

pub again : (ts : List Token) (w : Width) (r : Reg) (i : ℕ) (u : Unit {0})
    → again_at w r ts i ≡ Ok u → At ts i (reg w r)
again ts w r i u h =
    let (s, found, is) = bind (register_at w ts i) (λ s. keep (same_register s r) tt) u h in
    register ts w i s found
    ∙ ap (λ (y : Reg). some (reg w y)) (registers s r (kept (same_register s r) tt u is).0)

-- ---- numbers

minus_in : (s : Sign) (minus : Bool) → is_minus s ≡ Ok minus
    → ((s ≡ sign.Minus) × (minus ≡ true)) ⊎ ((s ≡ sign.Plus) × (minus ≡ false))
minus_in sign.Minus minus h = let same : true ≡ minus = cc in inl (refl, sym same)
minus_in sign.Plus minus h = let same : false ≡ minus = cc in inr (refl, sym same)
minus_in s minus h = absurd (cc)

positive : (limit at n : ℕ) (k : ℤ) → signed_within limit at false n ≡ Ok k
    → (n < limit) × (k ≡ pos n)
positive limit at n k h =
    let (b, same) = passed (nat_lt n limit) (pos n) (Range at) k h in (below n limit b, sym same)

negative : (limit at n : ℕ) (k : ℤ) → signed_within limit at true n ≡ Ok k
    → (n ≤ limit) × (k ≡ neg_ℤ (pos n))
negative limit at n k h =
    let (b, same) = passed (nat_le n limit) (neg_ℤ (pos n)) (Range at) k h in
    (within n limit b, sym same)

signed_number : (limit at : ℕ) (s : Sign) (minus : Bool) (n : ℕ) (k : ℤ) → is_minus s ≡ Ok minus
    → signed_within limit at minus n ≡ Ok k → IsSigned limit s n k
signed_number limit at s minus n k is fits =
    elim (minus_in s minus is) [
      | inl m ↦
          let h = negative limit at n k (subst (λ b. signed_within limit at b n ≡ Ok k) m.1 fits) in
          inr (m.0, h.0, h.1)
      | inr m ↦
          let h = positive limit at n k (subst (λ b. signed_within limit at b n ≡ Ok k) m.1 fits) in
          inl (m.0, h.0, h.1)
    ]

-- a sign and a number
pub signed : (limit : ℕ) (ts : List Token) (i : ℕ) (k : ℤ) → signed_at limit ts i ≡ Ok k
    → (s : Sign) × (n : ℕ) × At ts i (Signed s) × At ts (i + 1) (Number n) × IsSigned limit s n k
signed limit ts i k h =
    let (minus, front, rest) = bind (sign_at ts i >>= is_minus)
    (λ minus. number_at ts (i + 1) >>= signed_within limit i minus) k h in
    let (s, found, is) = bind (sign_at ts i) is_minus minus front in
    let (n, there, fits) = bind (number_at ts (i + 1)) (signed_within limit i minus) k rest in (
      s,
      n,
      sign_at_token ts i s found,
      number_at_token ts (i + 1) n there,
      signed_number limit i s minus n k is fits,
    )

index_in : (i : ℕ) (t : Token) (p : Bool × ℕ) → number_index i t ≡ Ok p
    → ((p.0 ≡ false) × (p.1 ≡ i)) ⊎ ((t ≡ Signed sign.Minus) × (p.0 ≡ true) × (p.1 ≡ i + 1))
index_in i (Number n) p h =
    let same : (let q : Bool × ℕ = (false, i) in q) ≡ p = cc in
    inl (ap (λ (q : Bool × ℕ). q.0) (sym same), ap (λ (q : Bool × ℕ). q.1) (sym same))
index_in i (Signed sign.Minus) p h =
    let same : (let q : Bool × ℕ = (true, i + 1) in q) ≡ p = cc in
    inr (refl, ap (λ (q : Bool × ℕ). q.0) (sym same), ap (λ (q : Bool × ℕ). q.1) (sym same))
index_in i t p h = absurd (cc)

-- N, and the index after it
pub constant : (ts : List Token) (i : ℕ) (p : ℤ × ℕ) → constant_at ts i ≡ Ok p
    → (xs : List Token) × SpellsConstant xs p.0 × HasTokensAt ts i xs × (p.1 ≡ i + length xs)
constant ts i p h =
    let behind : Bool × ℕ
    → Result (ℤ × ℕ) Wrong = λ (seen : Bool × ℕ). number_at ts seen.1 >>= signed_within
    (2 ^ 31) i seen.0 >>= λ k. Ok (k, seen.1 + 1) in
    let (seen, front, rest) = bind (token_at ts i >>= number_index i)
    (λ (seen : Bool × ℕ). number_at ts seen.1 >>= signed_within (2 ^ 31) i seen.0
    >>= λ k. Ok (k, seen.1 + 1)) p h in
    let (t, here, is) = bind (token_at ts i) (number_index i) seen front in
    let (k, fits, pair) = bind (number_at ts seen.1 >>= signed_within (2 ^ 31) i seen.0)
    (λ (k : ℤ). let r : Result (ℤ × ℕ) Wrong = Ok (k, seen.1 + 1) in r) p rest in
    let (n, there, range) = bind (number_at ts seen.1) (signed_within (2 ^ 31) i seen.0) k fits in
    let same : (let q : ℤ × ℕ = (k, seen.1 + 1) in q) ≡ p = cc (pair) in
    let number_is : p.0 ≡ k = ap (λ (q : ℤ × ℕ). q.0) (sym same) in
    let past : p.1 ≡ seen.1 + 1 = ap (λ (q : ℤ × ℕ). q.1) (sym same) in
    let number = number_at_token ts seen.1 n there in
    elim (index_in i t seen is) [
      | inl m ↦
          let g =
          positive (2 ^ 31) i n k (subst (λ b. signed_within (2 ^ 31) i b n ≡ Ok k) m.0 range) in (
            Number n ∷ [],
            inl (n, refl, g.0, number_is ∙ g.1),
            (subst (λ j. At ts j (Number n)) m.1 number, tt),
            omega (arith, past, m.1),
          )
      | inr m ↦
          let g =
          negative (2 ^ 31) i n k (subst (λ b. signed_within (2 ^ 31) i b n ≡ Ok k) m.1 range) in
          let next : seen.1 ≡ suc i = omega (arith, m.2) in (
            Signed sign.Minus ∷ Number n ∷ [],
            inr (n, refl, g.0, number_is ∙ g.1),
            (token ts i t here ∙ ap some m.0, (subst (λ j. At ts j (Number n)) next number, tt)),
            omega (arith, past, m.2),
          )
    ]

-- ---- operands and places

operand_constant : (w : Width) (ts : List Token) (i : ℕ) (x : Operand × ℕ)
    → (constant_at ts i
    >>= λ (k : ℤ × ℕ). let z : Result (Operand × ℕ) Wrong = Ok (Constant k.0, k.1) in z) ≡ Ok x
    → (xs : List Token) × IsOperand w xs x.0 × HasTokensAt ts i xs × (x.1 ≡ i + length xs)
operand_constant w ts i x h =
    let (k, is, pair) = bind (constant_at ts i)
    (λ (k : ℤ × ℕ). let z : Result (Operand × ℕ) Wrong = Ok (Constant k.0, k.1) in z) x h in
    let (xs, number, tokens_at, past) = constant ts i k is in
    let same : (let q : Operand × ℕ = (Constant k.0, k.1) in q) ≡ x = cc (pair) in (
      xs,
      subst (λ (o : Operand). IsOperand w xs o) (ap (λ (q : Operand × ℕ). q.0) same) number,
      tokens_at,
      ap (λ (q : Operand × ℕ). q.1) (sym same) ∙ past,
    )

operand_of : (w : Width) (ts : List Token) (i : ℕ) (t : Token) (x : Operand × ℕ) → At ts i t
    → operand_token w ts i t ≡ Ok x
    → (xs : List Token) × IsOperand w xs x.0 × HasTokensAt ts i xs × (x.1 ≡ i + length xs)
operand_of w ts i (Named y) x here h =
    let (r, is, pair) = bind (as_register w y)
    (λ (r : Reg). let z : Result (Operand × ℕ) Wrong = Ok (Register r, i + 1) in z) x h in
    let same : (let q : Operand × ℕ = (Register r, i + 1) in q) ≡ x = cc (pair) in (
      reg w r ∷ [],
      subst (λ (o : Operand). IsOperand w (reg w r ∷ []) o)
          (ap (λ (q : Operand × ℕ). q.0) same) refl,
      (here ∙ ap (λ (z : Word). some (Named z)) (register_in w y r is), tt),
      ap (λ (q : Operand × ℕ). q.1) (sym same),
    )
operand_of w ts i (Number m) x here h = operand_constant w ts i x h
operand_of w ts i (Signed m) x here h = operand_constant w ts i x h

pub operand : (w : Width) (ts : List Token) (i : ℕ) (x : Operand × ℕ) → operand_at w ts i ≡ Ok x
    → (xs : List Token) × IsOperand w xs x.0 × HasTokensAt ts i xs × (x.1 ≡ i + length xs)
operand w ts i x h =
    let (t, here, is) = bind (token_at ts i) (operand_token w ts i) x h in
    operand_of w ts i t x (token ts i t here) is

-- R + n or R - n
pub based : (ts : List Token) (i : ℕ) (p : Place) → place_at ts i ≡ Ok p
    → (s : Sign) × (n : ℕ) × At ts i (reg Full64 p.base) × At ts (i + 1) (Signed s)
    × At ts (i + 1 + 1) (Number n) × IsSigned (2 ^ 15) s n p.offset
based ts i p h =
    let (b, base, rest) = bind (register_at Full64 ts i)
    (λ b. signed_at (2 ^ 15) ts (i + 1)
    >>= λ by. let r : Result Place Wrong = Ok (record { base = b; offset = by }) in r) p h in
    let (by, offset, pair) = bind (signed_at (2 ^ 15) ts (i + 1))
    (λ by. let r : Result Place Wrong = Ok (record { base = b; offset = by }) in r) p rest in
    let (s, n, signs, number, is) = signed (2 ^ 15) ts (i + 1) by offset in
    let same : (let q : Place = record { base = b; offset = by } in q) ≡ p = cc (pair) in (
      s,
      n,
      register ts Full64 i b base ∙ ap (λ (q : Place). some (reg Full64 q.base)) same,
      signs,
      number,
      subst (λ (q : Place). IsSigned (2 ^ 15) s n q.offset) same is,
    )
