-- Statements with more tokens than any form has are refused, whatever their other tokens are.
use Rattle.assembler.proofs.Common.{◌≡◌, ℕ, zero, suc, ◌+◌, ◌-◌, ◌<◌, ◌≤◌, length, take, drop, List, [], ◌∷◌, ◌++◌, refl, sym, ap, ap₂, ◌∙◌, inl, inr, arith, Bool, Option, Result, Ok, Err, true, false, ◌==◌, ◌&&◌, ◌||◌, if◌then◌else◌, is_ok, map, slice_get, nat_lt, ℤ, take-append_seam, length-drop, length-append, length-map, length-take-le, Width, Operand, Constant, Register, Insn, Alu, Neg, MovSx, ByteSwap, LoadNumber, LoadMap, LoadMapValue, Load, LoadSx, StoreConstant, Store, Atomic, Exchange, CompareExchange, Jump, JumpLong, JumpIf, CallHelper, CallLocal, Exit, MapDef, Token, Lexeme, Blank, End, Solid, NoForm, Refusal, Statement, Empty, Row, Instruction, Reading, Wrong, Form, Range, ◌>>=◌, number_at, word_at, as_map_type, field_at, reading_of, map_line, begins_map_line, begins_version_line, version_number, version_line, spelled, spelled_behind, fits_form, zeroed, has_form, is_label, label_length, SpellsConstant, IsWide, IsOperand, IsTarget, Spells, TokenSpan, ReadSoFar, offset_or, begins_at, refusal_of, at_end_behind, at_end, accept, next_lexeme, read_on, with_statement, cut, shortened, pushed, accept_short}
use Rattle.std.proofs.lemmas.Bool.{lt-ltb}
use Rattle.assembler.proofs.SpellsTokens.{bind, kept, equal, below}
use Rattle.assembler.proofs.SpellsLaws.{reading_of-Spells}

-- ---- how many tokens a form has

constant-length : (ts : List Token) (k : ℤ) → SpellsConstant ts k → length ts ≤ 2
constant-length ts k (inl (n, is, more, same)) = omega (arith, ap length is)
constant-length ts k (inr (n, is, more, same)) = omega (arith, ap length is)

wide-length : (ts : List Token) (k : ℕ) → IsWide ts k → length ts ≤ 2
wide-length ts k (inl (n, is, more, same)) = omega (arith, ap length is)
wide-length ts k (inr (n, is, more, same)) = omega (arith, ap length is)

operand-length : (w : Width) (ts : List Token) (x : Operand) → IsOperand w ts x → length ts ≤ 2
operand-length w ts (Register r) is = omega (arith, ap length is)
operand-length w ts (Constant k) is = constant-length ts k is

target-length : (limit : ℕ) (ts : List Token) (by : ℤ) (i : ℕ) (name : Option ℕ)
    → IsTarget limit ts by i name → length ts ≤ 2
target-length limit ts by i name (inl (s, n, is, more, none)) = omega (arith, ap length is)
target-length limit ts by i name (inr (x, is, pc, zero_is, named)) = omega (arith, ap length is)

Spells-length : (ts : List Token) (i : Insn) (name : Option ℕ) → Spells ts i name
    → length ts ≤ 13
unfolding Spells
Spells-length ts (Alu w o d x) name (none, (xs, h, is)) =
    omega (arith, ap length is, operand-length w xs x h)
Spells-length ts (Neg w d) name (none, is) = omega (arith, ap length is)
Spells-length ts (MovSx e d s) name (none, is) = omega (arith, ap length is)
Spells-length ts (ByteSwap order bits d) name (none, is) = omega (arith, ap length is)
Spells-length ts (LoadNumber d k) name (none, (xs, h, is)) =
    omega (arith, ap length is, length-append {A = Token}, wide-length xs k h)
Spells-length ts (LoadMap d m) name (none, (n, m_is, is)) = omega (arith, ap length is)
Spells-length ts (LoadMapValue d m offset) name (none, (n, k, m_is, offset_is, is)) =
    omega (arith, ap length is)
Spells-length ts (Load size d p) name (none, (s, n, h, is)) = omega (arith, ap length is)
Spells-length ts (LoadSx size d p) name (none, (s, n, h, is)) = omega (arith, ap length is)
Spells-length ts (StoreConstant size p k) name (none, (xs, h, (s, n, offset, is))) =
    omega (arith, ap length is, constant-length xs k h)
Spells-length ts (Store size p r) name (none, (s, n, h, is)) = omega (arith, ap length is)
Spells-length ts (Atomic w o false p r) name (none, (s, n, h, is)) = omega (arith, ap length is)
Spells-length ts (Atomic w o true p r) name (none, (s, n, h, is)) = omega (arith, ap length is)
Spells-length ts (Exchange w p r) name (none, (s, n, h, is)) = omega (arith, ap length is)
Spells-length ts (CompareExchange w p r) name (none, (s, n, h, is)) = omega (arith, ap length is)
Spells-length ts (Jump by) name (xs, h, is) =
    omega (arith, ap length is, target-length _ xs by 1 name h)
Spells-length ts (JumpLong by) name (xs, h, is) =
    omega (arith, ap length is, target-length _ xs by 1 name h)
Spells-length ts (JumpIf cond by) name (xs, ys, h, t, is) =
    omega (
      arith,
      ap length is,
      length-append {A = Token},
      operand-length cond.width xs cond.operand h,
      target-length _ ys by (4 + length xs) name t,
    )
Spells-length ts (CallHelper k) name (none, (xs, h, is)) =
    omega (arith, ap length is, constant-length xs k h)
Spells-length ts (CallLocal by) name (inl (none, (s, n, h, is))) = omega (arith, ap length is)
Spells-length ts (CallLocal by) name (inr (x, pc, by_is, named, is)) = omega (arith, ap length is)
Spells-length ts Exit name (none, is) = omega (arith, ap length is)

reading-length : (ts : List Token) (r : Reading) → reading_of ts ≡ Ok r → length ts ≤ 13
reading-length ts r h = Spells-length ts r.insn r.name (reading_of-Spells ts r h)

row-length : (ts : List Token) (row : MapDef) → map_line ts ≡ Ok row → length ts ≤ 13
row-length ts row h =
    let (kind, one, h1) = bind (word_at ts 1 >>= as_map_type) _ row h in
    let (key, two, h2) = bind (field_at 65535 ts 2) _ row h1 in
    let (value, three, h3) = bind (field_at 4294967295 ts 3) _ row h2 in
    let (entries, four, h4) = bind (field_at 4294967295 ts 4) _ row h3 in
    let (last, same) = kept (length ts == 5) _ row h4 in
    omega (arith, equal (length ts) 5 last)

number-length : (ts : List Token) (n : ℕ) → version_number ts ≡ Ok n → length ts ≤ 13
number-length ts n h =
    let (m, one, h1) = bind (number_at ts 1) _ n h in
    let (last, same) = kept (length ts == 2) _ n h1 in
    omega (arith, equal (length ts) 2 last)

line-length : (ts : List Token) (s : Statement) → version_line ts ≡ Ok s → length ts ≤ 13
line-length ts s h =
    let (n, one, h1) = bind (version_number ts) _ s h in number-length ts n one

-- ---- longer statements

spelled-length : (ts : List Token) (s : Statement) → spelled ts ≡ Ok s → length ts ≤ 13
spelled-length ts s h = of (length ts == 0) refl (begins_map_line (slice_get ts 0)) h where
  of : (b : Bool) → (length ts == 0) ≡ b → (c : Bool)
      → (if b then Ok Empty else if c then (map_line ts >>= λ row. Ok (Row row))
      else (reading_of ts >>= λ r. Ok (Instruction r))) ≡ Ok s
      → length ts ≤ 13
  of true e c h = omega (arith, equal (length ts) 0 e)
  of false e true h = let (row, one, rest) = bind (map_line ts) _ s h in row-length ts row one
  of false e false h = let (r, one, rest) = bind (reading_of ts) _ s h in reading-length ts r one

behind-length : (k : ℕ) (ts : List Token) (s : Statement) → spelled_behind k ts ≡ Ok s
    → length ts ≤ 13
behind-length k ts s h = of (begins_version_line (slice_get ts 0)) (k == 0) h where
  of : (b c : Bool) → (if b then (if c then version_line ts else Err Form) else spelled ts) ≡ Ok s
      → length ts ≤ 13
  of true true h = line-length ts s h
  of true false h = absurd (cc)
  of false c h = spelled-length ts s h

wrong : {A : Type 0} (r : Result A Wrong) → ((x : A) → r ≡ Ok x → ⊥) → (w : Wrong) × (r ≡ Err w)
wrong (Ok x) h = absurd (h x refl)
wrong (Err w) h = (w, refl)

not_ok : {A : Type 0} (r : Result A Wrong) → ((x : A) → r ≡ Ok x → ⊥) → is_ok r ≡ false
not_ok (Ok x) h = absurd (h x refl)
not_ok (Err w) h = refl

neither : (b : Bool) → ((b && false) || false) ≡ false
neither true = refl
neither false = refl

fits-long : (ts : List Token) → 13 < length ts → fits_form ts ≡ false
fits-long ts long =
    let no_version : is_ok (version_number ts) ≡ false =
    not_ok (version_number ts) (λ n h. omega (arith, number-length ts n h, long)) in
    let no_reading : is_ok (reading_of ts) ≡ false =
    not_ok (reading_of ts) (λ r h. omega (arith, reading-length ts r h, long)) in
    ap (λ (b : Bool). (begins_version_line (slice_get ts 0) && b) || is_ok (reading_of ts))
    no_version
    ∙ ap (λ (b : Bool). (begins_version_line (slice_get ts 0) && false) || b) no_reading
    ∙ neither (begins_version_line (slice_get ts 0))

has_form-long : (ts : List Token) → 13 < length ts → has_form ts ≡ false
has_form-long ts long =
    let size : length (map zeroed ts) ≡ length ts = length-map ts zeroed in
    fits-long (map zeroed ts) (omega (arith, size, long))

refusal_of-long : (s : ReadSoFar) (k : ℕ) (w : Wrong) → 13 < length (drop k s.tokens)
    → refusal_of s k w ≡ (let r : Refusal = record { kind = NoForm; offset = begins_at s } in r)
refusal_of-long s k Form long = refl
refusal_of-long s k (Range token) long = rw (has_form-long (drop k s.tokens) long) refl

wrong_end : (s : ReadSoFar) (k : ℕ) (w : Wrong) → spelled_behind k (drop k s.tokens) ≡ Err w
    → at_end_behind s k ≡ Err (refusal_of s k w)
wrong_end s k w e = rw e refl

label-short : (ts : List Token) → label_length ts ≤ 2
label-short ts = of (is_label (slice_get ts 0) (slice_get ts 1)) where
  of : (b : Bool) → (if b then 2 else 0) ≤ 2
  of true = omega arith
  of false = omega arith

-- the end of a statement with more tokens than a label and a form have
pub long_refused : (s : ReadSoFar) → 15 < length s.tokens
    → at_end s ≡ Err (record { kind = NoForm; offset = begins_at s })
long_refused s long =
    let k = label_length s.tokens in
    let few : k ≤ 2 = label-short s.tokens in
    let size : length (drop k s.tokens) ≡ length s.tokens - k = length-drop k s.tokens in
    let more : 13 < length (drop k s.tokens) = omega (arith, size, few, long) in
    let found = wrong (spelled_behind k (drop k s.tokens))
    (λ x h. omega (arith, behind-length k (drop k s.tokens) x h, more)) in
    wrong_end s k found.0 found.1
    ∙ ap (λ (r : Refusal). let e : Result ReadSoFar Refusal = Err r in e)
    (refusal_of-long s k found.0 more)

-- ---- statements of which no more tokens are kept than a label and a form have

take_again : {A : Type 0} (n : ℕ) (xs ys : List A)
    → take n (take n xs ++ ys) ≡ take n (xs ++ ys)
take_again zero xs ys = refl
take_again (suc n) [] ys = refl
take_again (suc n) (x ∷ xs) ys = ap (λ (l : List _). x ∷ l) (take_again n xs ys)

first-take : (xs : List TokenSpan) → slice_get (take 16 xs) 0 ≡ slice_get xs 0
first-take [] = refl
first-take (x ∷ xs) = refl

at_end-cut : (s : ReadSoFar) → 16 < length s.tokens → at_end (cut s) ≡ at_end s
at_end-cut s long =
    let size : length (take 16 s.tokens) ≡ 16 = length-take-le 16 s.tokens (omega (arith, long)) in
    long_refused (cut s) (omega (arith, size))
    ∙ ap (λ (span : Option TokenSpan). let r : Result ReadSoFar Refusal =
    Err (record { kind = NoForm; offset = offset_or span 0 }) in r) (first-take s.spans)
    ∙ sym (long_refused s (omega (arith, long)))

lt-of : (s : ReadSoFar) → nat_lt 16 (length s.tokens) ≡ true → 16 < length s.tokens
lt-of s e = below 16 (length s.tokens) e

pub shortened-long : (s : ReadSoFar) → 16 < length s.tokens → shortened s ≡ cut s
shortened-long s long = rw (lt-ltb 16 (length s.tokens) long) refl

at_end-shortened : (s : ReadSoFar) → at_end (shortened s) ≡ at_end s
at_end-shortened s = of (nat_lt 16 (length s.tokens)) refl where
  of : (b : Bool) → nat_lt 16 (length s.tokens) ≡ b → at_end (if b then cut s else s) ≡ at_end s
  of true e = at_end-cut s (lt-of s e)
  of false e = refl

pushed-cut : (s : ReadSoFar) (t : Token) (span : TokenSpan) → 16 < length s.tokens
    → shortened (pushed (cut s) t span) ≡ shortened (pushed s t span)
pushed-cut s t span long =
    let size : length (take 16 s.tokens) ≡ 16 = length-take-le 16 s.tokens (omega (arith, long)) in
    let one : length (take 16 s.tokens ++ t ∷ []) ≡ length (take 16 s.tokens) + 1 =
    length-append (take 16 s.tokens) (t ∷ []) in
    let two : length (s.tokens ++ t ∷ []) ≡ length s.tokens + 1 =
    length-append s.tokens (t ∷ []) in
    shortened-long (pushed (cut s) t span) (omega (arith, one, size))
    ∙ ap₂ (λ (ts : List Token) (spans : List TokenSpan). with_statement s ts spans)
    (take_again 16 s.tokens (t ∷ [])) (take_again 16 s.spans (span ∷ []))
    ∙ sym (shortened-long (pushed s t span) (omega (arith, two, long)))

pushed-shortened : (s : ReadSoFar) (t : Token) (span : TokenSpan)
    → shortened (pushed (shortened s) t span) ≡ shortened (pushed s t span)
pushed-shortened s t span = of (nat_lt 16 (length s.tokens)) refl where
  of : (b : Bool) → nat_lt 16 (length s.tokens) ≡ b
      → shortened (pushed (if b then cut s else s) t span) ≡ shortened (pushed s t span)
  of true e = pushed-cut s t span (lt-of s e)
  of false e = refl

take_full : {A : Type 0} (xs ys : List A) → length xs ≡ 16 → take 16 (xs ++ ys) ≡ xs
take_full xs ys e = ap (λ n. take n (xs ++ ys)) (sym e) ∙ take-append_seam xs ys

-- one more token of a statement of which as many are kept as a label and a form have
pub pushed-full : (s : ReadSoFar) (t : Token) (span : TokenSpan) → length s.tokens ≡ 16
    → length s.spans ≡ 16 → shortened (pushed s t span) ≡ s
pushed-full s t span tokens spans =
    let one : length (s.tokens ++ t ∷ []) ≡ length s.tokens + 1 =
    length-append s.tokens (t ∷ []) in
    shortened-long (pushed s t span) (omega (arith, one, tokens))
    ∙ ap₂ (λ (ts : List Token) (xs : List TokenSpan). with_statement s ts xs)
    (take_full s.tokens (t ∷ []) tokens) (take_full s.spans (span ∷ []) spans)

abbrev GoesOn : List ℕ → Type 0
GoesOn bs = (k at : ℕ) (s : ReadSoFar) → read_on bs k at (shortened s) ≡ read_on bs k at s

lexeme-shortened : (b : ℕ) (bs : List ℕ) (at : ℕ) (s : ReadSoFar) → GoesOn bs
    → (found : Result (Lexeme × ℕ) Refusal)
    → (found >>= λ (p : Lexeme × ℕ). accept (shortened s) p.0 (at, take p.1 (b ∷ bs))
    >>= λ t. read_on bs (p.1 - 1) (at + 1) t)
    ≡ (found >>= λ (p : Lexeme × ℕ). accept s p.0 (at, take p.1 (b ∷ bs))
    >>= λ t. read_on bs (p.1 - 1) (at + 1) t)
lexeme-shortened b bs at s on (Err e) = refl
lexeme-shortened b bs at s on (Ok (Blank, n)) = on (n - 1) (at + 1) s
lexeme-shortened b bs at s on (Ok (End, n)) =
    ap (λ (r : Result ReadSoFar Refusal). r >>= λ t. read_on bs (n - 1) (at + 1) t)
    (at_end-shortened s)
lexeme-shortened b bs at s on (Ok (Solid t, n)) =
    let span : TokenSpan = (at, take n (b ∷ bs)) in
    sym (on (n - 1) (at + 1) (pushed (shortened s) t span))
    ∙ ap (read_on bs (n - 1) (at + 1)) (pushed-shortened s t span)
    ∙ on (n - 1) (at + 1) (pushed s t span)

-- the text goes on alike
read_on-shortened : (bs : List ℕ) → GoesOn bs
read_on-shortened [] k at s = at_end-shortened s
read_on-shortened (b ∷ bs) (suc k) at s = read_on-shortened bs k (at + 1) s
read_on-shortened (b ∷ bs) zero at s =
    lexeme-shortened b bs at s (read_on-shortened bs) (next_lexeme at (b ∷ bs))

-- it goes on alike after a lexeme
pub accept-short : (s : ReadSoFar) (x : Lexeme) (span : TokenSpan) (bs : List ℕ) (k at : ℕ)
    → (accept s x span >>= λ t. read_on bs k at t)
    ≡ (accept_short s x span >>= λ t. read_on bs k at t)
accept-short s Blank span bs k at = refl
accept-short s End span bs k at = refl
accept-short s (Solid t) span bs k at = sym (read_on-shortened bs k at (pushed s t span))
