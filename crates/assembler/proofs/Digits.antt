-- Numbers that were written are read.
use Rattle.assembler.proofs.Common.{◌≡◌, ℕ, suc, ◌+◌, ◌*◌, ◌<◌, ◌≤◌, ◌^◌, List, [], ◌∷◌, ◌++◌, length, take, drop, refl, ap, ◌∙◌, arith, lt-ltb, le-ltb, zero-add, ne_eqb, lit≤, Some, Bool, true, false, slice_index, decimal, nat_lt, ◌==◌, ◌&&◌, if◌then◌else◌, prefix_len, digit_value, is_digit, digits, get_or_at, take-append_seam, Number, Solid}
use Rattle.std.specs.Str.Parse.{AllDigits, IsNumeral, digits_value, digits_value_after}
use Rattle.std.proofs.lemmas.Fmt.{decimal_is_IsNumeral, digits_is_IsNumeral}
use Rattle.std.proofs.Math.Nat.{mul-le-mul_left}
use Rattle.std.proofs.lemmas.Str.Parse.{digit_from_value}
use Rattle.assembler.specs.Lexing.{is_word_byte, number_at, number_after, number_from, digits_number, lexeme_at}
use Rattle.assembler.proofs.PlainTexts.{PlainReadSoFar, read_rest}
use Rattle.assembler.proofs.FrontTokens.{token}

-- digits up to the first byte that is not a digit
prefix-digits : (base c : ℕ) (ds rest : List ℕ) → AllDigits base ds → is_digit c base ≡ false
    → prefix_len (λ b. is_digit b base) (ds ++ c ∷ rest) ≡ length ds
prefix-digits base c [] rest h e = rw e refl
prefix-digits base c (d ∷ ds) rest h e =
    let t : nat_lt (digit_value d) base ≡ true = lt-ltb (digit_value d) base h.0 in
    let more : prefix_len (λ b. is_digit b base) (ds ++ c ∷ rest) ≡ length ds =
    prefix-digits base c ds rest h.1 e in
    rw t (rw more (omega arith))

value-ge : (base n : ℕ) (ds : List ℕ) → 0 < base → n ≤ digits_value_after base n ds
value-ge base n [] p = omega arith
value-ge base n (d ∷ ds) p =
    let more : n * base + digit_value d ≤ digits_value_after base (n * base + digit_value d) ds =
    value-ge base (n * base + digit_value d) ds p in
    let least : n * 1 ≤ n * base = mul-le-mul_left n p in
    omega arith

number-is : (base n : ℕ) (ds : List ℕ) → 0 < base → digits_value_after base n ds < 2 ^ 64
    → digits_number base n ds ≡ digits_value_after base n ds
number-is base n [] p h = refl
number-is base n (d ∷ ds) p h =
    let more : n * base + digit_value d ≤ digits_value_after base (n * base + digit_value d) ds =
    value-ge base (n * base + digit_value d) ds p in
    let least : n * 1 ≤ n * base = mul-le-mul_left n p in
    let small : nat_lt n (2 ^ 64) ≡ true = lt-ltb n (2 ^ 64) (omega arith) in
    rw small (number-is base (n * base + digit_value d) ds p h)

number-found : (base skipped c : ℕ) (bs ds rest : List ℕ) → drop skipped bs ≡ ds ++ c ∷ rest
    → slice_index bs (skipped + length ds) ≡ c → IsNumeral base ds → digits_value base ds < 2 ^ 64
    → is_word_byte c ≡ false → is_digit c base ≡ false → 0 < base
    → number_at base skipped bs ≡ Some (Solid (Number (digits_value base ds)), skipped + length ds)
number-found base skipped c bs [] rest e at h small w g p = absurd (omega (arith, h.0))
number-found base skipped c bs (d ∷ ds) rest e at h small w g p =
    let many : prefix_len (λ b. is_digit b base) (drop skipped bs) ≡ suc (length ds) =
    rw e (prefix-digits base c (d ∷ ds) rest h.1 g) in
    let taken : take (suc (length ds)) (drop skipped bs) ≡ d ∷ ds =
    rw e (take-append_seam (d ∷ ds) (c ∷ rest)) in
    let same : digits_number base 0 (d ∷ ds) ≡ digits_value base (d ∷ ds) =
    number-is base 0 (d ∷ ds) p small in
    let no_word : is_word_byte (slice_index bs (skipped + suc (length ds))) ≡ false =
    ap is_word_byte at ∙ w in
    let some : (suc (length ds) == 0) ≡ false =
    ne_eqb (suc (length ds)) 0 (λ q. omega (arith, q)) in
    ap (number_after base skipped bs) many ∙ rw some (rw no_word (rw taken (rw same refl)))

-- ---- a byte below the digits follows them

low-word : (c : ℕ) → c < 48 → is_word_byte c ≡ false
low-word c h =
    let t : nat_lt c 48 ≡ true =
    lt-ltb c 48 h in let u : (c == 95) ≡ false = ne_eqb c 95 (λ e. omega arith) in
    rw t u

low-digit : (c base : ℕ) → c < 48 → base ≤ 16 → is_digit c base ≡ false
low-digit c base h k =
    let t : nat_lt c 48 ≡ true = lt-ltb c 48 h in rw t (le-ltb 36 base (omega arith))

no-x : (c : ℕ) (ds rest : List ℕ) → AllDigits 10 ds → c < 48
    → (slice_index (ds ++ c ∷ rest) 0 == 120) ≡ false
no-x c [] rest h low = ne_eqb c 120 (λ e. omega arith)
no-x c (d ∷ ds) rest h low = let range = digit_from_value d h.0 in ne_eqb d 120 (λ e. omega arith)

and-false : (b c : Bool) → c ≡ false → (b && c) ≡ false
and-false true c h = h
and-false false c h = refl

if-true : {A : Type 0} (b : Bool) (x y : A) → b ≡ true → (if b then x else y) ≡ x
if-true b x y h = rw h refl

if-false : {A : Type 0} (b : Bool) (x y : A) → b ≡ false → (if b then x else y) ≡ y
if-false b x y h = rw h refl

lexeme-decimal : (c : ℕ) (ds rest : List ℕ) → IsNumeral 10 ds → digits_value 10 ds < 2 ^ 64 → c < 48
    → lexeme_at (ds ++ c ∷ rest) ≡ Some (Solid (Number (digits_value 10 ds)), length ds)
lexeme-decimal c [] rest h small low = absurd (omega (arith, h.0))
lexeme-decimal c (d ∷ ds) rest h small low =
    let bs = d ∷ (ds ++ c ∷ rest) in
    let digit : nat_lt (digit_value d) 10 ≡ true = lt-ltb (digit_value d) 10 h.1.0 in
    let no_prefix : ((d == 48) && (slice_index (ds ++ c ∷ rest) 0 == 120)) ≡ false =
    and-false (d == 48) (slice_index (ds ++ c ∷ rest) 0 == 120) (no-x c ds rest h.1.1 low) in
    let at : slice_index bs (0 + length (d ∷ ds)) ≡ c =
    get_or_at (d ∷ ds) c rest 0 (0 + length (d ∷ ds)) (omega arith) in
    let number : number_at 10 0 bs
    ≡ Some (Solid (Number (digits_value 10 (d ∷ ds))), 0 + length (d ∷ ds)) = number-found 10 0
    c bs (d ∷ ds) rest refl at h small (low-word c low) (low-digit c 10 low (omega arith))
    (omega arith) in
    let front : lexeme_at bs ≡ number_from bs = if-true (is_digit d 10) (number_from bs) _ digit in
    let in_ten : number_from bs ≡ number_at 10 0 bs =
    if-false _ (number_at 16 2 bs) (number_at 10 0 bs) no_prefix in
    front ∙ in_ten ∙ number
    ∙ ap (λ k. Some (Solid (Number (digits_value 10 (d ∷ ds))), k)) (zero-add (length (d ∷ ds)))

-- what was read, with one more number
abbrev with_number : PlainReadSoFar → ℕ → PlainReadSoFar
with_number s n = record { tokens = s.tokens ++ Number n ∷ []; parts = s.parts }

pub decimal-read : (n c : ℕ) (rest : List ℕ) (s : PlainReadSoFar) → n < 2 ^ 64 → c < 48
    → read_rest (decimal n ++ c ∷ rest) 0 s
    ≡ read_rest (c ∷ rest) 0 (record { tokens = s.tokens ++ Number n ∷ []; parts = s.parts })
decimal-read n c rest s small low =
    let own = decimal_is_IsNumeral n small in
    let fits : digits_value 10 (decimal n) < 2 ^ 64 = rw own.1 small in
    token (decimal n) (c ∷ rest) (Number (digits_value 10 (decimal n))) s
    (lexeme-decimal c (decimal n) rest own.0 fits low) own.0.0
    ∙ ap (λ v. read_rest (c ∷ rest) 0 (with_number s v)) own.1

-- hexadecimal digits after 0x
pub hexadecimal-read : (n c : ℕ) (rest : List ℕ) (s : PlainReadSoFar) → n < 2 ^ 64 → c < 48
    → read_rest (48 ∷ 120 ∷ (digits 16 false n ++ c ∷ rest)) 0 s
    ≡ read_rest (c ∷ rest) 0 (record { tokens = s.tokens ++ Number n ∷ []; parts = s.parts })
hexadecimal-read n c rest s small low =
    let own = digits_is_IsNumeral 16 false (lit≤ tt) (lit≤ tt) n (omega arith) in
    let ds = digits 16 false n in
    let fits : digits_value 16 ds < 2 ^ 64 = rw own.1 small in
    let at : slice_index (48 ∷ 120 ∷ (ds ++ c ∷ rest)) (2 + length ds) ≡ c =
    get_or_at (48 ∷ 120 ∷ ds) c rest 0 (2 + length ds) (omega arith) in
    let number : number_at 16 2 (48 ∷ 120 ∷ (ds ++ c ∷ rest))
    ≡ Some (Solid (Number (digits_value 16 ds)), 2 + length ds) = number-found 16 2 c
    (48 ∷ 120 ∷ (ds ++ c ∷ rest)) ds rest refl at own.0 fits (low-word c low)
    (low-digit c 16 low (omega arith)) (omega arith) in
    let long : 2 + length ds ≡ length (48 ∷ 120 ∷ ds) = omega arith in
    token (48 ∷ 120 ∷ ds) (c ∷ rest) (Number (digits_value 16 ds)) s
    (number ∙ ap (λ k. Some (Solid (Number (digits_value 16 ds)), k)) long) (omega arith)
    ∙ ap (λ v. read_rest (c ∷ rest) 0 (with_number s v)) own.1

no-equals-digits : (c : ℕ) (ds rest : List ℕ) → AllDigits 10 ds → c < 48
    → (slice_index (ds ++ c ∷ rest) 0 == 61) ≡ false
no-equals-digits c [] rest h low = ne_eqb c 61 (λ e. omega arith)
no-equals-digits c (d ∷ ds) rest h low =
    let range = digit_from_value d h.0 in ne_eqb d 61 (λ e. omega arith)

-- no digits begin with =
pub no-equals : (n c : ℕ) (rest : List ℕ) → n < 2 ^ 64 → c < 48
    → (slice_index (decimal n ++ c ∷ rest) 0 == 61) ≡ false
no-equals n c rest small low =
    no-equals-digits c (decimal n) rest (decimal_is_IsNumeral n small).0.1 low
