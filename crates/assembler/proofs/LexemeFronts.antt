-- Laws of the lexeme at the front of a text: once bytes follow it, further ones do not change it.
use Rattle.assembler.proofs.Common.{◌≡◌, ℕ, zero, suc, ◌+◌, ◌-◌, ◌<◌, ◌≤◌, ◌==◌, ◌&&◌, ◌||◌, Bool, true, false, if◌then◌else◌, List, [], ◌∷◌, ◌++◌, length, take, drop, refl, sym, ap, ap₂, ◌∙◌, arith, ne_eqb, Option, Some, None, slice_index, eqb-true, prefix_len, is_digit, length-drop, take-append-le, drop-append-le, Number, Lexeme, Blank, End, Solid}
use Rattle.std.proofs.Math.Nat.{lt_of_not-le}
use Rattle.std.proofs.Math.ListN.{get_or-append}
use Rattle.std.proofs.lemmas.List.Folds.{prefix_len-append}
use Rattle.assembler.specs.Signs.{sign_of, signed_sign}
use Rattle.assembler.specs.Lexing.{is_word_byte, is_line_byte, digits_number, number_after, number_at, number_from, number_end, number_end_at, number_end_from, or_else, word_at, blank_or_sign, word_or_sign, lexeme_at, unknown_at}

-- there is no lexeme, or it ends before all the bytes do
abbrev pub EndsWithin : Option (Lexeme × ℕ) → ℕ → Type 0
EndsWithin None all = Unit {0}
EndsWithin (Some p) all = p.1 < all

prefix-append : (p : ℕ → Bool) (xs more : List ℕ) → prefix_len p xs < length xs
    → prefix_len p (xs ++ more) ≡ prefix_len p xs
prefix-append p xs more h =
    let no : (prefix_len p xs == length xs) ≡ false =
    ne_eqb (prefix_len p xs) (length xs) (λ e. omega (arith, e, h)) in
    prefix_len-append p xs more ∙ rw no refl

-- ---- numbers

after : ℕ → ℕ → ℕ → ℕ → List ℕ → Option (Lexeme × ℕ)
after base skip n b ds =
    if n == 0 then None
    else if is_word_byte b then None
    else Some (Solid (Number (digits_number base 0 ds)), skip + n)

after-is : (base skip n : ℕ) (bs : List ℕ)
    → number_after base skip bs n
    ≡ after base skip n (slice_index bs (skip + n)) (take n (drop skip bs))
unfolding after
after-is base skip n bs = refl

number_after-append : (base skip n : ℕ) (bs more : List ℕ) → skip + n < length bs
    → number_after base skip (bs ++ more) n ≡ number_after base skip bs n
number_after-append base skip n bs more h =
    let byte : slice_index (bs ++ more) (skip + n) ≡ slice_index bs (skip + n) =
    get_or-append bs more 0 (skip + n) h in
    let size : length (drop skip bs) ≡ length bs - skip = length-drop skip bs in
    let digits : take n (drop skip (bs ++ more)) ≡ take n (drop skip bs) =
    ap (take n) (drop-append-le skip bs more (omega (arith, h)))
    ∙ take-append-le n (drop skip bs) more (omega (arith, h, size)) in
    after-is base skip n (bs ++ more) ∙ ap₂ (after base skip n) byte digits
    ∙ sym (after-is base skip n bs)

no_word_byte : (bs : List ℕ) (i : ℕ) → length bs ≤ i → is_word_byte (slice_index bs i) ≡ false
no_word_byte [] i h = refl
no_word_byte (b ∷ bs) zero h = absurd (omega (arith, h))
no_word_byte (b ∷ bs) (suc i) h = no_word_byte bs i (omega (arith, h))

reach : (base skip n : ℕ) (bs : List ℕ) → skip < length bs
    → EndsWithin (number_after base skip bs n) (length bs) → skip + n < length bs
reach base skip n bs some h =
    of (n == 0) (is_word_byte (slice_index bs (skip + n))) refl refl h where
      of : (t u : Bool) → (n == 0) ≡ t → is_word_byte (slice_index bs (skip + n)) ≡ u
          → EndsWithin (if t then None else if u then None
          else Some (Solid (Number (digits_number base 0 (take n (drop skip bs)))), skip + n))
          (length bs)
          → skip + n < length bs
      of true u e g h = let none : n ≡ 0 = eqb-true n 0 e in omega (arith, none, some)
      of false true e g h =
          lt_of_not-le (λ (more : length bs ≤ skip + n). let k : true ≡ false =
          sym g ∙ no_word_byte bs (skip + n) more in cc)
      of false false e g h = h

number_at-append : (base skip : ℕ) (bs more : List ℕ) → skip < length bs
    → EndsWithin (number_at base skip bs) (length bs)
    → (number_at base skip (bs ++ more) ≡ number_at base skip bs)
    × (number_end_at base skip (bs ++ more) ≡ number_end_at base skip bs)
number_at-append base skip bs more some h =
    let n = prefix_len (λ c. is_digit c base) (drop skip bs) in
    let within : skip + n < length bs = reach base skip n bs some h in
    let size : length (drop skip bs) ≡ length bs - skip = length-drop skip bs in
    let count : prefix_len (λ c. is_digit c base) (drop skip (bs ++ more)) ≡ n =
    ap (prefix_len (λ c. is_digit c base)) (drop-append-le skip bs more (omega (arith, some)))
    ∙ prefix-append (λ c. is_digit c base) (drop skip bs) more (omega (arith, within, size)) in (
      ap (number_after base skip (bs ++ more)) count
          ∙ number_after-append base skip n bs more within,
      ap (number_end skip) count,
    )

number_by-append : (t : Bool) (bs more : List ℕ) → 2 < length bs
    → EndsWithin (if t then number_at 16 2 bs else number_at 10 0 bs) (length bs)
    → ((if t then number_at 16 2 (bs ++ more) else number_at 10 0 (bs ++ more))
    ≡ (if t then number_at 16 2 bs else number_at 10 0 bs))
    × ((if t then number_end_at 16 2 (bs ++ more) else number_end_at 10 0 (bs ++ more))
    ≡ (if t then number_end_at 16 2 bs else number_end_at 10 0 bs))
number_by-append true bs more some h = number_at-append 16 2 bs more some h
number_by-append false bs more some h =
    number_at-append 10 0 bs more (omega (arith, some)) h

-- ---- words, blanks and signs

word_at-append : (bs more : List ℕ) → EndsWithin (word_at bs) (length bs)
    → word_at (bs ++ more) ≡ word_at bs
word_at-append bs more h =
    let n = prefix_len is_word_byte bs in
    let count : prefix_len is_word_byte (bs ++ more) ≡ n = prefix-append is_word_byte bs more h in
    let bytes : take n (bs ++ more) ≡ take n bs = take-append-le n bs more (omega (arith, h)) in
    rw count (rw bytes refl)

or_else-alike : (o w v : Option (Lexeme × ℕ)) (all : ℕ) → (EndsWithin w all → v ≡ w)
    → EndsWithin (or_else o w) all → or_else o v ≡ or_else o w
or_else-alike None w v all alike h = alike h
or_else-alike (Some x) w v all alike h = refl

word_by-append : (t : Bool) (o : Option (Lexeme × ℕ)) (bs more : List ℕ)
    → EndsWithin (if t then or_else o (word_at bs) else word_at bs) (length bs)
    → (if t then or_else o (word_at (bs ++ more)) else word_at (bs ++ more))
    ≡ (if t then or_else o (word_at bs) else word_at bs)
word_by-append true o bs more h =
    or_else-alike o (word_at bs) (word_at (bs ++ more)) (length bs) (word_at-append bs more) h
word_by-append false o bs more h = word_at-append bs more h

comment-append : (bs more : List ℕ) → prefix_len is_line_byte bs < length bs
    → (let r : Option (Lexeme × ℕ) = Some (Blank, prefix_len is_line_byte (bs ++ more)) in r)
    ≡ Some (Blank, prefix_len is_line_byte bs)
comment-append bs more h = ap (λ n. let r : Option (Lexeme × ℕ) = Some (Blank, n) in r)
    (prefix-append is_line_byte bs more h)

blank_by-append : (t u v : Bool) (o : Option (Lexeme × ℕ)) (bs more : List ℕ)
    → EndsWithin (if t then Some (Blank, 1) else if u then Some (End, 1)
    else if v then Some (Blank, prefix_len is_line_byte bs) else o) (length bs)
    → (if t then Some (Blank, 1) else if u then Some (End, 1)
    else if v then Some (Blank, prefix_len is_line_byte (bs ++ more)) else o)
    ≡ (if t then Some (Blank, 1) else if u then Some (End, 1)
    else if v then Some (Blank, prefix_len is_line_byte bs) else o)
blank_by-append true u v o bs more h = refl
blank_by-append false true v o bs more h = refl
blank_by-append false false true o bs more h = comment-append bs more h
blank_by-append false false false o bs more h = refl

-- ---- lexemes

-- the bytes begin with the same lexeme when more follow them, or with none as before
abbrev pub BeginsAlike : List ℕ → List ℕ → Type 0
BeginsAlike bs more =
    (lexeme_at (bs ++ more) ≡ lexeme_at bs) × (unknown_at (bs ++ more) ≡ unknown_at bs)

solid-append : (t : Bool) (a b c d : ℕ) (r more : List ℕ)
    → EndsWithin (if t
    then (if a == 115 then or_else (signed_sign b c d) (word_at (a ∷ b ∷ c ∷ d ∷ r))
    else word_at (a ∷ b ∷ c ∷ d ∷ r))
    else blank_or_sign (a ∷ b ∷ c ∷ d ∷ r) a) (length (a ∷ b ∷ c ∷ d ∷ r))
    → (if t
    then (if a == 115 then or_else (signed_sign b c d) (word_at ((a ∷ b ∷ c ∷ d ∷ r) ++ more))
    else word_at ((a ∷ b ∷ c ∷ d ∷ r) ++ more))
    else blank_or_sign ((a ∷ b ∷ c ∷ d ∷ r) ++ more) a)
    ≡ (if t
    then (if a == 115 then or_else (signed_sign b c d) (word_at (a ∷ b ∷ c ∷ d ∷ r))
    else word_at (a ∷ b ∷ c ∷ d ∷ r))
    else blank_or_sign (a ∷ b ∷ c ∷ d ∷ r) a)
solid-append true a b c d r more h =
    word_by-append (a == 115) (signed_sign b c d) (a ∷ b ∷ c ∷ d ∷ r) more h
solid-append false a b c d r more h =
    blank_by-append ((a == 32) || (a == 9)) ((a == 10) || (a == 59)) (a == 35) (sign_of a b c)
    (a ∷ b ∷ c ∷ d ∷ r) more h

front-append : (t : Bool) (a b c d : ℕ) (r more : List ℕ)
    → EndsWithin (if t then number_from (a ∷ b ∷ c ∷ d ∷ r)
    else word_or_sign (a ∷ b ∷ c ∷ d ∷ r) a) (length (a ∷ b ∷ c ∷ d ∷ r))
    → ((if t then number_from ((a ∷ b ∷ c ∷ d ∷ r) ++ more)
    else word_or_sign ((a ∷ b ∷ c ∷ d ∷ r) ++ more) a)
    ≡ (if t then number_from (a ∷ b ∷ c ∷ d ∷ r) else word_or_sign (a ∷ b ∷ c ∷ d ∷ r) a))
    × ((if t then number_end_from ((a ∷ b ∷ c ∷ d ∷ r) ++ more) else 0)
    ≡ (if t then number_end_from (a ∷ b ∷ c ∷ d ∷ r) else 0))
front-append true a b c d r more h =
    number_by-append ((a == 48) && (b == 120)) (a ∷ b ∷ c ∷ d ∷ r) more (omega arith) h
front-append false a b c d r more h = (solid-append (is_word_byte a) a b c d r more h, refl)

-- four bytes are as many as a sign and the byte that decides on it have
pub lexeme_at-append : (bs more : List ℕ) → 4 ≤ length bs
    → EndsWithin (lexeme_at bs) (length bs) → BeginsAlike bs more
lexeme_at-append [] more few h = absurd (omega (arith, few))
lexeme_at-append (a ∷ []) more few h = absurd (omega (arith, few))
lexeme_at-append (a ∷ b ∷ []) more few h = absurd (omega (arith, few))
lexeme_at-append (a ∷ b ∷ c ∷ []) more few h = absurd (omega (arith, few))
lexeme_at-append (a ∷ b ∷ c ∷ d ∷ r) more few h = front-append (is_digit a 10) a b c d r more h
