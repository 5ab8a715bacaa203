-- The lexeme that a text begins with, and its length.
use Rattle.std.specs.Prelude.{ℕ, ◌+◌, ◌*◌, ◌^◌, ◌==◌, nat_lt, ◌&&◌, ◌||◌, not, Bool, if◌then◌else◌, List, [], ◌∷◌, take, drop, slice_index, Option, Some, None}
use Rattle.std.specs.List.{prefix_len}
use Rattle.std.specs.Char.{digit_value, is_digit}
use Rattle.assembler.specs.declared.tokens.Token.TheVariants.{Named, Number}
use Rattle.assembler.specs.declared.tokens.Lexeme.{Lexeme}
use Rattle.assembler.specs.declared.tokens.Lexeme.TheVariants.{Blank, End, Solid}
use Rattle.assembler.specs.Words.{word_of}
use Rattle.assembler.specs.Signs.{sign_of, signed_sign}

-- letters, digits and _
abbrev pub is_word_byte : ℕ → Bool
is_word_byte c = nat_lt (digit_value c) 36 || (c == 95)

-- ---- numbers

-- one more digit; a number past 64 bits does not grow
abbrev pub add_digit : ℕ → ℕ → ℕ → ℕ
add_digit base n c = if nat_lt n (2 ^ 64) then n * base + digit_value c else n

abbrev pub digits_number : ℕ → ℕ → List ℕ → ℕ
digits_number base n [] = n
digits_number base n (c ∷ cs) = digits_number base (add_digit base n c) cs

-- the n digits after the skipped bytes, and no word byte after them
abbrev pub number_after : ℕ → ℕ → List ℕ → ℕ → Option (Lexeme × ℕ)
number_after base skip bs n =
    if n == 0 then None
    else if is_word_byte (slice_index bs (skip + n)) then None
    else Some (Solid (Number (digits_number base 0 (take n (drop skip bs)))), skip + n)

abbrev pub number_at : ℕ → ℕ → List ℕ → Option (Lexeme × ℕ)
number_at base skip bs =
    number_after base skip bs (prefix_len (λ c. is_digit c base) (drop skip bs))

-- hexadecimal digits after 0x, or decimal ones
abbrev pub number_from : List ℕ → Option (Lexeme × ℕ)
number_from bs = if (slice_index bs 0 == 48) && (slice_index bs 1 == 120) then number_at 16 2 bs
    else number_at 10 0 bs

-- the offset at which a number with n digits after the skipped bytes ends; `0x` without a digit is
-- the number 0 with an x after it
abbrev pub number_end : ℕ → ℕ → ℕ
number_end skip n = if n == 0 then 1 else skip + n

abbrev pub number_end_at : ℕ → ℕ → List ℕ → ℕ
number_end_at base skip bs = number_end skip (prefix_len (λ c. is_digit c base) (drop skip bs))

abbrev pub number_end_from : List ℕ → ℕ
number_end_from bs = if (slice_index bs 0 == 48) && (slice_index bs 1 == 120)
    then number_end_at 16 2 bs else number_end_at 10 0 bs

-- ---- words, blanks and signs

abbrev pub or_else : Option (Lexeme × ℕ) → Option (Lexeme × ℕ) → Option (Lexeme × ℕ)
or_else None y = y
or_else (Some x) y = Some x

abbrev pub word_at : List ℕ → Option (Lexeme × ℕ)
word_at bs = let n = prefix_len is_word_byte bs in Some (Solid (Named (word_of (take n bs))), n)

abbrev pub is_line_byte : ℕ → Bool
is_line_byte c = not (c == 10)

-- space and tab; line feed and ; ; # up to the next line feed
abbrev pub blank_or_sign : List ℕ → ℕ → Option (Lexeme × ℕ)
blank_or_sign bs b =
    if (b == 32) || (b == 9) then Some (Blank, 1)
    else if (b == 10) || (b == 59) then Some (End, 1)
    else if b == 35 then Some (Blank, prefix_len is_line_byte bs)
    else sign_of b (slice_index bs 1) (slice_index bs 2)

-- a sign that begins with s goes before a word
abbrev pub word_or_sign : List ℕ → ℕ → Option (Lexeme × ℕ)
word_or_sign bs b =
    if is_word_byte b
    then (if b == 115
    then or_else (signed_sign (slice_index bs 1) (slice_index bs 2) (slice_index bs 3)) (word_at bs)
    else word_at bs)
    else blank_or_sign bs b

abbrev pub lexeme_at : List ℕ → Option (Lexeme × ℕ)
lexeme_at bs =
    let b = slice_index bs 0 in if is_digit b 10 then number_from bs else word_or_sign bs b

-- where there is no lexeme: the offset of the first byte that begins no token
abbrev pub unknown_at : List ℕ → ℕ
unknown_at bs = if is_digit (slice_index bs 0) 10 then number_end_from bs else 0

-- how long the token is, if it is one
abbrev pub token_length : Option (Lexeme × ℕ) → Option ℕ
token_length (Some (Solid t, n)) = Some n
token_length (Some (Blank, n)) = None
token_length (Some (End, n)) = None
token_length None = None
