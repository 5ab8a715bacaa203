-- Laws of columns, counted byte by byte.
use Rattle.assembler.proofs.Common.{◌≡◌, ◌≢◌, ℕ, ◌+◌, ◌<◌, false, true, List, [], ◌∷◌, take, length, get_or, refl, ap, ◌∙◌, arith, ne_eqb, eq-eqb, ◌==◌, reverse, prefix_len, take_more, reverse-append, is_line_byte, column_behind}

one_more : (xs : List ℕ) (i : ℕ) → i < length xs
    → column_behind (take (i + 1) xs)
    ≡ prefix_len is_line_byte (get_or xs i 0 ∷ reverse (take i xs)) + 1
one_more xs i h =
    ap (λ ys. column_behind ys) (take_more xs i 0 h)
    ∙ ap (λ ys. prefix_len is_line_byte ys + 1) (reverse-append (take i xs) (get_or xs i 0 ∷ []))

-- after a line feed
pub column_feed : (xs : List ℕ) (i : ℕ) → i < length xs → get_or xs i 0 ≡ 10
    → column_behind (take (i + 1) xs) ≡ 1
column_feed xs i h e =
    let feed : (get_or xs i 0 == 10) ≡ true = eq-eqb (get_or xs i 0) 10 e in
    one_more xs i h ∙ rw feed refl

-- after any other byte
pub column_line : (xs : List ℕ) (i : ℕ) → i < length xs → get_or xs i 0 ≢ 10
    → column_behind (take (i + 1) xs) ≡ column_behind (take i xs) + 1
column_line xs i h e =
    let other : (get_or xs i 0 == 10) ≡ false = ne_eqb (get_or xs i 0) 10 e in
    one_more xs i h ∙ rw other (omega arith)

-- the column after one byte more
pub ruleset columns = (column_feed, column_line)
