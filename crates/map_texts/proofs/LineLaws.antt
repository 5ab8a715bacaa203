-- Laws of lines: which of their bytes say that they are passed over, and how long lines are.
use Rattle.map_texts.proofs.Common.{◌≡◌, ℕ, ◌+◌, ◌<◌, ◌≤◌, List, [], ◌∷◌, ◌++◌, length, take, drop, true, false, refl, ap, ◌∙◌, arith, nat_lt, drop_more, get_or-map, length-map, MapDef, KeyValues, MapState, map_at, rows_of, LongLine, ReadFailed, is_passed, is_too_long, longest_line, line_meaning, map_line_meaning, accepted, refused, after_line, after_meaning, after_cut_line}

-- ---- the first five bytes say whether a line is passed over

passed_five : (a b c d e : ℕ) (s t : List ℕ)
    → is_passed (a ∷ b ∷ c ∷ d ∷ e ∷ s) ≡ is_passed (a ∷ b ∷ c ∷ d ∷ e ∷ t)
passed_five a b c d e s t = refl

pub is_passed-append : (line rest : List ℕ) → 5 ≤ length line
    → is_passed (line ++ rest) ≡ is_passed line
is_passed-append [] rest h = absurd (omega arith)
is_passed-append (a ∷ []) rest h = absurd (omega arith)
is_passed-append (a ∷ b ∷ []) rest h = absurd (omega arith)
is_passed-append (a ∷ b ∷ c ∷ []) rest h = absurd (omega arith)
is_passed-append (a ∷ b ∷ c ∷ d ∷ []) rest h = absurd (omega arith)
is_passed-append (a ∷ b ∷ c ∷ d ∷ e ∷ s) rest h = passed_five a b c d e (s ++ rest) s

pub is_passed-front : (line : List ℕ) → 5 ≤ length line → is_passed (take 5 line) ≡ is_passed line
is_passed-front [] h = absurd (omega arith)
is_passed-front (a ∷ []) h = absurd (omega arith)
is_passed-front (a ∷ b ∷ []) h = absurd (omega arith)
is_passed-front (a ∷ b ∷ c ∷ []) h = absurd (omega arith)
is_passed-front (a ∷ b ∷ c ∷ d ∷ []) h = absurd (omega arith)
is_passed-front (a ∷ b ∷ c ∷ d ∷ e ∷ s) h = passed_five a b c d e [] s

-- ---- what lines do that are passed over, or too long

module _ (rows : List MapDef) (number : ℕ) (contents : List KeyValues) (line : List ℕ) where
  pub passed_line : is_passed line ≡ true
      → after_line rows number contents line ≡ accepted contents
  unfolding line_meaning
  passed_line h = rw h refl

  pub passed_cut : is_passed line ≡ true
      → after_cut_line rows number contents line ≡ refused contents ReadFailed number 1
  passed_cut h = rw h refl

  pub allowed_cut : is_too_long rows line ≡ false
      → after_cut_line rows number contents line ≡ refused contents ReadFailed number 1
  allowed_cut h = rw h refl

  pub plain_line : is_passed line ≡ false → nat_lt (longest_line rows) (length line) ≡ false
      → after_line rows number contents line
      ≡ after_meaning number contents (map_line_meaning rows line)
  unfolding line_meaning
  plain_line a b = rw (a, b) refl

  module _ (other : is_passed line ≡ false) (long : longest_line rows < length line) where
    test : nat_lt (longest_line rows) (length line) ≡ true
    test = grind arith

    pub long_line : after_line rows number contents line
        ≡ refused contents LongLine number (longest_line rows + 1)
    unfolding line_meaning
    long_line = rw (other, test) refl

    pub long_cut : after_cut_line rows number contents line
        ≡ refused contents LongLine number (longest_line rows + 1)
    long_cut = rw (other, test) refl

-- ---- the longest line has more than five bytes

pub longest_line-six : (rows : List MapDef) → 6 ≤ longest_line rows
longest_line-six [] = omega arith
longest_line-six (row ∷ rows) = omega arith

-- the rows from one on
pub rows_from : (ms : List MapState) (i : ℕ) → i < length ms
    → drop i (rows_of ms) ≡ (map_at ms i).row ∷ drop (i + 1) (rows_of ms)
rows_from ms i inside =
    let d = (map_at ms i).row in
    let short : i < length (rows_of ms) = let l = length-map ms (λ m. m.row) in omega arith in
    drop_more (rows_of ms) i d short
    ∙ ap (λ (r : MapDef). r ∷ drop (i + 1) (rows_of ms)) (get_or-map (λ m. m.row) ms i _ d inside)
