-- Laws of positions: where the bytes behind a gap in a text are.
use Rattle.assembler.proofs.Common.{◌≡◌, ℕ, ◌+◌, ◌-◌, ◌<◌, ◌≤◌, ◌==◌, ◌⊎◌, inl, inr, ◌&&◌, ◌||◌, Bool, true, false, if◌then◌else◌, List, [], ◌∷◌, ◌++◌, length, take, drop, refl, sym, ap, ap₂, ◌∙◌, arith, subst, append_assoc, eq-zero-or-pos, nat_lt, count_by, reverse, not, prefix_len, reverse-append, length-reverse, length-drop, length-take-le, take-append-drop, take-append-le, take-take, sum_by-append, sum_by-cons, take-append-add, is_line_byte, AsmErrorKind, AsmError, line_behind, column_behind, error_at}
use Rattle.std.proofs.lemmas.Bool.{lt-ltb, le-ltb, ltb-true, ltb-false, eqb-true, eq-eqb, ne_eqb}
use Rattle.std.proofs.lemmas.List.Folds.{prefix_len-append}
use Rattle.assembler.specs.declared.gaps.Gap.{Gap}
use Rattle.assembler.specs.Gaps.{without, gap_of, is_before, placed}

abbrev feeds : List ℕ → ℕ
feeds bs = count_by (λ b. b == 10) bs

-- ---- lines

feeds-append : (xs ys : List ℕ) → feeds (xs ++ ys) ≡ feeds xs + feeds ys
feeds-append xs ys = sum_by-append (λ (b : ℕ). if b == 10 then 1 else 0) xs ys

feeds-cons : (b : ℕ) (bs : List ℕ) → feeds (b ∷ bs) ≡ (if b == 10 then 1 else 0) + feeds bs
feeds-cons b bs = sum_by-cons (λ (b : ℕ). if b == 10 then 1 else 0) b bs

line-append : (xs ys : List ℕ) → line_behind (xs ++ ys) ≡ line_behind xs + feeds ys
line-append xs ys = omega (arith, feeds-append xs ys)

-- ---- columns

-- how many bytes stand at the end of the last line
abbrev last_line : List ℕ → ℕ
last_line bs = prefix_len is_line_byte (reverse bs)

last-append : (xs ys : List ℕ) → last_line (xs ++ ys)
    ≡ (if last_line ys == length ys then length ys + last_line xs else last_line ys)
last-append xs ys =
    ap (prefix_len is_line_byte) (reverse-append xs ys)
    ∙ prefix_len-append is_line_byte (reverse ys) (reverse xs)
    ∙ ap (λ n. if last_line ys == n then n + last_line xs else last_line ys) (length-reverse ys)

-- a byte in front
last-cons : (b : ℕ) (bs : List ℕ) → last_line (b ∷ bs)
    ≡ (if last_line bs == length bs then length bs + last_line (b ∷ []) else last_line bs)
last-cons b bs = last-append (b ∷ []) bs

-- the byte is a line feed, or one more byte of the only line, or in another line
last-feed : (b : ℕ) (bs : List ℕ) → (b == 10) ≡ true → (last_line bs == length bs) ≡ true
    → last_line (b ∷ bs) ≡ length bs
last-feed b bs e d =
    let all : last_line (b ∷ bs) ≡ length bs + last_line (b ∷ []) =
    last-cons b bs
    ∙ ap (λ (u : Bool). if u then length bs + last_line (b ∷ []) else last_line bs) d in
    let one : last_line (b ∷ []) ≡ 0 = ap (λ (u : Bool). if not u then 1 else 0) e in
    omega (arith, all, one)

last-more : (b : ℕ) (bs : List ℕ) → (b == 10) ≡ false → (last_line bs == length bs) ≡ true
    → last_line (b ∷ bs) ≡ length bs + 1
last-more b bs e d =
    let all : last_line (b ∷ bs) ≡ length bs + last_line (b ∷ []) =
    last-cons b bs
    ∙ ap (λ (u : Bool). if u then length bs + last_line (b ∷ []) else last_line bs) d in
    let one : last_line (b ∷ []) ≡ 1 = ap (λ (u : Bool). if not u then 1 else 0) e in
    omega (arith, all, one)

last-same : (b : ℕ) (bs : List ℕ) → (last_line bs == length bs) ≡ false
    → last_line (b ∷ bs) ≡ last_line bs
last-same b bs d =
    last-cons b bs
    ∙ ap (λ (u : Bool). if u then length bs + last_line (b ∷ []) else last_line bs) d

within-cons : (b : ℕ) (bs : List ℕ) → last_line bs ≤ length bs → (t u : Bool) → (b == 10) ≡ t
    → (last_line bs == length bs) ≡ u → last_line (b ∷ bs) ≤ length (b ∷ bs)
within-cons b bs within true true e d = omega (arith, last-feed b bs e d)
within-cons b bs within false true e d = omega (arith, last-more b bs e d)
within-cons b bs within t false e d = omega (arith, last-same b bs d, within)

last-within : (bs : List ℕ) → last_line bs ≤ length bs
last-within [] = omega arith
last-within (b ∷ bs) =
    within-cons b bs (last-within bs) (b == 10) (last_line bs == length bs) refl refl

-- bytes without a line feed are one line, and others are not
one-cons : (b : ℕ) (bs : List ℕ) → (feeds bs ≡ 0 → last_line bs ≡ length bs) → (t : Bool)
    → (b == 10) ≡ t → (if t then 1 else 0) + feeds bs ≡ 0 → last_line (b ∷ bs) ≡ length (b ∷ bs)
one-cons b bs on true e g = absurd (omega (arith, g))
one-cons b bs on false e g =
    let rest : last_line bs ≡ length bs = on (omega (arith, g)) in
    last-more b bs e (eq-eqb (last_line bs) (length bs) rest) ∙ omega arith

one-line : (bs : List ℕ) → feeds bs ≡ 0 → last_line bs ≡ length bs
one-line [] h = refl
one-line (b ∷ bs) h = one-cons b bs (one-line bs) (b == 10) refl (sym (feeds-cons b bs) ∙ h)

more-cons : (b : ℕ) (bs : List ℕ) → (0 < feeds bs → last_line bs < length bs) → (t u : Bool)
    → (b == 10) ≡ t → (last_line bs == length bs) ≡ u → 0 < (if t then 1 else 0) + feeds bs
    → last_line (b ∷ bs) < length (b ∷ bs)
more-cons b bs on true true e d g = omega (arith, last-feed b bs e d)
more-cons b bs on false true e d g =
    let rest : last_line bs < length bs = on (omega (arith, g)) in
    let same : last_line bs ≡ length bs = eqb-true (last_line bs) (length bs) d in
    absurd (omega (arith, rest, same))
more-cons b bs on t false e d g =
    omega (arith, last-same b bs d, last-within bs)

more-lines : (bs : List ℕ) → 0 < feeds bs → last_line bs < length bs
more-lines [] h = absurd (omega (arith, h))
more-lines (b ∷ bs) h =
    more-cons b bs (more-lines bs) (b == 10) (last_line bs == length bs) refl refl
    (subst (λ n. 0 < n) (feeds-cons b bs) h)

column-same : (xs ys : List ℕ) → feeds ys ≡ 0
    → column_behind (xs ++ ys) ≡ column_behind xs + length ys
column-same xs ys h =
    let is : last_line ys ≡ length ys = one-line ys h in
    let all : last_line (xs ++ ys) ≡ length ys + last_line xs =
    last-append xs ys ∙ rw (eq-eqb (last_line ys) (length ys) is) refl in
    omega (arith, all)

column-other : (xs ys : List ℕ) → 0 < feeds ys → column_behind (xs ++ ys) ≡ column_behind ys
column-other xs ys h =
    let less : last_line ys < length ys = more-lines ys h in
    let no : (last_line ys == length ys) ≡ false =
    ne_eqb (last_line ys) (length ys) (λ e. omega (arith, e, less)) in
    ap (λ n. n + 1) (last-append xs ys ∙ rw no refl)

-- ---- a gap

abbrev error_behind : AsmErrorKind → List ℕ → AsmError
error_behind kind front =
    record { kind = kind; line = line_behind front; column = column_behind front }

abbrev gap_between : List ℕ → List ℕ → Gap
gap_between front whole = record {
  line = line_behind front;
  column = column_behind front;
  old_line = line_behind whole;
  old_column = column_behind whole;
}

-- what is placed, by whether it is before the gap, and whether it is in its line
abbrev placed_by : Bool → Bool → AsmErrorKind → ℕ → ℕ → Gap → AsmError
placed_by before same kind line column gap =
    if before then (record { kind = kind; line = line; column = column })
    else record {
      kind = kind;
      line = (line - gap.line) + gap.old_line;
      column = if same then (column - gap.column) + gap.old_column else column;
    }

abbrev at : AsmErrorKind → ℕ → ℕ → AsmError
at kind line column = record { kind = kind; line = line; column = column }

before-by : (t u v : Bool) → t ≡ true → (t || (u && v)) ≡ true
before-by t u v h = rw h refl

before-same : (t u v : Bool) → u ≡ true → v ≡ true → (t || (u && v)) ≡ true
before-same true u v e h = refl
before-same false u v e h = rw e (rw h refl)

not-before : (t u v : Bool) → t ≡ false → v ≡ false → (t || (u && v)) ≡ false
not-before t true v e h = rw e (rw h refl)
not-before t false v e h = rw e refl

not-before-other : (t u v : Bool) → t ≡ false → u ≡ false → (t || (u && v)) ≡ false
not-before-other t u v e h = rw e (rw h refl)

-- before it
placed-before : (kind : AsmErrorKind) (front more whole : List ℕ) → 0 < length more
    → placed (gap_between (front ++ more) whole) (error_behind kind front)
    ≡ error_behind kind front
placed-before kind front more whole some = of (eq-zero-or-pos (feeds more)) where
  gap : Gap
  gap = gap_between (front ++ more) whole

  by : is_before gap (error_behind kind front) ≡ true
      → placed gap (error_behind kind front) ≡ error_behind kind front
  by h = ap (λ b. placed_by b (line_behind front == gap.line) kind (line_behind front)
      (column_behind front) gap) h

  of : (feeds more ≡ 0) ⊎ (0 < feeds more)
      → placed gap (error_behind kind front) ≡ error_behind kind front
  of (inl none) =
      let line : line_behind front ≡ gap.line =
      omega (arith, line-append front more, none) in
      let column : column_behind front < gap.column =
      omega (arith, column-same front more none, some) in
      by (before-same (nat_lt (line_behind front) gap.line) (line_behind front == gap.line)
      (nat_lt (column_behind front) gap.column) (eq-eqb (line_behind front) gap.line line)
      (lt-ltb (column_behind front) gap.column column))
  of (inr lines) =
      let line : line_behind front < gap.line = omega (arith, line-append front more, lines) in
      by (before-by (nat_lt (line_behind front) gap.line) (line_behind front == gap.line)
      (nat_lt (column_behind front) gap.column) (lt-ltb (line_behind front) gap.line line))

-- behind it
placed-behind : (kind : AsmErrorKind) (front whole more : List ℕ)
    → placed (gap_between front whole) (error_behind kind (front ++ more))
    ≡ error_behind kind (whole ++ more)
placed-behind kind front whole more = of (eq-zero-or-pos (feeds more)) where
  gap : Gap
  gap = gap_between front whole

  line : ℕ
  line = line_behind (front ++ more)

  column : ℕ
  column = column_behind (front ++ more)

  by : (same : Bool) → is_before gap (error_behind kind (front ++ more)) ≡ false
      → (line == gap.line) ≡ same
      → (line - gap.line) + gap.old_line ≡ line_behind (whole ++ more)
      → (if same then (column - gap.column) + gap.old_column else column)
      ≡ column_behind (whole ++ more)
      → placed gap (error_behind kind (front ++ more)) ≡ error_behind kind (whole ++ more)
  by same h e lines columns =
      ap (λ b. placed_by b (line == gap.line) kind line column gap) h
      ∙ ap (λ b. placed_by false b kind line column gap) e
      ∙ ap₂ (at kind) lines columns

  of : (feeds more ≡ 0) ⊎ (0 < feeds more)
      → placed gap (error_behind kind (front ++ more)) ≡ error_behind kind (whole ++ more)
  of (inl none) =
      let is : line ≡ gap.line = omega (arith, line-append front more, none) in
      let here : column ≡ gap.column + length more = column-same front more none in
      let there : column_behind (whole ++ more) ≡ gap.old_column + length more =
      column-same whole more none in
      by true
      (not-before (nat_lt line gap.line) (line == gap.line) (nat_lt column gap.column)
      (le-ltb line gap.line (omega (arith, is))) (le-ltb column gap.column (omega (arith, here))))
      (eq-eqb line gap.line is) (omega (arith, is, line-append whole more, none))
      (omega (arith, here, there))
  of (inr some) =
      let is : line ≡ gap.line + feeds more = line-append front more in
      let other : (line == gap.line) ≡ false =
      ne_eqb line gap.line (λ e. omega (arith, e, is, some)) in
      by false
      (not-before-other (nat_lt line gap.line) (line == gap.line) (nat_lt column gap.column)
      (le-ltb line gap.line (omega (arith, is))) other)
      other (omega (arith, is, line-append whole more))
      (column-other front more some ∙ sym (column-other whole more some))

-- ---- the position of a refusal

-- offsets behind the gap are greater
abbrev pub moved : ℕ → ℕ → ℕ → ℕ
moved from to o = if nat_lt o from then o else o + (to - from)

pub error-placed : (text more : List ℕ) (from to : ℕ) (kind : AsmErrorKind) (o : ℕ) → from ≤ to
    → to ≤ length text
    → error_at (text ++ more) (record { kind = kind; offset = moved from to o })
    ≡ placed (gap_of from to text)
    (error_at (without from to text ++ more) (record { kind = kind; offset = o }))
error-placed text more from to kind o less few = of (nat_lt o from) refl where
  front : List ℕ
  front = take from text

  whole : List ℕ
  whole = take to text

  behind : List ℕ
  behind = drop to text ++ more

  front_size : length front ≡ from
  front_size = length-take-le from text (omega (arith, less, few))

  whole_size : length whole ≡ to
  whole_size = length-take-le to text few

  kept : without from to text ++ more ≡ front ++ behind
  kept = append_assoc front (drop to text) more

  all : text ++ more ≡ whole ++ behind
  all = ap (λ (bs : List ℕ). bs ++ more) (sym (take-append-drop to text))
      ∙ append_assoc whole (drop to text) more

  of : (b : Bool) → nat_lt o from ≡ b
      → error_behind kind (take (if b then o else o + (to - from)) (text ++ more))
      ≡ placed (gap_of from to text) (error_behind kind (take o (without from to text ++ more)))
  of true e =
      let here : o < from = ltb-true o from e in
      let left : take o (text ++ more) ≡ take o front =
      take-append-le o text more (omega (arith, here, less, few))
      ∙ sym (take-take o from text (omega (arith, here))) in
      let right : take o (without from to text ++ more) ≡ take o front =
      ap (take o) kept ∙ take-append-le o front behind (omega (arith, here, front_size)) in
      let parts : take o front ++ drop o front ≡ front = take-append-drop o front in
      let some : 0 < length (drop o front) =
      omega (arith, length-drop o front, front_size, here) in
      ap (error_behind kind) left
      ∙ sym (placed-before kind (take o front) (drop o front) whole some)
      ∙ ap (λ (bs : List ℕ). placed (gap_between bs whole) (error_behind kind (take o front)))
      parts
      ∙ ap (λ (bs : List ℕ). placed (gap_between front whole) (error_behind kind bs)) (sym right)
  of false e =
      let here : from ≤ o = ltb-false o from e in
      let k = o - from in
      let left : take (o + (to - from)) (text ++ more) ≡ whole ++ take k behind =
      ap₂ take
      (let n : o + (to - from) ≡ length whole + k = omega (arith, whole_size, here, less) in n)
      all
      ∙ take-append-add whole behind k in
      let right : take o (without from to text ++ more) ≡ front ++ take k behind =
      ap₂ take (let n : o ≡ length front + k = omega (arith, front_size, here) in n) kept
      ∙ take-append-add front behind k in
      ap (error_behind kind) left
      ∙ sym (placed-behind kind front whole (take k behind))
      ∙ ap (λ (bs : List ℕ). placed (gap_between front whole) (error_behind kind bs)) (sym right)
