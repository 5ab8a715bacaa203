-- What is left of a text after one line of it, and where a line's front decides what it says.
use Rattle.map_texts.proofs.Common.{◌≡◌, ℕ, ◌+◌, ◌⊎◌, inl, inr, List, [], ◌∷◌, ◌++◌, length, Some, true, false, refl, sym, ap, ◌∙◌, arith, append_assoc, slice_split, All-nil, All-cons, All-append, MapDef, KeyValues, InputEnding, ByEnd, ByError, MapTextError, FilledMaps, accepted, after_line, after_cut_line, after_last_line, after_lines, and_then, is_line_feed, left_of, GoesOnReading, StopsFilling, NoFeed, HasNoFeed}
use Rattle.std.proofs.lemmas.List.Splits.{slice_split_at, slice_split_none, length-slice_split}

-- a text has at least one line
some_line : (text : List ℕ)
    → (line : List ℕ) × (lines : List (List ℕ)) × (slice_split is_line_feed text ≡ line ∷ lines)
some_line text =
    elim (slice_split is_line_feed text) as (λ ls. slice_split is_line_feed text ≡ ls
    → (line : List ℕ) × (lines : List (List ℕ)) × (slice_split is_line_feed text ≡ line ∷ lines)) [
      | [] ↦ λ e.
          let h = length-slice_split is_line_feed text in
          let l = ap length e in absurd (omega arith)
      | line ∷ lines ↦ λ e. (line, lines, e)
    ] refl

-- bytes without a line feed, or with a first one
pub feed_view : (bytes : List ℕ)
    → HasNoFeed bytes
    ⊎ ((line : List ℕ) × (rest : List ℕ) × HasNoFeed line × (bytes ≡ line ++ 10 ∷ rest))
feed_view [] = inl (All-nil NoFeed)
feed_view (b ∷ bytes) =
    elim (is_line_feed b) as (λ t. is_line_feed b ≡ t → HasNoFeed (b ∷ bytes)
    ⊎ ((line : List ℕ) × (rest : List ℕ) × HasNoFeed line
    × (b ∷ bytes ≡ line ++ 10 ∷ rest))) [
      | true ↦ λ e.
          let ten : b ≡ 10 = grind arith in
          inr ([], bytes, All-nil NoFeed, ap (λ (x : ℕ). x ∷ bytes) ten)
      | false ↦ λ e.
          elim (feed_view bytes) [
            | inl none ↦ inl (All-cons NoFeed b bytes e none)
            | inr (line, rest, none, at) ↦
                inr (b ∷ line, rest, All-cons NoFeed b line e none, ap (λ (x : List ℕ). b ∷ x) at)
          ]
    ] refl

module _ (rows : List MapDef) (number : ℕ) (contents : List KeyValues) where
  -- after a line and then the rest of a text
  abbrev pub and_rest : InputEnding → List ℕ → FilledMaps → FilledMaps
  and_rest ending rest filled =
      and_then
      (λ held. after_lines ending rows (number + 1) held (slice_split is_line_feed rest)) filled
      filled.error

  pub left_none : (ending : InputEnding) (bytes : List ℕ) → HasNoFeed bytes
      → after_lines ending rows number contents (slice_split is_line_feed bytes)
      ≡ after_last_line ending rows number contents bytes
  unfolding after_lines
  left_none ending bytes none =
      ap (after_lines ending rows number contents) (slice_split_none is_line_feed bytes none)

  pub left_at : (ending : InputEnding) (line rest : List ℕ) → HasNoFeed line
      → after_lines ending rows number contents (slice_split is_line_feed (line ++ 10 ∷ rest))
      ≡ and_rest ending rest (after_line rows number contents line)
  unfolding after_lines
  left_at ending line rest none =
      let (next, others, e) = some_line rest in
      ap (after_lines ending rows number contents)
      (slice_split_at is_line_feed line 10 rest none refl
      ∙ ap (λ (ls : List (List ℕ)). line ∷ ls) e)
      ∙ ap (λ (ls : List (List ℕ)). and_then
      (λ held. after_lines ending rows (number + 1) held ls)
      (after_line rows number contents line)
      (after_line rows number contents line).error) (sym e)

  -- a whole line that was taken, or refused
  pub line_taken : (line rest : List ℕ) (held : List KeyValues) → HasNoFeed line
      → accepted held ≡ after_line rows number contents line
      → GoesOnReading rows number contents (line ++ 10 ∷ rest) (number + 1) held rest
  line_taken line rest held none is ending more =
      ap (λ (l : List ℕ). after_lines ending rows number contents (slice_split is_line_feed l))
      (append_assoc line (10 ∷ rest) more)
      ∙ left_at ending line (rest ++ more) none
      ∙ ap (and_rest ending (rest ++ more)) (sym is)

  pub line_refused : (line rest : List ℕ) (held : List KeyValues) (error : MapTextError)
      → HasNoFeed line
      → record { contents = held; error = Some error } ≡ after_line rows number contents line
      → StopsFilling rows number contents (line ++ 10 ∷ rest) held error
  line_refused line rest held error none is ending more =
      ap (λ (l : List ℕ). after_lines ending rows number contents (slice_split is_line_feed l))
      (append_assoc line (10 ∷ rest) more)
      ∙ left_at ending line (rest ++ more) none
      ∙ ap (and_rest ending (rest ++ more)) (sym is)

  -- what a line does that begins so, whatever follows
  module _ (front : List ℕ) (none : HasNoFeed front) where
    last_front : (ending : InputEnding) (more : List ℕ) → HasNoFeed more
        → left_of rows number contents front ending more
        ≡ after_last_line ending rows number contents (front ++ more)
    last_front ending more h =
        left_none ending (front ++ more) (All-append NoFeed front more none h)

    whole_front : (ending : InputEnding) (line rest : List ℕ) → HasNoFeed line
        → left_of rows number contents front ending (line ++ 10 ∷ rest)
        ≡ and_rest ending rest (after_line rows number contents (front ++ line))
    whole_front ending line rest h =
        ap (λ (l : List ℕ). after_lines ending rows number contents (slice_split is_line_feed l))
        (sym (append_assoc front line (10 ∷ rest)))
        ∙ left_at ending (front ++ line) rest (All-append NoFeed front line none h)

  -- two fronts of one effect
  pub front_same : (a b : List ℕ) → HasNoFeed a → HasNoFeed b
      → ((rest : List ℕ) → after_line rows number contents (a ++ rest)
      ≡ after_line rows number contents (b ++ rest))
      → ((rest : List ℕ) → after_cut_line rows number contents (a ++ rest)
      ≡ after_cut_line rows number contents (b ++ rest))
      → GoesOnReading rows number contents a number contents b
  front_same a b ha hb whole cut ending more =
      elim (feed_view more) [
        | inl none ↦
            last_front a ha ending more none
            ∙ elim ending as (λ x. after_last_line x rows number contents (a ++ more)
            ≡ after_last_line x rows number contents (b ++ more)) [
              | ByEnd ↦ whole more
              | ByError ↦ cut more
            ]
            ∙ sym (last_front b hb ending more none)
        | inr (line, rest, none, at) ↦
            ap (left_of rows number contents a ending) at
            ∙ whole_front a ha ending line rest none
            ∙ ap (and_rest ending rest) (whole line)
            ∙ sym (whole_front b hb ending line rest none)
            ∙ ap (left_of rows number contents b ending) (sym at)
      ]

  -- a front that is refused
  pub front_refused : (a : List ℕ) (held : List KeyValues) (error : MapTextError) → HasNoFeed a
      → ((rest : List ℕ) → after_line rows number contents (a ++ rest)
      ≡ record { contents = held; error = Some error })
      → ((rest : List ℕ) → after_cut_line rows number contents (a ++ rest)
      ≡ record { contents = held; error = Some error })
      → StopsFilling rows number contents a held error
  front_refused a held error ha whole cut ending more =
      elim (feed_view more) [
        | inl none ↦
            last_front a ha ending more none
            ∙ elim ending as (λ x. after_last_line x rows number contents (a ++ more)
            ≡ record { contents = held; error = Some error }) [
              | ByEnd ↦ whole more
              | ByError ↦ cut more
            ]
        | inr (line, rest, none, at) ↦
            ap (left_of rows number contents a ending) at
            ∙ whole_front a ha ending line rest none
            ∙ ap (and_rest ending rest) (whole line)
      ]
