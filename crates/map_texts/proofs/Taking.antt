-- Lines that are taken from the front of bytes, and the part of a line that is kept.
use Rattle.map_texts.proofs.Common.{◌≡◌, ℕ, ◌+◌, ◌-◌, ◌<◌, ◌≤◌, min, List, [], ◌∷◌, ◌++◌, length, take, drop, get_or, slice_range, Some, None, true, false, refl, sym, ap, ◌∙◌, subst, arith, nat_lt, nat_le, zero, suc, All-nil, All-more, All-take, MapDef, KeyValues, MapTextError, LongLine, is_passed, is_too_long, longest_line, most_line_size, accepted, after_line, is_line_feed, GoesOnReading, StopsFilling, NoFeed, HasNoFeed, AreTakenTo, IsPending, Keeps, KeepsBy}
use Rattle.std.proofs.lemmas.List.{drop_more, get_or-drop, length-drop, length-append, length-take-le, take_all, drop-take}
use Rattle.std.proofs.lemmas.List.Folds.{drop_split}
use Rattle.map_texts.proofs.LineLaws.{is_passed-append, is_passed-front, passed_line, passed_cut, long_line, long_cut, longest_line-six}
use Rattle.map_texts.proofs.Splitting.{line_taken, line_refused, front_same, front_refused}

-- no byte between an index and itself
pub unended-to : (bytes : List ℕ) (at : ℕ) → HasNoFeed (slice_range bytes at at)
unended-to bytes at =
    let none : 0 ≡ at - at = omega arith in
    subst (λ (n : ℕ). HasNoFeed (take n (drop at bytes))) none (All-nil NoFeed)

module _ (bytes : List ℕ) (start at : ℕ) (ordered : start ≤ at) (inside : at < length bytes) where
  abbrev line : List ℕ
  line = slice_range bytes start at

  cut : is_line_feed (get_or bytes at 0) ≡ true
      → drop start bytes ≡ line ++ 10 ∷ drop (at + 1) bytes
  cut feed =
      let ten : get_or bytes at 0 ≡ 10 = grind arith in
      drop_split bytes start at ordered
      ∙ ap (λ (l : List ℕ). line ++ l)
      (drop_more bytes at 0 inside ∙ ap (λ (b : ℕ). b ∷ drop (at + 1) bytes) ten)

  pub unended-more : is_line_feed (get_or bytes at 0) ≡ false → HasNoFeed line
      → HasNoFeed (slice_range bytes start (at + 1))
  unended-more apart before =
      let here : get_or (drop start bytes) (at - start) 0 ≡ get_or bytes at 0 =
      get_or-drop start bytes (at - start) 0
      ∙ ap (λ (n : ℕ). get_or bytes n 0)
      (let e : start + (at - start) ≡ at = omega arith in e) in
      let next : (at - start) + 1 ≡ (at + 1) - start = omega arith in
      subst (λ (n : ℕ). HasNoFeed (take n (drop start bytes))) next
      (All-more NoFeed (drop start bytes) (at - start) 0
      (let l = length-drop start bytes in omega arith) before (rw here apart))

  module _ (rows : List MapDef) (first : ℕ) (contents : List KeyValues) (number : ℕ)
      (held : List KeyValues) (feed : is_line_feed (get_or bytes at 0) ≡ true)
      (none : HasNoFeed line)
      (before : GoesOnReading rows first contents bytes number held (drop start bytes)) where
    pub taken : (later : List KeyValues) → accepted later ≡ after_line rows number held line
        → GoesOnReading rows first contents bytes (number + 1) later (drop (at + 1) bytes)
    taken later is ending more =
        before ending more
        ∙ subst (λ (l : List ℕ). GoesOnReading rows number held l (number + 1) later
        (drop (at + 1) bytes))
        (sym (cut feed))
        (line_taken rows number held line (drop (at + 1) bytes) later none is) ending more

    pub stopped : (later : List KeyValues) (error : MapTextError)
        → record { contents = later; error = Some error } ≡ after_line rows number held line
        → StopsFilling rows first contents bytes later error
    stopped later error is ending more =
        before ending more
        ∙ subst (λ (l : List ℕ). StopsFilling rows number held l later error) (sym (cut feed))
        (line_refused rows number held line (drop (at + 1) bytes) later error none is) ending more

-- nothing was taken yet
pub none_yet : (rows : List MapDef) (number : ℕ) (contents : List KeyValues) (bytes : List ℕ)
    → AreTakenTo rows number contents contents bytes 0 (record { start = 0; number = number })
none_yet rows number contents bytes = record {
  inside = omega arith;
  few = omega arith;
  unended = unended-to bytes 0;
  goes_on = λ ending more. refl;
}

-- and all bytes were looked at
pub none_left : (bytes : List ℕ) (start at : ℕ) → at ≡ length bytes → start ≤ at
    → HasNoFeed (slice_range bytes start at) → HasNoFeed (drop start bytes)
none_left bytes start at all ordered none =
    let l = length-drop start bytes in
    subst HasNoFeed (take_all (at - start) (drop start bytes) (omega arith)) none

-- ---- the part of a line that was read

pub tail_of : (start end : ℕ) (bytes : List ℕ) → start ≤ end
    → drop start (take end bytes) ≡ take (end - start) (drop start bytes)
tail_of start end bytes ordered =
    let whole : end ≡ start + (end - start) = omega arith in
    ap (λ (n : ℕ). drop start (take n bytes)) whole ∙ drop-take start (end - start) bytes

pub take_short : (n m : ℕ) (xs : List ℕ) → n ≤ m → take n (take m xs) ≡ take n xs
take_short zero m xs h = refl
take_short (suc n) zero xs h = absurd (omega arith)
take_short (suc n) (suc m) [] h = refl
take_short (suc n) (suc m) (x ∷ xs) h =
    ap (λ (l : List ℕ). x ∷ l) (take_short n m xs (omega arith))

module _ (rows : List MapDef) (number : ℕ) (contents : List KeyValues) (line : List ℕ)
    (none : HasNoFeed line) where
  -- the front of a line that is passed over does as much as the line
  module _ (passed : is_passed line ≡ true) (long : 5 ≤ length line) where
    front_passed : is_passed (take 5 line) ≡ true
    front_passed = is_passed-front line long ∙ passed

    five : length (take 5 line) ≡ 5
    five = length-take-le 5 line long

    each : (rest : List ℕ) → is_passed (line ++ rest) ≡ true
    each rest = is_passed-append line rest long ∙ passed

    front_each : (rest : List ℕ) → is_passed (take 5 line ++ rest) ≡ true
    front_each rest =
        is_passed-append (take 5 line) rest (let l = five in omega arith) ∙ front_passed

    pub front_kept : GoesOnReading rows number contents line number contents (take 5 line)
    front_kept =
        front_same rows number contents line (take 5 line) none (All-take NoFeed 5 line none)
        (λ rest. passed_line rows number contents (line ++ rest) (each rest)
        ∙ sym (passed_line rows number contents (take 5 line ++ rest) (front_each rest)))
        (λ rest. passed_cut rows number contents (line ++ rest) (each rest)
        ∙ sym (passed_cut rows number contents (take 5 line ++ rest) (front_each rest)))

  -- a line that is too long is refused, whatever follows
  module _ (other : is_passed line ≡ false) (long : longest_line rows < length line) where
    other_each : (rest : List ℕ) → is_passed (line ++ rest) ≡ false
    other_each rest =
        is_passed-append line rest (let s = longest_line-six rows in omega arith) ∙ other

    long_each : (rest : List ℕ) → longest_line rows < length (line ++ rest)
    long_each rest = let l = length-append line rest in omega arith

    pub long_refused : StopsFilling rows number contents line contents
        (record { kind = LongLine; line = number; column = longest_line rows + 1 })
    long_refused =
        front_refused rows number contents line contents
        (record { kind = LongLine; line = number; column = longest_line rows + 1 }) none
        (λ rest. long_line rows number contents (line ++ rest) (other_each rest) (long_each rest))
        (λ rest. long_cut rows number contents (line ++ rest) (other_each rest) (long_each rest))

  -- what is kept of a line
  pub record IsKept (len : ℕ) : Type 0 where
    pub inside : len ≤ length line
    pub pending : IsPending rows (take len line)
    pub goes_on : GoesOnReading rows number contents line number contents (take len line)

  module _ (longest : ℕ) (is : longest ≡ longest_line rows) (most : longest ≤ most_line_size) where
    whole_kept : is_too_long rows line ≡ false → length line ≤ most_line_size
        → IsKept (length line)
    whole_kept short room =
        let all = take_all (length line) line (omega arith) in
        record {
          inside = omega arith;
          pending =
              subst (IsPending rows) (sym all)
              (record { unended = none; allowed = short; room = room });
          goes_on =
              subst (GoesOnReading rows number contents line number contents) (sym all)
              (λ ending more. refl);
        }

    passed_kept : is_passed line ≡ true → IsKept (min (length line) 5)
    passed_kept passed =
        elim (nat_le 5 (length line)) as (λ t. nat_le 5 (length line) ≡ t
        → IsKept (min (length line) 5)) [
          | true ↦ λ e.
              let long : 5 ≤ length line = grind arith in
              let five_is : 5 ≡ min (length line) 5 = omega arith in
              subst IsKept five_is (record {
                inside = long;
                pending =
                    record {
                      unended = All-take NoFeed 5 line none;
                      allowed = rw (front_passed passed long) refl;
                      room = let l = five passed long in omega arith;
                    };
                goes_on = front_kept passed long;
              })
          | false ↦ λ e.
              let short : length line < 5 = grind arith in
              let all : length line ≡ min (length line) 5 = omega arith in
              subst IsKept all (whole_kept (rw passed refl) (omega arith))
        ] refl

    other_kept : is_passed line ≡ false → length line ≤ longest → IsKept (length line)
    other_kept other short =
        let t : nat_lt (longest_line rows) (length line) ≡ false =
        subst (λ (n : ℕ). nat_lt n (length line) ≡ false) is (grind arith) in
        whole_kept (rw (other, t) refl) (omega arith)

    pub some_kept : (len : ℕ) → Keeps longest line (Some len) → IsKept len
    some_kept len keeps =
        elim (is_passed line) as (λ t. is_passed line ≡ t → KeepsBy t longest line (Some len)
        → IsKept len) [
          | true ↦ λ e h.
              let same : min (length line) 5 ≡ len = cc in subst IsKept same (passed_kept e)
          | false ↦ λ e h. subst IsKept (sym h.0) (other_kept e (let k = h.1 in omega arith))
        ] refl keeps

    pub none_kept : Keeps longest line None
        → StopsFilling rows number contents line contents
        (record { kind = LongLine; line = number; column = longest + 1 })
    none_kept keeps =
        elim (is_passed line) as (λ t. is_passed line ≡ t → KeepsBy t longest line None
        → StopsFilling rows number contents line contents
        (record { kind = LongLine; line = number; column = longest + 1 })) [
          | true ↦ λ e h. absurd (cc)
          | false ↦ λ e h.
              let long : longest_line rows < length line =
              subst (λ (n : ℕ). n < length line) is h in
              subst (λ (n : ℕ). StopsFilling rows number contents line contents
              (record { kind = LongLine; line = number; column = n + 1 })) (sym is)
              (long_refused e long)
        ] refl keeps
