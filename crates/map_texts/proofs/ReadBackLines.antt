-- The line of a key and its value is read as the update that gives the key the value.
use Rattle.map_texts.proofs.Common.{◌≡◌, ◌≢◌, ℕ, zero, suc, ◌+◌, ◌-◌, ◌*◌, ◌/◌, ◌%◌, ◌^◌, ◌<◌, ◌≤◌, List, [], ◌∷◌, ◌++◌, length, take, drop, Some, None, Bool, true, false, refl, sym, ap, ◌∙◌, subst, arith, length-append, append_assoc, nat_lt, nat_eq, not, slice_index, decimal, codes, All, prefix_len, slice_get, take_at, drop_at, drop-drop, All-nil, All-cons, All-head, All-tail, All-append, All-weaker, encode_with, encode_lower, lower_digits, hex_digit_value, MapDef, IsRow, AreBytes, IsKeyValue, map_line, is_digit, is_field_byte, field, after_field, number_from, field_number, field_bytes, line_size, longest_from, longest_line, index_field, key_field, value_field, key_column, line_meaning, Update, is_line_feed, NoFeed, HasNoFeed}
use Rattle.std.specs.Result.{result_ok}
use Rattle.std.proofs.lemmas.Fmt.{decimal_by_steps}
use Rattle.hex.proofs.HexLemmas.{IsDigits-lower_digits, length-encode_with, decode_of-encode_lower}
use Rattle.isa_model.proofs.ValueLaws.{slice_index_fits}
use Rattle.isa_model.proofs.MapRowsLaws.{KeyFits-some}

-- ---- bytes of fields

-- no space and no line feed
abbrev pub Plain : ℕ → Type 0
Plain b = (is_field_byte b ≡ true) × (is_line_feed b ≡ false)

plain : (b : ℕ) → b ≢ 32 → b ≢ 10 → Plain b
plain b h k =
    let space : nat_eq b 32 ≡ false = grind arith in
    (ap not space, grind arith)

hex_plain : (c d : ℕ) → hex_digit_value c ≡ Some d → Plain c
hex_plain c d e =
    plain c (λ h. let none : hex_digit_value c ≡ None = ap hex_digit_value h in cc)
    (λ h. let none : hex_digit_value c ≡ None = ap hex_digit_value h in cc)

pub AllPlain-hex : (bytes : List ℕ) → AreBytes bytes → All Plain (encode_lower bytes)
unfolding encode_with
AllPlain-hex [] h = All-nil Plain
AllPlain-hex (b ∷ bytes) h =
    let small = All-head (λ (x : ℕ). x < 256) b bytes h in
    let upper : b / 16 < 16 = omega arith in
    let lower : b % 16 < 16 = omega arith in
    All-cons Plain (slice_index lower_digits (b / 16))
    (slice_index lower_digits (b % 16) ∷ encode_lower bytes)
    (hex_plain _ (b / 16) (IsDigits-lower_digits (b / 16) upper))
    (All-cons Plain (slice_index lower_digits (b % 16)) (encode_lower bytes)
    (hex_plain _ (b % 16) (IsDigits-lower_digits (b % 16) lower))
    (AllPlain-hex bytes (All-tail (λ (x : ℕ). x < 256) b bytes h)))

-- ---- decimal digits

abbrev pub Digit : ℕ → Type 0
Digit b = is_digit b ≡ true

number_from-append : (m : ℕ) (xs : List ℕ) (y : ℕ)
    → number_from m (xs ++ y ∷ []) ≡ 10 * number_from m xs + (y - 48)
number_from-append m [] y = refl
number_from-append m (x ∷ xs) y = number_from-append (10 * m + (x - 48)) xs y

pub record Spells (n : ℕ) (digits : List ℕ) : Type 0 where
  pub each : All Digit digits
  pub number : number_from 0 digits ≡ n
  pub some : 0 < length digits

pub Spells-decimal : (n : ℕ) → n < 2 ^ 64 → Spells n (decimal n)
Spells-decimal n h =
    decimal_by_steps Spells
    (λ m small. record {
      each = All-cons Digit (48 + m) [] (grind arith) (All-nil Digit);
      number = omega arith;
      some = omega arith;
    })
    (λ m ds large before. record {
      each =
          All-append Digit ds ((48 + m % 10) ∷ []) before.each
          (All-cons Digit (48 + m % 10) [] (let l : m % 10 < 10 = omega arith in grind arith)
          (All-nil Digit));
      number =
          number_from-append 0 ds (48 + m % 10)
          ∙ (let e = before.number in omega arith);
      some = let l = length-append ds ((48 + m % 10) ∷ []) in omega arith;
    }) n h

digit_plain : (b : ℕ) → is_digit b ≡ true → Plain b
digit_plain b h =
    plain b (λ e. let no : is_digit b ≡ false = ap is_digit e in cc)
    (λ e. let no : is_digit b ≡ false = ap is_digit e in cc)

-- ---- the fields of a line

prefix_all : (p : ℕ → Bool) (xs : List ℕ) → All (λ b. p b ≡ true) xs
    → prefix_len p xs ≡ length xs
prefix_all p [] h = refl
prefix_all p (x ∷ xs) h =
    let here = All-head (λ b. p b ≡ true) x xs h in
    let rest = prefix_all p xs (All-tail (λ b. p b ≡ true) x xs h) in
    rw here (omega arith)

prefix_at : (xs rest : List ℕ) → All Plain xs
    → prefix_len is_field_byte (xs ++ 32 ∷ rest) ≡ length xs
prefix_at [] rest h = refl
prefix_at (x ∷ xs) rest h =
    let here = (All-head Plain x xs h).0 in
    let more = prefix_at xs rest (All-tail Plain x xs h) in
    rw here (omega arith)

pub field-front : (xs rest : List ℕ) → All Plain xs → field (xs ++ 32 ∷ rest) ≡ xs
field-front xs rest h =
    ap (λ (n : ℕ). take n (xs ++ 32 ∷ rest)) (prefix_at xs rest h)
    ∙ take_at xs (32 ∷ rest) (length xs) refl

pub after_field-front : (xs rest : List ℕ) → All Plain xs
    → after_field (xs ++ 32 ∷ rest) ≡ rest
after_field-front xs rest h =
    ap (λ (n : ℕ). drop (n + 1) (xs ++ 32 ∷ rest)) (prefix_at xs rest h)
    ∙ sym (drop-drop 1 (length xs) (xs ++ 32 ∷ rest))
    ∙ ap (drop 1) (drop_at xs (32 ∷ rest) (length xs) refl)

-- ---- the line of a key and its value, without its line feed

abbrev pub key_line : ℕ → (List ℕ × List ℕ) → List ℕ
key_line index e =
    codes "map " ++ (decimal index ++ 32 ∷ (encode_lower e.0 ++ 32 ∷ encode_lower e.1))

pub map_line-key_line : (index : ℕ) (e : List ℕ × List ℕ)
    → map_line index e ≡ key_line index e ++ 10 ∷ []
unfolding map_line
map_line-key_line index e = simp append_assoc

unended : (bytes : List ℕ) → All Plain bytes → HasNoFeed bytes
unended bytes h = All-weaker Plain NoFeed (λ b p. p.1) bytes h

number_read : (digits : List ℕ) (n : ℕ) → Spells n digits → field_number digits ≡ Some n
number_read digits n h =
    let some : nat_eq (length digits) 0 ≡ false = let s = h.some in grind arith in
    let all : nat_eq (prefix_len is_digit digits) (length digits) ≡ true =
    let p = prefix_all is_digit digits h.each in grind arith in
    rw (some, all) (ap Some h.number)

bytes_read : (bytes : List ℕ) → AreBytes bytes → 0 < length bytes
    → field_bytes (encode_lower bytes) ≡ Some bytes
bytes_read bytes h some =
    let l = length-encode_with lower_digits bytes in
    let t : nat_eq (length (encode_lower bytes)) 0 ≡ false = grind arith in
    let d = decode_of-encode_lower bytes (slice_index_fits bytes h) in
    rw t (ap result_ok d)

size-longest_from : (n : ℕ) (rows : List MapDef) (i : ℕ) (row : MapDef)
    → slice_get rows i ≡ Some row → line_size (n + i) row ≤ longest_from n rows
size-longest_from n [] i row at = absurd (cc)
size-longest_from n (first ∷ rows) zero row at =
    let same : first ≡ row = cc in
    let z : n + 0 ≡ n = omega arith in
    subst (λ (r : MapDef). line_size (n + 0) r ≤ longest_from n (first ∷ rows)) same
    (subst (λ (k : ℕ). line_size k first ≤ longest_from n (first ∷ rows)) (sym z) (omega arith))
size-longest_from n (first ∷ rows) (suc i) row at =
    let h = size-longest_from (n + 1) rows i row at in
    let z : (n + 1) + i ≡ n + suc i = omega arith in
    subst (λ (k : ℕ). line_size k row ≤ longest_from n (first ∷ rows)) z (omega arith)

pub size-longest_line : (rows : List MapDef) (i : ℕ) (row : MapDef)
    → slice_get rows i ≡ Some row → line_size i row ≤ longest_line rows
size-longest_line [] i row at = absurd (cc)
size-longest_line (first ∷ rows) i row at =
    let z : 0 + i ≡ i = omega arith in
    subst (λ (k : ℕ). line_size k row ≤ longest_from 0 (first ∷ rows)) z
    (size-longest_from 0 (first ∷ rows) i row at)

module _ (index : ℕ) (small : index < 2 ^ 64) where
  spelled : Spells index (decimal index)
  spelled = Spells-decimal index small

  digits_plain : All Plain (decimal index)
  digits_plain = All-weaker Digit Plain digit_plain (decimal index) spelled.each

  module _ (e : List ℕ × List ℕ) (row : MapDef) (fits : IsKeyValue row e)
      (row_fits : IsRow row) where
    abbrev rest : List ℕ
    rest = encode_lower e.0 ++ 32 ∷ encode_lower e.1

    abbrev line : List ℕ
    line = key_line index e

    key_plain : All Plain (encode_lower e.0)
    key_plain = AllPlain-hex e.0 fits.key

    index_is : index_field line ≡ decimal index
    index_is = field-front (decimal index) rest digits_plain

    after_index : after_field (drop 4 line) ≡ rest
    after_index = after_field-front (decimal index) rest digits_plain

    key_is : key_field line ≡ encode_lower e.0
    key_is = ap field after_index ∙ field-front (encode_lower e.0) (encode_lower e.1) key_plain

    value_is : value_field line ≡ encode_lower e.1
    value_is =
        ap after_field after_index
        ∙ after_field-front (encode_lower e.0) (encode_lower e.1) key_plain

    pub no_feed-key_line : HasNoFeed line
    no_feed-key_line =
        All-append NoFeed (codes "map ") (decimal index ++ 32 ∷ rest)
        (All-cons NoFeed 109 (97 ∷ 112 ∷ 32 ∷ []) refl
        (All-cons NoFeed 97 (112 ∷ 32 ∷ []) refl (All-cons NoFeed 112 (32 ∷ []) refl
        (All-cons NoFeed 32 [] refl (All-nil NoFeed)))))
        (All-append NoFeed (decimal index) (32 ∷ rest) (unended (decimal index) digits_plain)
        (All-cons NoFeed 32 rest refl
        (All-append NoFeed (encode_lower e.0) (32 ∷ encode_lower e.1)
        (unended (encode_lower e.0) key_plain)
        (All-cons NoFeed 32 (encode_lower e.1) refl
        (unended (encode_lower e.1) (AllPlain-hex e.1 fits.value))))))

    number_is : field_number (index_field line) ≡ Some index
    number_is = ap field_number index_is ∙ number_read (decimal index) index spelled

    key_bytes : field_bytes (key_field line) ≡ Some e.0
    key_bytes =
        ap field_bytes key_is
        ∙ bytes_read e.0 fits.key (let k = KeyFits-some row.kind row.key_size row_fits.key in
        let l = fits.key_size in omega arith)

    value_bytes : field_bytes (value_field line) ≡ Some e.1
    value_bytes =
        ap field_bytes value_is
        ∙ bytes_read e.1 fits.value
        (let k = row_fits.some_value in let l = fits.value_size in omega arith)

    size_is : length line ≡ line_size index row
    size_is =
        let a = length-encode_with lower_digits e.0 in
        let b = length-encode_with lower_digits e.1 in
        let k = fits.key_size in
        let v = fits.value_size in
        let d = length-append (decimal index) (32 ∷ rest) in
        let r = length-append (encode_lower e.0) (32 ∷ encode_lower e.1) in
        omega arith

    module _ (rows : List MapDef) (at : slice_get rows index ≡ Some row) where
      not_long : nat_lt (longest_line rows) (length line) ≡ false
      not_long =
          let m = size-longest_line rows index row at in
          let l = size_is in grind arith

      pub key_line-meaning : line_meaning rows line
          ≡ Update index row e.0 e.1 (key_column line)
      unfolding line_meaning
      key_line-meaning =
          let k : nat_eq (length e.0) row.key_size ≡ true = let s = fits.key_size in grind arith in
          let v : nat_eq (length e.1) row.value_size ≡ true =
          let s = fits.value_size in grind arith in
          rw (not_long, number_is, key_bytes, value_bytes, at, k, v) refl
