-- Laws of the reasons that comments say.
use Rattle.captures.proofs.Common.{◌≡◌, ◌∙◌, ℕ, zero, suc, ◌+◌, ◌-◌, ◌<◌, ◌≤◌, ◌^◌, Bool, true, false, List, [], ◌∷◌, Option, Some, None, length, take, drop, min, refl, ap, arith, lt-ltb, le-leb, le-ltb, length-drop, ◌&&◌, ◌==◌, decimal, nat_le, nat_lt, if◌then◌else◌, list_all, leb-true, nat_tests, take_min, NumberOrder, first_reason, option_reason, padded, reason_in, reason_number, reason_said, short_field}
use Rattle.std.specs.Prelude.{unwrap_or}
use Rattle.std.specs.Int.{IsInRange}
use Rattle.std.specs.Char.{is_ascii_digit}
use Rattle.std.specs.Str.{IsAscii, IsUtf8}
use Rattle.std.specs.Str.Parse.{AllDigits, IsNumeral, digits_value, without_leading_plus}
use Rattle.std.proofs.lemmas.Str.{IsUtf8-from_ascii, digit_value_digit}
use Rattle.std.proofs.lemmas.Str.Parse.{digit_from_value, without_leading_plus_none}
use Rattle.std.proofs.lemmas.Fmt.{decimal_is_IsNumeral, length-decimal-le}
use Rattle.captures.proofs.PcapngLaws.{option_values-end, option_values-found, option_values-later, option_values-none}

-- ---- numbers

-- the first byte of some digits, and the others
digit-first : (c : ℕ) (later : Bool) → (is_ascii_digit c && later) ≡ true
    → IsInRange 48 57 c × (later ≡ true)
digit-first c later h = go (nat_le 48 c) (nat_le c 57) refl refl h
  where
    go : (low high : Bool) → nat_le 48 c ≡ low → nat_le c 57 ≡ high
        → ((low && high) && later) ≡ true → IsInRange 48 57 c × (later ≡ true)
    go true true a b h = ((leb-true 48 c a, leb-true c 57 b), h)
    go true false a b h = absurd cc
    go false high a b h = absurd cc

-- digits have no sign
no-sign : (digits : List ℕ) → list_all is_ascii_digit digits ≡ true
    → without_leading_plus digits ≡ digits
no-sign [] h = refl
no-sign (c ∷ cs) h =
    let range = (digit-first c _ h).0 in
    without_leading_plus_none (c ∷ cs) (λ plus. omega (arith, range.0, range.1))

all-digits : (digits : List ℕ) → list_all is_ascii_digit digits ≡ true → AllDigits 10 digits
all-digits [] h = tt
all-digits (c ∷ cs) h =
    let first = digit-first c _ h in
    (omega (arith, digit_value_digit c first.0, first.0.1), all-digits cs first.1)

-- digits are a text
digits-ascii : (digits : List ℕ) → list_all is_ascii_digit digits ≡ true → IsAscii digits
digits-ascii [] h i = omega arith
digits-ascii (c ∷ cs) h zero =
    let first = digit-first c _ h in omega (arith, first.0.1)
digits-ascii (c ∷ cs) h (suc i) = digits-ascii cs (digit-first c _ h).1 i

pub digits-text : (digits : List ℕ) → list_all is_ascii_digit digits ≡ true → IsUtf8 digits
digits-text digits h = IsUtf8-from_ascii digits (digits-ascii digits h)

-- the number of some digits
reason_number-digits : (digits : List ℕ) → 0 < length digits → length digits ≤ 10
    → list_all is_ascii_digit digits ≡ true
    → reason_number digits
    ≡ if nat_lt (digits_value 10 digits) (2 ^ 32) then Some (digits_value 10 digits) else None
reason_number-digits digits some few all =
    rw (lt-ltb 0 (length digits) some, le-leb (length digits) 10 few, all) refl

pub reason_number-unread : (digits : List ℕ) → 0 < length digits → length digits ≤ 10
    → list_all is_ascii_digit digits ≡ true
    → (IsNumeral 10 (without_leading_plus digits)
    × (digits_value 10 (without_leading_plus digits) < 2 ^ 32) → ⊥)
    → None ≡ reason_number digits
reason_number-unread digits some few all read =
    let numeral : IsNumeral 10 digits = (some, all-digits digits all) in
    let large : digits_value 10 digits < 2 ^ 32 → ⊥ =
    λ small. read (rw (no-sign digits all) (numeral, small)) in
    let high : nat_lt (digits_value 10 digits) (2 ^ 32) ≡ false =
    le-ltb (digits_value 10 digits) (2 ^ 32) (omega (arith, large)) in
    let told : reason_number digits ≡ None =
    reason_number-digits digits some few all ∙ rw high refl in
    cc

-- ---- options

-- a value that is cut by the end of the options
pub value_cut : (order : NumberOrder) (bytes : List ℕ) (end : ℕ)
    → end ≡ min (length bytes) (4 + short_field order 2 bytes)
    → take (end - 4) (drop 4 bytes) ≡ take (short_field order 2 bytes) (drop 4 bytes)
value_cut order bytes end is =
    let n = short_field order 2 bytes in
    let rest = drop 4 bytes in
    let cut : end - 4 ≡ min n (length rest) = omega (arith, is, length-drop 4 bytes) in
    ap (λ m. take m rest) cut ∙ take_min n rest

module _ (order : NumberOrder) (bytes : List ℕ) where
  abbrev code : ℕ
  code = short_field order 0 bytes

  abbrev value : List ℕ
  value = take (short_field order 2 bytes) (drop 4 bytes)

  pub reason_in-none : length bytes < 4 → reason_in order bytes ≡ 0
  reason_in-none h = ap first_reason (option_values-none order 1 bytes h)

  pub reason_in-end : 4 ≤ length bytes → code ≡ 0 → reason_in order bytes ≡ 0
  reason_in-end h end = ap first_reason (option_values-end order 1 bytes h end)

  module _ (next : ℕ) (some : 4 ≤ length bytes) (more : (code == 0) ≡ false)
      (behind : drop next bytes ≡ drop (4 + padded (short_field order 2 bytes)) bytes)
      (far : 4 ≤ next) where
    -- the reason of an option, or that of the options after it
    reason_in-step : reason_in order bytes
        ≡ unwrap_or (option_reason code value) (reason_in order (drop next bytes))
    reason_in-step = go (code == 1) refl
      where
        go : (b : Bool) → (code == 1) ≡ b
            → reason_in order bytes
            ≡ unwrap_or (if b then reason_said value else None)
            (reason_in order (drop next bytes))
        go true is =
            let own : code ≡ 1 = grind (arith, nat_tests) in
            ap first_reason (option_values-found order 1 bytes next some more own behind far)
        go false is =
            ap first_reason (option_values-later order 1 bytes next some more is behind far)

    pub reason_in-found : (reason : ℕ) → option_reason code value ≡ Some reason
        → reason_in order bytes ≡ reason
    reason_in-found reason h =
        reason_in-step ∙ ap (λ (o : Option ℕ). unwrap_or o (reason_in order (drop next bytes))) h

    pub reason_in-later : option_reason code value ≡ None
        → reason_in order bytes ≡ reason_in order (drop next bytes)
    reason_in-later h =
        reason_in-step ∙ ap (λ (o : Option ℕ). unwrap_or o (reason_in order (drop next bytes))) h

-- ---- what is written

digits-all : (digits : List ℕ) → AllDigits 10 digits → list_all is_ascii_digit digits ≡ true
digits-all [] h = refl
digits-all (c ∷ cs) h =
    let range = digit_from_value c h.0 in
    let low : nat_le 48 c ≡ true = le-leb 48 c range.0 in
    let high : nat_le c 57 ≡ true = le-leb c 57 range.1 in
    rw (low, high) (digits-all cs h.1)

-- the decimal digits of a number of 32 bits are those of a reason
pub reason_number-decimal : (n : ℕ) → n < 2 ^ 32 → reason_number (decimal n) ≡ Some n
reason_number-decimal n small =
    let numeral = decimal_is_IsNumeral n (omega (arith, small)) in
    let few : length (decimal n) ≤ 10 =
    length-decimal-le 10 n (omega arith) (omega (arith, small)) (omega (arith, small)) in
    let fits : nat_lt (digits_value 10 (decimal n)) (2 ^ 32) ≡ true =
    lt-ltb (digits_value 10 (decimal n)) (2 ^ 32) (omega (arith, numeral.1, small)) in
    reason_number-digits (decimal n) numeral.0.0 few (digits-all (decimal n) numeral.0.1)
    ∙ rw fits (ap Some numeral.1)
