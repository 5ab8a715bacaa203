-- The values of arguments, limits, and command lines with more arguments and commands.
use Rattle.words.proofs.Common.{◌≡◌, ◌∙◌, ◌<◌, ◌≤◌, ℕ, Bool, true, false, List, [], ◌∷◌, Option, Some, None, length, take, get_or, ◌+◌, map, refl, ap, ap₂, sym, arith, cond, ◌^◌, lt-ltb, le-ltb, ◌&&◌, not, option_map, option_and_then, slice_get, nat_le, nat_lt, Result, Ok, Err, IfOk, IsOkAnd, max_steps, limit_of, with_wanted, with_command, AddsSubcommand, App, Row, app_of, first_of, first_value, found_of, rows_of, ArgMatches}
use Rattle.std.specs.List.{list_all, fold}
use Rattle.std.specs.Int.{IsInRange}
use Rattle.std.specs.Char.{is_ascii_digit}
use Rattle.std.specs.Str.Parse.{AllDigits, IsNumeral, digits_value, without_leading_plus}
use Rattle.std.proofs.lemmas.Str.Parse.{without_leading_plus_none}
use Rattle.std.proofs.lemmas.Str.{digit_value_digit}
use Rattle.std.proofs.lemmas.Bool.{leb-true, le-leb, lt-leb}
use Rattle.std.proofs.Math.Bool.{and-false}
use Rattle.words.specs.FilterAsked.{number_of}
use Rattle.std.specs.Borrow.{Bor}
use Rattle.std.proofs.lemmas.List.Folds.{fold-map}
use Rattle.std.proofs.lemmas.List.Sums.{fold_more}
use Rattle.clap.specs.declared.builder.command.Command.{Command}
use Rattle.clap.proofs.WalkLemmas.{find_row}
use Rattle.clap.specs.declared.parser.matches.MatchedArg.{MatchedArg}

-- the first text of a list
first-texts : (vs : List (Bor (List ℕ)))
    → option_map (λ s. s.now) (slice_get vs 0) ≡ slice_get (map (λ s. s.now) vs) 0
first-texts [] = refl
first-texts (v ∷ vs) = refl

-- the first value of an argument is that of its row
first-row : (o : Option (Bor (List ℕ) × MatchedArg))
    → option_and_then (λ a. option_map (λ s. s.now) (slice_get a.vals.items 0))
    (option_map (λ e. e.1) o)
    ≡ option_and_then (λ (r : Row). slice_get r.values 0) (option_map (λ e. record {
      id = e.0.now;
      values = map (λ s. s.now) e.1.vals.items;
      count = e.1.count;
      source = e.1.source;
      reading = e.1.reading;
    }) o)
first-row None = refl
first-row (Some e) = first-texts e.1.vals.items

-- the value of an argument is in its row
pub first_value-first_of : (m : ArgMatches) (id : List ℕ)
    → first_value (found_of m) id ≡ first_of id (rows_of (found_of m))
first_value-first_of m id =
    first-row _ ∙ ap (option_and_then (λ (r : Row). slice_get r.values 0))
    (sym (find_row (found_of m).entries.items id))

-- ---- limits

-- both of two tests hold
both : (a b : Bool) → (a && b) ≡ true → (a ≡ true) × (b ≡ true)
both true b h = (refl, h)
both false b h = cc

first-digit : (c : ℕ) → is_ascii_digit c ≡ true → IsInRange 48 57 c
first-digit c h = (leb-true 48 c (both _ _ h).0, leb-true c 57 (both _ _ h).1)

-- a text of digits has no sign
no-sign : (text : List ℕ) → list_all is_ascii_digit text ≡ true → without_leading_plus text ≡ text
no-sign [] h = refl
no-sign (c ∷ cs) h =
    let range = first-digit c (both _ _ h).0 in
    without_leading_plus_none (c ∷ cs) (λ plus. omega (arith, range.0, range.1))

-- each byte of it is a digit
all-digits : (text : List ℕ) → list_all is_ascii_digit text ≡ true → AllDigits 10 text
all-digits [] h = tt
all-digits (c ∷ cs) h =
    let range = first-digit c (both _ _ h).0 in
    (omega (arith, digit_value_digit c range, range.1), all-digits cs (both _ _ h).1)

-- which limit a text of digits spells
limit_of-digits : (text : List ℕ) → 0 < length text → list_all is_ascii_digit text ≡ true
    → limit_of text
    ≡ cond (nat_le 1 (digits_value 10 text) && nat_le (digits_value 10 text) max_steps)
    (Some (digits_value 10 text)) None
limit_of-digits text some digits = rw (lt-ltb 0 (length text) some, digits) refl

-- a text that was read as a number in the range is a limit
pub limit_of-read : (text : List ℕ) (steps : ℕ) → 0 < length text
    → list_all is_ascii_digit text ≡ true → steps ≡ digits_value 10 (without_leading_plus text)
    → 1 ≤ steps → steps ≤ max_steps → Some steps ≡ limit_of text
limit_of-read text steps some digits read least most =
    let spelled : steps ≡ digits_value 10 text =
    read ∙ ap (digits_value 10) (no-sign text digits) in
    let low : nat_le 1 (digits_value 10 text) ≡ true =
    le-leb 1 (digits_value 10 text) (omega arith) in
    let high : nat_le (digits_value 10 text) max_steps ≡ true =
    le-leb (digits_value 10 text) max_steps (omega arith) in
    let is : limit_of text ≡ Some (digits_value 10 text) =
    limit_of-digits text some digits ∙ rw (low, high) refl in
    cc

-- a text that was not read as a number is not a limit
pub limit_of-unread : (text : List ℕ) → 0 < length text → list_all is_ascii_digit text ≡ true
    → (IsNumeral 10 (without_leading_plus text)
    × (digits_value 10 (without_leading_plus text) < 2 ^ 32) → ⊥) → None ≡ limit_of text
limit_of-unread text some digits read =
    let numeral : IsNumeral 10 text = (some, all-digits text digits) in
    let large : digits_value 10 text < 2 ^ 32 → ⊥ =
    λ small. read (rw (no-sign text digits) (numeral, small)) in
    let high : nat_le (digits_value 10 text) max_steps ≡ false =
    lt-leb (digits_value 10 text) max_steps (omega (arith, large)) in
    let is : limit_of text ≡ None = limit_of-digits text some digits ∙ rw (high, and-false) refl in
    cc

-- ---- numbers

-- which number a text of digits spells
number_of-digits : (text : List ℕ) → 0 < length text → list_all is_ascii_digit text ≡ true
    → number_of text
    ≡ cond (nat_lt (digits_value 10 text) (2 ^ 32)) (Some (digits_value 10 text)) None
number_of-digits text some digits = rw (lt-ltb 0 (length text) some, digits) refl

-- a text that was read as a number is one
pub number_of-read : (text : List ℕ) (number : ℕ) → 0 < length text
    → list_all is_ascii_digit text ≡ true → number ≡ digits_value 10 (without_leading_plus text)
    → number < 2 ^ 32 → Some number ≡ number_of text
number_of-read text number some digits read fits =
    let spelled : number ≡ digits_value 10 text =
    read ∙ ap (digits_value 10) (no-sign text digits) in
    let low : nat_lt (digits_value 10 text) (2 ^ 32) ≡ true =
    lt-ltb (digits_value 10 text) (2 ^ 32) (omega (arith, spelled, fits)) in
    let is : number_of text ≡ Some (digits_value 10 text) =
    number_of-digits text some digits ∙ rw low refl in
    cc

-- a text that was not read as a number is none
pub number_of-unread : (text : List ℕ) → 0 < length text → list_all is_ascii_digit text ≡ true
    → (IsNumeral 10 (without_leading_plus text)
    × (digits_value 10 (without_leading_plus text) < 2 ^ 32) → ⊥) → None ≡ number_of text
number_of-unread text some digits read =
    let numeral : IsNumeral 10 text = (some, all-digits text digits) in
    let large : digits_value 10 text < 2 ^ 32 → ⊥ =
    λ small. read (rw (no-sign text digits) (numeral, small)) in
    let high : nat_lt (digits_value 10 text) (2 ^ 32) ≡ false =
    le-ltb (digits_value 10 text) (2 ^ 32) (omega (arith, large)) in
    let is : number_of text ≡ None = number_of-digits text some digits ∙ rw high refl in
    cc

-- ---- the command line

-- with one more argument
pub wanted-more : {A : Type 0} (name : A → List ℕ) (a : App) (xs : List A) (i : ℕ) (d : A)
    → i < length xs
    → fold with_wanted a (map name (take (i + 1) xs))
    ≡ with_wanted (fold with_wanted a (map name (take i xs))) (name (get_or xs i d))
wanted-more name a xs i d lt =
    fold-map with_wanted name a (take (i + 1) xs)
    ∙ (fold_more (λ b x. with_wanted b (name x)) a xs i d lt
    ∙ ap (λ (b : App). with_wanted b (name (get_or xs i d)))
    (sym (fold-map with_wanted name a (take i xs))))

-- a plain command is not global
local : (a b g r : Bool) → (a && (not b && (not g && r))) ≡ true → g ≡ false
local true false false r h = refl
local true false true r h = cc
local true true g r h = cc
local false b g r h = cc

-- with one more command
pub command-more : (old sub new : Command) (a b : App) → AddsSubcommand old sub new → app_of old ≡ a
    → app_of sub ≡ b → b.top.is_plain ≡ true → app_of new ≡ with_command a b
command-more old sub new a b added e f plain =
    added.shape (local _ _ _ _ (ap (λ (x : App). x.top.is_plain) f ∙ plain)) ∙ ap₂ with_command e f

-- with one more command than a program that may not be there
pub command-added : {E : Type 0} (old new : Result Command E) (a b : App)
    → IfOk new (λ made. IsOkAnd old (λ before. app_of made ≡ with_command (app_of before) b))
    → IfOk old (λ before. app_of before ≡ a) → IfOk new (λ made. app_of made ≡ with_command a b)
command-added old (Err e) a b added is = tt
command-added (Err e) (Ok made) a b added is = absurd added
command-added (Ok before) (Ok made) a b added is = added ∙ ap (λ (x : App). with_command x b) is

-- a command with more required arguments stays plain
pub is_plain-wanted : (a : App) (names : List (List ℕ))
    → (fold with_wanted a names).top.is_plain ≡ a.top.is_plain
is_plain-wanted a [] = refl
is_plain-wanted a (name ∷ names) = is_plain-wanted (with_wanted a name) names
