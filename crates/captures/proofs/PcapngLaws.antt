-- Laws of the definitions in specs/Pcapng.
use Rattle.captures.proofs.Common.{◌≡◌, ℕ, zero, suc, ◌+◌, ◌<◌, ◌≤◌, List, [], ◌++◌, ◌-◌, length, take, drop, min, ◌∷◌, Bool, true, false, Option, Some, None, Ok, Err, refl, sym, ap, subst, ◌∙◌, arith, ltb-false, le-ltb, lt-ltb, length-drop, nat_lt, ◌==◌, ◌%◌, not, if◌then◌else◌, nat_tests, drop-append-le, drop_min, take_min, big_number, little_number, big_from-append, little_from-append, NumberOrder, PcapngForm, Interface, TooLong, BadBlock, field, short_field, padded, option_in, option_value, options_in, option_values, section_order, is_section, block_order, least_size, sized_by, block_size, max_block, PcapngSection, says_nothing, said_in, said_by, block_said}
use Rattle.captures.proofs.PcapLaws.{field-append}

-- ---- how long a block is

pub is_section-append : (xs ys : List ℕ) → 4 ≤ length xs → is_section (xs ++ ys) ≡ is_section xs
is_section-append xs ys h = ap (λ n. n == 0x0a0d0d0a) (big_from-append 4 xs ys h)

section_order-append : (xs ys : List ℕ) → 12 ≤ length xs
    → section_order (xs ++ ys) ≡ section_order xs
section_order-append xs ys h =
    let at = drop-append-le 8 xs ys (omega arith) in
    let high : big_number 4 (drop 8 (xs ++ ys)) ≡ big_number 4 (drop 8 xs) =
    ap (big_number 4) at ∙ big_from-append 4 (drop 8 xs) ys (omega (arith, length-drop 8 xs)) in
    let low : little_number 4 (drop 8 (xs ++ ys)) ≡ little_number 4 (drop 8 xs) =
    ap (little_number 4) at
    ∙ little_from-append 4 (drop 8 xs) ys (omega (arith, length-drop 8 xs)) in
    rw (high, low) refl

block_order-append : (order : NumberOrder) (xs ys : List ℕ) → 12 ≤ length xs
    → block_order order (xs ++ ys) ≡ block_order order xs
block_order-append order xs ys h =
    let section = is_section-append xs ys (omega arith) in
    let own = section_order-append xs ys h in
    rw (section, own) refl

sized_by-append : (order : Option NumberOrder) (xs ys : List ℕ) → 12 ≤ length xs
    → sized_by (xs ++ ys) order ≡ sized_by xs order
sized_by-append None xs ys h = refl
sized_by-append (Some order) xs ys h =
    let kind = field-append order 0 xs ys (omega arith) in
    let size = field-append order 4 xs ys (omega arith) in
    rw (kind, size) refl

-- how long a block is depends on no byte after its first 12
pub block_size-append : (order : NumberOrder) (xs ys : List ℕ) → 12 ≤ length xs
    → block_size order (xs ++ ys) ≡ block_size order xs
unfolding block_size
block_size-append order xs ys h =
    ap (sized_by (xs ++ ys)) (block_order-append order xs ys h)
    ∙ sized_by-append (block_order order xs) xs ys h

least_of : (a b c d e : Bool)
    → 12 ≤ (if a then 28 else if b then 20 else if c then 32 else if d then 16 else if e then 32
    else 12)
least_of true b c d e = omega arith
least_of false true c d e = omega arith
least_of false false true d e = omega arith
least_of false false false true e = omega arith
least_of false false false false true = omega arith
least_of false false false false false = omega arith

least_size-12 : (kind : ℕ) → 12 ≤ least_size kind
least_size-12 kind =
    least_of (kind == 0x0a0d0d0a) (kind == 1) (kind == 2) (kind == 3) (kind == 6)

-- a block that has this size by its head
pub record IsSized (order : NumberOrder) (bytes : List ℕ) (size : ℕ) : Type 0 where
  pub says : field order 4 bytes ≡ size
  pub least : least_size (field order 0 bytes) ≤ size
  pub most : size ≤ max_block

sized_some : (order : NumberOrder) (bytes : List ℕ) (size : ℕ)
    → sized_by bytes (Some order) ≡ Ok size → IsSized order bytes size
sized_some order bytes size h =
    let n = field order 4 bytes in
    let l = least_size (field order 0 bytes) in
    go (nat_lt n l) (not (n % 4 == 0)) (nat_lt max_block n) refl refl h
  where
    go : (a b c : Bool) → nat_lt (field order 4 bytes) (least_size (field order 0 bytes)) ≡ a
        → nat_lt max_block (field order 4 bytes) ≡ c
        → (if a then Err BadBlock else if b then Err BadBlock else if c then Err TooLong
        else Ok (field order 4 bytes)) ≡ Ok size
        → IsSized order bytes size
    go true b c few many h = absurd cc
    go false true c few many h = absurd cc
    go false false true few many h = absurd cc
    go false false false few many h =
        let is : field order 4 bytes ≡ size = cc in
        record {
          says = is;
          least = omega (arith, ltb-false _ _ few);
          most = omega (arith, ltb-false _ _ many);
        }

-- a block has an order, and it has this size by its head
pub block_size-is : (order : NumberOrder) (bytes : List ℕ) (size : ℕ)
    → block_size order bytes ≡ Ok size
    → (own : NumberOrder) × (block_order order bytes ≡ Some own) × IsSized own bytes size
unfolding block_size
block_size-is order bytes size h = go (block_order order bytes) refl h
  where
    go : (found : Option NumberOrder) → block_order order bytes ≡ found
        → sized_by bytes found ≡ Ok size
        → (own : NumberOrder) × (block_order order bytes ≡ Some own) × IsSized own bytes size
    go None is h = absurd cc
    go (Some own) is h = (own, is, sized_some own bytes size h)

pub block_size-least : (order : NumberOrder) (bytes : List ℕ) (size : ℕ)
    → block_size order bytes ≡ Ok size → 12 ≤ size
block_size-least order bytes size h =
    let sized = (block_size-is order bytes size h).2 in
    let least = sized.least in
    omega (arith, least_size-12 (field (block_size-is order bytes size h).0 0 bytes))

pub block_size-most : (order : NumberOrder) (bytes : List ℕ) (size : ℕ)
    → block_size order bytes ≡ Ok size → size ≤ max_block
block_size-most order bytes size h = (block_size-is order bytes size h).2.most

-- ---- the size of a block, test by test

pub block_size-none : (order : NumberOrder) (bytes : List ℕ) → block_order order bytes ≡ None
    → block_size order bytes ≡ Err BadBlock
unfolding block_size
block_size-none order bytes h = ap (sized_by bytes) h

module _ (order own : NumberOrder) (bytes : List ℕ) (size kind : ℕ)
    (is : block_order order bytes ≡ Some own) (says : size ≡ field own 4 bytes)
    (names : kind ≡ field own 0 bytes) where
  pub block_size-few : size < least_size kind → block_size order bytes ≡ Err BadBlock
  unfolding block_size
  block_size-few h =
      let few = lt-ltb _ _ h in
      ap (sized_by bytes) is ∙ rw (← says, ← names, few) refl

  pub block_size-uneven : least_size kind ≤ size → (size % 4 == 0) ≡ false
      → block_size order bytes ≡ Err BadBlock
  unfolding block_size
  block_size-uneven h uneven =
      let few = le-ltb _ _ h in
      ap (sized_by bytes) is ∙ rw (← says, ← names, few, uneven) refl

  pub block_size-long : least_size kind ≤ size → (size % 4 == 0) ≡ true → max_block < size
      → block_size order bytes ≡ Err TooLong
  unfolding block_size
  block_size-long h even more =
      let few = le-ltb _ _ h in
      let many = lt-ltb _ _ more in
      ap (sized_by bytes) is ∙ rw (← says, ← names, few, even, many) refl

  pub block_size-fits : least_size kind ≤ size → (size % 4 == 0) ≡ true → size ≤ max_block
      → block_size order bytes ≡ Ok size
  unfolding block_size
  block_size-fits h even less =
      let few = le-ltb _ _ h in
      let many = le-ltb _ _ less in
      ap (sized_by bytes) is ∙ rw (← says, ← names, few, even, many) refl

-- ---- options

-- fuel beyond the number of bytes changes nothing
option_in-fuel : (fuel more : ℕ) (order : NumberOrder) (code : ℕ) (bytes : List ℕ)
    → length bytes < fuel → length bytes < more
    → option_in fuel order code bytes ≡ option_in more order code bytes
unfolding option_in
option_in-fuel zero more order code bytes a b = absurd (omega arith)
option_in-fuel (suc fuel) zero order code bytes a b = absurd (omega arith)
option_in-fuel (suc fuel) (suc more) order code bytes a b =
    let size = 4 + padded (short_field order 2 bytes) in
    go (nat_lt (length bytes) 4) refl
    (λ some. option_in-fuel fuel more order code (drop size bytes)
    (omega (arith, length-drop size bytes)) (omega (arith, length-drop size bytes)))
  where
    go : (b : Bool) → nat_lt (length bytes) 4 ≡ b
        → (4 ≤ length bytes
        → option_in fuel order code (drop (4 + padded (short_field order 2 bytes)) bytes)
        ≡ option_in more order code (drop (4 + padded (short_field order 2 bytes)) bytes))
        → option_in (suc fuel) order code bytes ≡ option_in (suc more) order code bytes
    go true is later = rw is refl
    go false is later =
        ap (λ (r : Option (List ℕ)). if nat_lt (length bytes) 4 then None
        else if short_field order 0 bytes == 0 then None
        else if short_field order 0 bytes == code
        then Some (take (short_field order 2 bytes) (drop 4 bytes)) else r)
        (later (ltb-false _ _ is))

module _ (order : NumberOrder) (code : ℕ) (bytes : List ℕ) where
  pub option_value-none : length bytes < 4 → option_value order code bytes ≡ None
  unfolding option_in
  option_value-none h = let few = lt-ltb _ _ h in rw few refl

  pub option_value-end : 4 ≤ length bytes → short_field order 0 bytes ≡ 0
      → option_value order code bytes ≡ None
  unfolding option_in
  option_value-end h end = let some = le-ltb _ _ h in rw (some, end) refl

  pub option_value-found : 4 ≤ length bytes → (short_field order 0 bytes == 0) ≡ false
      → short_field order 0 bytes ≡ code
      → option_value order code bytes
      ≡ Some (take (short_field order 2 bytes) (drop 4 bytes))
  unfolding option_in
  option_value-found h more is =
      let some = le-ltb _ _ h in
      let same : (short_field order 0 bytes == code) ≡ true = grind (arith, nat_tests) in
      rw (some, more, same) refl

  pub option_value-later : (next : ℕ) → 4 ≤ length bytes
      → (short_field order 0 bytes == 0) ≡ false → (short_field order 0 bytes == code) ≡ false
      → drop next bytes ≡ drop (4 + padded (short_field order 2 bytes)) bytes → 4 ≤ next
      → option_value order code bytes ≡ option_value order code (drop next bytes)
  unfolding option_in
  option_value-later next h more other is far =
      let some = le-ltb _ _ h in
      let short = length-drop next bytes in
      rw (some, more, other)
      (ap (option_in (length bytes) order code) (sym is)
      ∙ option_in-fuel (length bytes) (suc (length (drop next bytes))) order code
      (drop next bytes) (omega arith) (omega arith))

-- a value that is cut by the end of the options
pub option_cut : (order : NumberOrder) (bytes : List ℕ) (end : ℕ)
    → end ≡ min (length bytes) (4 + short_field order 2 bytes)
    → ◌≡◌ {A = Option (List ℕ)} (Some (take (end - 4) (drop 4 bytes)))
    (Some (take (short_field order 2 bytes) (drop 4 bytes)))
option_cut order bytes end is =
    let n = short_field order 2 bytes in
    let rest = drop 4 bytes in
    let long = length-drop 4 bytes in
    let cut : end - 4 ≡ min n (length rest) = omega arith in
    ap (λ m. Some (take m rest)) cut ∙ ap (λ l. Some l) (take_min n rest)

-- the options after one, where they may end before its padding
pub option_next : (order : NumberOrder) (bytes : List ℕ) (next : ℕ)
    → next ≡ min (length bytes) (4 + padded (short_field order 2 bytes))
    → drop next bytes ≡ drop (4 + padded (short_field order 2 bytes)) bytes
option_next order bytes next is =
    let n = 4 + padded (short_field order 2 bytes) in
    let same : next ≡ min n (length bytes) = omega arith in
    ap (λ m. drop m bytes) same ∙ drop_min n bytes

-- fuel beyond the number of bytes changes nothing
options_in-fuel : (fuel more : ℕ) (order : NumberOrder) (code : ℕ) (bytes : List ℕ)
    → length bytes < fuel → length bytes < more
    → options_in fuel order code bytes ≡ options_in more order code bytes
unfolding options_in
options_in-fuel zero more order code bytes a b = absurd (omega arith)
options_in-fuel (suc fuel) zero order code bytes a b = absurd (omega arith)
options_in-fuel (suc fuel) (suc more) order code bytes a b =
    go (nat_lt (length bytes) 4) refl
    (λ some. options_in-fuel fuel more order code
    (drop (4 + padded (short_field order 2 bytes)) bytes)
    (omega (arith, length-drop (4 + padded (short_field order 2 bytes)) bytes))
    (omega (arith, length-drop (4 + padded (short_field order 2 bytes)) bytes)))
  where
    go : (b : Bool) → nat_lt (length bytes) 4 ≡ b
        → (4 ≤ length bytes
        → options_in fuel order code (drop (4 + padded (short_field order 2 bytes)) bytes)
        ≡ options_in more order code (drop (4 + padded (short_field order 2 bytes)) bytes))
        → options_in (suc fuel) order code bytes ≡ options_in (suc more) order code bytes
    go true is later = rw is refl
    go false is later =
        ap (λ (r : List (List ℕ)). if nat_lt (length bytes) 4 then []
        else if short_field order 0 bytes == 0 then []
        else if short_field order 0 bytes == code
        then take (short_field order 2 bytes) (drop 4 bytes) ∷ r else r)
        (later (ltb-false _ _ is))

module _ (order : NumberOrder) (code : ℕ) (bytes : List ℕ) where
  pub option_values-none : length bytes < 4 → option_values order code bytes ≡ []
  unfolding options_in
  option_values-none h = let few = lt-ltb _ _ h in rw few refl

  pub option_values-end : 4 ≤ length bytes → short_field order 0 bytes ≡ 0
      → option_values order code bytes ≡ []
  unfolding options_in
  option_values-end h end = let some = le-ltb _ _ h in rw (some, end) refl

  -- those after an option, where they may end before its padding
  option_values-behind : (next : ℕ) → 4 ≤ length bytes
      → drop next bytes ≡ drop (4 + padded (short_field order 2 bytes)) bytes → 4 ≤ next
      → options_in (length bytes) order code
      (drop (4 + padded (short_field order 2 bytes)) bytes)
      ≡ option_values order code (drop next bytes)
  option_values-behind next h is far =
      ap (options_in (length bytes) order code) (sym is)
      ∙ options_in-fuel (length bytes) (suc (length (drop next bytes))) order code
      (drop next bytes) (omega (arith, h, far, length-drop next bytes)) (omega arith)

  pub option_values-found : (next : ℕ) → 4 ≤ length bytes
      → (short_field order 0 bytes == 0) ≡ false → short_field order 0 bytes ≡ code
      → drop next bytes ≡ drop (4 + padded (short_field order 2 bytes)) bytes → 4 ≤ next
      → option_values order code bytes
      ≡ take (short_field order 2 bytes) (drop 4 bytes) ∷ option_values order code (drop next bytes)
  unfolding options_in
  option_values-found next h more found is far =
      let some = le-ltb _ _ h in
      let same : (short_field order 0 bytes == code) ≡ true = grind (arith, nat_tests) in
      rw (some, more, same)
      (ap (λ (l : List (List ℕ)). take (short_field order 2 bytes) (drop 4 bytes) ∷ l)
      (option_values-behind next h is far))

  pub option_values-later : (next : ℕ) → 4 ≤ length bytes
      → (short_field order 0 bytes == 0) ≡ false → (short_field order 0 bytes == code) ≡ false
      → drop next bytes ≡ drop (4 + padded (short_field order 2 bytes)) bytes → 4 ≤ next
      → option_values order code bytes ≡ option_values order code (drop next bytes)
  unfolding options_in
  option_values-later next h more other is far =
      let some = le-ltb _ _ h in
      rw (some, more, other) (option_values-behind next h is far)

-- ---- what a block says

module _ (form : PcapngForm) (interfaces : List Interface) (block : List ℕ) where
  abbrev section : PcapngSection
  section = record { form = form; interfaces = interfaces }

  pub block_said-none : block_order form.order block ≡ None
      → block_said section block ≡ Err BadBlock
  unfolding block_said
  block_said-none h = ap (said_by section block) h

  pub block_said-unlike : (own : NumberOrder) → block_order form.order block ≡ Some own
      → (field own (length block - 4) block == length block) ≡ false
      → block_said section block ≡ Err BadBlock
  unfolding block_said
  block_said-unlike own h unlike = ap (said_by section block) h ∙ rw unlike refl

  pub block_said-section : (own : NumberOrder) → block_order form.order block ≡ Some own
      → (field own (length block - 4) block == length block) ≡ true → is_section block ≡ true
      → block_said section block
      ≡ says_nothing (record {
        form = record { order = own; reasons = form.reasons };
        interfaces = [];
      })
  unfolding block_said
  block_said-section own h like is = ap (said_by section block) h ∙ rw (like, is) refl

  pub block_said-other : (own : NumberOrder) → block_order form.order block ≡ Some own
      → (field own (length block - 4) block == length block) ≡ true → is_section block ≡ false
      → block_said section block ≡ said_in section block (field own 0 block)
  unfolding block_said
  block_said-other own h like is = ap (said_by section block) h ∙ rw (like, is) refl

-- a block is as long as its type asks
pub least-inside : (order own : NumberOrder) (block : List ℕ)
    → block_size order block ≡ Ok (length block) → block_order order block ≡ Some own
    → least_size (field own 0 block) ≤ length block
least-inside order own block h is =
    let sized = block_size-is order block (length block) h in
    let same : sized.0 ≡ own = let found = sized.1 in cc in
    subst (λ (o : NumberOrder). least_size (field o 0 block) ≤ length block) same sized.2.least
