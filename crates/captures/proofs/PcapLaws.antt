-- Laws of the definitions in specs/Pcap.
use Rattle.captures.proofs.Common.{◌≡◌, ℕ, ◌+◌, ◌%◌, ◌^◌, ◌<◌, ◌≤◌, List, ◌++◌, length, drop, Option, Some, None, Ok, Err, refl, sym, ap, ◌∙◌, arith, le-ltb, length-append, length-drop, nat_tests, drop-append-le, big_number, little_number, big_from-append, little_from-append, NumberOrder, HighFirst, LowFirst, LinkType, TruncatedFileHead, NoCapture, UnknownLink, link_of, field, pcap_start, with_link, with_start, opened}
use Rattle.captures.specs.declared.forms.TimeUnit.{TimeUnit}

-- ---- the file head

pub opened-short : (bytes : List ℕ) → length bytes < 24 → opened bytes ≡ Err TruncatedFileHead
unfolding opened
opened-short bytes h = grind (arith, nat_tests)

pub opened-other : (bytes : List ℕ) → 24 ≤ length bytes → pcap_start bytes ≡ None
    → opened bytes ≡ Err NoCapture
unfolding opened
opened-other bytes h start = let long = le-ltb _ _ h in rw (long, start) refl

pub opened-unknown : (bytes : List ℕ) (order : NumberOrder) (unit : TimeUnit) (number : ℕ)
    → 24 ≤ length bytes → pcap_start bytes ≡ Some (order, unit)
    → number ≡ field order 20 bytes % 2 ^ 16 → link_of number ≡ None
    → opened bytes ≡ Err (UnknownLink number)
unfolding opened
opened-unknown bytes order unit number h start is link =
    let long = le-ltb _ _ h in rw (long, start, ← is, link) refl

pub opened-read : (bytes : List ℕ) (order : NumberOrder) (unit : TimeUnit) (link : LinkType)
    (number : ℕ) → 24 ≤ length bytes → pcap_start bytes ≡ Some (order, unit)
    → number ≡ field order 20 bytes % 2 ^ 16 → link_of number ≡ Some link
    → opened bytes ≡ Ok (record { order = order; unit = unit; link = link })
unfolding opened
opened-read bytes order unit link number h start is named =
    let long = le-ltb _ _ h in rw (long, start, ← is, named) refl

-- ---- numbers

-- a number at an offset depends on no byte after it
pub field-append : (order : NumberOrder) (at : ℕ) (xs ys : List ℕ) → at + 4 ≤ length xs
    → field order at (xs ++ ys) ≡ field order at xs
field-append HighFirst at xs ys h =
    rw (drop-append-le at xs ys (omega arith))
    (big_from-append 4 (drop at xs) ys (omega (arith, length-drop at xs)))
field-append LowFirst at xs ys h =
    rw (drop-append-le at xs ys (omega arith))
    (little_from-append 4 (drop at xs) ys (omega (arith, length-drop at xs)))

-- ---- a file head, and what follows it

opened-is : (bytes : List ℕ) → 24 ≤ length bytes
    → opened bytes ≡ with_start bytes (pcap_start bytes)
unfolding opened
opened-is bytes h = let long = le-ltb _ _ h in rw long refl

pcap_start-append : (xs ys : List ℕ) → 4 ≤ length xs → pcap_start (xs ++ ys) ≡ pcap_start xs
unfolding pcap_start
pcap_start-append xs ys h =
    let high : big_number 4 (xs ++ ys) ≡ big_number 4 xs = big_from-append 4 xs ys h in
    let low : little_number 4 (xs ++ ys) ≡ little_number 4 xs = little_from-append 4 xs ys h in
    rw (high, low) refl

with_start-append : (xs ys : List ℕ) (start : Option (NumberOrder × TimeUnit)) → 24 ≤ length xs
    → with_start (xs ++ ys) start ≡ with_start xs start
with_start-append xs ys None h = refl
with_start-append xs ys (Some start) h =
    ap (λ n. with_link start.0 start.1 (n % 2 ^ 16) (link_of (n % 2 ^ 16)))
    (field-append start.0 20 xs ys (omega arith))

-- the form of a capture depends on no byte after its head
pub opened-append : (xs ys : List ℕ) → 24 ≤ length xs → opened (xs ++ ys) ≡ opened xs
opened-append xs ys h =
    opened-is (xs ++ ys) (omega (arith, length-append xs ys))
    ∙ ap (with_start (xs ++ ys)) (pcap_start-append xs ys (omega arith))
    ∙ with_start-append xs ys (pcap_start xs) h ∙ sym (opened-is xs h)
