-- Why a table is refused is the same however its bytes go on, unless they end too early.
use Rattle.table_entries.proofs.Common.{◌≡◌, ℕ, zero, suc, ◌+◌, ◌-◌, ◌≤◌, nat_lt, nat_eq, ◌==◌, ◌||◌, not, if◌then◌else◌, codes, Bool, true, false, List, [], ◌∷◌, ◌++◌, length, drop, Option, Some, Result, Ok, Err, ◌⊎◌, ap, sym, ◌∙◌, subst, append_assoc, inl, inr, arith, refl, le-ltb, append-nil, drop-append-le, length-append, take-append-le, little_number, Program, AbstractFrame, Short, Meaningless, Read, sized, then_read, frame_in, callers_in, Entry, named_in, entry_with, rest_in, entry_in, before, then_entries, entries_in, to_the_end, count_in, body_in, with_count, all_allowed}
use Rattle.std.specs.List.{starts_with}
use lib.Pointwise.{pointwise}
use Rattle.isa_model.specs.Code.Limits.{max_call_frames}
use Rattle.isa_model.specs.declared.limits.TheConstants.{MAX_EXPLORED}
use Rattle.table_entries.specs.declared.refusals.TableRefusal.{TableRefusal}
use Rattle.table_entries.specs.declared.refusals.TableRefusal.TheVariants as refusal
use Rattle.table_entries.specs.Settled.{IsTableSettled, IsTableOpen}
use Rattle.table_entries.proofs.EntryOrder.{end-empty, end-long}
use Rattle.table_entries.proofs.Fronts.{same2, same4, number-front, ReadsFront, ReadsFront-sized, ReadsFront-then, ReadsFront-if, ReadsFront-nothing, ReadsFront-many, ReadsFront-byte, ReadsFront-frame}

-- ---- an entry

-- what is read is the same with more bytes, which are left
abbrev Extends : {X : Type 0} → (List ℕ → Read X) → List ℕ → Read X → Type 0
Extends one bytes (Ok x) = (more : List ℕ) → one (bytes ++ more) ≡ Ok (x.0, x.1 ++ more)
Extends one bytes (Err Short) = Unit {0}
Extends one bytes (Err Meaningless) = (more : List ℕ) → one (bytes ++ more) ≡ Err Meaningless

extends : {X : Type 0} (one : List ℕ → Read X) (bytes : List ℕ) (r : Read X)
    → ReadsFront one bytes r → Extends one bytes r
extends one bytes (Ok x) (front, whole, each) =
    λ more. ap (λ (b : List ℕ). one (b ++ more)) whole
    ∙ ap one (append_assoc front x.1 more) ∙ each (x.1 ++ more)
extends one bytes (Err Short) h = tt
extends one bytes (Err Meaningless) h = h

ReadsFront-named : (bytes : List ℕ) → ReadsFront named_in bytes (named_in bytes)
unfolding named_in
ReadsFront-named [] = tt
ReadsFront-named (count ∷ bytes) =
    let one : List ℕ → Option (List ℕ) = λ b. Some (little_number 4 b ∷ []) in
    let two : List ℕ → Option (List ℕ) =
    λ b. Some (little_number 4 b ∷ (little_number 4 (drop 4 b) ∷ [])) in
    let from_2 : List ℕ → Read (List ℕ) =
    λ c. if count == 2 then sized 8 two c else Err Meaningless in
    let from_1 : List ℕ → Read (List ℕ) = λ c. if count == 1 then sized 4 one c else from_2 c in
    let all : List ℕ → Read (List ℕ) = λ c. if count == 0 then Ok (Some [], c) else from_1 c in
    ReadsFront-byte all named_in count bytes (all bytes) (λ c. refl)
    (ReadsFront-if (count == 0) (λ c. Ok (Some [], c)) from_1 bytes
    (ReadsFront-nothing (Some []) bytes)
    (ReadsFront-if (count == 1) (sized 4 one) from_2 bytes
    (ReadsFront-sized 4 one
    (λ front r s le. ap (λ (n : ℕ). Some (n ∷ [])) (number-front 4 0 front r s le)) bytes)
    (ReadsFront-if (count == 2) (sized 8 two) (λ c. Err Meaningless) bytes
    (ReadsFront-sized 8 two
    (λ front r s le. same2 (λ (n m : ℕ). Some (n ∷ (m ∷ [])))
    (number-front 4 0 front r s (omega arith)) (number-front 4 4 front r s (omega arith))) bytes)
    (λ more. refl))))

-- the entries that are named, and the entry
abbrev last_part : Program → ℕ → ℕ → Option (List AbstractFrame) → Option AbstractFrame → List ℕ
    → Read Entry
last_part p number slot callers innermost others =
    then_read (named_in others) (λ successors after.
    Ok (entry_with p number slot callers innermost successors, after))

-- the innermost call frame before them
abbrev inner_part : Program → ℕ → ℕ → ℕ → Option (List AbstractFrame) → List ℕ → Read Entry
inner_part p number slot caller_count callers rest =
    then_read (frame_in (length p.maps) caller_count false rest) (λ innermost others.
    last_part p number slot callers innermost others)

ReadsFront-rest : (p : Program) (number slot caller_count : ℕ) (bytes : List ℕ)
    → ReadsFront (rest_in p number slot caller_count) bytes
    (rest_in p number slot caller_count bytes)
ReadsFront-rest p number slot caller_count bytes =
    let rows = length p.maps in
    ReadsFront-then (callers_in rows caller_count)
    (λ callers rest. inner_part p number slot caller_count callers rest) bytes
    (callers_in rows caller_count bytes)
    (ReadsFront-many (λ k. frame_in rows k true) (λ k b. ReadsFront-frame rows k true b)
    caller_count 0 bytes)
    (λ callers rest. ReadsFront-then (frame_in rows caller_count false)
    (λ innermost others. last_part p number slot callers innermost others) rest
    (frame_in rows caller_count false rest) (ReadsFront-frame rows caller_count false rest)
    (λ innermost others. ReadsFront-then named_in
    (λ successors after. Ok (entry_with p number slot callers innermost successors, after)) others
    (named_in others) (ReadsFront-named others)
    (λ successors after.
    ReadsFront-nothing (entry_with p number slot callers innermost successors) after)))

-- what is read of an entry after its first seven bytes, by what these say
abbrev entry_parts : Program → ℕ → ℕ → ℕ → List ℕ → Read Entry
entry_parts p number slot count bytes =
    if count == 0 || nat_lt max_call_frames count then Err Meaningless
    else rest_in p number slot (count - 1) bytes

-- the same, with the bytes in which these seven are
abbrev entry_with_head : Program → List ℕ → List ℕ → Read Entry
entry_with_head p head bytes =
    entry_parts p (little_number 4 head) (little_number 2 (drop 4 head))
    (little_number 1 (drop 6 head)) bytes

Extends-parts : (p : Program) (number slot count : ℕ) (bytes : List ℕ)
    → Extends (entry_parts p number slot count) bytes (entry_parts p number slot count bytes)
Extends-parts p number slot count bytes =
    extends (entry_parts p number slot count) bytes (entry_parts p number slot count bytes)
    (ReadsFront-if (count == 0 || nat_lt max_call_frames count) (λ c. Err Meaningless)
    (rest_in p number slot (count - 1)) bytes (λ more. refl)
    (ReadsFront-rest p number slot (count - 1) bytes))

number-more : (w d : ℕ) (bytes more : List ℕ) → d + w ≤ length bytes
    → little_number w (drop d (bytes ++ more)) ≡ little_number w (drop d bytes)
number-more w d bytes more le =
    number-front w d bytes more [] le
    ∙ ap (λ (b : List ℕ). little_number w (drop d b)) (append-nil bytes)

entry-parts : (p : Program) (bytes : List ℕ) → 7 ≤ length bytes
    → entry_in p bytes ≡ entry_with_head p bytes (drop 7 bytes)
unfolding entry_in
entry-parts p bytes le = rw (le-ltb (length bytes) 7 le) refl

entry-more : (p : Program) (bytes more : List ℕ) → 7 ≤ length bytes
    → entry_in p (bytes ++ more) ≡ entry_with_head p bytes (drop 7 bytes ++ more)
entry-more p bytes more le =
    let size = length-append bytes more in
    entry-parts p (bytes ++ more) (omega arith)
    ∙ same4 (entry_parts p) (number-more 4 0 bytes more (omega arith))
    (number-more 2 4 bytes more (omega arith)) (number-more 1 6 bytes more (omega arith))
    (drop-append-le 7 bytes more le)

carry : (one two : List ℕ → Read Entry) (bytes rest : List ℕ) (r : Read Entry)
    → ((more : List ℕ) → two (bytes ++ more) ≡ one (rest ++ more)) → Extends one rest r
    → Extends two bytes r
carry one two bytes rest (Ok x) same h = λ more. same more ∙ h more
carry one two bytes rest (Err Short) same h = tt
carry one two bytes rest (Err Meaningless) same h = λ more. same more ∙ h more

short_entry : (p : Program) (bytes : List ℕ) → nat_lt (length bytes) 7 ≡ true
    → entry_in p bytes ≡ Err Short
unfolding entry_in
short_entry p bytes e = rw e refl

Extends-entry : (p : Program) (bytes : List ℕ) → Extends (entry_in p) bytes (entry_in p bytes)
Extends-entry p bytes = of (nat_lt (length bytes) 7) refl where
  of : (b : Bool) → nat_lt (length bytes) 7 ≡ b → Extends (entry_in p) bytes (entry_in p bytes)
  of true e = subst (Extends (entry_in p) bytes) (sym (short_entry p bytes e)) tt
  of false e =
      let long : 7 ≤ length bytes = grind arith in
      subst (Extends (entry_in p) bytes) (sym (entry-parts p bytes long))
      (carry (entry_with_head p bytes) (entry_in p) bytes (drop 7 bytes)
      (entry_with_head p bytes (drop 7 bytes))
      (λ more. entry-more p bytes more long)
      (Extends-parts p (little_number 4 bytes) (little_number 2 (drop 4 bytes))
      (little_number 1 (drop 6 bytes)) (drop 7 bytes)))

-- ---- all entries

abbrev Entries : Type 0
Entries = Result (List (Option Entry) × List ℕ) TableRefusal

abbrev pub EntriesExtend : (List ℕ → Entries) → List ℕ → Entries → Type 0
EntriesExtend all bytes (Ok x) = (more : List ℕ) → all (bytes ++ more) ≡ Ok (x.0, x.1 ++ more)
EntriesExtend all bytes (Err e) =
    (e ≡ refusal.Short) ⊎ ((more : List ℕ) → all (bytes ++ more) ≡ Err e)

more_entries : (p : Program) (k : ℕ) (bytes : List ℕ) (x : Option Entry × List ℕ)
    (next : List ℕ → Entries) (r : Entries)
    → ((more : List ℕ) → entry_in p (bytes ++ more) ≡ Ok (x.0, x.1 ++ more))
    → EntriesExtend next x.1 r
    → EntriesExtend (λ b. then_entries k (entry_in p b) next) bytes (before x.0 r)
more_entries p k bytes x next (Ok y) one h =
    λ more. ap (λ (r : Read Entry). then_entries k r next) (one more) ∙ ap (before x.0) (h more)
more_entries p k bytes x next (Err e) one (inl short) = inl short
more_entries p k bytes x next (Err e) one (inr h) =
    inr (λ more. ap (λ (r : Read Entry). then_entries k r next) (one more)
    ∙ ap (before x.0) (h more))

then_extends : (p : Program) (k : ℕ) (bytes : List ℕ) (next : List ℕ → Entries) (r : Read Entry)
    → Extends (entry_in p) bytes r → ((rest : List ℕ) → EntriesExtend next rest (next rest))
    → EntriesExtend (λ b. then_entries k (entry_in p b) next) bytes (then_entries k r next)
then_extends p k bytes next (Ok x) one others =
    more_entries p k bytes x next (next x.1) one (others x.1)
then_extends p k bytes next (Err Short) one others = inl refl
then_extends p k bytes next (Err Meaningless) one others =
    inr (λ more. ap (λ (r : Read Entry). then_entries k r next) (one more))

entries-extend : (p : Program) (n k : ℕ) (bytes : List ℕ)
    → EntriesExtend (entries_in p n k) bytes (entries_in p n k bytes)
unfolding entries_in
entries-extend p zero k bytes = λ more. refl
entries-extend p (suc n) k bytes =
    then_extends p k bytes (entries_in p n (k + 1)) (entry_in p bytes) (Extends-entry p bytes)
    (λ rest. entries-extend p n (k + 1) rest)

-- ---- a table

-- what the first eight bytes say, by whether they have the magic, and the count
abbrev counted : Bool → ℕ → Result ℕ TableRefusal
counted is_magic count =
    if not is_magic then Err refusal.Magic
    else if count == 0 || nat_lt MAX_EXPLORED count then Err refusal.Count else Ok count

count-parts : (bytes : List ℕ) → 8 ≤ length bytes
    → count_in bytes
    ≡ counted (starts_with nat_eq bytes (codes "XPT1")) (little_number 4 (drop 4 bytes))
count-parts bytes le = rw (le-ltb (length bytes) 8 le) refl

count-more : (bytes more : List ℕ) → 8 ≤ length bytes
    → count_in (bytes ++ more) ≡ count_in bytes
count-more bytes more le =
    let size = length-append bytes more in
    count-parts (bytes ++ more) (omega arith)
    ∙ same2 counted
    (ap (pointwise nat_eq (codes "XPT1")) (take-append-le 4 bytes more (omega arith)))
    (number-more 4 4 bytes more (omega arith))
    ∙ sym (count-parts bytes le)

-- what the entries are refused for is the same with more bytes
settled-body : (p : Program) (bytes : List ℕ) (count : ℕ) (e : TableRefusal) → 8 ≤ length bytes
    → count_in bytes ≡ Ok count → body_in p bytes count ≡ Err e
    → ((more : List ℕ) → to_the_end (entries_in p count 0 (drop 8 bytes ++ more)) ≡ Err e)
    → IsTableSettled p bytes
settled-body p bytes count e le h body each more =
    ap (λ r. all_allowed (with_count p (bytes ++ more) r)) (count-more bytes more le ∙ h)
    ∙ ap (λ b. all_allowed (to_the_end (entries_in p count 0 b))) (drop-append-le 8 bytes more le)
    ∙ ap all_allowed (each more ∙ sym body)
    ∙ sym (ap (λ r. all_allowed (with_count p bytes r)) h)

-- a byte of an entry has no meaning
pub settled-stopped : (p : Program) (bytes : List ℕ) (count k : ℕ) → 8 ≤ length bytes
    → count_in bytes ≡ Ok count → entries_in p count 0 (drop 8 bytes) ≡ Err (refusal.Entry k)
    → IsTableSettled p bytes
settled-stopped p bytes count k le h stopped =
    settled-body p bytes count (refusal.Entry k) le h (ap to_the_end stopped)
    (of (subst (EntriesExtend (entries_in p count 0) (drop 8 bytes)) stopped
    (entries-extend p count 0 (drop 8 bytes)))) where
      of : EntriesExtend (entries_in p count 0) (drop 8 bytes) (Err (refusal.Entry k))
          → (more : List ℕ)
          → to_the_end (entries_in p count 0 (drop 8 bytes ++ more)) ≡ Err (refusal.Entry k)
      of (inl short) = absurd (cc)
      of (inr each) = λ more. ap to_the_end (each more)

-- bytes are left over
pub settled-long : (p : Program) (bytes : List ℕ) (count : ℕ) (entries : List (Option Entry))
    (rest : List ℕ) → 8 ≤ length bytes → count_in bytes ≡ Ok count
    → entries_in p count 0 (drop 8 bytes) ≡ Ok (entries, rest) → (length rest == 0) ≡ false
    → IsTableSettled p bytes
settled-long p bytes count entries rest le h read some =
    settled-body p bytes count refusal.Long le h (ap to_the_end read ∙ end-long entries rest some)
    (λ more. ap to_the_end (each more) ∙ end-long entries (rest ++ more) (still more)) where
      each : (more : List ℕ)
          → entries_in p count 0 (drop 8 bytes ++ more) ≡ Ok (entries, rest ++ more)
      each = subst (EntriesExtend (entries_in p count 0) (drop 8 bytes)) read
          (entries-extend p count 0 (drop 8 bytes))

      still : (more : List ℕ) → (length (rest ++ more) == 0) ≡ false
      still more = grind (arith, length-append {A = ℕ})

-- ---- bytes that do not settle it

-- they end too early
pub open-short : (p : Program) (bytes : List ℕ) (count : ℕ) → count_in bytes ≡ Ok count
    → entries_in p count 0 (drop 8 bytes) ≡ Err refusal.Short → IsTableOpen p bytes
open-short p bytes count h short = inl (ap (with_count p bytes) h ∙ ap to_the_end short)

-- they end where the last entry does
pub open-whole : (p : Program) (bytes : List ℕ) (count : ℕ) (entries : List (Option Entry))
    (rest : List ℕ) → count_in bytes ≡ Ok count
    → entries_in p count 0 (drop 8 bytes) ≡ Ok (entries, rest) → (length rest == 0) ≡ true
    → IsTableOpen p bytes
open-whole p bytes count entries rest h read none =
    inr (entries, ap (with_count p bytes) h ∙ ap to_the_end read ∙ end-empty entries rest none)
