-- Laws of tables whose entries are placed one after the other.
use Rattle.table_entries.proofs.Common.{◌≡◌, ℕ, zero, suc, ◌+◌, ◌-◌, ◌<◌, ◌≤◌, ◌==◌, IsTrue, Bool, true, false, List, [], ◌∷◌, ◌++◌, length, drop, map, slice_get, Option, Some, None, IsSome, Ok, inl, inr, ap, sym, ◌∙◌, subst, append_assoc, arith, refl, is_some, option_and_then, cases_lt, slice_get_past, append-nil, length-map, length-append, Program, seen, Entry, entry_in, TableView, KeepsEntries, count_of, count_in, entry_at, entry_from, earlier, first_none, all_of, body_in, to_the_end, table_read, Grown, IsBegun, MayGrow, Grows, AllThere, with_place}
use Rattle.table_entries.proofs.Ends.{IsEnd-more, IsEnd-place, entry_in-end}
use Rattle.table_entries.proofs.Seen.{read-seen}
use Rattle.table_entries.proofs.EntryOrder.{entries-begins, entries-goes_on, entries-done, places-more, earlier-more, length-more, end-empty, KeepsEntries-places}

-- ---- from the beginning

pub IsBegun-first : (p : Program) (bytes : List ℕ) (count : ℕ) → count_in bytes ≡ Ok count
    → IsBegun p (record {
      table = record { bytes = bytes; places = [] };
      rest = drop 8 bytes;
      count = count;
    })
IsBegun-first p bytes count counted = record {
  counted = counted;
  so_far = entries-begins p count (drop 8 bytes);
  fine = refl;
  few = omega arith;
  is_end = (8, refl);
}

-- ---- one more entry

-- the table with one more entry, which begins where the remaining bytes do
abbrev pub taken : Grown → List ℕ → Grown
taken g after =
    record {
      table = with_place g.table (length g.table.bytes - length g.rest);
      rest = after;
      count = g.count;
    }

IsBegun-more : (p : Program) (g : Grown) (e : Entry) (after : List ℕ) → IsBegun p g
    → count_of g.table < g.count → entry_in p g.rest ≡ Ok (Some e, after)
    → IsBegun p (taken g after)
IsBegun-more p g e after b less read =
    let bytes = g.table.bytes in
    let places = g.table.places in
    let at = length bytes - length g.rest in
    let front = map (entry_from p bytes) places in
    let all : map (entry_from p bytes) (places ++ at ∷ []) ≡ front ++ Some e ∷ [] =
    places-more p bytes g.rest places (Some e) after b.is_end read in
    let long : length (places ++ at ∷ []) ≡ count_of g.table + 1 =
    length-more places at (count_of g.table) refl in
    record {
      counted = b.counted;
      so_far =
          rw (all, long) (entries-goes_on p front g.count (count_of g.table) g.rest
          (Some e) after _ less read b.so_far);
      fine =
          ap (first_none 0) all
          ∙ sym (earlier-more front (count_of g.table) (Some e)
          (length-map places (entry_from p bytes)))
          ∙ ap (λ (o : Option ℕ). earlier o true (count_of g.table)) b.fine;
      few = rw long (omega arith);
      is_end = IsEnd-more bytes g.rest after b.is_end (entry_in-end p g.rest (Some e) after read);
    }

pub Grows-same : (p : Program) (g : Grown) → Grows p g g
Grows-same p g = record {
  bytes = refl;
  count = refl;
  more = [];
  places = sym (append-nil g.table.places);
  begun = λ b. b;
  whole = λ le. refl;
}

pub Grows-more : (p : Program) (g : Grown) (e : Entry) (after : List ℕ) → count_of g.table < g.count
    → entry_in p g.rest ≡ Ok (Some e, after)
    → Grows p g (taken g after)
Grows-more p g e after less read = record {
  bytes = refl;
  count = refl;
  more = (length g.table.bytes - length g.rest) ∷ [];
  places = refl;
  begun = λ b. IsBegun-more p g e after b less read;
  whole = λ le. absurd (omega arith);
}

pub Grows-then : (p : Program) (g h i : Grown) → Grows p g h → Grows p h i → Grows p g i
Grows-then p g h i first second = record {
  bytes = second.bytes ∙ first.bytes;
  count = second.count ∙ first.count;
  more = first.more ++ second.more;
  places =
      second.places ∙ ap (λ (xs : List ℕ). xs ++ second.more) first.places
      ∙ append_assoc g.table.places first.more second.more;
  begun = λ b. second.begun (first.begun b);
  whole = λ le.
      let same : h.table.places ≡ g.table.places = first.whole le in
      let long : count_of h.table ≡ count_of g.table = ap length same in
      let count : h.count ≡ g.count = first.count in
      second.whole (omega arith) ∙ same;
}

pub Grows-count : (p : Program) (g h : Grown) → Grows p g h → count_of g.table ≤ count_of h.table
Grows-count p g h k =
    let long : count_of h.table ≡ count_of g.table + length k.more =
    ap length k.places ∙ length-append g.table.places k.more in
    omega arith

pub MayGrow-more : (p : Program) (g h : Grown) → Grows p g h → MayGrow p g → MayGrow p h
MayGrow-more p g h k may = λ less.
    let le : count_of g.table ≤ count_of h.table = Grows-count p g h k in
    let count : h.count ≡ g.count = k.count in
    k.begun (may (omega arith))

-- ---- entries that are placed

get-front : (xs ys : List ℕ) (k : ℕ) → k < length xs → slice_get (xs ++ ys) k ≡ slice_get xs k
get-front [] ys k lt = absurd (omega arith)
get-front (x ∷ xs) ys zero lt = refl
get-front (x ∷ xs) ys (suc k) lt = get-front xs ys k (omega arith)

get-last : (xs : List ℕ) (x : ℕ) → slice_get (xs ++ x ∷ []) (length xs) ≡ Some x
get-last [] x = refl
get-last (y ∷ xs) x = get-last xs x

-- placed entries stay
pub entry_at-before : (p : Program) (g h : Grown) (k : ℕ) → Grows p g h → k < count_of g.table
    → entry_at p h.table k ≡ entry_at p g.table k
entry_at-before p g h k grows less =
    rw (grows.bytes, grows.places)
    (ap (option_and_then (entry_from p g.table.bytes))
    (get-front g.table.places grows.more k less))

-- no entry has an index past the last one
pub no_entry_past : (p : Program) (t : TableView) (k : ℕ) (e : Entry) → count_of t ≤ k
    → entry_at p t k ≡ Some e → ⊥
no_entry_past p t k e past there =
    let none : entry_at p t k ≡ None =
    ap (option_and_then (entry_from p t.bytes)) (slice_get_past t.places k past) in
    cc

pub entry_at-stays : (p : Program) (g h : Grown) (k : ℕ) (e : Entry) → Grows p g h
    → entry_at p g.table k ≡ Some e → entry_at p h.table k ≡ Some e
entry_at-stays p g h k e grows there = elim (cases_lt k (count_of g.table)) [
  | inl inside ↦ entry_at-before p g h k grows inside ∙ there
  | inr past ↦ absurd (no_entry_past p g.table k e past there)
]

-- the entry with the last index is the one that was placed last
pub entry_at-taken : (p : Program) (g : Grown) (e : Entry) (after : List ℕ) → IsBegun p g
    → entry_in p g.rest ≡ Ok (Some e, after)
    → entry_at p (taken g after).table (count_of g.table) ≡ Some e
entry_at-taken p g e after b read =
    let at = length g.table.bytes - length g.rest in
    let here : drop at g.table.bytes ≡ g.rest = IsEnd-place g.table.bytes g.rest b.is_end in
    let there : entry_from p g.table.bytes at ≡ Some e = rw (here, read) refl in
    rw (get-last g.table.places at) there

-- where all were placed, nothing changes
pub entry_at-whole : (p : Program) (g h : Grown) → Grows p g h → g.count ≤ count_of g.table
    → entry_at p h.table ≡ entry_at p g.table
entry_at-whole p g h k le = λ i j. same j i where
  same : (j : ℕ) → entry_at p h.table j ≡ entry_at p g.table j
  same j = rw (k.bytes, k.whole le) refl

-- ---- whole tables

-- all entries are placed, and no bytes are left over
pub whole_read : (p : Program) (g : Grown) → IsBegun p g → count_of g.table ≡ g.count
    → length g.rest ≡ 0
    → (entries : List Entry) × (table_read p g.table.bytes ≡ Ok entries)
    × KeepsEntries p g.table entries
whole_read p g b all none =
    let front = map (entry_from p g.table.bytes) g.table.places in
    let empty : (length g.rest == 0) ≡ true = rw none refl in
    let body : body_in p g.table.bytes g.count ≡ Ok front =
    ap to_the_end (entries-done p front g.count (count_of g.table) g.rest _ (omega arith) b.so_far)
    ∙ end-empty front g.rest empty in
    (all_of front, rw (b.counted, body, b.fine) refl, KeepsEntries-places p g.table b.fine)

-- ---- entries that are there

pub inside_some : (entries : List Entry) (k : ℕ) → k < length entries → IsSome (slice_get entries k)
inside_some [] k lt = absurd (omega arith)
inside_some (e ∷ entries) zero lt = refl
inside_some (e ∷ entries) (suc k) lt = inside_some entries k (omega arith)

pub AllThere-begun : (p : Program) (g : Grown) → IsBegun p g → AllThere p g
AllThere-begun p g b = λ k less.
    let h : KeepsEntries p g.table _ = KeepsEntries-places p g.table b.fine in
    let count = h.count in
    subst (λ (o : Option Entry). IsSome o) (sym (h.each k))
    (inside_some (all_of (map (entry_from p g.table.bytes) g.table.places)) k (omega arith))

pub AllThere-more : (p : Program) (g h : Grown) → Grows p g h → MayGrow p g → AllThere p g
    → AllThere p h
AllThere-more p g h k may each = elim (cases_lt (count_of g.table) g.count) [
  | inl less ↦ AllThere-begun p h (k.begun (may less))
  | inr whole ↦ λ j less.
      let same : count_of h.table ≡ count_of g.table = ap length (k.whole whole) in
      subst (λ (o : Option Entry). IsSome o) (sym (entry_at-before p g h j k (omega arith)))
      (each j (omega arith))
]

-- ---- an entry that was placed, or was not

some_of : (o : Option Entry) → is_some o ≡ true → (e : Entry) × (o ≡ Some e)
some_of (Some e) h = (e, refl)
some_of None h = absurd (cc)

-- what is passed over and allowed is an entry
pub passed_over : (p : Program) (rest after : List ℕ) → seen (entry_in p rest) ≡ Ok (true, after)
    → (e : Entry) × (entry_in p rest ≡ Ok (Some e, after))
passed_over p rest after h =
    let found = read-seen (entry_in p rest) true after h in
    let there = some_of found.0 found.2 in
    (there.0, found.1 ∙ ap (λ (o : Option Entry). Ok (o, after)) there.1)

pub Grows-placed : (p : Program) (g h : Grown) (e : Entry) (after : List ℕ) (placed : Bool)
    → count_of g.table < g.count → entry_in p g.rest ≡ Ok (Some e, after)
    → (IsTrue placed → h ≡ taken g after) → (placed ≡ false → h ≡ g) → Grows p g h
Grows-placed p g h e after true less read there left =
    subst (Grows p g) (sym (there refl)) (Grows-more p g e after less read)
Grows-placed p g h e after false less read there left =
    subst (Grows p g) (sym (left refl)) (Grows-same p g)

pub entry_at-placed : (p : Program) (g h : Grown) (e : Entry) (after : List ℕ) → IsBegun p g
    → entry_in p g.rest ≡ Ok (Some e, after) → h ≡ taken g after
    → entry_at p h.table (count_of g.table) ≡ Some e
entry_at-placed p g h e after b read same =
    ap (λ (i : Grown). entry_at p i.table (count_of g.table)) same
    ∙ entry_at-taken p g e after b read
