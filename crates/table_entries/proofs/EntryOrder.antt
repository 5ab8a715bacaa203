-- Entries read one after the other, as a loop does.
use Rattle.table_entries.proofs.Common.{◌≡◌, ℕ, suc, ◌+◌, ◌-◌, ◌<◌, ◌≤◌, ◌==◌, true, false, List, [], ◌∷◌, ◌++◌, length, map, slice_get, Option, Some, None, Result, Ok, Err, sym, ap, ◌∙◌, append_assoc, arith, refl, is_some, option_map, option_and_then, append-nil, map-append, length-map, length-append, slice_get-map, Program, StopReason, Entry, entry_in, before, refusal_of, entries_in, to_the_end, earlier, first_none, all_of, entry_from, TableView, KeepsEntries, with_entries, IsEnd}
use Rattle.table_entries.specs.declared.refusals.TableRefusal.{TableRefusal}
use Rattle.table_entries.specs.declared.refusals.TableRefusal.TheVariants as refusal
use Rattle.table_entries.proofs.Ends.{IsEnd-place}

regroup : (front : List (Option Entry)) (e : Option Entry)
    (read : Result (List (Option Entry) × List ℕ) TableRefusal)
    → with_entries front (before e read) ≡ with_entries (front ++ e ∷ []) read
regroup front e (Ok x) =
    ap (λ (xs : List (Option Entry)). Ok (xs, x.1)) (sym (append_assoc front (e ∷ []) x.0))
regroup front e (Err wrong) = refl

pub entries-goes_on : (p : Program) (front : List (Option Entry)) (n i : ℕ) (bytes : List ℕ)
    (e : Option Entry) (after : List ℕ)
    (total : Result (List (Option Entry) × List ℕ) TableRefusal) → i < n
    → entry_in p bytes ≡ Ok (e, after)
    → with_entries front (entries_in p (n - i) i bytes) ≡ total
    → with_entries (front ++ e ∷ []) (entries_in p (n - (i + 1)) (i + 1) after) ≡ total
unfolding entries_in
entries-goes_on p front n i bytes e after total lt h so_far =
    let k : n - i ≡ suc (n - (i + 1)) = omega arith in
    let first : with_entries front (entries_in p (n - i) i bytes)
    ≡ with_entries (front ++ e ∷ []) (entries_in p (n - (i + 1)) (i + 1) after) =
    rw (k, h) (regroup front e (entries_in p (n - (i + 1)) (i + 1) after)) in
    sym first ∙ so_far

pub entries-stops : (p : Program) (front : List (Option Entry)) (n i : ℕ) (bytes : List ℕ)
    (stop : StopReason) (total : Result (List (Option Entry) × List ℕ) TableRefusal)
    → i < n → entry_in p bytes ≡ Err stop
    → with_entries front (entries_in p (n - i) i bytes) ≡ total → total ≡ Err (refusal_of stop i)
unfolding entries_in
entries-stops p front n i bytes stop total lt h so_far =
    let k : n - i ≡ suc (n - (i + 1)) = omega arith in
    let first : with_entries front (entries_in p (n - i) i bytes) ≡ Err (refusal_of stop i) =
    rw (k, h) refl in
    sym so_far ∙ first

pub entries-done : (p : Program) (front : List (Option Entry)) (n i : ℕ) (bytes : List ℕ)
    (total : Result (List (Option Entry) × List ℕ) TableRefusal)
    → n ≤ i → with_entries front (entries_in p (n - i) i bytes) ≡ total → total ≡ Ok (front, bytes)
unfolding entries_in
entries-done p front n i bytes total le so_far =
    let k : n - i ≡ 0 = omega arith in
    let first : with_entries front (entries_in p (n - i) i bytes) ≡ Ok (front, bytes) =
    rw k (ap (λ (xs : List (Option Entry)). Ok (xs, bytes)) (append-nil front)) in
    sym so_far ∙ first

begins : (read : Result (List (Option Entry) × List ℕ) TableRefusal) → with_entries [] read ≡ read
begins (Ok x) = refl
begins (Err e) = refl

pub entries-begins : (p : Program) (n : ℕ) (bytes : List ℕ)
    → with_entries [] (entries_in p (n - 0) 0 bytes) ≡ entries_in p n 0 bytes
entries-begins p n bytes =
    let all : n - 0 ≡ n = omega arith in rw all (begins (entries_in p n 0 bytes))

-- one more place: that of the entry that was read
pub places-more : (p : Program) (bytes rest : List ℕ) (places : List ℕ) (e : Option Entry)
    (after : List ℕ) → IsEnd bytes rest → entry_in p rest ≡ Ok (e, after)
    → map (entry_from p bytes) (places ++ (length bytes - length rest) ∷ [])
    ≡ map (entry_from p bytes) places ++ e ∷ []
places-more p bytes rest places e after is_end h =
    let there : entry_from p bytes (length bytes - length rest) ≡ e =
    rw (IsEnd-place bytes rest is_end, h) refl in
    map-append (entry_from p bytes) places ((length bytes - length rest) ∷ [])
    ∙ ap (λ (x : Option Entry). map (entry_from p bytes) places ++ x ∷ []) there

earlier-from : (k : ℕ) (xs : List (Option Entry)) (e : Option Entry)
    → earlier (first_none k xs) (is_some e) (k + length xs) ≡ first_none k (xs ++ e ∷ [])
earlier-from k [] None = ap Some (omega arith)
earlier-from k [] (Some e) = refl
earlier-from k (None ∷ xs) e = refl
earlier-from k (Some x ∷ xs) e =
    let n : k + length (Some x ∷ xs) ≡ (k + 1) + length xs = omega arith in
    rw n (earlier-from (k + 1) xs e)

pub earlier-more : (xs : List (Option Entry)) (i : ℕ) (e : Option Entry) → length xs ≡ i
    → earlier (first_none 0 xs) (is_some e) i ≡ first_none 0 (xs ++ e ∷ [])
earlier-more xs i e h = let n : i ≡ 0 + length xs = omega arith in rw n (earlier-from 0 xs e)

-- where no element is None, the list is its entries
all_of-some : (k : ℕ) (xs : List (Option Entry)) → first_none k xs ≡ None
    → xs ≡ map Some (all_of xs)
all_of-some k [] h = refl
all_of-some k (None ∷ xs) h = absurd (some-none h)
  where
    some-none : Some k ≡ None → ⊥
    some-none e = grind arith
all_of-some k (Some x ∷ xs) h =
    ap (λ (ys : List (Option Entry)). Some x ∷ ys) (all_of-some (k + 1) xs h)

then-some : (p : Program) (bytes : List ℕ) (place : Option ℕ) (e : Option Entry)
    → option_map (entry_from p bytes) place ≡ option_map Some e
    → option_and_then (entry_from p bytes) place ≡ e
then-some p bytes None None h = refl
then-some p bytes None (Some e) h = grind arith
then-some p bytes (Some place) None h = grind arith
then-some p bytes (Some place) (Some e) h = grind arith

-- the table has the entries that begin at its places
pub KeepsEntries-places : (p : Program) (t : TableView)
    → first_none 0 (map (entry_from p t.bytes) t.places) ≡ None
    → KeepsEntries p t (all_of (map (entry_from p t.bytes) t.places))
KeepsEntries-places p t h =
    let xs = map (entry_from p t.bytes) t.places in
    let same : xs ≡ map Some (all_of xs) = all_of-some 0 xs h in
    record {
      count =
          sym (length-map t.places (entry_from p t.bytes)) ∙ ap length same
          ∙ length-map (all_of xs) Some;
      each = λ k. then-some p t.bytes (slice_get t.places k) (slice_get (all_of xs) k)
          (sym (slice_get-map (entry_from p t.bytes) t.places k)
          ∙ ap (λ (ys : List (Option Entry)). slice_get ys k) same
          ∙ slice_get-map Some (all_of xs) k);
    }

pub length-more : (xs : List ℕ) (x i : ℕ) → length xs ≡ i → length (xs ++ x ∷ []) ≡ i + 1
length-more xs x i h = length-append xs (x ∷ []) ∙ ap (λ (n : ℕ). n + 1) h

pub end-empty : (entries : List (Option Entry)) (rest : List ℕ) → (length rest == 0) ≡ true
    → to_the_end (Ok (entries, rest)) ≡ Ok entries
end-empty entries rest h = rw h refl

pub end-long : (entries : List (Option Entry)) (rest : List ℕ) → (length rest == 0) ≡ false
    → to_the_end (Ok (entries, rest)) ≡ Err refusal.Long
end-long entries rest h = rw h refl
