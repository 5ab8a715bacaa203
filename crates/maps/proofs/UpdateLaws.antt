-- The answers to updates and deletes of a map's content, and what the content is after each.
use Rattle.maps.proofs.Common.{◌≡◌, ℕ, ◌*◌, ◌<◌, List, length, Option, Some, None, Bool, true, false, refl, sym, ap, ◌∙◌, arith, ◌^◌, ◌-◌, ◌≢◌, ◌==◌, is_some, IsSome, IfSome, nat_lt, nat_le, if◌then◌else◌, get, len, MapType, Hash, Array, MapDef, KeyValues, with_key, without_key, enoent, e2big, exist, update_answer_by, delete_answer_by, update_answer, delete_answer, after_update, after_delete, with_block_row, content, Places, TakesPlace}
use Rattle.maps.proofs.ContentLaws.{has_key-content, length-content, content-written, content-added, content-removed, get-taken}
use Rattle.maps.specs.Changes.{WritesPair, Updates, Deletes}

-- a test of a number for 0
zero_or_not : (n : ℕ) → (n == 0) ≡ true → n ≡ 0
zero_or_not n t = grind arith

not_zero : (n : ℕ) → (n == 0) ≡ false → n ≢ 0
not_zero n t = grind arith

never_zero : (b : Bool) (n : ℕ) → n ≢ 0 → (if b then n else e2big) ≡ 0 → ⊥
never_zero true n d e = d e
never_zero false n d e = absurd (omega arith)

-- an absent key is added only to a hash map that is not full
pub added_hash : (kind : MapType) (full : Bool) (flags : ℕ)
    → update_answer_by kind false full flags ≡ 0 → (kind ≡ Hash) × (full ≡ false)
added_hash Array full flags e =
    absurd (never_zero (nat_lt exist flags) (2 ^ 64 - 22) (λ z. omega arith) e)
added_hash Hash false flags e = (refl, refl)
added_hash Hash true flags e =
    elim (nat_lt exist flags) as (λ b.
    (if b then 2 ^ 64 - 22 else if flags == exist then 2 ^ 64 - 2 else e2big) ≡ 0
    → (◌≡◌ {A = MapType} Hash Hash) × (true ≡ false)) [
      | true ↦ λ f. absurd (omega arith)
      | false ↦ λ f. absurd (never_zero (flags == exist) (2 ^ 64 - 2) (λ z. omega arith) f)
    ] e

module _ (row : MapDef) (P : Places) (B : List ℕ) (key : List ℕ) where
  abbrev size : ℕ
  size = row.value_size

  abbrev C : KeyValues
  C = content size P B

  -- the answers are those of the places
  pub update_answer-places : (flags : ℕ) → update_answer row C key flags
      ≡ update_answer_by row.kind (is_some (get P key)) (nat_le row.entries (len P)) flags
  update_answer-places flags =
      λ i. update_answer_by row.kind (has_key-content size P B key i)
      (nat_le row.entries (length-content size P B i)) flags

  pub delete_answer-places : delete_answer row C key
      ≡ delete_answer_by row.kind (is_some (get P key))
  delete_answer-places = ap (delete_answer_by row.kind) (has_key-content size P B key)

  -- an answer by the map type, by what was found, and by whether the map is full
  pub answer_found : (kind : MapType) (found : Option ℕ) (present full : Bool) (flags answer : ℕ)
      → kind ≡ row.kind → found ≡ get P key
      → present ≡ is_some found → full ≡ nat_le row.entries (len P)
      → answer ≡ update_answer_by kind present full flags
      → answer ≡ update_answer row C key flags
  answer_found kind found present full flags answer k f p n e =
      e ∙ (λ i. update_answer_by (k i) ((p ∙ ap is_some f) i) (n i) flags)
      ∙ sym (update_answer-places flags)

  -- where an absent key is to be added there is room for it
  pub room_left : (flags answer : ℕ) → get P key ≡ None → answer ≡ update_answer row C key flags
      → answer ≡ 0 → len P < row.entries
  room_left flags answer none e z =
      let by : update_answer_by row.kind false (nat_le row.entries (len P)) flags ≡ 0 =
      ap (λ (o : Option ℕ). update_answer_by row.kind (is_some o)
      (nat_le row.entries (len P)) flags) (sym none)
      ∙ sym (update_answer-places flags) ∙ sym e ∙ z in
      let full = (added_hash row.kind (nat_le row.entries (len P)) flags by).1 in
      grind arith

  module _ (P' : Places) (B' : List ℕ) where
    abbrev C' : KeyValues
    C' = content size P' B'

    -- a present key's value is written at its place
    pub writes_present : (value : List ℕ) (p : ℕ) → get P key ≡ Some p → P' ≡ P
        → B' ≡ with_block_row size B p value → WritesPair size key value P B P' B'
    writes_present value p here same written = record {
      place = p;
      there = ap (λ (m : Places). get m key) same ∙ here;
      kept = λ q e. same;
      taken = λ e. let f = sym here ∙ e in absurd (cc);
      written = written;
    }

    -- an absent key's value is written at the place that it takes
    pub writes_absent : (value : List ℕ) (found : Option ℕ) → get P key ≡ None → IsSome found
        → IfSome found (λ p. TakesPlace P key p P')
        → IfSome found (λ p. B' ≡ with_block_row size B p value)
        → WritesPair size key value P B P' B'
    writes_absent value None none some takes written = absurd (cc)
    writes_absent value (Some p) none some takes written = record {
      place = p;
      there = get-taken P P' key p takes;
      kept = λ q e. let f = sym none ∙ e in absurd (cc);
      taken = λ e. takes;
      written = written;
    }

    -- a value that is written is the key's
    pub content-writes : (value : List ℕ) → length value ≡ size → length B ≡ row.entries * size
        → ((j k : List ℕ) (p : ℕ) → get P j ≡ Some p → get P k ≡ Some p → j ≡ k)
        → (w : WritesPair size key value P B P' B') → w.place < row.entries
        → C' ≡ with_key key value C
    content-writes value long whole apart w inside =
        elim (get P key) as (λ o. get P key ≡ o → C' ≡ with_key key value C) [
          | Some p ↦ λ e.
              let same = w.kept p e in
              let here : get P key ≡ Some w.place =
              ap (λ (m : Places). get m key) (sym same) ∙ w.there in
              (λ i. content size (same i) (w.written i))
              ∙ content-written size row.entries P B key value w.place long whole inside here
              (λ j f. apart j key w.place f here)
          | None ↦ λ e.
              ap (content size P') w.written
              ∙ content-added size row.entries P P' B key value w.place long whole inside
              (w.taken e)
        ] refl

    -- what an update leaves
    pub content-updates : (value : List ℕ) (flags answer : ℕ)
        → answer ≡ update_answer row C key flags
        → Updates size answer key value P B P' B' → (answer ≡ 0 → C' ≡ with_key key value C)
        → C' ≡ after_update row C key value flags
    content-updates value flags answer is u put =
        elim (answer == 0) as (λ b. (answer == 0) ≡ b
        → C' ≡ (if b then with_key key value C else C)) [
          | true ↦ λ t. put (zero_or_not answer t)
          | false ↦ λ t. let s = u.stays (not_zero answer t) in λ i. content size (s.0 i) (s.1 i)
        ] refl ∙ ap (λ (a : ℕ). if a == 0 then with_key key value C else C) is

    -- what a delete leaves
    pub content-deletes : (answer : ℕ) → answer ≡ delete_answer row C key
        → Deletes answer key P B P' B' → C' ≡ after_delete row C key
    content-deletes answer is d =
        elim (answer == 0) as (λ b. (answer == 0) ≡ b → C' ≡ (if b then without_key key C else C)) [
          | true ↦
              λ t. (λ i. content size (d.removes (zero_or_not answer t) i) (d.block i))
              ∙ content-removed size P B key
          | false ↦ λ t. λ i. content size (d.stays (not_zero answer t) i) (d.block i)
        ] refl ∙ ap (λ (a : ℕ). if a == 0 then without_key key C else C) is

  -- a delete of a hash map, by the place that the key had
  module _ (kind : row.kind ≡ Hash) where
    pub delete_present : (p : ℕ) → get P key ≡ Some p → delete_answer row C key ≡ 0
    delete_present p e =
        delete_answer-places ∙ (λ i. delete_answer_by (kind i) (is_some (e i)))

    pub delete_absent : get P key ≡ None → delete_answer row C key ≡ enoent
    delete_absent e = delete_answer-places ∙ (λ i. delete_answer_by (kind i) (is_some (e i)))
