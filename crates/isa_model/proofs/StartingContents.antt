-- The contents that maps start with fit their rows: a hash map is empty, and an array has each of
-- its indexes once, in the order of the keys.
use Rattle.isa_model.proofs.Common.{◌≡◌, ℕ, zero, suc, ◌+◌, ◌<◌, ◌≤◌, true, T, List, [], length, fold, replicate, All, sym, subst, ◌∙◌, arith, inl, inr, refl, range_with_len, nat_list_cmp_total, is_sorted, is_sorted-put, byte_at, bytes_low_first, cases_lt, length-replicate, All-nil, All-cons, All-map, All-replicate, little_bytes, little_number, MapType, Hash, Array, MapDef, KeyFits, IsRow, KeyValues, key_order, has_key, with_key, AreBytes, IsKeyValue, KeysFit, keys_of, FitsRow, max_map_entries}
use Rattle.byteorder.specs.Numbers.{little_number-reads_back, length-bytes_low_first}
use Rattle.isa_model.proofs.PutKeys.{All-with_key, IsStrictlySortedBy-is_sorted, Contains-has_key, has_key-with_key, has_key-after_with_key, length-with_key}
use Rattle.isa_model.specs.Reporting.Reports.{starting_key_values}

-- ---- bytes

pub AreBytes-bytes_low_first : (i k n : ℕ) → AreBytes (bytes_low_first i k n)
AreBytes-bytes_low_first i zero n = All-nil (λ b. b < 256)
AreBytes-bytes_low_first i (suc k) n =
    All-cons (λ b. b < 256) (byte_at i n) (bytes_low_first (suc i) k n) (small i)
    (AreBytes-bytes_low_first (suc i) k n)
  where
    small : (j : ℕ) → byte_at j n < 256
    small zero = omega arith
    small (suc j) = omega arith

little_number-little_bytes : (i : ℕ) → i < max_map_entries → little_number 4 (little_bytes 4 i) ≡ i
little_number-little_bytes i h = little_number-reads_back 4 i [] (omega arith)

-- ---- arrays

-- the first n indexes of an array, all values zero
record IsFilled (row : MapDef) (n : ℕ) (es : KeyValues) : Type 0 where
  key_values : All (IsKeyValue row) es
  sorted : T (is_sorted key_order es)
  room : length es ≤ n
  has : (i : ℕ) → i < n → has_key (little_bytes 4 i) es ≡ true
  below : All (λ e. little_number 4 e.0 < row.entries) es

module _ (row : MapDef) (four : row.key_size ≡ 4) (few : row.entries ≤ max_map_entries) where
  abbrev zeros : List ℕ
  zeros = replicate row.value_size 0

  abbrev filled : KeyValues → ℕ → KeyValues
  filled es i = with_key (little_bytes 4 i) zeros es

  abbrev Below : List ℕ × List ℕ → Type 0
  Below e = little_number 4 e.0 < row.entries

  zeros_long : length zeros ≡ row.value_size
  zeros_long = length-replicate row.value_size 0

  zeros_bytes : AreBytes zeros
  zeros_bytes = All-replicate (λ b. b < 256) row.value_size 0 (omega arith)

  IsKeyValue-index : (i : ℕ) → IsKeyValue row (little_bytes 4 i, zeros)
  IsKeyValue-index i = record {
    key_size = length-bytes_low_first 0 4 i ∙ sym four;
    key = AreBytes-bytes_low_first 0 4 i;
    value_size = zeros_long;
    value = zeros_bytes;
  }

  IsKeyValue-zeros : (j w : List ℕ) → IsKeyValue row (j, w) → IsKeyValue row (j, zeros)
  IsKeyValue-zeros j w
      h = record {
        key_size = h.key_size;
        key = h.key;
        value_size = zeros_long;
        value = zeros_bytes;
      }

  IsFilled-filled : (n : ℕ) (es : KeyValues) → n < row.entries → IsFilled row n es
      → IsFilled row (n + 1) (filled es n)
  IsFilled-filled n es l h = record {
    key_values = All-with_key (IsKeyValue row) (little_bytes 4 n) zeros es
        (IsKeyValue-index n) IsKeyValue-zeros h.key_values;
    sorted = is_sorted-put key_order nat_list_cmp_total (little_bytes 4 n) zeros es h.sorted;
    room = let more = length-with_key
        (little_bytes 4 n) zeros es h.sorted in let room = h.room in omega arith;
    has = λ i inside. elim (cases_lt i n) [
      | inl lt ↦ has_key-after_with_key (little_bytes 4 i) (little_bytes 4 n) zeros es (h.has i lt)
      | inr ge ↦
          let same : n ≡ i = omega arith in
          subst (λ m. has_key (little_bytes 4 m) (filled es n) ≡ true) same
          (has_key-with_key (little_bytes 4 n) zeros es)
    ];
    below =
        let read = little_number-little_bytes n (omega arith) in
        All-with_key Below (little_bytes 4 n) zeros es (omega arith) (λ j w b. b) h.below;
  }

  IsFilled-fold : (n k : ℕ) (es : KeyValues) → n + k ≤ row.entries → IsFilled row n es
      → IsFilled row (n + k) (fold filled es (range_with_len n k))
  IsFilled-fold n zero es l h =
      let same : n ≡ n + 0 = omega arith in subst (λ m. IsFilled row m es) same h
  IsFilled-fold n (suc k) es l h =
      let same : n + 1 + k ≡ n + suc k = omega arith in
      subst (λ m. IsFilled row m (fold filled (filled es n) (range_with_len (n + 1) k))) same
      (IsFilled-fold (n + 1) k (filled es n) (omega arith) (IsFilled-filled n es (omega arith) h))

  IsFilled-none : IsFilled row 0 []
  IsFilled-none = record {
    key_values = All-nil (IsKeyValue row);
    sorted = tt;
    room = omega arith;
    has = λ i l. absurd (omega arith);
    below = All-nil Below;
  }

  IsFilled-whole : IsFilled row row.entries (starting_key_values Array row)
  IsFilled-whole =
      let same : 0 + row.entries ≡ row.entries = omega arith in
      subst (λ m. IsFilled row m (starting_key_values Array row)) same
      (IsFilled-fold 0 row.entries [] (omega arith) IsFilled-none)

-- ---- rows

FitsRow-starting_by : (kind : MapType) (row : MapDef) → row.kind ≡ kind → KeyFits kind row.key_size
    → row.entries ≤ max_map_entries → FitsRow row (starting_key_values kind row)
FitsRow-starting_by Hash row e key few = record {
  key_values = All-nil (IsKeyValue row);
  ordered = IsStrictlySortedBy-is_sorted {X = List ℕ} [] tt;
  room = omega arith;
  keys = subst (λ k. KeysFit k row.entries []) (sym e) tt;
}
FitsRow-starting_by Array row e key few =
    let h = IsFilled-whole row key few in
    let es = starting_key_values Array row in
    record {
      key_values = h.key_values;
      ordered = IsStrictlySortedBy-is_sorted es h.sorted;
      room = h.room;
      keys = subst (λ k. KeysFit k row.entries (keys_of es)) (sym e) (
        (λ i l. Contains-has_key (little_bytes 4 i) es (h.has i l)),
        All-map (λ k. little_number 4 k < row.entries) (λ e. e.0) es h.below,
      );
    }

pub FitsRow-starting_key_values : (row : MapDef) → IsRow row
    → FitsRow row (starting_key_values row.kind row)
FitsRow-starting_key_values row h = FitsRow-starting_by row.kind row refl h.key h.few_entries
