-- Laws of the finite map from an array's keys to their places: each index is found, and there are
-- no other places.
use Rattle.map_indexes.proofs.Common.{◌≡◌, ℕ, zero, suc, ◌+◌, ◌^◌, ◌<◌, ◌≤◌, List, [], Option, Some, None, Bool, true, false, cond, length, refl, sym, ap, ◌∙◌, arith, inl, inr, is_some, nat_lt, if◌then◌else◌, cases_lt, take_all, nat_list_cmp_total, get, len, get-insert, len-empty, len-insert, little_bytes, little_number, little_number-reads_back, key_order, is_key, array_places, is_key-equal, got_index}
use Rattle.isa_model.specs.Code.EachByte.{EachByte}
use Rattle.isa_model.proofs.LittleEndianLaws.{little_bytes-little_from}
use Rattle.map_indexes.proofs.PlaceKeysLaws.{is_key-itself}

-- the bytes of an index of 32 bits read as that index
little_number-little_bytes : (n : ℕ) → n < 2 ^ 32 → little_number 4 (little_bytes 4 n) ≡ n
little_number-little_bytes n h = little_number-reads_back 4 n [] (omega arith)

-- each index below n is found, where n is at most 2^32
pub get_index : (n i : ℕ) → n ≤ 2 ^ 32 → i < n → get (array_places n) (little_bytes 4 i) ≡ Some i
get_index zero i small l = absurd (omega arith)
get_index (suc n) i small l =
    get-insert nat_list_cmp_total (array_places n) (little_bytes 4 n) n (little_bytes 4 i)
    ∙ elim (is_key (little_bytes 4 i) (little_bytes 4 n)) as (λ b. is_key (little_bytes 4 i)
    (little_bytes 4 n) ≡ b → cond b (Some n) (get (array_places n) (little_bytes 4 i)) ≡ Some i) [
      | true ↦ λ t.
          let same : n ≡ i =
          sym (little_number-little_bytes n (omega arith))
          ∙ ap (little_number 4) (sym (is_key-equal (little_bytes 4 i) (little_bytes 4 n) t))
          ∙ little_number-little_bytes i (omega arith) in
          ap Some same
      | false ↦ λ t. elim (cases_lt i n) [
        | inl below ↦ get_index n i (omega arith) below
        | inr above ↦
            let same : i ≡ n = omega arith in
            let u : is_key (little_bytes 4 i) (little_bytes 4 n) ≡ true =
            ap (λ (x : ℕ). is_key (little_bytes 4 i) (little_bytes 4 x)) (sym same)
            ∙ is_key-itself (little_bytes 4 i) in
            absurd (cc)
      ]
    ] refl

-- an array has each of its indexes
pub len-array_places : (n : ℕ) → n ≤ 2 ^ 32 → len (array_places n) ≡ n
len-array_places zero small = len-empty key_order ℕ
len-array_places (suc n) small =
    let h = len-array_places n (omega arith) in
    let absent : get (array_places n) (little_bytes 4 n) ≡ None =
    elim (get (array_places n) (little_bytes 4 n)) as (λ o. get (array_places n) (little_bytes 4 n)
    ≡ o → o ≡ None) [
      | None ↦ λ e. refl
      | Some p ↦ λ e.
          let g = got_index n (little_bytes 4 n) p e in
          let l = g.0 in
          let same : n ≡ p =
          sym (little_number-little_bytes n (omega arith)) ∙ ap (little_number 4) g.1
          ∙ little_number-little_bytes p (omega arith) in
          absurd (omega arith)
    ] refl in
    len-insert nat_list_cmp_total (array_places n) (little_bytes 4 n) n
    ∙ ap (λ (o : Option ℕ). cond (is_some o) (len (array_places n)) (len (array_places n) + 1))
    absent
    ∙ (omega arith)

-- the place of a key of 4 bytes is the number that it is, if that is an index
pub get-array_places : (n : ℕ) (k : List ℕ) → n ≤ 2 ^ 32 → length k ≡ 4 → EachByte k
    → get (array_places n) k
    ≡ (if nat_lt (little_number 4 k) n then Some (little_number 4 k) else None)
get-array_places n k small long bytes =
    let back : little_bytes 4 (little_number 4 k) ≡ k =
    little_bytes-little_from 4 0 k bytes (omega arith) ∙ take_all 4 k (omega arith) in
    elim (cases_lt (little_number 4 k) n) [
      | inl below ↦
          let test : nat_lt (little_number 4 k) n ≡ true = grind arith in
          ap (get (array_places n)) (sym back) ∙ get_index n (little_number 4 k) small below
          ∙ sym (ap (λ (b : Bool). if b then Some (little_number 4 k) else None) test)
      | inr above ↦
          let test : nat_lt (little_number 4 k) n ≡ false = grind arith in
          elim (get (array_places n) k) as (λ o. get (array_places n) k ≡ o → o ≡ None) [
            | None ↦ λ e. refl
            | Some p ↦ λ e.
                let g = got_index n k p e in
                let l = g.0 in
                let same : little_number 4 k ≡ p =
                ap (little_number 4) g.1 ∙ little_number-little_bytes p (omega arith) in
                absurd (omega arith)
          ] refl ∙ sym (ap (λ (b : Bool). if b then Some (little_number 4 k) else None) test)
    ]
