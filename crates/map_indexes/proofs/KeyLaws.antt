-- The keys by place of a block of keys, also after one is written or removed.
use Rattle.map_indexes.proofs.Common.{◌≡◌, ℕ, zero, suc, ◌+◌, ◌*◌, ◌<◌, List, [], ◌∷◌, Some, None, Bool, true, false, length, refl, ap, ◌∙◌, arith, slice_index_or, slice_set, is_some, replicate, block_row, with_block_row, block_row-other, block_row-written, PlaceKeys, keys_by_place, key_in}

module _ (size : ℕ) (block : List ℕ) where
  pub length-keys_by_place : (at : ℕ) (used : List Bool)
      → length (keys_by_place size block at used) ≡ length used
  length-keys_by_place at [] = refl
  length-keys_by_place at (true ∷ used) = ap suc (length-keys_by_place (at + 1) used)
  length-keys_by_place at (false ∷ used) = ap suc (length-keys_by_place (at + 1) used)

  -- a place has a key where it is in use
  pub is_some-key_in : (at : ℕ) (used : List Bool) (i : ℕ)
      → is_some (key_in (keys_by_place size block at used) i) ≡ slice_index_or used i false
  is_some-key_in at [] i = refl
  is_some-key_in at (true ∷ used) zero = refl
  is_some-key_in at (true ∷ used) (suc i) = is_some-key_in (at + 1) used i
  is_some-key_in at (false ∷ used) zero = refl
  is_some-key_in at (false ∷ used) (suc i) = is_some-key_in (at + 1) used i

  -- and then its row
  pub key_in-used : (at : ℕ) (used : List Bool) (i : ℕ)
      → is_some (key_in (keys_by_place size block at used) i) ≡ true
      → key_in (keys_by_place size block at used) i ≡ Some (block_row size block (at + i))
  key_in-used at [] i e = absurd (cc)
  key_in-used at (true ∷ used) zero e =
      let h : at ≡ at + 0 = omega arith in ap (λ (n : ℕ). Some (block_row size block n)) h
  key_in-used at (true ∷ used) (suc i) e =
      let h : at + 1 + i ≡ at + suc i = omega arith in
      key_in-used (at + 1) used i e ∙ ap (λ (n : ℕ). Some (block_row size block n)) h
  key_in-used at (false ∷ used) zero e = absurd (cc)
  key_in-used at (false ∷ used) (suc i) e =
      let h : at + 1 + i ≡ at + suc i = omega arith in
      key_in-used (at + 1) used i e ∙ ap (λ (n : ℕ). Some (block_row size block n)) h

  -- a place with a key is one of the places
  pub used_inside : (at : ℕ) (used : List Bool) (i : ℕ)
      → is_some (key_in (keys_by_place size block at used) i) ≡ true → i < length used
  used_inside at [] i e = absurd (cc)
  used_inside at (true ∷ used) zero e = omega arith
  used_inside at (true ∷ used) (suc i) e = let h = used_inside (at + 1) used i e in omega arith
  used_inside at (false ∷ used) zero e = absurd (cc)
  used_inside at (false ∷ used) (suc i) e = let h = used_inside (at + 1) used i e in omega arith

  -- a place that is no longer in use has no key
  pub keys_by_place-unused : (at : ℕ) (used : List Bool) (i : ℕ)
      → keys_by_place size block at (slice_set used i false)
      ≡ slice_set (keys_by_place size block at used) i None
  keys_by_place-unused at [] i = refl
  keys_by_place-unused at (true ∷ used) zero = refl
  keys_by_place-unused at (true ∷ used) (suc i) =
      ap (λ (r : PlaceKeys). Some (block_row size block at) ∷ r)
      (keys_by_place-unused (at + 1) used i)
  keys_by_place-unused at (false ∷ used) zero = refl
  keys_by_place-unused at (false ∷ used) (suc i) =
      ap (λ (r : PlaceKeys). None ∷ r) (keys_by_place-unused (at + 1) used i)

  -- no place is in use at first
  pub keys_by_place-replicate : (at n : ℕ)
      → keys_by_place size block at (replicate n false) ≡ replicate n None
  keys_by_place-replicate at zero = refl
  keys_by_place-replicate at (suc n) =
      ap (λ (r : PlaceKeys). None ∷ r) (keys_by_place-replicate (at + 1) n)

module _ (size : ℕ) (block : List ℕ) (p : ℕ) (key : List ℕ) (n : ℕ) (long : length key ≡ size)
    (whole : length block ≡ n * size) (inside : p < n) where
  abbrev after : List ℕ
  after = with_block_row size block p key

  -- a key that is written changes no place above its own
  keys_by_place-above : (at : ℕ) (used : List Bool) → p < at
      → keys_by_place size after at used ≡ keys_by_place size block at used
  keys_by_place-above at [] l = refl
  keys_by_place-above at (true ∷ used) l =
      λ i. Some (block_row-other size block p key n long whole inside at (λ e. omega arith) i)
      ∷ keys_by_place-above (at + 1) used (omega arith) i
  keys_by_place-above at (false ∷ used) l =
      ap (λ (r : PlaceKeys). None ∷ r) (keys_by_place-above (at + 1) used (omega arith))

  -- a key that is written at a place, which is then in use, is that place's
  pub keys_by_place-put : (at : ℕ) (used : List Bool) (i : ℕ) → at + i ≡ p → i < length used
      → keys_by_place size after at (slice_set used i true)
      ≡ slice_set (keys_by_place size block at used) i (Some key)
  keys_by_place-put at [] i e l = absurd (omega arith)
  keys_by_place-put at (true ∷ used) zero e l =
      let here : at ≡ p = omega arith in
      λ i. Some ((ap (block_row size after) here
      ∙ block_row-written size block p key n long whole inside) i)
      ∷ keys_by_place-above (at + 1) used (omega arith) i
  keys_by_place-put at (false ∷ used) zero e l =
      let here : at ≡ p = omega arith in
      λ i. Some ((ap (block_row size after) here
      ∙ block_row-written size block p key n long whole inside) i)
      ∷ keys_by_place-above (at + 1) used (omega arith) i
  keys_by_place-put at (true ∷ used) (suc i) e l =
      λ t. Some (block_row-other size block p key n long whole inside at (λ g. omega arith) t)
      ∷ keys_by_place-put (at + 1) used i (omega arith) (omega arith) t
  keys_by_place-put at (false ∷ used) (suc i) e l =
      ap (λ (r : PlaceKeys). None ∷ r)
      (keys_by_place-put (at + 1) used i (omega arith) (omega arith))
