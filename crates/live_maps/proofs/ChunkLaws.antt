-- Laws of the chunks of places in an order.
use Rattle.live_maps.proofs.Common.{◌≡◌, ◌≢◌, Bool, true, false, ℕ, zero, suc, ◌+◌, ◌-◌, ◌*◌, ◌<◌, ◌≤◌, List, [], ◌∷◌, ◌++◌, take, drop, length, Some, refl, sym, ap, subst, ◌∙◌, inl, inr, arith, min, slice_get, slice_set, slice_index_or, vec_capacity, concat, insert, remove, Global, Vec, slice_get-get_or, slice_get_within, get_or_from_slice_get, eqb, cases_lt, eqb-true, eqb-false, AreChunks, Begin, IsChunk, IsIn, IsSpot, all_places, count_to, lists_of}
use Rattle.std.proofs.lemmas.List.{get_or-map, get_or_append_left, get_or_default, get_or_push, get_or-set_same, get_or-set_other, length-drop, length-map, length-set, length_push, map-append, map-set, append-nil, take_all, take_min}
use Rattle.live_maps.specs.declared.chunks.Chunks.{Chunks}
use Rattle.live_maps.proofs.RanksLaws.{Lists, at_index, count-all, count-most, count-set, count-suc, halved, list_in, nowhere, one_more_set, put_at, take_part, taken_at, without_last}

-- ---- chunks as lists

pub list_of : (chunks : List (Vec ℕ Global)) (c : ℕ) (q : Vec ℕ Global) → c < length chunks
    → list_in (lists_of chunks) c ≡ (slice_index_or chunks c q).items
list_of chunks c q l = get_or-map (λ (x : Vec ℕ Global). x.items) chunks c q [] l

-- the places of a chunk that was read
pub list_read : (chunks : List (Vec ℕ Global)) (c : ℕ) (q : Vec ℕ Global) → c < length chunks
    → q ≡ slice_index_or chunks c q → list_in (lists_of chunks) c ≡ q.items
list_read chunks c q l e = list_of chunks c q l ∙ ap (λ (x : Vec ℕ Global). x.items) (sym e)

pub lists-set : (chunks : List (Vec ℕ Global)) (c : ℕ) (q : Vec ℕ Global)
    → lists_of (slice_set chunks c q) ≡ slice_set (lists_of chunks) c q.items
lists-set chunks c q = map-set (λ (x : Vec ℕ Global). x.items) chunks c q

pub length-lists : (chunks : List (Vec ℕ Global)) → length (lists_of chunks) ≡ length chunks
length-lists chunks = length-map chunks (λ (x : Vec ℕ Global). x.items)

pub count-more : (css : Lists) (c : ℕ) → c < length css
    → count_to css (c + 1) ≡ count_to css c + length (list_in css c)
count-more css c l =
    let e : c + 1 ≡ suc c = omega arith in ap (count_to css) e ∙ count-suc css c l

-- what holds of the chunk that was put in, and of the others
pub set_holds : (P : Vec ℕ Global → Type 0) (chunks : List (Vec ℕ Global)) (c : ℕ)
    (q : Vec ℕ Global) → c < length chunks → P q
    → ((k : ℕ) (d : Vec ℕ Global) → k < length chunks → P (slice_index_or chunks k d))
    → (k : ℕ) (d : Vec ℕ Global) → k < length chunks → P (slice_index_or (slice_set chunks c q) k d)
set_holds P chunks c q l here there k d m = by (eqb k c) refl
  where
    by : (b : Bool) → eqb k c ≡ b → P (slice_index_or (slice_set chunks c q) k d)
    by true t =
        subst P
        (sym (ap (λ (j : ℕ). slice_index_or (slice_set chunks c q) j d) (eqb-true k c t)
        ∙ get_or-set_same chunks c q d l)) here
    by false t =
        subst P (sym (get_or-set_other chunks c k q d (eqb-false k c t))) (there k d m)

-- the chunk that was read
pub chunk_read : (k : Chunks) (c : ℕ) (q : Vec ℕ Global) → AreChunks k
    → c < length k.chunks.items → q ≡ slice_index_or k.chunks.items c q → IsChunk k.room q
chunk_read k c q h l e = subst (λ (x : Vec ℕ Global). IsChunk k.room x) (sym e) (h.each c q l)

-- ---- where chunks begin

pub begin_next : (css : Lists) (starts : List ℕ) (c x : ℕ) → 0 < c → c < length css
    → length starts ≡ length css → Begin c css starts
    → x ≡ slice_index_or starts (c - 1) 0 + length (list_in css (c - 1))
    → Begin (c + 1) css (slice_set starts c x)
begin_next css starts c x some l long before e k m = by (eqb k c) refl
  where
    by : (b : Bool) → eqb k c ≡ b → slice_index_or (slice_set starts c x) k 0 ≡ count_to css k
    by true t =
        let same : k ≡ c = eqb-true k c t in
        let back : c - 1 + 1 ≡ c = omega arith in
        ap (λ (j : ℕ). slice_index_or (slice_set starts c x) j 0) same
        ∙ get_or-set_same starts c x 0 (omega arith) ∙ e
        ∙ ap (λ (n : ℕ). n + length (list_in css (c - 1))) (before (c - 1) (omega arith))
        ∙ sym (count-more css (c - 1) (omega arith)) ∙ ap (count_to css) (back ∙ sym same)
    by false t =
        let other = eqb-false k c t in
        get_or-set_other starts c k x 0 other ∙ before k (omega arith)

-- the rank at which a chunk begins, where it was read
pub started : (k : Chunks) (c x : ℕ) → AreChunks k → c < length k.chunks.items
    → x ≡ slice_index_or k.starts.items c x → x ≡ count_to (lists_of k.chunks.items) c
started k c x h l e =
    let long = h.long in
    e ∙ get_or_default k.starts.items c x 0 (omega arith) ∙ h.begin c l

-- a chunk has no more places than there are
pub chunk-few : (chunks : List (Vec ℕ Global)) (c : ℕ) (q : Vec ℕ Global) → c < length chunks
    → q ≡ slice_index_or chunks c q
    → count_to (lists_of chunks) c + length q.items ≤ length (all_places chunks)
chunk-few chunks c q l e =
    let same = length-lists chunks in
    let long = ap length (list_read chunks c q l e) in
    let more = count-more (lists_of chunks) c (omega arith) in
    let most = count-most (lists_of chunks) (c + 1) in
    omega arith

-- the last chunk ends with the last place
pub last_ends : (k : Chunks) (c x : ℕ) (q : Vec ℕ Global) → AreChunks k
    → c + 1 ≡ length k.chunks.items → q ≡ slice_index_or k.chunks.items c q
    → x ≡ slice_index_or k.starts.items c x
    → x + length q.items ≡ length (all_places k.chunks.items)
last_ends k c x q h end e f =
    let same = length-lists k.chunks.items in
    let long = ap length (list_read k.chunks.items c q (omega arith) e) in
    let more = count-more (lists_of k.chunks.items) c (omega arith) in
    let all = count-all (lists_of k.chunks.items) in
    let last : count_to (lists_of k.chunks.items) (c + 1)
    ≡ count_to (lists_of k.chunks.items) (length (lists_of k.chunks.items)) =
    ap (count_to (lists_of k.chunks.items)) (end ∙ sym same) in
    let first = started k c x h (omega arith) f in
    omega arith

-- ---- a place of a chunk

-- the place at an index of a chunk has this rank
pub at_chunk : (chunks : List (Vec ℕ Global)) (c i x : ℕ) (q : Vec ℕ Global) → c < length chunks
    → q ≡ slice_index_or chunks c q → slice_get q.items i ≡ Some x
    → slice_get (all_places chunks) (count_to (lists_of chunks) c + i) ≡ Some x
at_chunk chunks c i x q l e f =
    let here = list_read chunks c q l e in
    let same = length-lists chunks in
    let long = ap length here in
    let within = slice_get_within q.items i x f in
    let more = count-more (lists_of chunks) c (omega arith) in
    let most = count-most (lists_of chunks) (c + 1) in
    slice_get-get_or (all_places chunks) (count_to (lists_of chunks) c + i) 0 (omega arith)
    ∙ ap Some (at_index (lists_of chunks) c i (omega arith) (omega arith)
    ∙ ap (λ (xs : List ℕ). slice_index_or xs i 0) here ∙ get_or_from_slice_get q.items i x 0 f)

-- the same, where it is known at which rank the chunk begins
pub found_in : (k : Chunks) (c i x place : ℕ) (q : Vec ℕ Global) → AreChunks k
    → c < length k.chunks.items → q ≡ slice_index_or k.chunks.items c q
    → x ≡ slice_index_or k.starts.items c x → slice_get q.items i ≡ Some place
    → slice_get (all_places k.chunks.items) (x + i) ≡ Some place
found_in k c i x place q h l e f g =
    ap (λ (n : ℕ). slice_get (all_places k.chunks.items) (n + i)) (started k c x h l f)
    ∙ at_chunk k.chunks.items c i place q l e g

-- where in its chunk a rank is
pub in_chunk : (k : Chunks) (rank c x : ℕ) (q : Vec ℕ Global) → AreChunks k
    → IsIn rank c k.chunks.items → q ≡ slice_index_or k.chunks.items c q
    → x ≡ slice_index_or k.starts.items c x
    → (x ≡ count_to (lists_of k.chunks.items) c) × (x ≤ rank) × (rank - x < length q.items)
in_chunk k rank c x q h is e f =
    let same = length-lists k.chunks.items in
    let inside = is.inside in
    let long = ap length (list_read k.chunks.items c q inside e) in
    let more = count-more (lists_of k.chunks.items) c (omega arith) in
    let first = started k c x h inside f in
    let low = is.low in
    let high = is.high in
    (first, omega arith, omega arith)

-- where in its chunk a place can be put
pub spot_in : (k : Chunks) (rank c x : ℕ) (q : Vec ℕ Global) → AreChunks k
    → IsSpot rank c k.chunks.items → q ≡ slice_index_or k.chunks.items c q
    → x ≡ slice_index_or k.starts.items c x
    → (x ≡ count_to (lists_of k.chunks.items) c) × (x ≤ rank) × (rank - x ≤ length q.items)
spot_in k rank c x q h is e f =
    let same = length-lists k.chunks.items in
    let inside = is.inside in
    let long = ap length (list_read k.chunks.items c q inside e) in
    let more = count-more (lists_of k.chunks.items) c (omega arith) in
    let first = started k c x h inside f in
    let low = is.low in
    let high = is.high in
    (first, omega arith, omega arith)

-- the place at a rank, where it was read
pub got_in : (k : Chunks) (rank c x y : ℕ) (q : Vec ℕ Global) → AreChunks k
    → IsIn rank c k.chunks.items → q ≡ slice_index_or k.chunks.items c q
    → x ≡ slice_index_or k.starts.items c x → y ≡ slice_index_or q.items (rank - x) y
    → slice_get (all_places k.chunks.items) rank ≡ Some y
got_in k rank c x y q h is e f g =
    let i = in_chunk k rank c x q h is e f in
    let low = i.1 in
    let at : rank ≡ x + (rank - x) = omega arith in
    ap (slice_get (all_places k.chunks.items)) at
    ∙ found_in k c (rank - x) x y q h is.inside e f
    (slice_get-get_or q.items (rank - x) y i.2 ∙ ap Some (sym g))

-- no chunk before the n-th has a place
abbrev pub Nowhere : ℕ → ℕ → List (Vec ℕ Global) → Type 0
Nowhere n x chunks = (c i : ℕ) → c < n → slice_get (list_in (lists_of chunks) c) i ≢ Some x

pub nowhere_in : (x : ℕ) (chunks : List (Vec ℕ Global)) → Nowhere (length chunks) x chunks
    → (rank : ℕ) → slice_get (all_places chunks) rank ≢ Some x
nowhere_in x chunks none rank =
    let same = length-lists chunks in
    nowhere (lists_of chunks) x (λ c i l. none c i (omega arith)) rank

-- the next chunk has it not, either
pub nowhere-next : (n x : ℕ) (chunks : List (Vec ℕ Global)) (q : Vec ℕ Global)
    → n < length chunks → q ≡ slice_index_or chunks n q → Nowhere n x chunks
    → ((i : ℕ) → slice_get q.items i ≢ Some x) → Nowhere (n + 1) x chunks
nowhere-next n x chunks q l e before here c i m = by (eqb c n) refl
  where
    by : (b : Bool) → eqb c n ≡ b → slice_get (list_in (lists_of chunks) c) i ≢ Some x
    by true t f =
        here i (ap (λ (xs : List ℕ). slice_get xs i)
        (sym (list_read chunks n q l e) ∙ ap (list_in (lists_of chunks)) (sym (eqb-true c n t))) ∙ f)
    by false t f = let d = eqb-false c n t in before c i (omega arith) f

-- ---- a place put in or taken out

pub put_in : (chunks : List (Vec ℕ Global)) (c i x rank : ℕ) (q new : Vec ℕ Global)
    → c < length chunks → q ≡ slice_index_or chunks c q → i ≤ length q.items
    → new.items ≡ insert q.items i x → count_to (lists_of chunks) c + i ≡ rank
    → all_places (slice_set chunks c new) ≡ insert (all_places chunks) rank x
put_in chunks c i x rank q new l e m items at =
    let here = list_read chunks c q l e in
    let same = length-lists chunks in
    let long = ap length here in
    ap concat (lists-set chunks c new
    ∙ ap (slice_set (lists_of chunks) c) (items ∙ ap (λ (xs : List ℕ). insert xs i x) (sym here)))
    ∙ put_at (lists_of chunks) c i x (omega arith) (omega arith)
    ∙ ap (λ (k : ℕ). insert (all_places chunks) k x) at

pub taken_out : (chunks : List (Vec ℕ Global)) (c i rank : ℕ) (q new : Vec ℕ Global)
    → c < length chunks → q ≡ slice_index_or chunks c q → i < length q.items
    → new.items ≡ remove q.items i → count_to (lists_of chunks) c + i ≡ rank
    → all_places (slice_set chunks c new) ≡ remove (all_places chunks) rank
taken_out chunks c i rank q new l e m items at =
    let here = list_read chunks c q l e in
    let same = length-lists chunks in
    let long = ap length here in
    ap concat (lists-set chunks c new
    ∙ ap (slice_set (lists_of chunks) c) (items ∙ ap (λ (xs : List ℕ). remove xs i) (sym here)))
    ∙ taken_at (lists_of chunks) c i (omega arith) (omega arith)
    ∙ ap (remove (all_places chunks)) at

-- the chunks up to one that was replaced begin where they began
pub begin-set : (chunks : List (Vec ℕ Global)) (starts : List ℕ) (c : ℕ) (new : Vec ℕ Global)
    → Begin (length chunks) (lists_of chunks) starts → c < length chunks
    → Begin (c + 1) (lists_of (slice_set chunks c new)) starts
begin-set chunks starts c new before l k m =
    before k (omega arith) ∙ sym (ap (λ (css : Lists). count_to css k) (lists-set chunks c new)
    ∙ count-set (lists_of chunks) c k new.items (omega arith))

-- other chunks, where it is known at which rank each begins
pub AreChunks-by : (k new : Chunks) (chunks : List (Vec ℕ Global)) (starts : List ℕ)
    → AreChunks k → new.chunks.items ≡ chunks → length chunks ≡ length k.chunks.items
    → ((c : ℕ) (d : Vec ℕ Global) → c < length chunks → IsChunk k.room (slice_index_or chunks c d))
    → new.room ≡ k.room → k.room ≤ vec_capacity new.list → length (all_places chunks) ≤ k.room
    → new.starts.items ≡ starts → length starts ≡ length k.starts.items
    → Begin (length chunks) (lists_of chunks) starts → AreChunks new
AreChunks-by k new chunks starts h is count each room list few now long begin =
    let same = ap length is in
    let all = ap (λ (qs : List (Vec ℕ Global)). length (all_places qs)) is in
    let a = h.small in
    let e = h.count in
    let f = h.long in
    let g = ap length now in
    record {
      few = omega arith;
      small = omega arith;
      listed = omega arith;
      count = omega arith;
      long = omega arith;
      each = λ c d m.
          subst (λ (n : ℕ). IsChunk n (slice_index_or new.chunks.items c d)) (sym room)
          (subst (λ (qs : List (Vec ℕ Global)). IsChunk k.room (slice_index_or qs c d)) (sym is)
          (each c d (omega arith)));
      begin =
          subst (λ (qs : List (Vec ℕ Global)). Begin (length qs) (lists_of qs) new.starts.items)
          (sym is)
          (subst (λ (ss : List ℕ). Begin (length chunks) (lists_of chunks) ss) (sym now) begin);
    }

-- one was replaced
pub AreChunks-set : (k new : Chunks) (c : ℕ) (q : Vec ℕ Global) (starts : List ℕ) → AreChunks k
    → c < length k.chunks.items → new.chunks.items ≡ slice_set k.chunks.items c q
    → IsChunk k.room q → new.room ≡ k.room → k.room ≤ vec_capacity new.list
    → length (all_places (slice_set k.chunks.items c q)) ≤ k.room → new.starts.items ≡ starts
    → length starts ≡ length k.starts.items
    → Begin (length (slice_set k.chunks.items c q)) (lists_of (slice_set k.chunks.items c q)) starts
    → AreChunks new
AreChunks-set k new c q starts h l is one room list few now long begin =
    let count = length-set k.chunks.items c q in
    AreChunks-by k new (slice_set k.chunks.items c q) starts h is count
    (λ j d m. set_holds (λ (x : Vec ℕ Global). IsChunk k.room x) k.chunks.items c q l one h.each j d
    (omega arith))
    room list few now long begin

-- ---- one chunk more

pub push_holds : (P : Vec ℕ Global → Type 0) (chunks : List (Vec ℕ Global)) (q : Vec ℕ Global)
    (n : ℕ) → length chunks ≡ n → P q
    → ((k : ℕ) (d : Vec ℕ Global) → k < n → P (slice_index_or chunks k d))
    → (k : ℕ) (d : Vec ℕ Global) → k < n + 1 → P (slice_index_or (chunks ++ q ∷ []) k d)
push_holds P chunks q n long here there k d m = by (eqb k n) refl
  where
    by : (b : Bool) → eqb k n ≡ b → P (slice_index_or (chunks ++ q ∷ []) k d)
    by true t =
        subst P
        (sym (ap (λ (j : ℕ). slice_index_or (chunks ++ q ∷ []) j d) (eqb-true k n t)
        ∙ get_or_push chunks q d n long)) here
    by false t =
        let other = eqb-false k n t in
        subst P (sym (get_or_append_left chunks (q ∷ []) d k (omega arith))) (there k d (omega arith))

-- one that has no place
pub all_places-push : (chunks : List (Vec ℕ Global)) (q : Vec ℕ Global) → q.items ≡ []
    → all_places (chunks ++ q ∷ []) ≡ all_places chunks
all_places-push chunks q e =
    ap concat (map-append (λ (x : Vec ℕ Global). x.items) chunks (q ∷ []))
    ∙ without_last (lists_of chunks) q.items e

-- ---- a chunk in two halves

-- what is known of the last chunk, and of the others
pub popped : (k : Chunks) (rest : List (Vec ℕ Global)) (last : Vec ℕ Global) → AreChunks k
    → k.chunks.items ≡ rest ++ last ∷ []
    → IsChunk k.room last
    × ((c : ℕ) (d : Vec ℕ Global) → c < length rest → IsChunk k.room (slice_index_or rest c d))
    × (length rest + 1 ≡ length k.chunks.items)
popped k rest last h e =
    let count = ap length e ∙ length_push rest last in (
      subst (λ (x : Vec ℕ Global). IsChunk k.room x)
          (ap (λ (qs : List (Vec ℕ Global)). slice_index_or qs (length rest) last) e
          ∙ get_or_push rest last last (length rest) refl)
          (h.each (length rest) last (omega arith)),
      λ c d l.
          subst (λ (x : Vec ℕ Global). IsChunk k.room x)
          (ap (λ (qs : List (Vec ℕ Global)). slice_index_or qs c d) e
          ∙ get_or_append_left rest (last ∷ []) d c l)
          (h.each c d (omega arith)),
      omega arith,
    )

lists-insert : (chunks : List (Vec ℕ Global)) (i : ℕ) (q : Vec ℕ Global)
    → lists_of (insert chunks i q) ≡ insert (lists_of chunks) i q.items
lists-insert chunks zero q = refl
lists-insert [] (suc i) q = refl
lists-insert (x ∷ xs) (suc i) q =
    ap (λ (ls : Lists). x.items ∷ ls) (lists-insert xs i q)

pub insert_holds : (P : Vec ℕ Global → Type 0) (chunks : List (Vec ℕ Global)) (i : ℕ)
    (q : Vec ℕ Global) → i ≤ length chunks → P q
    → ((k : ℕ) (d : Vec ℕ Global) → k < length chunks → P (slice_index_or chunks k d))
    → (k : ℕ) (d : Vec ℕ Global) → k < length chunks + 1 → P (slice_index_or (insert chunks i q) k d)
insert_holds P chunks zero q l here there zero d m = here
insert_holds P chunks zero q l here there (suc k) d m = there k d (omega arith)
insert_holds P [] (suc i) q l here there k d m = absurd (omega arith)
insert_holds P (x ∷ xs) (suc i) q l here there zero d m = there 0 d (omega arith)
insert_holds P (x ∷ xs) (suc i) q l here there (suc k) d m =
    insert_holds P xs i q (omega arith) here (λ j e n. there (suc j) e (omega arith)) k d
    (omega arith)

pub halved_in : (chunks : List (Vec ℕ Global)) (c : ℕ) (q full spare : Vec ℕ Global)
    → c < length chunks → q ≡ slice_index_or chunks c q → full.items ++ spare.items ≡ q.items
    → all_places (insert (slice_set chunks c full) (c + 1) spare) ≡ all_places chunks
halved_in chunks c q full spare l e halves =
    let same = length-lists chunks in
    let next : c + 1 ≡ suc c = omega arith in
    ap concat (lists-insert (slice_set chunks c full) (c + 1) spare
    ∙ ap (λ (ls : Lists). insert ls (c + 1) spare.items) (lists-set chunks c full)
    ∙ ap (λ (j : ℕ). insert (slice_set (lists_of chunks) c full.items) j spare.items) next)
    ∙ halved (lists_of chunks) c full.items spare.items (omega arith)
    (halves ∙ sym (list_read chunks c q l e))

-- ---- places spread over chunks

-- some more places of a list
pub part_more : (n m start end : ℕ) (xs : List ℕ) → start ≡ min n (length xs)
    → end ≡ min (start + m) (length xs)
    → take n xs ++ take (end - start) (drop start xs) ≡ take (n + m) xs
part_more n m start end xs s e =
    elim (cases_lt n (length xs)) [
      | inl l ↦
          let at : start ≡ n = omega arith in
          let long = length-drop n xs in
          let part : end - n ≡ min m (length (drop n xs)) = omega arith in
          ap (λ (k : ℕ). take n xs ++ take (end - k) (drop k xs)) at
          ∙ ap (λ (k : ℕ). take n xs ++ take k (drop n xs)) part
          ∙ ap (λ (ys : List ℕ). take n xs ++ ys) (take_min m (drop n xs))
          ∙ sym (take_part n m xs)
      | inr l ↦
          let none : end - start ≡ 0 = omega arith in
          ap (λ (k : ℕ). take n xs ++ take k (drop start xs)) none ∙ append-nil (take n xs)
          ∙ take_all n xs l ∙ sym (take_all (n + m) xs (omega arith))
    ]

pub filled_next : (chunks : List (Vec ℕ Global)) (c start end : ℕ) (q : Vec ℕ Global) (xs : List ℕ)
    → c < length chunks → concat (take c (lists_of chunks)) ≡ take (c * 768) xs
    → start ≡ min (c * 768) (length xs) → end ≡ min (start + 768) (length xs)
    → q.items ≡ take (end - start) (drop start xs)
    → concat (take (c + 1) (lists_of (slice_set chunks c q))) ≡ take ((c + 1) * 768) xs
filled_next chunks c start end q xs l before s e items =
    let same = length-lists chunks in
    let next : c * 768 + 768 ≡ (c + 1) * 768 = omega arith in
    ap (λ (css : Lists). concat (take (c + 1) css)) (lists-set chunks c q)
    ∙ one_more_set (lists_of chunks) c q.items (omega arith)
    ∙ ap (λ (ys : List ℕ). ys ++ q.items) before
    ∙ ap (λ (ys : List ℕ). take (c * 768) xs ++ ys) items
    ∙ part_more (c * 768) 768 start end xs s e ∙ ap (λ (k : ℕ). take k xs) next

pub short_next : (chunks : List (Vec ℕ Global)) (c : ℕ) (q : Vec ℕ Global) → c < length chunks
    → length q.items ≤ 768 → ((k : ℕ) → k < c → length (list_in (lists_of chunks) k) ≤ 768)
    → (k : ℕ) → k < c + 1 → length (list_in (lists_of (slice_set chunks c q)) k) ≤ 768
short_next chunks c q l here there k m = by (eqb k c) refl
  where
    by : (b : Bool) → eqb k c ≡ b → length (list_in (lists_of (slice_set chunks c q)) k) ≤ 768
    by true t =
        let same = length-lists chunks in
        let is = ap (λ (css : Lists). length (list_in css k)) (lists-set chunks c q)
        ∙ ap (λ (j : ℕ). length (list_in (slice_set (lists_of chunks) c q.items) j)) (eqb-true k c t)
        ∙ ap length (get_or-set_same (lists_of chunks) c q.items [] (omega arith)) in
        omega arith
    by false t =
        let other = eqb-false k c t in
        let is = ap (λ (css : Lists). length (list_in css k)) (lists-set chunks c q)
        ∙ ap length (get_or-set_other (lists_of chunks) c k q.items [] other) in
        let before = there k (omega arith) in
        omega arith
