-- Laws of orders of keys that are brought up to date.
use Rattle.live_maps.proofs.Common.{◌≢◌, T, nat_lt, slice_get, slice_set, slice_index_or, ◌≡◌, ℕ, zero, suc, ◌+◌, ◌<◌, ◌≤◌, List, [], ◌∷◌, ◌++◌, length, Some, None, Bool, true, false, cond, refl, sym, ap, subst, ◌∙◌, inl, inr, arith, filter, insert, range_with_len, Less, Equal, Greater, nat_list_cmp_total, get, entries, entries_sorted, values, cases_lt, nat_tests, get_or-set_same, get_or-set_other, get_or_past, get_or_push, length-append, length-range_with_len, get_or-range_with_len, slice_get-get_or, slice_get_within, get_or_from_slice_get, key_order, Places, MapState, IsMap, Since, Same, Gone, Given, New, AllSame, AreGone, AreNoted, HaveCome, IsBefore, IsRising, NotBefore, after, is_same, is_same_at, looked, since_in, place_in}
use Rattle.std.specs.Ordering.{is_lt, ordering_reverse}
use Rattle.std.specs.declared.cmp.Ordering.{Ordering}
use Rattle.maps.proofs.InsertLaws.{below-below, pair_in, rising, length-inserted, length-values_of}
use Rattle.live_maps.proofs.NumberingLaws.{key_at, value_index, values-distinct, values-few}
use Rattle.live_maps.proofs.PlaceOrderLaws.{since_inside}
use Rattle.live_maps.proofs.PlaceLists.{IsOut, either_equal, filter-agree, filter-all, in-filter, inserted, length-filter_less, out_still, out_without, pairs-filter, without}

-- ---- where something became of a value

pub looked-noted : (noted : List ℕ) (room places : ℕ) → length noted < room
    → looked noted room places ≡ noted
looked-noted noted room places l =
    let t : nat_lt (length noted) room ≡ true = grind (arith, nat_tests) in
    ap (λ (b : Bool). cond b noted (range_with_len 0 places)) t

pub looked-all : (noted : List ℕ) (room places : ℕ) → room ≤ length noted
    → looked noted room places ≡ range_with_len 0 places
looked-all noted room places l =
    let t : nat_lt (length noted) room ≡ false = grind (arith, nat_tests) in
    ap (λ (b : Bool). cond b noted (range_with_len 0 places)) t

pub all_at : (n i : ℕ) → i < n → slice_get (range_with_len 0 n) i ≡ Some i
all_at n i l =
    let long = length-range_with_len 0 n in
    let at = get_or-range_with_len 0 n i 0 l in
    let same : slice_index_or (range_with_len 0 n) i 0 ≡ i = omega arith in
    slice_get-get_or (range_with_len 0 n) i 0 (omega arith) ∙ ap Some same

-- ---- orders by keys

truly : (b : Bool) → b ≡ true → T b
truly b e = subst T (sym e) tt

yes_is : (b : Bool) → T b → b ≡ true
yes_is true t = refl
yes_is false t = absurd t

before-trans : (P : Places) (p q r : ℕ) → (key : List ℕ) × (get P key ≡ Some q) → IsBefore P p q
    → IsBefore P q r → IsBefore P p r
before-trans P p q r has a b = λ j k e f.
    yes_is (is_lt (key_order j k))
    (below-below j has.0 k (truly _ (a j has.0 e has.1)) (truly _ (b has.0 k has.1 f)))

not-after : (P : Places) (p q r : ℕ) → (key : List ℕ) × (get P key ≡ Some q) → IsBefore P q p
    → NotBefore P q r → NotBefore P p r
not-after P p q r has a b = λ j k e f.
    by (is_lt (key_order j k)) refl (b has.0 k has.1 f)
    (λ t. yes_is (is_lt (key_order has.0 k))
    (below-below has.0 j k (truly _ (a has.0 j has.1 e)) (truly _ t)))
  where
    by : {a b : Bool} (x : Bool) → a ≡ x → b ≡ false → (a ≡ true → b ≡ true) → a ≡ false
    by true t low high = let z : true ≡ false = sym (high t) ∙ low in absurd cc
    by false t low high = t

-- those up to a place that is before another one are before it
pub before_up_to : (P : Places) (order : List ℕ) (m i p q r : ℕ) → IsRising P order
    → slice_get order m ≡ Some q → IsBefore P q r → i < m + 1 → slice_get order i ≡ Some p
    → IsBefore P p r
before_up_to P order m i p q r h at before l e =
    either_equal i m (IsBefore P p r)
    (λ same.
    let one : Some p ≡ Some q = sym e ∙ ap (slice_get order) same ∙ at in
    let equal : q ≡ p = cc in
    subst (λ (x : ℕ). IsBefore P x r) equal before)
    (λ other. before-trans P p q r (h.keyed m q at) (h.rising i m p q (omega arith) e at) before)

-- those from a place on that is not before another one are not, either
pub not_from : (P : Places) (order : List ℕ) (m i p q r : ℕ) → IsRising P order
    → slice_get order m ≡ Some q → NotBefore P q r → m ≤ i → slice_get order i ≡ Some p
    → NotBefore P p r
not_from P order m i p q r h at before l e =
    either_equal i m (NotBefore P p r)
    (λ same.
    let one : Some p ≡ Some q = sym e ∙ ap (slice_get order) same ∙ at in
    let equal : q ≡ p = cc in
    subst (λ (x : ℕ). NotBefore P x r) equal before)
    (λ other. not-after P p q r (h.keyed m q at) (h.rising m i q p (omega arith) at e) before)

-- the places of all keys rise
pub rising-values : (P : Places)
    → ((j k : List ℕ) (q : ℕ) → get P j ≡ Some q → get P k ≡ Some q → j ≡ k)
    → IsRising P (values P)
rising-values P apart = record {
  keyed = λ i p e. has i p e;
  rising = λ i j p q l e f a b g h.
      let long = length-values_of P in
      let within = slice_get_within (values P) j q f in
      let x = has i p e in
      let y = has j q f in
      let first : x.0 ≡ a = apart x.0 a p x.1 g in
      let second : y.0 ≡ b = apart y.0 b q y.1 h in
      let r = rising (entries P) (entries_sorted P) i j l (omega arith) in
      sym (λ t. is_lt (key_order (first t) (second t))) ∙ yes_is _ r;
}
  where
    has : (i p : ℕ) → slice_get (values P) i ≡ Some p → (key : List ℕ) × (get P key ≡ Some p)
    has i p e =
        let within = slice_get_within (values P) i p e in (
          (pair_in (entries P) i).0,
          key_at P i within ∙ ap Some (get_or_from_slice_get (values P) i p 0 e),
        )

pub rising-filter : (P : Places) (u : ℕ → Bool) (order : List ℕ) → IsRising P order
    → IsRising P (filter u order)
rising-filter P u order h = record {
  keyed = λ i p e. let r = in-filter u order i p e in h.keyed r.1 p r.2;
  rising = pairs-filter u (IsBefore P) order h.rising;
}

-- ---- a place put in

irreflexive : (r : Ordering) → r ≡ ordering_reverse r → T (is_lt r) → ⊥
irreflexive Less e t = cc
irreflexive Equal e t = t
irreflexive Greater e t = t

-- the list of all places where nothing became of the value, and of one more
pub put_one : (x : MapState) (since : List Since) (p r : ℕ) (key : List ℕ) → IsMap x
    → get x.places key ≡ Some p → is_same_at since p ≡ false → p < length since
    → r ≤ length (filter (is_same_at since) (values x.places))
    → ((i q : ℕ) → i < r → slice_get (filter (is_same_at since) (values x.places)) i ≡ Some q
    → IsBefore x.places q p)
    → ((i q : ℕ) → r ≤ i → slice_get (filter (is_same_at since) (values x.places)) i ≡ Some q
    → NotBefore x.places q p)
    → insert (filter (is_same_at since) (values x.places)) r p
    ≡ filter (is_same_at (slice_set since p Same)) (values x.places)
put_one x since p r key is there none inside few low high =
    let all = rising-values x.places is.apart in
    let at = index_of (values x.places) (value_index x.places key p there) in
    inserted (is_same_at since) (is_same_at (slice_set since p Same)) (λ q. IsBefore x.places q p) p
    (values x.places) at.0 r at.1 (values-distinct x.places is.apart)
    (λ i q l e. all.rising i at.0 q p l e at.1)
    (λ i q l e before. not_both q before (all.rising at.0 i p q l at.1 e) (all.keyed i q e))
    none (ap is_same (get_or-set_same since p Same Same inside))
    (λ q other. ap is_same (sym (get_or-set_other since p q Same Same other)))
    few low
    (λ i q l e before. let k = all.keyed (in-filter (is_same_at since) (values x.places) i q e).1 q
    (in-filter (is_same_at since) (values x.places) i q e).2 in
    let t = before k.0 key k.1 there in
    let f = high i q l e k.0 key k.1 there in
    let z : true ≡ false = sym t ∙ f in absurd cc)
  where
    index_of : (xs : List ℕ) → (i : ℕ) × (i < length xs) × (place_in xs i ≡ p)
        → (i : ℕ) × (slice_get xs i ≡ Some p)
    index_of xs h = (h.0, slice_get-get_or xs h.0 0 h.1 ∙ ap Some h.2)

    never : (k : List ℕ) → T (is_lt (key_order k k)) → ⊥
    never k t = irreflexive (key_order k k) (nat_list_cmp_total.antisymm k k) t

    not_both : (q : ℕ) → IsBefore x.places q p → IsBefore x.places p q
        → (k : List ℕ) × (get x.places k ≡ Some q) → ⊥
    not_both q a b k =
        never k.0 (below-below k.0 key k.0 (truly _ (a k.0 key k.1 there))
        (truly _ (b key k.0 there k.1)))

-- there is room for one more
pub room_for_one : (x : MapState) (since : List Since) (p r : ℕ) → IsMap x
    → insert (filter (is_same_at since) (values x.places)) r p
    ≡ filter (is_same_at (slice_set since p Same)) (values x.places)
    → length (filter (is_same_at since) (values x.places)) < x.row.entries
room_for_one x since p r is one =
    let more = length-inserted (filter (is_same_at since) (values x.places)) r p in
    let same = ap length one in
    let few = length-filter_less (is_same_at (slice_set since p Same)) (values x.places) in
    let most = values-few x is in
    omega arith

-- where nothing became of any value the order is that of all keys
pub all_same : (since : List Since) (xs : List ℕ) → AllSame since → filter (is_same_at since) xs ≡ xs
all_same since xs same = filter-all (is_same_at since) xs (λ i q e. ap is_same (same q))

-- a place without a key is no longer missed
pub still_same : (since : List Since) (p : ℕ) (xs : List ℕ) → IsOut p xs
    → filter (is_same_at since) xs ≡ filter (is_same_at (slice_set since p Same)) xs
still_same since p xs out =
    filter-agree (is_same_at since) (is_same_at (slice_set since p Same)) xs
    (λ i q e. ap is_same (sym (get_or-set_other since p q Same Same
    (λ f. out i (e ∙ ap Some f)))))

-- what is known of other places, once one is as it was
pub same_else : (since : List Since) (p q : ℕ) → since_in (slice_set since p Same) q ≢ Same
    → (q ≢ p) × (since_in (slice_set since p Same) q ≡ since_in since q)
same_else since p q other =
    let apart : q ≢ p = λ e. other (by since p q e) in
    (apart, get_or-set_other since p q Same Same apart)
  where
    by : (since : List Since) (p q : ℕ) → q ≡ p → since_in (slice_set since p Same) q ≡ Same
    by [] p q e = refl
    by (s ∷ since) zero zero e = refl
    by (s ∷ since) zero (suc q) e = absurd (omega arith)
    by (s ∷ since) (suc p) zero e = absurd (omega arith)
    by (s ∷ since) (suc p) (suc q) e = by since p q (omega arith)

-- which places are left to be looked at
abbrev pub IsLeft : List ℕ → ℕ → List Since → Type 0
IsLeft places i since = (p : ℕ) → since_in since p ≢ Same
    → (j : ℕ) × (i ≤ j) × (slice_get places j ≡ Some p)

pub left-next : (places : List ℕ) (i p : ℕ) (since : List Since) → slice_get places i ≡ Some p
    → IsLeft places i since → since_in since p ≡ Same → IsLeft places (i + 1) since
left-next places i p since at left same q other =
    let r = left q other in
    let less = r.1 in
    either_equal r.0 i ((j : ℕ) × (i + 1 ≤ j) × (slice_get places j ≡ Some q))
    (λ equal.
    let one : Some q ≡ Some p = sym r.2 ∙ ap (slice_get places) equal ∙ at in
    let this : q ≡ p = cc in
    absurd (other (ap (since_in since) this ∙ same)))
    (λ apart. (r.0, omega arith, r.2))

pub left-set : (places : List ℕ) (i p : ℕ) (since : List Since) → slice_get places i ≡ Some p
    → IsLeft places i since → IsLeft places (i + 1) (slice_set since p Same)
left-set places i p since at left q other =
    let e = same_else since p q other in
    let r = left q (λ f. other (e.1 ∙ f)) in
    let less = r.1 in
    (r.0, (by r.0 less (λ equal. e.0 (one q (sym r.2 ∙ ap (slice_get places) equal ∙ at)))), r.2)
  where
    one : (q : ℕ) → Some q ≡ Some p → q ≡ p
    one q e = cc

    by : (j : ℕ) → i ≤ j → (j ≡ i → ⊥) → i + 1 ≤ j
    by j l apart = omega arith

pub left-none : (places : List ℕ) (i : ℕ) (since : List Since) → length places ≤ i
    → IsLeft places i since → AllSame since
left-none places i since past left p = by (since_in since p) refl (λ other.
    let r = left p other in
    let within = slice_get_within places r.0 p r.2 in
    let less = r.1 in
    absurd (omega arith))
  where
    by : (s : Since) → since_in since p ≡ s → (since_in since p ≢ Same → since_in since p ≡ Same)
        → since_in since p ≡ Same
    by Same e never = e
    by Gone e never = never (λ f. let z = ap is_same (sym e ∙ f) in absurd cc)
    by (Given n) e never = never (λ f. let z = ap is_same (sym e ∙ f) in absurd cc)
    by (New n) e never = never (λ f. let z = ap is_same (sym e ∙ f) in absurd cc)

pub AreGone-set : (since : List Since) (p : ℕ) (P : Places) → AreGone since P
    → AreGone (slice_set since p Same) P
AreGone-set since p P h q e =
    let r = same_else since p q (λ f. let z = ap is_same (sym e ∙ f) in absurd cc) in
    h q (sym r.1 ∙ e)

pub HaveCome-set : (since : List Since) (p : ℕ) (P : Places) → HaveCome since P
    → HaveCome (slice_set since p Same) P
HaveCome-set since p P h q n e =
    let r = same_else since p q (λ f. let z = ap (λ (s : Since). after s None) (sym f) ∙ e in
    absurd cc) in
    h q n (ap (λ (s : Since). after s None) (sym r.1) ∙ e)

-- ---- places taken out

-- each place that was looked at is out, if something became of its value
abbrev pub AreOut : List ℕ → ℕ → List Since → List ℕ → Type 0
AreOut places i since order = (j p : ℕ) → j < i → slice_get places j ≡ Some p
    → is_same_at since p ≡ false → IsOut p order

pub out-next : (places : List ℕ) (i p : ℕ) (since : List Since) (order : List ℕ)
    → slice_get places i ≡ Some p → (is_same_at since p ≡ false → IsOut p order)
    → AreOut places i since order → AreOut places (i + 1) since order
out-next places i p since order at here before j q l e f =
    either_equal j i (IsOut q order)
    (λ same.
    let one : Some q ≡ Some p = sym e ∙ ap (slice_get places) same ∙ at in
    let this : p ≡ q = cc in
    subst (λ (x : ℕ). is_same_at since x ≡ false → IsOut x order) this here f)
    (λ other. before j q (omega arith) e f)

pub out-taken : (places : List ℕ) (i p : ℕ) (since : List Since) (order : List ℕ)
    → slice_get places i ≡ Some p → AreOut places i since order
    → AreOut places (i + 1) since (without p order)
out-taken places i p since order at before =
    out-next places i p since (without p order) at (λ e. out_without p order)
    (λ j q l e f. out_still p q order (before j q l e f))

-- at the end, what is left is what nothing became of
pub out-all : (noted : List ℕ) (room : ℕ) (since : List Since) (order first : List ℕ) (i : ℕ)
    → AreNoted noted room since → length (looked noted room (length since)) ≤ i
    → AreOut (looked noted room (length since)) i since order
    → filter (is_same_at since) order ≡ filter (is_same_at since) first
    → order ≡ filter (is_same_at since) first
out-all noted room since order first i covers past out same =
    sym (filter-all (is_same_at since) order (λ j q e. by (is_same_at since q) refl j e)) ∙ same
  where
    by : {q : ℕ} (b : Bool) → is_same_at since q ≡ b → (j : ℕ) → slice_get order j ≡ Some q
        → is_same_at since q ≡ true
    by true t j e = t
    by {q} false t j e =
        let c = covers q (λ f. let z = sym t ∙ ap is_same f in absurd cc) in
        let within = slice_get_within (looked noted room (length since)) c.0 q c.1 in
        absurd (out c.0 q (omega arith) c.1 t j e)

pub not_same : (s : Since) → (s ≡ Same → ⊥) → is_same s ≡ false
not_same Same other = absurd (other refl)
not_same Gone other = refl
not_same (Given n) other = refl
not_same (New n) other = refl

pub has_come : (s : Since) → (s ≡ Same → ⊥) → (s ≡ Gone → ⊥) → (n : ℕ) × (after s None ≡ Some n)
has_come Same same gone = absurd (same refl)
has_come Gone same gone = absurd (gone refl)
has_come (Given n) same gone = (n, refl)
has_come (New n) same gone = (n, refl)

-- ---- what is noted

covers_all : (noted : List ℕ) (room : ℕ) (since : List Since) → room ≤ length noted
    → AreNoted noted room since
covers_all noted room since past p other = (
  p,
  ap (λ (xs : List ℕ). slice_get xs p) (looked-all noted room (length since) past)
      ∙ all_at (length since) p (since_inside since p other),
)

got_push : (xs : List ℕ) (i p x : ℕ) → slice_get xs i ≡ Some p → slice_get (xs ++ x ∷ []) i ≡ Some p
got_push [] i p x e = absurd cc
got_push (y ∷ xs) zero p x e = e
got_push (y ∷ xs) (suc i) p x e = got_push xs i p x e

either_less : (a b : ℕ) (A : Type 0) → (a < b → A) → (b ≤ a → A) → A
either_less zero zero A less most = most (omega arith)
either_less zero (suc b) A less most = less (omega arith)
either_less (suc a) zero A less most = most (omega arith)
either_less (suc a) (suc b) A less most =
    either_less a b A (λ l. less (omega arith)) (λ l. most (omega arith))

-- a place that is noted
pub covers-push : (noted : List ℕ) (room : ℕ) (since : List Since) (p : ℕ) (s : Since)
    → length noted < room → AreNoted noted room since
    → AreNoted (noted ++ p ∷ []) room (slice_set since p s)
covers-push noted room since p s l covers =
    let more = length-append noted (p ∷ []) in
    either_less (length (noted ++ p ∷ [])) room (AreNoted (noted ++ p ∷ []) room (slice_set since p s))
    (λ still q other.
    let all = looked-noted (noted ++ p ∷ []) room (length (slice_set since p s)) still in
    either_equal q p ((i : ℕ) × (slice_get (looked (noted ++ p ∷ []) room
    (length (slice_set since p s))) i ≡ Some q))
    (λ same. (
      length noted,
      ap (λ (xs : List ℕ). slice_get xs (length noted)) all
          ∙ slice_get-get_or (noted ++ p ∷ []) (length noted) 0 (omega arith)
          ∙ ap Some (get_or_push noted p 0 (length noted) refl) ∙ ap Some (sym same),
    ))
    (λ apart.
    let r = covers q (λ e. other (get_or-set_other since p q s Same apart ∙ e)) in
    let old = ap (λ (xs : List ℕ). slice_get xs r.0)
    (sym (looked-noted noted room (length since) l)) ∙ r.1 in
    (r.0, ap (λ (xs : List ℕ). slice_get xs r.0) all ∙ got_push noted r.0 q p old)))
    (λ past. covers_all (noted ++ p ∷ []) room (slice_set since p s) past)

-- one that could not be noted
pub covers-full : (noted : List ℕ) (room : ℕ) (since : List Since) → room ≤ length noted
    → AreNoted noted room since
covers-full noted room since past = covers_all noted room since past

-- ---- nothing has become of the values of the first places

abbrev pub AreSame : ℕ → List Since → Type 0
AreSame n since = (p : ℕ) → p < n → since_in since p ≡ Same

pub same_next : (n : ℕ) (since : List Since) → n < length since → AreSame n since
    → AreSame (n + 1) (slice_set since n Same)
same_next n since l before p m =
    either_equal p n (since_in (slice_set since n Same) p ≡ Same)
    (λ same.
    subst (λ (i : ℕ). since_in (slice_set since n Same) i ≡ Same) (sym same)
    (get_or-set_same since n Same Same l))
    (λ other. get_or-set_other since n p Same Same other ∙ before p (omega arith))

pub same_all : (n : ℕ) (since : List Since) → length since ≤ n → AreSame n since → AllSame since
same_all n since l before p =
    elim (cases_lt p (length since)) [
      | inl s ↦ before p (omega arith)
      | inr s ↦ get_or_past since p Same s
    ]
