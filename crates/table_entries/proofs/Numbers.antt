-- The number of an entry is the one that its bytes begin with, and it is allowed.
use Rattle.table_entries.proofs.Common.{◌≡◌, ℕ, ◌-◌, ◌<◌, nat_lt, ◌==◌, ◌||◌, ◌&&◌, not, if◌then◌else◌, Bool, true, false, List, length, drop, slice_get, Option, Some, None, Ok, Err, MatchOption, sym, ap, ◌∙◌, subst, arith, get_or, refl, slice_get-get_or, is_some, option_map, State, EntryHead, StopReason, little_number, Program, fetch, AbstractFrame, Read, then_read, allowed, frame_in, callers_in, Entry, entry_of, IsAllowed, named_in, head_allowed, entry_with, rest_in, entry_in, TableView, entry_from, entry_at}
use Rattle.isa_model.specs.declared.limits.TheConstants.{MAX_STEPS}

-- P holds of the entry, if there is one
abbrev pub EntryIs : (Entry → Type 0) → Option Entry → Type 0
EntryIs P (Some e) = P e
EntryIs P None = Unit {0}

-- it has that number, and its number and slot are allowed
pub record BeginsWith (p : Program) (n : ℕ) (e : Entry) : Type 0 where
  pub number : e.number ≡ n
  pub allowed : IsAllowed p e.number e.state.slot

EntryIs-if : (P : Entry → Type 0) (b : Bool) (e : Entry) → (b ≡ true → P e)
    → EntryIs P (if b then Some e else None)
EntryIs-if P true e h = h refl
EntryIs-if P false e h = tt

and-left : (a b : Bool) → (a && b) ≡ true → a ≡ true
and-left true b h = refl
and-left false b h = h

and-right : (a b : Bool) → (a && b) ≡ true → b ≡ true
and-right true b h = h
and-right false b h = grind arith

IsAllowed-head : (p : Program) (number slot : ℕ) → head_allowed p number slot ≡ true
    → IsAllowed p number slot
IsAllowed-head p number slot h =
    let within : (not (number == 0) && not (nat_lt MAX_STEPS number)) ≡ true =
    and-left (not (number == 0) && not (nat_lt MAX_STEPS number)) (is_some (fetch p slot)) h in
    let first : not (number == 0) ≡ true =
    and-left (not (number == 0)) (not (nat_lt MAX_STEPS number)) within in
    let second : not (nat_lt MAX_STEPS number) ≡ true =
    and-right (not (number == 0)) (not (nat_lt MAX_STEPS number)) within in
    record {
      some = grind arith;
      most = grind arith;
      begins =
          and-right (not (number == 0) && not (nat_lt MAX_STEPS number)) (is_some (fetch p slot)) h;
    }

BeginsWith-with : (p : Program) (number slot : ℕ) (callers : Option (List AbstractFrame))
    (innermost : Option AbstractFrame) (successors : Option (List ℕ))
    → EntryIs (BeginsWith p number) (entry_with p number slot callers innermost successors)
BeginsWith-with p number slot (Some callers) (Some innermost) (Some successors) =
    EntryIs-if (BeginsWith p number) (head_allowed p number slot)
    (record {
      number = number;
      state = record { slot = slot; callers = record { items = callers }; innermost = innermost };
      successors = successors;
    })
    (λ h. record { number = refl; allowed = IsAllowed-head p number slot h })
BeginsWith-with p number slot (Some callers) (Some innermost) None = tt
BeginsWith-with p number slot (Some callers) None successors = tt
BeginsWith-with p number slot None innermost successors = tt

EntryIs-then : {X : Type 0} (P : Entry → Type 0) (r : Read X)
    (next : Option X → List ℕ → Read Entry)
    → ((x : Option X) (rest : List ℕ) → EntryIs P (allowed (next x rest)))
    → EntryIs P (allowed (then_read r next))
EntryIs-then P (Ok x) next h = h x.0 x.1
EntryIs-then P (Err stop) next h = tt

EntryIs-either : (P : Entry → Type 0) (b : Bool) (r s : Read Entry) → EntryIs P (allowed r)
    → EntryIs P (allowed s) → EntryIs P (allowed (if b then r else s))
EntryIs-either P true r s first second = first
EntryIs-either P false r s first second = second

BeginsWith-rest : (p : Program) (number slot caller_count : ℕ) (bytes : List ℕ)
    → EntryIs (BeginsWith p number) (allowed (rest_in p number slot caller_count bytes))
BeginsWith-rest p number slot caller_count bytes =
    EntryIs-then (BeginsWith p number) (callers_in (length p.maps) caller_count bytes) _
    (λ callers rest.
    EntryIs-then (BeginsWith p number) (frame_in (length p.maps) caller_count false rest) _
    (λ innermost others.
    EntryIs-then (BeginsWith p number) (named_in others) _
    (λ successors after. BeginsWith-with p number slot callers innermost successors)))

BeginsWith-entry : (p : Program) (bytes : List ℕ)
    → EntryIs (BeginsWith p (little_number 4 bytes)) (allowed (entry_in p bytes))
unfolding entry_in
BeginsWith-entry p bytes =
    let count = little_number 1 (drop 6 bytes) in
    EntryIs-either (BeginsWith p (little_number 4 bytes)) (nat_lt (length bytes) 7) _ _ tt
    (EntryIs-either (BeginsWith p (little_number 4 bytes)) (count == 0 || nat_lt 8 count) _ _ tt
    (BeginsWith-rest p (little_number 4 bytes) (little_number 2 (drop 4 bytes)) (count - 1)
    (drop 7 bytes)))

-- the first bytes at its place are its number
pub number-from : (p : Program) (bytes : List ℕ) (place : ℕ) (e : Entry)
    → entry_from p bytes place ≡ Some e → e.number ≡ little_number 4 (drop place bytes)
number-from p bytes place e h =
    let shown : BeginsWith p (little_number 4 (drop place bytes)) e =
    subst (EntryIs (BeginsWith p (little_number 4 (drop place bytes)))) h
    (BeginsWith-entry p (drop place bytes)) in
    shown.number

-- what is read has a number and a slot that are allowed
pub allowed-in : (p : Program) (bytes : List ℕ) (e : Entry) (after : List ℕ)
    → entry_in p bytes ≡ Ok (Some e, after) → IsAllowed p e.number e.state.slot
allowed-in p bytes e after h =
    let shown : BeginsWith p (little_number 4 bytes) e =
    subst (λ (r : Read Entry). EntryIs (BeginsWith p (little_number 4 bytes)) (allowed r)) h
    (BeginsWith-entry p bytes) in
    shown.allowed

-- fewer than 4 bytes are no entry
pub short-from : (p : Program) (bytes : List ℕ) → length bytes < 4
    → allowed (entry_in p bytes) ≡ None
unfolding entry_in
short-from p bytes less = let short : nat_lt (length bytes) 7 ≡ true = grind arith in rw short refl

pub number-at : (p : Program) (t : TableView) (k place : ℕ) (e : Entry)
    → slice_get t.places k ≡ Some place → entry_at p t k ≡ Some e
    → Some (little_number 4 (drop place t.bytes)) ≡ Some e.number
number-at p t k place e there h =
    let begun : entry_from p t.bytes place ≡ Some e = rw there at h in
    ap Some (sym (number-from p t.bytes place e begun))

pub short-at : (p : Program) (t : TableView) (k place : ℕ) (e : Entry)
    → slice_get t.places k ≡ Some place → length (drop place t.bytes) < 4
    → entry_at p t k ≡ Some e → ⊥
short-at p t k place e there less h =
    let begun : entry_from p t.bytes place ≡ Some e = rw there at h in
    let none : entry_from p t.bytes place ≡ None = short-from p (drop place t.bytes) less in
    grind arith

-- what is at an index of a list
pub found-at : (xs ys : List ℕ) (i x : ℕ) → ys ≡ xs → i < length ys → x ≡ get_or ys i x
    → slice_get xs i ≡ Some x
found-at xs ys i x same less is = rw (← same) (slice_get-get_or ys i x less ∙ ap Some (sym is))

-- what is read at its place
pub read-at : (p : Program) (t : TableView) (k place : ℕ) (head : Option EntryHead) (a : State)
    (after : List ℕ) → slice_get t.places k ≡ Some place
    → entry_in p (drop place t.bytes) ≡ Ok
    (option_map (λ (h : EntryHead). entry_of h a) head, after)
    → MatchOption head (entry_at p t k ≡ None) (λ h. entry_at p t k ≡ Some (entry_of h a))
read-at p t k place None a after there read = rw (there, read)
read-at p t k place (Some h) a after there read = rw (there, read)

pub stop-at : (p : Program) (t : TableView) (k place : ℕ) (stop : StopReason)
    → slice_get t.places k ≡ Some place → entry_in p (drop place t.bytes) ≡ Err stop
    → entry_at p t k ≡ None
stop-at p t k place stop there read = rw (there, read)
