-- Whether what is passed over is allowed, part by part.
use Rattle.table_entries.proofs.Common.{◌≡◌, ℕ, suc, ◌+◌, ◌-◌, ◌<◌, ◌≤◌, ◌==◌, ◌||◌, ◌&&◌, not, if◌then◌else◌, Bool, true, false, List, length, drop, Option, Some, None, Result, Ok, Err, sym, ap, ◌∙◌, arith, refl, is_some, le-ltb, little_number, Program, Kind, StackSlot, AbstractFrame, frame_slots, StopReason, Read, kept, seen, then_read, joined, many, kind_in, stack_slot_in, frame_allowed, allowed_frame, frame_in, callers_in, named_in, head_allowed, entry_with, rest_in}

abbrev pub Seen : Type 0
Seen = Result (Bool × List ℕ) StopReason

-- what was allowed before, and what is still passed over
abbrev pub and_seen : Bool → Seen → Seen
and_seen whole (Ok x) = Ok (whole && x.0, x.1)
and_seen whole (Err stop) = Err stop

abbrev pub then_seen : Seen → (Bool → List ℕ → Seen) → Seen
then_seen (Ok x) next = next x.0 x.1
then_seen (Err stop) next = Err stop

some-joined : {X : Type 0} (whole : Bool) (x : Option X) (xs : Option (List X))
    → (whole && is_some (joined x xs)) ≡ ((whole && is_some x) && is_some xs)
some-joined true (Some x) (Some xs) = refl
some-joined true (Some x) None = refl
some-joined true None xs = refl
some-joined false x xs = refl

regroup : {X : Type 0} (whole : Bool) (x : Option X) (read : Read (List X))
    → and_seen whole (seen (then_read read (λ others after. Ok (joined x others, after))))
    ≡ and_seen (whole && is_some x) (seen read)
regroup whole x (Ok r) = ap (λ (b : Bool). Ok (b, r.1)) (some-joined whole x r.0)
regroup whole x (Err stop) = refl

first_seen : {X : Type 0} (one : ℕ → List ℕ → Read X) (whole : Bool) (m i : ℕ) (read : Read X)
    → and_seen whole
    (seen (then_read read
    (λ first rest. then_read (many one m (i + 1) rest)
    (λ others after. Ok (joined first others, after)))))
    ≡ then_seen (seen read) (λ fits rest. and_seen (whole && fits) (seen (many one m (i + 1) rest)))
first_seen one whole m i (Ok x) = regroup whole x.0 (many one m (i + 1) x.1)
first_seen one whole m i (Err stop) = refl

pub seen-goes_on : {X : Type 0} (one : ℕ → List ℕ → Read X) (whole : Bool) (n i : ℕ)
    (bytes : List ℕ) (fits : Bool) (after : List ℕ) (total : Seen)
    → i < n → seen (one i bytes) ≡ Ok (fits, after)
    → and_seen whole (seen (many one (n - i) i bytes)) ≡ total
    → and_seen (whole && fits) (seen (many one (n - (i + 1)) (i + 1) after)) ≡ total
unfolding many
seen-goes_on one whole n i bytes fits after total lt h so_far =
    let m = n - (i + 1) in
    let k : n - i ≡ suc m = omega arith in
    let first : and_seen whole (seen (many one (suc m) i bytes))
    ≡ then_seen (seen (one i bytes))
    (λ fits rest. and_seen (whole && fits) (seen (many one m (i + 1) rest))) =
    first_seen one whole m i (one i bytes) in
    let second =
    ap (λ (r : Seen). then_seen r
    (λ fits rest. and_seen (whole && fits) (seen (many one m (i + 1) rest)))) h in
    sym (ap (λ (j : ℕ). and_seen whole (seen (many one j i bytes))) k ∙ first ∙ second) ∙ so_far

pub seen-stops : {X : Type 0} (one : ℕ → List ℕ → Read X) (whole : Bool) (n i : ℕ) (bytes : List ℕ)
    (stop : StopReason) (total : Seen)
    → i < n → seen (one i bytes) ≡ Err stop
    → and_seen whole (seen (many one (n - i) i bytes)) ≡ total → total ≡ Err stop
unfolding many
seen-stops one whole n i bytes stop total lt h so_far =
    let m = n - (i + 1) in
    let k : n - i ≡ suc m = omega arith in
    let first : and_seen whole (seen (many one (suc m) i bytes))
    ≡ then_seen (seen (one i bytes))
    (λ fits rest. and_seen (whole && fits) (seen (many one m (i + 1) rest))) =
    first_seen one whole m i (one i bytes) in
    let second =
    ap (λ (r : Seen). then_seen r
    (λ fits rest. and_seen (whole && fits) (seen (many one m (i + 1) rest)))) h in
    sym so_far ∙ ap (λ (j : ℕ). and_seen whole (seen (many one j i bytes))) k ∙ first ∙ second

and-true : (b : Bool) → (b && true) ≡ b
and-true true = refl
and-true false = refl

pub seen-done : {X : Type 0} (one : ℕ → List ℕ → Read X) (whole : Bool) (n i : ℕ) (bytes : List ℕ)
    (total : Seen)
    → n ≤ i → and_seen whole (seen (many one (n - i) i bytes)) ≡ total → total ≡ Ok (whole, bytes)
unfolding many
seen-done one whole n i bytes total le so_far =
    let k : n - i ≡ 0 = omega arith in
    sym so_far ∙ ap (λ (j : ℕ). and_seen whole (seen (many one j i bytes))) k
    ∙ ap (λ (b : Bool). Ok (b, bytes)) (and-true whole)

pub seen-begins : (r : Seen) → and_seen true r ≡ r
seen-begins (Ok x) = refl
seen-begins (Err stop) = refl

seen-then : {X Y : Type 0} (read : Read X) (next : Option X → List ℕ → Read Y)
    (f : Bool → List ℕ → Seen)
    → ((x : Option X) (rest : List ℕ) → seen (next x rest) ≡ f (is_some x) rest)
    → seen (then_read read next) ≡ then_seen (seen read) f
seen-then (Ok x) next f h = h x.0 x.1
seen-then (Err stop) next f h = refl

some-if : {X : Type 0} (b : Bool) (x : X) → is_some (if b then Some x else None) ≡ b
some-if true x = refl
some-if false x = refl

some-frame : (holder return_slot : ℕ) (kinds : Option (List Kind)) (slots : Option (List StackSlot))
    → is_some (allowed_frame holder false return_slot kinds slots)
    ≡ ((is_some kinds && is_some slots) && (not (holder == 0) || return_slot == 0))
some-frame holder return_slot (Some kinds) (Some slots) =
    some-if (frame_allowed holder false return_slot kinds)
    (record { return_slot = return_slot; registers = kinds; stack = record { slots = slots } })
    ∙ and-true (not (holder == 0) || return_slot == 0)
some-frame holder return_slot (Some kinds) None = refl
some-frame holder return_slot None slots = refl

-- the innermost call frame
pub seen-frame : (rows holder : ℕ) (bytes : List ℕ) → 2 ≤ length bytes
    → seen (frame_in rows holder false bytes)
    ≡ then_seen (seen (many (λ k. kind_in rows holder) 10 0 (drop 2 bytes))) (λ allowed rest.
    then_seen (seen (many (λ k. stack_slot_in rows holder) frame_slots 0 rest)) (λ fits after.
    Ok ((allowed && fits) && (not (holder == 0) || little_number 2 bytes == 0), after)))
unfolding frame_in
seen-frame rows holder bytes long =
    rw (le-ltb (length bytes) 2 long)
    (seen-then (many (λ k. kind_in rows holder) 10 0 (drop 2 bytes)) _
    (λ allowed rest. then_seen (seen (many (λ k. stack_slot_in rows holder) frame_slots 0 rest))
    (λ fits after.
    Ok ((allowed && fits) && (not (holder == 0) || little_number 2 bytes == 0), after)))
    (λ kinds rest. seen-then (many (λ k. stack_slot_in rows holder) frame_slots 0 rest) _
    (λ fits after. Ok
    ((is_some kinds && fits) && (not (holder == 0) || little_number 2 bytes == 0), after))
    (λ slots after. ap (λ (b : Bool). Ok (b, after))
    (some-frame holder (little_number 2 bytes) kinds slots))))

some-kept : (holder return_slot : ℕ) (outer allowed : Bool) (kinds : List Kind)
    (slots : Option (List StackSlot))
    → is_some (allowed_frame holder outer return_slot (kept allowed kinds) slots)
    ≡ ((allowed && is_some slots) && frame_allowed holder outer return_slot kinds)
some-kept holder return_slot outer true kinds (Some slots) =
    some-if (frame_allowed holder outer return_slot kinds)
    (record { return_slot = return_slot; registers = kinds; stack = record { slots = slots } })
some-kept holder return_slot outer true kinds None = refl
some-kept holder return_slot outer false kinds slots = refl

-- a call frame whose kinds were read
pub seen-caller : (rows holder : ℕ) (outer : Bool) (bytes : List ℕ) (allowed : Bool)
    (kinds : List Kind) (rest : List ℕ) → 2 ≤ length bytes
    → many (λ k. kind_in rows holder) 10 0 (drop 2 bytes) ≡ Ok (kept allowed kinds, rest)
    → seen (frame_in rows holder outer bytes)
    ≡ then_seen (seen (many (λ k. stack_slot_in rows holder) frame_slots 0 rest)) (λ fits after.
    Ok ((allowed && fits) && frame_allowed holder outer (little_number 2 bytes) kinds, after))
unfolding frame_in
seen-caller rows holder outer bytes allowed kinds rest long read =
    rw (le-ltb (length bytes) 2 long, read)
    (seen-then (many (λ k. stack_slot_in rows holder) frame_slots 0 rest) _
    (λ fits after. Ok
    ((allowed && fits) && frame_allowed holder outer (little_number 2 bytes) kinds, after))
    (λ slots after. ap (λ (b : Bool). Ok (b, after))
    (some-kept holder (little_number 2 bytes) outer allowed kinds slots)))

-- one whose kinds could not be read
pub stop-caller : (rows holder : ℕ) (outer : Bool) (bytes : List ℕ) (stop : StopReason)
    → 2 ≤ length bytes
    → many (λ k. kind_in rows holder) 10 0 (drop 2 bytes) ≡ Err stop
    → frame_in rows holder outer bytes ≡ Err stop
unfolding frame_in
stop-caller rows holder outer bytes stop long read = rw (le-ltb (length bytes) 2 long, read) refl

some-entry : (p : Program) (number slot : ℕ) (callers : Option (List AbstractFrame))
    (innermost : Option AbstractFrame) (successors : Option (List ℕ))
    → is_some (entry_with p number slot callers innermost successors)
    ≡ (((is_some callers && is_some innermost) && head_allowed p number slot) && is_some successors)
some-entry p number slot (Some callers) (Some innermost) (Some successors) =
    some-if (head_allowed p number slot)
    (record {
      number = number;
      state = record { slot = slot; callers = record { items = callers }; innermost = innermost };
      successors = successors;
    })
    ∙ sym (and-true (head_allowed p number slot))
some-entry p number slot (Some callers) (Some innermost) None =
    sym (nothing (head_allowed p number slot))
  where
    nothing : (b : Bool) → (b && false) ≡ false
    nothing true = refl
    nothing false = refl
some-entry p number slot (Some callers) None successors = refl
some-entry p number slot None innermost successors = refl

-- the parts of an entry
pub seen-rest : (p : Program) (number slot caller_count : ℕ) (bytes : List ℕ)
    → seen (rest_in p number slot caller_count bytes)
    ≡ then_seen (seen (callers_in (length p.maps) caller_count bytes)) (λ allowed rest.
    then_seen (seen (frame_in (length p.maps) caller_count false rest)) (λ fits others.
    then_seen (seen (named_in others)) (λ named after.
    Ok (((allowed && fits) && head_allowed p number slot) && named, after))))
seen-rest p number slot caller_count bytes =
    seen-then (callers_in (length p.maps) caller_count bytes) _
    (λ allowed rest. then_seen (seen (frame_in (length p.maps) caller_count false rest))
    (λ fits others.
    then_seen (seen (named_in others))
    (λ named after. Ok
    (((allowed && fits) && head_allowed p number slot) && named, after))))
    (λ callers rest. seen-then (frame_in (length p.maps) caller_count false rest) _
    (λ fits others. then_seen (seen (named_in others))
    (λ named after. Ok
    (((is_some callers && fits) && head_allowed p number slot) && named, after)))
    (λ innermost others. seen-then (named_in others) _
    (λ named after. Ok
    (((is_some callers && is_some innermost) && head_allowed p number slot) && named, after))
    (λ successors after. ap (λ (b : Bool). Ok (b, after))
    (some-entry p number slot callers innermost successors))))

pub and-named : (b : Bool) → b ≡ (b && true)
and-named b = sym (and-true b)

abbrev of_ok : Bool × List ℕ → Seen → Bool × List ℕ
of_ok d (Ok x) = x
of_ok d (Err stop) = d

abbrev of_err : StopReason → Seen → StopReason
of_err d (Ok x) = d
of_err d (Err stop) = stop

-- what was read, where it was passed over
pub read-seen : {X : Type 0} (read : Read X) (fits : Bool) (after : List ℕ)
    → seen read ≡ Ok (fits, after)
    → (x : Option X) × (read ≡ Ok (x, after)) × (is_some x ≡ fits)
read-seen (Ok (x, rest)) fits after h =
    let same : (is_some x, rest) ≡ (fits, after) = ap (of_ok (is_some x, rest)) h in (
      x,
      ap (λ (b : List ℕ). Ok (x, b)) (ap (λ (y : Bool × List ℕ). y.1) same),
      ap
          (λ (y : Bool × List ℕ). y.0) same,
    )
read-seen (Err stop) fits after h = grind arith

pub stop-seen : {X : Type 0} (read : Read X) (stop : StopReason) → seen read ≡ Err stop
    → read ≡ Err stop
stop-seen (Ok x) stop h = grind arith
stop-seen (Err other) stop h = ap (λ (s : StopReason). Err s) (ap (of_err other) h)
