-- What a call frame in the bytes of a table holds points only into frames up to that frame, so the
-- end of a later one leaves it as it is.
use Rattle.table_entries.proofs.Common.{◌≡◌, ℕ, zero, suc, ◌+◌, ◌<◌, nat_lt, ◌==◌, if◌then◌else◌, Bool, true, false, ℤ, List, [], ◌∷◌, length, drop, map, Option, Some, None, Ok, Err, ap, subst, arith, refl, option_map, little_number, Scalar, Kind, Unset, Number, Stack, StackSlot, Spilled, AbstractFrame, frame_slots, Short, Meaningless, Read, sized, then_read, joined, many, scalar_in, signed_32, lacks_identity, limits_in, packet_of, packet_in, stack_in, map_in, value_of, value_in, null_in, fields_in, kind_in, marks_in, spilled, stack_slot_in, frame_allowed, allowed_frame, frame_in}
use Rattle.std.proofs.lemmas.Bool.Decides.{nat_tests}
use Rattle.stack_state.specs.Calls.{without_frame}
use Rattle.stack_state.specs.Effects.{with_spilled, with_kinds}

-- what there is has the property
abbrev Each : {X : Type 0} → (X → Type 0) → Option X → Type 0
Each P (Some x) = P x
Each P None = Unit {0}

-- what is read has it
abbrev ReadsEach : {X : Type 0} → (X → Type 0) → Read X → Type 0
ReadsEach P (Ok x) = Each P x.0
ReadsEach P (Err stop) = Unit {0}

-- the end of frame n leaves it as it is
abbrev KindStays : ℕ → Kind → Type 0
KindStays n k = without_frame n k ≡ k

abbrev SlotStays : ℕ → StackSlot → Type 0
SlotStays n s = with_spilled (without_frame n) s ≡ s

Each-if : {X : Type 0} (P : X → Type 0) (b : Bool) (x y : Option X) → Each P x → Each P y
    → Each P (if b then x else y)
Each-if P true x y first second = first
Each-if P false x y first second = second

ReadsEach-if : {X : Type 0} (P : X → Type 0) (b : Bool) (r s : Read X) → ReadsEach P r
    → ReadsEach P s → ReadsEach P (if b then r else s)
ReadsEach-if P true r s first second = first
ReadsEach-if P false r s first second = second

ReadsEach-sized : {X : Type 0} (P : X → Type 0) (n : ℕ) (fields : List ℕ → Option X)
    (bytes : List ℕ) → Each P (fields bytes) → ReadsEach P (sized n fields bytes)
ReadsEach-sized P n fields bytes h =
    ReadsEach-if P (nat_lt (length bytes) n) (Err Short) (Ok (fields bytes, drop n bytes)) tt h

ReadsEach-then : {X Y : Type 0} (P : X → Type 0) (Q : Y → Type 0) (r : Read X)
    (next : Option X → List ℕ → Read Y) → ReadsEach P r
    → ((x : Option X) (rest : List ℕ) → Each P x → ReadsEach Q (next x rest))
    → ReadsEach Q (then_read r next)
ReadsEach-then P Q (Ok x) next first second = second x.0 x.1 first
ReadsEach-then P Q (Err stop) next first second = tt

-- ---- kinds

number_stays : (n : ℕ) (x : Option Scalar) → Each (KindStays n) (option_map Number x)
number_stays n (Some x) = refl
number_stays n None = tt

packet_stays : (n : ℕ) (fixed : ℤ) (identity : ℕ) (limits : Option (ℤ × ℤ)) (proved : ℕ)
    → Each (KindStays n) (packet_of fixed identity limits proved)
packet_stays n fixed identity (Some limits) proved = refl
packet_stays n fixed identity None proved = tt

value_stays : (n m : ℕ) (limits : Option (ℤ × ℤ)) → Each (KindStays n) (value_of m limits)
value_stays n m (Some limits) = refl
value_stays n m None = tt

other_frame : (n f : ℕ) (z : ℤ) → f < n → KindStays n (Stack f z)
other_frame n f z less = of (f == n) refl where
  of : (b : Bool) → (f == n) ≡ b → (if b then Unset else Stack f z) ≡ Stack f z
  of true e = let same : f ≡ n = grind (arith, nat_tests) in absurd (omega arith)
  of false e = refl

up_to_holder : (n holder f : ℕ) (z : ℤ) → holder < n
    → Each (KindStays n) (if nat_lt holder f then None else Some (Stack f z))
up_to_holder n holder f z less = of (nat_lt holder f) refl where
  of : (b : Bool) → nat_lt holder f ≡ b
      → Each (KindStays n) (if b then None else Some (Stack f z))
  of true e = tt
  of false e = other_frame n f z (grind arith)

stack_stays : (n holder : ℕ) (bytes : List ℕ) → holder < n
    → Each (KindStays n) (stack_in holder bytes)
unfolding stack_in
stack_stays n holder bytes less =
    up_to_holder n holder (little_number 1 bytes) (signed_32 (drop 1 bytes)) less

packet_in_stays : (n : ℕ) (bytes : List ℕ) → Each (KindStays n) (packet_in bytes)
unfolding packet_in
packet_in_stays n bytes =
    Each-if (KindStays n) (lacks_identity bytes) None _ tt
    (packet_stays n (signed_32 bytes) (little_number 4 (drop 4 bytes)) (limits_in (drop 8 bytes))
    (little_number 4 (drop 16 bytes)))

map_stays : (n rows : ℕ) (bytes : List ℕ) → Each (KindStays n) (map_in rows bytes)
unfolding map_in
map_stays n rows bytes =
    Each-if (KindStays n) (nat_lt (little_number 1 bytes) rows) _ None refl tt

value_in_stays : (n rows : ℕ) (bytes : List ℕ) → Each (KindStays n) (value_in rows bytes)
unfolding value_in
value_in_stays n rows bytes =
    Each-if (KindStays n) (nat_lt (little_number 1 bytes) rows) _ None
    (value_stays n (little_number 1 bytes) (limits_in (drop 1 bytes))) tt

null_stays : (n rows : ℕ) (bytes : List ℕ) → Each (KindStays n) (null_in rows bytes)
unfolding null_in
null_stays n rows bytes =
    Each-if (KindStays n) (nat_lt (little_number 1 bytes) rows) _ None refl tt

fields_stay : (rows holder n kind : ℕ) (bytes : List ℕ) → holder < n
    → ReadsEach (KindStays n) (fields_in rows holder kind bytes)
unfolding fields_in
fields_stay rows holder n kind bytes less =
    let P = KindStays n in
    ReadsEach-if P (kind == 0) _ _ refl
    (ReadsEach-if P (kind == 1) _ _
    (ReadsEach-sized P 64 (λ b. option_map Number (scalar_in b)) bytes
    (number_stays n (scalar_in bytes)))
    (ReadsEach-if P (kind == 2) _ _ refl
    (ReadsEach-if P (kind == 3) _ _
    (ReadsEach-sized P 5 (stack_in holder) bytes (stack_stays n holder bytes less))
    (ReadsEach-if P (kind == 4) _ _
    (ReadsEach-sized P 20 packet_in bytes (packet_in_stays n bytes))
    (ReadsEach-if P (kind == 5) _ _ refl
    (ReadsEach-if P (kind == 6) _ _
    (ReadsEach-sized P 1 (map_in rows) bytes (map_stays n rows bytes))
    (ReadsEach-if P (kind == 7) _ _
    (ReadsEach-sized P 9 (value_in rows) bytes (value_in_stays n rows bytes))
    (ReadsEach-if P (kind == 8) _ (Err Meaningless)
    (ReadsEach-sized P 5 (null_in rows) bytes (null_stays n rows bytes)) tt))))))))

kind_stays : (rows holder n : ℕ) (bytes : List ℕ) → holder < n
    → ReadsEach (KindStays n) (kind_in rows holder bytes)
unfolding kind_in
kind_stays rows holder n [] less = tt
kind_stays rows holder n (kind ∷ bytes) less = fields_stay rows holder n kind bytes less

-- ---- stack slots

marks_stay : (n : ℕ) (bytes : List ℕ) → ReadsEach (SlotStays n) (marks_in bytes)
marks_stay n [] = tt
marks_stay n (marks ∷ bytes) = refl

spilled_stays : (n : ℕ) (k : Option Kind) → Each (KindStays n) k → Each (SlotStays n) (spilled k)
spilled_stays n None h = tt
spilled_stays n (Some Unset) h = tt
spilled_stays n (Some k) h = ap Spilled h

slot_stays : (rows holder n : ℕ) (bytes : List ℕ) → holder < n
    → ReadsEach (SlotStays n) (stack_slot_in rows holder bytes)
unfolding stack_slot_in
slot_stays rows holder n [] less = tt
slot_stays rows holder n (tag ∷ bytes) less =
    ReadsEach-if (SlotStays n) (tag == 0) _ _ (marks_stay n bytes)
    (ReadsEach-if (SlotStays n) (tag == 1) _ (Err Meaningless)
    (ReadsEach-then (KindStays n) (SlotStays n) (kind_in rows holder bytes)
    (λ k rest. Ok (spilled k, rest)) (kind_stays rows holder n bytes less)
    (λ k rest h. spilled_stays n k h)) tt)

-- ---- lists

joined_stay : {X : Type 0} (g : X → X) (first : Option X) (others : Option (List X))
    → Each (λ x. g x ≡ x) first → Each (λ xs. map g xs ≡ xs) others
    → Each (λ xs. map g xs ≡ xs) (joined first others)
joined_stay g (Some x) (Some xs) h k = rw (h, k) refl
joined_stay g (Some x) None h k = tt
joined_stay g None others h k = tt

many_stay : {X : Type 0} (g : X → X) (one : ℕ → List ℕ → Read X)
    → ((k : ℕ) (bytes : List ℕ) → ReadsEach (λ x. g x ≡ x) (one k bytes))
    → (n k : ℕ) (bytes : List ℕ) → ReadsEach (λ xs. map g xs ≡ xs) (many one n k bytes)
unfolding many
many_stay g one each zero k bytes = refl
many_stay g one each (suc n) k bytes =
    ReadsEach-then (λ x. g x ≡ x) (λ xs. map g xs ≡ xs) (one k bytes)
    (λ first rest. then_read (many one n (k + 1) rest)
    (λ others after. Ok (joined first others, after))) (each k bytes)
    (λ first rest h. ReadsEach-then (λ xs. map g xs ≡ xs) (λ xs. map g xs ≡ xs)
    (many one n (k + 1) rest) (λ others after. Ok (joined first others, after))
    (many_stay g one each n (k + 1) rest)
    (λ others after k. joined_stay g first others h k))

-- ---- call frames

abbrev FrameStays : ℕ → AbstractFrame → Type 0
FrameStays n f = with_kinds (without_frame n) f ≡ f

parts_stay : (n slot : ℕ) (kinds : List Kind) (slots : List StackSlot)
    → map (without_frame n) kinds ≡ kinds → map (with_spilled (without_frame n)) slots ≡ slots
    → FrameStays n
    (record { return_slot = slot; registers = kinds; stack = record { slots = slots } })
parts_stay n slot kinds slots h k = rw (h, k) refl

allowed_stays : (holder : ℕ) (outer : Bool) (n slot : ℕ) (kinds : Option (List Kind))
    (slots : Option (List StackSlot))
    → Each (λ ks. map (without_frame n) ks ≡ ks) kinds
    → Each (λ ss. map (with_spilled (without_frame n)) ss ≡ ss) slots
    → Each (FrameStays n) (allowed_frame holder outer slot kinds slots)
allowed_stays holder outer n slot (Some kinds) (Some slots) h k =
    Each-if (FrameStays n) (frame_allowed holder outer slot kinds)
    (Some (record { return_slot = slot; registers = kinds; stack = record { slots = slots } }))
    None (parts_stay n slot kinds slots h k) tt
allowed_stays holder outer n slot (Some kinds) None h k = tt
allowed_stays holder outer n slot None slots h k = tt

frame_stays : (rows holder n : ℕ) (outer : Bool) (bytes : List ℕ) → holder < n
    → ReadsEach (FrameStays n) (frame_in rows holder outer bytes)
unfolding frame_in
frame_stays rows holder n outer bytes less =
    let g : Kind → Kind = without_frame n in
    ReadsEach-if (FrameStays n) (nat_lt (length bytes) 2) (Err Short) _ tt
    (ReadsEach-then (λ ks. map g ks ≡ ks) (FrameStays n)
    (many (λ k. kind_in rows holder) 10 0 (drop 2 bytes)) _
    (many_stay g (λ k. kind_in rows holder) (λ k b. kind_stays rows holder n b less) 10 0
    (drop 2 bytes))
    (λ kinds rest h. ReadsEach-then (λ ss. map (with_spilled g) ss ≡ ss) (FrameStays n)
    (many (λ k. stack_slot_in rows holder) frame_slots 0 rest) _
    (many_stay (with_spilled g) (λ k. stack_slot_in rows holder)
    (λ k b. slot_stays rows holder n b less) frame_slots 0 rest)
    (λ slots after k.
    allowed_stays holder outer n (little_number 2 bytes) kinds slots h k)))

pub frame_in-stays : (rows holder n : ℕ) (outer : Bool) (bytes : List ℕ) (f : AbstractFrame)
    (rest : List ℕ) → holder < n → frame_in rows holder outer bytes ≡ Ok (Some f, rest)
    → with_kinds (without_frame n) f ≡ f
frame_in-stays rows holder n outer bytes f rest less h =
    subst (ReadsEach (FrameStays n)) h (frame_stays rows holder n outer bytes less)
