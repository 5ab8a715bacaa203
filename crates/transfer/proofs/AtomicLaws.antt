-- The states that atomic instructions leave mean the machine's next state.
use Rattle.transfer.proofs.Common.{◌≡◌, ◌≢◌, ℕ, ℤ, ◌+ℤ◌, false, slice_get, Option, Some, None, Result, Ok, Err, sym, ap, ◌∙◌, subst, refl, Reg, R0, R10, Size, Width, Value, TrapReason, size_bytes, width_size, Program, is_frame_pointer, reg, set_reg, and_then, load_number, store_number, base_of, swaps_in, atomic_number, store_number_keeps, Scalar, Kind, Number, Stack, Packet, MapValue, Has, Assigned, Allows, State, MeansBy, reg_allowed, MeansBy-set, kind_of, IfLeft, value_size, AreInValue}
use Rattle.isa_model.specs.declared.instructions.Place.{Place}
use Rattle.isa_model.specs.declared.values.Value.TheVariants as value
use Rattle.isa_model.specs.Machine.States as Machine
use Rattle.transfer.proofs.StackAccessLaws.{ContinuesIn, ContinuesIn-left, number_read, stored_left}
use Rattle.transfer.proofs.ValueLaws.{GoesIntoSome, value_stored, value_number_read}
use Rattle.transfer.specs.Atomics.{with_old, StackSwaps, ValueSwaps, SwapsAt, Swaps, ComparesIn, Compares}

-- ---- the old number

-- what the machine does with the old number
abbrev pub keep_old : Option Reg → ℕ → Machine.State → Machine.State
keep_old None old s = s
keep_old (Some r) old s = set_reg s r (value.Num old)

writable : (r : Reg) → is_frame_pointer (Some r) ≡ false → r ≢ R10
writable R10 h = absurd (cc)
writable r h = λ e. cc e

kept_goes : (p : Program) (e : Assigned) (register : Option Reg) (c : Scalar) (n : ℕ) (a : State)
    (went : Result Machine.State TrapReason)
    → is_frame_pointer register ≡ false → Has c n → ContinuesIn p e a went
    → ContinuesIn p e (with_old register c a) (and_then went (λ t. Ok (keep_old register n t)))
kept_goes p e register c n a (Err reason) own has h = absurd h
kept_goes p e None c n a (Ok t) own has h = h
kept_goes p e (Some r) c n a (Ok t) own has h =
    MeansBy-set p e a t r (Number c) (value.Num n) (writable r own) (n, refl, has) has.0.below h

-- ---- through a frame pointer

-- the same with the base written out
swapped_goes : (p : Program) (e : Assigned) (a : State) (s : Machine.State) (frame : ℕ) (z by : ℤ)
    (size : Size) (register : Option Reg) (b : State)
    (v : Value) (new : ℕ → ℕ) → MeansBy p e a s → is_frame_pointer register ≡ false
    → Allows e (Stack frame z) v → StackSwaps a frame (z +ℤ by) size register b (Ok tt)
    → ContinuesIn p e b
    (and_then (load_number s size v by)
    (λ old. and_then (store_number s size v by (new old)) (λ t. Ok (keep_old register old t))))
swapped_goes p e a s frame z by size register b v new m own allowed h =
    let (serial, found, is) = allowed in
    let (at, place, swapped) = h in
    let c : Scalar = swapped.old in
    let (n, read, has) =
    number_read p e a s frame at serial z by size c m found place swapped.loaded in
    let loaded : load_number s size v by ≡ Ok n = ap (λ x. load_number s size x by) is ∙ read in
    let stored : ContinuesIn p e swapped.after (store_number s size v by (new n)) =
    ContinuesIn-left p e swapped.after (store_number s size v by (new n))
    (subst (λ x. IfLeft p e swapped.after (store_number s size x by (new n))) (sym is)
    (stored_left p e a s frame at serial
    (new n) z by size swapped.after m found place swapped.stored))
    (store_number_keeps p s size v by (new n) m.is_state) in
    let kept = kept_goes p e register c n swapped.after
    (store_number s size v by (new n)) own has stored in
    subst (λ r. ContinuesIn p e b
    (and_then r
    (λ old.
    and_then (store_number s size v by (new old)) (λ t. Ok (keep_old register old t)))))
    (sym loaded)
    (subst (λ d.
    ContinuesIn p e d
    (and_then (store_number s size v by (new n)) (λ t. Ok (keep_old register n t))))
    (sym swapped.kept) kept)

pub stack_swap_goes : (p : Program) (e : Assigned) (a : State) (s : Machine.State) (frame : ℕ)
    (z : ℤ) (w : Width) (place : Place)
    (register : Option Reg) (b : State) (new : ℕ → ℕ) (keep : ℕ → Machine.State → Machine.State)
    → MeansBy p e a s
    → is_frame_pointer register ≡ false → Allows e (Stack frame z) (base_of s place)
    → keep ≡ keep_old register
    → StackSwaps a frame (z +ℤ place.offset) (width_size w) register b (Ok tt)
    → ContinuesIn p e b (swaps_in s w place new keep)
stack_swap_goes p e a s frame z w place register b new keep m own allowed same h =
    subst (λ k. ContinuesIn p e b (swaps_in s w place new k)) (sym same)
    (swapped_goes p e a s frame z place.offset (width_size w) register b
    (base_of s place) new m own allowed h)

-- ---- in a map's value

value_kept_goes : (p : Program) (register : Option Reg) (c : Scalar) (n : ℕ) (a : State)
    (went : Result Machine.State TrapReason)
    → is_frame_pointer register ≡ false → Has c n → GoesIntoSome p a went
    → GoesIntoSome p (with_old register c a) (and_then went (λ t. Ok (keep_old register n t)))
value_kept_goes p register c n a went own has (f, goes) =
    (f, kept_goes p f register c n a went own has goes)

-- the same with the base written out
value_swapped_goes : (p : Program) (e : Assigned) (a : State) (s : Machine.State) (j : ℕ)
    (least greatest by : ℤ) (size : Size) (register : Option Reg)
    (b : State) (v : Value) (new : ℕ → ℕ) → MeansBy p e a s → is_frame_pointer register ≡ false
    → Allows e (MapValue j least greatest) v → ValueSwaps
    (AreInValue (value_size (slice_get p.maps j)) least greatest by (size_bytes size)) a size
    register b (Ok tt)
    → GoesIntoSome p b
    (and_then (load_number s size v by)
    (λ old. and_then (store_number s size v by (new old)) (λ t. Ok (keep_old register old t))))
value_swapped_goes p e a s j least greatest by size register b v new m own allowed
    (inside, (old, is, left)) =
    let (n, loaded, has) =
    value_number_read p e a s size j least greatest by old v m inside allowed is in
    let stored = value_stored p e a s size j least greatest by (new n) v m inside allowed in
    let kept = value_kept_goes p register old n a
    (store_number s size v by (new n)) own has stored in
    subst (λ r. GoesIntoSome p b
    (and_then r
    (λ old.
    and_then (store_number s size v by (new old)) (λ t. Ok (keep_old register old t)))))
    (sym loaded)
    (subst (λ d.
    GoesIntoSome p d
    (and_then (store_number s size v by (new n)) (λ t. Ok (keep_old register n t))))
    (sym left) kept)

value_swap_goes : (p : Program) (e : Assigned) (a : State) (s : Machine.State) (j : ℕ)
    (least greatest : ℤ) (w : Width) (place : Place)
    (register : Option Reg) (b : State) (new : ℕ → ℕ) (keep : ℕ → Machine.State → Machine.State)
    → MeansBy p e a s
    → is_frame_pointer register ≡ false → Allows e (MapValue j least greatest) (base_of s place)
    → keep ≡ keep_old register → ValueSwaps
    (AreInValue (value_size (slice_get p.maps j)) least greatest place.offset
    (size_bytes (width_size w))) a (width_size w) register b (Ok tt)
    → GoesIntoSome p b (swaps_in s w place new keep)
value_swap_goes p e a s j least greatest w place register b new keep m own allowed same h =
    subst (λ k. GoesIntoSome p b (swaps_in s w place new k)) (sym same)
    (value_swapped_goes p e a s j least greatest place.offset (width_size w) register b
    (base_of s place) new m own allowed h)

-- ---- all places

-- through a kind that is not refused
at_goes : (p : Program) (e : Assigned) (a : State) (s : Machine.State) (base : Kind) (w : Width)
    (place : Place) (register : Option Reg) (b : State)
    (new : ℕ → ℕ) (keep : ℕ → Machine.State → Machine.State) → MeansBy p e a s
    → is_frame_pointer register ≡ false → Allows e base (base_of s place) → keep ≡ keep_old register
    → SwapsAt p.maps a base place.offset (width_size w) register b (Ok tt)
    → GoesIntoSome p b (swaps_in s w place new keep)
at_goes p e a s (Stack frame z) w place register b new keep m own allowed same h =
    (e, stack_swap_goes p e a s frame z w place register b new keep m own allowed same h)
at_goes p e a s (MapValue j least greatest) w place register b new keep m own allowed same h =
    value_swap_goes p e a s j least greatest w place register b new keep m own allowed same h
at_goes p e a s (Packet f i l g n) w place register b new keep m own allowed same h =
    let none = h.2.1 in absurd (cc)
at_goes p e a s k w place register b new keep m own allowed same h = let none = h.1 in absurd (cc)

number_there : (e : Assigned) (c : Scalar) (v : Value) → Allows e (Number c) v
    → (y : ℕ) × (atomic_number v ≡ Ok y)
number_there e c v h = (h.0, ap atomic_number h.1)

-- where an atomic instruction is not refused, the machine does not trap, and the state that is left
-- means its next state
pub swap_goes : (p : Program) (e : Assigned) (a : State) (s : Machine.State) (source base : Kind)
    (v : Value) (w : Width) (place : Place)
    (register : Option Reg) (b : State) (new : ℕ → ℕ → ℕ) (keep : ℕ → Machine.State → Machine.State)
    → MeansBy p e a s
    → is_frame_pointer register ≡ false → Allows e source v → Allows e base (base_of s place)
    → keep ≡ keep_old register
    → Swaps p.maps a source base place.offset (width_size w) register b (Ok tt)
    → GoesIntoSome p b (and_then (atomic_number v) (λ y. swaps_in s w place (new y) keep))
swap_goes p e a s (Number c) base v w place register b new keep m own operand allowed same h =
    let (y, is) = number_there e c v operand in
    subst (λ r. GoesIntoSome p b (and_then r (λ y. swaps_in s w place (new y) keep))) (sym is)
    (at_goes p e a s base w place register b (new y) keep m own allowed same h)
swap_goes p e a s k base v w place register b new keep m own operand allowed same h =
    let none = h.1 in absurd (cc)

compared_goes : (p : Program) (e : Assigned) (a : State) (s : Machine.State)
    (expected source base : Kind) (u v : Value) (w : Width) (place : Place)
    (b : State) (new : ℕ → ℕ → ℕ → ℕ) (keep : ℕ → Machine.State → Machine.State) → MeansBy p e a s
    → Allows e expected u → Allows e source v → Allows e base (base_of s place)
    → keep ≡ keep_old (Some R0)
    → ComparesIn p.maps a expected source base place.offset (width_size w) b (Ok tt)
    → GoesIntoSome p b
    (and_then (atomic_number v)
    (λ y. and_then (atomic_number u) (λ x. swaps_in s w place (new y x) keep)))
compared_goes p e a s (Number d) source base u v w place b new keep m left operand allowed same h =
    let (x, is) = number_there e d u left in
    subst (λ r. GoesIntoSome p b
    (and_then (atomic_number v) (λ y. and_then r (λ x. swaps_in s w place (new y x) keep))))
    (sym is)
    (swap_goes p e a s source base v w place (Some R0) b
    (λ y. new y x) keep m refl operand allowed same h)
compared_goes p e a s k source base u v w place b new keep m left operand allowed same h =
    let none = h.1 in absurd (cc)

-- CMPXCHG
pub compare_and_swap_goes : (p : Program) (e : Assigned) (a : State) (s : Machine.State)
    (source base : Kind) (v : Value) (w : Width) (place : Place)
    (b : State) (new : ℕ → ℕ → ℕ → ℕ) (keep : ℕ → Machine.State → Machine.State) → MeansBy p e a s
    → Allows e source v → Allows e base (base_of s place) → keep ≡ keep_old (Some R0)
    → Compares p.maps a source base place.offset (width_size w) b (Ok tt) → GoesIntoSome p b
    (and_then (atomic_number v)
    (λ y. and_then (atomic_number (reg s R0)) (λ x. swaps_in s w place (new y x) keep)))
compare_and_swap_goes p e a s source base v w place b new keep m operand allowed same h =
    compared_goes p e a s (kind_of a R0) source base (reg s R0) v w place b new keep m
    (reg_allowed p e a s m R0) operand allowed same h
