-- Each value that the machine computes is allowed by the kind that the step computes.
use Rattle.transfer.proofs.Common.{◌≡◌, ℕ, ◌≤◌, ℤ, Bool, true, false, nat_le, unsigned_abs, if◌then◌else◌, slice_get, Option, Some, None, Result, Ok, Err, arith, refl, nat_tests, Value, TrapReason, offset_limit, pointer_at, moved_to, on_number, Program, Scalar, Kind, Number, Stack, Has, Assigned, Allows, IsNumber-only, State, MeansBy, PointerOffset, OfNumber, moved_offset, LeavesNumber, moved_frame}
use Rattle.isa_model.specs.declared.values.Region.{Region}
use Rattle.isa_model.specs.declared.values.Region.TheVariants as region
use Rattle.isa_model.specs.declared.values.Value.TheVariants as value
use Rattle.isa_model.specs.Machine.States as Machine

-- the value is there, and the kind allows it
abbrev pub Yields : Assigned → Kind → Result Value TrapReason → Type 0
Yields e k (Ok v) = Allows e k v
Yields e k (Err reason) = ⊥

-- under some assignment the state means what it did, and the kind allows the value
abbrev pub YieldsUnder : Program → State → Machine.State → Kind → Result Value TrapReason → Type 0
YieldsUnder p a s k result = (f : Assigned) × MeansBy p f a s × Yields f k result

-- ---- numbers

-- where a number is known to be computed
abbrev pub Computes : (ℕ → ℕ) → (Scalar → Scalar → Type 0) → Type 0
Computes f says = (a c : Scalar) → says a c → (x : ℕ) → Has a x → Has c (f x)

pub on_number_yields : (e : Assigned) (f : ℕ → ℕ) (says : Scalar → Scalar → Type 0) (a k : Kind)
    (v : Value)
    → Computes f says → OfNumber says a (Ok k) → Allows e a v → Yields e k (on_number f v)
on_number_yields e f says (Number a) (Number c) v computes h allowed =
    let (x, is, member) = allowed in
    rw is (f x, refl, computes a c h x member)
on_number_yields e f says (Number a) k v computes h allowed = absurd h
on_number_yields e f says a k v computes h allowed = absurd (cc)

-- ---- pointers

-- an offset within the limit
pub pointer_at_within : (r : Region) (z : ℤ) → unsigned_abs z ≤ offset_limit
    → pointer_at r z ≡ Ok (value.Ptr r z)
pointer_at_within r z within =
    let yes : nat_le (unsigned_abs z) offset_limit ≡ true = grind (arith, nat_tests) in rw yes refl

-- where a pointer is left, it is there and within the limit
frame_there : (frame : ℕ) (z : ℤ) (k : Kind) (b : Bool) → nat_le (unsigned_abs z) offset_limit ≡ b
    → Ok k ≡ (if b then Ok (Stack frame z) else Err PointerOffset)
    → (k ≡ Stack frame z) × (unsigned_abs z ≤ offset_limit)
frame_there frame z k true test is = (cc, grind (arith, nat_tests))
frame_there frame z k false test is = absurd (cc)

pub frame_moves : (e : Assigned) (back : Bool) (frame : ℕ) (offset : ℤ) (by : Scalar) (k : Kind)
    (x n : ℕ) (o : Option ℕ) → LeavesNumber by o → Has by x
    → Ok k ≡ moved_frame back frame offset o → slice_get e.frames frame ≡ Some n
    → Yields e k (moved_to (region.CallFrame n) (moved_offset back offset x))
frame_moves e back frame offset by k x n (Some m) only member h found =
    let to : ℤ = moved_offset back offset m in
    let (is, within) = frame_there frame to k (nat_le (unsigned_abs to) offset_limit) refl h in
    let there = pointer_at_within (region.CallFrame n) to within in
    rw (IsNumber-only by m x only member, there, is) (n, found, refl)
frame_moves e back frame offset by k x n None only member h found = absurd (cc)

-- ---- numbers of 32 bits
