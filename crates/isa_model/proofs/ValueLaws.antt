-- Laws of values: the results of arithmetic, loads and stores are values and cells that fit.
use Rattle.isa_model.proofs.Common.{◌≡◌, ℕ, zero, suc, ◌+◌, ◌^◌, ◌<◌, ◌≤◌, ◌+ℤ◌, ◌-ℤ◌, Bool, true, false, nat_le, if◌then◌else◌, ℤ, unsigned_abs, List, [], ◌∷◌, ◌++◌, map, take, drop, length, All, Result, Ok, Err, IfOk, arith, length-append, length-drop, refl, list_any, list_all, splice, ints, nat_tests, length-take-le, All-head, All-tail, All-append, All-take, All-drop, All-map, All-weaker, All-from_recursion, Width, Low32, Full64, Size, Add, Sub, Mov, Region, Value, Unset, Num, Ptr, Cell, Unwritten, Byte, Piece, TrapReason, UnsetRead, BadPointer, OutOfRange, BadAccess, size_bytes, signed, unsigned, bytes_of, number_from, offset_limit, and_then, is_unwritten, is_byte, byte_in, number_of, pieces, are_pieces, pointer_in, number_in, value_in, AreBytes, IsOffset, IsRegion, IsValue, IsCell}
use Rattle.std.specs.Int.{w32, w64, to_le_bytes}
use Rattle.std.specs.Int.RustNames.{FitsSigned}
use Rattle.isa_model.specs.declared.instructions.AluOp.{AluOp}
use Rattle.isa_model.specs.declared.values.Region.TheVariants as region
use Rattle.isa_model.proofs.NumberLaws.{alu_fits, low_below, width_fits}
use Rattle.isa_model.specs.Machine.Pointers.{can_move, pointer_at, moved_to, pointer_and_number, number_and_pointer, moved, combined, arithmetic, on_number}
use Rattle.isa_model.specs.Code.EachByte.{EachByte}

-- ---- results

-- if P holds of a result, and Q of what comes after any result that has P, Q holds of what comes
-- after this one
pub IfOk-and_then : {A B : Type 0} (P : A → Type 0) (Q : B → Type 0) (r : Result A TrapReason)
    (go : A → Result B TrapReason)
    → IfOk r P → ((a : A) → P a → IfOk (go a) Q) → IfOk (and_then r go) Q
IfOk-and_then P Q (Ok a) go h k = k a h
IfOk-and_then P Q (Err e) go h k = tt

-- Q holds of what comes after a result if it does after any result
pub IfOk-then : {A B : Type 0} (Q : B → Type 0) (r : Result A TrapReason)
    (go : A → Result B TrapReason)
    → ((a : A) → IfOk (go a) Q) → IfOk (and_then r go) Q
IfOk-then Q (Ok a) go h = h a
IfOk-then Q (Err e) go h = tt

-- a test before a result
pub IfOk-if : {A : Type 0} (P : A → Type 0) (b : Bool) (x y : Result A TrapReason)
    → (b ≡ true → IfOk x P) → (b ≡ false → IfOk y P) → IfOk (if b then x else y) P
IfOk-if P true x y h k = h refl
IfOk-if P false x y h k = k refl

-- ---- more serials

pub IsRegion-more : (count next more : ℕ) (r : Region) → next ≤ more → IsRegion count next r
    → IsRegion count more r
IsRegion-more count next more region.Context le h = tt
IsRegion-more count next more region.Packet le h = tt
IsRegion-more count next more region.PacketEnd le h = tt
IsRegion-more count next more (region.Map m) le h = h
IsRegion-more count next more (region.CallFrame n) le h = omega arith
IsRegion-more count next more (region.MapValue m n) le h = (h.0, omega arith)

pub IsValue-more : (count next more : ℕ) (v : Value) → next ≤ more → IsValue count next v
    → IsValue count more v
IsValue-more count next more Unset le h = tt
IsValue-more count next more (Num n) le h = h
IsValue-more count next more (Ptr r z) le h = (IsRegion-more count next more r le h.0, h.1)

pub IsCell-more : (count next more : ℕ) (c : Cell) → next ≤ more → IsCell count next c
    → IsCell count more c
IsCell-more count next more Unwritten le h = tt
IsCell-more count next more (Byte b) le h = h
IsCell-more count next more (Piece r z k) le h = (IsRegion-more count next more r le h.0, h.1, h.2)

-- ---- numbers

-- a constant, sign-extended to a width
pub unsigned_fits : (w : Width) (k : ℤ) → FitsSigned w32 k → unsigned w k < 2 ^ 64
unsigned_fits Low32 k h = omega (arith, ints)
unsigned_fits Full64 k h = omega (arith, ints)

-- eight bytes spell a number that fits a register
pub number_from_fits : (bytes : List ℕ) → EachByte bytes → number_from bytes < 2 ^ 64
number_from_fits bytes h =
    let h0 = h 0 in
    let h1 = h 1 in
    let h2 = h 2 in
    let h3 = h 3 in
    let h4 = h 4 in
    let h5 = h 5 in
    let h6 = h 6 in
    let h7 = h 7 in
    omega arith

-- ---- arithmetic

pub pointer_at_fits : (count next : ℕ) (r : Region) (z : ℤ) → IsRegion count next r
    → IfOk (pointer_at r z) (IsValue count next)
pointer_at_fits count next r z h =
    IfOk-if (IsValue count next) (nat_le (unsigned_abs z) offset_limit) (Ok (Ptr r z))
    (Err OutOfRange)
    (λ within. (h, grind (arith, nat_tests))) (λ out. tt)

pub moved_to_fits : (count next : ℕ) (r : Region) (z : ℤ) → IsRegion count next r
    → IfOk (moved_to r z) (IsValue count next)
moved_to_fits count next r z h =
    IfOk-if (IsValue count next) (can_move r) (pointer_at r z) (Err BadPointer)
    (λ can. pointer_at_fits count next r z h) (λ stays. tt)

pub pointer_and_number_fits : (count next : ℕ) (op : AluOp) (w : Width) (r : Region) (z : ℤ) (n : ℕ)
    → IsRegion count next r
    → IfOk (pointer_and_number op w r z n) (IsValue count next)
pointer_and_number_fits count next Add Full64 r z n h =
    moved_to_fits count next r (z +ℤ signed Full64 n) h
pointer_and_number_fits count next Sub Full64 r z n h =
    moved_to_fits count next r (z -ℤ signed Full64 n) h
pointer_and_number_fits count next Add Low32 r z n h = tt
pointer_and_number_fits count next Sub Low32 r z n h = tt
pointer_and_number_fits count next op w r z n h = tt

pub number_and_pointer_fits : (count next : ℕ) (op : AluOp) (w : Width) (n : ℕ) (r : Region) (z : ℤ)
    → IsRegion count next r
    → IfOk (number_and_pointer op w n r z) (IsValue count next)
number_and_pointer_fits count next Add Full64 n r z h =
    moved_to_fits count next r (z +ℤ signed Full64 n) h
number_and_pointer_fits count next Add Low32 n r z h = tt
number_and_pointer_fits count next op w n r z h = tt

pub moved_fits : (count next : ℕ) (w : Width) (v : Value) → IsValue count next v
    → IfOk (moved w v) (IsValue count next)
moved_fits count next w (Num n) h = let l = low_below w n in let m = width_fits w in omega arith
moved_fits count next Full64 (Ptr r z) h = h
moved_fits count next Low32 (Ptr r z) h = tt
moved_fits count next Low32 Unset h = tt
moved_fits count next Full64 Unset h = tt

pub combined_fits : (count next : ℕ) (op : AluOp) (w : Width) (a b : Value) → IsValue count next a
    → IsValue count next b
    → IfOk (combined op w a b) (IsValue count next)
combined_fits count next op w (Num a) (Num b) h k = alu_fits op w a b
combined_fits count next op w (Ptr r z) (Num n) h k =
    pointer_and_number_fits count next op w r z n h.0
combined_fits count next op w (Num n) (Ptr r z) h k =
    number_and_pointer_fits count next op w n r z k.0
combined_fits count next op w (Ptr r z) (Ptr q y) h k = tt
combined_fits count next op w Unset b h k = tt
combined_fits count next op w (Num a) Unset h k = tt
combined_fits count next op w (Ptr r z) Unset h k = tt

pub arithmetic_fits : (count next : ℕ) (op : AluOp) (w : Width) (a b : Value) → IsValue count next a
    → IsValue count next b
    → IfOk (arithmetic op w a b) (IsValue count next)
arithmetic_fits count next Mov w a b h k = moved_fits count next w b k
arithmetic_fits count next op w a b h k = combined_fits count next op w a b h k

pub on_number_fits : (count next : ℕ) (f : ℕ → ℕ) (v : Value) → ((n : ℕ) → f n < 2 ^ 64)
    → IfOk (on_number f v) (IsValue count next)
on_number_fits count next f (Num n) h = h n
on_number_fits count next f (Ptr r z) h = tt
on_number_fits count next f Unset h = tt

-- ---- cells

-- the byte of a number byte, and 0 for any other cell
pub byte_in_fits : (count next : ℕ) (c : Cell) → IsCell count next c → byte_in c < 256
byte_in_fits count next Unwritten h = omega arith
byte_in_fits count next (Byte b) h = h
byte_in_fits count next (Piece r z k) h = omega arith

pub bytes_in_fit : (count next : ℕ) (cs : List Cell) → All (IsCell count next) cs
    → AreBytes (map byte_in cs)
bytes_in_fit count next cs h =
    All-map (λ b. b < 256) byte_in cs
    (All-weaker (IsCell count next) (λ c. byte_in c < 256) (byte_in_fits count next) cs h)

-- bytes as cells
pub Byte_cells_fit : (count next : ℕ) (bytes : List ℕ) → AreBytes bytes
    → All (IsCell count next) (map Byte bytes)
Byte_cells_fit count next bytes h = All-map (IsCell count next) Byte bytes h

-- bytes by their index
pub slice_index_fits : (bytes : List ℕ) → AreBytes bytes → EachByte bytes
slice_index_fits [] h i = omega arith
slice_index_fits (b ∷ bytes) h zero = All-head (λ b. b < 256) b bytes h
slice_index_fits (b ∷ bytes) h (suc i) =
    slice_index_fits bytes (All-tail (λ b. b < 256) b bytes h) i

pub number_of_fits : (count next : ℕ) (cs : List Cell) → All (IsCell count next) cs
    → number_of cs < 2 ^ 64
number_of_fits count next cs h = number_from_fits (map byte_in cs)
    (slice_index_fits (map byte_in cs) (bytes_in_fit count next cs h))

pub number_in_fits : (count next : ℕ) (cs : List Cell) → All (IsCell count next) cs
    → IfOk (number_in cs) (λ n. n < 2 ^ 64)
number_in_fits count next cs h =
    IfOk-if (λ n. n < 2 ^ 64) (list_any is_unwritten cs) (Err UnsetRead) _ (λ unwritten. tt)
    (λ written. IfOk-if (λ n. n < 2 ^ 64) (list_all is_byte cs) (Ok (number_of cs)) (Err BadAccess)
    (λ all. number_of_fits count next cs h) (λ some. tt))

pub pointer_in_fits : (count next : ℕ) (cs : List Cell) → All (IsCell count next) cs
    → IfOk (pointer_in cs) (IsValue count next)
pointer_in_fits count next [] h = tt
pointer_in_fits count next (Unwritten ∷ cs) h = tt
pointer_in_fits count next (Byte b ∷ cs) h = tt
pointer_in_fits count next (Piece r z k ∷ cs) h =
    let piece = All-head (IsCell count next) (Piece r z k) cs h in
    IfOk-if (IsValue count next) (are_pieces r z (Piece r z k ∷ cs)) (Ok (Ptr r z)) (Err BadAccess)
    (λ whole. (piece.0, piece.1)) (λ other. tt)

pub value_in_fits : (count next : ℕ) (cs : List Cell) → All (IsCell count next) cs
    → IfOk (value_in cs) (IsValue count next)
value_in_fits count next cs h =
    IfOk-if (IsValue count next) (list_any is_unwritten cs) (Err UnsetRead) _ (λ unwritten. tt)
    (λ written. IfOk-if (IsValue count next) (list_all is_byte cs) (Ok (Num (number_of cs)))
    (pointer_in cs)
    (λ all. number_of_fits count next cs h) (λ some. pointer_in_fits count next cs h))

-- the eight pieces of a pointer
pub pieces_fit : (count next : ℕ) (r : Region) (z : ℤ) → IsRegion count next r → IsOffset z
    → All (IsCell count next) (pieces r z)
pieces_fit count next r z h k =
    let P : Cell → Type 0 = IsCell count next in
    All-from_recursion P (pieces r z) (
      (h, k, omega arith),
      (
        (h, k, omega arith),
        (
          (h, k, omega arith),
          (
            (h, k, omega arith),
            (
              (h, k, omega arith),
              ((h, k, omega arith), ((h, k, omega arith), ((h, k, omega arith), tt))),
            ),
          ),
        ),
      ),
    )

-- the low bytes of any number
pub bytes_of_fit : (size : Size) (n : ℕ) → AreBytes (bytes_of size n)
bytes_of_fit size n =
    All-take (λ b. b < 256) (size_bytes size) (to_le_bytes w64 n)
    (All-from_recursion (λ b. b < 256) (to_le_bytes w64 n) (
      omega arith,
      (
        omega arith,
        (
          omega arith,
          (omega arith, (omega arith, (omega arith, (omega arith, (omega arith, tt))))),
        ),
      ),
    ))

-- ---- lists of bytes and cells, of which some are replaced

-- a splice that puts in as many elements as it takes out keeps the length
pub length-splice : {A : Type 0} (xs new : List A) (i : ℕ) → i + length new ≤ length xs
    → length (splice xs i (i + length new) new) ≡ length xs
length-splice xs new i h =
    let front = length-take-le i xs (omega arith) in
    let back = length-drop (i + length new) xs in
    let outer = length-append (take i xs) (new ++ drop (i + length new) xs) in
    let inner = length-append new (drop (i + length new) xs) in
    omega arith

pub All-splice : {A : Type 0} (P : A → Type 0) (xs new : List A) (i j : ℕ) → All P xs → All P new
    → All P (splice xs i j new)
All-splice P xs new i j h k =
    All-append P (take i xs) (new ++ drop j xs) (All-take P i xs h)
    (All-append P new (drop j xs) k (All-drop P j xs h))
