-- Laws of reads that a buffer serves, and of bytes that were read ahead.
use Rattle.frames.proofs.Common.{◌≡◌, ℕ, ◌+◌, ◌-◌, ◌≤◌, ◌==◌, Bool, true, false, if◌then◌else◌, List, [], ◌++◌, length, take, drop, slice_range, Option, Some, None, refl, sym, ap, ◌∙◌, subst, append_assoc, arith, drop-take, reader_buffer, reader_capacity, reader_inner, reader_remaining, Consumes, prepend_known}
use Rattle.std.specs.declared.alloc.Global.{Global}
use Rattle.std.specs.declared.io.buffered.BufReader.{BufReader}
use lib.ListN.{take-append-drop}
use lib.Seq.{drop-drop}

-- the first of these bytes are consumed
pub Consumes-prepended : (held given left : List ℕ) (rest : Option (List ℕ)) → held ≡ given ++ left
    → Consumes (prepend_known held rest) (prepend_known left rest) given
Consumes-prepended held given left None split = tt
Consumes-prepended held given left (Some bytes) split =
    ap (λ (l : List ℕ). l ++ bytes) split ∙ append_assoc given left bytes

-- the same of a buffer, of which nothing is known where it has no room
consumes_front : (none : Bool) (held : List ℕ) (rest : Option (List ℕ)) (size : ℕ)
    → Consumes (if none then None else prepend_known held rest)
    (if none then None else prepend_known (drop size held) rest) (take size held)
consumes_front true held rest size = tt
consumes_front false held rest size =
    Consumes-prepended held (take size held) (drop size held) rest
    (sym (take-append-drop size held))

-- a buffered reader gives the front of its buffer
pub reader_consumes : {R : Type 0} (remaining : R → Option (List ℕ)) (old new : BufReader R Global)
    (size : ℕ) (given : List ℕ) → given ≡ take size (reader_buffer old)
    → reader_buffer new ≡ drop size (reader_buffer old) → reader_inner new ≡ reader_inner old
    → reader_capacity new ≡ reader_capacity old
    → Consumes (reader_remaining remaining old) (reader_remaining remaining new) given
reader_consumes remaining old new size given given_is buffer_is inner_is capacity_is =
    let was = reader_remaining remaining old in
    let front = consumes_front (reader_capacity old == 0) (reader_buffer old)
    (remaining (reader_inner old)) size in
    let inner = subst
    (λ (r : Option (List ℕ)). Consumes was (if reader_capacity old == 0 then None
    else prepend_known (drop size (reader_buffer old)) r) (take size (reader_buffer old)))
    (ap remaining (sym inner_is)) front in
    let buffer = subst
    (λ (l : List ℕ). Consumes was (if reader_capacity old == 0 then None
    else prepend_known l (remaining (reader_inner new))) (take size (reader_buffer old)))
    (sym buffer_is) inner in
    let capacity = subst
    (λ (n : ℕ). Consumes was (if n == 0 then None
    else prepend_known (reader_buffer new) (remaining (reader_inner new)))
    (take size (reader_buffer old))) (sym capacity_is) buffer in
    subst (Consumes was (reader_remaining remaining new)) (sym given_is) capacity

-- where all bytes that were read ahead are read again, the others are left
pub none_ahead : (front : List ℕ) (given count : ℕ) (rest : Option (List ℕ)) → given ≡ count
    → prepend_known (slice_range front given count) rest ≡ rest
none_ahead front given count rest all = known_rest rest
  where
    nothing : slice_range front given count ≡ []
    nothing =
        let zero : count - given ≡ 0 = omega arith in
        ap (λ (n : ℕ). take n (drop given front)) zero

    known_rest : (rest : Option (List ℕ))
        → prepend_known (slice_range front given count) rest ≡ rest
    known_rest None = refl
    known_rest (Some bytes) = ap (λ (l : List ℕ). Some (l ++ bytes)) nothing

-- the bytes that are left when some that were read ahead are read again
pub less_ahead : (front : List ℕ) (given size count : ℕ) → given + size ≤ count
    → drop size (slice_range front given count) ≡ slice_range front (given + size) count
less_ahead front given size count within =
    let long : count - given ≡ size + (count - (given + size)) = omega arith in
    ap (λ (n : ℕ). drop size (take n (drop given front))) long
    ∙ drop-take size (count - (given + size)) (drop given front)
    ∙ ap (take (count - (given + size))) (drop-drop size given front)
