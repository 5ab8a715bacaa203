-- Call frames are read from their spelling, whatever follows.
use Rattle.proof_table.proofs.Common.{◌≡◌, ℕ, zero, suc, ◌+◌, ◌<◌, nat_lt, Bool, true, false, List, [], ◌∷◌, ◌++◌, length, get_or, Some, Ok, ap, ◌∙◌, subst, append_assoc, length-append, arith, flat_map, le-ltb, little_bytes, little_number, little_number-reads_back, AbstractFrame, frame_slots, Read, then_read, joined, many, kind_bytes, stack_slot_bytes, frame_bytes, KindFits, StackSlotFits, FrameFits}
use Rattle.std.specs.Prelude.{refl}
use Rattle.table_entries.specs.Kinds.{kind_in, stack_slot_in}
use Rattle.table_entries.specs.Frames.{frame_in, callers_in}
use Rattle.proof_table.proofs.KindLaws.{kind_in-reads, stack_slot_in-reads}

-- what is spelled one after the other is read one after the other, from the k-th on
pub many-reads : {X : Type 0} (one : ℕ → List ℕ → Read X) (spell : X → List ℕ) (P : ℕ → X → Type 0)
    → ((k : ℕ) (x : X) (rest : List ℕ) → P k x → one k (spell x ++ rest) ≡ Ok (Some x, rest))
    → (xs : List X) (n k : ℕ) (rest : List ℕ) → length xs ≡ n
    → ((j : ℕ) (d : X) → j < length xs → P (k + j) (get_or xs j d))
    → many one n k (flat_map spell xs ++ rest) ≡ Ok (Some xs, rest)
unfolding many
many-reads one spell P reads [] zero k rest size each = refl
many-reads one spell P reads [] (suc n) k rest size each = absurd (omega arith)
many-reads one spell P reads (x ∷ xs) zero k rest size each = absurd (omega arith)
many-reads {X} one spell P reads (x ∷ xs) (suc n) k rest size each =
    let behind = flat_map spell xs ++ rest in
    let at_front : flat_map spell (x ∷ xs) ++ rest ≡ spell x ++ behind =
    append_assoc (spell x) (flat_map spell xs) rest in
    let first : P k x = subst (λ (m : ℕ). P m x) (omega arith) (each 0 x (omega arith)) in
    let others : many one n (k + 1) behind ≡ Ok (Some xs, rest) =
    many-reads one spell P reads xs n (k + 1) rest (omega arith)
    (λ j d less. subst (λ (m : ℕ). P m (get_or xs j d)) (omega arith)
    (each (suc j) d (omega arith))) in
    ap (many one (suc n) k) at_front
    ∙ ap (λ (r : Read X). then_read r
    (λ y more. then_read (many one n (k + 1) more) (λ ys after. Ok (joined y ys, after))))
    (reads k x behind first)
    ∙ ap (λ (r : Read (List X)). then_read r (λ ys after. Ok (joined (Some x) ys, after))) others

-- the bytes of a call frame in three parts
frame_parts : (f : AbstractFrame) (rest : List ℕ)
    → frame_bytes f ++ rest
    ≡ little_bytes 2 f.return_slot
    ++ (flat_map kind_bytes f.registers ++ (flat_map stack_slot_bytes f.stack.slots ++ rest))
unfolding frame_bytes
frame_parts f rest = simp append_assoc

frame_read : (rows holder : ℕ) (outer : Bool) (f : AbstractFrame) (rest : List ℕ)
    → FrameFits rows holder outer f
    → frame_in rows holder outer
    (little_bytes 2 f.return_slot
    ++ (flat_map kind_bytes f.registers ++ (flat_map stack_slot_bytes f.stack.slots ++ rest)))
    ≡ Ok (Some f, rest)
unfolding frame_in
frame_read rows holder outer f rest h =
    let last = flat_map stack_slot_bytes f.stack.slots ++ rest in
    let middle = flat_map kind_bytes f.registers ++ last in
    let bytes = little_bytes 2 f.return_slot ++ middle in
    let long : nat_lt (length bytes) 2 ≡ false =
    le-ltb (length bytes) 2
    (omega (arith, length-append (little_bytes 2 f.return_slot) middle)) in
    let first : many (λ k. kind_in rows holder) 10 0 middle ≡ Ok (Some f.registers, last) =
    many-reads (λ k. kind_in rows holder) kind_bytes (λ k. KindFits rows holder)
    (λ k. kind_in-reads rows holder) f.registers 10 0 last h.ten h.registers in
    let second : many (λ k. stack_slot_in rows holder) frame_slots 0 last
    ≡ Ok (Some f.stack.slots, rest) =
    many-reads (λ k. stack_slot_in rows holder) stack_slot_bytes (λ k. StackSlotFits rows holder)
    (λ k. stack_slot_in-reads rows holder) f.stack.slots frame_slots 0 rest h.all_slots h.slots in
    let slot : little_number 2 bytes ≡ f.return_slot =
    little_number-reads_back 2 f.return_slot middle h.return_slot in
    rw (long, first, second, slot, h.allowed) refl

pub frame_in-reads : (rows holder : ℕ) (outer : Bool) (f : AbstractFrame) (rest : List ℕ)
    → FrameFits rows holder outer f
    → frame_in rows holder outer (frame_bytes f ++ rest) ≡ Ok (Some f, rest)
frame_in-reads rows holder outer f rest h =
    ap (frame_in rows holder outer) (frame_parts f rest) ∙ frame_read rows holder outer f rest h

-- outer call frames
pub callers_in-reads : (rows n : ℕ) (callers : List AbstractFrame) (rest : List ℕ)
    → length callers ≡ n
    → ((k : ℕ) (d : AbstractFrame) → k < length callers
    → FrameFits rows k true (get_or callers k d))
    → callers_in rows n (flat_map frame_bytes callers ++ rest) ≡ Ok (Some callers, rest)
callers_in-reads rows n callers rest size each =
    many-reads (λ holder. frame_in rows holder true) frame_bytes
    (λ holder. FrameFits rows holder true)
    (λ holder. frame_in-reads rows holder true) callers n 0 rest size
    (λ j d less. subst (λ (m : ℕ). FrameFits rows m true (get_or callers j d)) (omega arith)
    (each j d less))
