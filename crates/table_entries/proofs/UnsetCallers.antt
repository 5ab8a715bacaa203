-- Outer call frames whose first six kinds are unset: they are read as innermost ones are.
use Rattle.table_entries.proofs.Common.{◌≡◌, ℕ, zero, suc, ◌+◌, ◌<◌, ◌≤◌, nat_lt, Bool, true, false, if◌then◌else◌, List, [], ◌∷◌, length, drop, Option, Some, None, Ok, Err, ap, subst, sym, arith, refl, little_number, Kind, Unset, StackSlot, AbstractFrame, frame_slots, Short, AreZeros, Read, then_read, joined, many, kind_in, fields_in, stack_slot_in, allowed_frame, frame_in}
use Rattle.stack_state.specs.Meaning.{kind_at}

-- the first j kinds that were read are unset
abbrev AreUnset : ℕ → Option (List Kind) → Type 0
AreUnset j None = Unit {0}
AreUnset j (Some kinds) = (i : ℕ) → i < j → kind_at kinds i ≡ Unset

abbrev FirstUnset : ℕ → Read (List Kind) → Type 0
FirstUnset j (Ok x) = AreUnset j x.0
FirstUnset j (Err stop) = Unit {0}

unset_front : (j : ℕ) (kinds : List Kind) → ((i : ℕ) → i < j → kind_at kinds i ≡ Unset) → (i : ℕ)
    → i < suc j → kind_at (Unset ∷ kinds) i ≡ Unset
unset_front j kinds each zero lt = refl
unset_front j kinds each (suc i) lt = each i (omega arith)

unset_joined : (j : ℕ) (kinds : Option (List Kind)) → AreUnset j kinds
    → AreUnset (suc j) (joined (Some Unset) kinds)
unset_joined j None each = tt
unset_joined j (Some kinds) each = unset_front j kinds each

unset_then : (j : ℕ) (r : Read (List Kind)) → FirstUnset j r
    → FirstUnset (suc j) (then_read r (λ others after. Ok (joined (Some Unset) others, after)))
unset_then j (Ok x) each = unset_joined j x.0 each
unset_then j (Err stop) each = tt

none_unset : (kinds : Option (List Kind)) → AreUnset 0 kinds
none_unset None = tt
none_unset (Some kinds) = λ i lt. absurd (omega arith)

none_first : (r : Read (List Kind)) → FirstUnset 0 r
none_first (Ok x) = none_unset x.0
none_first (Err stop) = tt

zeros_after : (j b : ℕ) (rest : List ℕ) → AreZeros (suc j) (b ∷ rest) → AreZeros j rest
zeros_after j b rest z =
    record {
      inside = let a = z.inside in omega arith;
      zeros = λ k lt. z.zeros (suc k)
          (omega arith);
    }

unset_read : (rows holder m k : ℕ) (rest : List ℕ)
    → many (λ k. kind_in rows holder) (suc m) k (0 ∷ rest)
    ≡ then_read (many (λ k. kind_in rows holder) m (k + 1) rest)
    (λ others after. Ok (joined (Some Unset) others, after))
unfolding many kind_in fields_in
unset_read rows holder m k rest = refl

zeros_unset : (rows holder j n k : ℕ) (bytes : List ℕ) → j ≤ n → AreZeros j bytes
    → FirstUnset j (many (λ k. kind_in rows holder) n k bytes)
zeros_unset rows holder zero n k bytes le z = none_first (many (λ k. kind_in rows holder) n k bytes)
zeros_unset rows holder (suc j) zero k bytes le z = absurd (omega arith)
zeros_unset rows holder (suc j) (suc m) k [] le z = let a = z.inside in absurd (omega arith)
zeros_unset rows holder (suc j) (suc m) k (b ∷ rest) le z =
    let zero_first : b ≡ 0 = z.zeros 0 (omega arith) in
    let others : FirstUnset j (many (λ k. kind_in rows holder) m (k + 1) rest) =
    zeros_unset rows holder j m (k + 1) rest (omega arith) (zeros_after j b rest z) in
    let all : FirstUnset (suc j) (many (λ k. kind_in rows holder) (suc m) k (0 ∷ rest)) =
    subst (FirstUnset (suc j)) (sym (unset_read rows holder m k rest))
    (unset_then j (many (λ k. kind_in rows holder) m (k + 1) rest) others) in
    subst (λ (x : ℕ). FirstUnset (suc j) (many (λ k. kind_in rows holder) (suc m) k (x ∷ rest)))
    (sym zero_first) all

frame_same : (holder return_slot : ℕ) (kinds : Option (List Kind)) (slots : Option (List StackSlot))
    → AreUnset 6 kinds
    → allowed_frame holder true return_slot kinds slots
    ≡ allowed_frame holder false return_slot kinds slots
frame_same holder return_slot None slots each = refl
frame_same holder return_slot (Some kinds) None each = refl
frame_same holder return_slot (Some kinds) (Some slots) each =
    rw (
      each 0 (omega arith),
      each 1 (omega arith),
      each 2 (omega arith),
      each 3
          (omega arith),
      each 4 (omega arith),
      each 5 (omega arith),
    ) refl

then_same : {X Y : Type 0} (r : Read X) (f g : Option X → List ℕ → Read Y)
    → ((x : Option X) (rest : List ℕ) → r ≡ Ok (x, rest) → f x rest ≡ g x rest)
    → then_read r f ≡ then_read r g
then_same (Ok x) f g each = each x.0 x.1 refl
then_same (Err stop) f g each = refl

abbrev then_stack_slots : ℕ → ℕ → Bool → ℕ → Option (List Kind) → List ℕ → Read AbstractFrame
then_stack_slots rows holder outer leads kinds rest =
    then_read (many (λ k. stack_slot_in rows holder) frame_slots 0 rest)
    (λ slots after. Ok (allowed_frame holder outer leads kinds slots, after))

pub unset_outer : (rows holder : ℕ) (bytes : List ℕ) → AreZeros 6 (drop 2 bytes)
    → frame_in rows holder true bytes ≡ frame_in rows holder false bytes
unfolding frame_in
unset_outer rows holder bytes z =
    let leads = little_number 2 bytes in
    let kinds : Read (List Kind) = many (λ k. kind_in rows holder) 10 0 (drop 2 bytes) in
    let unset : FirstUnset 6 kinds =
    zeros_unset rows holder 6 10 0 (drop 2 bytes) (omega arith) z in
    ap (λ (r : Read AbstractFrame). if nat_lt (length bytes) 2 then Err Short else r)
    (then_same kinds (then_stack_slots rows holder true leads)
    (then_stack_slots rows holder false leads)
    (λ ks rest read.
    then_same (many (λ k. stack_slot_in rows holder) frame_slots 0 rest)
    (λ slots after. Ok (allowed_frame holder true leads ks slots, after))
    (λ slots after. Ok (allowed_frame holder false leads ks slots, after)) (λ slots after other.
    ap (λ (f : Option AbstractFrame). Ok (f, after))
    (frame_same holder leads ks slots (subst (FirstUnset 6) read unset)))))
