-- What is left when something was read: an end of the bytes.
use Rattle.table_entries.proofs.Common.{◌≡◌, ℕ, zero, suc, ◌+◌, ◌-◌, ◌≤◌, nat_lt, ◌==◌, ◌||◌, if◌then◌else◌, Bool, true, false, ◌⊎◌, List, [], ◌∷◌, length, drop, Option, Some, Ok, Err, inl, inr, ap, sym, ◌∙◌, subst, arith, refl, drop-drop, length-drop, drop_all, option_map, little_number, Number, frame_slots, Meaningless, Program, Read, sized, then_read, joined, many, scalar_in, stack_in, packet_in, map_in, value_in, null_in, fields_in, kind_in, stack_slot_in, marks_in, spilled, frame_in, callers_in, Entry, named_in, rest_in, entry_in, IsEnd}
use Rattle.table_entries.specs.Deciding.{decide}

pub IsEnd-more : (bytes rest after : List ℕ) → IsEnd bytes rest → IsEnd rest after
    → IsEnd bytes after
IsEnd-more bytes rest after (n, e) (m, f) = (n + m, f ∙ ap (drop m) e ∙ drop-drop m n bytes)

-- where an end of the bytes begins
pub IsEnd-place : (bytes rest : List ℕ) → IsEnd bytes rest
    → drop (length bytes - length rest) bytes ≡ rest
IsEnd-place bytes rest (n, e) = of (decide n (length bytes)) where
  of : (n ≤ length bytes) ⊎ (n ≤ length bytes → ⊥) → drop (length bytes - length rest) bytes ≡ rest
  of (inl le) =
      let size : length rest ≡ length bytes - n = ap length e ∙ length-drop n bytes in
      let place : length bytes - length rest ≡ n = omega arith in
      ap (λ (k : ℕ). drop k bytes) place ∙ sym e
  of (inr past) =
      let size : length rest ≡ length bytes - n = ap length e ∙ length-drop n bytes in
      let place : length bytes - length rest ≡ length bytes = grind arith in
      ap (λ (k : ℕ). drop k bytes) place ∙ drop_all (length bytes) bytes (omega arith)
      ∙ sym (drop_all n bytes (grind arith)) ∙ sym e

-- the bytes after what is read are an end
abbrev pub LeavesEnd : {X : Type 0} → List ℕ → Read X → Type 0
LeavesEnd bytes (Ok x) = IsEnd bytes x.1
LeavesEnd bytes (Err stop) = Unit {0}

LeavesEnd-more : {X : Type 0} (bytes rest : List ℕ) (r : Read X) → IsEnd bytes rest
    → LeavesEnd rest r → LeavesEnd bytes r
LeavesEnd-more bytes rest (Ok x) first second = IsEnd-more bytes rest x.1 first second
LeavesEnd-more bytes rest (Err stop) first second = tt

LeavesEnd-then : {X Y : Type 0} (bytes : List ℕ) (r : Read X) (next : Option X → List ℕ → Read Y)
    → LeavesEnd bytes r
    → ((x : Option X) (rest : List ℕ) → LeavesEnd rest (next x rest))
    → LeavesEnd bytes (then_read r next)
LeavesEnd-then bytes (Ok x) next first second =
    LeavesEnd-more bytes x.1 (next x.0 x.1) first (second x.0 x.1)
LeavesEnd-then bytes (Err stop) next first second = tt

LeavesEnd-if : {X : Type 0} (bytes : List ℕ) (b : Bool) (r s : Read X) → LeavesEnd bytes r
    → LeavesEnd bytes s → LeavesEnd bytes (if b then r else s)
LeavesEnd-if bytes true r s first second = first
LeavesEnd-if bytes false r s first second = second

LeavesEnd-sized : {X : Type 0} (n : ℕ) (fields : List ℕ → Option X) (bytes : List ℕ)
    → LeavesEnd bytes (sized n fields bytes)
LeavesEnd-sized n fields bytes =
    LeavesEnd-if bytes (nat_lt (length bytes) n) (Err _) (Ok (fields bytes, drop n bytes)) tt
    (n, refl)

LeavesEnd-many : {X : Type 0} (one : ℕ → List ℕ → Read X)
    → ((k : ℕ) (bytes : List ℕ) → LeavesEnd bytes (one k bytes))
    → (n k : ℕ) (bytes : List ℕ) → LeavesEnd bytes (many one n k bytes)
unfolding many
LeavesEnd-many one each zero k bytes = (0, refl)
LeavesEnd-many one each (suc n) k bytes =
    LeavesEnd-then bytes (one k bytes)
    (λ first rest. then_read (many one n (k + 1) rest)
    (λ others after. Ok (joined first others, after))) (each k bytes)
    (λ first rest. LeavesEnd-then rest (many one n (k + 1) rest)
    (λ others after. Ok (joined first others, after)) (LeavesEnd-many one each n (k + 1) rest)
    (λ others after. (0, refl)))

LeavesEnd-fields : (rows holder kind : ℕ) (bytes : List ℕ)
    → LeavesEnd bytes (fields_in rows holder kind bytes)
unfolding fields_in
LeavesEnd-fields rows holder kind bytes =
    LeavesEnd-if bytes (kind == 0) _ _ (0, refl)
    (LeavesEnd-if bytes (kind == 1) _ _
    (LeavesEnd-sized 64 (λ b. option_map Number (scalar_in b)) bytes)
    (LeavesEnd-if bytes (kind == 2) _ _ (0, refl)
    (LeavesEnd-if bytes (kind == 3) _ _ (LeavesEnd-sized 5 (stack_in holder) bytes)
    (LeavesEnd-if bytes (kind == 4) _ _ (LeavesEnd-sized 20 packet_in bytes)
    (LeavesEnd-if bytes (kind == 5) _ _ (0, refl)
    (LeavesEnd-if bytes (kind == 6) _ _ (LeavesEnd-sized 1 (map_in rows) bytes)
    (LeavesEnd-if bytes (kind == 7) _ _ (LeavesEnd-sized 9 (value_in rows) bytes)
    (LeavesEnd-if bytes (kind == 8) _ _ (LeavesEnd-sized 5 (null_in rows) bytes) tt))))))))

LeavesEnd-kind : (rows holder : ℕ) (bytes : List ℕ) → LeavesEnd bytes (kind_in rows holder bytes)
unfolding kind_in
LeavesEnd-kind rows holder [] = tt
LeavesEnd-kind rows holder (kind ∷ bytes) =
    LeavesEnd-more (kind ∷ bytes) bytes (fields_in rows holder kind bytes) (1, refl)
    (LeavesEnd-fields rows holder kind bytes)

LeavesEnd-marks : (tag : ℕ) (bytes : List ℕ) → LeavesEnd (tag ∷ bytes) (marks_in bytes)
LeavesEnd-marks tag [] = tt
LeavesEnd-marks tag (marks ∷ bytes) = (2, refl)

LeavesEnd-stack_slot : (rows holder : ℕ) (bytes : List ℕ)
    → LeavesEnd bytes (stack_slot_in rows holder bytes)
unfolding stack_slot_in
LeavesEnd-stack_slot rows holder [] = tt
LeavesEnd-stack_slot rows holder (tag ∷ bytes) =
    let leaves : LeavesEnd bytes (kind_in rows holder bytes) = LeavesEnd-kind rows holder bytes in
    LeavesEnd-if (tag ∷ bytes) (tag == 0) _ _ (LeavesEnd-marks tag bytes)
    (LeavesEnd-if (tag ∷ bytes) (tag == 1) _ _
    (LeavesEnd-then (tag ∷ bytes) (kind_in rows holder bytes) (λ k rest. Ok (spilled k, rest))
    (LeavesEnd-more (tag ∷ bytes) bytes (kind_in rows holder bytes) (1, refl) leaves)
    (λ k rest. (0, refl))) tt)

LeavesEnd-frame : (rows holder : ℕ) (outer : Bool) (bytes : List ℕ)
    → LeavesEnd bytes (frame_in rows holder outer bytes)
unfolding frame_in
LeavesEnd-frame rows holder outer bytes =
    LeavesEnd-if bytes (nat_lt (length bytes) 2) _ _ tt
    (LeavesEnd-then bytes (many (λ k. kind_in rows holder) 10 0 (drop 2 bytes)) _
    (LeavesEnd-more bytes (drop 2 bytes) (many (λ k. kind_in rows holder) 10 0 (drop 2 bytes))
    (2, refl)
    (LeavesEnd-many (λ k. kind_in rows holder) (λ k b. LeavesEnd-kind rows holder b) 10 0
    (drop 2 bytes)))
    (λ kinds rest. LeavesEnd-then rest (many (λ k. stack_slot_in rows holder) frame_slots 0 rest) _
    (LeavesEnd-many (λ k. stack_slot_in rows holder)
    (λ k b. LeavesEnd-stack_slot rows holder b) frame_slots 0 rest) (λ slots after. (0, refl))))

LeavesEnd-named : (bytes : List ℕ) → LeavesEnd bytes (named_in bytes)
unfolding named_in
LeavesEnd-named [] = tt
LeavesEnd-named (count ∷ bytes) =
    let one : List ℕ → Option (List ℕ) = λ b. Some (little_number 4 b ∷ []) in
    let two : List ℕ
    → Option (List ℕ) = λ b. Some (little_number 4 b ∷ (little_number 4 (drop 4 b) ∷ [])) in
    LeavesEnd-if (count ∷ bytes) (count == 0) _ _ (1, refl)
    (LeavesEnd-if (count ∷ bytes) (count == 1) _ _
    (LeavesEnd-more (count ∷ bytes) bytes (sized 4 one bytes) (1, refl)
    (LeavesEnd-sized 4 one bytes))
    (LeavesEnd-if (count ∷ bytes) (count == 2) _ (Err Meaningless)
    (LeavesEnd-more (count ∷ bytes) bytes (sized 8 two bytes) (1, refl)
    (LeavesEnd-sized 8 two bytes)) tt))

LeavesEnd-rest : (p : Program) (number slot caller_count : ℕ) (bytes : List ℕ)
    → LeavesEnd bytes (rest_in p number slot caller_count bytes)
LeavesEnd-rest p number slot caller_count bytes =
    LeavesEnd-then bytes (callers_in (length p.maps) caller_count bytes) _
    (LeavesEnd-many (λ k. frame_in (length p.maps) k true)
    (λ k b. LeavesEnd-frame (length p.maps) k true b) caller_count 0 bytes)
    (λ callers rest. LeavesEnd-then rest (frame_in (length p.maps) caller_count false rest) _
    (LeavesEnd-frame (length p.maps) caller_count false rest)
    (λ innermost others. LeavesEnd-then others (named_in others) _ (LeavesEnd-named others)
    (λ successors after. (0, refl))))

LeavesEnd-entry : (p : Program) (bytes : List ℕ) → LeavesEnd bytes (entry_in p bytes)
unfolding entry_in
LeavesEnd-entry p bytes =
    let count = little_number 1 (drop 6 bytes) in
    LeavesEnd-if bytes (nat_lt (length bytes) 7) _ _ tt
    (LeavesEnd-if bytes (count == 0 || nat_lt 8 count) _ _ tt
    (LeavesEnd-more bytes (drop 7 bytes) _ (7, refl)
    (LeavesEnd-rest p (little_number 4 bytes) (little_number 2 (drop 4 bytes)) (count - 1)
    (drop 7 bytes))))

-- what follows an entry is an end
pub entry_in-end : (p : Program) (bytes : List ℕ) (e : Option Entry) (after : List ℕ)
    → entry_in p bytes ≡ Ok (e, after) → IsEnd bytes after
entry_in-end p bytes e after h = subst (LeavesEnd bytes) h (LeavesEnd-entry p bytes)
