-- Entries are read from their spelling, whatever follows.
use Rattle.proof_table.proofs.Common.{◌≡◌, ℕ, suc, ◌-◌, ◌^◌, ◌<◌, ◌≤◌, nat_lt, ◌==◌, ◌||◌, true, false, List, [], ◌∷◌, ◌++◌, length, drop, All, Some, Ok, ap, ◌∙◌, append_assoc, length-append, arith, flat_map, le-ltb, little_bytes, little_number, little_number-reads_back, Program, Entry, named_in, head_allowed, rest_in, entry_in, frame_bytes, named_bytes, entry_bytes, EntryFits}
use Rattle.std.specs.Prelude.{refl}
use Rattle.std.proofs.Math.Dec.{eqb-suc-zero}
use Rattle.isa_model.specs.Code.Limits.{max_call_frames}
use Rattle.proof_table.proofs.KindLaws.{byte-reads, sized-reads}
use Rattle.proof_table.proofs.FrameLaws.{frame_in-reads, callers_in-reads}

named_in-reads : (xs rest : List ℕ) → length xs ≤ 2 → All (λ i. i < 2 ^ 32) xs
    → named_in (named_bytes xs ++ rest) ≡ Ok (Some xs, rest)
unfolding named_in
named_in-reads [] rest few small = refl
named_in-reads (i ∷ []) rest few small =
    sized-reads 4 (λ b. Some (little_number 4 b ∷ [])) (little_bytes 4 i) rest (Some (i ∷ [])) refl
    (ap (λ (n : ℕ). Some (n ∷ [])) (little_number-reads_back 4 i rest (small 0 0 (omega arith))))
named_in-reads (i ∷ (j ∷ [])) rest few small =
    sized-reads 8 (λ b. Some (little_number 4 b ∷ (little_number 4 (drop 4 b) ∷ [])))
    (little_bytes 4 i ++ little_bytes 4 j) rest (Some (i ∷ (j ∷ []))) refl
    (ap (λ (n : ℕ). Some (n ∷ (little_number 4 (little_bytes 4 j ++ rest) ∷ [])))
    (little_number-reads_back 4 i (little_bytes 4 j ++ rest) (small 0 0 (omega arith)))
    ∙ ap (λ (n : ℕ). Some (i ∷ (n ∷ [])))
    (little_number-reads_back 4 j rest (small 1 0 (omega arith))))
named_in-reads (i ∷ (j ∷ (k ∷ xs))) rest few small = absurd (omega arith)

-- the bytes from the call frames on, after their count
abbrev behind_count : Entry → List ℕ → List ℕ
behind_count e rest =
    flat_map frame_bytes e.state.callers.items
    ++ (frame_bytes e.state.innermost ++ (named_bytes e.successors ++ rest))

rest_in-reads : (p : Program) (e : Entry) (rest : List ℕ) → EntryFits p e
    → rest_in p e.number e.state.slot (length e.state.callers.items) (behind_count e rest)
    ≡ Ok (Some e, rest)
rest_in-reads p e rest h =
    let named = named_bytes e.successors ++ rest in
    let after_outer = frame_bytes e.state.innermost ++ named in
    let rows = length p.maps in
    let outer = length e.state.callers.items in
    rw (
      callers_in-reads rows outer e.state.callers.items after_outer refl h.callers,
      frame_in-reads rows outer false e.state.innermost named h.innermost,
      named_in-reads e.successors rest h.named h.indexes,
      h.allowed,
    ) refl

entry_parts : (e : Entry) (rest : List ℕ)
    → entry_bytes e ++ rest
    ≡ little_bytes 4 e.number
    ++ (little_bytes 2 e.state.slot ++ (suc (length e.state.callers.items) ∷ behind_count e rest))
unfolding entry_bytes
entry_parts e rest = simp append_assoc

-- a count of call frames from 1 to 8 is allowed
few_frames : (n : ℕ) → n < max_call_frames → (suc n == 0 || nat_lt max_call_frames (suc n)) ≡ false
few_frames n few =
    let none : nat_lt max_call_frames (suc n) ≡ false =
    le-ltb max_call_frames (suc n) (omega arith) in
    rw (eqb-suc-zero n, none) refl

number-lt : (p : Program) (number slot : ℕ) → head_allowed p number slot ≡ true → number < 2 ^ 32
number-lt p number slot h = grind arith

entry_read : (p : Program) (e : Entry) (rest : List ℕ) → EntryFits p e
    → entry_in p
    (little_bytes 4 e.number
    ++ (little_bytes 2 e.state.slot ++ (suc (length e.state.callers.items) ∷ behind_count e rest)))
    ≡ Ok (Some e, rest)
unfolding entry_in
entry_read p e rest h =
    let outer = length e.state.callers.items in
    let after_count = behind_count e rest in
    let from_slot = little_bytes 2 e.state.slot ++ (suc outer ∷ after_count) in
    let bytes = little_bytes 4 e.number ++ from_slot in
    let long : nat_lt (length bytes) 7 ≡ false =
    le-ltb (length bytes) 7
    (omega (
      arith,
      length-append (little_bytes 4 e.number) from_slot,
      length-append
          (little_bytes 2 e.state.slot) (suc outer ∷ after_count),
    )) in
    let number : little_number 4 bytes ≡ e.number =
    little_number-reads_back 4 e.number from_slot (number-lt p e.number e.state.slot h.allowed) in
    let slot : little_number 2 (drop 4 bytes) ≡ e.state.slot =
    little_number-reads_back 2 e.state.slot (suc outer ∷ after_count) h.slot in
    let count : little_number 1 (drop 6 bytes) ≡ suc outer = byte-reads (suc outer) after_count in
    let one_less : suc outer - 1 ≡ outer = omega arith in
    rw (long, count, few_frames outer h.few, number, slot, one_less) (rest_in-reads p e rest h)

pub entry_in-reads : (p : Program) (e : Entry) (rest : List ℕ) → EntryFits p e
    → entry_in p (entry_bytes e ++ rest) ≡ Ok (Some e, rest)
entry_in-reads p e rest h = ap (entry_in p) (entry_parts e rest) ∙ entry_read p e rest h
