-- Call frames and entries whose parts were read.
use Rattle.table_entries.proofs.Common.{◌≡◌, ℕ, ◌≤◌, ◌&&◌, if◌then◌else◌, Bool, true, false, List, length, drop, Option, Some, None, Ok, ap, sym, ◌∙◌, refl, option_map, le-ltb, little_number, Program, Kind, StackSlot, AbstractFrame, State, frame_slots, EntryHead, kept, many, kind_in, stack_slot_in, frame_allowed, allowed_frame, frame_in, callers_in, Entry, list_of, entry_of, named_in, head_allowed, entry_with, rest_in}
use Rattle.table_entries.specs.declared.entries.NamedEntries.{NamedEntries}

pub kept-if : {X : Type 0} (b : Bool) (x : X) → (if b then Some x else None) ≡ kept b x
kept-if true x = refl
kept-if false x = refl

pub kept-map : {X Y : Type 0} (f : X → Y) (b : Bool) (x : X)
    → option_map f (kept b x) ≡ kept b (f x)
kept-map f true x = refl
kept-map f false x = refl

allowed_frame-kept : (holder : ℕ) (outer : Bool) (return_slot : ℕ) (allowed : Bool)
    (kinds : List Kind) (fits : Bool) (slots : List StackSlot)
    → allowed_frame holder outer return_slot (kept allowed kinds) (kept fits slots)
    ≡ kept ((allowed && fits) && frame_allowed holder outer return_slot kinds)
    (record { return_slot = return_slot; registers = kinds; stack = record { slots = slots } })
allowed_frame-kept holder outer return_slot true kinds true slots =
    kept-if (frame_allowed holder outer return_slot kinds)
    (record { return_slot = return_slot; registers = kinds; stack = record { slots = slots } })
allowed_frame-kept holder outer return_slot true kinds false slots = refl
allowed_frame-kept holder outer return_slot false kinds fits slots = refl

-- the kinds and the stack slots of a call frame are read
pub frame_in-read : (rows holder : ℕ) (outer : Bool) (bytes : List ℕ) (allowed : Bool)
    (kinds : List Kind) (rest : List ℕ) (fits : Bool) (slots : List StackSlot) (after : List ℕ)
    → 2 ≤ length bytes
    → many (λ k. kind_in rows holder) 10 0 (drop 2 bytes) ≡ Ok (kept allowed kinds, rest)
    → many (λ k. stack_slot_in rows holder) frame_slots 0 rest ≡ Ok (kept fits slots, after)
    → frame_in rows holder outer bytes
    ≡ Ok (
      kept ((allowed && fits) && frame_allowed holder outer (little_number 2 bytes) kinds)
          (record {
            return_slot = little_number 2 bytes;
            registers = kinds;
            stack = record { slots = slots };
          }),
      after,
    )
unfolding frame_in
frame_in-read rows holder outer bytes allowed kinds rest fits slots after long first second =
    rw (le-ltb (length bytes) 2 long, first, second)
    (ap (λ (f : Option AbstractFrame). Ok (f, after))
    (allowed_frame-kept holder outer (little_number 2 bytes) allowed kinds fits slots))

entry_with-kept : (p : Program) (number slot : ℕ) (whole : Bool) (callers : List AbstractFrame)
    (fits : Bool) (innermost : AbstractFrame) (successors : List ℕ)
    → entry_with p number slot (kept whole callers) (kept fits innermost) (Some successors)
    ≡ kept ((whole && fits) && head_allowed p number slot)
    (record {
      number = number;
      state = record { slot = slot; callers = record { items = callers }; innermost = innermost };
      successors = successors;
    })
entry_with-kept p number slot true callers true innermost successors =
    kept-if (head_allowed p number slot)
    (record {
      number = number;
      state = record {
        slot = slot;
        callers = record { items = callers };
        innermost = innermost;
      };
      successors = successors;
    })
entry_with-kept p number slot true callers false innermost successors = refl
entry_with-kept p number slot false callers fits innermost successors = refl

-- the parts of an entry are read
pub rest_in-read : (p : Program) (number caller_count : ℕ) (bytes : List ℕ) (whole : Bool)
    (a : State) (rest : List ℕ) (fits : Bool) (others : List ℕ) (n : NamedEntries) (after : List ℕ)
    → callers_in (length p.maps) caller_count bytes ≡ Ok (kept whole a.callers.items, rest)
    → frame_in (length p.maps) caller_count false rest ≡ Ok (kept fits a.innermost, others)
    → named_in others ≡ Ok (Some (list_of n), after)
    → rest_in p number a.slot caller_count bytes
    ≡ Ok (
      option_map (λ head. entry_of head a)
          (kept ((whole && fits) && head_allowed p number a.slot)
          (record { number = number; named = n })),
      after,
    )
rest_in-read p number caller_count bytes whole a rest fits others n after first second third =
    rw (first, second, third)
    (ap (λ (e : Option Entry). Ok (e, after))
    (entry_with-kept p number a.slot whole a.callers.items fits a.innermost (list_of n)
    ∙ (let head : EntryHead = record { number = number; named = n } in
    let same : option_map (λ (h : EntryHead). entry_of h a)
    (kept ((whole && fits) && head_allowed p number a.slot) head)
    ≡ kept ((whole && fits) && head_allowed p number a.slot) (entry_of head a) =
    kept-map (λ (h : EntryHead). entry_of h a)
    ((whole && fits) && head_allowed p number a.slot) head in
    sym same)))
