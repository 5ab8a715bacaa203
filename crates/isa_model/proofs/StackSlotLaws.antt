-- Laws of the stack slots of the only call frame, and of the numbers that are known to be there.
use Rattle.std.proofs.Common.{◌≡◌, ◌≤◌, ◌+◌, ◌-◌, ◌*◌, ◌^◌, ◌<◌, ◌∷◌, ◌++◌, [], ℕ, zero, suc, Some, Ok, Err, true, List, length, map, take, drop, arith, refl, sym, ap, ◌∙◌, subst, inl, inr, ◌⊎◌, ◌≢◌, ℤ, pos, ◌+ℤ◌, ◌==◌, nat_le}
use Rattle.isa_model.proofs.Common.{list_any, splice, U64, R10, Num, Unset, Cell, Byte, Unwritten, CallFrame, TrapReason, UnsetRead, FrameHead, bytes_of, unsigned, KeyValues, State, reg, frame_pointer, go_to, new_call_frame, is_unwritten, load, store, and_then, index_from, index_at, region_cells, cells_at, place_of, place_in, value_in, memory_load, write, put, cases_order, from_le_bytes-to_le_bytes_8, ints, nat_tests, drop-append_seam, drop-append-add, take-append_seam, start_state, count_map_values, Reg, Full64, Load, Store, StoreConstant, Program, Next, Trapped, sets, goes_on, act, stack_size}
use Rattle.isa_model.specs.declared.values.Region.TheVariants as region
use Rattle.isa_model.proofs.ByteCells.{value_in-Byte}
use Rattle.isa_model.proofs.ValueLaws.{length-splice}
use Rattle.std.proofs.lemmas.List.{length-take-le, drop-append-le, take-append-le, drop-take, drop-drop, length-drop, length-replicate, drop-replicate, take-replicate}
use Rattle.isa_model.specs.MustAccept.Determined.{stack_slot_offset, stack_slot_place}

abbrev pub stack_slot_cells : List Cell → ℕ → List Cell
stack_slot_cells cells j = take 8 (drop (8 * j) cells)

-- each stack slot has an unwritten byte, or the bytes of a number that is known as a constant
pub record HasKnownStackSlots (knows : ℕ → ℕ → Type 0) (t : State) : Type 0 where
  pub call_frame : CallFrame
  pub only : t.frames ≡ call_frame ∷ []
  pub pointer : reg t R10 ≡ frame_pointer call_frame.serial
  pub wide : length call_frame.cells ≡ stack_size
  pub each : (j : ℕ) → j < 64 → (list_any is_unwritten (stack_slot_cells call_frame.cells j) ≡ true)
      ⊎ ((y : ℕ) × (y < 2 ^ 64) × (stack_slot_cells call_frame.cells j ≡ map Byte (bytes_of U64 y))
      × knows j y)

-- ---- lists of cells with a part replaced

take_less : (n m : ℕ) (xs : List Cell) → n ≤ m → take n (take m xs) ≡ take n xs
take_less zero m xs le = refl
take_less (suc n) zero xs le = absurd (omega (arith, le))
take_less (suc n) (suc m) [] le = refl
take_less (suc n) (suc m) (x ∷ xs) le = ap (λ rest. x ∷ rest) (take_less n m xs (omega (arith, le)))

splice_same : (xs new : List Cell) (i : ℕ) → i + length new ≤ length xs
    → take (length new) (drop i (splice xs i (i + length new) new)) ≡ new
splice_same xs new i inside =
    let len = length-take-le i xs (omega (arith, inside)) in
    let seam : drop i (splice xs i (i + length new) new) ≡ new ++ drop (i + length new) xs =
    subst (λ k. drop k (splice xs i (i + length new) new) ≡ new ++ drop (i + length new) xs) len
    (drop-append_seam (take i xs) (new ++ drop (i + length new) xs)) in
    ap (take (length new)) seam ∙ take-append_seam new (drop (i + length new) xs)

splice_other : (xs new : List Cell) (i j n : ℕ) → i + length new ≤ length xs → j + n ≤ length xs
    → (j + n ≤ i) ⊎ (i + length new ≤ j)
    → take n (drop j (splice xs i (i + length new) new)) ≡ take n (drop j xs)
splice_other xs new i j n inside here (inl before) =
    let len = length-take-le i xs (omega (arith, inside)) in
    let ys = new ++ drop (i + length new) xs in
    let m = i - j in
    let split : j + m ≡ i = omega (arith, before) in
    let front : drop j (take i xs) ≡ take m (drop j xs) =
    ap (λ k. drop j (take k xs)) (sym split) ∙ drop-take j m xs in
    let size = length-take-le m (drop j xs)
    (let own = length-drop j xs in omega (arith, own, inside, before)) in
    ap (take n) (drop-append-le j (take i xs) ys (omega (arith, len, before))
    ∙ ap (λ zs. zs ++ ys) front)
    ∙ take-append-le n (take m (drop j xs)) ys (omega (arith, size, before))
    ∙ take_less n m (drop j xs) (omega (arith, before))
splice_other xs new i j n inside here (inr behind) =
    let len = length-take-le i xs (omega (arith, inside)) in
    let rest = drop (i + length new) xs in
    let m = j - (i + length new) in
    let far : length (take i xs) + (length new + m) ≡ j = omega (arith, len, behind) in
    let past : drop j (take i xs ++ (new ++ rest)) ≡ drop m rest =
    ap (λ k. drop k (take i xs ++ (new ++ rest))) (sym far)
    ∙ drop-append-add (take i xs) (new ++ rest) (length new + m) ∙ drop-append-add new rest m in
    let whole : i + length new + m ≡ j = omega (arith, behind) in
    ap (take n) (past ∙ drop-drop m (i + length new) xs ∙ ap (λ k. drop k xs) whole)

-- ---- the cells of a stack slot in the machine

stack_slot_index : (n j : ℕ)
    → index_at (region.CallFrame n) (pos 0 +ℤ stack_slot_offset j) ≡ Some (8 * j)
stack_slot_index n j =
    let at : (pos 0 +ℤ stack_slot_offset j) +ℤ pos stack_size ≡ pos (8 * j) = omega (arith, ints) in
    ap index_from at

cells_there : (knows : ℕ → ℕ → Type 0) (t : State) (h : HasKnownStackSlots knows t)
    → region_cells t (region.CallFrame h.call_frame.serial) ≡ Some h.call_frame.cells
cells_there knows t h =
    let same : (h.call_frame.serial == h.call_frame.serial) ≡ true = grind (arith, nat_tests) in
    rw (h.only, same) refl

place_there : (knows : ℕ → ℕ → Type 0) (t : State) (h : HasKnownStackSlots knows t) (j : ℕ) → j < 64
    → place_of t (region.CallFrame h.call_frame.serial) (Some (8 * j)) 8 ≡ Ok (8 * j)
place_there knows t h j below =
    let wide = h.wide in
    let fits : nat_le (8 * j + 8) (length h.call_frame.cells) ≡ true =
    grind (arith, nat_tests, wide, below) in
    ap (λ c. place_in c (Some (8 * j)) 8) (cells_there knows t h) ∙ rw fits refl

load_value : (knows : ℕ → ℕ → Type 0) (t : State) (h : HasKnownStackSlots knows t) (j : ℕ) → j < 64
    → load t U64 (reg t R10) (stack_slot_offset j)
    ≡ value_in (stack_slot_cells h.call_frame.cells j)
load_value knows t h j below =
    let at = region.CallFrame h.call_frame.serial in
    ap (λ v. load t U64 v (stack_slot_offset j)) h.pointer
    ∙ ap (λ o. memory_load t U64 at o) (stack_slot_index h.call_frame.serial j)
    ∙ ap (λ p. and_then (and_then p (λ i. Ok (cells_at (region_cells t at) i 8))) value_in)
    (place_there knows t h j below)
    ∙ ap (λ c. value_in (cells_at c (8 * j) 8)) (cells_there knows t h)

load_unwritten : (knows : ℕ → ℕ → Type 0) (t : State) (h : HasKnownStackSlots knows t) (j : ℕ)
    → j < 64
    → list_any is_unwritten (stack_slot_cells h.call_frame.cells j) ≡ true
    → load t U64 (reg t R10) (stack_slot_offset j) ≡ Err UnsetRead
load_unwritten knows t h j below unwritten = load_value knows t h j below ∙ rw unwritten refl

load_known : (knows : ℕ → ℕ → Type 0) (t : State) (h : HasKnownStackSlots knows t) (j y : ℕ)
    → j < 64
    → y < 2 ^ 64 → stack_slot_cells h.call_frame.cells j ≡ map Byte (bytes_of U64 y)
    → load t U64 (reg t R10) (stack_slot_offset j) ≡ Ok (Num y)
load_known knows t h j y below fits is =
    load_value knows t h j below ∙ ap value_in is ∙ value_in-Byte (bytes_of U64 y)
    ∙ ap (λ n. Ok (Num n)) (from_le_bytes-to_le_bytes_8 y fits)

-- the machine state t once the number y is written into stack slot j of its only call frame f
unfoldable pub stored : State → CallFrame → ℕ → ℕ → State
stored t f j y = record t {
  frames = record f { cells = splice f.cells (8 * j) (8 * j + 8) (map Byte (bytes_of U64 y)) }
      ∷ [];
}

store_there : (knows : ℕ → ℕ → Type 0) (t : State) (h : HasKnownStackSlots knows t) (j y : ℕ)
    → j < 64
    → store t U64 (reg t R10) (stack_slot_offset j) (Num y) ≡ Ok (stored t h.call_frame j y)
unfolding stored
store_there knows t h j y below =
    let at = region.CallFrame h.call_frame.serial in
    let new = map Byte (bytes_of U64 y) in
    let same : (h.call_frame.serial == h.call_frame.serial) ≡ true = grind (arith, nat_tests) in
    let puts : put t at (8 * j) new ≡ stored t h.call_frame j y = rw (h.only, same) refl in
    ap (λ v. store t U64 v (stack_slot_offset j) (Num y)) h.pointer
    ∙ ap (λ o. write t at o new) (stack_slot_index h.call_frame.serial j)
    ∙ ap (λ p. and_then p (λ i. Ok (put t at i new))) (place_there knows t h j below)
    ∙ ap (λ (x : State). Ok x) puts

-- ---- what stays

pub HasKnownStackSlots-start : (knows : ℕ → ℕ → Type 0) (head : FrameHead) (packet : List ℕ)
    (contents : List KeyValues) → HasKnownStackSlots knows (start_state head packet contents)
unfolding start_state new_call_frame
HasKnownStackSlots-start knows head packet contents = record {
  call_frame = new_call_frame (count_map_values contents) 0 (Unset ∷ Unset ∷ Unset ∷ Unset ∷ []);
  only = refl;
  pointer = refl;
  wide = length-replicate stack_size Unwritten;
  each = λ j below. inl
      (ap (list_any is_unwritten)
      (ap (take 8) (drop-replicate (8 * j) stack_size Unwritten)
      ∙ take-replicate 8 (stack_size - 8 * j) Unwritten (omega (arith, below))));
}

pub HasKnownStackSlots-store : (old known : ℕ → ℕ
    → Type 0) (t : State) (h : HasKnownStackSlots old t) (j y : ℕ)
    → j < 64 → y < 2 ^ 64 → known j y
    → ((k z : ℕ) → k ≢ j → old k z → known k z)
    → HasKnownStackSlots known (stored t h.call_frame j y)
unfolding stored
HasKnownStackSlots-store old known t h j y below fits there others =
    let new = map Byte (bytes_of U64 y) in
    let wide = h.wide in
    record {
      call_frame = record h.call_frame {
        cells = splice h.call_frame.cells (8 * j) (8 * j + 8) new;
      };
      only = refl;
      pointer = h.pointer;
      wide = length-splice h.call_frame.cells new (8 * j) (omega (arith, wide, below)) ∙ h.wide;
      each = λ k inside. elim (cases_order k j) [
        | inl same ↦
            inr (
              y,
              fits,
              subst
                  (λ n.
                  stack_slot_cells (splice h.call_frame.cells (8 * j) (8 * j + 8) new) n ≡ new)
                  (sym same)
                  (splice_same h.call_frame.cells new (8 * j) (omega (arith, wide, below))),
              subst
                  (λ n. known n y) (sym same) there,
            )
        | inr (inl before) ↦
            other h j y k new (omega (arith, wide, below)) (omega (arith, wide, inside))
            (inl (omega (arith, before))) (h.each k inside)
            (λ z. others k z (λ e. absurd (omega (arith, e, before))))
        | inr (inr behind) ↦
            other h j y k new (omega (arith, wide, below)) (omega (arith, wide, inside))
            (inr (omega (arith, behind))) (h.each k inside)
            (λ z. others k z (λ e. absurd (omega (arith, e, behind))))
      ];
    }
  where
    other : (h : HasKnownStackSlots old t) (j y k : ℕ) (new : List Cell)
        → 8 * j + length new ≤ length h.call_frame.cells → 8 * k + 8 ≤ length h.call_frame.cells
        → (8 * k + 8 ≤ 8 * j) ⊎ (8 * j + length new ≤ 8 * k)
        → (list_any is_unwritten (stack_slot_cells h.call_frame.cells k) ≡ true)
        ⊎ ((y : ℕ) × (y < 2 ^ 64)
        × (stack_slot_cells h.call_frame.cells k ≡ map Byte (bytes_of U64 y)) × old k y)
        → ((z : ℕ) → old k z → known k z)
        → (list_any is_unwritten
        (stack_slot_cells (splice h.call_frame.cells (8 * j) (8 * j + length new) new) k) ≡ true)
        ⊎ ((y : ℕ) × (y < 2 ^ 64)
        × (stack_slot_cells (splice h.call_frame.cells (8 * j) (8 * j + length new) new) k
        ≡ map Byte (bytes_of U64 y)) × known k y)
    other h j y k new inside here apart (inl unwritten) keeps =
        inl (ap (list_any is_unwritten)
        (splice_other h.call_frame.cells new (8 * j) (8 * k) 8 inside here apart) ∙ unwritten)
    other h j y k new inside here apart (inr number) keeps =
        inr (
          number.0,
          number.1,
          splice_other h.call_frame.cells new (8 * j) (8 * k) 8 inside here apart
              ∙ number.2,
          keeps number.0 number.3,
        )

-- a step that does not change the call frame
pub HasKnownStackSlots-keep : (old known : ℕ → ℕ → Type 0) (t v : State)
    → HasKnownStackSlots old t
    → v.frames ≡ t.frames → reg v R10 ≡ reg t R10 → ((k z : ℕ) → old k z → known k z)
    → HasKnownStackSlots known v
HasKnownStackSlots-keep old known t v h frames pointer keeps = record {
  call_frame = h.call_frame;
  only = frames ∙ h.only;
  pointer = pointer ∙ h.pointer;
  wide = h.wide;
  each = λ j below. elim (h.each j below) [
    | inl unwritten ↦ inl unwritten
    | inr number ↦ inr
        (number.0, number.1, number.2, keeps j number.0 number.3)
  ];
}

-- ---- what the instructions do

-- a load of a stack slot by a run that does not trap finds a number that is known
pub load_acts : (knows : ℕ → ℕ → Type 0) (p : Program) (clock : ℕ → ℕ) (t : State) (d : Reg) (j : ℕ)
    → HasKnownStackSlots knows t → j < 64
    → ((e : TrapReason) → act p clock t (Load U64 d (stack_slot_place j)) ≡ Trapped e → ⊥)
    → (y : ℕ) × knows j y
    × (act p clock t (Load U64 d (stack_slot_place j))
    ≡ sets t (Load U64 d (stack_slot_place j)) d (Ok (Num y)))
unfolding act
load_acts knows p clock t d j h below goes =
    elim (h.each j below) [
      | inl unwritten ↦
          absurd (goes UnsetRead
          (ap (sets t (Load U64 d (stack_slot_place j)) d)
          (load_unwritten knows t h j below unwritten)))
      | inr number ↦ (
        number.0,
        number.3,
        ap (sets t (Load U64 d (stack_slot_place j)) d)
            (load_known knows t h j number.0 below number.1 number.2),
      )
    ]

-- a store of a number goes on
pub store_acts : (knows : ℕ → ℕ → Type 0) (p : Program) (clock : ℕ → ℕ) (t : State) (r : Reg)
    (j y : ℕ) → (h : HasKnownStackSlots knows t) → j < 64 → reg t r ≡ Num y
    → act p clock t (Store U64 (stack_slot_place j) r) ≡ Next
    (go_to (stored t h.call_frame j y) (t.slot + 1))
unfolding act
store_acts knows p clock t r j y h below is =
    ap (λ v. goes_on t (Store U64 (stack_slot_place j) r)
    (store t U64 (reg t R10) (stack_slot_offset j) v)) is
    ∙ ap (goes_on t (Store U64 (stack_slot_place j) r)) (store_there knows t h j y below)

pub store_constant_acts : (knows : ℕ → ℕ → Type 0) (p : Program) (clock : ℕ → ℕ) (t : State) (k : ℤ)
    (j : ℕ) → (h : HasKnownStackSlots knows t) → j < 64
    → act p clock t (StoreConstant U64 (stack_slot_place j) k)
    ≡ Next (go_to (stored t h.call_frame j (unsigned Full64 k)) (t.slot + 1))
unfolding act
store_constant_acts knows p clock t k j h below =
    ap (goes_on t (StoreConstant U64 (stack_slot_place j) k))
    (store_there knows t h j (unsigned Full64 k) below)
