-- Loads and stores of the meaning at a live call frame: the cells of its slots.
use Rattle.stack_state.proofs.Common.{◌≡◌, ◌≢◌, ℕ, ◌+◌, ◌*◌, ◌≤◌, ℤ, pos, ◌+ℤ◌, nat_le, true, List, map, length, slice_set, All, Some, Result, Ok, sym, ◌∙◌, subst, refl, le-leb, length-map, stack_size, Size, U64, Value, Num, Ptr, Cell, Byte, size_bytes, bytes_of, call_frame_index, index_from, index_at, read, write, number_in, value_in, load, load_number, store, IsCell, Scalar, Kind, Has, Assigned, Allows, StackSlot, part_of, cells_with, stored_cells, StackMeans, StoresBytes, Spills, LoadsNumber, LoadsSlot}
use Rattle.isa_model.specs.declared.values.Region.TheVariants as region
use Rattle.isa_model.specs.declared.values.Value.TheVariants as value
use Rattle.isa_model.specs.declared.ends.TrapReason.{TrapReason}
use Rattle.isa_model.specs.Machine.States.{State, call_frame_at}
use Rattle.stack_state.proofs.CellLaws.{length-bytes_of}

-- a pointer into the frame of this serial, which is the jth, moved by an instruction's offset: n
-- cells from `at` on are there
pub record IsHere (s : State) (serial j at n : ℕ) (z by : ℤ) : Type 0 where
  pub found : call_frame_index s.frames serial ≡ Some j
  pub index : index_from ((z +ℤ by) +ℤ pos stack_size) ≡ Some at
  pub inside : at + n ≤ length (call_frame_at s.frames j).cells

-- the machine state with other cells in the jth frame
abbrev pub with_cells : State → ℕ → List Cell → State
with_cells s j cells =
    record s { frames = slice_set s.frames j (record (call_frame_at s.frames j) { cells = cells }) }

pub read_here : (s : State) (serial j at n : ℕ) (z by : ℤ) → IsHere s serial j at n z by
    → read s (region.CallFrame serial) (index_at (region.CallFrame serial) (z +ℤ by)) n
    ≡ Ok (part_of (call_frame_at s.frames j).cells at n)
read_here s serial j at n z by h =
    let inside : nat_le (at + n) (length (call_frame_at s.frames j).cells) ≡ true =
    le-leb (at + n) (length (call_frame_at s.frames j).cells) h.inside in
    rw (h.index, h.found, inside)

write_here : (s : State) (serial j at : ℕ) (z by : ℤ) (new : List Cell)
    → IsHere s serial j at (length new) z by
    → write s (region.CallFrame serial) (index_at (region.CallFrame serial) (z +ℤ by)) new
    ≡ Ok (with_cells s j (cells_with (call_frame_at s.frames j).cells at new))
write_here s serial j at z by new h =
    let inside : nat_le (at + length new) (length (call_frame_at s.frames j).cells) ≡ true =
    le-leb (at + length new) (length (call_frame_at s.frames j).cells) h.inside in
    rw (h.index, h.found, inside)

-- ---- loads

pub load_number_here : (s : State) (size : Size) (serial j at : ℕ) (z by : ℤ)
    → IsHere s serial j at (size_bytes size) z by
    → load_number s size (Ptr (region.CallFrame serial) z) by
    ≡ number_in (part_of (call_frame_at s.frames j).cells at (size_bytes size))
load_number_here s size serial j at z by h = rw (read_here s serial j at (size_bytes size) z by h)

pub load_here : (s : State) (serial j at : ℕ) (z by : ℤ) → IsHere s serial j at 8 z by
    → load s U64 (Ptr (region.CallFrame serial) z) by
    ≡ value_in (part_of (call_frame_at s.frames j).cells at 8)
load_here s serial j at z by h = rw (read_here s serial j at 8 z by h)

-- where `load` returns numbers, the load of the bytes returns one of them
pub loads_here : (e : Assigned) (s : State) (slots : List StackSlot) (size : Size)
    (serial j at count next : ℕ) (z by : ℤ) (numbers : Scalar)
    → IsHere s serial j at (size_bytes size) z by
    → All (IsCell count next) (call_frame_at s.frames j).cells
    → StackMeans e slots (call_frame_at s.frames j).cells → LoadsNumber slots at size (Some numbers)
    → (n : ℕ) × (load_number s size (Ptr (region.CallFrame serial) z) by ≡ Ok n) × Has numbers n
unfolding LoadsNumber
loads_here e s slots size serial j at count next z by numbers h fit m l =
    let (n, read, has) = l e count next (call_frame_at s.frames j).cells fit m in
    (n, load_number_here s size serial j at z by h ∙ read, has)

-- where `fill` returns a kind, the load of the whole slot returns a value that it allows
pub fills_here : (e : Assigned) (s : State) (slots : List StackSlot) (serial j k count next : ℕ)
    (z by : ℤ) (kind : Kind)
    → IsHere s serial j (8 * k) 8 z by → All (IsCell count next) (call_frame_at s.frames j).cells
    → StackMeans e slots (call_frame_at s.frames j).cells → LoadsSlot slots k (Some kind)
    → (v : Value) × (load s U64 (Ptr (region.CallFrame serial) z) by ≡ Ok v) × Allows e kind v
unfolding LoadsSlot
fills_here e s slots serial j k count next z by kind h fit m f =
    let (v, read, allowed) = f e count next (call_frame_at s.frames j).cells fit m in
    (v, load_here s serial j (8 * k) z by h ∙ read, allowed)

-- ---- stores

-- the machine state that is left, and what the frame's slots then mean
abbrev pub LeavesFrame : State → ℕ → Assigned → List StackSlot → Result State TrapReason → Type 0
LeavesFrame s j e slots went =
    (cells : List Cell) × (went ≡ Ok (with_cells s j cells)) × StackMeans e slots cells

pub stores_here : (e : Assigned) (s : State) (old new : List StackSlot) (size : Size)
    (serial j at n : ℕ) (z by : ℤ)
    → IsHere s serial j at (size_bytes size) z by
    → StackMeans e old (call_frame_at s.frames j).cells
    → StoresBytes old at size new
    → LeavesFrame s j e new (store s size (Ptr (region.CallFrame serial) z) by (Num n))
unfolding StoresBytes
stores_here e s old new size serial j at n z by h m stores =
    let bytes : List Cell = map Byte (bytes_of size n) in
    let long : length bytes ≡ size_bytes size = length-map (bytes_of size n) Byte
    ∙ length-bytes_of size n in
    let here : IsHere s serial j at (length bytes) z by =
    subst (λ (k : ℕ). IsHere s serial j at k z by) (sym long) h in (
      cells_with (call_frame_at s.frames j).cells at bytes,
      write_here s serial j at z by bytes here,
      stores e (call_frame_at s.frames j).cells n m,
    )

pub spills_here : (e : Assigned) (s : State) (old new : List StackSlot) (serial j k : ℕ) (z by : ℤ)
    (kind : Kind) (v : Value)
    → IsHere s serial j (8 * k) 8 z by → v ≢ value.Unset → Allows e kind v
    → StackMeans e old (call_frame_at s.frames j).cells → Spills old k kind new
    → LeavesFrame s j e new (store s U64 (Ptr (region.CallFrame serial) z) by v)
unfolding Spills
spills_here e s old new serial j k z by kind value.Unset h set allowed m spills = absurd (set refl)
spills_here e s old new serial j k z by kind (Num n) h set allowed m spills = (
  cells_with (call_frame_at s.frames j).cells (8 * k) (stored_cells (Num n)),
  write_here s serial j (8 * k) z by (stored_cells (Num n)) h,
  spills e (call_frame_at s.frames j).cells (Num n) set allowed m,
)
spills_here e s old new serial j k z by kind (Ptr r y) h set allowed m spills = (
  cells_with (call_frame_at s.frames j).cells (8 * k) (stored_cells (Ptr r y)),
  write_here s serial j (8 * k) z by (stored_cells (Ptr r y)) h,
  spills e (call_frame_at s.frames j).cells (Ptr r y) set allowed m,
)
