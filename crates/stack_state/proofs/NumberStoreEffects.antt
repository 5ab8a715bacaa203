-- Bytes of a number stored into a live call frame: where the machine does not trap, its next state
-- is a member of the state that is left.
use Rattle.stack_state.proofs.Common.{◌≡◌, ℕ, ◌+◌, ◌<◌, ℤ, ◌+ℤ◌, nat_le, true, List, [], map, length, All, Ok, sym, ◌∙◌, subst, arith, le-leb, length-map, Size, Num, Ptr, Cell, Byte, size_bytes, bytes_of, Program, new_call_frame, call_frame_at, index_at, write, store, IsCell, IsCallFrame, Scalar, Has, Assigned, StackSlot, State, depth, stack_slots_of, MeansBy, cells_with, StackMeans, StoresNumber, with_frame_slots}
use Rattle.isa_model.specs.declared.values.Region.TheVariants as region
use Rattle.isa_model.specs.Machine.States as Machine
use Rattle.stack_state.proofs.MeaningLaws.{depth_is_length}
use Rattle.stack_state.proofs.CellLaws.{length-bytes_of}
use Rattle.stack_state.proofs.FrameLaws.{IsHere, with_cells, LeavesFrame}
use Rattle.stack_state.proofs.EffectLaws.{IfLeft, MeansBy-cells, cells_fit}

write_there : (s : Machine.State) (serial j at : ℕ) (z by : ℤ) (new : List Cell)
    → IsHere s serial j at (length new) z by
    → write s (region.CallFrame serial) (index_at (region.CallFrame serial) (z +ℤ by)) new
    ≡ Ok (with_cells s j (cells_with (call_frame_at s.frames j).cells at new))
write_there s serial j at z by new h =
    let inside : nat_le (at + length new) (length (call_frame_at s.frames j).cells) ≡ true =
    le-leb (at + length new) (length (call_frame_at s.frames j).cells) h.inside in
    rw (h.index, h.found, inside)

stores_number_here : (e : Assigned) (s : Machine.State) (old new : List StackSlot) (size : Size)
    (serial j at n count next : ℕ) (z by : ℤ) (numbers : Scalar)
    → IsHere s serial j at (size_bytes size) z by
    → All (IsCell count next) (call_frame_at s.frames j).cells → Has numbers n
    → StackMeans e old (call_frame_at s.frames j).cells → StoresNumber old at size numbers new
    → LeavesFrame s j e new (store s size (Ptr (region.CallFrame serial) z) by (Num n))
unfolding StoresNumber
stores_number_here e s old new size serial j at n count next z by numbers h fit has m stores =
    let bytes : List Cell = map Byte (bytes_of size n) in
    let long : length bytes ≡ size_bytes size = length-map (bytes_of size n) Byte
    ∙ length-bytes_of size n in
    let here : IsHere s serial j at (length bytes) z by =
    subst (λ (k : ℕ). IsHere s serial j at k z by) (sym long) h in (
      cells_with (call_frame_at s.frames j).cells at bytes,
      write_there s serial j at z by bytes here,
      stores e count next (call_frame_at s.frames j).cells n fit has m,
    )

-- bytes of one of the numbers are stored
pub MeansBy-stores_number : (p : Program) (e : Assigned) (a : State) (s : Machine.State)
    (new : List StackSlot) (size : Size) (serial j at n : ℕ) (z by : ℤ)
    (numbers : Scalar) → j < depth a → IsHere s serial j at (size_bytes size) z by → Has numbers n
    → StoresNumber (stack_slots_of a j) at size numbers new → MeansBy p e a s
    → IfLeft p e (with_frame_slots a j new)
    (store s size (Ptr (region.CallFrame serial) z) by (Num n))
MeansBy-stores_number p e a s new size serial j at n z by numbers inside here has stores m =
    let (cells, went, stack) =
    stores_number_here e s (stack_slots_of a j) new size serial j at n
    (length p.maps) s.next_serial z by numbers here
    (cells_fit p e a s j inside m) has (m.stacks j inside) stores in
    (with_cells s j cells, went, λ is. MeansBy-cells p e a s j new cells inside is stack m)
