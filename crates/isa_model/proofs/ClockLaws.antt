-- A run asks the clock at most once a step, so only the clock's first answers count.
use Rattle.isa_model.proofs.Common.{◌≡◌, ℕ, zero, suc, ◌+◌, ◌<◌, ◌≤◌, ◌==◌, Bool, true, false, if◌then◌else◌, ℤ, ◌+ℤ◌, List, map, length, slice_index, Option, Some, None, Result, Ok, Err, IfOk, ap, ◌∙◌, arith, refl, list_any, range_with_len, Reg, R0, R1, R2, R3, R4, Width, Full64, Size, U8, U16, U32, U64, Insn, Alu, Neg, MovSx, ByteSwap, LoadNumber, LoadMap, LoadMapValue, Load, LoadSx, StoreConstant, Store, Atomic, Exchange, CompareExchange, Jump, JumpLong, JumpIf, CallHelper, CallLocal, Exit, Region, Value, Unset, Num, Ptr, Cell, Byte, MapDef, FrameHead, TrapReason, Version, UnsetRead, ReadOnly, TooManyCallFrames, BadAction, width_size, low, unsigned, alu, bytes_of, atomic_alu, Program, fetch, reads, writes, is_frame_pointer, KeyValues, State, reg, content_of, and_then, pieces, index_at, place_of, put, write, load_number, store_number, store_pointer, store, max_call_frames, enter, leave, update_answer, delete_answer, StepResult, Next, Finished, Trapped, map_pointer, value_pointer, base_of, destination, sets, goes_on, branches, test_of, is_answer, finishes, swaps_in, fetched_into, act, is_unset, performed_at, step, start_state, Progress, GoesOn, Ended, after_step, advanced, progress, turn_of, turn}
use Rattle.std.proofs.lemmas.List.FromFn.{get_or-map-range_with_len}
use Rattle.isa_model.specs.declared.instructions.Place.{Place}
use Rattle.isa_model.specs.declared.values.Region.TheVariants as region
use Rattle.isa_model.specs.declared.helpers.Helper.{Helper}
use Rattle.isa_model.specs.declared.helpers.Helper.TheVariants.{MapLookupElem, MapUpdateElem, MapDeleteElem, KtimeGetNs}
use Rattle.isa_model.specs.Code.Helpers.{helper_numbered}
use Rattle.isa_model.specs.Machine.MapHelpers.{Helped, put_bytes, remove_key, map_update_elem, map_delete_elem}
use Rattle.isa_model.specs.Machine.HelperCalls.{map_argument, bytes_argument, number_argument, bytes_at, lookup_call, update_call, delete_call, helper_call, after_call}
use Rattle.isa_model.proofs.ValueLaws.{IfOk-and_then, IfOk-then}
use Rattle.isa_model.proofs.StepLaws.{IfNext, with_number}

-- ---- how often a step asks

-- in both states the clock has been asked equally often
abbrev pub AskedAlike : State → State → Type 0
AskedAlike s t = t.clock_calls ≡ s.clock_calls

put_asks : (s : State) (r : Region) (i : ℕ) (new : List Cell) → AskedAlike s (put s r i new)
put_asks s (region.CallFrame n) i new = refl
put_asks s region.Packet i new = refl
put_asks s (region.MapValue m n) i new = refl
put_asks s region.Context i new = refl
put_asks s region.PacketEnd i new = refl
put_asks s (region.Map m) i new = refl

write_asks : (s : State) (r : Region) (o : Option ℕ) (new : List Cell)
    → IfOk (write s r o new) (AskedAlike s)
write_asks s r o new = found (place_of s r o (length new))
  where
    found : (index : Result ℕ TrapReason)
        → IfOk (and_then index (λ i. Ok (put s r i new))) (AskedAlike s)
    found (Ok i) = put_asks s r i new
    found (Err e) = tt

store_number_asks : (s : State) (size : Size) (v : Value) (by : ℤ) (n : ℕ)
    → IfOk (store_number s size v by n) (AskedAlike s)
store_number_asks s size (Ptr r z) by n =
    write_asks s r (index_at r (z +ℤ by)) (map Byte (bytes_of size n))
store_number_asks s size (Num m) by n = tt
store_number_asks s size Unset by n = tt

store_pointer_asks : (s : State) (size : Size) (v : Value) (by : ℤ) (q : Region) (y : ℤ)
    → IfOk (store_pointer s size v by q y) (AskedAlike s)
store_pointer_asks s U64 (Ptr (region.CallFrame n) z) by q y =
    write_asks s (region.CallFrame n) (index_at (region.CallFrame n) (z +ℤ by)) (pieces q y)
store_pointer_asks s U64 (Ptr region.Context z) by q y = tt
store_pointer_asks s U64 (Ptr region.Packet z) by q y = tt
store_pointer_asks s U64 (Ptr region.PacketEnd z) by q y = tt
store_pointer_asks s U64 (Ptr (region.Map m) z) by q y = tt
store_pointer_asks s U64 (Ptr (region.MapValue m n) z) by q y = tt
store_pointer_asks s U64 (Num n) by q y = tt
store_pointer_asks s U64 Unset by q y = tt
store_pointer_asks s U8 v by q y = tt
store_pointer_asks s U16 v by q y = tt
store_pointer_asks s U32 v by q y = tt

store_asks : (s : State) (size : Size) (base : Value) (by : ℤ) (v : Value)
    → IfOk (store s size base by v) (AskedAlike s)
store_asks s size base by (Num n) = store_number_asks s size base by n
store_asks s size base by (Ptr q y) = store_pointer_asks s size base by q y
store_asks s size base by Unset = tt

fetched_into_asks : (fetched : Bool) (r : Reg) (old : ℕ) (s : State)
    → AskedAlike s (fetched_into fetched r old s)
fetched_into_asks true r old s = refl
fetched_into_asks false r old s = refl

swaps_in_asks : (s : State) (w : Width) (place : Place) (new : ℕ → ℕ) (fetched : Bool) (r : Reg)
    → IfOk (swaps_in s w place new (fetched_into fetched r)) (AskedAlike s)
swaps_in_asks s w place new fetched r =
    found (load_number s (width_size w) (base_of s place) place.offset)
  where
    found : (loaded : Result ℕ TrapReason)
        → IfOk (and_then loaded
        (λ n. and_then (store_number s (width_size w) (base_of s place) place.offset (new n))
        (λ t. Ok (fetched_into fetched r n t)))) (AskedAlike s)
    found (Ok n) =
        IfOk-and_then (AskedAlike s) (AskedAlike s)
        (store_number s (width_size w) (base_of s place) place.offset (new n))
        (λ t. Ok (fetched_into fetched r n t))
        (store_number_asks s (width_size w) (base_of s place) place.offset (new n))
        (λ t h. fetched_into_asks fetched r n t ∙ h)
    found (Err e) = tt

-- in the second state the clock has been asked at most once more
abbrev pub AsksOnce : State → State → Type 0
AsksOnce s t = t.clock_calls ≤ s.clock_calls + 1

goes_on_asks : (s : State) (i : Insn) (r : Result State TrapReason) → IfOk r (AskedAlike s)
    → IfNext (goes_on s i r) (AsksOnce s)
goes_on_asks s i (Ok t) h = omega arith
goes_on_asks s i (Err e) h = tt

goes_on_asks_once : (s : State) (i : Insn) (r : Result State TrapReason) → IfOk r (AsksOnce s)
    → IfNext (goes_on s i r) (AsksOnce s)
goes_on_asks_once s i (Ok t) h = h
goes_on_asks_once s i (Err e) h = tt

branches_asks : (p : Program) (s : State) (by : ℤ) (r : Result Bool TrapReason)
    → IfNext (branches s p by r) (AsksOnce s)
branches_asks p s by (Ok true) = omega arith
branches_asks p s by (Ok false) = omega arith
branches_asks p s by (Err e) = tt

sets_asks : (s : State) (i : Insn) (d : Reg) (r : Result Value TrapReason)
    → IfNext (sets s i d r) (AsksOnce s)
sets_asks s i d (Ok v) = omega arith
sets_asks s i d (Err e) = tt

-- an update does not ask the clock, nor does a delete
updated_asks : (row : MapDef) (s : State) (m : ℕ) (key bytes : List ℕ) (flags : ℕ)
    → AskedAlike s (map_update_elem row s m key bytes flags).state
updated_asks row s m key bytes flags = either (update_answer row (content_of s m) key flags == 0)
  where
    either : (b : Bool) → AskedAlike s (if b then put_bytes s m key bytes else s)
    either true = refl
    either false = refl

deleted_asks : (row : MapDef) (s : State) (m : ℕ) (key : List ℕ)
    → AskedAlike s (map_delete_elem row s m key).state
deleted_asks row s m key = either (delete_answer row (content_of s m) key == 0)
  where
    either : (b : Bool) → AskedAlike s (if b then remove_key s m key else s)
    either true = refl
    either false = refl

-- in the state that the helper leaves the clock has been asked as often as before
abbrev LeavesSame : State → Helped → Type 0
LeavesSame s helped = AskedAlike s helped.state

lookup_call_asks : (p : Program) (s : State) → IfOk (lookup_call p s) (LeavesSame s)
lookup_call_asks p s =
    IfOk-then (LeavesSame s) (map_argument p (reg s R1)) _ (λ m.
    IfOk-then (LeavesSame s) (bytes_argument (reg s R2)) _ (λ key_argument.
    IfOk-then (LeavesSame s) (bytes_at s key_argument m.row.key_size) _ (λ key. refl)))

update_call_asks : (p : Program) (s : State) → IfOk (update_call p s) (LeavesSame s)
update_call_asks p s =
    IfOk-then (LeavesSame s) (map_argument p (reg s R1)) _ (λ m.
    IfOk-then (LeavesSame s) (bytes_argument (reg s R2)) _ (λ key_argument.
    IfOk-then (LeavesSame s) (bytes_argument (reg s R3)) _ (λ value_argument.
    IfOk-then (LeavesSame s) (number_argument (reg s R4)) _ (λ flags.
    IfOk-then (LeavesSame s) (bytes_at s key_argument m.row.key_size) _ (λ key.
    IfOk-then (LeavesSame s) (bytes_at s value_argument m.row.value_size) _ (λ bytes.
    updated_asks m.row s m.index key bytes flags))))))

delete_call_asks : (p : Program) (s : State) → IfOk (delete_call p s) (LeavesSame s)
delete_call_asks p s =
    IfOk-then (LeavesSame s) (map_argument p (reg s R1)) _ (λ m.
    IfOk-then (LeavesSame s) (bytes_argument (reg s R2)) _ (λ key_argument.
    IfOk-then (LeavesSame s) (bytes_at s key_argument m.row.key_size) _ (λ key.
    deleted_asks m.row s m.index key)))

after_call_asks : (s : State) (called : Result Helped TrapReason) → IfOk called (LeavesSame s)
    → IfOk (after_call called) (AsksOnce s)
after_call_asks s (Ok helped) h = omega arith
after_call_asks s (Err e) h = tt

helper_call_asks : (p : Program) (clock : ℕ → ℕ) (s : State) (o : Option Helper)
    → IfOk (after_call (helper_call p clock s o)) (AsksOnce s)
helper_call_asks p clock s (Some MapLookupElem) =
    after_call_asks s (lookup_call p s) (lookup_call_asks p s)
helper_call_asks p clock s (Some MapUpdateElem) =
    after_call_asks s (update_call p s) (update_call_asks p s)
helper_call_asks p clock s (Some MapDeleteElem) =
    after_call_asks s (delete_call p s) (delete_call_asks p s)
helper_call_asks p clock s (Some KtimeGetNs) = omega arith
helper_call_asks p clock s None = tt

if_next : (P : State → Type 0) (b : Bool) (q r : StepResult) → IfNext q P → IfNext r P
    → IfNext (if b then q else r) P
if_next P true q r h k = h
if_next P false q r h k = k

finishes_asks : (s : State) (version : Version) (v : Value)
    → IfNext (finishes version v) (AsksOnce s)
finishes_asks s version (Num n) =
    if_next (AsksOnce s) (is_answer version n) (Finished n) (Trapped BadAction) tt tt
finishes_asks s version (Ptr r z) = tt
finishes_asks s version Unset = tt

act_asks : (p : Program) (clock : ℕ → ℕ) (s : State) (i : Insn)
    → IfNext (act p clock s i) (AsksOnce s)
unfolding act
act_asks p clock s (Alu w op d x) = sets_asks s (Alu w op d x) d _
act_asks p clock s (Neg w d) = sets_asks s (Neg w d) d _
act_asks p clock s (MovSx e d r) = sets_asks s (MovSx e d r) d _
act_asks p clock s (ByteSwap order span d) = sets_asks s (ByteSwap order span d) d _
act_asks p clock s (LoadNumber d n) = sets_asks s (LoadNumber d n) d (Ok (Num n))
act_asks p clock s (LoadMap d m) = sets_asks s (LoadMap d m) d (Ok (map_pointer m))
act_asks p clock s (LoadMapValue d m offset) = sets_asks s (LoadMapValue d m offset) d
    (Ok (value_pointer s m offset))
act_asks p clock s (Load size d place) = sets_asks s (Load size d place) d _
act_asks p clock s (LoadSx size d place) = sets_asks s (LoadSx size d place) d _
act_asks p clock s (StoreConstant size place n) =
    goes_on_asks s (StoreConstant size place n) _
    (store_asks s size (base_of s place) place.offset (Num (unsigned Full64 n)))
act_asks p clock s (Store size place r) = goes_on_asks s (Store size place r) _
    (store_asks s size (base_of s place) place.offset (reg s r))
act_asks p clock s (Atomic w op fetched place r) =
    goes_on_asks s (Atomic w op fetched place r) _
    (with_number (AskedAlike s) (reg s r) _
    (λ b. swaps_in_asks s w place (λ a. alu (atomic_alu op) w a b) fetched r))
act_asks p clock s (Exchange w place r) =
    goes_on_asks s (Exchange w place r) _
    (with_number (AskedAlike s) (reg s r) _ (λ b. swaps_in_asks s w place (λ a. b) true r))
act_asks p clock s (CompareExchange w place r) =
    goes_on_asks s (CompareExchange w place r) _
    (with_number (AskedAlike s) (reg s r) _ (λ b. with_number (AskedAlike s) (reg s R0) _
    (λ expected. swaps_in_asks s w place (λ a. if a == low w expected then b else a) true R0)))
act_asks p clock s (Jump by) = omega arith
act_asks p clock s (JumpLong by) = omega arith
act_asks p clock s (JumpIf cond by) = branches_asks p s by (test_of s cond)
act_asks p clock s (CallHelper number) =
    goes_on_asks_once s (CallHelper number) _ (helper_call_asks p clock s (helper_numbered number))
act_asks p clock s (CallLocal by) =
    if_next (AsksOnce s) (length s.frames == max_call_frames) (Trapped TooManyCallFrames)
    (Next (enter s (destination p s.slot by))) tt (omega arith)
act_asks p clock s Exit =
    if_next (AsksOnce s) (length s.frames == 1) (finishes p.version (reg s R0)) (Next (leave s))
    (finishes_asks s p.version (reg s R0)) (omega arith)

performed_at_asks : (p : Program) (clock : ℕ → ℕ) (s : State) (o : Option Insn)
    → IfNext (performed_at p clock s o) (AsksOnce s)
performed_at_asks p clock s None = tt
performed_at_asks p clock s (Some i) =
    if_next (AsksOnce s) (list_any (λ r. is_unset (reg s r)) (reads i)) (Trapped UnsetRead) _ tt
    (if_next (AsksOnce s) (is_frame_pointer (writes i)) (Trapped ReadOnly) (act p clock s i) tt
    (act_asks p clock s i))

-- a step asks the clock at most once
pub step-clock_calls : (p : Program) (clock : ℕ → ℕ) (s : State)
    → IfNext (step p clock s) (AsksOnce s)
unfolding step
step-clock_calls p clock s = performed_at_asks p clock s (fetch p s.slot)

-- ---- which answer counts

helper_call-clock : (p : Program) (clock other : ℕ → ℕ) (s : State) (o : Option Helper)
    → clock s.clock_calls ≡ other s.clock_calls
    → helper_call p clock s o ≡ helper_call p other s o
helper_call-clock p clock other s (Some MapLookupElem) h = refl
helper_call-clock p clock other s (Some MapUpdateElem) h = refl
helper_call-clock p clock other s (Some MapDeleteElem) h = refl
helper_call-clock p clock other s (Some KtimeGetNs) h = ap (λ n. Ok (clock_answer s n)) h
  where
    -- an answer of the clock
    clock_answer : State → ℕ → Helped
    clock_answer s n = record {
      answer = Num n;
      state = record s { clock_calls = s.clock_calls + 1 };
    }
helper_call-clock p clock other s None h = refl

act-clock : (p : Program) (clock other : ℕ → ℕ) (s : State) (i : Insn)
    → clock s.clock_calls ≡ other s.clock_calls → act p clock s i ≡ act p other s i
unfolding act
act-clock p clock other s (Alu w op d x) h = refl
act-clock p clock other s (Neg w d) h = refl
act-clock p clock other s (MovSx e d r) h = refl
act-clock p clock other s (ByteSwap order span d) h = refl
act-clock p clock other s (LoadNumber d n) h = refl
act-clock p clock other s (LoadMap d m) h = refl
act-clock p clock other s (LoadMapValue d m offset) h = refl
act-clock p clock other s (Load size d place) h = refl
act-clock p clock other s (LoadSx size d place) h = refl
act-clock p clock other s (StoreConstant size place n) h = refl
act-clock p clock other s (Store size place r) h = refl
act-clock p clock other s (Atomic w op fetched place r) h = refl
act-clock p clock other s (Exchange w place r) h = refl
act-clock p clock other s (CompareExchange w place r) h = refl
act-clock p clock other s (Jump by) h = refl
act-clock p clock other s (JumpLong by) h = refl
act-clock p clock other s (JumpIf cond by) h = refl
act-clock p clock other s (CallHelper number) h =
    ap (λ called. goes_on s (CallHelper number) (after_call called))
    (helper_call-clock p clock other s (helper_numbered number) h)
act-clock p clock other s (CallLocal by) h = refl
act-clock p clock other s Exit h = refl

performed_at-clock : (p : Program) (clock other : ℕ → ℕ) (s : State) (o : Option Insn)
    → clock s.clock_calls ≡ other s.clock_calls
    → performed_at p clock s o ≡ performed_at p other s o
performed_at-clock p clock other s None h = refl
performed_at-clock p clock other s (Some i) h =
    ap (λ r. if list_any (λ r. is_unset (reg s r)) (reads i) then Trapped UnsetRead
    else if is_frame_pointer (writes i) then Trapped ReadOnly else r)
    (act-clock p clock other s i h)

-- a step depends on the one answer that it may ask for
pub step-clock : (p : Program) (clock other : ℕ → ℕ) (s : State)
    → clock s.clock_calls ≡ other s.clock_calls → step p clock s ≡ step p other s
unfolding step
step-clock p clock other s h = performed_at-clock p clock other s (fetch p s.slot) h

-- ---- runs

-- a run that goes on after n steps has asked the clock at most n times more than c
abbrev pub AskedBelow : ℕ → ℕ → Progress → Type 0
AskedBelow c n (GoesOn t) = t.clock_calls ≤ c + n
AskedBelow c n (Ended e t) = Unit {0}

advanced_asks : (p : Program) (clock : ℕ → ℕ) (c n : ℕ) (q : Progress) → AskedBelow c n q
    → AskedBelow c (suc n) (advanced p clock n q)
advanced_asks p clock c n (Ended e t) h = tt
advanced_asks p clock c n (GoesOn t) h = stepped (step p clock t) (step-clock_calls p clock t)
  where
    stepped : (r : StepResult) → IfNext r (AsksOnce t) → AskedBelow c (suc n) (after_step n t r)
    stepped (Next u) k = omega arith
    stepped (Finished a) k = tt
    stepped (Trapped e) k = tt

pub progress-clock_calls : (p : Program) (clock : ℕ → ℕ) (n : ℕ) (s : State)
    → AskedBelow s.clock_calls n (progress p clock n s)
unfolding progress
progress-clock_calls p clock zero s = omega arith
progress-clock_calls p clock (suc n) s =
    advanced_asks p clock s.clock_calls n (progress p clock n s) (progress-clock_calls p clock n s)

advanced-clock : (p : Program) (clock other : ℕ → ℕ) (c n m : ℕ) (q : Progress)
    → ((k : ℕ) → k < m → clock k ≡ other k) → c + n < m → AskedBelow c n q
    → advanced p clock n q ≡ advanced p other n q
advanced-clock p clock other c n m (Ended e t) same within h = refl
advanced-clock p clock other c n m (GoesOn t) same within h =
    ap (after_step n t) (step-clock p clock other t (same t.clock_calls (omega arith)))

-- n steps are the same with two clocks whose first m answers are the same, where n and how often
-- the clock was asked before are together at most m
pub progress-clock : (p : Program) (clock other : ℕ → ℕ) (n m : ℕ) (s : State)
    → ((k : ℕ) → k < m → clock k ≡ other k) → s.clock_calls + n ≤ m
    → progress p clock n s ≡ progress p other n s
unfolding progress
progress-clock p clock other zero m s same within = refl
progress-clock p clock other (suc n) m s same within =
    advanced-clock p clock other s.clock_calls n m (progress p clock n s) same (omega arith)
    (progress-clock_calls p clock n s)
    ∙ ap (advanced p other n) (progress-clock p clock other n m s same (omega arith))

-- and so is a turn within a limit of m steps
pub turn-clock : (p : Program) (limit : ℕ) (clock other : ℕ → ℕ) (head : FrameHead)
    (packet : List ℕ) (contents : List KeyValues) → ((k : ℕ) → k < limit → clock k ≡ other k)
    → turn p limit clock head packet contents ≡ turn p limit other head packet contents
unfolding turn start_state
turn-clock p limit clock other head packet contents same =
    ap turn_of (progress-clock p clock other limit limit (start_state head packet contents) same
    (omega arith))

-- ---- a clock as a list of answers

-- the answer at an index, and 0 past the end
abbrev pub clock_of : List ℕ → ℕ → ℕ
clock_of answers k = slice_index answers k

-- the first n answers of a clock
abbrev pub answers_of : (ℕ → ℕ) → ℕ → List ℕ
answers_of clock n = map clock (range_with_len 0 n)

pub clock_of-answers_of : (clock : ℕ → ℕ) (n k : ℕ) → k < n
    → clock_of (answers_of clock n) k ≡ clock k
clock_of-answers_of clock n k h = get_or-map-range_with_len clock 0 n k k 0 h (omega arith)

-- the turn within a limit of at most n steps is the same with a clock and with the list of its
-- first n answers
pub turn-answers_of : (p : Program) (limit n : ℕ) (clock : ℕ → ℕ) (head : FrameHead)
    (packet : List ℕ) (contents : List KeyValues) → limit ≤ n
    → turn p limit (clock_of (answers_of clock n)) head packet contents
    ≡ turn p limit clock head packet contents
turn-answers_of p limit n clock head packet contents le =
    turn-clock p limit (clock_of (answers_of clock n)) clock head packet contents
    (λ k h. clock_of-answers_of clock n k (omega arith))
