-- A step from a state of a program leads to a state of it, and the start state is one.
use Rattle.isa_model.proofs.Common.{◌≡◌, ◌≢◌, ℕ, zero, suc, ◌+◌, ◌^◌, ◌<◌, ◌≤◌, ◌==◌, Bool, true, false, if◌then◌else◌, ℤ, pos, negsuc, ◌+ℤ◌, ◌≤ℤ◌, List, [], ◌∷◌, ◌++◌, map, length, All, AllPairs, Option, Some, None, Result, Ok, Err, IfOk, sym, ap, ◌∙◌, subst, arith, add-zero, add-one, zero-add, unwrap_or, refl, list_any, flat_map, range_with_len, ints, nat_tests, All-nil, All-cons, All-replicate, All-from_recursion, Reg, R0, Width, Full64, Sub, Insn, Alu, Neg, MovSx, ByteSwap, LoadNumber, LoadMap, LoadMapValue, Load, LoadSx, StoreConstant, Store, Atomic, Exchange, CompareExchange, Jump, JumpLong, JumpIf, CallHelper, CallLocal, Exit, Value, Unset, Num, Ptr, CallFrame, TrapReason, UnsetRead, ReadOnly, TooManyCallFrames, BadAction, low, unsigned, alu, sign_extended, reordered, negated, atomic_alu, Program, fetch, slots_filled, reads, writes, is_frame_pointer, IsRow, NamesRows, KeyValues, key_values_of, State, reg, set_reg, frame_pointer, new_call_frame, and_then, max_call_frames, stack_size, enter, leave, StepResult, Next, Finished, Trapped, map_pointer, value_pointer, operand_value, base_of, destination, sets, goes_on, jumps, branches, test_of, calls, is_answer, finishes, exits, atomic_number, act, is_unset, performed_at, step, numbered, numbered_maps, count_map_values, start_regs, start_state, GoesOn, Reaches, FrameHead, Unwritten, value_serials, IsClock, IsGiven, IsProgram, IsValue, IsCell, IsCallFrame, IsSlot, IsState}
use Rattle.std.specs.Int.{w16, w32}
use Rattle.std.specs.Int.RustNames.{FitsSigned}
use Rattle.std.proofs.lemmas.List.FromFn.{length-range_with_len, get_or-range_with_len}
use Rattle.isa_model.specs.declared.instructions.Operand.{Operand}
use Rattle.isa_model.specs.declared.instructions.Operand.TheVariants.{Constant, Register}
use Rattle.isa_model.specs.declared.values.Region.TheVariants as region
use Rattle.isa_model.proofs.NumberLaws.{alu_fits, reordered_fits}
use Rattle.isa_model.proofs.ExtensionLaws.{sign_extended_fits}
use Rattle.isa_model.specs.Code.Spelling.{InsnFits, OperandFits}
use Rattle.isa_model.specs.Code.Helpers.{helper_numbered}
use Rattle.isa_model.proofs.RunLaws.{progress-zero}
use Rattle.isa_model.proofs.EndsLaws.{Reaches-last}
use Rattle.isa_model.proofs.ValueLaws.{unsigned_fits, arithmetic_fits, on_number_fits}
use Rattle.isa_model.proofs.StateLaws.{IsState-go_to, reg_fits, IsState-set_reg}
use Rattle.isa_model.proofs.CallLaws.{IsState-enter, IsState-leave}
use Rattle.isa_model.proofs.HelperLaws.{map_pointer_fits, value_pointer_fits}
use Rattle.isa_model.proofs.HelperStates.{helper_call_keeps}
use Rattle.isa_model.proofs.AccessLaws.{load_fits, load_signed_fits, store_keeps, swaps_in_keeps}

-- what holds of the next state, where there is one
abbrev pub IfNext : StepResult → (State → Type 0) → Type 0
IfNext (Next t) P = P t
IfNext (Finished a) P = Unit {0}
IfNext (Trapped e) P = Unit {0}

-- only a number goes on
pub with_number : {A : Type 0} (P : A → Type 0) (v : Value) (go : ℕ → Result A TrapReason)
    → ((n : ℕ) → IfOk (go n) P)
    → IfOk (and_then (atomic_number v) go) P
with_number P (Num n) go h = h n
with_number P (Ptr r z) go h = tt
with_number P Unset go h = tt

-- ---- results

sets_keeps : (p : Program) (s : State) (i : Insn) (d : Reg) (r : Result Value TrapReason)
    → IsSlot p (s.slot + slots_filled i)
    → IfOk r (IsValue (length p.maps) s.next_serial) → IsState p s
    → IfNext (sets s i d r) (IsState p)
sets_keeps p s i d (Ok v) at_slot h k =
    IsState-go_to p (set_reg s d v) (s.slot + slots_filled i) at_slot (IsState-set_reg p s d v h k)
sets_keeps p s i d (Err e) at_slot h k = tt

goes_on_keeps : (p : Program) (s : State) (i : Insn) (r : Result State TrapReason)
    → IsSlot p (s.slot + slots_filled i) → IfOk r (IsState p)
    → IfNext (goes_on s i r) (IsState p)
goes_on_keeps p s i (Ok t) at_slot h = IsState-go_to p t (s.slot + slots_filled i) at_slot h
goes_on_keeps p s i (Err e) at_slot h = tt

-- ---- jumps, calls and exits

slot_from : (p : Program) (z : ℤ) → z ≤ℤ pos (length p.insns + 2 ^ 31)
    → IsSlot p (unwrap_or (elim z [ pos n ↦ Some n | negsuc n ↦ None ]) (length p.insns))
slot_from p (pos n) h = omega (arith, ints)
slot_from p (negsuc n) h = omega arith

-- where a jump leads
destination_fits : (p : Program) (slot : ℕ) (by : ℤ) → slot + 1 ≤ length p.insns → FitsSigned w32 by
    → IsSlot p (destination p slot by)
destination_fits p slot by inside fits = slot_from p (pos (slot + 1) +ℤ by) (omega (arith, ints))

jumps_keep : (p : Program) (s : State) (by : ℤ) → s.slot + 1 ≤ length p.insns → FitsSigned w32 by
    → IsState p s → IfNext (jumps s p by) (IsState p)
jumps_keep p s by inside fits k =
    IsState-go_to p s (destination p s.slot by) (destination_fits p s.slot by inside fits) k

branches_keep : (p : Program) (s : State) (by : ℤ) (r : Result Bool TrapReason)
    → s.slot + 1 ≤ length p.insns → FitsSigned w32 by → IsState p s
    → IfNext (branches s p by r) (IsState p)
branches_keep p s by (Ok true) inside fits k = jumps_keep p s by inside fits k
branches_keep p s by (Ok false) inside fits k = IsState-go_to p s (s.slot + 1) (omega arith) k
branches_keep p s by (Err e) inside fits k = tt

calls_keep : (p : Program) (s : State) (by : ℤ) → s.slot + 1 ≤ length p.insns → FitsSigned w32 by
    → IsState p s → IfNext (calls s p by) (IsState p)
calls_keep p s by inside fits k = room (length s.frames == max_call_frames) refl
  where
    room : (full : Bool) → (length s.frames == max_call_frames) ≡ full
        → IfNext (if full then Trapped TooManyCallFrames
        else Next (enter s (destination p s.slot by)))
        (IsState p)
    room true e = tt
    room false e = IsState-enter p s (destination p s.slot by)
        (destination_fits p s.slot by inside fits) inside (λ h. grind (arith, nat_tests)) k

finishes_keeps : (p : Program) (v : Value) → IfNext (finishes p.version v) (IsState p)
finishes_keeps p (Num n) = done (is_answer p.version n)
  where
    done : (b : Bool) → IfNext (if b then Finished n else Trapped BadAction) (IsState p)
    done true = tt
    done false = tt
finishes_keeps p (Ptr r z) = tt
finishes_keeps p Unset = tt

exits_keep : (p : Program) (s : State) → IsState p s → IfNext (exits p.version s) (IsState p)
exits_keep p s k = by_depth (length s.frames == 1) refl
  where
    by_depth : (one : Bool) → (length s.frames == 1) ≡ one
        → IfNext (if one then finishes p.version (reg s R0) else Next (leave s)) (IsState p)
    by_depth true e = finishes_keeps p (reg s R0)
    by_depth false e = IsState-leave p s (λ h. grind (arith, nat_tests)) k

-- ---- the forms

-- an operand of a state is a value
operand_fits : (p : Program) (s : State) (w : Width) (x : Operand) → OperandFits x → IsState p s
    → IsValue (length p.maps) s.next_serial (operand_value s w x)
operand_fits p s w (Constant n) h k = unsigned_fits w n h
operand_fits p s w (Register r) h k = reg_fits p s r k

-- a distance of 16 bits is one of 32
wider : (by : ℤ) → FitsSigned w16 by → FitsSigned w32 by
wider by h = omega (arith, ints)

-- what a form does, once its registers are set, leaves a state
pub act_keeps : (p : Program) (clock : ℕ → ℕ) (s : State) (i : Insn) → InsnFits i
    → s.slot + slots_filled i ≤ length p.insns
    → All IsRow p.maps → NamesRows p.maps i → IsClock clock → IsState p s
    → IfNext (act p clock s i) (IsState p)
unfolding act
act_keeps p clock s (Alu w op d x) fits inside rows named answers k =
    sets_keeps p s (Alu w op d x) d _ (omega arith)
    (arithmetic_fits (length p.maps) s.next_serial op w (reg s d) (operand_value s w x)
    (reg_fits p s d k) (operand_fits p s w x fits k)) k
act_keeps p clock s (Neg w d) fits inside rows named answers k =
    sets_keeps p s (Neg w d) d _ (omega arith)
    (on_number_fits (length p.maps) s.next_serial (negated w) (reg s d)
    (λ n. alu_fits Sub w 0 n)) k
act_keeps p clock s (MovSx e d r) fits inside rows named answers k =
    sets_keeps p s (MovSx e d r) d _ (omega arith)
    (on_number_fits (length p.maps) s.next_serial (sign_extended e) (reg s r)
    (sign_extended_fits e)) k
act_keeps p clock s (ByteSwap order span d) fits inside rows named answers k =
    sets_keeps p s (ByteSwap order span d) d _ (omega arith)
    (on_number_fits (length p.maps) s.next_serial (reordered order span) (reg s d)
    (reordered_fits order span)) k
act_keeps p clock s (LoadNumber d n) fits inside rows named answers k =
    sets_keeps p s (LoadNumber d n) d (Ok (Num n)) (omega arith) fits k
act_keeps p clock s (LoadMap d m) fits inside rows named answers k =
    sets_keeps p s (LoadMap d m) d (Ok (map_pointer m)) (omega arith)
    (map_pointer_fits (length p.maps) s.next_serial m named) k
act_keeps p clock s (LoadMapValue d m offset) fits inside rows named answers k =
    sets_keeps p s (LoadMapValue d m offset) d (Ok (value_pointer s m offset)) (omega arith)
    (value_pointer_fits p s m offset rows named k) k
act_keeps p clock s (Load size d place) fits inside rows named answers k =
    sets_keeps p s (Load size d place) d _ (omega arith)
    (load_fits p s size (base_of s place) place.offset k) k
act_keeps p clock s (LoadSx size d place) fits inside rows named answers k =
    sets_keeps p s (LoadSx size d place) d _ (omega arith)
    (load_signed_fits p s size (base_of s place) place.offset k) k
act_keeps p clock s (StoreConstant size place n) fits inside rows named answers k =
    goes_on_keeps p s (StoreConstant size place n) _ (omega arith)
    (store_keeps p s size (base_of s place) place.offset (Num (unsigned Full64 n))
    (unsigned_fits Full64 n fits.1) k)
act_keeps p clock s (Store size place r) fits inside rows named answers k =
    goes_on_keeps p s (Store size place r) _ (omega arith)
    (store_keeps p s size (base_of s place) place.offset (reg s r) (reg_fits p s r k) k)
act_keeps p clock s (Atomic w op fetched place r) fits inside rows named answers k =
    goes_on_keeps p s (Atomic w op fetched place r) _ (omega arith)
    (with_number (IsState p) (reg s r) _
    (λ b. swaps_in_keeps p s w place (λ a. alu (atomic_alu op) w a b) fetched r k))
act_keeps p clock s (Exchange w place r) fits inside rows named answers k =
    goes_on_keeps p s (Exchange w place r) _ (omega arith)
    (with_number (IsState p) (reg s r) _ (λ b. swaps_in_keeps p s w place (λ a. b) true r k))
act_keeps p clock s (CompareExchange w place r) fits inside rows named answers k =
    goes_on_keeps p s (CompareExchange w place r) _ (omega arith)
    (with_number (IsState p) (reg s r) _ (λ b. with_number (IsState p) (reg s R0) _
    (λ expected. swaps_in_keeps p s w place (λ a. if a == low w expected then b else a) true R0 k)))
act_keeps p clock s (Jump by) fits inside rows named answers k =
    jumps_keep p s by (omega arith) (wider by fits) k
act_keeps p clock s (JumpLong by) fits inside rows named answers k =
    jumps_keep p s by (omega arith) fits k
act_keeps p clock s (JumpIf cond by) fits inside rows named answers k =
    branches_keep p s by (test_of s cond) (omega arith) (wider by fits.1) k
act_keeps p clock s (CallHelper number) fits inside rows named answers k =
    goes_on_keeps p s (CallHelper number) _ (omega arith)
    (helper_call_keeps p clock s (helper_numbered number) answers k)
act_keeps p clock s (CallLocal by) fits inside rows named answers k =
    calls_keep p s by (omega arith) fits k
act_keeps p clock s Exit fits inside rows named answers k = exits_keep p s k

IfNext-if : (P : State → Type 0) (b : Bool) (e : TrapReason) (r : StepResult) → IfNext r P
    → IfNext (if b then Trapped e else r) P
IfNext-if P true e r h = tt
IfNext-if P false e r h = h

performed_at_keeps : (p : Program) (clock : ℕ → ℕ) (s : State) (o : Option Insn)
    → fetch p s.slot ≡ o → IsProgram p → IsClock clock → IsState p s
    → IfNext (performed_at p clock s o) (IsState p)
performed_at_keeps p clock s None e h answers k = tt
performed_at_keeps p clock s (Some i) e h answers k =
    IfNext-if (IsState p) (list_any (λ r. is_unset (reg s r)) (reads i)) UnsetRead _
    (IfNext-if (IsState p) (is_frame_pointer (writes i)) ReadOnly (act p clock s i)
    (act_keeps p clock s i (h.fits s.slot i e) (h.inside s.slot i e) h.rows
    (h.named s.slot i e) answers k))

-- a step from a state leads to a state
pub step_keeps : (p : Program) (clock : ℕ → ℕ) (s : State) → IsProgram p → IsClock clock
    → IsState p s → IfNext (step p clock s) (IsState p)
unfolding step
step_keeps p clock s h answers k = performed_at_keeps p clock s (fetch p s.slot) refl h answers k

-- and so does any number of steps
pub progress_keeps : (p : Program) (clock : ℕ → ℕ) (s t : State) (n : ℕ) → IsProgram p
    → IsClock clock → IsState p s → Reaches p clock s n t
    → IsState p t
progress_keeps p clock s t zero h answers k r =
    subst (IsState p) (goes_on_same (sym (progress-zero p clock s) ∙ r)) k
  where
    goes_on_same : {s t : State} → GoesOn s ≡ GoesOn t → s ≡ t
    goes_on_same e = cc
progress_keeps p clock s t (suc n) h answers k r =
    let (u, reached, last) = Reaches-last p clock s n t r in
    let next = step_keeps p clock u h answers (progress_keeps p clock s u n h answers k reached) in
    subst (λ r. IfNext r (IsState p)) last next

-- ---- the start

-- the serials at the start are consecutive numbers
numbered_serials : (n : ℕ) (es : KeyValues)
    → value_serials (numbered n es) ≡ range_with_len n (length es)
numbered_serials n [] = refl
numbered_serials n (e ∷ es) = ap (λ l. n ∷ l)
    (subst (λ m. value_serials (numbered m es) ≡ range_with_len (n + 1) (length es)) (add-one n)
    (numbered_serials (n + 1) es))

range-append : (a m n : ℕ)
    → range_with_len a m ++ range_with_len (a + m) n ≡ range_with_len a (m + n)
range-append a zero n = rw (add-zero, zero-add) refl
range-append a (suc m) n =
    let again = range-append (a + 1) m n in
    let there : a + suc m ≡ a + 1 + m = omega arith in
    let total : suc m + n ≡ suc (m + n) = omega arith in
    rw (there, total) (ap (λ l. a ∷ l) again)

start_serials : (n : ℕ) (contents : List KeyValues)
    → flat_map value_serials (numbered_maps n contents) ≡ range_with_len n
    (count_map_values contents)
start_serials n [] = refl
start_serials n (c ∷ contents) =
    rw (numbered_serials n c, start_serials (n + length c) contents)
    (range-append n (length c) (count_map_values contents))

numbered_key_values : (n : ℕ) (es : KeyValues) → key_values_of (numbered n es) ≡ es
numbered_key_values n [] = refl
numbered_key_values n (e ∷ es) = ap (λ l. e ∷ l) (numbered_key_values (suc n) es)

-- the contents at the start are the given ones
pub start_contents : (n : ℕ) (contents : List KeyValues)
    → map key_values_of (numbered_maps n contents) ≡ contents
start_contents n [] = refl
start_contents n (c ∷ contents) =
    rw (numbered_key_values n c) (ap (λ l. c ∷ l) (start_contents (n + length c) contents))

range_apart : (n : ℕ) → AllPairs (λ i j. i ≢ j) (range_with_len 0 n)
range_apart n i j d before within same =
    let long = length-range_with_len 0 n in
    let at_i = get_or-range_with_len 0 n i d (omega arith) in
    let at_j = get_or-range_with_len 0 n j d (omega arith) in
    absurd (omega arith)

range_below : (n : ℕ) → All (λ i. i < n) (range_with_len 0 n)
range_below n i d within =
    let long = length-range_with_len 0 n in
    let at = get_or-range_with_len 0 n i d (omega arith) in
    omega arith

-- the start state is one, for every head, packet and contents that fit
pub start_is_state : (p : Program) (head : FrameHead) (body : List ℕ) (contents : List KeyValues)
    → IsGiven p head body contents
    → IsState p (start_state head body contents)
unfolding start_state new_call_frame
start_is_state p head body contents h =
    let n : ℕ = count_map_values contents in
    let V : Value → Type 0 = IsValue (length p.maps) (suc n) in
    let nothing : List Value = Unset ∷ Unset ∷ Unset ∷ Unset ∷ [] in
    let f : CallFrame = new_call_frame n 0 nothing in
    let first : IsCallFrame p (suc n) f = record {
      whole = refl;
      cells = All-replicate (IsCell (length p.maps) (suc n)) stack_size Unwritten tt;
      returns = omega arith;
      four = refl;
      saved = All-from_recursion V nothing (tt, (tt, (tt, (tt, tt))));
    } in
    let total : n + 1 ≡ suc n = omega arith in
    let serials : flat_map value_serials (numbered_maps 0 contents) ++ n ∷ []
    ≡ range_with_len 0 (suc n) =
    ap (λ l. l ++ n ∷ []) (start_serials 0 contents)
    ∙ ap (λ m. range_with_len 0 n ++ m ∷ []) (sym (zero-add n)) ∙ range-append 0 n 1
    ∙ ap (range_with_len 0) total in
    let r1 : V (Ptr region.Context (pos 0)) = (tt, omega arith) in
    let r10 : V (frame_pointer n) = (omega arith, omega arith) in
    record {
      slot = omega arith;
      registers = refl;
      values = All-from_recursion V (start_regs n)
          (tt, (r1, (tt, (tt, (tt, (tt, (tt, (tt, (tt, (tt, (r10, tt)))))))))));
      called = omega arith;
      depth = omega arith;
      frames = All-cons (IsCallFrame p (suc n)) f [] first (All-nil (IsCallFrame p (suc n)));
      short = h.short;
      packet = h.bytes;
      interface = h.interface;
      queue = h.queue;
      maps = rw (start_contents 0 contents) h.maps;
      given = rw serials (range_below (suc n));
      once = rw serials (range_apart (suc n));
    }
