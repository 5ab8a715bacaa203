-- Where a machine state makes a step, words that represent it make a move.
use Rattle.machine.proofs.Common.{◌≡◌, ℕ, ◌+◌, ◌<◌, List, length, refl, sym, ap, subst, ◌∙◌, arith, add-zero, ℤ, Ok, Err, Result, Bool, true, false, Option, Some, None, if◌then◌else◌, ◌==◌, IfOk, nat_tests, list_any, Reg, R0, Full64, Size, Value, Unset, Num, Ptr, TrapReason, UnsetRead, ReadOnly, TooManyCallFrames, BadAction, unsigned_size, size_extension, reg_number, NamesRows, alu, low, unsigned, negated, sign_extended, reordered, atomic_alu, bytes_of, Program, fetch, slots_filled, reads, writes, is_frame_pointer, State, reg, set_reg, go_to, arithmetic, on_number, and_then, load, load_signed, store, Helped, helper_call, after_call, max_call_frames, StepResult, Next, Finished, Trapped, operand_value, base_of, destination, map_pointer, value_pointer, sets, goes_on, jumps, branches, test_of, calls, is_answer, finishes, exits, atomic_number, swaps_in, fetched_into, act, is_unset, performed_at, step, IsProgram, IsState, reg_fits, map_base, values_base, Words, word_at, set_word, word_operand, at_slot, address_of, word_from, word_tested, word_enter, number_at, CanLoad, put, spot_of, IsInside, IsLast, Layout, Represents, Related}
use Rattle.isa_model.specs.declared.instructions.Insn.{Insn}
use Rattle.isa_model.specs.declared.instructions.Insn.TheVariants.{Alu, Neg, MovSx, ByteSwap, LoadNumber, LoadMap, LoadMapValue, Load, LoadSx, StoreConstant, Store, Atomic, Exchange, CompareExchange, Jump, JumpLong, JumpIf, CallHelper, CallLocal, Exit}
use Rattle.isa_model.specs.Code.Helpers.{helper_numbered}
use Rattle.isa_model.specs.Code.Spelling.{InsnFits}
use Rattle.isa_model.specs.Machine.Calls.{enter, leave}
use Rattle.word_machine.specs.Words as words
use Rattle.word_machine.specs.Effects.{AccessesFit, WordStep}
use Rattle.machine.proofs.Registers.{set_related, go_related}
use Rattle.machine.proofs.Arithmetic.{OkShows, shows_arithmetic, OkHolds}
use Rattle.machine.proofs.Operands.{shows_operand, operand_fits, shows_tested}
use Rattle.machine.proofs.Loading.{OkLoad, shows_load}
use Rattle.machine.proofs.Storing.{OkStore, bytes_long, shows_store}
use Rattle.machine.proofs.Swapping.{shows_load_signed, swapped, shows_swap, with_number}
use Rattle.machine.proofs.Calling.{entered, enter_related, leave_related}
use Rattle.machine.proofs.MapLoads.{only_value}
use Rattle.machine.proofs.HelperMoves.{OkHelp, helper_moves}

-- an inner call frame's exit, and nothing else, needs a caller
abbrev pub Going : Words → Insn → Type 0
Going w Exit = 0 < length w.saved
Going w i = Unit {0}

pub not_last : (w : Words) (i : Insn) → Going w i → IsLast w i → ⊥
not_last w i g l =
    let called : 0 < length w.saved = subst (Going w) l.0 g in let first = l.1 in omega arith

-- an operation that is defined on numbers only
on_number_shown : (a : Layout) (f : ℕ → ℕ) (v : Value) (x : ℕ) → Represents a v x
    → OkShows a (on_number f v) (f x)
on_number_shown a f Unset x h = tt
on_number_shown a f (Num n) x h = ap f h
on_number_shown a f (Ptr r z) x h = tt

module _ (p : Program) (clock : ℕ → ℕ) (a : Layout) (s : State) (w : Words) (R : Related p a s w)
    (K : IsState p s) where
  -- what holds of the words where a step of an instruction has this result
  abbrev pub OkMove : Insn → StepResult → Type 0
  OkMove i (Next t) = AccessesFit w i × Going w i
      × ((v : Words) → WordStep p clock w i v → (b : Layout) × Related p b t v)
  OkMove i (Finished n) = IsLast w i × (word_at w R0 ≡ n)
  OkMove i (Trapped e) = Unit {0}

  -- a step that sets a register
  acts_sets : (i : Insn) (d : Reg) (r : Result Value TrapReason) (x : ℕ) → OkShows a r x
      → IfOk r (λ v. AccessesFit w i) → Going w i
      → ((v : Words) → WordStep p clock w i v → v ≡ words.sets w i d x) → OkMove i (sets s i d r)
  acts_sets i d (Err e) x h fits going same = tt
  acts_sets i d (Ok v) x h fits going same = (
    fits,
    going,
    λ u m. (
      a,
      subst (Related p a (go_to (set_reg s d v) (s.slot + slots_filled i))) (sym (same u m))
          (subst (λ k. Related p a (go_to (set_reg s d v) (k + slots_filled i))
          (words.sets w i d x)) R.slot
          (go_related p a (set_reg s d v) (set_word w d x) (w.at + slots_filled i)
          (set_related p a s w d v x K.registers R h))),
    ),
  )

  -- a step that changes the state
  acts_goes : (i : Insn) (r : Result State TrapReason) (u : Words) → slots_filled i ≡ 1
      → IfOk r (λ t. AccessesFit w i × Related p a t u) → Going w i
      → ((v : Words) → WordStep p clock w i v → v ≡ at_slot u (w.at + 1)) → OkMove i (goes_on s i r)
  acts_goes i (Err e) u one h going same = tt
  acts_goes i (Ok t) u one h going same = (
    h.0,
    going,
    λ v m. (
      a,
      subst (Related p a (go_to t (s.slot + slots_filled i))) (sym (same v m))
          (subst (λ k. Related p a (go_to t k) (at_slot u (w.at + 1)))
          (let e = R.slot in omega arith)
          (go_related p a t u (w.at + 1) h.1)),
    ),
  )

  store_moves : (i : Insn) (r : Result State TrapReason) (at : ℕ) (bs : List ℕ)
      → OkStore p a s w R K r at bs
      → (IsInside w (spot_of at) (length bs) → AccessesFit w i)
      → IfOk r (λ t. AccessesFit w i × Related p a t (put w (spot_of at) bs))
  store_moves i (Err e) at bs h fits = tt
  store_moves i (Ok t) at bs h fits = (fits h.0, h.1)

  load_moves : (i : Insn) (size : Size) (r : Result Value TrapReason) (at : ℕ)
      → OkLoad p a s w R K size r at → (CanLoad w size at → AccessesFit w i)
      → OkShows a r (word_from w size at) × IfOk r (λ v. AccessesFit w i)
  load_moves i size (Err e) at h fits = (tt, tt)
  load_moves i size (Ok v) at h fits = (h.1, fits h.0)

  always : (r : Result Value TrapReason) (A : Type 0) → A → IfOk r (λ v. A)
  always (Ok v) A h = h
  always (Err e) A h = tt

  branch : (i : Insn) (by : ℤ) (r : Result Bool TrapReason) (b : Bool)
      → OkHolds a (length p.maps) s.next_serial R.layout r b → AccessesFit w i → Going w i
      → ((v : Words) → WordStep p clock w i v
      → v ≡ at_slot w (if b then destination p w.at by else w.at + 1))
      → OkMove i (branches s p by r)
  branch i by (Err e) b h fits going same = tt
  branch i by (Ok c) b h fits going same = taken c h
    where
      to : (b : Bool) → ((v : Words) → WordStep p clock w i v
          → v ≡ at_slot w (if b then destination p w.at by else w.at + 1))
          → (n : ℕ) → (if b then destination p w.at by else w.at + 1) ≡ n
          → OkMove i (Next (go_to s n))
      to b same n e = (
        fits,
        going,
        λ v m. (
          a,
          subst (Related p a (go_to s n)) (sym (same v m ∙ ap (at_slot w) e))
              (go_related p a s w n R),
        ),
      )

      taken : (c : Bool) → c ≡ b → OkMove i (branches s p by (Ok c))
      taken true e =
          to true (subst (λ b. (v : Words) → WordStep p clock w i v
          → v ≡ at_slot w (if b then destination p w.at by else w.at + 1)) (sym e) same)
          (destination p s.slot by) (ap (λ k. destination p k by) R.slot)
      taken false e =
          to false (subst (λ b. (v : Words) → WordStep p clock w i v
          → v ≡ at_slot w (if b then destination p w.at by else w.at + 1)) (sym e) same)
          (s.slot + 1) (ap (λ k. k + 1) R.slot)

  act_jump : (i : Insn) (by : ℤ) → AccessesFit w i → Going w i
      → ((v : Words) → WordStep p clock w i v → v ≡ at_slot w (destination p w.at by))
      → OkMove i (jumps s p by)
  act_jump i by fits going same = (
    fits,
    going,
    λ v m. (
      a,
      subst (Related p a (go_to s (destination p s.slot by)))
          (sym (same v m ∙ ap (λ k. at_slot w (destination p k by)) R.slot))
          (go_related p a s w (destination p s.slot by) R),
    ),
  )

  act_call : (by : ℤ) → OkMove (CallLocal by) (calls s p by)
  act_call by = room (length s.frames == max_call_frames) refl
    where
      room : (full : Bool) → (length s.frames == max_call_frames) ≡ full
          → OkMove (CallLocal by)
          (if full then Trapped TooManyCallFrames else Next (enter s (destination p s.slot by)))
      room true e = tt
      room false e =
          let other : length s.frames ≡ max_call_frames → ⊥ = (λ h. grind (arith, nat_tests)) in
          let few : length s.frames < max_call_frames = let d = K.depth in omega (arith, other) in
          let deep = R.frames.depth in (
            omega arith,
            tt,
            λ v m. (
              entered p a s w R K,
              subst (Related p (entered p a s w R K) (enter s (destination p s.slot by)))
                  (sym (m ∙ ap (λ k. word_enter w (destination p k by)) R.slot))
                  (enter_related p a s w R K (destination p s.slot by) few),
            ),
          )

  finish : (v : Value) → length w.saved ≡ 0 → Represents a v (word_at w R0)
      → OkMove Exit (finishes p.version v)
  finish (Num n) e h = answers (is_answer p.version n)
    where
      answers : (b : Bool) → OkMove Exit (if b then Finished n else Trapped BadAction)
      answers true = ((refl, e), h)
      answers false = tt
  finish (Ptr r z) e h = tt
  finish Unset e h = tt

  act_exit : OkMove Exit (exits p.version s)
  act_exit = last (length s.frames == 1) refl
    where
      last : (one : Bool) → (length s.frames == 1) ≡ one
          → OkMove Exit (if one then finishes p.version (reg s R0) else Next (leave s))
      last true e =
          let is_one : length s.frames ≡ 1 = grind (arith, nat_tests) in
          let deep = R.frames.depth in
          finish (reg s R0) (omega arith) (R.registers.shown 0)
      last false e =
          let other : length s.frames ≡ 1 → ⊥ = (λ h. grind (arith, nat_tests)) in
          let deep = R.frames.depth in
          let some = K.called in
          let called : 0 < length w.saved = omega (arith, other) in (
            tt,
            called,
            λ v m.
                (a, subst (Related p a (leave s)) (sym m) (leave_related p a s w R K called)),
          )

  act_helper : (number : ℤ)
      → OkMove (CallHelper number)
      (goes_on s (CallHelper number) (after_call (helper_call p clock s (helper_numbered number))))
  act_helper number =
      by_result (helper_call p clock s (helper_numbered number))
      (helper_moves p clock a s w R K (helper_numbered number))
    where
      by_result : (r : Result Helped TrapReason)
          → OkHelp p clock a s w R K (helper_numbered number) r
          → OkMove (CallHelper number) (goes_on s (CallHelper number) (after_call r))
      by_result (Err e) h = tt
      by_result (Ok helped) h = (h.0, tt, h.1)

  -- the effect of each instruction
  pub acts : (i : Insn) → InsnFits i → NamesRows p.maps i → OkMove i (act p clock s i)
  unfolding act
  acts (Alu width op d x) fits named =
      acts_sets (Alu width op d x) d (arithmetic op width (reg s d) (operand_value s width x))
      (alu op width (word_at w d) (word_operand w width x))
      (shows_arithmetic a (length p.maps) s.next_serial R.layout op width (reg s d)
      (operand_value s width x) (word_at w d) (word_operand w width x)
      (reg_fits p s d K) (operand_fits p a s w R K width x fits) (R.registers.shown (reg_number d))
      (shows_operand p a s w R K width x))
      (always (arithmetic op width (reg s d) (operand_value s width x)) (Unit {0}) tt) tt (λ v m. m)
  acts (Neg width d) fits named =
      acts_sets (Neg width d) d (on_number (negated width) (reg s d)) (negated width (word_at w d))
      (on_number_shown a (negated width) (reg s d) (word_at w d) (R.registers.shown (reg_number d)))
      (always (on_number (negated width) (reg s d)) (Unit {0}) tt) tt (λ v m. m)
  acts (MovSx e d r) fits named =
      acts_sets (MovSx e d r) d (on_number (sign_extended e) (reg s r))
      (sign_extended e (word_at w r))
      (on_number_shown a (sign_extended e) (reg s r) (word_at w r)
      (R.registers.shown (reg_number r)))
      (always (on_number (sign_extended e) (reg s r)) (Unit {0}) tt) tt (λ v m. m)
  acts (ByteSwap order span d) fits named =
      acts_sets (ByteSwap order span d) d (on_number (reordered order span) (reg s d))
      (reordered order span (word_at w d))
      (on_number_shown a (reordered order span) (reg s d) (word_at w d)
      (R.registers.shown (reg_number d)))
      (always (on_number (reordered order span) (reg s d)) (Unit {0}) tt) tt (λ v m. m)
  acts (LoadNumber d n) fits named =
      acts_sets (LoadNumber d n) d (Ok (Num n)) n refl tt tt (λ v m. m)
  acts (LoadMap d m) fits named =
      acts_sets (LoadMap d m) d (Ok (map_pointer m)) (map_base m) (sym (add-zero (map_base m)))
      (let few = R.layout.few in omega arith) tt (λ v m. m)
  acts (LoadMapValue d m offset) fits named =
      let only = only_value p a s w R K m offset named in
      acts_sets (LoadMapValue d m offset) d (Ok (value_pointer s m offset))
      (values_base m + offset) only.0 (only.1, let f = fits.1 in omega arith) tt (λ v m. m)
  acts (Load size d place) fits named =
      let l = load_moves (Load size d place) size (load s size (base_of s place) place.offset)
      (address_of w place)
      (shows_load p a s w R K size (base_of s place) place.offset (word_at w place.base)
      (reg_fits p s place.base K) fits (R.registers.shown (reg_number place.base)))
      (λ h. h) in
      acts_sets (Load size d place) d (load s size (base_of s place) place.offset)
      (word_from w size (address_of w place)) l.0 l.1 tt (λ v m. m)
  acts (LoadSx size d place) fits named =
      let l = shows_load_signed p a s w R K size (base_of s place) place.offset
      (word_at w place.base) (reg_fits p s place.base K) fits
      (R.registers.shown (reg_number place.base)) in
      acts_sets (LoadSx size d place) d (load_signed s size (base_of s place) place.offset)
      (sign_extended (size_extension size) (number_at w (unsigned_size size) (address_of w place)))
      l.0 l.1 tt (λ v m. m)
  acts (StoreConstant size place k) fits named =
      acts_goes (StoreConstant size place k)
      (store s size (base_of s place) place.offset (Num (unsigned Full64 k)))
      (put w (spot_of (address_of w place)) (bytes_of size (unsigned Full64 k))) refl
      (store_moves (StoreConstant size place k)
      (store s size (base_of s place) place.offset (Num (unsigned Full64 k)))
      (address_of w place) (bytes_of size (unsigned Full64 k))
      (shows_store p a s w R K size (base_of s place) place.offset (Num (unsigned Full64 k))
      (word_at w place.base) (unsigned Full64 k) (reg_fits p s place.base K) fits.0
      (R.registers.shown (reg_number place.base)) refl)
      (λ h. subst (IsInside w (spot_of (address_of w place)))
      (bytes_long p a s w R K size (unsigned Full64 k)) h)) tt (λ v m. m)
  acts (Store size place r) fits named =
      acts_goes (Store size place r) (store s size (base_of s place) place.offset (reg s r))
      (put w (spot_of (address_of w place)) (bytes_of size (word_at w r))) refl
      (store_moves (Store size place r) (store s size (base_of s place) place.offset (reg s r))
      (address_of w place) (bytes_of size (word_at w r))
      (shows_store p a s w R K size (base_of s place) place.offset (reg s r) (word_at w place.base)
      (word_at w r) (reg_fits p s place.base K) fits
      (R.registers.shown (reg_number place.base)) (R.registers.shown (reg_number r)))
      (λ h. subst (IsInside w (spot_of (address_of w place)))
      (bytes_long p a s w R K size (word_at w r)) h)) tt (λ v m. m)
  acts (Atomic width op fetches place r) fits named =
      let new : ℕ → ℕ → ℕ = (λ b a. alu (atomic_alu op) width a b) in
      acts_goes (Atomic width op fetches place r)
      (and_then (atomic_number (reg s r))
      (λ b. swaps_in s width place (new b) (fetched_into fetches r)))
      (swapped p a s w R K width place (new (word_at w r)) fetches r) refl
      (with_number p a s w R K
      (λ q. IfOk q
      (λ t. AccessesFit w (Atomic width op fetches place r)
      × Related p a t (swapped p a s w R K width place (new (word_at w r)) fetches r)))
      (λ e. tt) (reg s r) (word_at w r) (R.registers.shown (reg_number r))
      (λ b. swaps_in s width place (new b) (fetched_into fetches r))
      (shows_swap p a s w R K width place (new (word_at w r)) fetches r fits)) tt (λ v m. m)
  acts (Exchange width place r) fits named =
      let new : ℕ → ℕ → ℕ = (λ b a. b) in
      acts_goes (Exchange width place r)
      (and_then (atomic_number (reg s r))
      (λ b. swaps_in s width place (new b) (fetched_into true r)))
      (swapped p a s w R K width place (new (word_at w r)) true r) refl
      (with_number p a s w R K
      (λ q. IfOk q
      (λ t. AccessesFit w (Exchange width place r)
      × Related p a t (swapped p a s w R K width place (new (word_at w r)) true r)))
      (λ e. tt) (reg s r) (word_at w r) (R.registers.shown (reg_number r))
      (λ b. swaps_in s width place (new b) (fetched_into true r))
      (shows_swap p a s w R K width place (new (word_at w r)) true r fits)) tt (λ v m. m)
  acts (CompareExchange width place r) fits named =
      let new : ℕ → ℕ → ℕ → ℕ = (λ b expected a. if a == low width expected then b else a) in
      let Q : Result State TrapReason → Type 0 =
      (λ q. IfOk q
      (λ t. AccessesFit w (CompareExchange width place r)
      × Related p a t
      (swapped p a s w R K width place (new (word_at w r) (word_at w R0)) true R0))) in
      acts_goes (CompareExchange width place r)
      (and_then (atomic_number (reg s r))
      (λ b. and_then (atomic_number (reg s R0))
      (λ expected. swaps_in s width place (new b expected) (fetched_into true R0))))
      (swapped p a s w R K width place (new (word_at w r) (word_at w R0)) true R0) refl
      (with_number p a s w R K Q (λ e. tt) (reg s r) (word_at w r)
      (R.registers.shown (reg_number r))
      (λ b. and_then (atomic_number (reg s R0))
      (λ expected. swaps_in s width place (new b expected) (fetched_into true R0)))
      (with_number p a s w R K Q (λ e. tt) (reg s R0) (word_at w R0) (R.registers.shown 0)
      (λ expected. swaps_in s width place (new (word_at w r) expected) (fetched_into true R0))
      (shows_swap p a s w R K width place (new (word_at w r) (word_at w R0)) true R0 fits))) tt
      (λ v m. m)
  acts (Jump by) fits named = act_jump (Jump by) by tt tt (λ v m. m)
  acts (JumpLong by) fits named = act_jump (JumpLong by) by tt tt (λ v m. m)
  acts (JumpIf cond by) fits named =
      branch (JumpIf cond by) by (test_of s cond) (word_tested w cond)
      (shows_tested p a s w R K cond cond.operand fits.0) tt tt (λ v m. m)
  acts (CallHelper number) fits named = act_helper number
  acts (CallLocal by) fits named = act_call by
  acts Exit fits named = act_exit

  OkMove-if : (i : Insn) (b : Bool) (e : TrapReason) (r : StepResult) → OkMove i r
      → OkMove i (if b then Trapped e else r)
  OkMove-if i true e r h = tt
  OkMove-if i false e r h = h

  performs : (o : Option Insn) (i : Insn) → o ≡ Some i → InsnFits i → NamesRows p.maps i
      → OkMove i (performed_at p clock s o)
  performs None i e fits named = absurd (cc)
  performs (Some j) i e fits named = subst (λ i. OkMove i (performed_at p clock s (Some j))) same
      (OkMove-if j (list_any (λ r. is_unset (reg s r)) (reads j)) UnsetRead _
      (OkMove-if j (is_frame_pointer (writes j)) ReadOnly (act p clock s j)
      (acts j (subst InsnFits (sym same) fits) (subst (NamesRows p.maps) (sym same) named))))
    where
      same : j ≡ i
      same = cc

  -- where a step goes on, the words can move, and each move leads to words that represent the next
  -- state; where it finishes, it is the first call frame's exit, and r0's word is the answer
  pub moves : (i : Insn) → fetch p s.slot ≡ Some i → IsProgram p → OkMove i (step p clock s)
  unfolding step
  moves i e h = performs (fetch p s.slot) i e (h.fits s.slot i e) (h.named s.slot i e)
