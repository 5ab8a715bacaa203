-- An exit forgets what points into the call frame that ends, and so keeps the meaning of every
-- abstract state.
use Rattle.stack_state.proofs.Common.{◌≡◌, ℕ, suc, ◌<◌, ◌==◌, List, [], ◌∷◌, ◌++◌, map, length, Bool, true, false, if◌then◌else◌, sym, ap, ◌∙◌, subst, arith, refl, length-map, map-append, Value, Cell, Program, leave, IsState, Kind, Unset, Stack, Assigned, Allows, StackSlot, Written, Spilled, AbstractFrame, State, frames_of, abstract_frame_at, kind_at, depth, MeansBy, slot_at, SlotMeans, with_spilled, with_kinds, map_kinds, without_last, without_frame, ended}
use Rattle.std.proofs.Math.ListN.{get_or-map as get_or-map_default}
use Rattle.isa_model.specs.Machine.States as Machine
use Rattle.stack_state.proofs.MeaningLaws.{depth_is_length, FrameKeeps}
use Rattle.stack_state.proofs.StackLaws.{SlotMeans-spilled}
use Rattle.stack_state.proofs.KindEffects.{abstract_frame_at-map, same_returns, MeansBy-map_kinds}
use Rattle.stack_state.proofs.ExitLaws.{Allows-without_frame, returns-left, MeansBy-leave}

-- ---- what is forgotten allows all

stack_forgotten : (e : Assigned) (f : ℕ) (z : _) (v : Value) (b : Bool) → Allows e (Stack f z) v
    → Allows e (if b then Unset else Stack f z) v
stack_forgotten e f z v true h = tt
stack_forgotten e f z v false h = h

Allows-forgotten : (e : Assigned) (n : ℕ) (k : Kind) (v : Value) → Allows e k v
    → Allows e (without_frame n k) v
Allows-forgotten e n (Stack f z) v h = stack_forgotten e f z v (f == n) h
Allows-forgotten e n k v h = h

-- ---- what remains does not depend on the frame

SlotMeans-without_frame : (e : Assigned) (n : ℕ) (t : StackSlot) (cs : List Cell)
    → length e.frames ≡ suc n → SlotMeans e (with_spilled (without_frame n) t) cs
    → SlotMeans (without_last e) (with_spilled (without_frame n) t) cs
SlotMeans-without_frame e n (Written marks) cs long h = h
SlotMeans-without_frame e n (Spilled k) cs long h =
    SlotMeans-spilled e (without_last e) (without_frame n k) (without_frame n k) cs
    (λ v. Allows-without_frame e n k v long) h

FrameKeeps-without_frame : (e : Assigned) (n : ℕ) (x : AbstractFrame) → length e.frames ≡ suc n
    → FrameKeeps e (without_last e) (with_kinds (without_frame n) x)
    (with_kinds (without_frame n) x)
FrameKeeps-without_frame e n x long = record {
  registers =
      λ k v h.
      let same : kind_at (map (without_frame n) x.registers) k
      ≡ without_frame n (kind_at x.registers k) =
      get_or-map_default (without_frame n) x.registers k Unset in
      subst (λ l. Allows (without_last e) l v) (sym same)
      (Allows-without_frame e n (kind_at x.registers k) v long (subst (λ l. Allows e l v) same h));
  slots =
      λ k cs inside h.
      let same : slot_at (map (with_spilled (without_frame n)) x.stack.slots) k
      ≡ with_spilled (without_frame n) (slot_at x.stack.slots k) =
      get_or-map_default (with_spilled (without_frame n)) x.stack.slots k (Written 0) in
      subst (λ t. SlotMeans (without_last e) t cs) (sym same)
      (SlotMeans-without_frame e n (slot_at x.stack.slots k) cs long
      (subst (λ t. SlotMeans e t cs) same h));
}

-- ---- the exit of an inner frame

pub MeansBy-ended : (p : Program) (e : Assigned) (a : State) (s : Machine.State) → 1 < depth a
    → IsState p (leave s) → MeansBy p e a s → MeansBy p (without_last e) (ended a) (leave s)
MeansBy-ended p e a s called is m =
    let n : ℕ = length a.callers.items in
    let b : State = map_kinds (without_frame n) a in
    let forgotten : MeansBy p e b s =
    MeansBy-map_kinds p e (without_frame n) a s refl (Allows-forgotten e n) m in
    let callers = length-map a.callers.items (with_kinds (without_frame n)) in
    let count = depth_is_length p e a s m in
    let long : length e.frames ≡ length s.frames = ap length m.assigned.serials
    ∙ length-map s.frames (λ h. h.serial) in
    let top : length e.frames ≡ suc n = omega arith in
    MeansBy-leave p e b s (omega arith) is
    (λ j below. subst (λ x. FrameKeeps e (without_last e) x x)
    (sym (abstract_frame_at-map (with_kinds (without_frame n)) a j (omega arith)))
    (FrameKeeps-without_frame e n (abstract_frame_at a j) top)) forgotten

-- the exits of the frames that remain lead where they did, and the run continues where the exit
-- of the frame that ends leads
pub returns-ended : (a : State) → 1 < depth a
    → map (λ f. f.return_slot) (frames_of a)
    ≡ map (λ f. f.return_slot) (frames_of (ended a)) ++ (ended a).slot ∷ []
returns-ended a called =
    let g : AbstractFrame → AbstractFrame = with_kinds (without_frame (length a.callers.items)) in
    let b : State = map_kinds (without_frame (length a.callers.items)) a in
    let callers = length-map a.callers.items g in
    map-append (λ f. f.return_slot) a.callers.items (a.innermost ∷ [])
    ∙ ap (λ l. l ++ a.innermost.return_slot ∷ [])
    (sym (returns-left b (omega arith) ∙ same_returns g a.callers.items (λ f. refl)))
