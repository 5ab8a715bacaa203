-- The parts of a state that a step leaves as they are, and the bytes that spell them.
use Rattle.rechecking.proofs.Common.{◌≡◌, ℕ, zero, suc, ◌+◌, ◌-◌, ◌<◌, ◌⊎◌, if◌then◌else◌, Bool, true, false, ℤ, List, [], ◌∷◌, ◌++◌, length, map, take, slice_get, Option, Some, None, Result, Ok, inl, inr, sym, ap, ◌∙◌, subst, arith, slice_get-map, slice_get_within, Program, writes, is_frame_pointer, destination, AbstractFrame, State, with_kinds, map_kinds, proved_kind, tested_kind, Refusal, Proves, Tests, LeavesParts}
use Rattle.std.specs.Prelude.{refl}
use Rattle.std.specs.Borrow.{Bor}
use Rattle.isa_model.specs.declared.registers.Reg.TheVariants.{R0}
use Rattle.isa_model.specs.declared.instructions.Cond.{Cond}
use Rattle.isa_model.specs.declared.instructions.Insn.{Insn}
use Rattle.isa_model.specs.declared.instructions.Insn.TheVariants.{StoreConstant, Store, Atomic, Exchange, CompareExchange, Jump, JumpLong, JumpIf, CallHelper, CallLocal, Exit}
use Rattle.isa_model.specs.declared.versions.Version.{Version}
use Rattle.isa_model.specs.Code.Helpers.{helper_numbered}
use Rattle.isa_model.specs.Code.Sizes.{width_size}
use Rattle.stack_state.specs.Places.{kind_of, go_to}
use Rattle.stack_state.specs.Calls.{caller_of, entered, without_frame, ended}
use Rattle.branch_refine.specs.declared.comparing.Compared.{Compared}
use Rattle.branch_refine.specs.declared.comparing.Compared.TheVariants.{Numbers, Packet, OrNull, Live, Undefined}
use Rattle.branch_refine.specs.Comparing.{compared_by, same}
use Rattle.branch_refine.specs.Refining.{LearnsOf, Refines}
use Rattle.branch_refine.proofs.RefiningLaws.{numbers-compared_by}
use Rattle.transfer.specs.declared.Ways.{Ways}
use Rattle.transfer.specs.declared.Ways.TheVariants as ways
use Rattle.transfer.specs.declared.refusals.Refusal.TheVariants.{UnsetRegister, ReadOnlyRegister}
use Rattle.transfer.specs.Refusing.{reads_unset}
use Rattle.transfer.specs.HelperCalls.{CallsHelper}
use Rattle.transfer.specs.Exact.{GoesOn, StoresAt, SwapsAtPlace, ComparesAtPlace, Sides, Branches, ExitsFrom, StepsForm, Steps}
use Rattle.transfer.proofs.AnswerLaws.{answered_number}
use Rattle.transfer.proofs.ExactLaws.{tested_rest}
use Rattle.table_entries.specs.declared.known_bytes.FrameBytes.{FrameBytes}
use Rattle.table_entries.specs.declared.known_bytes.KnownBytes.{KnownBytes}
use Rattle.table_entries.specs.KnownBytes.{SpellsFrame, SpellFrames, SpellSlots, AreSpelled}
use Rattle.table_entries.proofs.Below.{frame_in-stays}
use Rattle.table_entries.proofs.KnownBytesLaws.{taken_get}
use Rattle.rechecking.specs.declared.untouched.UntouchedParts.{UntouchedParts}
use Rattle.rechecking.specs.Untouched.{outer_kept, kept_by_write, KeptByTest, KeptBy, kept_after, KeepsOuterFrames, KeepsParts}
use Rattle.rechecking.proofs.ChangeLaws.{proved_kind-kept, tested_kind-kept}
use Rattle.rechecking.proofs.KeptLaws.{nothing_kept, all_kept, same_kept, mapped_some, kinds_kept, store_kept, numbers_kept, compare_kept, helper_kept}

-- the step has a successor
abbrev IsGoing : Ways → Type 0
IsGoing ways.None = ⊥
IsGoing w = Unit {0}

-- ---- calls and exits

pushed_before : {X : Type 0} (xs : List X) (y : X) (j : ℕ) → j < length xs
    → slice_get (xs ++ y ∷ []) j ≡ slice_get xs j
pushed_before [] y j less = absurd (omega arith)
pushed_before (x ∷ xs) y zero less = refl
pushed_before (x ∷ xs) y (suc j) less = pushed_before xs y j (omega arith)

entered_kept : (a : State) (target : ℕ) → KeepsParts (outer_kept a false) a (entered a target)
entered_kept a target = record {
  frames = λ j f less at. (
    f,
    sym (pushed_before a.callers.items (caller_of a.innermost) j less) ∙ at,
    inl refl,
  );
  slots = λ no. absurd (cc);
}

ended_kept : (a : State) (n : ℕ) → KeepsParts (record { frames = n; slots = false }) a (ended a)
ended_kept a n = record { frames = each; slots = λ no. absurd (cc) } where
  each : KeepsOuterFrames n a (ended a)
  each j f less at =
      let g : AbstractFrame → AbstractFrame =
      with_kinds (without_frame (length a.callers.items)) in
      let frames : List AbstractFrame = map g a.callers.items in
      let there = taken_get (length frames - 1) frames j f at in
      let found =
      mapped_some g (slice_get a.callers.items j) f
      (sym (slice_get-map g a.callers.items j) ∙ there.1) in
      (found.0, found.1, inr found.2)

exit_kept : (v : Version) (n m : ℕ) (a : State) (w : Ways) (b : State) → IsGoing w
    → ExitsFrom v n a (Ok w) b → KeepsParts (record { frames = m; slots = false }) a b
exit_kept v zero m a w b on h = absurd (subst IsGoing (answered_number v (kind_of a R0) w h).3 on)
exit_kept v (suc n) m a w b on h =
    subst (KeepsParts (record { frames = m; slots = false }) a) (sym h.2) (ended_kept a m)

-- ---- conditional jumps

side_kept : (parts : UntouchedParts) (stays goes : Bool) (a stay go : State) (w : Ways)
    (b c : State)
    → IsGoing w → Sides stays goes stay go w b c → KeepsParts parts a stay
    → KeepsParts parts a go → KeepsParts parts a b
side_kept parts true true a stay go w b c on h x y = subst (KeepsParts parts a) (sym h.1) x
side_kept parts true false a stay go w b c on h x y = subst (KeepsParts parts a) (sym h.1) x
side_kept parts false true a stay go w b c on h x y = subst (KeepsParts parts a) (sym h.1) y
side_kept parts false false a stay go w b c on h x y = absurd (subst IsGoing h on)

-- the same at another slot of the code
gone_kept : (parts : UntouchedParts) (a b : State) (slot : ℕ) → KeepsParts parts a b
    → KeepsParts parts a (go_to b slot)
gone_kept parts a b slot h = record { frames = h.frames; slots = h.slots }

proved_kept : (t : Bool) (i n : ℕ) (a : State) (parts : UntouchedParts)
    → LeavesParts (Proves i n) a parts
    → KeepsParts parts a (if t then map_kinds (proved_kind i n) a else a)
proved_kept true i n a parts h =
    kinds_kept (Proves i n) (proved_kind i n) (proved_kind-kept i n) a parts h
proved_kept false i n a parts h = same_kept parts a a refl

learned_kept : (cond : Cond) (taken : Bool) (a : State) (some : Bool) (b : State) (c : Compared)
    (parts : UntouchedParts) → compared_by a cond ≡ c → Refines cond taken a some b
    → LearnsOf c taken a some b → KeptByTest a c parts → KeepsParts parts a b
learned_kept cond taken a some b Numbers parts is h l kept =
    let narrows = h.narrowed (numbers-compared_by a cond is) in
    all_kept parts a b narrows.callers narrows.stack
learned_kept cond taken a some b (Packet i shows n) parts is h l kept =
    subst (KeepsParts parts a) (sym l.1) (proved_kept (same taken shows) i n a parts kept)
learned_kept cond taken a some b (OrNull i null) parts is h l kept =
    let (zeros, has, constant, left) = l.1 in
    subst (KeepsParts parts a) (sym left)
    (kinds_kept (Tests i) (tested_kind i (same taken null) zeros)
    (tested_kind-kept i (same taken null) zeros) a parts kept)
learned_kept cond taken a some b (Live null) parts is h l kept = same_kept parts a b l.1
learned_kept cond taken a some b Undefined parts is h l kept = same_kept parts a b l.1

refined_kept : (cond : Cond) (taken : Bool) (a : State) (some : Bool) (b : State)
    (parts : UntouchedParts) → Refines cond taken a some b
    → KeptByTest a (compared_by a cond) parts → KeepsParts parts a b
refined_kept cond taken a some b parts h kept =
    learned_kept cond taken a some b (compared_by a cond) parts refl h h.pointers kept

jump_kept : (p : Program) (a : State) (cond : Cond) (by : ℤ) (w : Ways) (b c : State)
    (parts : UntouchedParts) → IsGoing w → KeptByTest a (compared_by a cond) parts
    → Branches p a cond by w b c → KeepsParts parts a b
jump_kept p a cond by w b c parts on kept h =
    side_kept parts h.stays h.goes a (go_to h.stay (a.slot + 1))
    (go_to h.go (destination p a.slot by)) w b c on h.sides
    (gone_kept parts a h.stay (a.slot + 1)
    (refined_kept cond false a h.stays h.stay parts h.left_there kept))
    (gone_kept parts a h.go (destination p a.slot by)
    (refined_kept cond true a h.goes h.go parts h.taken_there kept))

-- ---- all forms

goes_kept : (parts : UntouchedParts) (a b : State)
    (leaves : State → Result (Unit {0}) Refusal → Type 0) (w : Ways)
    → ((left : State) → leaves left (Ok tt) → KeepsParts parts a left)
    → GoesOn a leaves (Ok w) b → KeepsParts parts a b
goes_kept parts a b leaves w each h =
    subst (KeepsParts parts a) (sym h.1.next)
    (gone_kept parts a h.1.left (a.slot + 1) (each h.1.left h.1.leaving))

-- the parts that are named
named_kept : (parts named : UntouchedParts) (a b : State) → parts ≡ named → KeepsParts named a b
    → KeepsParts parts a b
named_kept parts named a b is h = subst (λ (q : UntouchedParts). KeepsParts q a b) (sym is) h

form_kept : (p : Program) (a : State) (i : Insn) (w : Ways) (b c : State) (parts : UntouchedParts)
    → IsGoing w → KeptBy a i parts → StepsForm p a i (Ok w) b c → KeepsParts parts a b
form_kept p a (Jump by) w b c parts on kept h =
    all_kept parts a b (ap (λ s. s.callers) h.1) (ap (λ s. s.innermost.stack) h.1)
form_kept p a (JumpLong by) w b c parts on kept h =
    all_kept parts a b (ap (λ s. s.callers) h.1) (ap (λ s. s.innermost.stack) h.1)
form_kept p a (JumpIf cond by) w b c parts on kept h =
    jump_kept p a cond by w b c parts on kept h
form_kept p a (CallLocal by) w b c parts on kept h =
    named_kept parts (outer_kept a false) a b kept
    (subst (KeepsParts (outer_kept a false) a) (sym h.2)
    (entered_kept a (destination p a.slot by)))
form_kept p a Exit w b c parts on kept h =
    named_kept parts (record { frames = length a.callers.items - 1; slots = false }) a b kept
    (exit_kept p.version (length a.callers.items) (length a.callers.items - 1) a w b on h)
form_kept p a (StoreConstant size place k) w b c parts on kept h =
    let base = kind_of a place.base in
    named_kept parts (kept_by_write a base) a b kept
    (goes_kept (kept_by_write a base) a b (StoresAt p.maps a size place h.0) w
    (λ left stores. store_kept p.maps a left size base place.offset h.0 stores) h.2)
form_kept p a (Store size place r) w b c parts on kept h =
    let base = kind_of a place.base in
    named_kept parts (kept_by_write a base) a b kept
    (goes_kept (kept_by_write a base) a b (StoresAt p.maps a size place (kind_of a r)) w
    (λ left stores. store_kept p.maps a left size base place.offset (kind_of a r) stores) h)
form_kept p a (Atomic v op fetched place r) w b c parts on kept h =
    let base = kind_of a place.base in
    let old = writes (Atomic v op fetched place r) in
    named_kept parts (kept_by_write a base) a b kept
    (goes_kept (kept_by_write a base) a b (SwapsAtPlace p.maps a v place r old) w
    (λ left swaps. numbers_kept p.maps a left (kind_of a r) base place.offset (width_size v) old
    swaps) h)
form_kept p a (Exchange v place r) w b c parts on kept h =
    let base = kind_of a place.base in
    named_kept parts (kept_by_write a base) a b kept
    (goes_kept (kept_by_write a base) a b (SwapsAtPlace p.maps a v place r (Some r)) w
    (λ left swaps. numbers_kept p.maps a left (kind_of a r) base place.offset (width_size v)
    (Some r) swaps) h)
form_kept p a (CompareExchange v place r) w b c parts on kept h =
    let base = kind_of a place.base in
    named_kept parts (kept_by_write a base) a b kept
    (goes_kept (kept_by_write a base) a b (ComparesAtPlace p.maps a v place r) w
    (λ left compares. compare_kept p.maps a left (kind_of a R0) (kind_of a r) base place.offset
    (width_size v) compares) h)
form_kept p a (CallHelper number) w b c parts on kept h =
    goes_kept parts a b (CallsHelper p.maps a number) w
    (λ left calls. helper_kept p.maps a left (helper_numbered number) parts kept calls) h
form_kept p a i w b c parts on kept h =
    all_kept parts a b (ap (λ s. s.callers) h.1.next) (ap (λ s. s.innermost.stack) h.1.next)

step_kept : (p : Program) (a : State) (i : Insn) (w : Ways) (b c : State) (parts : UntouchedParts)
    → IsGoing w → KeptBy a i parts → Steps p a i (Ok w) b c → KeepsParts parts a b
step_kept p a i w b c parts on kept h =
    let (known, own, performs) =
    tested_rest (reads_unset a i) (is_frame_pointer (writes i)) UnsetRegister ReadOnlyRegister w
    (StepsForm p a i (Ok w) b c) h in
    form_kept p a i w b c parts on kept performs

after_kept : (p : Program) (a : State) (i : Insn) (w : Ways) (b c : State) (parts : UntouchedParts)
    → KeptBy a i parts → Steps p a i (Ok w) b c → KeepsParts (kept_after w parts) a b
after_kept p a i ways.None b c parts kept h = nothing_kept a b
after_kept p a i ways.One b c parts kept h = step_kept p a i ways.One b c parts tt kept h
after_kept p a i ways.Two b c parts kept h = step_kept p a i ways.Two b c parts tt kept h

-- ---- the second successor

side_of_two : (parts : UntouchedParts) (stays goes : Bool) (a stay go b c : State)
    → Sides stays goes stay go ways.Two b c → KeepsParts parts a go → KeepsParts parts a c
side_of_two parts true true a stay go b c h y = subst (KeepsParts parts a) (sym h.2) y
side_of_two parts true false a stay go b c h y = let no = h.0 in absurd (cc)
side_of_two parts false true a stay go b c h y = let no = h.0 in absurd (cc)
side_of_two parts false false a stay go b c h y = absurd (cc)

exit_of_one : (v : Version) (n : ℕ) (a : State) (b : State) → ¬ ExitsFrom v n a (Ok ways.Two) b
exit_of_one v zero a b h =
    let none = (answered_number v (kind_of a R0) ways.Two h).3 in absurd (cc)
exit_of_one v (suc n) a b h = let one = h.1 in absurd (cc)

-- only a conditional jump has two
form_of_two : (p : Program) (a : State) (i : Insn) (b c : State) (parts : UntouchedParts)
    → KeptBy a i parts → StepsForm p a i (Ok ways.Two) b c → KeepsParts parts a c
form_of_two p a (JumpIf cond by) b c parts kept h =
    side_of_two parts h.stays h.goes a (go_to h.stay (a.slot + 1))
    (go_to h.go (destination p a.slot by)) b c h.sides
    (gone_kept parts a h.go (destination p a.slot by)
    (refined_kept cond true a h.goes h.go parts h.taken_there kept))
form_of_two p a (CallLocal by) b c parts kept h = let one = h.1 in absurd (cc)
form_of_two p a Exit b c parts kept h =
    absurd (exit_of_one p.version (length a.callers.items) a b h)
form_of_two p a (StoreConstant size place k) b c parts kept h = let one = h.2.0 in absurd (cc)
form_of_two p a i b c parts kept h = let one = h.0 in absurd (cc)

two_kept : (p : Program) (a : State) (i : Insn) (b c : State) (parts : UntouchedParts)
    → KeptBy a i parts → Steps p a i (Ok ways.Two) b c → KeepsParts parts a c
two_kept p a i b c parts kept h =
    let (known, own, performs) =
    tested_rest (reads_unset a i) (is_frame_pointer (writes i)) UnsetRegister ReadOnlyRegister
    ways.Two (StepsForm p a i (Ok ways.Two) b c) h in
    form_of_two p a i b c parts kept performs

-- ---- the bytes that spell them

spells_kept : (rows j n : ℕ) (bytes : List ℕ) (f g : AbstractFrame) → j < n
    → SpellsFrame rows j bytes g → (f ≡ g) ⊎ (f ≡ with_kinds (without_frame n) g)
    → SpellsFrame rows j bytes f
spells_kept rows j n bytes f g less spells (inl same) =
    subst (SpellsFrame rows j bytes) (sym same) spells
spells_kept rows j n bytes f g less spells (inr after) =
    subst (SpellsFrame rows j bytes)
    (sym (after ∙ frame_in-stays rows j n true (bytes ++ []) g [] less (spells []))) spells

SpellFrames-kept : (rows n : ℕ) (bytes : List FrameBytes) (a b : State) → KeepsOuterFrames n a b
    → SpellFrames rows bytes a.callers.items → SpellFrames rows (take n bytes) b.callers.items
SpellFrames-kept rows n bytes a b keeps spelled = λ j f at s known.
    let there = taken_get n bytes j s known in
    let was = keeps j f there.0 at in
    spells_kept rows j (length a.callers.items) s.bytes.now f was.0
    (slice_get_within a.callers.items j was.0 was.1) (spelled j was.0 was.1 s there.1) was.2

SpellSlots-kept : (rows : ℕ) (slots : Bool) (known : Option (Bor (List ℕ))) (a b : State)
    → (slots ≡ true → (length b.callers.items ≡ length a.callers.items)
    × (b.innermost.stack.slots ≡ a.innermost.stack.slots))
    → SpellSlots rows (length a.callers.items) known a.innermost.stack.slots
    → SpellSlots rows (length b.callers.items) (if slots then known else None)
    b.innermost.stack.slots
SpellSlots-kept rows true known a b keeps spelled =
    let same = keeps refl in
    subst (λ (n : ℕ). SpellSlots rows n known b.innermost.stack.slots) (sym same.0)
    (subst (SpellSlots rows (length a.callers.items) known) (sym same.1) spelled)
SpellSlots-kept rows false known a b keeps spelled = λ s there. absurd (cc)

-- the bytes of the parts that are kept still spell them
AreSpelled-kept : (rows : ℕ) (old new : KnownBytes) (a b : State) (kept : UntouchedParts)
    → new.frames.items ≡ take kept.frames old.frames.items
    → new.slots ≡ (if kept.slots then old.slots else None)
    → AreSpelled rows old a → KeepsParts kept a b → AreSpelled rows new b
AreSpelled-kept rows old new a b kept frames slots spelled keeps = record {
  frames = subst (λ (xs : List FrameBytes). SpellFrames rows xs b.callers.items) (sym frames)
      (SpellFrames-kept rows kept.frames old.frames.items a b keeps.frames spelled.frames);
  slots = subst (λ (o : Option (Bor (List ℕ))).
      SpellSlots rows (length b.callers.items) o b.innermost.stack.slots) (sym slots)
      (SpellSlots-kept rows kept.slots old.slots a b keeps.slots spelled.slots);
}

-- after the step, in its first successor
pub AreSpelled-after : (rows : ℕ) (old new : KnownBytes) (p : Program) (a : State) (i : Insn)
    (w : Ways) (b c : State) (parts kept : UntouchedParts) → KeptBy a i parts
    → kept ≡ kept_after w parts → new.frames.items ≡ take kept.frames old.frames.items
    → new.slots ≡ (if kept.slots then old.slots else None)
    → AreSpelled rows old a → Steps p a i (Ok w) b c → AreSpelled rows new b
AreSpelled-after rows old new p a i w b c parts kept are after frames slots spelled h =
    AreSpelled-kept rows old new a b kept frames slots spelled
    (subst (λ (k : UntouchedParts). KeepsParts k a b) (sym after)
    (after_kept p a i w b c parts are h))

-- and in its second
pub AreSpelled-after_two : (rows : ℕ) (old new : KnownBytes) (p : Program) (a : State) (i : Insn)
    (w : Ways) (b c : State) (parts kept : UntouchedParts) → KeptBy a i parts
    → kept ≡ kept_after w parts → new.frames.items ≡ take kept.frames old.frames.items
    → new.slots ≡ (if kept.slots then old.slots else None)
    → AreSpelled rows old a → Steps p a i (Ok w) b c → w ≡ ways.Two → AreSpelled rows new c
AreSpelled-after_two rows old new p a i w b c parts kept are after frames slots spelled h two =
    let same : kept ≡ parts = after ∙ ap (λ (v : Ways). kept_after v parts) two in
    let steps : Steps p a i (Ok ways.Two) b c =
    subst (λ (v : Ways). Steps p a i (Ok v) b c) two h in
    AreSpelled-kept rows old new a c kept frames slots spelled
    (subst (λ (k : UntouchedParts). KeepsParts k a c) (sym same)
    (two_kept p a i b c parts are steps))
