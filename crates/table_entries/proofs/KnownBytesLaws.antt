-- Bytes that are known to spell parts of a state: more of them, and fewer.
use Rattle.table_entries.proofs.Common.{◌≡◌, ℕ, zero, suc, ◌<◌, ◌⊎◌, List, [], ◌∷◌, ◌++◌, length, take, slice_get, Some, None, inl, inr, sym, ap, ◌∙◌, subst, arith, refl, AbstractFrame, State, SpellsFrame, SpellFrames, IsNoted, NotesFrame, AreSpelled}
use Rattle.table_entries.specs.declared.known_bytes.FrameBytes.{FrameBytes}
use Rattle.table_entries.specs.declared.known_bytes.KnownBytes.{KnownBytes}

-- an element of a list that has one more at its end
pub pushed_get : {X : Type 0} (xs : List X) (y x : X) (j : ℕ) → slice_get (xs ++ y ∷ []) j ≡ Some x
    → (slice_get xs j ≡ Some x) ⊎ ((j ≡ length xs) × (x ≡ y))
pushed_get [] y x zero h = inr (refl, cc)
pushed_get [] y x (suc j) h = absurd (cc)
pushed_get (z ∷ xs) y x zero h = inl h
pushed_get (z ∷ xs) y x (suc j) h = elim (pushed_get xs y x j h) [
  | inl before ↦ inl before
  | inr last ↦ inr (ap suc last.0, last.1)
]

-- one of the first of a list
pub taken_get : {X : Type 0} (n : ℕ) (xs : List X) (j : ℕ) (x : X)
    → slice_get (take n xs) j ≡ Some x → (j < n) × (slice_get xs j ≡ Some x)
taken_get zero xs j x h = absurd (cc)
taken_get (suc n) [] j x h = absurd (cc)
taken_get (suc n) (y ∷ xs) zero x h = (omega arith, h)
taken_get (suc n) (y ∷ xs) (suc j) x h =
    let more = taken_get n xs j x h in
    let less = more.0 in
    (omega arith, more.1)

-- nothing is known
pub SpellFrames-none : (rows : ℕ) (frames : List AbstractFrame) → SpellFrames rows [] frames
SpellFrames-none rows frames = λ holder f there s known. absurd (cc)

pub AreSpelled-none : (rows : ℕ) (known : KnownBytes) (a : State) → known.frames.items ≡ []
    → known.slots ≡ None → AreSpelled rows known a
AreSpelled-none rows known a frames slots = record {
  frames = subst (λ (xs : List FrameBytes). SpellFrames rows xs a.callers.items) (sym frames)
      (SpellFrames-none rows a.callers.items);
  slots = λ b there. absurd (cc);
}

-- the call frame of one index is spelled
pub SpellFrames-notes : (rows holder : ℕ) (f : AbstractFrame) (frames : List AbstractFrame)
    (old new : List FrameBytes) → slice_get frames holder ≡ Some f → SpellFrames rows old frames
    → NotesFrame rows holder f old new → SpellFrames rows new frames
SpellFrames-notes rows holder f frames old new at spelled (inl same) =
    subst (λ (known : List FrameBytes). SpellFrames rows known frames) (sym same) spelled
SpellFrames-notes rows holder f frames old new at spelled (inr (s, end, spells, more)) =
    λ j g there t known.
    elim (pushed_get old s t j (ap (λ xs. slice_get xs j) (sym more) ∙ known)) [
      | inl before ↦ spelled j g there t before
      | inr last ↦
          let index : j ≡ holder = last.0 ∙ end in
          let frame : g ≡ f = cc in
          subst (λ (i : ℕ). SpellsFrame rows i t.bytes.now g) (sym index)
          (subst (λ (h : AbstractFrame). SpellsFrame rows holder t.bytes.now h) (sym frame)
          (subst (λ (u : FrameBytes). SpellsFrame rows holder u.bytes.now f) (sym last.1) spells))
    ]

-- what becomes known spells the frame
pub NotesFrame-noted : (rows holder : ℕ) (f : AbstractFrame) (bytes : List ℕ)
    (old new : List FrameBytes) → SpellsFrame rows holder bytes f → IsNoted holder bytes old new
    → NotesFrame rows holder f old new
NotesFrame-noted rows holder f bytes old new spells (inl same) = inl same
NotesFrame-noted rows holder f bytes old new spells (inr (s, end, are, more)) =
    inr (s, end, subst (λ (xs : List ℕ). SpellsFrame rows holder xs f) (sym are) spells, more)

-- ---- fewer

pub SpellFrames-take : (rows n : ℕ) (known : List FrameBytes) (frames : List AbstractFrame)
    → SpellFrames rows known frames → SpellFrames rows (take n known) frames
SpellFrames-take rows n known frames spelled = λ holder f at s there.
    spelled holder f at s (taken_get n known holder s there).1

-- a state with the same outer frames, where no bytes are known for the stack slots
pub AreSpelled-outer : (rows n : ℕ) (old new : KnownBytes) (a b : State)
    → new.frames.items ≡ take n old.frames.items → new.slots ≡ None → b.callers ≡ a.callers
    → AreSpelled rows old a → AreSpelled rows new b
AreSpelled-outer rows n old new a b frames slots same spelled = record {
  frames =
      subst (λ (xs : List FrameBytes). SpellFrames rows xs b.callers.items) (sym frames)
      (subst (λ c. SpellFrames rows (take n old.frames.items) c.items) (sym same)
      (SpellFrames-take rows n old.frames.items a.callers.items spelled.frames));
  slots = λ s there. absurd (cc);
}
