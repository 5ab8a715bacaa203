-- A state without some of what is known of its innermost call frame covers it.
use Rattle.rechecking.proofs.Common.{◌≡◌, ℕ, ◌<◌, ◌⊎◌, List, [], ◌∷◌, ◌++◌, length, map, Option, Some, None, IfSome, inl, inr, sym, ap, ◌∙◌, subst, arith, cases_eq, Program, Kind, Unset, StackSlot, AbstractFrame, State, frames_of, abstract_frame_at, depth, kind_at, Means, Covers, EntryHead, Entry, entry_of, EntryAt, HasEntry, Enters}
use Rattle.std.proofs.lemmas.Nat.Bits.{bit_at-zero}
use Rattle.std.proofs.lemmas.List.{map_push}
use Rattle.isa_model.specs.declared.values.Value.{Value}
use Rattle.isa_model.specs.declared.values.Cell.{Cell}
use Rattle.reg_state.specs.Kinds.{Assigned, Allows}
use Rattle.stack_state.specs.declared.slots.StackSlot.TheVariants.{Written}
use Rattle.stack_state.specs.Slots.{slot_at}
use Rattle.stack_state.specs.StackMeaning.{SlotMeans}
use Rattle.stack_state.proofs.MeaningLaws.{abstract_frame_at-caller, abstract_frame_at-innermost, FrameKeeps, MeansBy-change}
use Rattle.table_entries.specs.Forgetting.{IsWeakerFrame}

kind_allows : (e : Assigned) (before after : Kind) (v : Value)
    → (after ≡ before) ⊎ (after ≡ Unset) → Allows e before v → Allows e after v
kind_allows e before after v (inl same) h = subst (λ k. Allows e k v) (sym same) h
kind_allows e before after v (inr gone) h = subst (λ k. Allows e k v) (sym gone) tt

slot_means : (e : Assigned) (before after : StackSlot) (cs : List Cell)
    → (after ≡ before) ⊎ (after ≡ Written 0) → SlotMeans e before cs → SlotMeans e after cs
slot_means e before after cs (inl same) h = subst (λ s. SlotMeans e s cs) (sym same) h
slot_means e before after cs (inr gone) h =
    let nothing : SlotMeans e (Written 0) cs = λ i below marked. let none = bit_at-zero i in
    absurd cc in
    subst (λ s. SlotMeans e s cs) (sym gone) nothing

frame_keeps : (e : Assigned) (f g : AbstractFrame) → IsWeakerFrame f g → FrameKeeps e e f g
frame_keeps e f g weaker = record {
  registers =
      λ k v h. kind_allows e (kind_at f.registers k) (kind_at g.registers k) v
      (weaker.registers k) h;
  slots =
      λ k cs within h. slot_means e (slot_at f.stack.slots k) (slot_at g.stack.slots k) cs
      (weaker.slots k) h;
}

frames_keep : (a b : State) (g : AbstractFrame) (e : Assigned) (j : ℕ)
    → IsWeakerFrame a.innermost g → b ≡ record a { innermost = g } → j < depth a
    → FrameKeeps e e (abstract_frame_at a j) (abstract_frame_at b j)
frames_keep a b g e j weaker is below = elim (cases_eq j (length a.callers.items)) [
  | inl last ↦
      let here : abstract_frame_at a j
      ≡ a.innermost = ap (abstract_frame_at a) last ∙ abstract_frame_at-innermost a in
      let there : abstract_frame_at b j ≡ g =
      ap (λ s. abstract_frame_at s j) is
      ∙ ap (abstract_frame_at (record a { innermost = g })) last
      ∙ abstract_frame_at-innermost (record a { innermost = g }) in
      subst (λ x. FrameKeeps e e x (abstract_frame_at b j)) (sym here)
      (subst (λ x. FrameKeeps e e a.innermost x) (sym there)
      (frame_keeps e a.innermost g weaker))
  | inr apart ↦
      let same : abstract_frame_at b j ≡ abstract_frame_at a j =
      ap (λ s. abstract_frame_at s j) is
      ∙ abstract_frame_at-caller (record a { innermost = g }) j (omega arith)
      ∙ sym (abstract_frame_at-caller a j (omega arith)) in
      subst (λ x. FrameKeeps e e (abstract_frame_at a j) x) (sym same)
      (record { registers = λ k v h. h; slots = λ k cs within h. h })
]

pub Covers-weaker : (p : Program) (a b : State) (g : AbstractFrame)
    → IsWeakerFrame a.innermost g → b ≡ record a { innermost = g } → Covers p b a
unfolding Covers Means
Covers-weaker p a b g weaker is = λ s means.
    let (e, m) = means in
    let returns =
    ap (λ (x : State). map (λ f. f.return_slot) (frames_of x)) is
    ∙ map_push (λ f. f.return_slot) a.callers.items g
    ∙ ap (λ n. map (λ f. f.return_slot) a.callers.items ++ n ∷ []) weaker.returns
    ∙ sym (map_push (λ f. f.return_slot) a.callers.items a.innermost) in (
      e,
      MeansBy-change p e e a b s m.assigned (ap (λ (x : State). x.slot) is) returns
          (λ j below. frames_keep a b g e j weaker is below) m,
    )

pub IfSome-weaker : {X : Type 0} (o : Option X) (a b : State)
    → IfSome o (λ x. (g : AbstractFrame) × IsWeakerFrame a.innermost g
    × (b ≡ record a { innermost = g }))
    → IfSome o (λ x. (p : Program) → Covers p b a)
IfSome-weaker (Some x) a b (g, weaker, is) = λ p. Covers-weaker p a b g weaker is
IfSome-weaker None a b h = h

pub Covers-same : (p : Program) (a : State) → Covers p a a
unfolding Covers
Covers-same p a = λ s m. m

-- an entry whose state covers another
pub Enters-covers : (p : Program) (t : EntryAt) (number index : ℕ) (head : EntryHead)
    (a b : State) → HasEntry p t index head b → head.number < number
    → ((q : Program) → Covers q b a) → Enters t number index a
Enters-covers p t number index head a b stands less covers = record {
  entry = entry_of head b;
  there = stands.there;
  smaller = less;
  covers = covers;
}

-- an entry whose state is another one without some of what is known of its innermost frame
pub Enters-weaker : (t : EntryAt) (number index : ℕ) (head : EntryHead) (a b : State)
    → t index ≡ Some (entry_of head b)
    → ((e : Entry) → t index ≡ Some e → e.number < number)
    → ((g : AbstractFrame) × IsWeakerFrame a.innermost g × (b ≡ record a { innermost = g }))
    → Enters t number index a
Enters-weaker t number index head a b there smaller (g, weaker, is) = record {
  entry = entry_of head b;
  there = there;
  smaller = smaller (entry_of head b) there;
  covers = λ p. Covers-weaker p a b g weaker is;
}
