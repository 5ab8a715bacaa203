-- If each call frame covers the other state's, each member of the other state is a member.
-- `packet` and `null` rename packet and null identities to the other state's.
use Rattle.state_cover.proofs.Common.{◌≡◌, ◌∙◌, ℕ, zero, suc, ◌<◌, ◌≤◌, ◌++◌, inl, inr, List, [], ◌∷◌, length, map, get_or, refl, ap, arith, Kind, Unset, KindCovers, StackSlot, Written, Spilled, AbstractFrame, State, slot_at, Covers, Means, kind_at, frames_of, no_frame, abstract_frame_at, FrameCovers, KindsCover, SlotCovers}
use Rattle.std.proofs.lemmas.List.{get_or_past}
use Rattle.std.proofs.lemmas.Bool.{cases_lt}
use Rattle.isa_model.specs.declared.values.Cell.{Cell}
use Rattle.isa_model.specs.Code.Instructions.{Program}
use Rattle.reg_state.specs.Kinds.{Assigned}
use Rattle.reg_state.proofs.KindCoverLaws.{Allows-covered, renamed}
use Rattle.stack_state.specs.StackMeaning.{SlotMeans}
use Rattle.stack_state.proofs.StackLaws.{SlotMeans-spilled, SlotMeans-marks}
use Rattle.stack_state.proofs.MeaningLaws.{FrameKeeps, MeansBy-change}

-- past the last register a kind is Unset, which covers every kind
kind_covers_past : (packet null : ℕ → ℕ) (xs ys : List Kind) (k : ℕ) → length xs ≤ k
    → KindCovers packet null (kind_at xs k) (kind_at ys k)
kind_covers_past packet null xs ys k past = rw (get_or_past xs k Unset past) tt

pub KindsCover-from : (packet null : ℕ → ℕ) (xs ys : List Kind) (n : ℕ) → length xs ≤ n
    → ((k : ℕ) → k < n → KindCovers packet null (kind_at xs k) (kind_at ys k))
    → KindsCover packet null xs ys
KindsCover-from packet null xs ys n all below = λ k.
    elim (cases_lt k n)
    [ inl l ↦ below k l | inr h ↦ kind_covers_past packet null xs ys k (omega arith) ]

-- ---- frames

-- each frame covers the other's
abbrev pub AllCover : (ℕ → ℕ) → (ℕ → ℕ) → List AbstractFrame → List AbstractFrame → Type 0
AllCover packet null [] [] = Unit {0}
AllCover packet null (f ∷ fs) (g ∷ gs) = FrameCovers packet null f g × AllCover packet null fs gs
AllCover packet null fs gs = ⊥

pub AllCover-from : (packet null : ℕ → ℕ) (fs gs : List AbstractFrame) → length fs ≡ length gs
    → ((j : ℕ) (d e : AbstractFrame) → j < length fs
    → FrameCovers packet null (get_or fs j d) (get_or gs j e))
    → AllCover packet null fs gs
AllCover-from packet null [] [] same h = tt
AllCover-from packet null [] (g ∷ gs) same h = absurd (omega arith)
AllCover-from packet null (f ∷ fs) [] same h = absurd (omega arith)
AllCover-from packet null (f ∷ fs) (g ∷ gs) same h = (
  h 0 f g (omega arith),
  AllCover-from packet null fs gs (omega arith) (λ j d e l. h (suc j) d e (omega arith)),
)

-- one frame more, after the others
pub AllCover-push : (packet null : ℕ → ℕ) (fs gs : List AbstractFrame) (f g : AbstractFrame)
    → AllCover packet null fs gs
    → FrameCovers packet null f g → AllCover packet null (fs ++ f ∷ []) (gs ++ g ∷ [])
AllCover-push packet null [] [] f g c last = (last, tt)
AllCover-push packet null [] (y ∷ gs) f g c last = absurd c
AllCover-push packet null (x ∷ fs) [] f g c last = absurd c
AllCover-push packet null (x ∷ fs) (y ∷ gs) f g c last =
    (c.0, AllCover-push packet null fs gs f g c.1 last)

same_returns : (packet null : ℕ → ℕ) (fs gs : List AbstractFrame) → AllCover packet null fs gs
    → map (λ f. f.return_slot) fs ≡ map (λ f. f.return_slot) gs
same_returns packet null [] [] c = refl
same_returns packet null [] (g ∷ gs) c = absurd c
same_returns packet null (f ∷ fs) [] c = absurd c
same_returns packet null (f ∷ fs) (g ∷ gs) c =
    rw (c.0.returns, same_returns packet null fs gs c.1) refl

no_frame_covers : (packet null : ℕ → ℕ) → FrameCovers packet null no_frame no_frame
no_frame_covers packet null =
    record { returns = refl; registers = λ k. tt; slots = λ k inside i within bit. bit }

frame_covers_at : (packet null : ℕ → ℕ) (fs gs : List AbstractFrame) (j : ℕ)
    → AllCover packet null fs gs
    → FrameCovers packet null (get_or fs j no_frame) (get_or gs j no_frame)
frame_covers_at packet null [] [] j c = no_frame_covers packet null
frame_covers_at packet null [] (g ∷ gs) j c = absurd c
frame_covers_at packet null (f ∷ fs) [] j c = absurd c
frame_covers_at packet null (f ∷ fs) (g ∷ gs) zero c = c.0
frame_covers_at packet null (f ∷ fs) (g ∷ gs) (suc j) c = frame_covers_at packet null fs gs j c.1

-- ---- what a frame covers it allows

SlotMeans-covered : (packet null : ℕ → ℕ) (e : Assigned) (s t : StackSlot) (cs : List Cell)
    → SlotCovers packet null s t → SlotMeans e t cs → SlotMeans (renamed packet null e) s cs
SlotMeans-covered packet null e (Written marks) t cs c h =
    SlotMeans-marks e (renamed packet null e) t marks cs c h
SlotMeans-covered packet null e (Spilled k) (Spilled l) cs c h =
    SlotMeans-spilled e (renamed packet null e) l k cs (λ v. Allows-covered packet null e k l v c) h
SlotMeans-covered packet null e (Spilled k) (Written marks) cs c h = absurd c

FrameKeeps-covered : (packet null : ℕ → ℕ) (e : Assigned) (f g : AbstractFrame)
    → FrameCovers packet null f g → FrameKeeps e (renamed packet null e) g f
FrameKeeps-covered packet null e f g c = record {
  registers =
      λ k v. Allows-covered packet null e (kind_at f.registers k) (kind_at g.registers k) v
      (c.registers k);
  slots =
      λ k cs inside.
      SlotMeans-covered packet null e (slot_at f.stack.slots k) (slot_at g.stack.slots k) cs
      (c.slots k inside);
}

pub Covers-from : (p : Program) (a b : State) (packet null : ℕ → ℕ) → packet 0 ≡ 0 → a.slot ≡ b.slot
    → AllCover packet null (frames_of a) (frames_of b) → Covers p a b
unfolding Covers Means
Covers-from p a b packet null none slot frames = λ s means.
    let e = means.0 in
    let m = means.1 in
    let of = m.assigned in (
      renamed packet null e,
      MeansBy-change p e (renamed packet null e) b a s
          (record {
            none = ap e.offset none ∙ of.none;
            length_is = of.length_is;
            serials = of.serials;
            contents = of.contents;
          }) slot
          (same_returns packet null (frames_of a) (frames_of b) frames)
          (λ j below. FrameKeeps-covered packet null e (abstract_frame_at a j)
          (abstract_frame_at b j)
          (frame_covers_at packet null (frames_of a) (frames_of b) j frames))
          m,
    )
