-- Changes of a call frame, one after the other, and taken back.
use Rattle.kept_states.proofs.Common.{◌≡◌, ◌∙◌, ℕ, zero, suc, ◌+◌, List, [], ◌∷◌, ◌++◌, take, drop, reverse, get_or, set, add-one, length, refl, sym, ap, ap₂, arith, drop_all, take_all, reverse-append, set-set, set-get_or, Kind, StackSlot, AbstractFrame, Part, InRegister, InSlot, with_part, all_written, all_written-append, IsChanged, changes_of, earlier_parts}
use Rattle.std.proofs.Math.Seq.{take-add}
use Rattle.kept_states.specs.declared.part_changes.Change.{Change}
use Rattle.kept_states.specs.declared.changes.ChangedFrame.{ChangedFrame}
use Rattle.kept_states.specs.EarlierParts.{PartStacks, earlier_part, parts_left}

pub drop-add : {X : Type 0} (n m : ℕ) (l : List X) → drop (n + m) l ≡ drop m (drop n l)
drop-add zero m l = let e : zero + m ≡ m = omega arith in ap (λ k. drop k l) e
drop-add (suc n) m [] =
    drop_all (suc n + m) [] (omega arith) ∙ sym (drop_all m [] (omega arith))
drop-add (suc n) m (x ∷ l) =
    let e : suc n + m ≡ suc (n + m) = omega arith in
    ap (λ k. drop k (x ∷ l)) e ∙ drop-add n m l

pub IsChanged-none : (c : ChangedFrame) → IsChanged 0 c c
unfolding all_written
IsChanged-none c = record { frame = refl; changes = refl }

-- n changes, and then m more
pub IsChanged-more : (n m : ℕ) (a b c : ChangedFrame) → IsChanged n a b → IsChanged m b c
    → IsChanged (n + m) a c
IsChanged-more n m a b c first more =
    let cs = changes_of c in
    let turned : n + m ≡ m + n = omega arith in
    record {
      frame =
          ap (λ k. all_written c.frame (take k cs)) turned
          ∙ ap (all_written c.frame) (take-add m n cs)
          ∙ all_written-append c.frame (take m cs) (take n (drop m cs))
          ∙ ap (λ f. all_written f (take n (drop m cs))) more.frame
          ∙ ap (λ l. all_written b.frame (take n l)) more.changes
          ∙ first.frame;
      changes =
          ap (λ k. drop k cs) turned ∙ drop-add m n cs ∙ ap (drop n) more.changes
          ∙ first.changes;
    }

-- the list with one more at its end, the last one first
pub reverse_more : {X : Type 0} (old new : List X) (x : X) → new ≡ old ++ x ∷ []
    → reverse new ≡ x ∷ reverse old
reverse_more old new x more = ap reverse more ∙ reverse-append old (x ∷ [])

-- one change more
pub changes_more : (old new : ChangedFrame) (c : Change) (was : Part)
    → new.changes.items ≡ old.changes.items ++ c ∷ []
    → earlier_part c new.earlier new.frame ≡ was
    → parts_left c new.earlier new.frame ≡ old.earlier → with_part new.frame was ≡ old.frame
    → changes_of new ≡ was ∷ changes_of old
unfolding earlier_parts
changes_more old new c was more is left back =
    let before = reverse old.changes.items in
    ap (λ cs. earlier_parts new.frame cs new.earlier)
    (reverse_more old.changes.items new.changes.items c more)
    ∙ ap₂ (λ (p : Part) (s : PartStacks). p ∷ earlier_parts (with_part new.frame p) before s) is
    left
    ∙ ap (λ f. was ∷ earlier_parts f before old.earlier) back

-- one change less
pub changes_less : (old new : ChangedFrame) (c : Change) (was : Part)
    → old.changes.items ≡ new.changes.items ++ c ∷ []
    → was ≡ earlier_part c old.earlier old.frame
    → new.earlier ≡ parts_left c old.earlier old.frame → new.frame ≡ with_part old.frame was
    → changes_of old ≡ was ∷ changes_of new
changes_less old new c was more is left back =
    changes_more new old c was more (sym is) (sym left) (sym back)

-- one change
pub IsChanged-one : (old new : ChangedFrame) (c : Change) (part was : Part)
    → new.changes.items ≡ old.changes.items ++ c ∷ []
    → new.frame ≡ with_part old.frame part
    → with_part (with_part old.frame part) was ≡ old.frame
    → earlier_part c new.earlier new.frame ≡ was
    → parts_left c new.earlier new.frame ≡ old.earlier → IsChanged 1 old new
unfolding all_written
IsChanged-one old new c part was more written back is left =
    let undone : with_part new.frame was ≡ old.frame =
    ap (λ f. with_part f was) written ∙ back in
    let rev : changes_of new ≡ was ∷ changes_of old =
    changes_more old new c was more is left undone in
    record {
      frame = ap (λ l. all_written new.frame (take 1 l)) rev ∙ undone;
      changes = ap (λ l. drop 1 l) rev;
    }

-- the last change is taken back first
pub undo_one : (f : AbstractFrame) (was : Part) (rest all : List Part) (k j : ℕ) → k ≡ j + 1
    → all ≡ was ∷ rest
    → all_written f (take k all) ≡ all_written (with_part f was) (take j rest)
unfolding all_written
undo_one f was rest all k j next first =
    ap (λ l. all_written f (take k l)) first
    ∙ ap (λ i. all_written f (take i (was ∷ rest))) (next ∙ add-one j)

pub drop_one : (was : Part) (rest all : List Part) (k j : ℕ) → k ≡ j + 1 → all ≡ was ∷ rest
    → drop k all ≡ drop j rest
drop_one was rest all k j next first =
    ap (drop k) first ∙ ap (λ i. drop i (was ∷ rest)) (next ∙ add-one j)

pub no_changes : (f : AbstractFrame) (items : List Change) (s : PartStacks) → length items ≡ 0
    → earlier_parts f (reverse items) s ≡ []
unfolding earlier_parts
no_changes f [] s none = refl
no_changes f (c ∷ items) s none = absurd (omega arith)

-- where there are no changes, none is taken back
pub undo_none : (f : AbstractFrame) (items : List Change) (s : PartStacks) (k : ℕ)
    → length items ≡ 0 → f ≡ all_written f (take k (earlier_parts f (reverse items) s))
unfolding all_written
undo_none f items s k none =
    sym (ap (λ l. all_written f (take k l)) (no_changes f items s none)
    ∙ ap (all_written f) (take_all k [] (omega arith)))

-- ---- a part as it was, written again

pub register_back : (f : AbstractFrame) (p : Part) (n : ℕ) (k was : Kind) → p ≡ InRegister n k
    → was ≡ get_or f.registers n was → with_part (with_part f p) (InRegister n was) ≡ f
register_back f p n k was is here =
    ap (λ q. with_part (with_part f q) (InRegister n was)) is
    ∙ ap (λ ks. record f { registers = ks })
    (set-set f.registers n k was ∙ ap (set f.registers n) here ∙ set-get_or f.registers n was)

pub slot_back : (f : AbstractFrame) (p : Part) (n : ℕ) (t was : StackSlot) → p ≡ InSlot n t
    → was ≡ get_or f.stack.slots n was → with_part (with_part f p) (InSlot n was) ≡ f
slot_back f p n t was is here =
    ap (λ q. with_part (with_part f q) (InSlot n was)) is
    ∙ ap (λ ts. record f { stack = record { slots = ts } })
    (set-set f.stack.slots n t was ∙ ap (set f.stack.slots n) here
    ∙ set-get_or f.stack.slots n was)
