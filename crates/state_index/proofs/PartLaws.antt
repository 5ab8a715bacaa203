-- The parts of a call frame, written one after the other, make the frame again.
use Rattle.state_index.proofs.Common.{◌≡◌, ℕ, zero, suc, ◌+◌, ◌-◌, ◌<◌, ◌≤◌, List, [], ◌∷◌, ◌++◌, length, get_or, set, drop, drop-cons, add-one, replicate, append_assoc, length-append, true, false, Option, Some, None, refl, sym, ap, ◌∙◌, subst, inl, inr, arith, option_to_list, if◌then◌else◌, ◌==◌, register_part, slot_part, register_parts, slot_parts, parts_of, IsPartOf, unset_frame, with_part, all_written}
use Rattle.std.proofs.lemmas.Bool.{cases_lt}
use Rattle.std.proofs.lemmas.Bool.Decides.{nat_tests}
use Rattle.std.proofs.lemmas.List.{drop_all, append-nil, get_or_append_left, get_or-append_right}
use Rattle.std.proofs.Math.Seq.{set-append_seam}
use Rattle.reg_state.specs.declared.kinds.Kind.{Kind}
use Rattle.reg_state.specs.declared.kinds.Kind.TheVariants.{Unset}
use Rattle.stack_state.specs.declared.slots.StackSlot.{StackSlot}
use Rattle.stack_state.specs.declared.slots.StackSlot.TheVariants.{Written, Spilled}
use Rattle.stack_state.specs.declared.states.AbstractFrame.{AbstractFrame}
use Rattle.stack_state.specs.Meaning.{kind_at}
use Rattle.stack_state.specs.Slots.{slot_at, frame_slots}
use Rattle.state_index.specs.declared.parts.Part.{Part}
use Rattle.state_index.specs.declared.parts.Part.TheVariants.{InRegister, InSlot}

-- ---- one part more

pub register_parts-more : (now new all : List Part) (ks : List Kind) (i : ℕ) (d : Kind)
    → i < length ks
    → new ≡ now ++ option_to_list (register_part i (get_or ks i d))
    → now ++ register_parts i (drop i ks) ≡ all
    → new ++ register_parts (i + 1) (drop (i + 1) ks) ≡ all
register_parts-more now new all ks i d inside pushed before =
    let k : Kind = get_or ks i d in
    let there : drop i ks ≡ k ∷ drop (suc i) ks = drop-cons ks i d inside in
    let next : drop (i + 1) ks ≡ drop (suc i) ks = ap (λ n. drop n ks) (add-one i) in
    ap (λ l. l ++ register_parts (i + 1) (drop (i + 1) ks)) pushed
    ∙ append_assoc now (option_to_list (register_part i k))
    (register_parts (i + 1) (drop (i + 1) ks))
    ∙ ap (λ l. now ++ (option_to_list (register_part i k) ++ register_parts (i + 1) l)) next
    ∙ ap (λ l. now ++ register_parts i l) (sym there)
    ∙ before

pub slot_parts-more : (now new all : List Part) (ts : List StackSlot) (i : ℕ) (d : StackSlot)
    → i < length ts
    → new ≡ now ++ option_to_list (slot_part i (get_or ts i d))
    → now ++ slot_parts i (drop i ts) ≡ all
    → new ++ slot_parts (i + 1) (drop (i + 1) ts) ≡ all
slot_parts-more now new all ts i d inside pushed before =
    let t : StackSlot = get_or ts i d in
    let there : drop i ts ≡ t ∷ drop (suc i) ts = drop-cons ts i d inside in
    let next : drop (i + 1) ts ≡ drop (suc i) ts = ap (λ n. drop n ts) (add-one i) in
    ap (λ l. l ++ slot_parts (i + 1) (drop (i + 1) ts)) pushed
    ∙ append_assoc now (option_to_list (slot_part i t)) (slot_parts (i + 1) (drop (i + 1) ts))
    ∙ ap (λ l. now ++ (option_to_list (slot_part i t) ++ slot_parts (i + 1) l)) next
    ∙ ap (λ l. now ++ slot_parts i l) (sym there)
    ∙ before

-- a stack slot about which nothing is known has no part
slot_parts-skip : (now all : List Part) (ts : List StackSlot) (i : ℕ) → i < length ts
    → slot_at ts i ≡ Written 0 → now ++ slot_parts i (drop i ts) ≡ all
    → now ++ slot_parts (i + 1) (drop (i + 1) ts) ≡ all
slot_parts-skip now all ts i inside blank before =
    let none : option_to_list (slot_part i (get_or ts i (Written 0))) ≡ [] =
    ap (λ (t : StackSlot). option_to_list (slot_part i t)) blank in
    slot_parts-more now now all ts i (Written 0) inside
    (sym (append-nil now) ∙ ap (λ l. now ++ l) (sym none)) before

-- nor have several in a row
pub slot_parts-skip_all : (now all : List Part) (ts : List StackSlot) (i n : ℕ) → i + n ≤ length ts
    → ((j : ℕ) → i ≤ j → j < i + n → slot_at ts j ≡ Written 0)
    → now ++ slot_parts i (drop i ts) ≡ all
    → now ++ slot_parts (i + n) (drop (i + n) ts) ≡ all
slot_parts-skip_all now all ts i zero inside blank before =
    let same : i + 0 ≡ i = omega arith in
    ap (λ m. now ++ slot_parts m (drop m ts)) same ∙ before
slot_parts-skip_all now all ts i (suc n) inside blank before =
    let shorter =
    slot_parts-skip_all now all ts i n (omega arith)
    (λ j from to. blank j from (omega arith)) before in
    let same : i + suc n ≡ i + n + 1 = omega arith in
    ap (λ m. now ++ slot_parts m (drop m ts)) same
    ∙ slot_parts-skip now all ts (i + n) (omega arith)
    (blank (i + n) (omega arith) (omega arith)) shorter

-- the same with another name for n
pub slot_parts-from : (now all : List Part) (ts : List StackSlot) (n m : ℕ) → m ≡ n
    → now ++ slot_parts n (drop n ts) ≡ all → now ++ slot_parts m (drop m ts) ≡ all
slot_parts-from now all ts n m same before = ap (λ k. now ++ slot_parts k (drop k ts)) same ∙ before

-- stack slots about which nothing is known have no parts
pub slot_parts-blank : (ts : List StackSlot) (n : ℕ)
    → ((j : ℕ) → j < length ts → slot_at ts j ≡ Written 0) → slot_parts n ts ≡ []
slot_parts-blank [] n blank = refl
slot_parts-blank (t ∷ ts) n blank =
    let first : t ≡ Written 0 = blank zero (omega arith) in
    ap (λ (x : StackSlot). option_to_list (slot_part n x) ++ slot_parts (n + 1) ts) first
    ∙ slot_parts-blank ts (n + 1) (λ j below. blank (suc j) (omega arith))

pub register_parts-all : (now all : List Part) (ks : List Kind) (n : ℕ) → length ks ≤ n
    → now ++ register_parts n (drop n ks) ≡ all → now ≡ all
register_parts-all now all ks n over h =
    sym (append-nil now) ∙ ap (λ l. now ++ register_parts n l) (sym (drop_all n ks over)) ∙ h

pub slot_parts-all : (now all : List Part) (ts : List StackSlot) (n : ℕ) → length ts ≤ n
    → now ++ slot_parts n (drop n ts) ≡ all → now ≡ all
slot_parts-all now all ts n over h =
    sym (append-nil now) ∙ ap (λ l. now ++ slot_parts n l) (sym (drop_all n ts over)) ∙ h

-- ---- writes, one after the other

pub all_written-append : (f : AbstractFrame) (ps qs : List Part)
    → all_written f (ps ++ qs) ≡ all_written (all_written f ps) qs
unfolding all_written
all_written-append f [] qs = refl
all_written-append f (p ∷ ps) qs = all_written-append (with_part f p) ps qs

pub all_written-more : (f : AbstractFrame) (ps : List Part) (i : ℕ) (p : Part) → i < length ps
    → p ≡ get_or ps i p
    → all_written f (drop i ps) ≡ all_written (with_part f p) (drop (i + 1) ps)
unfolding all_written
all_written-more f ps i p inside at =
    let there : drop i ps ≡ p ∷ drop (suc i) ps =
    drop-cons ps i p inside ∙ ap (λ q. q ∷ drop (suc i) ps) (sym at) in
    ap (all_written f) there ∙ ap (λ n. all_written (with_part f p) (drop n ps)) (sym (add-one i))

pub all_written-all : (f : AbstractFrame) (ps : List Part) (n : ℕ) → length ps ≤ n
    → all_written f (drop n ps) ≡ f
unfolding all_written
all_written-all f ps n over = ap (all_written f) (drop_all n ps over)

set_here : {X : Type 0} (xs done rest : List X) (n : ℕ) (old new : X) → length done ≡ n
    → xs ≡ done ++ old ∷ rest → set xs n new ≡ done ++ new ∷ rest
set_here xs done rest n old new long same =
    ap (λ l. set l n new) same ∙ ap (λ k. set (done ++ old ∷ rest) k new) (sym long)
    ∙ set-append_seam done old rest new

-- ---- registers

register_made : (f : AbstractFrame) (n : ℕ) (done rest : List Kind) (k : Kind) (ps : List Part)
    → length done ≡ n → f.registers ≡ done ++ Unset ∷ rest
    → all_written f (option_to_list (register_part n k) ++ ps)
    ≡ all_written (record f { registers = done ++ k ∷ rest }) ps
unfolding all_written
register_made f n done rest Unset ps long same =
    ap (λ ks. all_written (record f { registers = ks }) ps) same
register_made f n done rest k ps long same =
    ap (λ ks. all_written (record f { registers = ks }) ps)
    (set_here f.registers done rest n Unset k long same)

registers_made : (f : AbstractFrame) (n : ℕ) (done ks : List Kind) → length done ≡ n
    → f.registers ≡ done ++ replicate (length ks) Unset
    → all_written f (register_parts n ks) ≡ record f { registers = done ++ ks }
unfolding all_written
registers_made f n done [] long same = ap (λ l. record f { registers = l }) same
registers_made f n done (k ∷ ks) long same =
    let rest : List Kind = replicate (length ks) Unset in
    let longer : length (done ++ k ∷ []) ≡ n + 1 =
    length-append done (k ∷ []) ∙ ap (λ m. m + 1) long in
    register_made f n done rest k (register_parts (n + 1) ks) long same
    ∙ registers_made (record f { registers = done ++ k ∷ rest }) (n + 1) (done ++ k ∷ []) ks longer
    (sym (append_assoc done (k ∷ []) rest))
    ∙ ap (λ l. record f { registers = l }) (append_assoc done (k ∷ []) ks)

-- ---- stack slots

abbrev with_slots : AbstractFrame → List StackSlot → AbstractFrame
with_slots f slots = record f { stack = record { slots = slots } }

slot_made : (f : AbstractFrame) (n : ℕ) (done rest : List StackSlot) (t : StackSlot)
    (ps : List Part) → length done ≡ n → f.stack.slots ≡ done ++ Written 0 ∷ rest
    → all_written f (option_to_list (slot_part n t) ++ ps)
    ≡ all_written (with_slots f (done ++ t ∷ rest)) ps
unfolding all_written
slot_made f n done rest (Spilled k) ps long same =
    ap (λ l. all_written (with_slots f l) ps)
    (set_here f.stack.slots done rest n (Written 0) (Spilled k) long same)
slot_made f n done rest (Written marks) ps long same =
    elim (marks == 0) as (λ b. (marks == 0) ≡ b
    → all_written f (option_to_list (if b then None else Some (InSlot n (Written marks))) ++ ps)
    ≡ all_written (with_slots f (done ++ Written marks ∷ rest)) ps) [
      | true ↦ λ e. let none : marks ≡ 0 = grind (arith, nat_tests) in
          ap (λ l. all_written (with_slots f l) ps)
          (same ∙ ap (λ m. done ++ Written m ∷ rest) (sym none))
      | false ↦
          λ e. ap (λ l. all_written (with_slots f l) ps)
          (set_here f.stack.slots done rest n (Written 0) (Written marks) long same)
    ] refl

slots_made : (f : AbstractFrame) (n : ℕ) (done ts : List StackSlot) → length done ≡ n
    → f.stack.slots ≡ done ++ replicate (length ts) (Written 0)
    → all_written f (slot_parts n ts) ≡ with_slots f (done ++ ts)
unfolding all_written
slots_made f n done [] long same = ap (with_slots f) same
slots_made f n done (t ∷ ts) long same =
    let rest : List StackSlot = replicate (length ts) (Written 0) in
    let longer : length (done ++ t ∷ []) ≡ n + 1 =
    length-append done (t ∷ []) ∙ ap (λ m. m + 1) long in
    slot_made f n done rest t (slot_parts (n + 1) ts) long same
    ∙ slots_made (with_slots f (done ++ t ∷ rest)) (n + 1) (done ++ t ∷ []) ts longer
    (sym (append_assoc done (t ∷ []) rest))
    ∙ ap (with_slots f) (append_assoc done (t ∷ []) ts)

-- ---- frames

pub all_written-parts_of : (f : AbstractFrame) (ps : List Part) → length f.registers ≡ 10
    → length f.stack.slots ≡ frame_slots → ps ≡ parts_of f
    → all_written (unset_frame f.return_slot) ps ≡ f
unfolding parts_of unset_frame
all_written-parts_of f ps ten wide is =
    let none : AbstractFrame = unset_frame f.return_slot in
    let unset : none.registers ≡ [] ++ replicate (length f.registers) Unset =
    ap (λ n. replicate n Unset) (sym ten) in
    let blank : none.stack.slots ≡ [] ++ replicate (length f.stack.slots) (Written 0) =
    ap (λ n. replicate n (Written 0)) (sym wide) in
    ap (all_written none) is
    ∙ all_written-append none (register_parts 0 f.registers) (slot_parts 0 f.stack.slots)
    ∙ ap (λ g. all_written g (slot_parts 0 f.stack.slots))
    (registers_made none 0 [] f.registers refl unset)
    ∙ slots_made (record none { registers = f.registers }) 0 [] f.stack.slots refl blank

-- all that is kept of a frame
pub kept_parts : (f : AbstractFrame) (none some all : List Part) → none ≡ []
    → some ≡ none ++ register_parts 0 f.registers
    → all ≡ some ++ slot_parts 0 f.stack.slots → all ≡ parts_of f
unfolding parts_of
kept_parts f none some all empty registers slots =
    slots ∙ ap (λ l. l ++ slot_parts 0 f.stack.slots)
    (registers ∙ ap (λ l. l ++ register_parts 0 f.registers) empty)

-- ---- each part is the frame's

part_in_option : (f : AbstractFrame) (o : Option Part) (ps : List Part)
    → ((p : Part) → o ≡ Some p → IsPartOf f p)
    → ((i : ℕ) (d : Part) → i < length ps → IsPartOf f (get_or ps i d)) → (i : ℕ) (d : Part)
    → i < length (option_to_list o ++ ps)
    → IsPartOf f (get_or (option_to_list o ++ ps) i d)
part_in_option f None ps first rest i d inside = rest i d inside
part_in_option f (Some p) ps first rest zero d inside = first p refl
part_in_option f (Some p) ps first rest (suc i) d inside = rest i d (omega arith)

get_or-seam : {X : Type 0} (xs done rest : List X) (n : ℕ) (x d : X) → length done ≡ n
    → xs ≡ done ++ x ∷ rest → get_or xs n d ≡ x
get_or-seam xs done rest n x d long same =
    let here : n - n ≡ 0 = omega arith in
    ap (λ l. get_or l n d) same ∙ get_or-append_right done (x ∷ rest) n n d long (omega arith)
    ∙ ap (λ k. get_or (x ∷ rest) k d) here

register_part_is : (f : AbstractFrame) (n : ℕ) (k : Kind) → kind_at f.registers n ≡ k → (p : Part)
    → register_part n k ≡ Some p → IsPartOf f p
register_part_is f n Unset at p is = absurd (cc)
register_part_is f n k at p is = let same : InRegister n k ≡ p = cc in subst (IsPartOf f) same at

slot_part_is : (f : AbstractFrame) (n : ℕ) (t : StackSlot) → slot_at f.stack.slots n ≡ t
    → (p : Part) → slot_part n t ≡ Some p → IsPartOf f p
slot_part_is f n (Spilled k) at p is =
    let same : InSlot n (Spilled k) ≡ p = cc in subst (IsPartOf f) same at
slot_part_is f n (Written marks) at p is =
    elim (marks == 0) as (λ b. (if b then None else Some (InSlot n (Written marks))) ≡ Some p
    → IsPartOf f p) [
      | true ↦ λ e. absurd (cc)
      | false ↦ λ e. let same : InSlot n (Written marks) ≡ p = cc in subst (IsPartOf f) same at
    ] is

register_part_at : (f : AbstractFrame) (n : ℕ) (done ks : List Kind) → length done ≡ n
    → f.registers ≡ done ++ ks
    → (i : ℕ) (d : Part) → i < length (register_parts n ks)
    → IsPartOf f (get_or (register_parts n ks) i d)
register_part_at f n done [] long same i d inside = absurd (omega arith)
register_part_at f n done (k ∷ ks) long same i d inside =
    let longer : length (done ++ k ∷ []) ≡ n + 1 =
    length-append done (k ∷ []) ∙ ap (λ m. m + 1) long in
    part_in_option f (register_part n k) (register_parts (n + 1) ks)
    (register_part_is f n k (get_or-seam f.registers done ks n k Unset long same))
    (register_part_at f (n + 1) (done ++ k ∷ []) ks longer
    (same ∙ sym (append_assoc done (k ∷ []) ks))) i d inside

slot_part_at : (f : AbstractFrame) (n : ℕ) (done ts : List StackSlot) → length done ≡ n
    → f.stack.slots ≡ done ++ ts
    → (i : ℕ) (d : Part) → i < length (slot_parts n ts) → IsPartOf f (get_or (slot_parts n ts) i d)
slot_part_at f n done [] long same i d inside = absurd (omega arith)
slot_part_at f n done (t ∷ ts) long same i d inside =
    let longer : length (done ++ t ∷ []) ≡ n + 1 =
    length-append done (t ∷ []) ∙ ap (λ m. m + 1) long in
    part_in_option f (slot_part n t) (slot_parts (n + 1) ts)
    (slot_part_is f n t (get_or-seam f.stack.slots done ts n t (Written 0) long same))
    (slot_part_at f (n + 1) (done ++ t ∷ []) ts longer (same ∙ sym (append_assoc done (t ∷ []) ts)))
    i d inside

pub part_at : (f : AbstractFrame) (ps : List Part) (i : ℕ) (p : Part) → ps ≡ parts_of f
    → i < length ps → p ≡ get_or ps i p → IsPartOf f p
unfolding parts_of
part_at f ps i p is inside at =
    let rs : List Part = register_parts 0 f.registers in
    let ss : List Part = slot_parts 0 f.stack.slots in
    let long : length ps ≡ length rs + length ss = ap length is ∙ length-append rs ss in
    let there : p ≡ get_or (rs ++ ss) i p = at ∙ ap (λ l. get_or l i p) is in
    elim (cases_lt i (length rs)) [
      | inl below ↦
          subst (IsPartOf f) (sym (there ∙ get_or_append_left rs ss p i below))
          (register_part_at f 0 [] f.registers refl refl i p below)
      | inr above ↦
          subst (IsPartOf f) (sym (there ∙ get_or-append_right rs ss (length rs) i p refl above))
          (slot_part_at f 0 [] f.stack.slots refl refl (i - length rs) p (omega arith))
    ]
