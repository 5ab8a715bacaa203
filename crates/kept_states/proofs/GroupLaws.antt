-- Parts in groups, group by group.
use Rattle.kept_states.proofs.Common.{◌≡◌, ℕ, zero, suc, ◌+◌, ◌<◌, ◌≤◌, List, [], ◌∷◌, ◌++◌, length, option_to_list, get_or, drop, drop-cons, add-one, append_assoc, sym, ap, ◌∙◌, arith, subst, All, drop_all, append-nil, get_or_default, Kind, StackSlot, AbstractFrame, Part, register_part, slot_part, register_parts, slot_parts, parts_of, IsPartOf, all_written, all_written-append, part_at, whole}
use Rattle.std.proofs.Math.Seq.{take-append_seam, drop-append_seam}
use Rattle.std.proofs.lemmas.List.Elements.{All-take, All-drop}

pub whole-more : (ps : List (List Part)) (p : List Part) → whole (ps ++ p ∷ []) ≡ whole ps ++ p
whole-more [] p = append-nil p
whole-more (q ∷ qs) p = ap (λ l. q ++ l) (whole-more qs p) ∙ sym (append_assoc q (whole qs) p)

pub whole_done : (ps : List (List Part)) (rest parts : List Part) → length rest ≡ 0
    → whole ps ++ rest ≡ parts → whole ps ≡ parts
whole_done ps [] parts none h = sym (append-nil (whole ps)) ∙ h
whole_done ps (p ∷ rest) parts none h = absurd (omega arith)

-- what is whole after one more group
pub whole_cut : (old new first rest more parts : List Part) → new ≡ old ++ first
    → rest ≡ first ++ more → old ++ rest ≡ parts → new ++ more ≡ parts
whole_cut old new first rest more parts pushed cut before =
    ap (λ l. l ++ more) pushed ∙ append_assoc old first more ∙ ap (λ l. old ++ l) (sym cut) ∙ before

-- the groups from one on, written after the ones before it
pub all_written-next : (f : AbstractFrame) (ps : List (List Part)) (i : ℕ) (p : List Part)
    → i < length ps → p ≡ get_or ps i p
    → all_written f (whole (drop i ps)) ≡ all_written (all_written f p) (whole (drop (i + 1) ps))
all_written-next f ps i p inside at =
    let there : drop i ps ≡ p ∷ drop (suc i) ps =
    drop-cons ps i p inside ∙ ap (λ q. q ∷ drop (suc i) ps) (sym at) in
    ap (λ l. all_written f (whole l)) there
    ∙ all_written-append f p (whole (drop (suc i) ps))
    ∙ ap (λ n. all_written (all_written f p) (whole (drop n ps))) (sym (add-one i))

-- ---- what holds of all parts

pub All-first : {X : Type 0} (P : X → Type 0) (xs ys : List X) → All P (xs ++ ys) → All P xs
All-first P xs ys h = subst (All P) (take-append_seam xs ys) (All-take P (length xs) (xs ++ ys) h)

pub All-others : {X : Type 0} (P : X → Type 0) (xs ys : List X) → All P (xs ++ ys) → All P ys
All-others P xs ys h = subst (All P) (drop-append_seam xs ys) (All-drop P (length xs) (xs ++ ys) h)

pub group_all : (P : Part → Type 0) (ps : List (List Part)) (i : ℕ) (d : List Part) → i < length ps
    → All P (whole ps) → All P (get_or ps i d)
group_all P [] i d inside h = absurd (omega arith)
group_all P (p ∷ ps) zero d inside h = All-first P p (whole ps) h
group_all P (p ∷ ps) (suc i) d inside h =
    group_all P ps i d (omega arith) (All-others P p (whole ps) h)

pub parts_all : (f : AbstractFrame) (ps : List Part) → ps ≡ parts_of f → All (IsPartOf f) ps
parts_all f ps is =
    λ i d inside. part_at f ps i (get_or ps i d) is inside
    (get_or_default ps i d (get_or ps i d) inside)

-- ---- parts as they are read

pub register_parts-next : (rest more ys : List Part) (ks : List Kind) (i : ℕ) (d : Kind)
    → i < length ks
    → rest ≡ option_to_list (register_part i (get_or ks i d)) ++ more
    → more ≡ register_parts (i + 1) (drop (i + 1) ks) ++ ys
    → rest ≡ register_parts i (drop i ks) ++ ys
register_parts-next rest more ys ks i d inside here left =
    let k : Kind = get_or ks i d in
    let there : drop i ks ≡ k ∷ drop (suc i) ks = drop-cons ks i d inside in
    let next : drop (i + 1) ks ≡ drop (suc i) ks = ap (λ n. drop n ks) (add-one i) in
    here
    ∙ ap (λ l. option_to_list (register_part i k) ++ l) left
    ∙ ap (λ l. option_to_list (register_part i k) ++ (register_parts (i + 1) l ++ ys)) next
    ∙ sym (append_assoc (option_to_list (register_part i k))
    (register_parts (i + 1) (drop (suc i) ks)) ys)
    ∙ ap (λ l. register_parts i l ++ ys) (sym there)

pub register_parts-done : (rest : List Part) (ks : List Kind) (n : ℕ) → length ks ≤ n
    → rest ≡ register_parts n (drop n ks) ++ rest
register_parts-done rest ks n over = ap (λ l. register_parts n l ++ rest) (sym (drop_all n ks over))

pub slot_parts-next : (rest more ys : List Part) (ts : List StackSlot) (i : ℕ) (d : StackSlot)
    → i < length ts
    → rest ≡ option_to_list (slot_part i (get_or ts i d)) ++ more
    → more ≡ slot_parts (i + 1) (drop (i + 1) ts) ++ ys → rest ≡ slot_parts i (drop i ts) ++ ys
slot_parts-next rest more ys ts i d inside here left =
    let t : StackSlot = get_or ts i d in
    let there : drop i ts ≡ t ∷ drop (suc i) ts = drop-cons ts i d inside in
    let next : drop (i + 1) ts ≡ drop (suc i) ts = ap (λ n. drop n ts) (add-one i) in
    here
    ∙ ap (λ l. option_to_list (slot_part i t) ++ l) left
    ∙ ap (λ l. option_to_list (slot_part i t) ++ (slot_parts (i + 1) l ++ ys)) next
    ∙ sym (append_assoc (option_to_list (slot_part i t)) (slot_parts (i + 1) (drop (suc i) ts)) ys)
    ∙ ap (λ l. slot_parts i l ++ ys) (sym there)

pub slot_parts-done : (rest : List Part) (ts : List StackSlot) (n : ℕ) → length ts ≤ n
    → rest ≡ slot_parts n (drop n ts) ++ rest
slot_parts-done rest ts n over = ap (λ l. slot_parts n l ++ rest) (sym (drop_all n ts over))
