-- The loop of the work list: what the list keeps, that it ends, and what the masks have when it is
-- empty.
use Rattle.control_flow.proofs.Common.{◌≡◌, ◌≢◌, ℕ, zero, suc, ◌+◌, ◌*◌, ◌<◌, ◌≤◌, Bool, true, false, not, cond, List, [], ◌∷◌, ◌++◌, length, take, drop, replicate, get_or, set, sum_by, Option, Some, None, refl, sym, ap, ◌∙◌, subst, arith, inl, inr, ◌⊎◌, slice_get, count_by, Contains, cases_eq, same_Some, slice_get_within, get_or-set_same, get_or-set_other, length-set, length-append, length-replicate, get_or-replicate, append-nil, take_all, drop_of_length-le, sum_by-set, sum_by-cons, Contains-append_left, Contains-append_cases, HomeMask, Node, IsMarked, HasHome, no_homes, mask_at, Home, IsWantedAfter, AreWantedMasks, ComesFrom, HasBehind, IsWantedBefore, AreSound, HasWantedBefore, room_left, AddsAt, Extends, HasAll}
use Rattle.control_flow.proofs.MarkLemmas.{IsMarked-inside}
use Rattle.control_flow.proofs.MaskLemmas.{no_home, mask_at-none}
use Rattle.control_flow.proofs.SlotSearch.{Contains-one, no-Contains, on_top}
use Rattle.control_flow.proofs.Graphs.{node-fall_from, node-jump_from}

-- ---- the loop

-- the masks have nothing that is not wanted, and all that is wanted before each instruction whose
-- slot is not on the list
pub record IsWorking (nodes : List Node) (masks : List HomeMask) (found : List Bool)
    (frontier : List ℕ) : Type 0 where
  pub same : length masks ≡ length nodes
  pub same_found : length found ≡ length nodes
  pub sound : AreSound nodes masks
  pub inside : (k : ℕ) → Contains frontier k → k < length nodes
  pub waits : (k : ℕ) → IsMarked found k → Contains frontier k
  pub complete : (k : ℕ) (node : Node) → slice_get nodes k ≡ Some node
      → IsMarked found k ⊎ HasWantedBefore masks k node
  pub few : count_by not found + length frontier ≤ length nodes

-- no slot is left to be found
none_left : (n : ℕ) → count_by not (replicate n true) ≡ 0
none_left zero = refl
none_left (suc n) =
    let counted = sum_by-cons (λ x. cond (not x) 1 0) true (replicate n true) in
    let rest = none_left n in
    omega (arith, counted, rest)

pub working_start : (nodes : List Node) (n size : ℕ) (found : List Bool)
    (frontier : List ℕ)
    → n ≡ length nodes → size ≡ length nodes → HasAll size found frontier
    → IsWorking nodes (replicate n no_homes) found frontier
working_start nodes n size found frontier all all_found x =
    let same : length found ≡ size = ap length x.found_all ∙ length-replicate size true in
    let none : count_by not found ≡ 0 = ap (count_by not) x.found_all ∙ none_left size in
    record {
      same = length-replicate n no_homes ∙ all;
      same_found = same ∙ all_found;
      sound = λ r slot h. absurd (no_home r (subst (λ x. HasHome x r) (mask_at-none n slot) h));
      inside = λ k c. let low = x.only k c in omega (arith, low, all_found);
      waits = λ k m. let low = IsMarked-inside found k m in x.each k (omega (arith, low, same));
      complete = λ k node here.
          let low = slice_get_within nodes k node here in
          let marked : IsMarked (replicate size true) k =
          get_or-replicate size k true false (omega (arith, low, all_found)) in
          inl (subst (λ (marks : List Bool). IsMarked marks k) (sym x.found_all) marked);
      few = omega (arith, none, x.as_many, all_found);
    }

-- the slot on top is inside the code
pub working_inside : (nodes : List Node) (masks : List HomeMask) (found : List Bool)
    (frontier rest : List ℕ) (slot : ℕ)
    → frontier ≡ rest ++ slot ∷ [] → IsWorking nodes masks found frontier → slot < length nodes
working_inside nodes masks found frontier rest slot popped m =
    m.inside slot (on_top slot frontier rest popped)

-- what the mask of a successor has, by masks that are the same there
behind_same : (old new : List HomeMask) (o : Option ℕ) (h : Home)
    → ((to : ℕ) → o ≡ Some to → mask_at new to ≡ mask_at old to) → HasBehind new o h
    → HasBehind old o h
behind_same old new None h same has = has
behind_same old new (Some to) h same has = subst (λ x. HasHome x h) (same to refl) has

before_same : (old new : List HomeMask) (node : Node) (h : Home)
    → ((to : ℕ) → (node.falls_to ≡ Some to) ⊎ (node.jumps_to ≡ Some to)
    → mask_at new to ≡ mask_at old to) → IsWantedBefore new node h → IsWantedBefore old node h
before_same old new node h same (inl wants) = inl wants
before_same old new node h same (inr (g, turns, inl falls)) =
    inr (g, turns, inl (behind_same old new node.falls_to g (λ to e. same to (inl e)) falls))
before_same old new node h same (inr (g, turns, inr jumps)) =
    inr (g, turns, inr (behind_same old new node.jumps_to g (λ to e. same to (inr e)) jumps))

-- an edge leads to a slot or not
leads_there : (o : Option ℕ) (slot : ℕ) → (o ≡ Some slot) ⊎ ((to : ℕ) → o ≡ Some to → to ≢ slot)
leads_there None slot = inr (λ to e. absurd cc)
leads_there (Some k) slot = elim (cases_eq k slot) [
  | inl e ↦ inl (ap (λ (i : ℕ). let o : Option ℕ = Some i in o) e)
  | inr apart ↦ inr (λ to e same. apart (same_Some k to e ∙ same))
]

node_there : (node : Node) (slot : ℕ)
    → ((node.falls_to ≡ Some slot) ⊎ (node.jumps_to ≡ Some slot))
    ⊎ ((to : ℕ) → (node.falls_to ≡ Some to) ⊎ (node.jumps_to ≡ Some to) → to ≢ slot)
node_there node slot = elim (leads_there node.falls_to slot) [
  | inl falls ↦ inl (inl falls)
  | inr other ↦ elim (leads_there node.jumps_to slot) [
    | inl jumps ↦ inl (inr jumps)
    | inr another ↦ inr (λ to edge. elim edge [ inl e ↦ other to e | inr e ↦ another to e ])
  ]
]

comes_from : (nodes : List Node) (k slot : ℕ) (node : Node) → slice_get nodes k ≡ Some node
    → (node.falls_to ≡ Some slot) ⊎ (node.jumps_to ≡ Some slot) → ComesFrom nodes slot k
comes_from nodes k slot node here (inl falls) = inl (node-fall_from nodes k node here ∙ falls)
comes_from nodes k slot node here (inr jumps) = inr (node-jump_from nodes k node here ∙ jumps)

-- a slot that was not on the list, or was on its top, has what is wanted before it by the old masks
wanted_before_old : (nodes : List Node) (slot k : ℕ) (node : Node) (old new : List HomeMask)
    (grown : Bool)
    (r : Home) → slice_get nodes k ≡ Some node
    → AddsAt nodes slot old new grown → (k ≡ slot) ⊎ HasWantedBefore old k node
    → IsWantedBefore old node r → HasHome (mask_at new k) r
wanted_before_old nodes slot k node old new grown r here x complete wants = elim (cases_eq k slot) [
  | inl e ↦
      let there : slice_get nodes slot ≡ Some node =
      subst (λ (i : ℕ). slice_get nodes i ≡ Some node) e here in
      subst (λ (i : ℕ). HasHome (mask_at new i) r) (sym e) (x.added node there r wants)
  | inr apart ↦ elim complete [
    | inl e ↦ absurd (apart e)
    | inr was ↦ subst (λ y. HasHome y r) (sym (x.others k apart)) (was r wants)
  ]
]

-- the marks of the slots but the one that is taken
unmarked : (found : List Bool) (slot k : ℕ) → slot < length found
    → IsMarked (set found slot false) k → IsMarked found k × (k ≢ slot)
unmarked found slot k inside h = elim (cases_eq k slot) [
  | inl e ↦
      let none : get_or (set found slot false) k false ≡ false =
      ap (λ (i : ℕ). get_or (set found slot false) i false) e
      ∙ get_or-set_same found slot false false inside in
      absurd cc
  | inr apart ↦ (sym (get_or-set_other found slot k false false apart) ∙ h, apart)
]

still_marked : (found : List Bool) (slot k : ℕ) → k ≢ slot → IsMarked found k
    → IsMarked (set found slot false) k
still_marked found slot k apart h = get_or-set_other found slot k false false apart ∙ h

count-unmarked : (found : List Bool) (slot : ℕ) → slot < length found
    → count_by not (set found slot false) ≤ count_by not found + 1
count-unmarked found slot inside =
    let moved : sum_by (λ x. cond (not x) 1 0) (set found slot false)
    + cond (not (get_or found slot false)) 1 0
    ≡ sum_by (λ x. cond (not x) 1 0) found
    + cond (not false) 1 0 = sum_by-set (λ x. cond (not x) 1 0) found slot false false inside in
    omega (arith, moved)

-- a slot is taken from the list; if its mask grows, the slots from which control comes there go on
-- it
pub working_next : (nodes : List Node) (W : ℕ → Type 0) (slot : ℕ)
    (old new : List HomeMask) (grown : Bool) (f : List Bool) (s rest : List ℕ) (g : List Bool)
    (t : List ℕ)
    → s ≡ rest ++ slot ∷ [] → AddsAt nodes slot old new grown
    → Extends W (set f slot false) rest g t
    → (grown ≡ false) ⊎ ((k : ℕ) → ComesFrom nodes slot k → W k)
    → IsWorking nodes old f s → IsWorking nodes new g t
working_next nodes W slot old new grown f s rest g t popped x y wants m =
    let low : slot < length f = let first = m.inside slot (on_top slot s rest popped) in
    omega (arith, first, m.same_found) in
    let same_found : length g ≡ length nodes = y.same ∙ length-set f slot false ∙ m.same_found in
    record {
      same = x.same ∙ m.same;
      same_found = same_found;
      sound = x.sound m.sound;
      inside = λ k c. elim (y.adds k c) [
        | inl below ↦
            m.inside k
            (subst (λ (l : List ℕ). Contains l k) (sym popped)
            (Contains-append_left rest (slot ∷ []) k below))
        | inr marked ↦ let within = IsMarked-inside g k marked in omega (arith, within, same_found)
      ];
      waits = λ k h. elim (y.new k h) [
        | inl marked ↦
            let was = unmarked f slot k low marked in
            elim (Contains-append_cases rest (slot ∷ []) k
            (subst (λ (l : List ℕ). Contains l k) popped (m.waits k was.0))) [
              | inl below ↦ y.stays k below
              | inr one ↦ absurd (was.1 (sym (Contains-one slot k one)))
            ]
        | inr new ↦ new.0
      ];
      complete = λ k node here. elim (before k node here) [
        | inl marked ↦ inl (y.kept k marked)
        | inr was ↦ elim wants [
          | inl still ↦
              inr (λ r h. wanted_before_old nodes slot k node old new grown r here x was
              (before_same old new node r
              (λ to edge. ap (λ (l : List HomeMask). mask_at l to) (x.still still)) h))
          | inr all ↦ elim (node_there node slot) [
            | inl edge ↦ inl (y.all k (all k (comes_from nodes k slot node here edge)))
            | inr other ↦
                inr (λ r h. wanted_before_old nodes slot k node old new grown r here x was
                (before_same old new node r (λ to edge. x.others to (other to edge)) h))
          ]
        ]
      ];
      few =
          let more = count-unmarked f slot low in
          omega (arith, more, y.even, m.few, ap length popped, length-append rest (slot ∷ []));
    } where
      before : (k : ℕ) (node : Node) → slice_get nodes k ≡ Some node
          → IsMarked (set f slot false) k ⊎ ((k ≡ slot) ⊎ HasWantedBefore old k node)
      before k node here = elim (cases_eq k slot) [
        | inl e ↦ inr (inl e)
        | inr apart ↦ elim (m.complete k node here) [
          | inl marked ↦ inl (still_marked f slot k apart marked)
          | inr was ↦ inr (inr was)
        ]
      ]

-- ---- it ends

-- what may still be added, and for each of that the whole list
abbrev pub work_left : List Node → List HomeMask → List ℕ → ℕ
work_left nodes masks frontier = (length nodes + 1) * room_left masks + length frontier

-- ---- the list is empty

behind : (masks : List HomeMask) (o : Option ℕ) (to : ℕ) (r : Home) → o ≡ Some to
    → HasHome (mask_at masks to) r → HasBehind masks o r
behind masks o to r e h = subst (λ (x : Option ℕ). HasBehind masks x r) (sym e) h

-- if each mask has what is wanted before its instruction, the masks have all that is wanted: they
-- follow the path, from home to home, from its end on back
wanted_has : (nodes : List Node) (masks : List HomeMask)
    → ((k : ℕ) (node : Node) → slice_get nodes k ≡ Some node → HasWantedBefore masks k node)
    → (h : Home) (n slot : ℕ) → IsWantedAfter nodes h n slot → HasHome (mask_at masks slot) h
wanted_has nodes masks complete h zero slot (node, here, wants) =
    complete slot node here h (inl wants)
wanted_has nodes masks complete h (suc n) slot (node, here, next, inl falls, g, turns, path) =
    let has = wanted_has nodes masks complete g n next path in
    complete slot node here h
    (inr (g, turns, inl (behind masks node.falls_to next g falls has)))
wanted_has nodes masks complete h (suc n) slot (node, here, next, inr jumps, g, turns, path) =
    let has = wanted_has nodes masks complete g n next path in
    complete slot node here h
    (inr (g, turns, inr (behind masks node.jumps_to next g jumps has)))

pub working_end : (nodes : List Node) (masks : List HomeMask) (found : List Bool)
    (frontier : List ℕ) → length frontier ≡ 0 → IsWorking nodes masks found frontier
    → AreWantedMasks nodes masks
working_end nodes masks found [] over m h slot = (
  λ has. m.sound h slot has,
  λ (n, path). wanted_has nodes masks (λ k node here. elim (m.complete k node here) [
    | inl marked ↦ absurd (no-Contains k (m.waits k marked))
    | inr complete ↦ complete
  ]) h n slot path,
)
working_end nodes masks found (x ∷ xs) over m h slot = absurd (omega (arith, over))

-- a slice of all masks is written back
pub written_back : (n : ℕ) (new old : List HomeMask) → n ≡ length old → length new ≡ length old
    → take n (new ++ drop (length new) old) ≡ new
written_back n new old all same =
    let none : drop (length new) old ≡ [] = drop_of_length-le old (omega arith) in
    ap (λ (l : List HomeMask). take n (new ++ l)) none ∙ ap (take n) (append-nil new)
    ∙ take_all n new (omega arith)
