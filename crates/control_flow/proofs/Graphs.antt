-- The graph of slots that is made of the code.
use Rattle.control_flow.proofs.Common.{◌≡◌, ℕ, zero, suc, ◌+◌, ◌<◌, List, [], ◌∷◌, ◌++◌, length, Option, Some, None, refl, sym, ap, ◌∙◌, subst, arith, inl, inr, ◌↔◌, ◌⊎◌, Bool, IsTrue, slice_get, option_and_then, same_Some, slice_get_within, slice_get_cases, Reg, Place, Insn, Load, LoadSx, Store, Atomic, Exchange, CompareExchange, Program, fetch, IsOneOf, slots_filled-cases, HomeMask, Node, read_registers, Fails, TargetOutside, HasRegister, HasSlot, HasHome, no_slots, no_homes, FrameAddressIsTaken, Home, InRegister, InSlot, IsReadBy, IsWrittenBy, TestsNumbers, TestsHome, MayBeInSlot, MayRead, MayWrite, HasEdges, IsBlankNode, ShowsReads, ShowsTests, AreNodes, fall_from, jump_from, FallsNear}
use Rattle.control_flow.proofs.FlowLaws.{fall_to-behind}
use Rattle.control_flow.proofs.MaskLemmas.{no_home, no_slot}
use Rattle.control_flow.proofs.TargetTests.{jump-inside}

-- ---- making nodes

-- what is read if A holds is read if B holds, where A implies B; so is what may be read or written
read_more : (A B : Type 0) (i : Insn) (h : Home) → (A → B) → IsReadBy A i h → IsReadBy B i h
read_more A B i (InRegister r) more reads = reads
read_more A B i (InSlot j) more (inl reads) = inl reads
read_more A B i (InSlot j) more (inr (inside, any)) = inr (inside, more any)

in_slot_more : (A B : Type 0) (place : Place) (j : ℕ) → (A → B) → MayBeInSlot A place j
    → MayBeInSlot B place j
in_slot_more A B place j more (inl within) = inl within
in_slot_more A B place j more (inr (other, inside, any)) = inr (other, inside, more any)

may_read_more : (A B : Type 0) (i : Insn) (h : Home) → (A → B) → MayRead A i h → MayRead B i h
may_read_more A B i (InRegister r) more reads = reads
may_read_more A B (Load size d place) (InSlot j) more reads = in_slot_more A B place j more reads
may_read_more A B (LoadSx size d place) (InSlot j) more reads = in_slot_more A B place j more reads
may_read_more A B (Atomic w op fetches place r) (InSlot j) more reads =
    in_slot_more A B place j more reads
may_read_more A B (Exchange w place r) (InSlot j) more reads = in_slot_more A B place j more reads
may_read_more A B (CompareExchange w place r) (InSlot j) more reads =
    in_slot_more A B place j more reads
may_read_more A B i (InSlot j) more reads = absurd reads

may_write_more : (A B : Type 0) (i : Insn) (h : Home) → (A → B) → MayWrite A i h → MayWrite B i h
may_write_more A B i (InRegister r) more writes = writes
may_write_more A B (Store size place r) (InSlot j) more writes =
    in_slot_more A B place j more writes
may_write_more A B i (InSlot j) more writes = absurd writes

-- what a mask has by the instruction at a slot, it has by the slot
mask_there : (p : Program) (slot : ℕ) (i : Insn) (mask : HomeMask) (By Of : Insn → Home → Type 0)
    → fetch p slot ≡ Some i → ((j : Insn) (h : Home) → By j h ↔ Of j h)
    → ((h : Home) → HasHome mask h ↔ By i h) → (h : Home)
    → HasHome mask h ↔ ((j : Insn) × (fetch p slot ≡ Some j) × Of j h)
mask_there p slot i mask By Of here same has h = (
  λ x. (i, here, (same i h).0 ((has h).0 x)),
  λ (j, there, by).
      (has h).1
      ((same i h).1 (subst (λ (x : Insn). Of x h) (same_Some j i (sym there ∙ here)) by)),
)

-- an empty mask has nothing, as no instruction begins at the slot
mask_nowhere : (p : Program) (slot : ℕ) (mask : HomeMask) (Of : Insn → Home → Type 0)
    → fetch p slot ≡ None → mask ≡ no_homes → (h : Home)
    → HasHome mask h ↔ ((j : Insn) × (fetch p slot ≡ Some j) × Of j h)
mask_nowhere p slot mask Of empty none h = (
  λ x. absurd (no_home h (subst (λ m. HasHome m h) none x)),
  λ (j, there, by). absurd cc,
)

-- the node of a slot at which an instruction begins, for what is read
pub reading_some : (p : Program) (slot : ℕ) (i : Insn) (blank node : Node) (taken : Bool)
    → fetch p slot ≡ Some i → IsTrue taken ↔ FrameAddressIsTaken p → IsBlankNode p slot blank
    → ((h : Home) → HasHome node.wants h ↔ IsReadBy (IsTrue taken) i h)
    → ((h : Home) → HasHome node.writes h ↔ IsWrittenBy i h)
    → node.from ≡ blank.from → node.falls_to ≡ blank.falls_to → node.jumps_to ≡ blank.jumps_to
    → ShowsReads p slot node
reading_some p slot i blank node taken here lent is wants writes from falls jumps = record {
  wants =
      mask_there p slot i node.wants (IsReadBy (IsTrue taken)) (IsReadBy (FrameAddressIsTaken p))
      here (λ j h. (
        read_more (IsTrue taken) (FrameAddressIsTaken p) j h lent.0,
        read_more (FrameAddressIsTaken p) (IsTrue taken) j h lent.1,
      )) wants;
  writes =
      mask_there p slot i node.writes IsWrittenBy IsWrittenBy here (λ j h. (λ x. x, λ x. x)) writes;
  from = from ∙ is.from;
  edges = record { falls = falls ∙ is.edges.falls; jumps = jumps ∙ is.edges.jumps };
}

-- at other slots nothing is read, and the node is blank
pub reading_none : (p : Program) (slot : ℕ) (node : Node) → fetch p slot ≡ None
    → IsBlankNode p slot node → ShowsReads p slot node
reading_none p slot node empty is = record {
  wants = mask_nowhere p slot node.wants (IsReadBy (FrameAddressIsTaken p)) empty is.wants;
  writes = mask_nowhere p slot node.writes IsWrittenBy empty is.writes;
  from = is.from;
  edges = is.edges;
}

-- the registers that an instruction tests, as a mask of homes without a stack slot
tested_there : (p : Program) (slot : ℕ) (i : Insn) (mask : HomeMask) → fetch p slot ≡ Some i
    → ((r : Reg) → HasRegister mask.registers r
    ↔ (TestsNumbers p i × IsOneOf (read_registers i) r)) → mask.slots ≡ no_slots → (h : Home)
    → HasHome mask h ↔ TestsHome p h slot
tested_there p slot i mask here has none (InRegister r) = (
  λ x. let by = (has r).0 x in (i, here, by.0, by.1),
  λ (j, there, tests, reads).
      (has r).1
      (subst (λ (x : Insn). TestsNumbers p x × IsOneOf (read_registers x) r)
      (same_Some j i (sym there ∙ here)) (tests, reads)),
)
tested_there p slot i mask here has none (InSlot j) = (
  λ x. absurd (no_slot j (subst (λ m. HasSlot m j) none x)),
  λ tests. absurd tests,
)

-- the node of a slot at which an instruction begins, for what is tested
pub testing_some : (p : Program) (slot : ℕ) (i : Insn) (blank node : Node) (taken : Bool)
    → fetch p slot ≡ Some i → IsTrue taken ↔ FrameAddressIsTaken p → IsBlankNode p slot blank
    → ((r : Reg) → HasRegister node.wants.registers r
    ↔ (TestsNumbers p i × IsOneOf (read_registers i) r)) → node.wants.slots ≡ no_slots
    → ((h : Home) → HasHome node.writes h ↔ IsWrittenBy i h)
    → ((h : Home) → HasHome node.from h ↔ MayRead (IsTrue taken) i h)
    → ((h : Home) → HasHome node.into h ↔ MayWrite (IsTrue taken) i h)
    → node.falls_to ≡ blank.falls_to → node.jumps_to ≡ blank.jumps_to → ShowsTests p slot node
testing_some p slot i blank node taken here lent is wants none writes from into falls jumps =
    record {
      wants = tested_there p slot i node.wants here wants none;
      writes =
          mask_there p slot i node.writes IsWrittenBy IsWrittenBy here (λ j h. (λ x. x, λ x. x))
          writes;
      from =
          mask_there p slot i node.from (MayRead (IsTrue taken)) (MayRead (FrameAddressIsTaken p))
          here (λ j h. (
            may_read_more (IsTrue taken) (FrameAddressIsTaken p) j h lent.0,
            may_read_more (FrameAddressIsTaken p) (IsTrue taken) j h lent.1,
          )) from;
      into =
          mask_there p slot i node.into (MayWrite (IsTrue taken)) (MayWrite (FrameAddressIsTaken p))
          here (λ j h. (
            may_write_more (IsTrue taken) (FrameAddressIsTaken p) j h lent.0,
            may_write_more (FrameAddressIsTaken p) (IsTrue taken) j h lent.1,
          )) into;
      edges = record { falls = falls ∙ is.edges.falls; jumps = jumps ∙ is.edges.jumps };
    }

-- at other slots nothing is tested
tested_nowhere : (p : Program) (slot : ℕ) (mask : HomeMask) → fetch p slot ≡ None
    → mask ≡ no_homes → (h : Home) → HasHome mask h ↔ TestsHome p h slot
tested_nowhere p slot mask empty none (InRegister r) = (
  λ x. absurd (no_home (InRegister r) (subst (λ m. HasHome m (InRegister r)) none x)),
  λ (j, there, tests, reads). absurd cc,
)
tested_nowhere p slot mask empty none (InSlot j) = (
  λ x. absurd (no_home (InSlot j) (subst (λ m. HasHome m (InSlot j)) none x)),
  λ tests. absurd tests,
)

pub testing_none : (p : Program) (slot : ℕ) (node : Node) → fetch p slot ≡ None
    → IsBlankNode p slot node → ShowsTests p slot node
testing_none p slot node empty is = record {
  wants = tested_nowhere p slot node.wants empty is.wants;
  writes = mask_nowhere p slot node.writes IsWrittenBy empty is.writes;
  from = mask_nowhere p slot node.from (MayRead (FrameAddressIsTaken p)) empty is.from;
  into = mask_nowhere p slot node.into (MayWrite (FrameAddressIsTaken p)) empty is.into;
  edges = is.edges;
}

-- ---- the nodes of all slots

-- the nodes of the slots below n
pub record NodesBelow (Shows : ℕ → Node → Type 0) (n : ℕ) (nodes : List Node) : Type 0 where
  pub same : length nodes ≡ n
  pub each : (slot : ℕ) (node : Node) → slice_get nodes slot ≡ Some node → Shows slot node

pushed : (xs : List Node) (y : Node) (k : ℕ) (x : Node) → slice_get (xs ++ y ∷ []) k ≡ Some x
    → (slice_get xs k ≡ Some x) ⊎ ((k ≡ length xs) × (y ≡ x))
pushed [] y zero x e = inr (refl, same_Some y x e)
pushed [] y (suc k) x e = absurd cc
pushed (z ∷ zs) y zero x e = inl e
pushed (z ∷ zs) y (suc k) x e =
    elim (pushed zs y k x e) [ inl h ↦ inl h | inr h ↦ inr (omega (arith, h.0), h.1) ]

pub nodes_more : (Shows : ℕ → Node → Type 0) (n : ℕ) (nodes : List Node) (node : Node)
    → Shows n node → NodesBelow Shows n nodes → NodesBelow Shows (n + 1) (nodes ++ node ∷ [])
nodes_more Shows n nodes node is m = record {
  same = omega (arith, length-push nodes node, m.same);
  each = λ slot x e. elim (pushed nodes node slot x e) [
    | inl old ↦ m.each slot x old
    | inr new ↦
        let at : n ≡ slot = omega (arith, new.0, m.same) in
        subst (λ (k : ℕ). Shows k x) at (subst (λ (y : Node). Shows n y) new.1 is)
  ];
} where
  length-push : (xs : List Node) (y : Node) → length (xs ++ y ∷ []) ≡ length xs + 1
  length-push [] y = refl
  length-push (x ∷ xs) y = let shorter = length-push xs y in omega (arith, shorter)

-- the node of a slot inside the code
pub node_at : (Shows : ℕ → Node → Type 0) (p : Program) (nodes : List Node) (slot : ℕ)
    → AreNodes Shows p nodes → slot < length p.insns
    → (node : Node) × (slice_get nodes slot ≡ Some node)
node_at Shows p nodes slot are inside = elim (slice_get_cases nodes slot).1 [
  | inl found ↦ (found.0, found.2)
  | inr past ↦ let same = are.same in absurd (omega (arith, past.0))
]

-- all of them, once the loop is over
pub nodes_all : (Shows : ℕ → Node → Type 0) (p : Program) (n : ℕ) (nodes : List Node)
    → n ≡ length p.insns → NodesBelow Shows n nodes → AreNodes Shows p nodes
nodes_all Shows p n nodes over m = record { same = m.same ∙ over; each = m.each }

-- ---- edges

-- an edge from a slot is its node's
edge_node : (nodes : List Node) (edge : Node → Option ℕ) (slot to : ℕ)
    → option_and_then edge (slice_get nodes slot) ≡ Some to
    → (node : Node) × (slice_get nodes slot ≡ Some node) × (edge node ≡ Some to)
edge_node nodes edge slot to h = of (slice_get nodes slot) h where
  of : (o : Option Node) → option_and_then edge o ≡ Some to
      → (node : Node) × (o ≡ Some node) × (edge node ≡ Some to)
  of (Some node) e = (node, refl, e)
  of None e = absurd cc

pub fall_from-node : (nodes : List Node) (slot to : ℕ) → fall_from nodes slot ≡ Some to
    → (node : Node) × (slice_get nodes slot ≡ Some node) × (node.falls_to ≡ Some to)
fall_from-node nodes slot to h = edge_node nodes (λ node. node.falls_to) slot to h

pub jump_from-node : (nodes : List Node) (slot to : ℕ) → jump_from nodes slot ≡ Some to
    → (node : Node) × (slice_get nodes slot ≡ Some node) × (node.jumps_to ≡ Some to)
jump_from-node nodes slot to h = edge_node nodes (λ node. node.jumps_to) slot to h

pub node-fall_from : (nodes : List Node) (slot : ℕ) (node : Node) → slice_get nodes slot ≡ Some node
    → fall_from nodes slot ≡ node.falls_to
node-fall_from nodes slot node here =
    ap (λ (o : Option Node). option_and_then (λ (n : Node). n.falls_to) o) here

pub node-jump_from : (nodes : List Node) (slot : ℕ) (node : Node) → slice_get nodes slot ≡ Some node
    → jump_from nodes slot ≡ node.jumps_to
node-jump_from nodes slot node here =
    ap (λ (o : Option Node). option_and_then (λ (n : Node). n.jumps_to) o) here

pub jump_from-inside : (nodes : List Node) (slot to : ℕ) → jump_from nodes slot ≡ Some to
    → slot < length nodes
jump_from-inside nodes slot to h =
    let found = jump_from-node nodes slot to h in slice_get_within nodes slot found.0 found.1

-- the nodes show at least where control goes
abbrev pub ShowEdges : Program → List Node → Type 0
ShowEdges p nodes = AreNodes (HasEdges p) p nodes

pub reading_edges : (p : Program) (nodes : List Node) → AreNodes (ShowsReads p) p nodes
    → ShowEdges p nodes
reading_edges p nodes are =
    record { same = are.same; each = λ slot node here. (are.each slot node here).edges }

pub testing_edges : (p : Program) (nodes : List Node) → AreNodes (ShowsTests p) p nodes
    → ShowEdges p nodes
testing_edges p nodes are =
    record { same = are.same; each = λ slot node here. (are.each slot node here).edges }

-- jumps stay inside the code
pub jump_from-stays : (p : Program) (nodes : List Node) → ShowEdges p nodes
    → ((k : ℕ) → Fails p TargetOutside k → ⊥) → (slot to : ℕ) → jump_from nodes slot ≡ Some to
    → to < length nodes
jump_from-stays p nodes are none slot to h =
    let found = jump_from-node nodes slot to h in
    let is = are.each slot found.0 found.1 in
    let inside = jump-inside p none slot to (sym is.jumps ∙ found.2) in
    omega (arith, inside, are.same)

-- control falls through to the next slot, or to the one after that
pub nodes_near : (p : Program) (nodes : List Node) → ShowEdges p nodes → FallsNear nodes
nodes_near p nodes are slot to h =
    let found = fall_from-node nodes slot to h in
    let is = are.each slot found.0 found.1 in
    let fallen = fall_to-behind p slot to (sym is.falls ∙ found.2) in
    elim (slots_filled-cases fallen.0) [
      | inl one ↦ inl (omega (arith, fallen.2, one))
      | inr two ↦ inr (omega (arith, fallen.2, two))
    ]
