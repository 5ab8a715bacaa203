-- What is wanted in a graph of nodes is what is live, or tested, in the program that they show.
use Rattle.control_flow.proofs.Common.{◌≡◌, ℕ, zero, suc, ◌<◌, List, length, Some, refl, sym, ◌∙◌, subst, inl, inr, ◌↔◌, ◌⊎◌, slice_get, same_Some, Insn, Program, fetch, HomeMask, Node, HasEdge, Falls, Jumps, AreLiveMasks, AreTestedMasks, HasHome, FrameAddressIsTaken, Home, InRegister, InSlot, IsWrittenBy, GoesTo, IsReadAfter, IsHomeLive, TestsHome, MayRead, MayWrite, PassesAt, IsTestedAfter, IsNumberTested, HasEdges, ShowsReads, ShowsTests, AreNodes, PassesOn, IsWantedAfter, IsWanted, AreWantedMasks}
use Rattle.control_flow.proofs.FlowLaws.{BeginsInsn-inside, fetch-BeginsInsn, HasEdge-inside, HasEdge-insn}
use Rattle.control_flow.proofs.MaskLemmas.{no_home}
use Rattle.control_flow.proofs.Graphs.{node_at}

-- ---- edges

goes : (p : Program) (slot next : ℕ) (node : Node) → HasEdges p slot node
    → (node.falls_to ≡ Some next) ⊎ (node.jumps_to ≡ Some next) → GoesTo p slot next
goes p slot next node is (inl falls) = inl (sym is.falls ∙ falls)
goes p slot next node is (inr jumps) = inr (sym is.jumps ∙ jumps)

leads : (p : Program) (slot next : ℕ) (node : Node) → HasEdges p slot node → GoesTo p slot next
    → (node.falls_to ≡ Some next) ⊎ (node.jumps_to ≡ Some next)
leads p slot next node is (inl falls) = inl (is.falls ∙ falls)
leads p slot next node is (inr jumps) = inr (is.jumps ∙ jumps)

edge_of : (p : Program) (slot next : ℕ) → GoesTo p slot next → HasEdge p slot next
edge_of p slot next (inl falls) = Falls falls
edge_of p slot next (inr jumps) = Jumps jumps

-- the node of a slot from which control goes on
node_before : (Shows : ℕ → Node → Type 0) (p : Program) (nodes : List Node) (slot next : ℕ)
    → AreNodes Shows p nodes → GoesTo p slot next
    → (node : Node) × (slice_get nodes slot ≡ Some node)
node_before Shows p nodes slot next are goes =
    node_at Shows p nodes slot are (HasEdge-inside p slot next (edge_of p slot next goes))

-- the node of a slot at which an instruction begins
node_of : (Shows : ℕ → Node → Type 0) (p : Program) (nodes : List Node) (slot : ℕ) (i : Insn)
    → AreNodes Shows p nodes → fetch p slot ≡ Some i
    → (node : Node) × (slice_get nodes slot ≡ Some node)
node_of Shows p nodes slot i are here =
    node_at Shows p nodes slot are (BeginsInsn-inside p slot (fetch-BeginsInsn p slot i here))

-- ---- what is read

-- a home of which nothing is passed on is only where it stays
read_turns : (p : Program) (slot : ℕ) (node : Node) (h g : Home) → ShowsReads p slot node
    → PassesOn node h g → (g ≡ h) × (HasHome node.writes h → ⊥)
read_turns p slot node h g is (inl stays) = stays
read_turns p slot node h g is (inr (from, into)) =
    absurd (no_home h (subst (λ m. HasHome m h) is.from from))

wanted_read : (p : Program) (nodes : List Node) → AreNodes (ShowsReads p) p nodes
    → (h : Home) (n slot : ℕ) → IsWantedAfter nodes h n slot → IsReadAfter p h n slot
wanted_read p nodes are h zero slot (node, here, wants) =
    ((are.each slot node here).wants h).0 wants
wanted_read p nodes are h (suc n) slot (node, here, next, edge, g, turns, path) =
    let is = are.each slot node here in
    let stays = read_turns p slot node h g is turns in (
      next,
      goes p slot next node is.edges edge,
      λ w. stays.1 ((is.writes h).1 w),
      subst (λ (x : Home). IsReadAfter p x n next) stays.0 (wanted_read p nodes are g n next path),
    )

read_wanted : (p : Program) (nodes : List Node) → AreNodes (ShowsReads p) p nodes
    → (h : Home) (n slot : ℕ) → IsReadAfter p h n slot → IsWantedAfter nodes h n slot
read_wanted p nodes are h zero slot reads =
    let found = node_of (ShowsReads p) p nodes slot reads.0 are reads.1 in
    (found.0, found.1, ((are.each slot found.0 found.1).wants h).1 reads)
read_wanted p nodes are h (suc n) slot (next, edge, keeps, path) =
    let found = node_before (ShowsReads p) p nodes slot next are edge in
    let is = are.each slot found.0 found.1 in (
      found.0,
      found.1,
      next,
      leads p slot next found.0 is.edges edge,
      h,
      inl (refl, λ w. keeps ((is.writes h).0 w)),
      read_wanted p nodes are h n next path,
    )

-- what is wanted is live, if the nodes show what is read
pub IsWanted-IsHomeLive : (p : Program) (nodes : List Node) → AreNodes (ShowsReads p) p nodes
    → (h : Home) (slot : ℕ) → IsWanted nodes h slot ↔ IsHomeLive p h slot
IsWanted-IsHomeLive p nodes are h slot = (
  λ (n, path). (n, wanted_read p nodes are h n slot path),
  λ (n, path). (n, read_wanted p nodes are h n slot path),
)

-- ---- what is tested

-- what a node turns is what its instruction passes on
turns_passes : (p : Program) (slot : ℕ) (node : Node) (i : Insn) (h g : Home)
    → fetch p slot ≡ Some i → ShowsTests p slot node → PassesOn node h g → PassesAt p h g slot
turns_passes p slot node i h g here is (inl (same, keeps)) =
    (i, here, inl (same, λ w. keeps ((is.writes h).1 (i, here, w))))
turns_passes p slot node i h g here is (inr (from, into)) =
    of ((is.from h).0 from) ((is.into g).0 into)
  where
    of : (j : Insn) × (fetch p slot ≡ Some j) × MayRead (FrameAddressIsTaken p) j h
        → (k : Insn) × (fetch p slot ≡ Some k) × MayWrite (FrameAddressIsTaken p) k g
        → PassesAt p h g slot
    of (j, there, reads) (k, too, writes) = (
      j,
      there,
      inr (
        reads,
        subst (λ (x : Insn). MayWrite (FrameAddressIsTaken p) x g)
            (same_Some k j (sym too ∙ there)) writes,
      ),
    )

passes_turns : (p : Program) (slot : ℕ) (node : Node) (h g : Home)
    → ShowsTests p slot node → PassesAt p h g slot → PassesOn node h g
passes_turns p slot node h g is (i, here, inl (same, keeps)) =
    inl (same, λ w. of ((is.writes h).0 w)) where
      of : (j : Insn) × (fetch p slot ≡ Some j) × IsWrittenBy j h → ⊥
      of (j, there, writes) =
          keeps (subst (λ (x : Insn). IsWrittenBy x h) (same_Some j i (sym there ∙ here)) writes)
passes_turns p slot node h g is (i, here, inr (reads, writes)) =
    inr ((is.from h).1 (i, here, reads), (is.into g).1 (i, here, writes))

wanted_tested : (p : Program) (nodes : List Node) → AreNodes (ShowsTests p) p nodes
    → (h : Home) (n slot : ℕ) → IsWantedAfter nodes h n slot → IsTestedAfter p h n slot
wanted_tested p nodes are h zero slot (node, here, wants) =
    ((are.each slot node here).wants h).0 wants
wanted_tested p nodes are h (suc n) slot (node, here, next, edge, g, turns, path) =
    let is = are.each slot node here in
    let way = goes p slot next node is.edges edge in
    let found = HasEdge-insn p slot next (edge_of p slot next way) in (
      next,
      way,
      g,
      turns_passes p slot node found.0 h g found.1 is turns,
      wanted_tested p nodes are g n next path,
    )

-- only an instruction tests
tests_inside : (p : Program) (h : Home) (slot : ℕ) → TestsHome p h slot → slot < length p.insns
tests_inside p (InRegister r) slot (i, here, tests, reads) =
    BeginsInsn-inside p slot (fetch-BeginsInsn p slot i here)
tests_inside p (InSlot j) slot tests = absurd tests

tested_wanted : (p : Program) (nodes : List Node) → AreNodes (ShowsTests p) p nodes
    → (h : Home) (n slot : ℕ) → IsTestedAfter p h n slot → IsWantedAfter nodes h n slot
tested_wanted p nodes are h zero slot tests =
    let found = node_at (ShowsTests p) p nodes slot are (tests_inside p h slot tests) in
    (found.0, found.1, ((are.each slot found.0 found.1).wants h).1 tests)
tested_wanted p nodes are h (suc n) slot (next, edge, g, passes, path) =
    let found = node_before (ShowsTests p) p nodes slot next are edge in
    let is = are.each slot found.0 found.1 in (
      found.0,
      found.1,
      next,
      leads p slot next found.0 is.edges edge,
      g,
      passes_turns p slot found.0 h g is passes,
      tested_wanted p nodes are g n next path,
    )

-- what is wanted is tested, if the nodes show what is tested
pub IsWanted-IsNumberTested : (p : Program) (nodes : List Node) → AreNodes (ShowsTests p) p nodes
    → (h : Home) (slot : ℕ) → IsWanted nodes h slot ↔ IsNumberTested p h slot
IsWanted-IsNumberTested p nodes are h slot = (
  λ (n, path). (n, wanted_tested p nodes are h n slot path),
  λ (n, path). (n, tested_wanted p nodes are h n slot path),
)

-- ---- masks

pub AreWantedMasks-live : (p : Program) (nodes : List Node) (masks : List HomeMask)
    → AreNodes (ShowsReads p) p nodes → AreWantedMasks nodes masks → AreLiveMasks p masks
AreWantedMasks-live p nodes masks are wanted h slot =
    let same = IsWanted-IsHomeLive p nodes are h slot in (
      λ has. same.0 ((wanted h slot).0 has),
      λ live. (wanted h slot).1 (same.1 live),
    )

pub AreWantedMasks-tested : (p : Program) (nodes : List Node) (masks : List HomeMask)
    → AreNodes (ShowsTests p) p nodes → AreWantedMasks nodes masks → AreTestedMasks p masks
AreWantedMasks-tested p nodes masks are wanted h slot =
    let same = IsWanted-IsNumberTested p nodes are h slot in (
      λ has. same.0 ((wanted h slot).0 has),
      λ tested. (wanted h slot).1 (same.1 tested),
    )
