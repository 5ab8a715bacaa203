-- What is known at each slot of a guarded program, and that it stays so.
use Rattle.walks.proofs.Common.{◌≡◌, ◌≤◌, ◌+◌, ◌<◌, ◌∷◌, [], ℕ, suc, Some, List, arith, refl, sym, ap, ◌∙◌, subst, inl, inr, ◌≢◌, Reg, R1, R2, R3, R4, R10, Insn, Program, fetch, writes, FallsTo, IsOneOf, written_too, PathTo, IsFree, IsGuarded, Kind, State, kind_of, with_register, go_to, kind_of-with_other, start, IsNumberKind, Ways, IsLive, Coarse, Forgets, IsAmong}
use Rattle.reg_state.specs.declared.kinds.Kind.TheVariants as kind
use Rattle.walks.proofs.Forgotten.{Forgets-slot, Forgets-pointer, Forgets-alone}
use Rattle.walks.proofs.Living.{live_before, KnowsNumbers-forgets}
use Rattle.walks.proofs.OnNumbers.{kind_of-go_to, kind_of-with_own, room-with, one_among}
use Rattle.walks.proofs.KnowsNumbers.{KnowsNumbers, KnowsNumbers-with, KnowsNumbers-go_to}
use Rattle.walks.proofs.OnPackets.{packet_from, GivesKind}
use Rattle.walks.proofs.Plain.{PathTo-more}
use Rattle.walks.proofs.GuardedParts.{IsGuarded-calls, first_no_join}

-- ---- a kind put into a register

pub record Put (s t : State) (d : Reg) (k : Kind) : Type 0 where
  pub slot : t.slot ≡ s.slot + 1
  pub own : kind_of t d ≡ k
  pub others : (q : Reg) → q ≢ d → kind_of t q ≡ kind_of s q

pub put_of : (s a b t : State) (d : Reg) (k : Kind) (w : Ways) (known : List Reg)
    → KnowsNumbers s known → d ≢ R10 → GivesKind s d k w a → IsAmong w a b t → Put s t d k
put_of s a b t d k w known knows own gives among =
    let is : t ≡ go_to (with_register s d k) (s.slot + 1) = one_among w a b t gives.0 among
    ∙ gives.1 in
    record {
      slot = ap (λ (x : State). x.slot) is;
      own =
          ap (λ (x : State). kind_of x d) is ∙ kind_of-go_to (with_register s d k) (s.slot + 1) d
          ∙ kind_of-with_own s d k own knows.room;
      others =
          λ q other. ap (λ (x : State). kind_of x q) is
          ∙ kind_of-go_to (with_register s d k) (s.slot + 1) q ∙ kind_of-with_other s d q k other;
    }

-- a pointer put into a register leaves numbers as they were
pub known_aside : (s a b t : State) (d : Reg) (k : Kind) (w : Ways) → GivesKind s d k w a
    → IsAmong w a b t → KnowsNumbers s [] → KnowsNumbers t []
known_aside s a b t d k w gives among knows =
    let is : t ≡ go_to (with_register s d k) (s.slot + 1) = one_among w a b t gives.0 among
    ∙ gives.1 in
    subst (λ x. KnowsNumbers x []) (sym is)
    (KnowsNumbers-go_to (with_register s d k) (s.slot + 1) []
    (record {
      one = knows.one;
      room = room-with s d k ∙ knows.room;
      numbers = λ r among. absurd among;
    }))

pub known_number : (s a b t : State) (d : Reg) (k : Kind) (w : Ways) (known : List Reg) → d ≢ R10
    → IsNumberKind k
    → GivesKind s d k w a → IsAmong w a b t → KnowsNumbers s known → KnowsNumbers t (d ∷ known)
known_number s a b t d k w known own number gives among knows =
    let is : t ≡ go_to (with_register s d k) (s.slot + 1) = one_among w a b t gives.0 among
    ∙ gives.1 in
    subst (λ x. KnowsNumbers x (d ∷ known)) (sym is)
    (KnowsNumbers-go_to (with_register s d k) (s.slot + 1) (d ∷ known)
    (KnowsNumbers-with s d k known own number knows))

-- ---- what is known at each slot

pub record Guards (p : Program) (len : ℕ) (g : IsGuarded p len) (s : State) : Type 0 where
  pub steps : ℕ
  pub written : List Reg
  pub known : List Reg
  pub path : PathTo p steps s.slot written
  pub knows : KnowsNumbers s known
  pub free : (r : Reg) → IsFree r → IsLive p r s.slot → IsOneOf written r → IsOneOf known r
  pub early : s.slot < 5 → known ≡ []
  pub context : s.slot < 2 → kind_of s R1 ≡ kind.Context
  pub packet : 1 ≤ s.slot → s.slot < 5 → kind_of s R2 ≡ packet_from 0 0
  pub packet_end : 2 ≤ s.slot → s.slot < 5 → kind_of s R3 ≡ kind.PacketEnd
  pub copied : s.slot ≡ 3 → kind_of s R4 ≡ packet_from 0 0
  pub ahead : s.slot ≡ 4 → kind_of s R4 ≡ packet_from len 0
  pub proved : 5 ≤ s.slot → s.slot < g.tail → IsLive p R2 s.slot
      → (m : ℕ) × (kind_of s R2 ≡ packet_from 0 m) × (len ≤ m)

-- ---- the body's registers

pub free_own : (r : Reg) → IsFree r → r ≢ R10
free_own r free = λ e. subst IsFree e free

pub start_guards : (p : Program) (len : ℕ) (g : IsGuarded p len) → Guards p len g start
unfolding start PathTo
start_guards p len g = record {
  steps = 0;
  written = [];
  known = [];
  path = (refl, refl);
  knows = record { one = refl; room = refl; numbers = λ r among. absurd among };
  free = λ r free live among. absurd among;
  early = λ h. refl;
  context = λ h. refl;
  packet = λ h k. absurd (omega (arith, h));
  packet_end = λ h k. absurd (omega (arith, h));
  copied = λ h. absurd (omega (arith, h));
  ahead = λ h. absurd (omega (arith, h));
  proved = λ h k live. absurd (omega (arith, h));
}

-- ---- the first four instructions

pub none_known : (known : List Reg) (r : Reg) → known ≡ [] → IsOneOf known r → ⊥
none_known known r none among = subst (λ (rs : List Reg). IsOneOf rs r) none among

pub record Pointers (s : State) (len : ℕ) : Type 0 where
  pub context : s.slot < 2 → kind_of s R1 ≡ kind.Context
  pub packet : 1 ≤ s.slot → s.slot < 5 → kind_of s R2 ≡ packet_from 0 0
  pub packet_end : 2 ≤ s.slot → s.slot < 5 → kind_of s R3 ≡ kind.PacketEnd
  pub copied : s.slot ≡ 3 → kind_of s R4 ≡ packet_from 0 0
  pub ahead : s.slot ≡ 4 → kind_of s R4 ≡ packet_from len 0

pub prologue : (p : Program) (len : ℕ) (g : IsGuarded p len) (s t : State) (d : Reg) (i : Insn)
    → Guards p len g s
    → s.slot < 4 → fetch p s.slot ≡ Some i → writes i ≡ Some d → FallsTo s.slot i t.slot
    → t.slot ≡ s.slot + 1 → (IsFree d → ⊥) → KnowsNumbers t [] → Pointers t len → Guards p len g t
prologue p len g s t d i h below here written falls slot not_free knows pointers = record {
  steps = suc h.steps;
  written = d ∷ h.written;
  known = [];
  path =
      subst (λ o. PathTo p (suc h.steps) t.slot (written_too o h.written)) written
      (PathTo-more p h.steps s.slot t.slot h.written i h.path here (inl falls));
  knows = knows;
  free = λ r free live among. elim among [
    | inl same ↦ absurd (not_free (subst IsFree same free))
    | inr rest ↦
        elim (live_before p s.slot t.slot i r here (IsGuarded-calls p len s.slot i g here)
        (i, here, inl falls) live) [
          | inl is ↦
              let same : r ≡ d = cc (is, written) in absurd (not_free (subst IsFree same free))
          | inr was_live ↦
              absurd (none_known h.known r (h.early (omega (arith, below)))
              (h.free r free was_live rest))
        ]
  ];
  early = λ k. refl;
  context = pointers.context;
  packet = pointers.packet;
  packet_end = pointers.packet_end;
  copied = pointers.copied;
  ahead = pointers.ahead;
  proved = λ k m live. absurd (omega (arith, k, slot, below));
}

-- ---- what is forgotten

-- in the first five slots nothing is forgotten, since they are no joins; after them numbers that
-- are live stay numbers, and the pointer is known as before
pub Guards-forgets : (p : Program) (len : ℕ) (g : IsGuarded p len) (a b : State)
    → Forgets Coarse p a b
    → Guards p len g a → Guards p len g b
Guards-forgets p len g a b f h =
    let slot : b.slot ≡ a.slot = Forgets-slot p a b f in
    let rest = KnowsNumbers-forgets p a b h.known f h.knows in
    let same : (r : Reg) → r ≢ R10 → a.slot < 5 → kind_of b r ≡ kind_of a r =
    λ r own early. Forgets-alone p a b r f own (λ join. first_no_join p len a.slot g early join) in
    record {
      steps = h.steps;
      written = h.written;
      known = rest.left;
      path = subst (λ n. PathTo p h.steps n h.written) (sym slot) h.path;
      knows = rest.knows;
      free = λ r free live among.
          let before : IsLive p r a.slot = subst (IsLive p r) slot live in
          rest.live r before (h.free r free before among);
      early = λ k. rest.none (h.early (omega (arith, k, slot)));
      context =
          λ k. same R1 (λ e. absurd (cc e)) (omega (arith, k, slot))
          ∙ h.context (omega (arith, k, slot));
      packet =
          λ k m. same R2 (λ e. absurd (cc e)) (omega (arith, m, slot))
          ∙ h.packet (omega (arith, k, slot)) (omega (arith, m, slot));
      packet_end =
          λ k m. same R3 (λ e. absurd (cc e)) (omega (arith, m, slot))
          ∙ h.packet_end (omega (arith, k, slot)) (omega (arith, m, slot));
      copied =
          λ k. same R4 (λ e. absurd (cc e)) (omega (arith, k, slot))
          ∙ h.copied (omega (arith, k, slot));
      ahead =
          λ k. same R4 (λ e. absurd (cc e)) (omega (arith, k, slot))
          ∙ h.ahead (omega (arith, k, slot));
      proved = λ k m live.
          let before : IsLive p R2 a.slot = subst (IsLive p R2) slot live in
          let (n, is, most) = h.proved (omega (arith, k, slot)) (omega (arith, m, slot)) before in
          let pointer : IsNumberKind (kind_of a R2) → ⊥ = λ number.
          let wrong : IsNumberKind (packet_from 0 n) = subst IsNumberKind is number in
          absurd wrong in
          (n, Forgets-pointer p a b R2 f (λ e. absurd (cc e)) before pointer ∙ is, most);
    }
