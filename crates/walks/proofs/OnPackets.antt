-- Abstract steps on the packet's first byte and its end: what is left, and that they are not
-- refused.
use Rattle.walks.proofs.Common.{◌≡◌, ◌≤◌, ◌+◌, ℕ, Some, Ok, Err, true, false, length, map, arith, refl, sym, ap, ◌∙◌, subst, inl, inr, ◌⊎◌, ◌≢◌, ℤ, pos, ◌+ℤ◌, FitsSigned, unsigned_abs, max, slice_index_or, List, w32, w64, ints, to_z-of_z, length-map, MapDef, Full64, U32, size_bytes, unsigned_size, signed, unsigned, Reg, R10, reg_number, Mov, Add, Cond, Constant, Register, Place, Insn, Alu, Load, LoadSx, JumpIf, Program, slots_filled, writes, destination, Kind, Scalar, State, depth, registers_of, kind_of, with_register, go_to, kind_of-registers, IsNumberKind, IsJust, LearnsOf, Ways, Refusal, packet_pointer, Arithmetic, ResultKind, SetsRegister, Branches, StepsToWays, StepsForm, IsAmong}
use Rattle.std.proofs.Math.ListN.{get_or-map as get_or-map_default}
use Rattle.isa_model.specs.declared.sizes.Size.{Size}
use Rattle.isa_model.specs.declared.sizes.SignedSize.{SignedSize}
use Rattle.isa_model.specs.declared.instructions.Comparison.TheVariants.{Greater}
use Rattle.isa_model.specs.Code.Limits.{offset_limit, max_guarded_length}
use Rattle.reg_state.specs.declared.kinds.Kind.TheVariants as kind
use Rattle.reg_state.specs.Scalars.{Has, IsConstant}
use Rattle.reg_state.proofs.ConstantsLaws.{IsNumber-only}
use Rattle.stack_state.specs.Effects.{map_kinds, proved_kind}
use Rattle.branch_refine.specs.declared.comparing.Compared.TheVariants as compared
use Rattle.branch_refine.specs.Comparing.{compared_by, IsDefined}
use Rattle.transfer.specs.declared.Ways.TheVariants as ways
use Rattle.transfer.specs.declared.packets.PacketPointer.{PacketPointer}
use Rattle.transfer.specs.Packets.{AreInPacket, IsNumberOf, IsMovedFixed, IsMovedBy, IsFreshPointer, PacketMoves, MovesBy, moved_by, lowest, highest}
use Rattle.transfer.specs.ContextLoads.{IsField, IsFieldKind, FieldLoads}
use Rattle.transfer.specs.Accesses.{LoadsKind, LoadsSigned}
use Rattle.walks.proofs.OnNumbers.{StepsToWays-performs, kind_of-go_to, side_among}

-- at this offset from the packet's first byte, with no variable part; the proved bytes are there
abbrev pub packet_from : ℕ → ℕ → Kind
packet_from fixed proved = kind.Packet (pos fixed) 0 (pos 0) (pos 0) proved

-- ---- a kind in a register

-- the next slot, with a kind in a register
abbrev pub GivesKind : State → Reg → Kind → Ways → State → Type 0
GivesKind s d k w a = (w ≡ ways.One) × (a ≡ go_to (with_register s d k) (s.slot + 1))

gives_only : (rows : List MapDef) (s : State) (i : Insn) (d : Reg) (w : Ways) (a : State)
    → (made : (w ≡ ways.One) × SetsRegister rows s i a)
    → writes i ≡ Some d → slots_filled i ≡ 1 → GivesKind s d made.1.kind w a
gives_only rows s i d w a made written one =
    let h = made.1 in
    let same : h.register ≡ d = cc (h.written, written) in (
      made.0,
      h.next ∙ ap (λ r. go_to (with_register s r h.kind) (s.slot + slots_filled i)) same
          ∙ ap (λ n. go_to (with_register s d h.kind) (s.slot + n)) one,
    )

gives_of : (rows : List MapDef) (s : State) (i : Insn) (d : Reg) (k : Kind) (w : Ways) (a : State)
    → (w ≡ ways.One) × SetsRegister rows s i a → writes i ≡ Some d → slots_filled i ≡ 1
    → ((l : Kind) → ResultKind rows s i (Ok l) → l ≡ k) → GivesKind s d k w a
gives_of rows s i d k w a made written one is =
    subst (λ l. GivesKind s d l w a) (is made.1.kind made.1.puts)
    (gives_only rows s i d w a made written one)

-- ---- the context's fields

field_kind : (rows : List MapDef) (s : State) (b : Reg) (at : ℤ) (k : Kind)
    → kind_of s b ≡ kind.Context → LoadsKind rows s U32 (kind_of s b) at (Ok k) → IsFieldKind at k
field_kind rows s b at k is h = subst (λ x. LoadsKind rows s U32 x at (Ok k)) is h

pub packet_gives : (p : Program) (s : State) (d b : Reg) (w : Ways) (a c : State)
    → kind_of s b ≡ kind.Context
    → StepsToWays p s (Load U32 d (record { base = b; offset = pos 0 })) w a c
    → GivesKind s d (packet_from 0 0) w a
packet_gives p s d b w a c is makes =
    let i = Load U32 d (record { base = b; offset = pos 0 }) in
    gives_of p.maps s i d (packet_from 0 0) w a (StepsToWays-performs p s i w a c makes) refl refl
    (λ k puts. (field_kind p.maps s b (pos 0) k is puts).packet refl)

pub packet_end_gives : (p : Program) (s : State) (d b : Reg) (w : Ways) (a c : State)
    → kind_of s b ≡ kind.Context
    → StepsToWays p s (Load U32 d (record { base = b; offset = pos 4 })) w a c
    → GivesKind s d kind.PacketEnd w a
packet_end_gives p s d b w a c is makes =
    let i = Load U32 d (record { base = b; offset = pos 4 }) in
    gives_of p.maps s i d kind.PacketEnd w a (StepsToWays-performs p s i w a c makes) refl refl
    (λ k puts. (field_kind p.maps s b (pos 4) k is puts).packet_end refl)

pub field_goes : (rows : List MapDef) (s : State) (b : Reg) (at : ℤ) (e : Refusal)
    → kind_of s b ≡ kind.Context → IsField at → LoadsKind rows s U32 (kind_of s b) at (Err e) → ⊥
field_goes rows s b at e is field h =
    let fails : FieldLoads at (Err e) = subst (λ x. LoadsKind rows s U32 x at (Err e)) is h in
    fails.1 field

-- ---- copies

pub copy_gives : (p : Program) (s : State) (d r : Reg) (k : Kind) (w : Ways) (a c : State)
    → kind_of s r ≡ k → StepsToWays p s (Alu Full64 Mov d (Register r)) w a c → GivesKind s d k w a
copy_gives p s d r k w a c is makes =
    let i = Alu Full64 Mov d (Register r) in
    gives_of p.maps s i d k w a (StepsToWays-performs p s i w a c makes) refl refl
    (λ l puts. let same : l ≡ puts.0 = cc (puts.2) in same ∙ puts.1 ∙ is)

pub copy_goes : (rows : List MapDef) (s : State) (d r : Reg) (e : Refusal)
    → ResultKind rows s (Alu Full64 Mov d (Register r)) (Err e) → ⊥
copy_goes rows s d r e h = absurd (cc (h.2))

-- ---- moves

abbrev pointer_at : ℕ → ℕ → PacketPointer
pointer_at fixed m = packet_pointer (pos fixed) 0 (pos 0) (pos 0) m

moved_on : (n : ℕ) → n ≤ max_guarded_length → signed Full64 (unsigned Full64 (pos n)) ≡ pos n
moved_on n most = to_z-of_z w64 (pos n) (record { sfits = omega (arith, ints, most) })

moved_fixed : (s : State) (fixed m n : ℕ) (k : Kind) → fixed + n ≤ max_guarded_length
    → IsMovedBy s false (pointer_at fixed m) (pos n) k → k ≡ packet_from (fixed + n) m
moved_fixed s fixed m n k most h = of h.pointer where
  of : IsMovedFixed false (pointer_at fixed m) (pos n) k
      ⊎ ((FitsSigned w32 (moved_by false (pos fixed) (pos n)) → ⊥)
      × IsFreshPointer s (pos 0) (lowest false (pointer_at fixed m) (pos n) (pos n))
      (highest false (pointer_at fixed m) (pos n) (pos n)) 0 k)
      → k ≡ packet_from (fixed + n) m
  of (inl moved) = moved.pointer ∙ ap (λ z. kind.Packet z 0 (pos 0) (pos 0) m) (omega (arith, ints))
  of (inr fresh) = absurd (fresh.0 (record { sfits = omega (arith, ints, most) }))

moved_kind : (s : State) (fixed m n : ℕ) (by : Scalar) (k : Kind) → fixed + n ≤ max_guarded_length
    → Has by (unsigned Full64 (pos n)) → IsConstant by (unsigned Full64 (pos n))
    → PacketMoves s false (pointer_at fixed m) by (Ok k) → k ≡ packet_from (fixed + n) m
moved_kind s fixed m n by k most has is (inl h) =
    let same : unsigned Full64 (pos n) ≡ h.number =
    IsNumber-only by h.number (unsigned Full64 (pos n)) h.alone has in
    let far : signed Full64 h.number ≡ pos n = ap (signed Full64) (sym same)
    ∙ moved_on n (omega (arith, most)) in
    moved_fixed s fixed m n k most
    (subst (λ z. IsMovedBy s false (pointer_at fixed m) z k) far h.moves)
moved_kind s fixed m n by k most has is (inr h) =
    absurd (h.several (unsigned Full64 (pos n)) (inl is.0))

offset_fits : (fixed n : ℕ) → fixed + n ≤ max_guarded_length
    → unsigned_abs ((pos fixed +ℤ pos 0) +ℤ pos n) ≤ offset_limit
offset_fits fixed n most =
    let at : (pos fixed +ℤ pos 0) +ℤ pos n ≡ pos (fixed + n) = omega (arith, ints) in
    subst (λ z. unsigned_abs z ≤ offset_limit) (sym at) (omega (arith, most))

moves_go : (s : State) (fixed m n : ℕ) (by : Scalar) (e : Refusal) → fixed + n ≤ max_guarded_length
    → Has by (unsigned Full64 (pos n)) → IsConstant by (unsigned Full64 (pos n))
    → PacketMoves s false (pointer_at fixed m) by (Err e) → ⊥
moves_go s fixed m n by e most has is (inl h) =
    let same : unsigned Full64 (pos n) ≡ h.number =
    IsNumber-only by h.number (unsigned Full64 (pos n)) h.alone has in
    let far : signed Full64 h.number ≡ pos n = ap (signed Full64) (sym same)
    ∙ moved_on n (omega (arith, most)) in
    let fails : MovesBy s false (pointer_at fixed m) (pos n) (Err e) =
    subst (λ z. MovesBy s false (pointer_at fixed m) z (Err e)) far h.moves in
    fails.1 (record { from_is = offset_fits fixed n most; to_is = offset_fits fixed n most })
moves_go s fixed m n by e most has is (inr h) =
    absurd (h.several (unsigned Full64 (pos n)) (inl is.0))

ahead_kind : (s : State) (fixed m n : ℕ) (b k : Kind) → fixed + n ≤ max_guarded_length
    → IsJust b (unsigned Full64 (pos n)) → Arithmetic s Add Full64 (packet_from fixed m) b (Ok k)
    → k ≡ packet_from (fixed + n) m
ahead_kind s fixed m n (kind.Number by) k most just h =
    moved_kind s fixed m n by k most just.0 just.1 h
ahead_kind s fixed m n b k most just h = absurd just

pub ahead_gives : (p : Program) (s : State) (d : Reg) (fixed m n : ℕ) (w : Ways) (a c : State)
    → kind_of s d ≡ packet_from fixed m → fixed + n ≤ max_guarded_length
    → StepsToWays p s (Alu Full64 Add d (Constant (pos n))) w a c
    → GivesKind s d (packet_from (fixed + n) m) w a
ahead_gives p s d fixed m n w a c is most makes =
    let i = Alu Full64 Add d (Constant (pos n)) in
    gives_of p.maps s i d (packet_from (fixed + n) m) w a
    (StepsToWays-performs p s i w a c makes) refl refl
    (λ k puts. ahead_kind s fixed m n puts.0 k most puts.1
    (subst (λ x. Arithmetic s Add Full64 x puts.0 (Ok k)) is puts.2))

ahead_fails : (s : State) (fixed m n : ℕ) (b : Kind) (e : Refusal) → fixed + n ≤ max_guarded_length
    → IsJust b (unsigned Full64 (pos n)) → Arithmetic s Add Full64 (packet_from fixed m) b (Err e)
    → ⊥
ahead_fails s fixed m n (kind.Number by) e most just h =
    moves_go s fixed m n by e most just.0 just.1 h
ahead_fails s fixed m n b e most just h = absurd just

pub ahead_goes : (rows : List MapDef) (s : State) (d : Reg) (fixed m n : ℕ) (e : Refusal)
    → kind_of s d ≡ packet_from fixed m → fixed + n ≤ max_guarded_length
    → ResultKind rows s (Alu Full64 Add d (Constant (pos n))) (Err e) → ⊥
ahead_goes rows s d fixed m n e is most h =
    ahead_fails s fixed m n h.0 e most h.1
    (subst (λ x. Arithmetic s Add Full64 x h.0 (Err e)) is h.2)

-- ---- loads of bytes that are proved to be there

inside_packet : (bytes m at : ℕ) → 1 ≤ m → at + bytes ≤ m
    → AreInPacket (pos 0) (pos 0) m (pos at) bytes
inside_packet bytes m at some inside =
    record { some = some; from = omega (arith, ints); to = omega (arith, ints, inside) }

number_of : (says : Scalar → Type 0) (k : Kind) → IsNumberOf says k → IsNumberKind k
number_of says (kind.Number c) h = tt
number_of says k h = absurd h

-- some number is loaded
pub load_gives : (p : Program) (s : State) (size : Size) (d : Reg) (place : Place) (m at : ℕ)
    (w : Ways) (a c : State)
    → kind_of s place.base ≡ packet_from 0 m → place.offset ≡ pos at
    → StepsToWays p s (Load size d place) w a c → (k : Kind) × IsNumberKind k × GivesKind s d k w a
load_gives p s size d place m at w a c is offset makes =
    let i = Load size d place in
    let made = StepsToWays-performs p s i w a c makes in
    let loads = subst (λ x. LoadsKind p.maps s size x place.offset (Ok made.1.kind)) is
    made.1.puts in
    (made.1.kind, number_of _ made.1.kind loads.1, gives_only p.maps s i d w a made refl refl)

pub load_signed_gives : (p : Program) (s : State) (size : SignedSize) (d : Reg) (place : Place)
    (m at : ℕ) (w : Ways) (a c : State)
    → kind_of s place.base ≡ packet_from 0 m
    → place.offset ≡ pos at → StepsToWays p s (LoadSx size d place) w a c
    → (k : Kind) × IsNumberKind k × GivesKind s d k w a
load_signed_gives p s size d place m at w a c is offset makes =
    let i = LoadSx size d place in
    let made = StepsToWays-performs p s i w a c makes in
    let loads = subst (λ x. LoadsSigned p.maps s size x place.offset (Ok made.1.kind)) is
    made.1.puts in
    (made.1.kind, number_of _ made.1.kind loads.1, gives_only p.maps s i d w a made refl refl)

pub load_passes : (rows : List MapDef) (s : State) (size : Size) (place : Place) (m at : ℕ)
    (e : Refusal)
    → kind_of s place.base ≡ packet_from 0 m → place.offset ≡ pos at → 1 ≤ m
    → at + size_bytes size ≤ m
    → LoadsKind rows s size (kind_of s place.base) place.offset (Err e) → ⊥
load_passes rows s size place m at e is offset some inside h =
    let based = subst (λ x. LoadsKind rows s size x place.offset (Err e)) is h in
    let there = subst (λ z. LoadsKind rows s size (packet_from 0 m) z (Err e)) offset based in
    there.1 (inside_packet (size_bytes size) m at some inside)

pub load_signed_passes : (rows : List MapDef) (s : State) (size : SignedSize) (place : Place)
    (m at : ℕ) (e : Refusal)
    → kind_of s place.base ≡ packet_from 0 m → place.offset ≡ pos at → 1 ≤ m
    → at + size_bytes (unsigned_size size) ≤ m
    → LoadsSigned rows s size (kind_of s place.base) place.offset (Err e) → ⊥
load_signed_passes rows s size place m at e is offset some inside h =
    let based = subst (λ x. LoadsSigned rows s size x place.offset (Err e)) is h in
    let there = subst (λ z. LoadsSigned rows s size (packet_from 0 m) z (Err e)) offset based in
    there.1 (inside_packet (size_bytes (unsigned_size size)) m at some inside)

-- ---- the test against the packet's end

abbrev pub end_test : Reg → Reg → Cond
end_test r q = record { width = Full64; comparison = Greater; register = r; operand = Register q }

-- where the pointer is not beyond the end, the bytes before it are there, for every copy
pub record Proves (n : ℕ) (s t : State) : Type 0 where
  pub one : depth t ≡ depth s
  pub room : length (registers_of t) ≡ length (registers_of s)
  pub copies : (r : Reg) (fixed m : ℕ) → r ≢ R10 → kind_of s r ≡ packet_from fixed m
      → (more : ℕ) × (kind_of t r ≡ packet_from fixed more) × (n ≤ more)

-- where it is beyond the end nothing is shown of bytes: as many call frames and registers are left
pub record ShowsNoBytes (s t : State) : Type 0 where
  pub one : depth t ≡ depth s
  pub room : length (registers_of t) ≡ length (registers_of s)

compared_end : (s : State) (r q : Reg) (n m : ℕ) → kind_of s r ≡ packet_from n m
    → kind_of s q ≡ kind.PacketEnd → compared_by s (end_test r q) ≡ compared.Packet 0 false n
compared_end s r q n m is end = rw (is, end) refl

kind_of-map : (g : Kind → Kind) (s : State) (r : Reg) → g kind.Unset ≡ kind.Unset → r ≢ R10
    → kind_of (map_kinds g s) r ≡ g (kind_of s r)
kind_of-map g s r unset own =
    kind_of-registers (map_kinds g s) r own
    ∙ ap (slice_index_or (map g (registers_of s)) (reg_number r)) (sym unset)
    ∙ get_or-map_default g (registers_of s) (reg_number r) kind.Unset
    ∙ ap g (sym (kind_of-registers s r own))

proves : (n : ℕ) (s : State) → Proves n s (map_kinds (proved_kind 0 n) s)
proves n s = record {
  one = ap (λ x. x + 1) (length-map s.callers.items _);
  room = length-map (registers_of s) (proved_kind 0 n);
  copies =
      λ r fixed m own is.
      (max m n, kind_of-map (proved_kind 0 n) s r refl own ∙ ap (proved_kind 0 n) is, omega arith);
}

pub test_leaves : (p : Program) (s : State) (r q : Reg) (by : ℤ) (n m : ℕ) (w : Ways)
    (a b t : State)
    → kind_of s r ≡ packet_from n m → kind_of s q ≡ kind.PacketEnd
    → StepsToWays p s (JumpIf (end_test r q) by) w a b → IsAmong w a b t
    → (Proves n s t × (t.slot ≡ s.slot + 1))
    ⊎ (ShowsNoBytes s t × (t.slot ≡ destination p s.slot by))
test_leaves p s r q by n m w a b t is end makes among =
    let h : Branches p s (end_test r q) by w a b =
    StepsToWays-performs p s (JumpIf (end_test r q) by) w a b makes in
    let known = compared_end s r q n m is end in
    let left : LearnsOf (compared.Packet 0 false n) false s h.stays h.stay =
    subst (λ c. LearnsOf c false s h.stays h.stay) known h.left_there.pointers in
    let taken : LearnsOf (compared.Packet 0 false n) true s h.goes h.go =
    subst (λ c. LearnsOf c true s h.goes h.go) known h.taken_there.pointers in
    side_among h.stays h.goes (go_to h.stay (s.slot + 1))
    (go_to h.go (destination p s.slot by)) w a b t
    (λ x. (Proves n s x × (x.slot ≡ s.slot + 1))
    ⊎ (ShowsNoBytes s x × (x.slot ≡ destination p s.slot by))) h.sides among
    (inl (
      subst (λ (x : State). Proves n s (go_to x (s.slot + 1))) (sym left.1)
          (at_next (proves n s)),
      refl,
    ))
    (inr (
      subst (λ (x : State). ShowsNoBytes s (go_to x (destination p s.slot by))) (sym taken.1)
          (record { one = refl; room = refl }),
      refl,
    ))
  where
    at_next : Proves n s (map_kinds (proved_kind 0 n) s)
        → Proves n s (go_to (map_kinds (proved_kind 0 n) s) (s.slot + 1))
    at_next h = record {
      one = h.one;
      room = h.room;
      copies =
          λ r fixed m own is. let (more, there, most) = h.copies r fixed m own is in
          (more, kind_of-go_to (map_kinds (proved_kind 0 n) s) (s.slot + 1) r ∙ there, most);
    }

pub test_goes : (p : Program) (s : State) (r q : Reg) (by : ℤ) (n m : ℕ) (e : Refusal) (b c : State)
    → kind_of s r ≡ packet_from n m → kind_of s q ≡ kind.PacketEnd
    → StepsForm p s (JumpIf (end_test r q) by) (Err e) b c → ⊥
test_goes p s r q by n m e b c is end h =
    h.1 (subst IsDefined (sym (compared_end s r q n m is end)) tt)
