-- Registers that hold numbers still do after a step.
use Rattle.walks.proofs.Common.{◌≡◌, ◌+◌, ◌∷◌, ℕ, true, false, List, length, sym, ap, ◌∙◌, subst, inl, inr, ◌≢◌, ℤ, MapDef, Reg, R10, Insn, Alu, Neg, MovSx, ByteSwap, LoadNumber, Jump, JumpLong, JumpIf, Exit, Program, slots_filled, reads, writes, destination, IsPlainForm, Each, IsOneOf, written_too, Kind, State, depth, registers_of, with_register, go_to, same_or_other, kind_of-with_other, IsNumberKind, Ways, SetsRegister, StepsToWays, IsAmong}
use Rattle.transfer.specs.declared.Ways.TheVariants as ways
use Rattle.walks.proofs.OnNumbers.{Made, StepsToWays-made, kind_of-go_to, kind_of-with_own, room-with, NumbersIn, puts_number, are_compared, Remains, Refines-remains, one_among, none_among, side_among}

-- ---- registers that hold numbers

-- one call frame, and numbers in these registers
pub record KnowsNumbers (s : State) (written : List Reg) : Type 0 where
  pub one : depth s ≡ 1
  pub room : length (registers_of s) ≡ 10
  pub numbers : (r : Reg) → IsOneOf written r → NumbersIn s r

pub KnowsNumbers-go_to : (s : State) (slot : ℕ) (written : List Reg) → KnowsNumbers s written
    → KnowsNumbers (go_to s slot) written
KnowsNumbers-go_to s slot written h =
    record {
      one = h.one;
      room = h.room;
      numbers = λ r among. subst IsNumberKind (sym (kind_of-go_to s slot r)) (h.numbers r among);
    }

KnowsNumbers-remains : (s t : State) (written : List Reg) → Remains s t → KnowsNumbers s written
    → KnowsNumbers t written
KnowsNumbers-remains s t written n h =
    record {
      one = ap (λ c. length c.items + 1) n.callers ∙ h.one;
      room = n.room ∙ h.room;
      numbers = λ r among. n.numbers r (h.numbers r among);
    }

pub KnowsNumbers-with : (s : State) (r : Reg) (k : Kind) (written : List Reg) → r ≢ R10
    → IsNumberKind k → KnowsNumbers s written → KnowsNumbers (with_register s r k) (r ∷ written)
KnowsNumbers-with s r k written own number h =
    let here : NumbersIn (with_register s r k) r =
    subst IsNumberKind (sym (kind_of-with_own s r k own h.room)) number in
    record {
      one = h.one;
      room = room-with s r k ∙ h.room;
      numbers = λ q among. elim (same_or_other q r) [
        | inl same ↦ subst (NumbersIn (with_register s r k)) (sym same) here
        | inr other ↦ elim among [
          | inl same ↦ absurd (other same)
          | inr rest ↦
              subst IsNumberKind (sym (kind_of-with_other s r q k other)) (h.numbers q rest)
        ]
      ];
    }

KnowsNumbers-sets : (rows : List MapDef) (s t : State) (i : Insn) (written : List Reg)
    → IsPlainForm i → Each (NumbersIn s) (reads i) → SetsRegister rows s i t
    → KnowsNumbers s written → KnowsNumbers t (written_too (writes i) written)
KnowsNumbers-sets rows s t i written plain set h known =
    let number = puts_number rows s i h.kind plain set h.puts in
    let put = KnowsNumbers-with s h.register h.kind written h.own number known in
    let there : KnowsNumbers t (h.register ∷ written) =
    subst (λ x. KnowsNumbers x (h.register ∷ written)) (sym h.next)
    (KnowsNumbers-go_to (with_register s h.register h.kind) (s.slot + slots_filled i)
    (h.register ∷ written) put) in
    subst (λ o. KnowsNumbers t (written_too o written)) (sym h.written) there

jumps_knows : (p : Program) (s a b t : State) (by : ℤ) (w : Ways) (written : List Reg)
    → w ≡ ways.One → a ≡ go_to s (destination p s.slot by) → IsAmong w a b t
    → KnowsNumbers s written → KnowsNumbers t written
jumps_knows p s a b t by w written one is among known =
    subst (λ x. KnowsNumbers x written) (sym (one_among w a b t one among ∙ is))
    (KnowsNumbers-go_to s (destination p s.slot by) written known)

made_knows : (p : Program) (s a b t : State) (i : Insn) (w : Ways) (written : List Reg)
    → IsPlainForm i → Each (NumbersIn s) (reads i) → Made p s i w a b → IsAmong w a b t
    → KnowsNumbers s written → KnowsNumbers t (written_too (writes i) written)
made_knows p s a b t (Jump by) w written plain set makes among known =
    jumps_knows p s a b t by w written makes.0 makes.1 among known
made_knows p s a b t (JumpLong by) w written plain set makes among known =
    jumps_knows p s a b t by w written makes.0 makes.1 among known
made_knows p s a b t (JumpIf c by) w written plain set makes among known =
    let compared = are_compared s c set in
    side_among makes.stays makes.goes (go_to makes.stay (s.slot + 1))
    (go_to makes.go (destination p s.slot by)) w a b t
    (λ x. KnowsNumbers x written) makes.sides among
    (KnowsNumbers-go_to makes.stay (s.slot + 1) written
    (KnowsNumbers-remains s makes.stay written
    (Refines-remains c false makes.stays s makes.stay compared makes.left_there) known))
    (KnowsNumbers-go_to makes.go (destination p s.slot by) written
    (KnowsNumbers-remains s makes.go written
    (Refines-remains c true makes.goes s makes.go compared makes.taken_there) known))
made_knows p s a b t Exit w written plain set makes among known =
    absurd (none_among w a b t makes among)
made_knows p s a b t (Alu v op d source) w written plain set makes among known =
    subst (λ x. KnowsNumbers x (d ∷ written)) (sym (one_among w a b t makes.0 among))
    (KnowsNumbers-sets p.maps s a (Alu v op d source) written plain set makes.1 known)
made_knows p s a b t (Neg v d) w written plain set makes among known =
    subst (λ x. KnowsNumbers x (d ∷ written)) (sym (one_among w a b t makes.0 among))
    (KnowsNumbers-sets p.maps s a (Neg v d) written plain set makes.1 known)
made_knows p s a b t (MovSx e d r) w written plain set makes among known =
    subst (λ x. KnowsNumbers x (d ∷ written)) (sym (one_among w a b t makes.0 among))
    (KnowsNumbers-sets p.maps s a (MovSx e d r) written plain set makes.1 known)
made_knows p s a b t (ByteSwap order span d) w written plain set makes among known =
    subst (λ x. KnowsNumbers x (d ∷ written)) (sym (one_among w a b t makes.0 among))
    (KnowsNumbers-sets p.maps s a (ByteSwap order span d) written plain set makes.1 known)
made_knows p s a b t (LoadNumber d n) w written plain set makes among known =
    subst (λ x. KnowsNumbers x (d ∷ written)) (sym (one_among w a b t makes.0 among))
    (KnowsNumbers-sets p.maps s a (LoadNumber d n) written plain set makes.1 known)
made_knows p s a b t i w written plain set makes among known = absurd plain

pub KnowsNumbers-makes : (p : Program) (s a b t : State) (i : Insn) (w : Ways) (written : List Reg)
    → IsPlainForm i → Each (NumbersIn s) (reads i) → StepsToWays p s i w a b → IsAmong w a b t
    → KnowsNumbers s written → KnowsNumbers t (written_too (writes i) written)
KnowsNumbers-makes p s a b t i w written plain set makes among known =
    made_knows p s a b t i w written plain set
    (StepsToWays-made p s i w a b plain known.one makes) among known
