-- What the tests of call frames have to find, where a state encloses another or is equal to it.
use Rattle.state_cover.proofs.Common.{◌≡◌, ◌∙◌, ℕ, zero, suc, ◌<◌, List, [], ◌∷◌, length, map, get_or, refl, sym, ap, subst, arith, Kind, Unset, Number, Context, Stack, Packet, PacketEnd, Map, MapValue, MapValueOrNull, KindEncloses, StackSlot, Written, Spilled, AbstractFrame, State, slot_at, frames_of, no_frame, abstract_frame_at, kind_at, kinds_of, stack_slots_of, packet_name, null_name, SlotEncloses, KindsEnclose, SlotsEnclose, StateEncloses}
use Rattle.std.proofs.lemmas.List.{length-map, get_or_default}
use Rattle.std.proofs.lemmas.Int.{ints}
use Rattle.stack_state.proofs.MeaningLaws.{length-frames_of, abstract_frame_at-caller, abstract_frame_at-innermost}
use Rattle.state_cover.proofs.Renaming.{StateEncloses-names}

-- ---- equal states

own_kind : (x : Kind) → KindEncloses (λ i. i) (λ i. i) x x
own_kind Unset = tt
own_kind (Number numbers) = (
  λ x h. h,
  (
    (omega arith, omega arith, omega (arith, ints), omega (arith, ints)),
    (omega arith, omega arith, omega (arith, ints), omega (arith, ints)),
  ),
)
own_kind Context = tt
own_kind (Stack f o) = (refl, refl)
own_kind (Packet f i l g p) = (refl, refl, omega (arith, ints), omega (arith, ints), omega arith)
own_kind PacketEnd = tt
own_kind (Map m) = refl
own_kind (MapValue m l g) = (refl, omega (arith, ints), omega (arith, ints))
own_kind (MapValueOrNull m i) = (refl, refl)

own_slot : (x : StackSlot) → SlotEncloses (λ i. i) (λ i. i) x x
own_slot (Written marks) = λ i within bit. bit
own_slot (Spilled k) = own_kind k

pub StateEncloses-own : (a : State) → StateEncloses (λ i. i) (λ i. i) a a
StateEncloses-own a = record {
  none = refl;
  slot = refl;
  returns = refl;
  registers = λ j k. own_kind (kind_at (kinds_of a j) k);
  slots = λ j k. own_slot (slot_at (stack_slots_of a j) k);
}

-- an equal state is covered, if all is found that can be
pub own_found : (a b : State) (P : Type 0)
    → ((packet null : ℕ → ℕ) → StateEncloses packet null a b → P) → a ≡ b → P
own_found a b P found same =
    found (λ i. i) (λ i. i)
    (subst (λ b. StateEncloses (λ i. i) (λ i. i) a b) same (StateEncloses-own a))

-- ---- a frame

returns_at : (fs gs : List AbstractFrame) (j : ℕ)
    → map (λ f. f.return_slot) fs ≡ map (λ f. f.return_slot) gs
    → (get_or fs j no_frame).return_slot ≡ (get_or gs j no_frame).return_slot
returns_at [] [] j same = refl
returns_at [] (g ∷ gs) j same = absurd (cc (same))
returns_at (f ∷ fs) [] j same = absurd (cc (same))
returns_at (f ∷ fs) (g ∷ gs) zero same =
    let first : f.return_slot ≡ g.return_slot = cc (same) in first
returns_at (f ∷ fs) (g ∷ gs) (suc j) same =
    let rest : map (λ f. f.return_slot) fs ≡ map (λ f. f.return_slot) gs = cc (same) in
    returns_at fs gs j rest

pub callers-same : (a b : State) (packet null : ℕ → ℕ) → StateEncloses packet null a b
    → length a.callers.items ≡ length b.callers.items
callers-same a b packet null c =
    let same : length (frames_of a) ≡ length (frames_of b) =
    sym (length-map (frames_of a) (λ f. f.return_slot)) ∙ ap length c.returns
    ∙ length-map (frames_of b) (λ f. f.return_slot) in
    let left = length-frames_of a in
    let right = length-frames_of b in
    omega arith

-- what the test of a frame has to find
pub record IsFound (a b : State) (f g : AbstractFrame) : Type 0 where
  pub returns : f.return_slot ≡ g.return_slot
  pub registers : KindsEnclose (packet_name a b) (null_name a b) f.registers g.registers
  pub slots : SlotsEnclose (packet_name a b) (null_name a b) f.stack.slots g.stack.slots

found_at : (a b : State) (packet null : ℕ → ℕ) (j : ℕ) → StateEncloses packet null a b
    → IsFound a b (abstract_frame_at a j) (abstract_frame_at b j)
found_at a b packet null j c =
    let named = StateEncloses-names packet null a b c in
    record {
      returns = returns_at (frames_of a) (frames_of b) j c.returns;
      registers = named.registers j;
      slots = named.slots j;
    }

pub innermost_found : (a b : State) (packet null : ℕ → ℕ) → StateEncloses packet null a b
    → IsFound a b a.innermost b.innermost
innermost_found a b packet null c =
    let same = callers-same a b packet null c in
    subst (λ f. IsFound a b f b.innermost) (abstract_frame_at-innermost a)
    (subst (λ g. IsFound a b (abstract_frame_at a (length a.callers.items)) g)
    (ap (abstract_frame_at b) same ∙ abstract_frame_at-innermost b)
    (found_at a b packet null (length a.callers.items) c))

-- a caller's frame
pub caller_found : (a b : State) (fs gs : List AbstractFrame) (packet null : ℕ → ℕ) (n : ℕ)
    (f g : AbstractFrame) → fs ≡ a.callers.items
    → gs ≡ b.callers.items → StateEncloses packet null a b → n < length fs → n < length gs
    → f ≡ get_or fs n f → g ≡ get_or gs n g → IsFound a b f g
caller_found a b fs gs packet null n f g is_a is_b c in_a in_b at_f at_g =
    let of_a : n < length a.callers.items = rw is_a at in_a in
    let of_b : n < length b.callers.items = rw is_b at in_b in
    let left : f ≡ abstract_frame_at a n =
    at_f ∙ get_or_default fs n f no_frame in_a ∙ ap (λ fs. get_or fs n no_frame) is_a
    ∙ sym (abstract_frame_at-caller a n (omega arith)) in
    let right : g ≡ abstract_frame_at b n =
    at_g ∙ get_or_default gs n g no_frame in_b ∙ ap (λ gs. get_or gs n no_frame) is_b
    ∙ sym (abstract_frame_at-caller b n (omega arith)) in
    subst (λ f. IsFound a b f g) (sym left)
    (subst (λ g. IsFound a b (abstract_frame_at a n) g) (sym right)
    (found_at a b packet null n c))
