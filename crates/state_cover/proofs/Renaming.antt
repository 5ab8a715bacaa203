-- If some renaming of identities works, then the one by first places does too.
use Rattle.state_cover.proofs.Common.{◌≡◌, ◌∙◌, ℕ, zero, suc, inl, inr, List, [], ◌∷◌, Bool, true, false, cond, get_or, Option, Some, None, refl, sym, ap, subst, arith, ◌⊎◌, IfSome, IsSome, nat_eq, if◌then◌else◌, zip, find-append, Kind, Unset, Number, Context, Stack, Packet, PacketEnd, Map, MapValue, MapValueOrNull, packet_identity_of, null_identity_of, KindEncloses, StackSlot, Written, Spilled, AbstractFrame, State, slot_at, kind_in, frames_of, no_frame, abstract_frame_at, kind_at, kinds_of, stack_slots_of, identity_of, is_identity, is_named, spilled_kinds, frame_places, places, first_named, name_at, name_of, packet_name, null_name, SlotEncloses, SlotsEnclose, StateEncloses}
use Rattle.std.specs.Option.{option_or}
use Rattle.std.proofs.lemmas.Bool.Decides.{nat_tests}
use Rattle.reg_state.proofs.Numbers.{if_some}
use Rattle.state_cover.specs.declared.names.NameSort.{NameSort}
use Rattle.state_cover.specs.declared.names.NameSort.TheVariants as sort

-- ---- one place

-- the second kind has the name that the renaming gives
abbrev IsOpposite : NameSort → (ℕ → ℕ) → Kind → Kind → Type 0
IsOpposite s m x y = IfSome (identity_of s x) (λ i. identity_of s y ≡ Some (m i))

opposite_packet : (packet null : ℕ → ℕ) (x y : Kind) → KindEncloses packet null x y
    → IsOpposite sort.Packet packet x y
opposite_packet packet null (Packet f i l g p) (Packet f' i' l' g' p') c = ap Some (sym c.1)
opposite_packet packet null (Packet f i l g p) y c = absurd c
opposite_packet packet null x y c = tt

opposite_null : (packet null : ℕ → ℕ) (x y : Kind) → KindEncloses packet null x y
    → IsOpposite sort.Null null x y
opposite_null packet null (MapValueOrNull m i) (MapValueOrNull m' i') c = ap Some (sym c.1)
opposite_null packet null (MapValueOrNull m i) y c = absurd c
opposite_null packet null x y c = tt

identity_is : (o : Option ℕ) (i : ℕ) → is_identity o i ≡ true → o ≡ Some i
identity_is None i h = absurd (cc)
identity_is (Some j) i h = let same : j ≡ i = grind (arith, nat_tests) in ap Some same

is_own_identity : (o : Option ℕ) (i : ℕ) → o ≡ Some i → is_identity o i ≡ true
is_own_identity None i h = absurd (cc)
is_own_identity (Some j) i h = let same : j ≡ i = cc in grind (arith, nat_tests)

unset_opposite : (s : NameSort) (m : ℕ → ℕ) (y : Kind) → IsOpposite s m Unset y
unset_opposite sort.Packet m y = tt
unset_opposite sort.Null m y = tt

unset_names : (s : NameSort) (i : ℕ) → identity_of s Unset ≡ Some i → ⊥
unset_names sort.Packet i h = cc
unset_names sort.Null i h = cc

-- ---- the first place that names an identity

-- the place that was found has the counterpart of i
abbrev HasCounterpart : NameSort → (ℕ → ℕ) → ℕ → Option (Kind × Kind) → Type 0
HasCounterpart s m i found = IfSome found (λ place. identity_of s place.1 ≡ Some (m i))

opposite_named : (s : NameSort) (m : ℕ → ℕ) (i : ℕ) (x y : Kind) → IsOpposite s m x y
    → identity_of s x ≡ Some i → identity_of s y ≡ Some (m i)
opposite_named s m i x y o e = subst (λ n. IfSome n (λ i. identity_of s y ≡ Some (m i))) e o

counterpart_first : (s : NameSort) (m : ℕ → ℕ) (i : ℕ) (x y : Kind) (rest : Option (Kind × Kind))
    → IsOpposite s m x y → HasCounterpart s m i rest
    → HasCounterpart s m i (cond (is_named s i x) (Some (x, y)) rest)
counterpart_first s m i x y rest o h =
    elim (is_named s i x) as (λ b. is_named s i x ≡ b
    → HasCounterpart s m i (cond b (Some (x, y)) rest))
    [ true ↦ λ e. opposite_named s m i x y o (identity_is (identity_of s x) i e) | false ↦ λ e. h ]
    refl

counterpart_or : (s : NameSort) (m : ℕ → ℕ) (i : ℕ) (found rest : Option (Kind × Kind))
    → HasCounterpart s m i found → HasCounterpart s m i rest
    → HasCounterpart s m i (option_or found rest)
counterpart_or s m i None rest h k = k
counterpart_or s m i (Some place) rest h k = h

some_first : (b : Bool) (place : Kind × Kind) (rest : Option (Kind × Kind)) → b ≡ true
    → IsSome (cond b (Some place) rest)
some_first true place rest e = refl
some_first false place rest e = absurd (cc)

some_later : (b : Bool) (place : Kind × Kind) (rest : Option (Kind × Kind)) → IsSome rest
    → IsSome (cond b (Some place) rest)
some_later true place rest h = refl
some_later false place rest h = h

or_first : (found rest : Option (Kind × Kind)) → IsSome found → IsSome (option_or found rest)
or_first None rest h = absurd (cc)
or_first (Some place) rest h = refl

or_later : (found rest : Option (Kind × Kind)) → IsSome rest → IsSome (option_or found rest)
or_later None rest h = h
or_later (Some place) rest h = refl

-- ---- registers

abbrev AreOpposite : NameSort → (ℕ → ℕ) → List Kind → List Kind → Type 0
AreOpposite s m xs ys = (k : ℕ) → IsOpposite s m (kind_at xs k) (kind_at ys k)

counterpart_registers : (s : NameSort) (m : ℕ → ℕ) (i : ℕ) (xs ys : List Kind)
    → AreOpposite s m xs ys
    → HasCounterpart s m i (first_named s i (zip xs ys))
counterpart_registers s m i [] ys h = tt
counterpart_registers s m i (x ∷ xs) [] h = tt
counterpart_registers s m i (x ∷ xs) (y ∷ ys) h =
    counterpart_first s m i x y (first_named s i (zip xs ys)) (h 0)
    (counterpart_registers s m i xs ys (λ k. h (suc k)))

some_registers : (s : NameSort) (m : ℕ → ℕ) (i : ℕ) (xs ys : List Kind) (k : ℕ)
    → AreOpposite s m xs ys
    → identity_of s (kind_at xs k) ≡ Some i → IsSome (first_named s i (zip xs ys))
some_registers s m i [] ys k h e = absurd (unset_names s i e)
some_registers s m i (x ∷ xs) [] k h e =
    absurd (unset_names s (m i) (opposite_named s m i (kind_at (x ∷ xs) k) Unset (h k) e))
some_registers s m i (x ∷ xs) (y ∷ ys) zero h e =
    some_first (is_named s i x) (x, y) (first_named s i (zip xs ys))
    (is_own_identity (identity_of s x) i e)
some_registers s m i (x ∷ xs) (y ∷ ys) (suc k) h e =
    some_later (is_named s i x) (x, y) (first_named s i (zip xs ys))
    (some_registers s m i xs ys k (λ k. h (suc k)) e)

-- ---- slots

opposite_in_slot : (s : NameSort) (m : ℕ → ℕ) (packet null : ℕ → ℕ) (x y : StackSlot)
    → ((k l : Kind) → KindEncloses packet null k l → IsOpposite s m k l)
    → SlotEncloses packet null x y → IsOpposite s m (kind_in x) (kind_in y)
opposite_in_slot s m packet null (Written marks) y each c = unset_opposite s m (kind_in y)
opposite_in_slot s m packet null (Spilled k) (Spilled l) each c = each k l c
opposite_in_slot s m packet null (Spilled k) (Written marks) each c = absurd c

-- the kinds in two lists of slots
kind_in_slot : (slots : List StackSlot) (k : ℕ)
    → kind_at (spilled_kinds slots) k ≡ kind_in (slot_at slots k)
kind_in_slot [] k = refl
kind_in_slot (x ∷ slots) zero = refl
kind_in_slot (x ∷ slots) (suc k) = kind_in_slot slots k

opposite_slots : (s : NameSort) (m : ℕ → ℕ) (packet null : ℕ → ℕ) (xs ys : List StackSlot)
    → ((k l : Kind) → KindEncloses packet null k l → IsOpposite s m k l)
    → SlotsEnclose packet null xs ys → AreOpposite s m (spilled_kinds xs) (spilled_kinds ys)
opposite_slots s m packet null xs ys each c = λ k.
    rw (kind_in_slot xs k, kind_in_slot ys k)
    (opposite_in_slot s m packet null (slot_at xs k) (slot_at ys k) each (c k))

-- ---- call frames

-- the kinds in the registers and in the slots of two frames are opposite
record FramesOpposite (s : NameSort) (m : ℕ → ℕ) (f g : AbstractFrame) : Type 0 where
  registers : AreOpposite s m f.registers g.registers
  slots : AreOpposite s m (spilled_kinds f.stack.slots) (spilled_kinds g.stack.slots)

-- the identity is named in a register or in a slot
abbrev NamedIn : NameSort → AbstractFrame → ℕ → Type 0
NamedIn s f i =
    ((k : ℕ) × (identity_of s (kind_at f.registers k) ≡ Some i))
    ⊎ ((k : ℕ) × (identity_of s (kind_at (spilled_kinds f.stack.slots) k) ≡ Some i))

counterpart_frame : (s : NameSort) (m : ℕ → ℕ) (i : ℕ) (f g : AbstractFrame)
    → FramesOpposite s m f g
    → HasCounterpart s m i (first_named s i (frame_places f g))
counterpart_frame s m i f g h =
    rw (find-append (λ place. is_named s i place.0) (zip f.registers g.registers)
    (zip (spilled_kinds f.stack.slots) (spilled_kinds g.stack.slots)))
    (counterpart_or s m i (first_named s i (zip f.registers g.registers))
    (first_named s i (zip (spilled_kinds f.stack.slots) (spilled_kinds g.stack.slots)))
    (counterpart_registers s m i f.registers g.registers h.registers)
    (counterpart_registers s m i (spilled_kinds f.stack.slots)
    (spilled_kinds g.stack.slots) h.slots))

some_frame : (s : NameSort) (m : ℕ → ℕ) (i : ℕ) (f g : AbstractFrame) → FramesOpposite s m f g
    → NamedIn s f i → IsSome (first_named s i (frame_places f g))
some_frame s m i f g h (inl named) =
    rw (find-append (λ place. is_named s i place.0) (zip f.registers g.registers)
    (zip (spilled_kinds f.stack.slots) (spilled_kinds g.stack.slots)))
    (or_first (first_named s i (zip f.registers g.registers))
    (first_named s i (zip (spilled_kinds f.stack.slots) (spilled_kinds g.stack.slots)))
    (some_registers s m i f.registers g.registers named.0 h.registers named.1))
some_frame s m i f g h (inr named) =
    rw (find-append (λ place. is_named s i place.0) (zip f.registers g.registers)
    (zip (spilled_kinds f.stack.slots) (spilled_kinds g.stack.slots)))
    (or_later (first_named s i (zip f.registers g.registers))
    (first_named s i (zip (spilled_kinds f.stack.slots) (spilled_kinds g.stack.slots)))
    (some_registers s m i (spilled_kinds f.stack.slots)
    (spilled_kinds g.stack.slots) named.0 h.slots named.1))

-- of each frame
abbrev AllOpposite : NameSort → (ℕ → ℕ) → List AbstractFrame → List AbstractFrame → Type 0
AllOpposite s m fs gs = (j : ℕ) → FramesOpposite s m (get_or fs j no_frame) (get_or gs j no_frame)

counterpart_frames : (s : NameSort) (m : ℕ → ℕ) (i : ℕ) (fs gs : List AbstractFrame)
    → AllOpposite s m fs gs → HasCounterpart s m i (first_named s i (places fs gs))
counterpart_frames s m i [] gs h = tt
counterpart_frames s m i (f ∷ fs) [] h = tt
counterpart_frames s m i (f ∷ fs) (g ∷ gs) h =
    rw (find-append (λ place. is_named s i place.0) (frame_places f g) (places fs gs))
    (counterpart_or s m i (first_named s i (frame_places f g)) (first_named s i (places fs gs))
    (counterpart_frame s m i f g (h 0)) (counterpart_frames s m i fs gs (λ j. h (suc j))))

no_frame_names : (s : NameSort) (i : ℕ) → NamedIn s no_frame i → ⊥
no_frame_names s i (inl named) = unset_names s i named.1
no_frame_names s i (inr named) = unset_names s i named.1

-- a frame with no frame opposite names nothing
none_opposite : (s : NameSort) (m : ℕ → ℕ) (i : ℕ) (f : AbstractFrame)
    → FramesOpposite s m f no_frame
    → NamedIn s f i → ⊥
none_opposite s m i f h (inl named) =
    unset_names s (m i)
    (opposite_named s m i (kind_at f.registers named.0) Unset (h.registers named.0) named.1)
none_opposite s m i f h (inr named) =
    unset_names s (m i)
    (opposite_named s m i (kind_at (spilled_kinds f.stack.slots) named.0) Unset
    (h.slots named.0) named.1)

some_frames : (s : NameSort) (m : ℕ → ℕ) (i : ℕ) (fs gs : List AbstractFrame) (j : ℕ)
    → AllOpposite s m fs gs
    → NamedIn s (get_or fs j no_frame) i → IsSome (first_named s i (places fs gs))
some_frames s m i [] gs j h named = absurd (no_frame_names s i named)
some_frames s m i (f ∷ fs) [] j h named =
    absurd (none_opposite s m i (get_or (f ∷ fs) j no_frame) (h j) named)
some_frames s m i (f ∷ fs) (g ∷ gs) zero h named =
    rw (find-append (λ place. is_named s i place.0) (frame_places f g) (places fs gs))
    (or_first (first_named s i (frame_places f g)) (first_named s i (places fs gs))
    (some_frame s m i f g (h 0) named))
some_frames s m i (f ∷ fs) (g ∷ gs) (suc j) h named =
    rw (find-append (λ place. is_named s i place.0) (frame_places f g) (places fs gs))
    (or_later (first_named s i (frame_places f g)) (first_named s i (places fs gs))
    (some_frames s m i fs gs j (λ j. h (suc j)) named))

-- ---- names

name_at-counterpart : (s : NameSort) (m : ℕ → ℕ) (i : ℕ) (found : Option (Kind × Kind))
    → IsSome found
    → HasCounterpart s m i found → name_at s i found ≡ m i
name_at-counterpart s m i None some h = absurd (cc)
name_at-counterpart s m i (Some place) some h = rw h refl

-- an identity that a frame names has the name that the renaming gives
name_of-opposite : (s : NameSort) (m : ℕ → ℕ) (i : ℕ) (a b : State) (j : ℕ)
    → AllOpposite s m (frames_of a) (frames_of b)
    → NamedIn s (abstract_frame_at a j) i → name_of s a b i ≡ m i
unfolding name_of
name_of-opposite s m i a b j h named =
    name_at-counterpart s m i (first_named s i (places (frames_of a) (frames_of b)))
    (some_frames s m i (frames_of a) (frames_of b) j h named)
    (counterpart_frames s m i (frames_of a) (frames_of b) h)

packet_name-is : (a b : State) (packet : ℕ → ℕ) (i : ℕ) → packet 0 ≡ 0
    → name_of sort.Packet a b i ≡ packet i → packet_name a b i ≡ packet i
packet_name-is a b packet i none same =
    elim (nat_eq i 0) as (λ z. nat_eq i 0 ≡ z
    → (if z then 0 else name_of sort.Packet a b i) ≡ packet i) [
      | true ↦ λ e. let zero_is : i ≡ 0 = grind (arith, nat_tests) in sym (ap packet zero_is ∙ none)
      | false ↦ λ e. same
    ]
    refl

renamed_kind : (packet null names nulls : ℕ → ℕ) (x y : Kind)
    → IfSome (packet_identity_of x) (λ i. names i ≡ packet i)
    → IfSome (null_identity_of x) (λ i. nulls i ≡ null i) → KindEncloses packet null x y
    → KindEncloses names nulls x y
renamed_kind packet null names nulls Unset y packets null_is c = tt
renamed_kind packet null names nulls (Number numbers) (Number others) packets null_is c = c
renamed_kind packet null names nulls Context Context packets null_is c = tt
renamed_kind packet null names nulls (Stack f o) (Stack f' o') packets null_is c = c
renamed_kind packet null names nulls (Packet f i l g p) (Packet f' i' l' g' p') packets null_is c =
    (c.0, packets ∙ c.1, c.2, c.3, c.4)
renamed_kind packet null names nulls PacketEnd PacketEnd packets null_is c = tt
renamed_kind packet null names nulls (Map m) (Map m') packets null_is c = c
renamed_kind packet null names nulls (MapValue m l g) (MapValue m' l' g') packets null_is c = c
renamed_kind packet null names nulls (MapValueOrNull m i) (MapValueOrNull m' i') packets null_is c =
    (c.0, null_is ∙ c.1)
renamed_kind packet null names nulls x y packets null_is c = absurd c

-- what a kind names gets the same names from `names` and `nulls` as from `packet` and `null`
record AgreeOn (packet null names nulls : ℕ → ℕ) (x : Kind) : Type 0 where
  packets_agree : IfSome (packet_identity_of x) (λ i. names i ≡ packet i)
  nulls_agree : IfSome (null_identity_of x) (λ i. nulls i ≡ null i)

renamed_slot : (packet null names nulls : ℕ → ℕ) (x y : StackSlot)
    → AgreeOn packet null names nulls (kind_in x) → SlotEncloses packet null x y
    → SlotEncloses names nulls x y
renamed_slot packet null names nulls (Written marks) y agree c = c
renamed_slot packet null names nulls (Spilled k) (Spilled l) agree c =
    renamed_kind packet null names nulls k l agree.packets_agree agree.nulls_agree c
renamed_slot packet null names nulls (Spilled k) (Written marks) agree c = absurd c

all_opposite_packet : (packet null : ℕ → ℕ) (a b : State) → StateEncloses packet null a b
    → AllOpposite sort.Packet packet (frames_of a) (frames_of b)
all_opposite_packet packet null a b c = λ j. record {
  registers =
      λ k. opposite_packet packet null (kind_at (kinds_of a j) k) (kind_at (kinds_of b j) k)
      (c.registers j k);
  slots =
      opposite_slots sort.Packet packet packet null (stack_slots_of a j) (stack_slots_of b j)
      (opposite_packet packet null) (c.slots j);
}

all_opposite_null : (packet null : ℕ → ℕ) (a b : State) → StateEncloses packet null a b
    → AllOpposite sort.Null null (frames_of a) (frames_of b)
all_opposite_null packet null a b c = λ j. record {
  registers =
      λ k. opposite_null packet null (kind_at (kinds_of a j) k) (kind_at (kinds_of b j) k)
      (c.registers j k);
  slots =
      opposite_slots sort.Null null packet null (stack_slots_of a j) (stack_slots_of b j)
      (opposite_null packet null) (c.slots j);
}

agree : (packet null : ℕ → ℕ) (a b : State) (j : ℕ) (x : Kind) → StateEncloses packet null a b
    → ((s : NameSort) (i : ℕ) → identity_of s x ≡ Some i → NamedIn s (abstract_frame_at a j) i)
    → AgreeOn packet null (packet_name a b) (null_name a b) x
agree packet null a b j x c named = record {
  packets_agree =
      if_some (packet_identity_of x) (λ i. packet_name a b i ≡ packet i)
      (λ i e. packet_name-is a b packet i c.none
      (name_of-opposite sort.Packet packet i a b j (all_opposite_packet packet null a b c)
      (named sort.Packet i e)));
  nulls_agree = if_some (null_identity_of x) (λ i. null_name a b i ≡ null i) (λ i e.
      name_of-opposite sort.Null null i a b j (all_opposite_null packet null a b c)
      (named sort.Null i e));
}

-- the names at the first places serve where other renamings do
pub StateEncloses-names : (packet null : ℕ → ℕ) (a b : State) → StateEncloses packet null a b
    → StateEncloses (packet_name a b) (null_name a b) a b
StateEncloses-names packet null a b c = record {
  none = refl;
  slot = c.slot;
  returns = c.returns;
  registers = λ j k. let x : Kind = kind_at (kinds_of a j) k in
      let here = agree packet null a b j x c (λ s i e. inl (k, e)) in
      renamed_kind packet null (packet_name a b) (null_name a b) x
      (kind_at (kinds_of b j) k) here.packets_agree here.nulls_agree (c.registers j k);
  slots = λ j k. let x : StackSlot = slot_at (stack_slots_of a j) k in
      renamed_slot packet null (packet_name a b) (null_name a b) x (slot_at (stack_slots_of b j) k)
      (agree packet null a b j (kind_in x) c
      (λ s i e. inr (k, ap (identity_of s) (kind_in_slot (stack_slots_of a j) k) ∙ e)))
      (c.slots j k);
}
