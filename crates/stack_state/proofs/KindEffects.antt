-- Effects on kinds in every call frame keep the meaning of an abstract state.
use Rattle.stack_state.proofs.Common.{◌≡◌, ◌≢◌, ℕ, ◌<◌, ◌==◌, ℤ, pos, ◌+ℤ◌, ◌≤ℤ◌, List, [], ◌∷◌, map, max, length, slice_index_or, Option, Some, None, Bool, true, false, if◌then◌else◌, sym, ap, ◌∙◌, subst, inl, inr, arith, refl, cases_eq, nat_tests, map-append, get_or-map, Value, Cell, Program, Content, IsState, Scalar, Kind, Unset, Packet, MapValue, MapValueOrNull, Has, Assigned, Allows, AllowsPacket, AllowsOrNull, StackSlot, Written, Spilled, AbstractFrame, State, frames_of, no_frame, abstract_frame_at, kind_at, depth, AssignmentFits, MeansBy, slot_at, kind_in, forgotten_slot, SlotMeans, KeepsOtherMaps, with_maps, map_frames, with_spilled, with_kinds, map_kinds, proved_kind, tested_value, tested_kind, forgotten_register, forgotten_frame, forgotten_in}
use Rattle.std.proofs.lemmas.Int.{ints}
use Rattle.std.proofs.Math.ListN.{get_or-map as get_or-map_default}
use Rattle.isa_model.specs.Machine.States as Machine
use Rattle.stack_state.proofs.MeaningLaws.{length-frames_of, FrameKeeps, MeansBy-onto}
use Rattle.stack_state.proofs.StackLaws.{SlotMeans-spilled}
use Rattle.stack_state.proofs.FillLaws.{SlotMeans-forgotten, null_kept}

-- ---- every frame

pub frames_of-map : (g : AbstractFrame → AbstractFrame) (a : State)
    → frames_of (map_frames g a) ≡ map g (frames_of a)
frames_of-map g a = sym (map-append g a.callers.items (a.innermost ∷ []))

pub abstract_frame_at-map : (g : AbstractFrame → AbstractFrame) (a : State) (j : ℕ) → j < depth a
    → abstract_frame_at (map_frames g a) j ≡ g (abstract_frame_at a j)
abstract_frame_at-map g a j inside =
    let long = length-frames_of a in
    ap (λ fs. slice_index_or fs j no_frame) (frames_of-map g a)
    ∙ get_or-map g (frames_of a) j no_frame no_frame (omega arith)

pub same_returns : (g : AbstractFrame → AbstractFrame) (fs : List AbstractFrame)
    → ((f : AbstractFrame) → (g f).return_slot ≡ f.return_slot)
    → map (λ f. f.return_slot) (map g fs) ≡ map (λ f. f.return_slot) fs
same_returns g [] same = refl
same_returns g (f ∷ fs) same = rw (same f, same_returns g fs same) refl

-- the same is done to each frame, and in the machine maps may change
MeansBy-map : (p : Program) (e f : Assigned) (g : AbstractFrame → AbstractFrame) (a : State)
    (s t : Machine.State) → t.slot ≡ s.slot
    → t.regs ≡ s.regs → t.frames ≡ s.frames → IsState p t → AssignmentFits f t
    → ((x : AbstractFrame) → (g x).return_slot ≡ x.return_slot)
    → ((x : AbstractFrame) → FrameKeeps e f x (g x)) → MeansBy p e a s
    → MeansBy p f (map_frames g a) t
MeansBy-map p e f g a s t slot regs frames is of same each m =
    MeansBy-onto p e f a (map_frames g a) s t slot regs frames is of refl
    (ap (λ fs. map (λ f. f.return_slot) fs) (frames_of-map g a) ∙ same_returns g (frames_of a) same)
    (λ j below. subst (FrameKeeps e f (abstract_frame_at a j))
    (sym (abstract_frame_at-map g a j below)) (each (abstract_frame_at a j))) m

-- ---- more known of every copy of an identity

SlotMeans-with : (e f : Assigned) (g : Kind → Kind) (t : StackSlot) (cs : List Cell)
    → ((k : Kind) (v : Value) → Allows e k v → Allows f (g k) v)
    → SlotMeans e t cs → SlotMeans f (with_spilled g t) cs
SlotMeans-with e f g (Written marks) cs each h = h
SlotMeans-with e f g (Spilled k) cs each h = SlotMeans-spilled e f k (g k) cs (each k) h

FrameKeeps-kinds : (e f : Assigned) (g : Kind → Kind) (x : AbstractFrame) → g Unset ≡ Unset
    → ((k : Kind) (v : Value) → Allows e k v → Allows f (g k) v) → FrameKeeps e f x (with_kinds g x)
FrameKeeps-kinds e f g x unset each = record {
  registers = λ k v h. let same : kind_at (map g x.registers) k ≡ g (kind_at x.registers k) =
      ap (slice_index_or (map g x.registers) k) (sym unset)
      ∙ get_or-map_default g x.registers k Unset in
      subst (λ l. Allows f l v) (sym same) (each (kind_at x.registers k) v h);
  slots =
      λ k cs inside h.
      subst (λ t. SlotMeans f t cs)
      (sym (get_or-map_default (with_spilled g) x.stack.slots k (Written 0)))
      (SlotMeans-with e f g (slot_at x.stack.slots k) cs each h);
}

-- kinds that still allow what they allowed
pub MeansBy-map_kinds : (p : Program) (e : Assigned) (g : Kind → Kind) (a : State)
    (s : Machine.State) → g Unset ≡ Unset
    → ((k : Kind) (v : Value) → Allows e k v → Allows e (g k) v) → MeansBy p e a s
    → MeansBy p e (map_kinds g a) s
MeansBy-map_kinds p e g a s unset each m =
    MeansBy-map p e e (with_kinds g) a s s refl refl refl m.is_state m.assigned (λ x. refl)
    (λ x. FrameKeeps-kinds e e g x unset each) m

proved_allows : (e : Assigned) (i n identity proved : ℕ) (fixed least greatest : ℤ) (v : Value)
    (b : Bool) → (identity == i) ≡ b
    → (e.offset i +ℤ pos n) ≤ℤ pos e.packet_length
    → AllowsPacket e fixed identity least greatest proved v
    → AllowsPacket e fixed identity least greatest (if b then max proved n else proved) v
proved_allows e i n identity proved fixed least greatest v false is inside h = h
proved_allows e i n identity proved fixed least greatest v true is inside h =
    let same : identity ≡ i = grind (arith, nat_tests) in
    let here : (e.offset identity +ℤ pos n) ≤ℤ pos e.packet_length = rw same inside in
    record {
      points = h.points;
      from = h.from;
      to = h.to;
      inside = λ some. elim (cases_eq proved 0) [
        | inl none ↦ omega (arith, ints, here)
        | inr other ↦ omega (arith, ints, here, h.inside (omega arith))
      ];
    }

Allows-proved : (e : Assigned) (i n : ℕ) → (e.offset i +ℤ pos n) ≤ℤ pos e.packet_length
    → (k : Kind) (v : Value) → Allows e k v → Allows e (proved_kind i n k) v
Allows-proved e i n inside (Packet fixed identity least greatest proved) v h =
    proved_allows e i n identity proved fixed least greatest v (identity == i) refl inside h
Allows-proved e i n inside k v h = h

-- n bytes after the identity's number are in the packet
pub MeansBy-proved : (p : Program) (e : Assigned) (a : State) (s : Machine.State) (i n : ℕ)
    → (e.offset i +ℤ pos n) ≤ℤ pos (length s.packet)
    → MeansBy p e a s → MeansBy p e (map_kinds (proved_kind i n) a) s
MeansBy-proved p e a s i n inside m =
    MeansBy-map_kinds p e (proved_kind i n) a s refl
    (Allows-proved e i n
    (subst (λ l. (e.offset i +ℤ pos n) ≤ℤ pos l) (sym m.assigned.length_is) inside)) m

-- no bytes are proved: a kind stays
pub proved_kind-none : (i : ℕ) (k : Kind) → proved_kind i 0 k ≡ k
proved_kind-none i (Packet fixed identity least greatest proved) =
    elim (identity == i) as (λ b.
    Packet fixed identity least greatest (if b then max proved 0 else proved)
    ≡ Packet fixed identity least greatest proved) [
      | true ↦
          let more : max proved 0 ≡ proved = omega arith in
          ap (Packet fixed identity least greatest) more
      | false ↦ refl
    ]
proved_kind-none i k = refl

-- whether values of the identity are null
abbrev pub IsNull : Option ℕ → Bool → Type 0
IsNull None null = null ≡ true
IsNull (Some n) null = null ≡ false

tested_allows : (e : Assigned) (m : ℕ) (o : Option ℕ) (null : Bool) (zeros : Scalar) (v : Value)
    → IsNull o null → Has zeros 0 → AllowsOrNull e m o v → Allows e (tested_value null zeros m) v
tested_allows e m None true zeros v is has h = (0, h, has)
tested_allows e m None false zeros v is has h = absurd (cc)
tested_allows e m (Some n) true zeros v is has h = absurd (cc)
tested_allows e m (Some n) false zeros v is has h =
    record {
      serial = n;
      offset = pos 0;
      points = h.0;
      from = omega (arith, ints);
      to = omega (arith, ints);
      live = h.1;
    }

tested_if : (e : Assigned) (i m identity : ℕ) (null : Bool) (zeros : Scalar) (v : Value) (b : Bool)
    → (identity == i) ≡ b
    → IsNull (e.map_value i) null → Has zeros 0 → AllowsOrNull e m (e.map_value identity) v
    → Allows e (if b then tested_value null zeros m else MapValueOrNull m identity) v
tested_if e i m identity null zeros v false is known has h = h
tested_if e i m identity null zeros v true is known has h =
    let same : identity ≡ i = grind (arith, nat_tests) in
    tested_allows e m (e.map_value i) null zeros v known has
    (subst (λ n. AllowsOrNull e m (e.map_value n) v) same h)

Allows-tested : (e : Assigned) (i : ℕ) (null : Bool) (zeros : Scalar) → IsNull (e.map_value i) null
    → Has zeros 0 → (k : Kind) (v : Value) → Allows e k v → Allows e (tested_kind i null zeros k) v
Allows-tested e i null zeros known has (MapValueOrNull m identity) v h =
    tested_if e i m identity null zeros v (identity == i) refl known has h
Allows-tested e i null zeros known has k v h = h

-- values of the identity are null, or point to a live map value
pub MeansBy-tested : (p : Program) (e : Assigned) (a : State) (s : Machine.State) (i : ℕ)
    (null : Bool) (zeros : Scalar) → IsNull (e.map_value i) null
    → Has zeros 0 → MeansBy p e a s → MeansBy p e (map_kinds (tested_kind i null zeros) a) s
MeansBy-tested p e a s i null zeros known has m =
    MeansBy-map_kinds p e (tested_kind i null zeros) a s refl
    (Allows-tested e i null zeros known has) m

-- ---- a map forgotten everywhere

forgotten_or_null : (e : Assigned) (maps : List Content) (m n i : ℕ) (v : Value) (b : Bool)
    → (n == m) ≡ b → KeepsOtherMaps m e.maps maps → Allows e (MapValueOrNull n i) v
    → Allows (with_maps e maps) (kind_in (if b then Written 0 else Spilled (MapValueOrNull n i))) v
forgotten_or_null e maps m n i v true is keeps h = tt
forgotten_or_null e maps m n i v false is keeps h =
    let other : n ≢ m = grind (arith, nat_tests) in
    null_kept e maps m n (e.map_value i) v other keeps h

forgotten_map_value : (e : Assigned) (maps : List Content) (m n : ℕ) (l g : ℤ) (v : Value)
    (b : Bool)
    → (n == m) ≡ b → KeepsOtherMaps m e.maps maps → Allows e (MapValue n l g) v
    → Allows (with_maps e maps) (kind_in (if b then Written 0 else Spilled (MapValue n l g))) v
forgotten_map_value e maps m n l g v true is keeps h = tt
forgotten_map_value e maps m n l g v false is keeps h =
    let other : n ≢ m = grind (arith, nat_tests) in
    record {
      serial = h.serial;
      offset = h.offset;
      points = h.points;
      from = h.from;
      to = h.to;
      live = keeps n h.serial other h.live;
    }

Allows-forgotten : (e : Assigned) (maps : List Content) (m : ℕ) (k : Kind) (v : Value)
    → KeepsOtherMaps m e.maps maps → Allows e k v
    → Allows (with_maps e maps) (forgotten_register m k) v
Allows-forgotten e maps m (MapValue n l g) v keeps h =
    forgotten_map_value e maps m n l g v (n == m) refl keeps h
Allows-forgotten e maps m (MapValueOrNull n i) v keeps h =
    forgotten_or_null e maps m n i v (n == m) refl keeps h
Allows-forgotten e maps m (Packet f i l g p) v keeps h =
    record { points = h.points; from = h.from; to = h.to; inside = h.inside }
Allows-forgotten e maps m k v keeps h = h

FrameKeeps-forgotten : (e : Assigned) (maps : List Content) (m : ℕ) (x : AbstractFrame)
    → KeepsOtherMaps m e.maps maps → FrameKeeps e (with_maps e maps) x (forgotten_frame m x)
FrameKeeps-forgotten e maps m x keeps = record {
  registers =
      λ k v h.
      subst (λ l. Allows (with_maps e maps) l v)
      (sym (get_or-map_default (forgotten_register m) x.registers k Unset))
      (Allows-forgotten e maps m (kind_at x.registers k) v keeps h);
  slots =
      λ k cs inside h.
      subst (λ t. SlotMeans (with_maps e maps) t cs)
      (sym (get_or-map_default (forgotten_slot m) x.stack.slots k (Written 0)))
      (SlotMeans-forgotten e maps m (slot_at x.stack.slots k) cs keeps h);
}

-- whatever becomes of the values of the map
pub MeansBy-forgets : (p : Program) (e : Assigned) (a : State) (s : Machine.State) (m : ℕ)
    (maps : List Content) → KeepsOtherMaps m s.maps maps
    → IsState p (record s { maps = maps }) → MeansBy p e a s
    → MeansBy p (with_maps e maps) (forgotten_in m a) (record s { maps = maps })
MeansBy-forgets p e a s m maps keeps is means =
    let of = means.assigned in
    let kept : KeepsOtherMaps m e.maps maps =
    subst (λ l. KeepsOtherMaps m l maps) (sym of.contents) keeps in
    MeansBy-map p e (with_maps e maps) (forgotten_frame m) a s
    (record s { maps = maps }) refl refl refl is
    (record { none = of.none; length_is = of.length_is; serials = of.serials; contents = refl })
    (λ x. refl)
    (λ x. FrameKeeps-forgotten e maps m x kept) means
