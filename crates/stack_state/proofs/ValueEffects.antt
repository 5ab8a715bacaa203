-- Map values that stay live keep the meaning of an abstract state, which knows nothing of their
-- bytes.
use Rattle.stack_state.proofs.Common.{◌≡◌, ℕ, List, Option, Some, None, IfSome, slice_get, sym, subst, refl, Cell, Program, Content, IsState, Kind, Assigned, HasLiveValue, StackSlot, Written, Spilled, State, kind_at, kinds_of, stack_slots_of, MeansBy, slot_at, SlotMeans, with_maps}
use Rattle.isa_model.specs.Machine.States as Machine
use Rattle.reg_state.specs.KindCover.{packet_identity_of, null_identity_of}
use Rattle.reg_state.proofs.KindLaws.{frame_of as frame_in, map_of, KeepsAssigned, Allows-kept}
use Rattle.stack_state.proofs.StackLaws.{SlotMeans-spilled}
use Rattle.stack_state.proofs.MeaningLaws.{MeansBy-onto}

-- the live map values stay live
abbrev pub KeepsLive : List Content → List Content → Type 0
KeepsLive before after = (m n : ℕ) → HasLiveValue before m n → HasLiveValue after m n

each_some : (o : Option ℕ) (P : ℕ → Type 0) → ((j : ℕ) → P j) → IfSome o P
each_some None P h = tt
each_some (Some j) P h = h j

KeepsAssigned-live : (k : Kind) (e : Assigned) (maps : List Content) → KeepsLive e.maps maps
    → KeepsAssigned k e (with_maps e maps)
KeepsAssigned-live k e maps keeps = record {
  offsets = each_some (packet_identity_of k) (λ i. e.offset i ≡ e.offset i) (λ i. refl);
  map_values = each_some (null_identity_of k) (λ i. e.map_value i ≡ e.map_value i) (λ i. refl);
  packet_lengths = refl;
  serials = each_some (frame_in k) (λ j. slice_get e.frames j ≡ slice_get e.frames j) (λ j. refl);
  live =
      each_some (map_of k) (λ m. (n : ℕ) → HasLiveValue e.maps m n → HasLiveValue maps m n) keeps;
}

SlotMeans-live : (e : Assigned) (maps : List Content) (t : StackSlot) (cs : List Cell)
    → KeepsLive e.maps maps → SlotMeans e t cs → SlotMeans (with_maps e maps) t cs
SlotMeans-live e maps (Written marks) cs keeps h = h
SlotMeans-live e maps (Spilled k) cs keeps h =
    SlotMeans-spilled e (with_maps e maps) k k cs
    (λ v. Allows-kept k e (with_maps e maps) v (KeepsAssigned-live k e maps keeps)) h

-- the maps have other contents, in which all live map values are live, whatever serials and
-- answers of the clock were given
pub MeansBy-given : (p : Program) (e : Assigned) (a : State) (s : Machine.State)
    (maps : List Content) (next calls : ℕ) → KeepsLive s.maps maps
    → IsState p (record s { maps = maps; clock_calls = calls; next_serial = next })
    → MeansBy p e a s → MeansBy p (with_maps e maps) a
    (record s { maps = maps; clock_calls = calls; next_serial = next })
MeansBy-given p e a s maps next calls keeps is m =
    let of = m.assigned in
    let kept : KeepsLive e.maps maps = subst (λ l. KeepsLive l maps) (sym of.contents) keeps in
    MeansBy-onto p e (with_maps e maps) a a s
    (record s { maps = maps; clock_calls = calls; next_serial = next }) refl refl refl is
    (record { none = of.none; length_is = of.length_is; serials = of.serials; contents = refl })
    refl refl
    (λ j below. record {
      registers =
          λ k v h.
          Allows-kept (kind_at (kinds_of a j) k) e (with_maps e maps) v
          (KeepsAssigned-live (kind_at (kinds_of a j) k) e maps kept) h;
      slots = λ k cs inside h. SlotMeans-live e maps (slot_at (stack_slots_of a j) k) cs kept h;
    }) m

-- the same, where only the contents changed
pub MeansBy-values : (p : Program) (e : Assigned) (a : State) (s : Machine.State)
    (maps : List Content) → KeepsLive s.maps maps
    → IsState p (record s { maps = maps }) → MeansBy p e a s
    → MeansBy p (with_maps e maps) a (record s { maps = maps })
MeansBy-values p e a s maps keeps is m =
    MeansBy-given p e a s maps s.next_serial s.clock_calls keeps is m
