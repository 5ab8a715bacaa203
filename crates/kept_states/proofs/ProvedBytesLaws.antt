-- Where no bytes are proved, nothing changes.
use Rattle.kept_states.proofs.Common.{◌≡◌, ◌∙◌, ℕ, List, Bool, true, false, map, max, refl, ap, get_or, arith, ◌==◌, if◌then◌else◌, Kind, Packet, StackSlot, Written, Spilled, AbstractFrame, State, proved_kind, with_spilled, with_kinds, map_kinds, ProvedBytes, with_proved}
use Rattle.stack_state.proofs.KindEffects.{proved_kind-none}
use Rattle.kept_states.proofs.SameMaps.{map-fixed}

slot_fixed : (g : Kind → Kind) → ((k : Kind) → g k ≡ k) → (t : StackSlot) → with_spilled g t ≡ t
slot_fixed g fixed (Written marks) = refl
slot_fixed g fixed (Spilled k) = ap Spilled (fixed k)

frame_fixed : (g : Kind → Kind) → ((k : Kind) → g k ≡ k) → (f : AbstractFrame)
    → with_kinds g f ≡ f
frame_fixed g fixed f =
    ap (λ (ks : List Kind). record f {
      registers = ks;
      stack = record { slots = map (with_spilled g) f.stack.slots };
    })
    (map-fixed g f.registers (λ d k h. fixed (get_or f.registers k d)))
    ∙ ap (λ (ts : List StackSlot). record f { stack = record { slots = ts } })
    (map-fixed (with_spilled g) f.stack.slots
    (λ d k h. slot_fixed g fixed (get_or f.stack.slots k d)))

state_fixed : (g : Kind → Kind) → ((k : Kind) → g k ≡ k) → (s : State) → map_kinds g s ≡ s
state_fixed g fixed s =
    ap (λ (fs : List AbstractFrame). record s {
      callers = record { items = fs };
      innermost = with_kinds g s.innermost;
    })
    (map-fixed (with_kinds g) s.callers.items
    (λ d k h. frame_fixed g fixed (get_or s.callers.items k d)))
    ∙ ap (λ (f : AbstractFrame). record s { innermost = f }) (frame_fixed g fixed s.innermost)

pub with_nothing : (known : ProvedBytes) (s : State) → known.bytes ≡ 0 → with_proved known s ≡ s
with_nothing known s none =
    ap (λ (n : ℕ). map_kinds (proved_kind known.identity n) s) none
    ∙ state_fixed (proved_kind known.identity 0) (proved_kind-none known.identity) s
