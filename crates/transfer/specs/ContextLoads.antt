-- The results of loads of the context's fields. Linux, struct xdp_md.
use Rattle.std.specs.Prelude.{◌≡◌, ◌⊎◌, ℤ, pos, Result, Ok, Err}
use Rattle.isa_model.specs.declared.sizes.Size.{Size}
use Rattle.isa_model.specs.declared.sizes.Size.TheVariants.{U32}
use Rattle.reg_state.specs.declared.kinds.Kind.{Kind}
use Rattle.reg_state.specs.declared.kinds.Kind.TheVariants.{Packet, PacketEnd}
use Rattle.transfer.specs.Results.{IsNumber32}
use Rattle.transfer.specs.declared.refusals.Refusal.{Refusal}
use Rattle.transfer.specs.declared.refusals.Refusal.TheVariants.{ContextAccess}

-- a pointer to the packet's first byte: without a variable part, and with nothing proved
abbrev pub packet_start : Kind
packet_start = Packet (pos 0) 0 (pos 0) (pos 0) 0

-- data, data_end, ingress_ifindex and rx_queue_index
abbrev pub IsField : ℤ → Type 0
IsField at = (at ≡ pos 0) ⊎ ((at ≡ pos 4) ⊎ ((at ≡ pos 12) ⊎ (at ≡ pos 16)))

-- what is known of the field there
pub record IsFieldKind (at : ℤ) (k : Kind) : Type 0 where
  pub field : IsField at
  pub packet : at ≡ pos 0 → k ≡ packet_start
  pub packet_end : at ≡ pos 4 → k ≡ PacketEnd
  pub interface : at ≡ pos 12 → IsNumber32 k
  pub queue : at ≡ pos 16 → IsNumber32 k

abbrev pub FieldLoads : ℤ → Result Kind Refusal → Type 0
FieldLoads at (Ok k) = IsFieldKind at k
FieldLoads at (Err e) = (e ≡ ContextAccess) × ¬ IsField at

-- each field is loaded by a load of 4 bytes, and nothing else can be loaded
abbrev pub ContextLoads : Size → ℤ → Result Kind Refusal → Type 0
ContextLoads U32 at result = FieldLoads at result
ContextLoads size at result = result ≡ Err ContextAccess
