-- The kinds that loads return allow the machine's values, and the states that stores leave mean its
-- next state.
use Rattle.transfer.proofs.Common.{ℤ, length, Ok, sym, subst, Size, SignedSize, Value, Program, load, load_signed, store, IsValue, store_keeps, Kind, Context, Stack, Packet, MapValue, Assigned, Allows, State, MeansBy}
use Rattle.isa_model.specs.Machine.States as Machine
use Rattle.transfer.proofs.ResultLaws.{Yields}
use Rattle.transfer.specs.Accesses.{LoadsKind, LoadsSigned, StoresKind}
use Rattle.transfer.proofs.PacketLaws.{context_load_yields, packet_load_yields, packet_load_signed_yields, packet_store_leaves}
use Rattle.transfer.proofs.ValueLaws.{GoesIntoSome, value_load_yields, value_load_signed_yields, value_store_goes}
use Rattle.transfer.proofs.StackAccessLaws.{ContinuesIn, ContinuesIn-left, stack_load_yields, stack_load_signed_yields, stack_store_goes}

-- where a load is not refused, its value is there, and the kind allows it
pub load_yields : (p : Program) (e : Assigned) (a : State) (s : Machine.State) (size : Size)
    (base k : Kind) (by : ℤ) (v : Value) → MeansBy p e a s
    → LoadsKind p.maps a size base by (Ok k) → Allows e base v → Yields e k (load s size v by)
load_yields p e a s size Context k by v m h allowed =
    context_load_yields e s size by k v h m.assigned m.is_state.interface m.is_state.queue allowed
load_yields p e a s size (Stack frame offset) k by v m h allowed =
    stack_load_yields p e a s frame offset by size k v m allowed h
load_yields p e a s size (Packet fixed identity least greatest proved) k by v m h allowed =
    packet_load_yields p e s size fixed least greatest identity proved by k v m.is_state m.assigned
    h allowed
load_yields p e a s size (MapValue j least greatest) k by v m h allowed =
    value_load_yields p e a s size j least greatest by k v m h allowed
load_yields p e a s size base k by v m h allowed = absurd (cc)

pub load_signed_yields : (p : Program) (e : Assigned) (a : State) (s : Machine.State)
    (size : SignedSize) (base k : Kind) (by : ℤ) (v : Value) → MeansBy p e a s
    → LoadsSigned p.maps a size base by (Ok k) → Allows e base v
    → Yields e k (load_signed s size v by)
load_signed_yields p e a s size (Stack frame offset) k by v m h allowed =
    stack_load_signed_yields p e a s frame offset by size k v m allowed h
load_signed_yields p e a s size (Packet fixed identity least greatest proved) k by v m h allowed =
    packet_load_signed_yields p e s size fixed least greatest identity proved by k v m.is_state
    m.assigned h allowed
load_signed_yields p e a s size (MapValue j least greatest) k by v m h allowed =
    value_load_signed_yields p e a s size j least greatest by k v m h allowed
load_signed_yields p e a s size base k by v m h allowed = absurd (cc)

-- where a store is not refused, the machine does not trap, and the state that is left means its
-- next state
pub store_goes : (p : Program) (e : Assigned) (a : State) (s : Machine.State) (size : Size)
    (base source : Kind) (by : ℤ) (v u : Value) (b : State) → MeansBy p e a s
    → StoresKind p.maps a size base by source b (Ok tt) → Allows e base v → Allows e source u
    → IsValue (length p.maps) s.next_serial u → GoesIntoSome p b (store s size v by u)
store_goes p e a s size (Stack frame offset) source by v u b m h allowed stored fits =
    (e, stack_store_goes p e a s frame offset by size source v u b m allowed stored fits h)
store_goes p e a s size
    (Packet fixed identity least greatest proved) source by v u b m h allowed stored fits = (
      e,
      subst (λ c. ContinuesIn p e c (store s size v by u)) (sym h.0)
          (ContinuesIn-left p e a (store s size v by u)
          (packet_store_leaves p e a s size fixed least greatest identity proved by source v u h.1
          allowed stored m)
          (store_keeps p s size v by u fits m.is_state)),
    )
store_goes p e a s size (MapValue j least greatest) source by v u b m h allowed stored fits =
    subst (λ c. GoesIntoSome p c (store s size v by u)) (sym h.0)
    (value_store_goes p e a s size j least greatest by source v u m h.1 allowed stored)
store_goes p e a s size base source by v u b m h allowed stored fits =
    absurd (let refused = h.1 in cc)
