-- What is written into the packet keeps the meaning of an abstract state, which knows no more of
-- the packet than its length.
use Rattle.stack_state.proofs.Common.{◌≡◌, ℕ, List, length, sym, ◌∙◌, refl, Program, IsState, Assigned, State, MeansBy}
use Rattle.isa_model.specs.Machine.States as Machine
use Rattle.stack_state.proofs.MeaningLaws.{MeansBy-onto}

-- the packet has other bytes, and the same number of them
pub MeansBy-packet : (p : Program) (e : Assigned) (a : State) (s : Machine.State) (bytes : List ℕ)
    → length bytes ≡ length s.packet → IsState p (record s { packet = bytes }) → MeansBy p e a s
    → MeansBy p e a (record s { packet = bytes })
MeansBy-packet p e a s bytes long is m =
    MeansBy-onto p e e a a s (record s { packet = bytes }) refl refl refl is
    (record {
      none = m.assigned.none;
      length_is = m.assigned.length_is ∙ sym long;
      serials = m.assigned.serials;
      contents = m.assigned.contents;
    })
    refl refl (λ j below. record { registers = λ k v h. h; slots = λ k cs inside h. h }) m
