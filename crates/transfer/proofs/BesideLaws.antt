-- Steps that leave the callers of a state as they are: there is one successor, whatever stands in
-- place of a second one.
use Rattle.transfer.proofs.Common.{◌≡◌, Bool, true, false, Ok, IsTrue, ap, refl, Insn, Alu, Neg, MovSx, ByteSwap, LoadNumber, LoadMap, LoadMapValue, Load, LoadSx, StoreConstant, Store, Atomic, Exchange, CompareExchange, Jump, JumpLong, JumpIf, CallHelper, CallLocal, Exit, Program, writes, is_frame_pointer, State, Ways, UnsetRegister, ReadOnlyRegister, reads_unset, SetsOrRefuses, StepsForm, Steps, keeps_callers, beside}
use Rattle.transfer.proofs.ExactLaws.{tested_rest}

-- ---- forms that set a register, or jump always

sets_callers : (p : Program) (a : State) (i : Insn) (w : Ways) (b : State)
    → SetsOrRefuses p.maps a i (Ok w) b → b.callers ≡ a.callers
sets_callers p a i w b (one, sets) = ap (λ (x : State). x.callers) sets.next

form_one : (p : Program) (a : State) (i : Insn) (w : Ways) (b c d : State)
    → IsTrue (keeps_callers i) → StepsForm p a i (Ok w) b c
    → (b.callers ≡ a.callers) × StepsForm p a i (Ok w) b d
form_one p a (Jump by) w b c d keeps h = (ap (λ (x : State). x.callers) h.1, h)
form_one p a (JumpLong by) w b c d keeps h = (ap (λ (x : State). x.callers) h.1, h)
form_one p a (StoreConstant size place k) w b c d keeps h = absurd (cc)
form_one p a (Store size place r) w b c d keeps h = absurd (cc)
form_one p a (Atomic x op fetched place r) w b c d keeps h = absurd (cc)
form_one p a (Exchange x place r) w b c d keeps h = absurd (cc)
form_one p a (CompareExchange x place r) w b c d keeps h = absurd (cc)
form_one p a (JumpIf cond by) w b c d keeps h = absurd (cc)
form_one p a (CallLocal by) w b c d keeps h = absurd (cc)
form_one p a (CallHelper number) w b c d keeps h = absurd (cc)
form_one p a Exit w b c d keeps h = absurd (cc)
form_one p a (Alu x op r source) w b c d keeps h = (sets_callers p a (Alu x op r source) w b h, h)
form_one p a (Neg x r) w b c d keeps h = (sets_callers p a (Neg x r) w b h, h)
form_one p a (MovSx e r s) w b c d keeps h = (sets_callers p a (MovSx e r s) w b h, h)
form_one p a (ByteSwap order span r) w b c d keeps h = (sets_callers p a (ByteSwap order span r) w b h, h)
form_one p a (LoadNumber r n) w b c d keeps h = (sets_callers p a (LoadNumber r n) w b h, h)
form_one p a (LoadMap r m) w b c d keeps h = (sets_callers p a (LoadMap r m) w b h, h)
form_one p a (LoadMapValue r m offset) w b c d keeps h = (sets_callers p a (LoadMapValue r m offset) w b h, h)
form_one p a (Load size r place) w b c d keeps h = (sets_callers p a (Load size r place) w b h, h)
form_one p a (LoadSx size r place) w b c d keeps h = (sets_callers p a (LoadSx size r place) w b h, h)

-- the callers stay, and nothing is said of a second successor
pub Steps-one : (p : Program) (a : State) (i : Insn) (w : Ways) (b c d : State)
    → IsTrue (keeps_callers i) → Steps p a i (Ok w) b c
    → (b.callers ≡ a.callers) × Steps p a i (Ok w) b d
Steps-one p a i w b c d keeps h =
    let (known, own, performs) =
    tested_rest (reads_unset a i) (is_frame_pointer (writes i)) UnsetRegister ReadOnlyRegister w
    (StepsForm p a i (Ok w) b c) h in
    let (callers, other) = form_one p a i w b c d keeps performs in
    (callers, rw (known, own) other)

-- whether they stay or not, the second successor is that one
pub Steps-beside : (p : Program) (a : State) (i : Insn) (w : Ways) (b c : State)
    → Steps p a i (Ok w) b c → Steps p a i (Ok w) b (beside (keeps_callers i) b c)
Steps-beside p a i w b c h = of (keeps_callers i) refl
  where
    of : (keeps : Bool) → keeps_callers i ≡ keeps → Steps p a i (Ok w) b (beside keeps b c)
    of true is = (Steps-one p a i w b c (beside true b c) is h).1
    of false is = h
