-- Forms that set a register: the successor with the kind in that register means the machine's
-- next state.
use Rattle.transfer.proofs.Common.{◌≡◌, ◌≢◌, ℕ, ◌+◌, pos, false, length, Some, Result, Ok, Err, sym, ap, subst, arith, refl, list_any, or_parts, get_or-set_same, Width, Reg, R10, Mov, Insn, Alu, Neg, MovSx, ByteSwap, LoadNumber, LoadMap, LoadMapValue, Load, LoadSx, Value, TrapReason, unsigned, negated, sign_extended, reordered, Program, slots_filled, operand_reads, alu_reads, reads, writes, NamesRows, arithmetic, on_number, reg, set_reg, load, load_signed, map_pointer, value_pointer, operand_value, base_of, sets, act, is_unset, IsState, IsValue, unsigned_fits, reg_fits, Kind, Assigned, Allows, State, MeansBy, Means, kind_of, with_register, go_to, reg_allowed, MeansBy-go_to, MeansBy-set, IsJust, Ways, InSome, OperandKind, ResultKind, SetsRegister}
use Rattle.isa_model.specs.declared.instructions.AluOp.{AluOp}
use Rattle.isa_model.specs.declared.instructions.Operand.{Operand}
use Rattle.isa_model.specs.declared.instructions.Operand.TheVariants.{Constant, Register}
use Rattle.isa_model.specs.declared.values.Value.TheVariants as value
use Rattle.isa_model.specs.Code.Registers.{reg_number}
use Rattle.isa_model.specs.Code.Spelling.{InsnFits, OperandFits}
use Rattle.isa_model.specs.Machine.States as Machine
use Rattle.isa_model.specs.Running.Ends.{After}
use Rattle.isa_model.proofs.EndsLaws.{After-weaker}
use Rattle.isa_model.proofs.StepLaws.{IfNext}
use Rattle.isa_model.proofs.RegisterLaws.{reg_number-below}
use Rattle.reg_state.specs.declared.kinds.Kind.TheVariants as kind
use Rattle.reg_state.specs.Arithmetic.{IsNegated, IsReordered, IsSignExtended}
use Rattle.transfer.specs.declared.Ways.TheVariants as ways
use Rattle.transfer.proofs.RegisterLaws.{unset_in}
use Rattle.transfer.proofs.ResultLaws.{Yields, YieldsUnder, on_number_yields}
use Rattle.transfer.proofs.ArithmeticLaws.{arithmetic_yields}
use Rattle.transfer.proofs.ValuePointerLaws.{value_pointer_allowed}
use Rattle.transfer.proofs.AccessLaws.{load_yields, load_signed_yields}

-- ---- operands

operand_allowed : (p : Program) (e : Assigned) (a : State) (s : Machine.State) (w : Width)
    (source : Operand) (b : Kind) → MeansBy p e a s
    → OperandKind a w source b → Allows e b (operand_value s w source)
operand_allowed p e a s w (Constant k) (kind.Number c) m h = (unsigned w k, refl, h.0)
operand_allowed p e a s w (Constant k) b m h = absurd h
operand_allowed p e a s w (Register r) b m h =
    subst (λ x. Allows e x (reg s r)) (sym h) (reg_allowed p e a s m r)

operand_fits : (p : Program) (s : Machine.State) (w : Width) (source : Operand) → OperandFits source
    → IsState p s → IsValue (length p.maps) s.next_serial (operand_value s w source)
operand_fits p s w (Constant k) fits is = unsigned_fits w k fits
operand_fits p s w (Register r) fits is = reg_fits p s r is

operand_set : (s : Machine.State) (w : Width) (source : Operand)
    → list_any (unset_in s) (operand_reads source) ≡ false
    → is_unset (operand_value s w source) ≡ false
operand_set s w (Constant k) h = refl
operand_set s w (Register r) h = (or_parts (unset_in s r) false h).0

alu_operand_set : (s : Machine.State) (w : Width) (op : AluOp) (d : Reg) (source : Operand)
    → list_any (unset_in s) (alu_reads op d source) ≡ false
    → is_unset (operand_value s w source) ≡ false
alu_operand_set s w Mov d source h = operand_set s w source h
alu_operand_set s w op d source h =
    operand_set s w source
    (or_parts (unset_in s d) (list_any (unset_in s) (operand_reads source)) h).1

-- ---- registers set

yields_in : (p : Program) (e : Assigned) (a : State) (s : Machine.State) (k : Kind)
    (r : Result Value TrapReason) → MeansBy p e a s → Yields e k r → YieldsUnder p a s k r
yields_in p e a s k r m yields = (e, m, yields)

-- a constant is allowed
pub just_allowed : (e : Assigned) (k : Kind) (n : ℕ) → IsJust k n → Allows e k (value.Num n)
just_allowed e (kind.Number c) n h = (n, refl, h.0)
just_allowed e k n h = absurd h

-- what a form sets its register to is allowed by the kind of the result
puts_yields : (p : Program) (clock : ℕ → ℕ) (e : Assigned) (a : State) (s : Machine.State)
    (i : Insn) (d : Reg) (k : Kind) → InsnFits i
    → MeansBy p e a s → list_any (unset_in s) (reads i) ≡ false → writes i ≡ Some d
    → NamesRows p.maps i → ResultKind p.maps a i (Ok k)
    → (r : Result Value TrapReason) × (act p clock s i ≡ sets s i d r) × YieldsUnder p a s k r
unfolding act
puts_yields p clock e a s (Alu w op x source) d k fits m set written names h =
    let same : x ≡ d = cc in
    let (b, operand, gives) = h in
    let result : Result Value TrapReason = arithmetic op w (reg s x) (operand_value s w source) in (
      result,
      ap (λ y. sets s (Alu w op x source) y result) same,
      arithmetic_yields p e a s op w (kind_of a x) b k (reg s x) (operand_value s w source) m gives
          (operand_fits p s w source fits m.is_state) (alu_operand_set s w op x source set)
          (reg_allowed p e a s m x) (operand_allowed p e a s w source b m operand),
    )
puts_yields p clock e a s (Neg w x) d k fits m set written names h =
    let same : x ≡ d = cc in (
      on_number (negated w) (reg s x),
      ap (λ y. sets s (Neg w x) y (on_number (negated w) (reg s x))) same,
      yields_in p e a s k _ m
          (on_number_yields e (negated w) (IsNegated w) (kind_of a x) k (reg s x)
          (λ b c is. is.contains) h
          (reg_allowed p e a s m x)),
    )
puts_yields p clock e a s (MovSx by x r) d k fits m set written names h =
    let same : x ≡ d = cc in (
      on_number (sign_extended by) (reg s r),
      ap (λ y. sets s (MovSx by x r) y (on_number (sign_extended by) (reg s r))) same,
      yields_in p e a s k _ m
          (on_number_yields e (sign_extended by) (IsSignExtended by) (kind_of a r) k (reg s r)
          (λ b c is. is.contains) h
          (reg_allowed p e a s m r)),
    )
puts_yields p clock e a s (ByteSwap order span x) d k fits m set written names h =
    let same : x ≡ d = cc in (
      on_number (reordered order span) (reg s x),
      ap (λ y. sets s (ByteSwap order span x) y (on_number (reordered order span) (reg s x))) same,
      yields_in p e a s k _ m
          (on_number_yields e (reordered order span) (IsReordered order span) (kind_of a x) k
          (reg s x) (λ b c is. is.contains) h
          (reg_allowed p e a s m x)),
    )
puts_yields p clock e a s (LoadNumber x n) d k fits m set written names h =
    let same : x ≡ d = cc in
    let (b, just, is) = h in
    let kind_is : k ≡ b = cc in (
      Ok (value.Num n),
      ap (λ y. sets s (LoadNumber x n) y (Ok (value.Num n))) same,
      yields_in p e a s k (Ok (value.Num n)) m (rw kind_is (just_allowed e b n just)),
    )
puts_yields p clock e a s (LoadMap x j) d k fits m set written names h =
    let same : x ≡ d = cc in
    let kind_is : k ≡ kind.Map j = cc in (
      Ok (map_pointer j),
      ap (λ y. sets s (LoadMap x j) y (Ok (map_pointer j))) same,
      yields_in p e a s k (Ok (map_pointer j)) m (rw kind_is refl),
    )
puts_yields p clock e a s (LoadMapValue x j offset) d k fits m set written names h =
    let same : x ≡ d = cc in
    let kind_is : k ≡ kind.MapValue j (pos offset) (pos offset) = cc in (
      Ok (value_pointer s j offset),
      ap (λ y. sets s (LoadMapValue x j offset) y (Ok (value_pointer s j offset))) same,
      yields_in p e a s k (Ok (value_pointer s j offset)) m
          (rw kind_is (value_pointer_allowed p e a s j offset m names)),
    )
puts_yields p clock e a s (Load size x place) d k fits m set written names h =
    let same : x ≡ d = cc in
    let result : Result Value TrapReason = load s size (base_of s place) place.offset in (
      result,
      ap (λ y. sets s (Load size x place) y result) same,
      yields_in p e a s k result m
          (load_yields p e a s size (kind_of a place.base) k place.offset (base_of s place) m h
          (reg_allowed p e a s m place.base)),
    )
puts_yields p clock e a s (LoadSx size x place) d k fits m set written names h =
    let same : x ≡ d = cc in
    let result : Result Value TrapReason = load_signed s size (base_of s place) place.offset in (
      result,
      ap (λ y. sets s (LoadSx size x place) y result) same,
      yields_in p e a s k result m
          (load_signed_yields p e a s size (kind_of a place.base) k place.offset
          (base_of s place) m h (reg_allowed p e a s m place.base)),
    )
puts_yields p clock e a s i d k fits m set written names h = absurd h

-- where a kind allows the value that is put into a register, the machine's next state is a member
-- of the state with that kind in the register
sets_goes : (p : Program) (clock : ℕ → ℕ) (e : Assigned) (a : State) (s : Machine.State) (i : Insn)
    (d : Reg) (k : Kind) (r : Result Value TrapReason)
    → IfNext (act p clock s i) (IsState p) → MeansBy p e a s → d ≢ R10
    → act p clock s i ≡ sets s i d r → Yields e k r
    → After (MeansBy p e (go_to (with_register a d k) (a.slot + slots_filled i))) (act p clock s i)
sets_goes p clock e a s i d k (Ok v) keeps m own is yields =
    let n : ℕ = s.slot + slots_filled i in
    let t : Machine.State = Machine.go_to (set_reg s d v) n in
    let t_is : IsState p t = subst (λ r. IfNext r (IsState p)) is keeps in
    let eleven = m.is_state.registers in
    let within = reg_number-below d in
    let held : reg t d ≡ v = get_or-set_same s.regs (reg_number d) v value.Unset (omega arith) in
    let v_fits : IsValue (length p.maps) s.next_serial v =
    subst (IsValue (length p.maps) s.next_serial) held (reg_fits p t d t_is) in
    let put = MeansBy-set p e a s d k v own yields v_fits m in
    let gone = MeansBy-go_to p e (with_register a d k) (set_reg s d v) n t_is.slot put in
    subst (After (MeansBy p e (go_to (with_register a d k) (a.slot + slots_filled i)))) (sym is)
    (subst (λ m. MeansBy p e (go_to (with_register a d k) (m + slots_filled i)) t) m.slot_is gone)
sets_goes p clock e a s i d k (Err reason) keeps m own is yields = absurd yields

-- the one successor's meaning
pub one_means : (p : Program) (e : Assigned) (w : Ways) (b c next : State) (t : Machine.State)
    → w ≡ ways.One → b ≡ next → MeansBy p e next t → InSome p w b c t
unfolding Means
one_means p e w b c next t one is m =
    subst (λ x. InSome p x b c t) (sym one) (e, subst (λ y. MeansBy p e y t) (sym is) m)

pub sets_in : (p : Program) (clock : ℕ → ℕ) (e : Assigned) (a : State) (s : Machine.State)
    (i : Insn) (w : Ways) (b c : State)
    → InsnFits i → NamesRows p.maps i → IfNext (act p clock s i) (IsState p) → MeansBy p e a s
    → list_any (unset_in s) (reads i) ≡ false
    → w ≡ ways.One → SetsRegister p.maps a i b → After (InSome p w b c) (act p clock s i)
sets_in p clock e a s i w b c fits names keeps m set one h =
    let (r, is, y) =
    puts_yields p clock e a s i h.register h.kind fits m set h.written names h.puts in
    let next : State = go_to (with_register a h.register h.kind) (a.slot + slots_filled i) in
    After-weaker (MeansBy p y.0 next) (InSome p w b c) (act p clock s i)
    (λ t means. one_means p y.0 w b c next t one h.next means)
    (sets_goes p clock y.0 a s i h.register h.kind r keeps y.1 h.own is y.2)
