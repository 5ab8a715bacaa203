-- Abstract steps on numbers: what is left, and that they are not refused.
use Rattle.walks.proofs.Common.{◌≡◌, ◌<◌, ◌∷◌, ℕ, None, Ok, Err, Bool, true, false, List, length, arith, refl, sym, ap, ◌∙◌, subst, inl, inr, ◌≢◌, length-set, get_or-set_same, MapDef, Low32, Full64, Reg, R0, R10, reg_number, AluOp, Mov, Cond, Operand, Constant, Register, Insn, Alu, Neg, MovSx, ByteSwap, LoadNumber, Jump, JumpLong, JumpIf, Exit, Program, operand_reads, alu_reads, reads, writes, is_frame_pointer, destination, unsigned, IsPlainForm, Each, needs, Kind, Unset, Number, Scalar, State, depth, registers_of, kind_of, with_register, go_to, same_or_other, kind_of-registers, kind_of-with_same, kind_of-with_other, IsNumberKind, IsJust, IsNumberOperand, AreCompared, Refines, Ways, Refusal, UnsetRegister, ReadOnlyRegister, register_refusal, reads_unset, OfNumber, NumberAnd, Combined, Copied, Arithmetic, OperandKind, ResultKind, SetsRegister, Sides, Branches, StepsForm, Tested, StepsToWays, RefusesStep, IsAmong}
use Rattle.isa_model.specs.declared.sizes.Width.{Width}
use Rattle.branch_refine.specs.Comparing.{operand_by, IsDefined}
use Rattle.branch_refine.specs.Numbers.{with_operand}
use Rattle.transfer.specs.declared.Ways.TheVariants as ways
use Rattle.transfer.proofs.ExactLaws.{tested_rest}
use Rattle.walks.proofs.Accepted.{number_is}
use Rattle.walks.proofs.Exits.{exited_none, ShowsNoAction, exit_goes}

-- ---- what a step makes

-- what an instruction without memory makes of a state, once the tests of its registers have passed
abbrev pub Made : Program → State → Insn → Ways → State → State → Type 0
Made p s (Jump by) w a b = (w ≡ ways.One) × (a ≡ go_to s (destination p s.slot by))
Made p s (JumpLong by) w a b = (w ≡ ways.One) × (a ≡ go_to s (destination p s.slot by))
Made p s (JumpIf c by) w a b = Branches p s c by w a b
Made p s Exit w a b = w ≡ ways.None
Made p s i w a b = (w ≡ ways.One) × SetsRegister p.maps s i a

pub StepsToWays-performs : (p : Program) (s : State) (i : Insn) (w : Ways) (a b : State)
    → StepsToWays p s i w a b → StepsForm p s i (Ok w) a b
StepsToWays-performs p s i w a b h =
    (tested_rest (reads_unset s i) (is_frame_pointer (writes i)) UnsetRegister ReadOnlyRegister w
    (StepsForm p s i (Ok w) a b) h).2

performs_made : (p : Program) (s : State) (i : Insn) (w : Ways) (a b : State) → IsPlainForm i
    → depth s ≡ 1 → StepsForm p s i (Ok w) a b → Made p s i w a b
performs_made p s (Jump by) w a b plain one h = (cc h.0, h.1)
performs_made p s (JumpLong by) w a b plain one h = (cc h.0, h.1)
performs_made p s (JumpIf c by) w a b plain one h = h
performs_made p s Exit w a b plain one h =
    exited_none p.version (length s.callers.items) s a w one h
performs_made p s (Alu v op d source) w a b plain one h = h
performs_made p s (Neg v d) w a b plain one h = h
performs_made p s (MovSx e d r) w a b plain one h = h
performs_made p s (ByteSwap order span d) w a b plain one h = h
performs_made p s (LoadNumber d n) w a b plain one h = h
performs_made p s i w a b plain one h = absurd plain

pub StepsToWays-made : (p : Program) (s : State) (i : Insn) (w : Ways) (a b : State) → IsPlainForm i
    → depth s ≡ 1 → StepsToWays p s i w a b → Made p s i w a b
StepsToWays-made p s i w a b plain one h =
    performs_made p s i w a b plain one (StepsToWays-performs p s i w a b h)

-- ---- registers

pub kind_of-go_to : (a : State) (slot : ℕ) (r : Reg) → kind_of (go_to a slot) r ≡ kind_of a r
kind_of-go_to a slot R10 = refl
kind_of-go_to a slot r = refl

pub below_ten : (r : Reg) → r ≢ R10 → reg_number r < 10
below_ten R10 own = absurd (own refl)
below_ten R0 own = omega arith
below_ten r own = omega arith

pub kind_of-with_own : (a : State) (r : Reg) (k : Kind) → r ≢ R10 → length (registers_of a) ≡ 10
    → kind_of (with_register a r k) r ≡ k
kind_of-with_own a r k own room =
    let below = below_ten r own in
    kind_of-registers (with_register a r k) r own
    ∙ get_or-set_same (registers_of a) (reg_number r) k Unset (omega (arith, below, room))

pub room-with : (a : State) (r : Reg) (k : Kind)
    → length (registers_of (with_register a r k)) ≡ length (registers_of a)
room-with a r k = length-set (registers_of a) (reg_number r) k

-- ---- kinds that are computed

of_number : (says : Scalar → Scalar → Type 0) (a k : Kind) → IsNumberKind a → OfNumber says a (Ok k)
    → IsNumberKind k
of_number says (Number a) (Number c) own h = tt
of_number says (Number a) k own h = absurd h
of_number says a k own h = absurd own

pub just_number : (k : Kind) (n : ℕ) → IsJust k n → IsNumberKind k
just_number (Number c) n h = tt
just_number k n h = absurd h

number_and : (s : State) (op : AluOp) (w : Width) (x y : Scalar) (k : Kind)
    → NumberAnd s op w x (Number y) (Ok k) → IsNumberKind k
number_and s op w x y (Number c) h = tt
number_and s op w x y k h = absurd h

combined_number : (s : State) (op : AluOp) (w : Width) (a b k : Kind) → IsNumberKind a
    → IsNumberKind b → Combined s op w a b (Ok k) → IsNumberKind k
combined_number s op w a b k left right h =
    let (x, is) = number_is a left in
    let (y, is_too) = number_is b right in
    number_and s op w x y k (rw (is, is_too) at h)

copied_number : (w : Width) (b k : Kind) → IsNumberKind b → Copied w b (Ok k) → IsNumberKind k
copied_number Full64 b k right h = let same : k ≡ b = cc h in subst IsNumberKind (sym same) right
copied_number Low32 b k right h = of_number _ b k right h

abbrev pub NumbersIn : State → Reg → Type 0
NumbersIn s r = IsNumberKind (kind_of s r)

operand_number : (s : State) (w : Width) (source : Operand) (b : Kind)
    → Each (NumbersIn s) (operand_reads source) → OperandKind s w source b → IsNumberKind b
operand_number s w (Constant k) b set h = just_number b (unsigned w k) h
operand_number s w (Register r) b set h = subst IsNumberKind (sym h) set.0

arithmetic_number : (s : State) (w : Width) (op : AluOp) (d : Reg) (source : Operand) (b k : Kind)
    → Each (NumbersIn s) (alu_reads op d source)
    → OperandKind s w source b → Arithmetic s op w (kind_of s d) b (Ok k) → IsNumberKind k
arithmetic_number s w Mov d source b k set operand h =
    copied_number w b k (operand_number s w source b set operand) h
arithmetic_number s w op d source b k set operand h =
    combined_number s op w (kind_of s d) b k set.0 (operand_number s w source b set.1 operand) h

pub puts_number : (rows : List MapDef) (s : State) (i : Insn) (k : Kind) → IsPlainForm i
    → Each (NumbersIn s) (reads i) → ResultKind rows s i (Ok k) → IsNumberKind k
puts_number rows s (Alu w op d source) k plain set h =
    arithmetic_number s w op d source h.0 k set h.1 h.2
puts_number rows s (Neg w d) k plain set h = of_number _ (kind_of s d) k set.0 h
puts_number rows s (MovSx e d r) k plain set h = of_number _ (kind_of s r) k set.0 h
puts_number rows s (ByteSwap order span d) k plain set h = of_number _ (kind_of s d) k set.0 h
puts_number rows s (LoadNumber d n) k plain set h =
    let same : k ≡ h.0 = cc (h.2) in subst IsNumberKind (sym same) (just_number h.0 n h.1)
puts_number rows s Exit k plain set h = absurd h
puts_number rows s (Jump by) k plain set h = absurd h
puts_number rows s (JumpLong by) k plain set h = absurd h
puts_number rows s (JumpIf c by) k plain set h = absurd h
puts_number rows s i k plain set h = absurd plain

-- ---- comparisons

pub compared_operand : (s : State) (source : Operand) → Each (NumbersIn s) (operand_reads source)
    → IsNumberOperand s source
compared_operand s (Constant k) set = tt
compared_operand s (Register r) set = set.0

pub are_compared : (s : State) (c : Cond)
    → Each (NumbersIn s) (c.register ∷ operand_reads c.operand) → AreCompared s c
are_compared s c set = (set.0, compared_operand s c.operand set.1)

defined_by : (s : State) (c : Cond) (source : Operand) → IsNumberKind (kind_of s c.register)
    → IsNumberOperand s source → IsDefined (operand_by s c source)
defined_by s c (Constant k) left right =
    let (x, is) = number_is (kind_of s c.register) left in rw is tt
defined_by s c (Register r) left right =
    let (x, is) = number_is (kind_of s c.register) left in
    let (y, is_too) = number_is (kind_of s r) right in
    rw (is, is_too) tt

-- what a comparison of numbers leaves on a side
pub record Remains (s t : State) : Type 0 where
  pub slot : t.slot ≡ s.slot
  pub callers : t.callers ≡ s.callers
  pub stack : t.innermost.stack ≡ s.innermost.stack
  pub room : length (registers_of t) ≡ length (registers_of s)
  pub numbers : (r : Reg) → NumbersIn s r → NumbersIn t r
  pub constants : (r : Reg) (x : ℕ) → IsJust (kind_of s r) x → IsJust (kind_of t r) x

numbers_with : (s : State) (r q : Reg) (c : Scalar) → NumbersIn s q
    → NumbersIn (with_register s r (Number c)) q
numbers_with s r q c number =
    elim (same_or_other q r) [
      | inl same ↦
          let here : NumbersIn s r = subst (NumbersIn s) same number in
          subst (NumbersIn (with_register s r (Number c))) (sym same)
          (kind_of-with_same IsNumberKind s r (Number c)
          (λ end. subst (NumbersIn s) end here) tt here)
      | inr other ↦ subst IsNumberKind (sym (kind_of-with_other s r q (Number c) other)) number
    ]

numbers_with_operand : (s : State) (source : Operand) (q : Reg) (c : Scalar) → NumbersIn s q
    → NumbersIn (with_operand s source c) q
numbers_with_operand s (Constant k) q c number = number
numbers_with_operand s (Register r) q c number = numbers_with s r q c number

room_with_operand : (s : State) (source : Operand) (c : Scalar)
    → length (registers_of (with_operand s source c)) ≡ length (registers_of s)
room_with_operand s (Constant k) c = refl
room_with_operand s (Register r) c = room-with s r (Number c)

pub Refines-remains : (c : Cond) (taken some : Bool) (s t : State) → AreCompared s c
    → Refines c taken s some t → Remains s t
Refines-remains c taken false s t compared h =
    subst (Remains s) (sym (h.never refl))
    (record {
      slot = refl;
      callers = refl;
      stack = refl;
      room = refl;
      numbers = λ r k. k;
      constants = λ r x k. k;
    })
Refines-remains c taken true s t compared h =
    let n = h.narrowed compared in
    let f = h.shown compared refl in
    let put = with_register s c.register (Number f.new_left) in
    record {
      slot = n.slot;
      callers = n.callers;
      stack = n.stack;
      room =
          ap (λ (x : State). length (registers_of x)) f.new
          ∙ room_with_operand put c.operand f.new_right
          ∙ room-with s c.register (Number f.new_left);
      numbers =
          λ r k. subst (λ x. NumbersIn x r) (sym f.new)
          (numbers_with_operand put c.operand r f.new_right
          (numbers_with s c.register r f.new_left k));
      constants = n.constants;
    }

-- ---- which successors there are

pub one_among : (w : Ways) (a b t : State) → w ≡ ways.One → IsAmong w a b t → t ≡ a
one_among w a b t one among = subst (λ x. IsAmong x a b t) one among

pub none_among : (w : Ways) (a b t : State) → w ≡ ways.None → IsAmong w a b t → ⊥
none_among w a b t none among = subst (λ x. IsAmong x a b t) none among

pub side_among : (stays goes : Bool) (stay go : State) (w : Ways) (a b t : State)
    (P : State → Type 0) → Sides stays goes stay go w a b → IsAmong w a b t → P stay → P go → P t
side_among true true stay go w a b t P sides among x y =
    elim (subst (λ v. IsAmong v a b t) sides.0 among) [
      | inl is ↦ subst P (sym (is ∙ sides.1)) x
      | inr is ↦ subst P (sym (is ∙ sides.2)) y
    ]
side_among true false stay go w a b t P sides among x y =
    subst P (sym (one_among w a b t sides.0 among ∙ sides.1)) x
side_among false true stay go w a b t P sides among x y =
    subst P (sym (one_among w a b t sides.0 among ∙ sides.1)) y
side_among false false stay go w a b t P sides among x y = absurd (none_among w a b t sides among)

-- ---- what is not refused

of_number_goes : (says : Scalar → Scalar → Type 0) (a : Kind) (e : Refusal) → IsNumberKind a
    → OfNumber says a (Err e) → ⊥
of_number_goes says (Number a) e own h = h
of_number_goes says a e own h = own

combined_goes : (s : State) (op : AluOp) (w : Width) (a b : Kind) (e : Refusal) → IsNumberKind a
    → IsNumberKind b → Combined s op w a b (Err e) → ⊥
combined_goes s op w a b e left right h =
    let (x, is) = number_is a left in
    let (y, is_too) = number_is b right in
    rw (is, is_too) at h

copied_goes : (w : Width) (b : Kind) (e : Refusal) → IsNumberKind b → Copied w b (Err e) → ⊥
copied_goes Full64 b e right h = absurd (cc h)
copied_goes Low32 b e right h = of_number_goes _ b e right h

arithmetic_goes : (s : State) (w : Width) (op : AluOp) (d : Reg) (source : Operand) (b : Kind)
    (e : Refusal) → Each (NumbersIn s) (alu_reads op d source)
    → OperandKind s w source b → Arithmetic s op w (kind_of s d) b (Err e) → ⊥
arithmetic_goes s w Mov d source b e set operand h =
    copied_goes w b e (operand_number s w source b set operand) h
arithmetic_goes s w op d source b e set operand h =
    combined_goes s op w (kind_of s d) b e set.0 (operand_number s w source b set.1 operand) h

abbrev pub IsNoExit : Insn → Type 0
IsNoExit Exit = ⊥
IsNoExit i = Unit {0}

-- no other form is refused
pub form_goes : (p : Program) (s : State) (i : Insn) (e : Refusal) (b c : State) → IsPlainForm i
    → IsNoExit i → Each (NumbersIn s) (needs i) → StepsForm p s i (Err e) b c → ⊥
form_goes p s (Alu w op d source) e b c plain goes set h =
    arithmetic_goes s w op d source h.0 e set h.1 h.2
form_goes p s (Neg w d) e b c plain goes set h = of_number_goes _ (kind_of s d) e set.0 h
form_goes p s (MovSx x d r) e b c plain goes set h = of_number_goes _ (kind_of s r) e set.0 h
form_goes p s (ByteSwap order span d) e b c plain goes set h =
    of_number_goes _ (kind_of s d) e set.0 h
form_goes p s (LoadNumber d n) e b c plain goes set h = absurd (cc (h.2))
form_goes p s (Jump by) e b c plain goes set h = absurd (cc (h.0))
form_goes p s (JumpLong by) e b c plain goes set h = absurd (cc (h.0))
form_goes p s (JumpIf cond by) e b c plain goes set h =
    let compared = are_compared s cond set in
    h.1 (defined_by s cond cond.operand compared.0 compared.1)
form_goes p s Exit e b c plain goes set h = absurd goes
form_goes p s i e b c plain goes set h = absurd plain

pub performs_goes : (p : Program) (s : State) (i : Insn) (e : Refusal) (b c : State) → IsPlainForm i
    → Each (NumbersIn s) (needs i) → depth s ≡ 1 → StepsForm p s i (Err e) b c
    → ShowsNoAction p.version e
performs_goes p s Exit e b c plain set one h =
    exit_goes p.version (length s.callers.items) s b e one set.0 h
performs_goes p s i e b c plain set one h = absurd (form_goes p s i e b c plain tt set h)

-- where the tests of the registers pass, the form's own decides
pub RefusesStep-performs : (p : Program) (s : State) (i : Insn) (e : Refusal) (P : Type 0)
    → register_refusal s i ≡ None → RefusesStep p s i e
    → ((b c : State) → StepsForm p s i (Err e) b c → P) → P
RefusesStep-performs p s i e P pass h goes =
    goes h.0 h.1 (subst (λ o. Tested o (Err e) (StepsForm p s i (Err e) h.0 h.1)) pass h.2)

-- a form on numbers is refused for nothing else
pub refused_unshown : (p : Program) (s : State) (i : Insn) (e : Refusal) → IsPlainForm i
    → Each (NumbersIn s) (needs i) → depth s ≡ 1 → register_refusal s i ≡ None → RefusesStep p s i e
    → ShowsNoAction p.version e
refused_unshown p s i e plain set one pass h =
    RefusesStep-performs p s i e (ShowsNoAction p.version e) pass h
    (λ b c performs. performs_goes p s i e b c plain set one performs)
