-- The instruction or the map row that the tokens of a statement spell, or the first thing from the
-- left that is wrong with them.
use Rattle.std.specs.Prelude.{ℕ, ◌+◌, ◌^◌, ◌==◌, Bool, true, false, if◌then◌else◌, ℤ, pos, List, length, slice_get, Option, Some, None, Result, Ok, Err}
use Rattle.isa_model.specs.declared.registers.Reg.{Reg}
use Rattle.isa_model.specs.declared.registers.Reg.TheVariants.{R0}
use Rattle.isa_model.specs.declared.sizes.Width.{Width}
use Rattle.isa_model.specs.declared.sizes.Width.TheVariants.{Low32, Full64}
use Rattle.isa_model.specs.declared.sizes.Size.{Size}
use Rattle.isa_model.specs.declared.sizes.SwapWidth.{SwapWidth}
use Rattle.isa_model.specs.declared.sizes.ByteOrder.{ByteOrder}
use Rattle.isa_model.specs.declared.instructions.AluOp.{AluOp}
use Rattle.isa_model.specs.declared.instructions.AluOp.TheVariants as op
use Rattle.isa_model.specs.declared.instructions.AtomicOp.{AtomicOp}
use Rattle.isa_model.specs.declared.instructions.Operand.{Operand}
use Rattle.isa_model.specs.declared.instructions.Place.{Place}
use Rattle.isa_model.specs.declared.instructions.Insn.{Insn}
use Rattle.isa_model.specs.declared.instructions.Insn.TheVariants as insn
use Rattle.isa_model.specs.declared.map_defs.MapDef.{MapDef}
use Rattle.assembler.specs.declared.tokens.Word.{Word}
use Rattle.assembler.specs.declared.tokens.Word.TheVariants as word
use Rattle.assembler.specs.declared.tokens.Sign.TheVariants as sign
use Rattle.assembler.specs.declared.tokens.Token.{Token}
use Rattle.assembler.specs.declared.tokens.Token.TheVariants.{Named, Number, Signed}
use Rattle.assembler.specs.declared.readings.Reading.{Reading}
use Rattle.assembler.specs.declared.wrong.Wrong.{Wrong}
use Rattle.assembler.specs.declared.wrong.Wrong.TheVariants.{Form}
use Rattle.assembler.specs.Operands.{◌>>=◌, keep, token_at, sign_at, number_at, word_at, expect_at, op_of, atomic_op_of, comparison_of, width_of, extension_of, wide_within, signed_at, constant_at, same_register, as_register, register_at, again_at, operand_at, memory_at, argument_at, as_size, as_signed_size, target_at, field_at, as_map_type, index_at, by_index_at}

-- the instruction of a statement without a name that ends before index n
abbrev pub plain : Insn → List Token → ℕ → Result Reading Wrong
plain i ts n = keep (length ts == n) (record { insn = i; name = None })

abbrev pub arithmetic : AluOp → Width → Reg → List Token → Result Reading Wrong
arithmetic o w d ts = operand_at w ts 2 >>= λ (x : Operand × ℕ). plain (insn.Alu w o d x.0) ts x.1

abbrev pub is_wide : Option Token → Bool
is_wide (Some (Named word.Wide)) = true
is_wide x = false

-- `ll` at index i
abbrev pub wide_at : List Token → ℕ → Bool
wide_at ts i = is_wide (slice_get ts i)

abbrev pub is_full : Width → Bool
is_full Full64 = true
is_full Low32 = false

-- a number at index i and `ll`
abbrev pub wide : Width → Reg → List Token → Bool → ℕ → Result Reading Wrong
wide w d ts minus i =
    if is_full w then (number_at ts i >>= wide_within 2 minus >>= λ n. plain
    (insn.LoadNumber d n) ts (i + 2)) else Err Form

-- a number at index i, with or without `ll`
abbrev pub number_or_wide : Width → Reg → List Token → Bool → ℕ → Result Reading Wrong
number_or_wide w d ts minus i =
    if wide_at ts (i + 1) then wide w d ts minus i else arithmetic op.Mov w d ts

-- what follows `R = -`
abbrev pub negated : Width → Reg → List Token → Token → Result Reading Wrong
negated w d ts (Named x) = again_at w d ts 3 >>= λ u. plain (insn.Neg w d) ts 4
negated w d ts t = number_or_wide w d ts true 3

-- ( size ) R
abbrev pub extended : Width → Reg → List Token → Result Reading Wrong
extended w d ts =
    word_at ts 3 >>= as_signed_size >>= extension_of w >>= λ e. expect_at ts 4 sign.Close >>= λ u.
    register_at w ts 5 >>= λ s. plain (insn.MovSx e d s) ts 6

abbrev pub load_of : Reg → Place → Word → Result Insn Wrong
load_of d p (word.Unsigned size) = Ok (insn.Load size d p)
load_of d p (word.SignExtended size) = Ok (insn.LoadSx size d p)
load_of d p x = Err Form

abbrev pub loaded : Width → Reg → List Token → Result Reading Wrong
loaded w d ts = if is_full w
    then (memory_at ts 2 >>= λ (m : Word × Place). load_of d m.1 m.0 >>= λ i. plain i ts 12)
    else Err Form

abbrev pub swapped : ByteOrder → SwapWidth → Reg → List Token → Result Reading Wrong
swapped order bits d ts = again_at Full64 d ts 3 >>= λ u. plain (insn.ByteSwap order bits d) ts 4

-- (P, R) after a word, where R is the destination again
abbrev pub exchanged_place : Reg → List Token → Result Place Wrong
exchanged_place d ts = argument_at ts 3 >>= λ p. again_at Full64 d ts 8
    >>= λ u. expect_at ts 9 sign.Close >>= λ v. Ok p

abbrev pub fetched : AtomicOp → Width → Reg → List Token → Result Reading Wrong
fetched o v d ts = exchanged_place d ts >>= λ p. plain (insn.Atomic v o true p d) ts 10

abbrev pub exchanged : Width → Reg → List Token → Result Reading Wrong
exchanged v d ts = exchanged_place d ts >>= λ p. plain (insn.Exchange v p d) ts 10

-- (P, r0, R)
abbrev pub compared : Width → Reg → List Token → Result Reading Wrong
compared v d ts =
    if same_register d R0
    then (argument_at ts 3 >>= λ p. again_at Full64 R0 ts 8 >>= λ a. expect_at ts 9 sign.Comma >>=
    λ b.
    register_at Full64 ts 10 >>= λ s. expect_at ts 11 sign.Close >>= λ c. plain
    (insn.CompareExchange v p s) ts 12)
    else Err Form

-- (n) after `R = map_by_idx`
abbrev pub map_loaded : Reg → List Token → Result Reading Wrong
map_loaded d ts = index_at ts 3 >>= λ m. plain (insn.LoadMap d m) ts 6

-- (map_by_idx(n)) + n after `R = map_val`
abbrev pub map_value_loaded : Reg → List Token → Result Reading Wrong
map_value_loaded d ts =
    expect_at ts 3 sign.Open >>= λ a. by_index_at ts 4 >>= λ m. expect_at ts 8 sign.Close >>= λ b.
    expect_at ts 9 sign.Plus >>= λ c.
    field_at 4294967295 ts 10 >>= λ offset. plain (insn.LoadMapValue d m offset) ts 11

-- what begins with a word after `R =`
abbrev pub moved_word : Width → Reg → List Token → Word → Result Reading Wrong
moved_word Full64 d ts (word.Swapped order bits) = swapped order bits d ts
moved_word Full64 d ts (word.Fetch o v) = fetched o v d ts
moved_word Full64 d ts (word.Exchange v) = exchanged v d ts
moved_word Full64 d ts (word.CompareExchange v) = compared v d ts
moved_word Full64 d ts word.MapByIndex = map_loaded d ts
moved_word Full64 d ts word.MapValue = map_value_loaded d ts
moved_word w d ts x = arithmetic op.Mov w d ts

-- what follows `R =`
abbrev pub moved : Width → Reg → List Token → Token → Result Reading Wrong
moved w d ts (Number n) = number_or_wide w d ts false 2
moved w d ts (Named x) = moved_word w d ts x
moved w d ts (Signed sign.Minus) = token_at ts 3 >>= negated w d ts
moved w d ts (Signed sign.Open) = extended w d ts
moved w d ts (Signed sign.Star) = loaded w d ts
moved w d ts (Signed s) = Err Form

abbrev pub assigned_by : AluOp → Width → Reg → List Token → Result Reading Wrong
assigned_by op.Mov w d ts = token_at ts 2 >>= moved w d ts
assigned_by o w d ts = arithmetic o w d ts

-- R and an assigning sign
abbrev pub assigned : Width → Reg → List Token → Result Reading Wrong
assigned w d ts = sign_at ts 1 >>= op_of >>= λ o. assigned_by o w d ts

-- what is stored after `*(size *)(P) =`
abbrev pub stored_token : Size → Place → List Token → Token → Result Reading Wrong
stored_token size p ts (Named x) = as_register Full64 x >>= λ s. plain (insn.Store size p s) ts 12
stored_token size p ts t =
    constant_at ts 11 >>= λ (k : ℤ × ℕ). plain (insn.StoreConstant size p k.0) ts k.1

abbrev pub stored : List Token → Result Reading Wrong
stored ts =
    memory_at ts 0 >>= λ (m : Word × Place). as_size m.0 >>= λ size. expect_at ts 10 sign.Assign >>=
    λ u.
    token_at ts 11 >>= stored_token size m.1 ts

abbrev pub locked : List Token → Result Reading Wrong
locked ts =
    memory_at ts 1 >>= λ (m : Word × Place). as_size m.0 >>= width_of >>= λ w. sign_at ts 11 >>=
    atomic_op_of >>= λ o.
    register_at Full64 ts 12 >>= λ s. plain (insn.Atomic w o false m.1 s) ts 13

abbrev pub jump : List Token → Result Reading Wrong
jump ts = target_at (2 ^ 15) ts 1
    >>= λ (t : ℤ × Option ℕ). Ok (record { insn = insn.Jump t.0; name = t.1 })

abbrev pub long_jump : List Token → Result Reading Wrong
long_jump ts = target_at (2 ^ 31) ts 1
    >>= λ (t : ℤ × Option ℕ). Ok (record { insn = insn.JumpLong t.0; name = t.1 })

abbrev pub is_goto : Word → Bool
is_goto word.Goto = true
is_goto x = false

-- goto and a target, from index i on
abbrev pub goto_at : List Token → ℕ → Result (ℤ × Option ℕ) Wrong
goto_at ts i = word_at ts i >>= λ x. if is_goto x then target_at (2 ^ 15) ts (i + 1) else Err Form

-- what follows `if R`
abbrev pub condition : Width → Reg → List Token → Result Reading Wrong
condition w d ts =
    sign_at ts 2 >>= comparison_of >>= λ c. operand_at w ts 3
    >>= λ (x : Operand × ℕ). goto_at ts x.1 >>= λ (t : ℤ × Option ℕ).
    Ok (record {
      insn = insn.JumpIf
          (record { width = w; comparison = c; register = d; operand = x.0 }) t.0;
      name = t.1;
    })

abbrev pub tested : List Token → Word → Result Reading Wrong
tested ts (word.Register w d) = condition w d ts
tested ts x = Err Form

-- a word after `call`: pc and a distance, or a name
abbrev pub called_word : List Token → Word → Result Reading Wrong
called_word ts word.Pc = signed_at (2 ^ 31) ts 2 >>= λ by. plain (insn.CallLocal by) ts 4
called_word ts x = keep (length ts == 2) (record { insn = insn.CallLocal (pos 0); name = Some 1 })

-- what follows `call`: a word, or the number of a helper
abbrev pub called : List Token → Token → Result Reading Wrong
called ts (Named x) = called_word ts x
called ts t = constant_at ts 1 >>= λ (k : ℤ × ℕ). plain (insn.CallHelper k.0) ts k.1

abbrev pub by_word : List Token → Word → Result Reading Wrong
by_word ts (word.Register w d) = assigned w d ts
by_word ts word.If = word_at ts 1 >>= tested ts
by_word ts word.Goto = jump ts
by_word ts word.GotoLong = long_jump ts
by_word ts word.Call = token_at ts 1 >>= called ts
by_word ts word.Exit = plain insn.Exit ts 1
by_word ts word.Lock = locked ts
by_word ts x = Err Form

abbrev pub by_token : List Token → Token → Result Reading Wrong
by_token ts (Named x) = by_word ts x
by_token ts (Signed sign.Star) = stored ts
by_token ts (Signed s) = Err Form
by_token ts (Number n) = Err Form

unfoldable pub reading_of : List Token → Result Reading Wrong
reading_of ts = token_at ts 0 >>= by_token ts

-- `map`, a map type, a key size, a value size and max_entries
abbrev pub map_line : List Token → Result MapDef Wrong
map_line ts =
    word_at ts 1 >>= as_map_type >>= λ kind. field_at 65535 ts 2 >>= λ key_size.
    field_at 4294967295 ts 3 >>= λ value_size. field_at 4294967295 ts 4 >>= λ entries.
    keep (length ts == 5)
    (record { kind = kind; key_size = key_size; value_size = value_size; entries = entries })
