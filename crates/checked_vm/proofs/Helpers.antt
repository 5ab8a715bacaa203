-- Calls of helpers: the registers that they keep, their answers, and the maps after them.
use Rattle.checked_vm.proofs.Common.{◌≡◌, ℕ, suc, ◌<◌, ◌==◌, Bool, true, false, if◌then◌else◌, List, [], ◌∷◌, drop, length, pos, Option, Some, None, Result, Ok, sym, ap, ◌∙◌, arith, drop-cons, option_map, TrapReason, Program, Stored, State, value_at, reg, and_then, update_answer, delete_answer, MapArgument, map_argument, BytesArgument, bytes_argument, number_argument, bytes_at, lookup_call, update_call, delete_call, Live, content_at, with_bytes, without, Core, state_of}
use Rattle.std.specs.Prelude.{refl}
use Rattle.std.proofs.Math.ListN.{drop_of_length-le}
use Rattle.isa_model.specs.declared.registers.Reg.TheVariants.{R1, R2, R3, R4}
use Rattle.isa_model.specs.declared.map_defs.MapDef.{MapDef}
use Rattle.isa_model.specs.declared.values.Value.{Value}
use Rattle.isa_model.specs.declared.values.Value.TheVariants.{Unset, Num, Ptr}
use Rattle.isa_model.specs.declared.values.Region.TheVariants.{MapValue}
use Rattle.isa_model.specs.Machine.MapHelpers.{Helped, map_lookup_elem, map_update_elem, map_delete_elem, put_bytes, remove_key, pointer_or_zero}

-- the registers from r6 on
pub last_registers : (regs : List Value) → length regs ≡ 11
    → drop 6 regs
    ≡ value_at regs 6 ∷ value_at regs 7 ∷ value_at regs 8 ∷ value_at regs 9 ∷ value_at regs 10 ∷ []
last_registers regs long =
    let more : (j : ℕ) → j < 11 → drop j regs ≡ value_at regs j ∷ drop (suc j) regs =
    λ j below. drop-cons regs j Unset (omega arith) in
    let none : drop 11 regs ≡ [] = drop_of_length-le regs {i = 11} (omega arith) in
    rw (
      more 6 (omega arith),
      more 7 (omega arith),
      more 8 (omega arith),
      more 9
          (omega arith),
      more 10 (omega arith),
      none,
    )

-- a result that is no trap, and what comes after it
after_ok : {A B : Type 0} (r : Result A TrapReason) (a : A) (go : A → Result B TrapReason)
    → r ≡ Ok a → and_then r go ≡ go a
after_ok r a go e = rw e refl

-- a look-up whose arguments are right
pub looks_up : (p : Program) (s : State) (m : MapArgument) (at : BytesArgument) (n : ℕ)
    (key : List ℕ) → map_argument p (reg s R1) ≡ Ok m → bytes_argument (reg s R2) ≡ Ok at
    → n ≡ m.row.key_size → bytes_at s at n ≡ Ok key
    → lookup_call p s ≡ Ok (map_lookup_elem s m.index key)
looks_up p s m at n key map_is at_is size key_is =
    let there : bytes_at s at m.row.key_size ≡ Ok key = ap (bytes_at s at) (sym size) ∙ key_is in
    after_ok _ m _ map_is ∙ after_ok _ at _ at_is ∙ after_ok _ key _ there

-- the answer of a look-up, from the serial that was found
pub found_key : (m : ℕ) (o : Option Stored) (n : ℕ) → Some n ≡ option_map (λ v. v.serial) o
    → pointer_or_zero m o ≡ Ptr (MapValue m n) (pos 0)
found_key m (Some v) n e = let same : n ≡ v.serial = cc in rw same refl
found_key m None n e = absurd cc

pub no_key : (m : ℕ) (o : Option Stored) → None ≡ option_map (λ v. v.serial) o
    → pointer_or_zero m o ≡ Num 0
no_key m (Some v) e = absurd cc
no_key m None e = refl

-- a delete whose arguments are right
pub deletes : (p : Program) (s : State) (m : MapArgument) (at : BytesArgument) (n : ℕ)
    (key : List ℕ) → map_argument p (reg s R1) ≡ Ok m → bytes_argument (reg s R2) ≡ Ok at
    → n ≡ m.row.key_size → bytes_at s at n ≡ Ok key
    → delete_call p s ≡ Ok (map_delete_elem m.row s m.index key)
deletes p s m at n key map_is at_is size key_is =
    let there : bytes_at s at m.row.key_size ≡ Ok key = ap (bytes_at s at) (sym size) ∙ key_is in
    after_ok _ m _ map_is ∙ after_ok _ at _ at_is ∙ after_ok _ key _ there

-- an update whose arguments are right
pub updates : (p : Program) (s : State) (m : MapArgument) (at source : BytesArgument)
    (flags n k : ℕ) (key bytes : List ℕ) → map_argument p (reg s R1) ≡ Ok m
    → bytes_argument (reg s R2) ≡ Ok at → bytes_argument (reg s R3) ≡ Ok source
    → number_argument (reg s R4) ≡ Ok flags
    → n ≡ m.row.key_size → bytes_at s at n ≡ Ok key → k ≡ m.row.value_size
    → bytes_at s source k ≡ Ok bytes
    → update_call p s ≡ Ok (map_update_elem m.row s m.index key bytes flags)
updates p s m at source flags n k key bytes map_is at_is source_is flags_are size key_is same_size
    bytes_are =
    let there : bytes_at s at m.row.key_size ≡ Ok key = ap (bytes_at s at) (sym size) ∙ key_is in
    let bytes_there : bytes_at s source m.row.value_size ≡ Ok bytes =
    ap (bytes_at s source) (sym same_size) ∙ bytes_are in
    after_ok _ m _ map_is ∙ after_ok _ at _ at_is ∙ after_ok _ source _ source_is
    ∙ after_ok _ flags _ flags_are ∙ after_ok _ key _ there ∙ after_ok _ bytes _ bytes_there

-- what a delete answers and leaves
pub deleted : (core : Core) (packet : List ℕ) (row : MapDef) (m : ℕ) (key : List ℕ) (answer : ℕ)
    (maps : Live) → answer ≡ delete_answer row (content_at core.maps m) key
    → maps ≡ (if answer == 0 then without core.maps m key else core.maps)
    → map_delete_elem row (state_of core packet) m key
    ≡ record { answer = Num answer; state = state_of (record core { maps = maps }) packet }
deleted core packet row m key answer maps answer_is maps_are =
    rw (maps_are, answer_is)
    (by (delete_answer row (content_at core.maps m) key)
    (delete_answer row (content_at core.maps m) key == 0))
  where
    by : (answer : ℕ) (done : Bool)
        → ◌≡◌ {A = Helped}
        (record {
          answer = Num answer;
          state = if done then remove_key (state_of core packet) m key
              else state_of core packet;
        })
        (record {
          answer = Num answer;
          state = state_of
              (record core { maps = if done then without core.maps m key else core.maps }) packet;
        })
    by answer true = refl
    by answer false = refl

-- what an update answers and leaves
pub updated : (core : Core) (packet : List ℕ) (row : MapDef) (m : ℕ) (key bytes : List ℕ)
    (flags answer : ℕ) (maps : Live) → answer ≡ update_answer row (content_at core.maps m) key flags
    → maps ≡ (if answer == 0 then with_bytes core.maps m key bytes else core.maps)
    → map_update_elem row (state_of core packet) m key bytes flags
    ≡ record { answer = Num answer; state = state_of (record core { maps = maps }) packet }
updated core packet row m key bytes flags answer maps answer_is maps_are =
    rw (maps_are, answer_is)
    (by (update_answer row (content_at core.maps m) key flags)
    (update_answer row (content_at core.maps m) key flags == 0))
  where
    by : (answer : ℕ) (done : Bool)
        → ◌≡◌ {A = Helped}
        (record {
          answer = Num answer;
          state = if done
              then put_bytes (state_of core packet) m key bytes else state_of core packet;
        })
        (record {
          answer = Num answer;
          state = state_of
              (record core { maps = if done then with_bytes core.maps m key bytes else core.maps })
              packet;
        })
    by answer true = refl
    by answer false = refl
