-- The helpers on maps, in the machine's state. bpf(2); serials are this project's own. The map's
-- row and index, and the bytes of key and value, are given: the types of the arguments were tested,
-- and the bytes were read, before.
use Rattle.std.specs.Prelude.{ℕ, suc, ◌==◌, pos, if◌then◌else◌, List, slice_set, Option, Some, None}
use Rattle.isa_model.specs.declared.map_defs.MapDef.{MapDef}
use Rattle.isa_model.specs.declared.values.Region.TheVariants as region
use Rattle.isa_model.specs.declared.values.Value.{Value}
use Rattle.isa_model.specs.declared.values.Value.TheVariants.{Num, Ptr}
use Rattle.isa_model.specs.Machine.States.{Stored, Content, State, content_of}
use Rattle.isa_model.specs.Machine.MapContents.{at_key, with_key, without_key, update_answer, delete_answer}

-- a helper's answer, and the state that it leaves
pub record Helped : Type 0 where
  pub answer : Value
  pub state : State

abbrev pub with_content : State → ℕ → Content → State
with_content s m content = record s { maps = slice_set s.maps m content }

-- ---- serials

-- a key that was there keeps its serial, and a new one gets the next
abbrev pub serial_given : ℕ → Option Stored → ℕ
serial_given next (Some old) = old.serial
serial_given next None = next

abbrev pub serial_after : ℕ → Option Stored → ℕ
serial_after next (Some old) = next
serial_after next None = suc next

-- ---- the changes of the maps, after all tests have passed

-- these bytes become the value of the key
abbrev pub put_bytes : State → ℕ → List ℕ → List ℕ → State
put_bytes s m key bytes =
    let content = content_of s m in
    let old = at_key key content in
    let new : Stored = record { serial = serial_given s.next_serial old; bytes = bytes } in
    record s {
      maps = slice_set s.maps m (with_key key new content);
      next_serial = serial_after s.next_serial old;
    }

-- the key is removed, and its value's serial with it
abbrev pub remove_key : State → ℕ → List ℕ → State
remove_key s m key = with_content s m (without_key key (content_of s m))

-- ---- the helpers

abbrev pub pointer_or_zero : ℕ → Option Stored → Value
pointer_or_zero m (Some stored) = Ptr (region.MapValue m stored.serial) (pos 0)
pointer_or_zero m None = Num 0

-- map_lookup_elem: a pointer to the key's value, or 0
abbrev pub map_lookup_elem : State → ℕ → List ℕ → Helped
map_lookup_elem s m key =
    record { answer = pointer_or_zero m (at_key key (content_of s m)); state = s }

-- map_update_elem: 0 or an error
abbrev pub map_update_elem : MapDef → State → ℕ → List ℕ → List ℕ → ℕ → Helped
map_update_elem row s m key bytes flags =
    let answer = update_answer row (content_of s m) key flags in
    record { answer = Num answer; state = if answer == 0 then put_bytes s m key bytes else s }

-- map_delete_elem: 0 or an error
abbrev pub map_delete_elem : MapDef → State → ℕ → List ℕ → Helped
map_delete_elem row s m key =
    let answer = delete_answer row (content_of s m) key in
    record { answer = Num answer; state = if answer == 0 then remove_key s m key else s }
