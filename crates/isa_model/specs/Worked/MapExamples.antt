-- Worked examples of look-ups, updates and deletes of maps, computed from the definitions.
use Rattle.std.specs.Prelude.{◌≡◌, ℕ, pos, List, [], ◌∷◌, replicate, Some, None, refl}
use Rattle.isa_model.specs.declared.map_defs.MapType.TheVariants.{Hash, Array}
use Rattle.isa_model.specs.declared.map_defs.MapDef.{MapDef}
use Rattle.isa_model.specs.declared.values.Region.TheVariants as region
use Rattle.isa_model.specs.declared.values.Value.TheVariants.{Num, Ptr}
use Rattle.isa_model.specs.declared.values.Cell.TheVariants.{Byte}
use Rattle.isa_model.specs.Machine.States.{KeyValues, State, new_call_frame}
use Rattle.isa_model.specs.Machine.Memory.{region_cells}
use Rattle.isa_model.specs.Machine.MapContents.{update_answer, after_update, delete_answer, after_delete}
use Rattle.isa_model.specs.Machine.MapHelpers.{Helped, map_lookup_elem, map_update_elem, map_delete_elem}
use Rattle.isa_model.specs.Running.Runs.{start_state}

-- ---- changes of one map, one after the other

pub data MapChange : Type 0 where
  Update : List ℕ → List ℕ → ℕ → MapChange
  Delete : List ℕ → MapChange

abbrev pub answer_to : MapDef → KeyValues → MapChange → ℕ
answer_to row content (Update key value flags) = update_answer row content key flags
answer_to row content (Delete key) = delete_answer row content key

abbrev pub content_after : MapDef → KeyValues → MapChange → KeyValues
content_after row content (Update key value flags) = after_update row content key value flags
content_after row content (Delete key) = after_delete row content key

abbrev pub answers : MapDef → KeyValues → List MapChange → List ℕ
answers row content [] = []
answers row content (c ∷ cs) =
    answer_to row content c ∷ answers row (content_after row content c) cs

abbrev pub left_by : MapDef → KeyValues → List MapChange → KeyValues
left_by row content [] = content
left_by row content (c ∷ cs) = left_by row (content_after row content c) cs

-- map hash 1 1 1
abbrev pub one_key : MapDef
one_key = record { kind = Hash; key_size = 1; value_size = 1; entries = 1 }

abbrev pub update_k : ℕ → MapChange
update_k flags = Update (1 ∷ []) (7 ∷ []) flags

abbrev pub update_m : ℕ → MapChange
update_m flags = Update (2 ∷ []) (8 ∷ []) flags

abbrev pub delete_k : MapChange
delete_k = Delete (1 ∷ [])

-- two keys on a map with room for one: -2, -2, 0, -17, -7, -2, -22, 0, 0, 0
pub ten_changes : answers one_key []
    (delete_k ∷ update_k 2 ∷ update_k 0 ∷ update_k 1 ∷ update_m 0 ∷ update_m 2 ∷ update_m 3
    ∷ update_k 2 ∷ delete_k ∷ update_m 1 ∷ [])
    ≡ 0xfffffffffffffffe ∷ 0xfffffffffffffffe ∷ 0 ∷ 0xffffffffffffffef ∷ 0xfffffffffffffff9
    ∷ 0xfffffffffffffffe ∷ 0xffffffffffffffea ∷ 0 ∷ 0 ∷ 0 ∷ []
ten_changes = refl

-- keys are in the order of their bytes, and the value of a key that is there is
-- overwritten
pub keys_in_order : left_by (record one_key { key_size = 2; entries = 9 }) []
    (Update (1 ∷ 0 ∷ []) (5 ∷ []) 0 ∷ Update (0 ∷ 2 ∷ []) (6 ∷ []) 1
    ∷ Update (0 ∷ 9 ∷ []) (7 ∷ []) 0 ∷ Update (0 ∷ 2 ∷ []) (8 ∷ []) 2 ∷ Delete (0 ∷ 9 ∷ [])
    ∷ [])
    ≡ (0 ∷ 2 ∷ [], 8 ∷ []) ∷ (1 ∷ 0 ∷ [], 5 ∷ []) ∷ []
keys_in_order = refl

-- map array 4 8 1
abbrev pub one_index : MapDef
one_index = record { kind = Array; key_size = 4; value_size = 8; entries = 1 }

-- the key of an array that is this index
abbrev pub index : ℕ → List ℕ
index n = n ∷ 0 ∷ 0 ∷ 0 ∷ []

abbrev pub map_value : ℕ → List ℕ
map_value n = replicate 8 n

-- its content at the start
abbrev pub zero_filled : KeyValues
zero_filled = (index 0, map_value 0) ∷ []

-- past the end -7, with wrong flags -22 before that; index 0 by flags 0, 1, 2 and 3;
-- nothing is deleted
pub array_changes : answers one_index zero_filled
    (Update (index 1) (map_value 9) 1 ∷ Update (index 1) (map_value 9) 9
    ∷ Update (index 0) (map_value 9) 0 ∷ Update (index 0) (map_value 9) 1
    ∷ Update (index 0) (map_value 9) 2 ∷ Update (index 0) (map_value 9) 3
    ∷ Delete (index 0) ∷ Delete (index 1) ∷ [])
    ≡ 0xfffffffffffffff9 ∷ 0xffffffffffffffea ∷ 0 ∷ 0xffffffffffffffef ∷ 0 ∷ 0xffffffffffffffea
    ∷ 0xffffffffffffffea ∷ 0xffffffffffffffea ∷ []
array_changes = refl

-- ---- serials

-- at the start of a run on a packet of no bytes, with this content of map 0; its call frame has the
-- serial 0 or 1
abbrev pub before : KeyValues → State
before content = start_state (record { time = 0; interface = 0; queue = 0 }) [] (content ∷ [])

-- key 1 has the value 7, is deleted, and is put again with 8
abbrev pub found_first : Helped
found_first =
    map_lookup_elem (map_update_elem one_key (before []) 0 (1 ∷ []) (7 ∷ []) 0).state 0 (1 ∷ [])

abbrev pub deleted : Helped
deleted = map_delete_elem one_key found_first.state 0 (1 ∷ [])

abbrev pub found_again : Helped
found_again =
    map_lookup_elem (map_update_elem one_key deleted.state 0 (1 ∷ []) (8 ∷ []) 0).state 0 (1 ∷ [])

-- a look-up gives a pointer to the key's value, or 0
pub look_ups : found_first.answer ∷ (map_lookup_elem deleted.state 0 (1 ∷ [])).answer
    ∷ found_again.answer ∷ []
    ≡ Ptr (region.MapValue 0 1) (pos 0) ∷ Num 0 ∷ Ptr (region.MapValue 0 2) (pos 0) ∷ []
unfolding start_state new_call_frame
look_ups = refl

-- the value that was deleted is gone, also once its key is there again
pub deleted_value_stays_dead : region_cells found_first.state (region.MapValue 0 1)
    ∷ region_cells deleted.state (region.MapValue 0 1)
    ∷ region_cells found_again.state (region.MapValue 0 1)
    ∷ region_cells found_again.state (region.MapValue 0 2) ∷ []
    ≡ Some (Byte 7 ∷ []) ∷ None ∷ None ∷ Some (Byte 8 ∷ []) ∷ []
unfolding start_state new_call_frame
deleted_value_stays_dead = refl

-- a present key keeps its value's serial, and no serial is given
pub serial_kept_over_an_update : (map_lookup_elem
    (map_update_elem one_key found_first.state 0 (1 ∷ []) (9 ∷ []) 2).state 0 (1 ∷ [])).answer
    ∷ []
    ≡ Ptr (region.MapValue 0 1) (pos 0) ∷ []
unfolding start_state new_call_frame
serial_kept_over_an_update = refl

pub next_serials : (found_first.state).next_serial
    ∷ (map_update_elem one_key found_first.state 0 (1 ∷ []) (9 ∷ []) 2).state.next_serial
    ∷ found_again.state.next_serial ∷ []
    ≡ 2 ∷ 2 ∷ 3 ∷ []
unfolding start_state new_call_frame
next_serials = refl

-- an update that answers an error changes nothing: map array 4 8 1, past its end and with wrong
-- flags
pub failed_updates_change_nothing : (map_update_elem one_index (before zero_filled) 0 (index 1)
    (map_value 9) 1)
    ∷ (map_update_elem one_index (before zero_filled) 0 (index 1) (map_value 9) 9) ∷ []
    ≡ record { answer = Num 0xfffffffffffffff9; state = before zero_filled }
    ∷ record { answer = Num 0xffffffffffffffea; state = before zero_filled } ∷ []
unfolding start_state new_call_frame
failed_updates_change_nothing = refl
