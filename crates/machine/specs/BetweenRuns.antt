-- The maps of a machine between runs: the row and the content of each, and the results of a
-- caller's look-ups, updates and deletes.
use Rattle.std.specs.Prelude.{◌≡◌, ℕ, Bool, List, [], Option, Some, None, is_some, slice_set, slice_index_or}
use Rattle.isa_model.specs.declared.map_defs.MapType.TheVariants.{Hash}
use Rattle.isa_model.specs.declared.map_defs.MapDef.{MapDef}
use Rattle.isa_model.specs.Machine.States.{KeyValues}
use Rattle.isa_model.specs.Machine.MapContents.{update_answer, delete_answer, after_update, after_delete}
use Rattle.isa_model.specs.Reporting.Reports.{in_report_order}
use Rattle.machine.specs.Running.{Running}

abbrev pub row_at : Running → ℕ → MapDef
row_at r m =
    slice_index_or r.program.maps m
    (record { kind = Hash; key_size = 0; value_size = 0; entries = 0 })

abbrev pub content_at : Running → ℕ → KeyValues
content_at r m = slice_index_or r.contents m []

-- the machine with another content of one map
abbrev pub with_content : Running → ℕ → KeyValues → Running
with_content r m content = record r { contents = slice_set r.contents m content }

-- the keys and values of a map in the order of the report
abbrev pub ordered_at : Running → ℕ → KeyValues
ordered_at r m = in_report_order (row_at r m).kind (row_at r m).entries (content_at r m)

-- the key or the value of a pair, or other bytes where there is none
abbrev pub key_or : Option (List ℕ × List ℕ) → List ℕ → List ℕ
key_or None bytes = bytes
key_or (Some pair) bytes = pair.0

abbrev pub value_or : Option (List ℕ × List ℕ) → List ℕ → List ℕ
value_or None bytes = bytes
value_or (Some pair) bytes = pair.1

-- an update of one map: 0, or the error of the first test that fails, and then nothing has changed
pub record AnswersUpdate (m : ℕ) (key value : List ℕ) (flags result : ℕ)
    (old new : Running) : Type 0 where
  pub answer : result ≡ update_answer (row_at old m) (content_at old m) key flags
  pub machine : new
      ≡ with_content old m (after_update (row_at old m) (content_at old m) key value flags)

-- a delete from one map, in the same way
pub record AnswersDelete (m : ℕ) (key : List ℕ) (result : ℕ) (old new : Running) : Type 0 where
  pub answer : result ≡ delete_answer (row_at old m) (content_at old m) key
  pub machine : new ≡ with_content old m (after_delete (row_at old m) (content_at old m) key)

-- a key and its value, if they are found, are copied to the caller's buffers; `copied` says whether
pub record CopiesKeyValue (found : Option (List ℕ × List ℕ)) (copied : Bool)
    (old_key new_key old_value new_value : List ℕ) : Type 0 where
  pub copied_is : copied ≡ is_some found
  pub key_is : new_key ≡ key_or found old_key
  pub value_is : new_value ≡ value_or found old_value
